use Rattle.std.proofs.Common.{◌≡◌, ◌+◌, ◌-◌, ◌/◌, ◌<◌, ◌≤◌, ◌∙◌, ap, sym, subst, length, get_or, true, false, arith, below_more}
use Rattle.std.specs.Ordering.{is_lt}
use Rattle.std.proofs.Math.Nat.{mul-le-mul_left}
use Rattle.mark_tree.specs.declared.entry.Placed.{Placed}
use Rattle.mark_tree.specs.Order.{placed_le, key_le, key_of}
use Rattle.mark_tree.proofs.Finding.{steps-more, above-before, halved}
use Rattle.mark_tree.proofs.Moved.{places-in_order}
use Rattle.mark_tree.proofs.KeyPlaces.{key_le-before, key_le-from_place, key_le-next}
use Rattle.mark_tree.proofs.Order.{key_le-from, key_le-trans, not_key_le-from, key_cmp, sorted-placed}
use Rattle.mark_tree.proofs.spaced.Spaced.place_for.Goals as goal

pub loop-low-init : goal.loop-low-init
loop-low-init g c =
    let key = c.args.key in
    let things = c.args.self.now in
    let low = c.next_at-next.result.place in
    let high = c.first_at-high.result in
    record {
      order = places-in_order key.offset key.offset things low high (omega arith) c.next_at-next.ensures.within c.next_at-next.ensures.before c.first_at-high.ensures.from;
      within = c.first_at-high.ensures.within;
      less = λ k d lt. key_le-before key things low c.next_at-next.ensures.within c.next_at-next.ensures.before k d lt;
      not_less = λ d lt. key_le-from_place key things high c.first_at-high.ensures.from d lt;
      left = 32;
      few = omega arith;
      narrow = omega (arith, c.first_at-high.type_inv);
      counted = omega (arith, c.next_at-next.ensures.counted, c.first_at-high.ensures.counted);
      steps = λ h few. omega (arith, c.next_at-next.ensures.steps h few, c.first_at-high.ensures.steps h few);
    }

pub loop-low-preserved : goal.loop-low-preserved
loop-low-preserved g c =
    let low = c.loop-low.low in
    let high = c.loop-low.high in
    let middle = low + (high - low) / 2 in
    let left = c.loop-low.invariant.left in
    let next = halved (high - low) left (omega (arith, c.loop-low-test.true)) c.loop-low.invariant.narrow in
    record {
      order = omega arith;
      within = omega (arith, c.loop-low-test.true, c.loop-low.invariant.within);
      less = c.loop-low.invariant.less;
      not_less = λ d lt. key_le-from c.args.key (key_of (get_or c.args.self.now middle d))
          (subst (λ k. is_lt (key_cmp k c.args.key) ≡ false) (c.key_at.ensures.key d) (ap is_lt (sym c.cmp.ensures) ∙ sym c.is_lt-is_less.ensures ∙ c.if-is_less.false));
      left = left - 1;
      few = omega (arith, c.loop-low.invariant.few);
      narrow = omega (arith, next.1);
      counted = omega arith;
      steps = λ h few. steps-more (h + 1) (34 - left) (34 - (left - 1)) c.args.steps.now c.loop-low.steps c.key_at.new.steps (omega (arith, next.0, c.loop-low.invariant.few)) (c.loop-low.invariant.steps h few) (c.key_at.ensures.steps h few);
    }

pub loop-low-preserved-then-is_less : goal.loop-low-preserved-then-is_less
loop-low-preserved-then-is_less g c =
    let low = c.loop-low.low in
    let high = c.loop-low.high in
    let middle = low + (high - low) / 2 in
    let left = c.loop-low.invariant.left in
    let next = halved (high - low) left (omega (arith, c.loop-low-test.true)) c.loop-low.invariant.narrow in
    let within : middle < length c.args.self.now = omega (arith, c.loop-low-test.true, c.loop-low.invariant.within) in
    let here : (d : Placed g.row.P.Denot) → key_le c.args.key (key_of (get_or c.args.self.now middle d)) ≡ false =
    λ d. not_key_le-from c.args.key (key_of (get_or c.args.self.now middle d))
    (subst (λ k. is_lt (key_cmp k c.args.key) ≡ true) (c.key_at.ensures.key d) (ap is_lt (sym c.cmp.ensures) ∙ sym c.is_lt-is_less.ensures ∙ c.if-is_less.true)) in
    record {
      order = omega (arith, c.loop-low-test.true);
      within = c.loop-low.invariant.within;
      less = λ k d lt. below_more (λ n. key_le c.args.key (key_of (get_or c.args.self.now n d)) ≡ false) middle
          (above-before placed_le (λ j p. key_le j (key_of p)) (λ j p q. key_le-trans j (key_of p) (key_of q)) c.args.key c.args.self.now (sorted-placed c.args.self.now c.requires.ordered.sorted) middle d within (here d)) (here d) k lt;
      not_less = c.loop-low.invariant.not_less;
      left = left - 1;
      few = omega (arith, c.loop-low.invariant.few);
      narrow = omega (arith, next.1);
      counted = omega arith;
      steps = λ h few. steps-more (h + 1) (34 - left) (34 - (left - 1)) c.args.steps.now c.loop-low.steps c.key_at.new.steps (omega (arith, next.0, c.loop-low.invariant.few)) (c.loop-low.invariant.steps h few) (c.key_at.ensures.steps h few);
    }

pub returns-then-ne-clause-place : goal.returns-then-ne-clause-place
returns-then-ne-clause-place g c =
    let key = c.args.key in
    let things = c.args.self.now in
    let next = c.next_at-next.result in
    record {
      within = c.next_at-next.ensures.within;
      before = λ k d lt. key_le-before key things next.place c.next_at-next.ensures.within c.next_at-next.ensures.before k d lt;
      from = λ d lt. key_le-next key things next.place next.offset c.next_at-next.ensures.from c.next_at-next.ensures.offset (sym c.ne.ensures ∙ c.if-ne.true) d lt;
    }

pub returns-clause-place : goal.returns-clause-place
returns-clause-place g c =
    let turn : c.loop-low.high ≡ c.loop-low.low = omega (arith, c.loop-low-test.false, c.loop-low.invariant.order) in
    record {
      within = omega (arith, c.loop-low.invariant.order, c.loop-low.invariant.within);
      before = λ k d lt. c.loop-low.invariant.less k d lt;
      from = λ d lt. subst (λ n. key_le c.args.key (key_of (get_or c.args.self.now n d)) ≡ true) turn (c.loop-low.invariant.not_less d (omega (arith, lt, turn)));
    }

pub returns-clause-steps : goal.returns-clause-steps
returns-clause-steps g c h few =
    let spent = c.loop-low.invariant.steps h few in
    let most : 34 - c.loop-low.invariant.left ≤ 34 = omega arith in
    omega (arith, spent, mul-le-mul_left (h + 1) most)
