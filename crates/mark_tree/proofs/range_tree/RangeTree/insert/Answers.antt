use Rattle.std.proofs.Common.{◌≡◌, ◌+◌, ◌-◌, ◌*◌, ◌≤◌, ◌∙◌, ap, sym, subst, refl, length, map, false, IfErr, OnOk, OnErr, arith}
use Rattle.std.specs.List.{All, list_any}
use Rattle.cell_units.specs.declared.fault.Refusal.TheVariants.{IdInUse}
use Rattle.cell_units.specs.declared.place.Bias.TheVariants.{Right}
use Rattle.cell_units.specs.Sorting.{insert_by}
use Rattle.sum_core.specs.declared.load.NoLoad.{NoLoad}
use Rattle.mark_tree.specs.declared.entry.Placed.{Placed}
use Rattle.mark_tree.specs.Marks.{IsRefusedFor}
use Rattle.mark_tree.specs.Ranges.{range_le, has_range_id}
use Rattle.mark_tree.specs.Order.{placed_le}
use Rattle.mark_tree.specs.RangeViews.{range_of, IsRange}
use Rattle.mark_tree.proofs.RangeViewed.{insert-range, any-range, ranges-added}
use Rattle.mark_tree.proofs.Moved.{length-map}
use Rattle.mark_tree.proofs.Splicing.{either}
use Rattle.mark_tree.proofs.range_tree.RangeTree.insert.Goals as goal
use Rattle.mark_tree.proofs.range_tree.RangeTree.insert.Goals.{in-Ok, in-Err}

pub add-requires-clause-ordered : goal.add-requires-clause-ordered
add-requires-clause-ordered c = c.self.invariant.ordered

pub invariant_of-self : goal.invariant_of-self
invariant_of-self c =
    let ps = c.self.inside.ranges in
    let p : Placed NoLoad = record { offset = c.args.range.start; bias = Right; length = c.args.range.end - c.args.range.start; id = c.args.range.id; load = record {} } in
    let some : IsRange p = record { right = refl; some = omega arith } in
    record {
      each = either (All IsRange) c.add.result c.add.new.self (insert_by placed_le p ps) ps c.add.ensures.ok c.add.ensures.unchanged (ranges-added p ps some c.self.invariant.each) c.self.invariant.each;
      ordered = c.add.ensures.ordered;
    }

pub returns-clause-ok : goal.returns-clause-ok
returns-clause-ok c =
    let ps = c.self.inside.ranges in
    let p : Placed NoLoad = record { offset = c.args.range.start; bias = Right; length = c.args.range.end - c.args.range.start; id = c.args.range.id; load = record {} } in
    let some : IsRange p = record { right = refl; some = omega arith } in
    let end : c.args.range.start + (c.args.range.end - c.args.range.start) ≡ c.args.range.end = omega arith in
    let X : Type 0 = map range_of c.add.new.self ≡ insert_by range_le c.args.range c.args.self.now in
    elim c.match-add.branch [
      | in-Ok w ↦ subst (λ r. OnOk r X) (sym w.result-is)
          (ap (map range_of) w.in-Ok.ensures.ok
          ∙ insert-range p ps some c.self.invariant.each
          ∙ (λ i. insert_by range_le (record { start = c.args.range.start; end = end i; id = c.args.range.id }) (map range_of ps))
          ∙ ap (insert_by range_le c.args.range) c.self.view_is)
      | in-Err w ↦ subst (λ r. OnOk r X) (sym w.result-is) tt
    ]

pub returns-clause-fresh : goal.returns-clause-fresh
returns-clause-fresh c =
    let same = any-range c.args.range.id c.self.inside.ranges ∙ ap (list_any (has_range_id c.args.range.id)) c.self.view_is in
    let X : Type 0 = list_any (has_range_id c.args.range.id) c.args.self.now ≡ false in
    elim c.match-add.branch [
      | in-Ok w ↦ subst (λ r. OnOk r X) (sym w.result-is) (sym same ∙ w.in-Ok.ensures.fresh)
      | in-Err w ↦ subst (λ r. OnOk r X) (sym w.result-is) tt
    ]

pub returns-clause-refused : goal.returns-clause-refused
returns-clause-refused c =
    let cause = any-range c.args.range.id c.self.inside.ranges ∙ ap (list_any (has_range_id c.args.range.id)) c.self.view_is in
    elim c.match-add.branch [
      | in-Ok w ↦ subst (λ r. IfErr r (IsRefusedFor IdInUse (list_any (has_range_id c.args.range.id) c.args.self.now))) (sym w.result-is) tt
      | in-Err w ↦ subst (λ r. IfErr r (IsRefusedFor IdInUse (list_any (has_range_id c.args.range.id) c.args.self.now))) (sym w.result-is)
          (subst (λ b. IsRefusedFor IdInUse b w.in-Err.fault) cause w.in-Err.ensures.refused)
    ]

pub returns-clause-unchanged : goal.returns-clause-unchanged
returns-clause-unchanged c =
    let X : Type 0 = map range_of c.add.new.self ≡ c.args.self.now in
    elim c.match-add.branch [
      | in-Ok w ↦ subst (λ r. OnErr r X) (sym w.result-is) tt
      | in-Err w ↦ subst (λ r. OnErr r X) (sym w.result-is) (ap (map range_of) w.in-Err.ensures.unchanged ∙ c.self.view_is)
    ]

pub returns-clause-steps : goal.returns-clause-steps
returns-clause-steps c h few =
    let same : length c.self.inside.ranges ≡ length c.args.self.now = sym (length-map range_of c.self.inside.ranges) ∙ ap length c.self.view_is in
    subst (λ n. 5 * c.add.new.steps ≤ 5 * c.args.steps.now + ((n + 1) + 5 * (200 * (h + 1)))) same (c.add.ensures.steps h (omega (arith, few, same)))
