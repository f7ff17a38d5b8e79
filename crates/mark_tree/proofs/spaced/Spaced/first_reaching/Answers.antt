use Rattle.std.proofs.Common.{◌≡◌, ◌∙◌, ◌+◌, ◌-◌, ◌*◌, ◌^◌, ◌<◌, length, take, drop, ap, sym, subst, arith}
use Rattle.std.proofs.lemmas.List.{length-drop}
use Rattle.mark_tree.specs.Entries.{last_offset, placed_at, placed_from}
use Rattle.mark_tree.specs.Reaching.{IsFirstReaching}
use Rattle.mark_tree.proofs.Coding.{length-placed, placed-drop}
use Rattle.mark_tree.proofs.FirstReaching.{reaching-behind, reaching-there}
use Rattle.mark_tree.proofs.spaced.Spaced.first_reaching.Goals as goal

pub returns-then-next-offset-clause-place : goal.returns-then-next-offset-clause-place
returns-then-next-offset-clause-place g c =
    let next = c.in-Some.next in
    reaching-there c.args.at c.args.offset c.args.self.now (placed_at next.offset next.entry.now) c.in-Some.ensures.found c.requires.within (omega (arith, c.if-next-offset.true))

pub returns-then-at-eq0-clause-steps : goal.returns-then-at-eq0-clause-steps
returns-then-at-eq0-clause-steps g c h few =
    let es = c.self.inside.entries in
    let few' : length es < 2 * 6 ^ (h + 1) = omega (arith, few, length-placed 0 es, ap length c.self.view_is) in
    omega (arith, c.get.ensures.steps h few, c.count_short.ensures.steps h few')

pub split_off-requires : goal.split_off-requires
split_off-requires g c = omega (arith, c.requires.within, ap length c.in_ok-share.ensures, length-placed 0 c.self.inside.entries, ap length c.self.view_is)

pub returns-in_err-rest-clause-steps : goal.returns-in_err-rest-clause-steps
returns-in_err-rest-clause-steps g c h few =
    let same : length c.in_ok-share.field-0 ≡ length c.args.self.now = ap length c.in_ok-share.ensures ∙ sym (length-placed 0 c.self.inside.entries) ∙ ap length c.self.view_is in
    omega (arith, c.get.ensures.steps h few, c.split_off.ensures.steps h (omega (arith, same, few)))

pub overflow_add-result : goal.overflow_add-result
overflow_add-result g c =
    let es = c.self.inside.entries in
    let rest = c.in_ok-rest.rest in
    let base = c.in-Some.next.offset - c.in-Some.next.entry.now.gap in
    let tail : rest ≡ drop c.args.at es = c.in_ok-rest.ensures.tail ∙ ap (drop c.args.at) c.in_ok-share.ensures in
    omega (arith, c.count_short-2.ensures.count.within, length-placed base rest, ap length tail, length-drop c.args.at es, c.len-count.ensures, c.len-count.type_inv, c.requires.within, length-placed 0 es, ap length c.self.view_is)

pub returns-clause-place : goal.returns-clause-place
returns-clause-place g c =
    let es = c.self.inside.entries in
    let ps = c.args.self.now in
    let at = c.args.at in
    let rest = c.in_ok-rest.rest in
    let base = c.in-Some.next.offset - c.in-Some.next.entry.now.gap in
    let before : base ≡ last_offset 0 (take at ps) = omega (arith, c.in-Some.ensures.gap) in
    let tail : rest ≡ drop at es = c.in_ok-rest.ensures.tail ∙ ap (drop at) c.in_ok-share.ensures in
    let shown : placed_from (last_offset 0 (take at ps)) (drop at es) ≡ drop at ps =
    ap (λ l. placed_from (last_offset 0 (take at l)) (drop at es)) (sym c.self.view_is) ∙ sym (placed-drop at 0 es) ∙ ap (drop at) c.self.view_is in
    reaching-behind at c.args.offset c.count_short-2.result ps c.requires.within
    (subst (λ l. IsFirstReaching 0 c.args.offset l c.count_short-2.result) ((λ i. placed_from (before i) (tail i)) ∙ shown) c.count_short-2.ensures.count)

pub returns-clause-steps : goal.returns-clause-steps
returns-clause-steps g c h few =
    let es = c.self.inside.entries in
    let rest = c.in_ok-rest.rest in
    let tail : rest ≡ drop c.args.at es = c.in_ok-rest.ensures.tail ∙ ap (drop c.args.at) c.in_ok-share.ensures in
    let whole : length es ≡ length c.args.self.now = sym (length-placed 0 es) ∙ ap length c.self.view_is in
    let same : length c.in_ok-share.field-0 ≡ length c.args.self.now = ap length c.in_ok-share.ensures ∙ whole in
    let fewer : length rest < 2 * 6 ^ (h + 1) = omega (arith, ap length tail, length-drop c.args.at es, whole, few) in
    omega (arith, c.get.ensures.steps h few, c.split_off.ensures.steps h (omega (arith, same, few)), c.count_short-2.ensures.steps h fewer)
