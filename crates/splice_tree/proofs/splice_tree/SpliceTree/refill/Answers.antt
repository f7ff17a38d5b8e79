use Rattle.std.proofs.Common.{◌≡◌, Some, None, ap, subst, sym, length, arith}
use Rattle.std.specs.List.{slice_get}
use Rattle.std.proofs.lemmas.Option.{slice_get_within}
use Rattle.splice_tree.proofs.Refills.{refill-none, refill-some}
use Rattle.splice_tree.proofs.splice_tree.SpliceTree.refill.Goals as goal

pub returns-in-None-clause-refill : goal.returns-in-None-clause-refill
returns-in-None-clause-refill g c =
    refill-none c.args.self.now c.args.to c.args.fresh.items c.args.gap c.requires.within
    (subst (λ l. slice_get l c.args.to ≡ None) c.self.view_is (sym c.in-None.ensures.item))

pub returns-in_ok-push-in-Some-clause-refill : goal.returns-in_ok-push-in-Some-clause-refill
returns-in_ok-push-in-Some-clause-refill g c =
    refill-some c.args.self.now c.args.to c.args.fresh.items c.push.new.self.items c.args.gap c.in-Some.behind.now c.in_ok-with_gap-in-Some.field-0
    (subst (λ l. slice_get l c.args.to ≡ Some c.in-Some.behind.now) c.self.view_is (sym c.in-Some.ensures.item)) c.in_ok-with_gap-in-Some.ensures c.in_ok-push-in-Some.ensures.items

pub with_gap-requires-clause-lower : goal.with_gap-requires-clause-lower
with_gap-requires-clause-lower g c =
    (c.requires.gap_fits c.in-Some.behind.now (subst (λ l. slice_get l c.args.to ≡ Some c.in-Some.behind.now) c.self.view_is (sym c.in-Some.ensures.item))).0

pub with_gap-requires-clause-upper : goal.with_gap-requires-clause-upper
with_gap-requires-clause-upper g c =
    (c.requires.gap_fits c.in-Some.behind.now (subst (λ l. slice_get l c.args.to ≡ Some c.in-Some.behind.now) c.self.view_is (sym c.in-Some.ensures.item))).1

pub overflow_add-result : goal.overflow_add-result
overflow_add-result g c =
    let within = slice_get_within c.self.inside.splices c.args.to c.in-Some.behind.now (sym c.in-Some.ensures.item) in
    omega (arith, within, ap length c.self.view_is, c.len-count.ensures)

pub returns-in-None-clause-steps : goal.returns-in-None-clause-steps
returns-in-None-clause-steps g c h few = c.in-None.ensures.steps h (omega (arith, few, ap length c.self.view_is))

pub returns-in_err-with_gap-in-Some-clause-steps : goal.returns-in_err-with_gap-in-Some-clause-steps
returns-in_err-with_gap-in-Some-clause-steps g c h few = c.in-Some.ensures.steps h (omega (arith, few, ap length c.self.view_is))

pub returns-in_err-push-in-Some-clause-steps : goal.returns-in_err-push-in-Some-clause-steps
returns-in_err-push-in-Some-clause-steps g c h few = c.in-Some.ensures.steps h (omega (arith, few, ap length c.self.view_is))

pub returns-in_ok-push-in-Some-clause-steps : goal.returns-in_ok-push-in-Some-clause-steps
returns-in_ok-push-in-Some-clause-steps g c h few = c.in-Some.ensures.steps h (omega (arith, few, ap length c.self.view_is))
