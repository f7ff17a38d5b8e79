use Rattle.std.proofs.Common.{◌≡◌, ◌⊎◌, ◌<◌, ◌≤◌, length, true, sym, subst, ◌∙◌}
use Rattle.std.specs.Prelude.{Some, None}
use Rattle.std.proofs.lemmas.Bool.{ltb-false, ltb-true}
use Rattle.cell_units.specs.declared.limits.TheConstants.{TEXT_LIMIT}
use Rattle.cell_units.specs.declared.fault.Fault.TheVariants as faults
use Rattle.cell_units.specs.declared.fault.Refusal.TheVariants.{TooLong}
use Rattle.plain_rows.specs.Reach.{WorksAtMost}
use Rattle.display_sheet.specs.Changes.{are_ranges, edit_refusal, replacement}
use Rattle.display_sheet.specs.Faults.{IsRefusedAs}
use Rattle.display_map.specs.Replay.{History, present_of}
use Rattle.display_map.specs.Splicing.{spliced_text}
use Rattle.display_map.proofs.EditedDisplays.{err-same, is-kept, kept-edited, none-or-long, not-refused, too-long}
use Rattle.display_map.proofs.SplicedWorks.{judged-works, replaced-works}
use Rattle.display_map.proofs.display.DisplayOn.edit.Goals as goal

pub returns-then-branch-clause-refused : goal.returns-then-branch-clause-refused
returns-then-branch-clause-refused g c =
    let d = c.self.inside in
    let r = g.S.Sheet.kept d.sheet in
    let h : History = record { opening = (g.S.Sheet.kept d.opening).text; events = d.journal } in
    let splices = c.args.splices.now in
    let ok : are_ranges r.text 0 splices ≡ true = sym c.are_ranges.ensures.test ∙ c.if-not-are_ranges.false in
    let long : TEXT_LIMIT < length (spliced_text r.text 0 splices) = ltb-true TEXT_LIMIT (length (spliced_text r.text 0 splices)) (sym c.in_ok-is_too_long.ensures ∙ c.if-branch.true) in
    subst (λ (h : History). edit_refusal (present_of h) splices ≡ Some TooLong) c.self.view_is
    (too-long h r d.outs.items d.versions d.jobs d.first c.self.invariant splices ok long)

pub batch-requires-clause-kept : goal.batch-requires-clause-kept
batch-requires-clause-kept g c =
    let d = c.self.inside in
    let r = g.S.Sheet.kept d.sheet in
    let h : History = record { opening = (g.S.Sheet.kept d.opening).text; events = d.journal } in
    is-kept h r d.outs.items d.versions d.jobs d.first c.self.invariant
    c.deref.result.now c.deref.ensures.value

pub returns-in_err-push_batch-clause-refused : goal.returns-in_err-push_batch-clause-refused
returns-in_err-push_batch-clause-refused g c =
    let d = c.self.inside in
    let r = g.S.Sheet.kept d.sheet in
    let h : History = record { opening = (g.S.Sheet.kept d.opening).text; events = d.journal } in
    let splices = c.args.splices.now in
    let ok : are_ranges r.text 0 splices ≡ true = sym c.are_ranges.ensures.test ∙ c.if-not-are_ranges.false in
    err-same c.from_residual-in_err-push_batch.result faults.NoMemory (IsRefusedAs (edit_refusal (present_of c.args.self.now) splices)) c.from_residual-in_err-push_batch.ensures.1
    (subst (λ (h : History). (edit_refusal (present_of h) splices ≡ None) ⊎ (edit_refusal (present_of h) splices ≡ Some TooLong)) c.self.view_is
    (none-or-long h r d.outs.items d.versions d.jobs d.first c.self.invariant splices ok))

pub invariant_of-self-2 : goal.invariant_of-self-2
invariant_of-self-2 g c =
    let d = c.self.inside in
    let r = g.S.Sheet.kept d.sheet in
    let h : History = record { opening = (g.S.Sheet.kept d.opening).text; events = d.journal } in
    let splices = c.args.splices.now in
    let ok : are_ranges r.text 0 splices ≡ true = sym c.are_ranges.ensures.test ∙ c.if-not-are_ranges.false in
    let work = c.in_ok-work.work in
    let short : length (spliced_text r.text 0 splices) ≤ TEXT_LIMIT = ltb-false TEXT_LIMIT (length (spliced_text r.text 0 splices)) (sym c.in_ok-is_too_long.ensures ∙ c.if-branch.false) in
    kept-edited h r d.outs.items d.versions d.jobs d.first c.self.invariant splices ok
    c.deref.result.now (g.S.Sheet.kept work.sheet) work.outs.items c.push_batch.new.journal c.deref.ensures.value short
    c.in_ok-work.ensures.done c.in_ok-push_batch.ensures.appended

pub returns-clause-accepted : goal.returns-clause-accepted
returns-clause-accepted g c =
    let d = c.self.inside in
    let r = g.S.Sheet.kept d.sheet in
    let h : History = record { opening = (g.S.Sheet.kept d.opening).text; events = d.journal } in
    let splices = c.args.splices.now in
    let ok : are_ranges r.text 0 splices ≡ true = sym c.are_ranges.ensures.test ∙ c.if-not-are_ranges.false in
    let short : length (spliced_text r.text 0 splices) ≤ TEXT_LIMIT = ltb-false TEXT_LIMIT (length (spliced_text r.text 0 splices)) (sym c.in_ok-is_too_long.ensures ∙ c.if-branch.false) in
    subst (λ (h : History). edit_refusal (present_of h) splices ≡ None) c.self.view_is
    (not-refused h r d.outs.items d.versions d.jobs d.first c.self.invariant splices ok short)

pub returns-then-not-are_ranges-clause-steps : goal.returns-then-not-are_ranges-clause-steps
returns-then-not-are_ranges-clause-steps g c splice only =
    let d = c.self.inside in
    let r = g.S.Sheet.kept d.sheet in
    let h : History = record { opening = (g.S.Sheet.kept d.opening).text; events = d.journal } in
    subst (λ (h : History). WorksAtMost (replacement splice) (present_of h) c.args.steps.now c.are_ranges.new.steps) c.self.view_is
    (judged-works (present_of h) r c.self.invariant.kept.sheet_is c.args.splices.now splice only c.args.steps.now c.are_ranges.new.steps c.are_ranges.ensures.steps)

pub returns-in_err-is_too_long-clause-steps : goal.returns-in_err-is_too_long-clause-steps
returns-in_err-is_too_long-clause-steps g c splice only =
    let d = c.self.inside in
    let r = g.S.Sheet.kept d.sheet in
    let h : History = record { opening = (g.S.Sheet.kept d.opening).text; events = d.journal } in
    subst (λ (h : History). WorksAtMost (replacement splice) (present_of h) c.args.steps.now c.are_ranges.new.steps) c.self.view_is
    (judged-works (present_of h) r c.self.invariant.kept.sheet_is c.args.splices.now splice only c.args.steps.now c.are_ranges.new.steps c.are_ranges.ensures.steps)

pub returns-then-branch-clause-steps : goal.returns-then-branch-clause-steps
returns-then-branch-clause-steps g c splice only =
    let d = c.self.inside in
    let r = g.S.Sheet.kept d.sheet in
    let h : History = record { opening = (g.S.Sheet.kept d.opening).text; events = d.journal } in
    subst (λ (h : History). WorksAtMost (replacement splice) (present_of h) c.args.steps.now c.are_ranges.new.steps) c.self.view_is
    (judged-works (present_of h) r c.self.invariant.kept.sheet_is c.args.splices.now splice only c.args.steps.now c.are_ranges.new.steps c.are_ranges.ensures.steps)

pub returns-in_err-work-clause-steps : goal.returns-in_err-work-clause-steps
returns-in_err-work-clause-steps g c splice only =
    let d = c.self.inside in
    let r = g.S.Sheet.kept d.sheet in
    let h : History = record { opening = (g.S.Sheet.kept d.opening).text; events = d.journal } in
    subst (λ (h : History). WorksAtMost (replacement splice) (present_of h) c.args.steps.now c.batch.new.steps) c.self.view_is
    (replaced-works (present_of h) r c.self.invariant.kept.sheet_is c.args.splices.now splice only c.args.steps.now c.are_ranges.new.steps c.are_ranges.ensures.steps
    c.batch.new.steps (c.batch.ensures.steps splice only))

pub returns-in_err-push_batch-clause-steps : goal.returns-in_err-push_batch-clause-steps
returns-in_err-push_batch-clause-steps g c splice only =
    let d = c.self.inside in
    let r = g.S.Sheet.kept d.sheet in
    let h : History = record { opening = (g.S.Sheet.kept d.opening).text; events = d.journal } in
    subst (λ (h : History). WorksAtMost (replacement splice) (present_of h) c.args.steps.now c.batch.new.steps) c.self.view_is
    (replaced-works (present_of h) r c.self.invariant.kept.sheet_is c.args.splices.now splice only c.args.steps.now c.are_ranges.new.steps c.are_ranges.ensures.steps
    c.batch.new.steps (c.batch.ensures.steps splice only))

pub returns-clause-steps : goal.returns-clause-steps
returns-clause-steps g c splice only =
    let d = c.self.inside in
    let r = g.S.Sheet.kept d.sheet in
    let h : History = record { opening = (g.S.Sheet.kept d.opening).text; events = d.journal } in
    subst (λ (h : History). WorksAtMost (replacement splice) (present_of h) c.args.steps.now c.batch.new.steps) c.self.view_is
    (replaced-works (present_of h) r c.self.invariant.kept.sheet_is c.args.splices.now splice only c.args.steps.now c.are_ranges.new.steps c.are_ranges.ensures.steps
    c.batch.new.steps (c.batch.ensures.steps splice only))
