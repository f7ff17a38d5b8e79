use Rattle.std.proofs.Common.{rules, ◌≡◌, false, List, [], ◌∷◌, None, map, OnOk, IfErr, ℕ, sym, subst, ◌∙◌}
use Rattle.cell_units.specs.Operation.{Operation}
use Rattle.cell_units.specs.Record.{Record}
use Rattle.plain_rows.specs.Reach.{WorksAtMost}
use Rattle.display_sheet.specs.declared.change.Change.{Change}
use Rattle.display_sheet.specs.declared.change.Change.TheVariants as changes
use Rattle.display_sheet.specs.declared.change.Op.TheVariants.{Replace}
use Rattle.display_sheet.specs.Changes.{change_refusal, entries_in, is_replacement, ops_of, parts_of}
use Rattle.display_sheet.specs.Faults.{IsRefusedAs}
use Rattle.display_map.specs.Events.{Did}
use Rattle.display_map.specs.Replay.{appended, present_of}
use Rattle.display_map.proofs.AppliedWorks.{edit-works, ops-other, other-works, splice-works}
use Rattle.display_map.proofs.display.DisplayOn.apply.Goals as goal

-- a change of one operation takes what that may take
abbrev Works : Record → ℕ → ℕ → Change → Type 0
Works r old new change = (operation : Operation) → entries_in (parts_of change) ≡ 1 → ops_of change ≡ operation ∷ [] → WorksAtMost operation r old new

pub returns-in-Edit-clause-steps : goal.returns-in-Edit-clause-steps
returns-in-Edit-clause-steps g c =
    let r = present_of c.args.self.now in
    let old = c.args.steps.now in
    let new = c.edit.new.steps in
    subst (Works r old new) (sym c.in-Edit.is)
    (λ operation one is.
    edit-works r old new c.in-Edit.splices.items (λ splice only. c.edit.ensures.steps splice (c.deref.ensures.value ∙ only)) one operation is)

pub returns-in-One-Replace-clause-steps : goal.returns-in-One-Replace-clause-steps
returns-in-One-Replace-clause-steps g c =
    let r = present_of c.args.self.now in
    let old = c.args.steps.now in
    let new = c.edit-in-One-Replace.new.steps in
    let splice = c.in-One-Replace.splice in
    let is : c.args.change.now ≡ changes.One (Replace splice) = search rules in
    subst (Works r old new) (sym is)
    (λ operation one ops. splice-works r old new splice (c.edit-in-One-Replace.ensures.steps splice c.from_ref.ensures.value) operation ops)

pub returns-in-One : goal.returns-in-One
returns-in-One g c =
    let r = present_of c.args.self.now in
    let old = c.args.steps.now in
    let new = c.operate.new.steps in
    let op = c.in-One.op in
    let is = sym c.in-One.is in
    let other : is_replacement op ≡ false = search rules in
    record {
      accepted = subst (λ (x : Change). OnOk c.operate.result (change_refusal r x ≡ None)) is c.operate.ensures.accepted;
      done =
          subst (λ (x : Change). OnOk c.operate.result (c.operate.new.self ≡ appended c.args.self.now (map Did (ops_of x)))) is
          (subst (λ (ops : List Operation). OnOk c.operate.result (c.operate.new.self ≡ appended c.args.self.now (map Did ops)))
          (sym (ops-other op other)) c.operate.ensures.done);
      refused = subst (λ (x : Change). IfErr c.operate.result (IsRefusedAs (change_refusal r x))) is c.operate.ensures.refused;
      unchanged = c.operate.ensures.unchanged;
      counted = c.operate.ensures.counted;
      steps = subst (Works r old new) is (λ operation one ops. other-works r old new op other c.operate.ensures.steps operation ops);
    }
