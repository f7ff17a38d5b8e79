use Rattle.std.proofs.Common.{◌≡◌, ◌∷◌, [], ℕ, ◌+◌, ◌-◌, List, length, map, sym, ap, subst, ◌∙◌, arith}
use Rattle.std.specs.List.{All}
use Rattle.std.proofs.lemmas.List.{with_items_is}
use Rattle.display_sheet.specs.Changes.{operation_of}
use Rattle.display_map.specs.Events.{Did}
use Rattle.display_map.specs.Outs.{AreBelow, OutParts, carried_out}
use Rattle.display_map.specs.Replay.{appended}
use Rattle.display_map.specs.Works.{KeepsWork}
use Rattle.display_map.proofs.Displays.{kept-did}
use Rattle.display_map.proofs.Works.{below-sheet, splice-after}
use Rattle.display_map.proofs.work.one.Goals as goal

pub carry-requires-clause-below : goal.carry-requires-clause-below
carry-requires-clause-below g c =
    let q = c.requires.kept in
    let sheet = g.S.Sheet.kept c.args.sheet.now in
    let lines : length sheet.marks ≡ c.lines.result = sym c.lines.ensures.value in
    subst (λ (outs : List OutParts). All (λ out. AreBelow c.lines.result out.lines) outs) (sym (c.as_mut_slice.ensures.value ∙ c.in_ok-carried.ensures))
    (subst (λ (n : ℕ). All (λ (out : OutParts). AreBelow n out.lines) c.args.outs.now) lines (below-sheet q.0 sheet c.args.outs.now q.1 q.2 0 q.3))

pub carry-requires-clause-after : goal.carry-requires-clause-after
carry-requires-clause-after g c =
    let q = c.requires.kept in
    let splice = c.in_ok-done.done.1 in
    c.lines-lines.ensures.value
    ∙ c.lines-lines.ensures.lawful.marked
    ∙ splice-after q.0 (g.S.Sheet.kept c.args.sheet.now) c.args.outs.now q.1 q.2 q.3 (operation_of c.args.op.now) (g.S.Sheet.kept c.in_ok-done.done.0) splice c.in_ok-done.ensures.done
    ∙ ap (λ (n : ℕ). splice.first + (splice.count + (n - splice.end))) (sym (c.lines.ensures.value ∙ c.lines.ensures.lawful.marked))

pub returns-clause-done : goal.returns-clause-done
returns-clause-done g c =
    let splice = c.in_ok-done.done.1 in
    let op = operation_of c.args.op.now in
    let sheet = g.S.Sheet.kept c.args.sheet.now in
    let sheet' = g.S.Sheet.kept c.in_ok-done.done.0 in
    let is = with_items_is c.in_ok-carried.carried c.carry.new.outs (omega (arith, c.carry.auto.outs, c.as_mut_slice.ensures.len))
    ∙ c.carry.ensures ∙ ap (map (carried_out splice.first splice.end splice.count)) (c.as_mut_slice.ensures.value ∙ c.in_ok-carried.ensures) in
    λ h versions jobs k.
    subst (λ (os : List OutParts). KeepsWork (appended h (Did op ∷ [])) sheet' os versions jobs) (sym is)
    (kept-did h sheet c.args.outs.now versions jobs 0 k op c.in_ok-done.ensures.allowed sheet' splice c.in_ok-done.ensures.done)
