use Rattle.std.proofs.Common.{◌∙◌, Option, ℕ, List, ap, refl, sym, subst, arith}
use Rattle.std.specs.List.{All}
use Rattle.std.specs.Str.{IsUtf8}
use Rattle.cell_units.specs.declared.fault.Fault.TheVariants.{Refused}
use Rattle.cell_units.specs.declared.fault.Refusal.{Refusal}
use Rattle.cell_units.specs.Lawful.{AreBlockLines}
use Rattle.block_map.specs.Maps.{IsOwed, add_refusal, added, fresh}
use Rattle.block_map.proofs.BlockRefusals.{accepted, lawful-lines, owed-memory}
use Rattle.block_map.proofs.TwoSides.{one-side}
use Rattle.block_map.proofs.block_map.BlockMap.insert.Goals as goal

pub returns-in-Some-clause-refused : goal.returns-in-Some-clause-refused
returns-in-Some-clause-refused g c = subst (λ (o : Option Refusal). IsOwed o (Refused c.in-Some.refusal)) c.in-Some.ensures.refusal refl

pub returns-in-Some-clause-steps : goal.returns-in-Some-clause-steps
returns-in-Some-clause-steps g c h few = omega (arith, c.in-Some.ensures.steps)

pub returns-in_err-copied-clause-refused : goal.returns-in_err-copied-clause-refused
returns-in_err-copied-clause-refused g c = owed-memory (add_refusal (g.P.Layer.source c.args.layer.now) c.args.self.now c.args.id c.args.offset c.args.lines.now) c.from_residual.result c.in_default.ensures.refusal c.from_residual.ensures.1

pub returns-in_err-copied-clause-steps : goal.returns-in_err-copied-clause-steps
returns-in_err-copied-clause-steps g c h few = omega (arith, c.refusal_to_add.ensures.steps)

pub add-requires-clause-room : goal.add-requires-clause-room
add-requires-clause-room g c spans within = (accepted (g.P.Layer.source c.args.layer.now) c.args.self.now c.args.id c.args.offset c.args.lines.now (sym c.in_default.ensures.refusal)).room

pub add-requires-clause-unused : goal.add-requires-clause-unused
add-requires-clause-unused g c spans within = (accepted (g.P.Layer.source c.args.layer.now) c.args.self.now c.args.id c.args.offset c.args.lines.now (sym c.in_default.ensures.refusal)).unused

pub add-requires-clause-lawful : goal.add-requires-clause-lawful
add-requires-clause-lawful g c spans within =
    let a = accepted (g.P.Layer.source c.args.layer.now) c.args.self.now c.args.id c.args.offset c.args.lines.now (sym c.in_default.ensures.refusal) in
    let same = c.in_ok-copied.ensures.copied in
    subst AreBlockLines (sym same) (lawful-lines c.args.lines.now (subst (All IsUtf8) same c.in_ok-copied.ensures.utf8) a.proper a.short)

pub returns-in_err-add-clause-refused : goal.returns-in_err-add-clause-refused
returns-in_err-add-clause-refused g c = owed-memory (add_refusal (g.P.Layer.source c.args.layer.now) c.args.self.now c.args.id c.args.offset c.args.lines.now) c.from_residual-in_err-add.result c.in_default.ensures.refusal c.from_residual-in_err-add.ensures.1

pub returns-in_err-add-clause-steps : goal.returns-in_err-add-clause-steps
returns-in_err-add-clause-steps g c h few =
    let one = one-side c.args.self.now c.args.side in
    omega (arith, c.refusal_to_add.ensures.steps, c.add.ensures.steps h (omega (arith, few, one)), one)

pub returns-clause-ok : goal.returns-clause-ok
returns-clause-ok g c = c.in_ok-add.ensures.ok ∙ ap (λ (l : List (List ℕ)). added c.args.side (fresh c.args.id c.args.offset l) c.args.self.now) c.in_ok-copied.ensures.copied

pub returns-clause-accepted : goal.returns-clause-accepted
returns-clause-accepted g c = sym c.in_default.ensures.refusal

pub returns-clause-steps : goal.returns-clause-steps
returns-clause-steps g c h few =
    let one = one-side c.args.self.now c.args.side in
    omega (arith, c.refusal_to_add.ensures.steps, c.add.ensures.steps h (omega (arith, few, one)), one)
