use Rattle.std.proofs.Common.{Option, refl, sym, subst, arith}
use Rattle.cell_units.specs.declared.fault.Fault.TheVariants.{Refused}
use Rattle.cell_units.specs.declared.fault.Refusal.{Refusal}
use Rattle.cell_units.specs.declared.fault.Refusal.TheVariants.{UnknownId}
use Rattle.block_map.specs.Maps.{IsOwed, remove_refusal}
use Rattle.block_map.proofs.BlockRefusals.{known-id, owed-memory, unknown-id}
use Rattle.block_map.proofs.TwoSides.{no-side, on-one, one-side}
use Rattle.block_map.proofs.block_map.BlockMap.remove.Goals as goal

pub returns-in_default-clause-refused : goal.returns-in_default-clause-refused
returns-in_default-clause-refused g c =
    let s = c.args.self.now in
    subst (λ (o : Option Refusal). IsOwed o (Refused UnknownId)) (unknown-id s c.args.id (no-side c.args.id s c.side_of.result c.side_of.ensures.side c.in_default.not-Some)) refl

pub returns-in_default-clause-steps : goal.returns-in_default-clause-steps
returns-in_default-clause-steps g c h few = omega (arith, c.side_of.ensures.steps)

pub returns-in_err-take-clause-refused : goal.returns-in_err-take-clause-refused
returns-in_err-take-clause-refused g c =
    let s = c.args.self.now in
    owed-memory (remove_refusal s c.args.id) c.from_residual.result (known-id s c.args.id (on-one c.args.id s c.in-Some.side c.in-Some.ensures.side)) c.from_residual.ensures.1

pub returns-in_err-take-clause-steps : goal.returns-in_err-take-clause-steps
returns-in_err-take-clause-steps g c h few =
    let one = one-side c.args.self.now c.in-Some.side in
    omega (arith, c.side_of.ensures.steps, c.take.ensures.steps h (omega (arith, few, one)), one)

pub returns-clause-accepted : goal.returns-clause-accepted
returns-clause-accepted g c =
    let s = c.args.self.now in
    sym (known-id s c.args.id (on-one c.args.id s c.in-Some.side c.in-Some.ensures.side))

pub returns-clause-steps : goal.returns-clause-steps
returns-clause-steps g c h few =
    let one = one-side c.args.self.now c.in-Some.side in
    omega (arith, c.side_of.ensures.steps, c.take.ensures.steps h (omega (arith, few, one)), one)
