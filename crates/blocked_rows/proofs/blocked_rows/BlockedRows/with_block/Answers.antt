use Rattle.std.proofs.Common.{◌≡◌, ◌∙◌, ℕ, ◌+◌, List, [], Option, None, length, ap, refl, subst, sym, arith}
use Rattle.cell_units.specs.declared.fault.Fault.TheVariants.{Refused}
use Rattle.cell_units.specs.declared.fault.Refusal.{Refusal}
use Rattle.cell_units.specs.declared.place.Side.{Side}
use Rattle.cell_units.specs.Layers.{Source}
use Rattle.block_map.specs.Bounds.{TakesOneEach, altering}
use Rattle.block_map.specs.Carried.{SyncsAtMost}
use Rattle.block_map.specs.Maps.{BlockState, IsOwed, add_refusal, added, fresh, synced}
use Rattle.block_map.proofs.BlockRefusals.{owed-memory}
use Rattle.blocked_rows.specs.Standing.{ArePlaced}
use Rattle.blocked_rows.proofs.AlteredBlocks.{all-placed, placed-added, synced-added}
use Rattle.blocked_rows.proofs.CarriedBlocks.{adds-at_most, judged-same}
use Rattle.blocked_rows.proofs.blocked_rows.BlockedRows.with_block.Goals as goal

-- what is owed for equal blocks
owed-same : (source : Source) (id o : ℕ) (given : List (List ℕ)) (s t : BlockState) → s ≡ t → add_refusal source s id o given ≡ add_refusal source t id o given
owed-same source id o given s t same = ap (λ (b : BlockState). add_refusal source b id o given) same

-- equal blocks with one more
added-same : (side : Side) (id o : ℕ) (given : List (List ℕ)) (made s t : BlockState) → made ≡ added side (fresh id o given) s → s ≡ t
    → made ≡ added side (fresh id o given) t
added-same side id o given made s t put same = put ∙ ap (added side (fresh id o given)) same

-- steps for equal blocks
put-same : (s t : BlockState) (old new : ℕ) → s ≡ t → TakesOneEach altering (length s.above + length s.below + 1) old new
    → TakesOneEach altering (length t.above + length t.below + 1) old new
put-same s t old new same = subst (λ (b : BlockState). TakesOneEach altering (length b.above + length b.below + 1) old new) same

pub returns-in-Some-clause-refused : goal.returns-in-Some-clause-refused
returns-in-Some-clause-refused g c =
    let source = g.P.Layer.source c.args.layer.now in
    subst (λ (o : Option Refusal). IsOwed o (Refused c.in-Some.refusal))
    (c.in-Some.ensures.refusal ∙ owed-same source c.args.id c.args.offset c.args.lines.now c.self.inside.blocks c.args.self.now c.self.view_is) refl

pub returns-in-Some-clause-steps : goal.returns-in-Some-clause-steps
returns-in-Some-clause-steps g c h few =
    let t = c.args.self.now in
    omega (arith, judged-same c.self.inside.blocks t c.args.steps.now c.refusal_to_add.new.steps c.self.view_is c.refusal_to_add.ensures.steps)

pub returns-in_err-insert-clause-steps : goal.returns-in_err-insert-clause-steps
returns-in_err-insert-clause-steps g c h few =
    omega (arith, put-same c.in-Ok.blocks c.args.self.now c.args.steps.now c.insert.new.steps (c.in-Ok.ensures ∙ c.self.view_is) c.insert.ensures.steps h few)

pub showing-requires-clause-placed : goal.showing-requires-clause-placed
showing-requires-clause-placed g c κs within =
    let source = g.P.Layer.source c.args.layer.now in
    let s = c.args.self.now in
    let shared = c.in-Ok.ensures ∙ c.self.view_is in
    let all = all-placed source _ c.self.inside.blocks s c.self.inside.shown c.self.view_is c.self.invariant c.buffer_len-len.ensures.well_formed c.requires in
    subst (ArePlaced source)
    (sym (added-same c.args.side c.args.id c.args.offset c.args.lines.now c.insert.new.self c.in-Ok.blocks s c.in_ok-insert.ensures.ok shared))
    (placed-added source s all c.args.id c.args.offset c.args.lines.now
    (sym (owed-same source c.args.id c.args.offset c.args.lines.now c.in-Ok.blocks s shared) ∙ c.in_ok-insert.ensures.accepted) c.args.side)

pub returns-in_err-showing-clause-refused : goal.returns-in_err-showing-clause-refused
returns-in_err-showing-clause-refused g c =
    let source = g.P.Layer.source c.args.layer.now in
    owed-memory (add_refusal source c.args.self.now c.args.id c.args.offset c.args.lines.now) c.from_residual-in_err-showing.result
    (sym c.in_ok-insert.ensures.accepted ∙ owed-same source c.args.id c.args.offset c.args.lines.now c.in-Ok.blocks c.args.self.now (c.in-Ok.ensures ∙ c.self.view_is))
    c.from_residual-in_err-showing.ensures.1

pub returns-in_err-showing-clause-steps : goal.returns-in_err-showing-clause-steps
returns-in_err-showing-clause-steps g c =
    let source = g.P.Layer.source c.args.layer.now in
    let s = c.args.self.now in
    let all = all-placed source _ c.self.inside.blocks s c.self.inside.shown c.self.view_is c.self.invariant c.buffer_len-len.ensures.well_formed c.requires in
    let shared = c.in-Ok.ensures ∙ c.self.view_is in
    adds-at_most source s all c.args.steps.now c.insert.new.steps c.showing.new.steps c.args.side c.args.id c.args.offset c.args.lines.now
    (put-same c.in-Ok.blocks s c.args.steps.now c.insert.new.steps shared c.insert.ensures.steps)
    (subst (λ (t : BlockState). SyncsAtMost None [] t c.insert.new.steps c.showing.new.steps)
    (added-same c.args.side c.args.id c.args.offset c.args.lines.now c.insert.new.self c.in-Ok.blocks s c.in_ok-insert.ensures.ok shared) c.showing.ensures.steps)

pub returns-clause-made : goal.returns-clause-made
returns-clause-made g c =
    let source = g.P.Layer.source c.args.layer.now in
    let s = c.args.self.now in
    let all = all-placed source _ c.self.inside.blocks s c.self.inside.shown c.self.view_is c.self.invariant c.buffer_len-len.ensures.well_formed c.requires in
    c.in_ok-showing.ensures.made
    ∙ ap (synced source None s.lines)
    (added-same c.args.side c.args.id c.args.offset c.args.lines.now c.insert.new.self c.in-Ok.blocks s c.in_ok-insert.ensures.ok (c.in-Ok.ensures ∙ c.self.view_is))
    ∙ synced-added source s all c.args.side c.args.id c.args.offset c.args.lines.now

pub returns-clause-accepted : goal.returns-clause-accepted
returns-clause-accepted g c =
    let source = g.P.Layer.source c.args.layer.now in
    sym (owed-same source c.args.id c.args.offset c.args.lines.now c.in-Ok.blocks c.args.self.now (c.in-Ok.ensures ∙ c.self.view_is)) ∙ c.in_ok-insert.ensures.accepted

pub returns-clause-steps : goal.returns-clause-steps
returns-clause-steps g c =
    let source = g.P.Layer.source c.args.layer.now in
    let s = c.args.self.now in
    let all = all-placed source _ c.self.inside.blocks s c.self.inside.shown c.self.view_is c.self.invariant c.buffer_len-len.ensures.well_formed c.requires in
    let shared = c.in-Ok.ensures ∙ c.self.view_is in
    adds-at_most source s all c.args.steps.now c.insert.new.steps c.showing.new.steps c.args.side c.args.id c.args.offset c.args.lines.now
    (put-same c.in-Ok.blocks s c.args.steps.now c.insert.new.steps shared c.insert.ensures.steps)
    (subst (λ (t : BlockState). SyncsAtMost None [] t c.insert.new.steps c.showing.new.steps)
    (added-same c.args.side c.args.id c.args.offset c.args.lines.now c.insert.new.self c.in-Ok.blocks s c.in_ok-insert.ensures.ok shared) c.showing.ensures.steps)
