use Rattle.std.proofs.Common.{◌≡◌, ◌∙◌, ℕ, ◌+◌, not, Bool, true, false, [], Option, None, length, ap, refl, subst, sym, arith}
use Rattle.std.specs.Prelude.{MatchOption}
use Rattle.std.specs.Option.{is_some}
use Rattle.cell_units.specs.declared.fault.Fault.TheVariants.{Refused}
use Rattle.cell_units.specs.declared.fault.Refusal.{Refusal}
use Rattle.cell_units.specs.declared.fault.Refusal.TheVariants.{UnknownId}
use Rattle.cell_units.specs.declared.place.Side.{Side}
use Rattle.block_map.specs.Bounds.{TakesOneEach, altering}
use Rattle.block_map.specs.Carried.{SyncsAtMost}
use Rattle.block_map.specs.Maps.{BlockState, IsOwed, has_block, on_side, remove_refusal, removed, synced}
use Rattle.block_map.specs.inside.TwoSides.{is_kept}
use Rattle.block_map.proofs.BlockRefusals.{owed-memory, unknown-id}
use Rattle.block_map.proofs.TwoSides.{has-side}
use Rattle.blocked_rows.specs.Standing.{ArePlaced}
use Rattle.blocked_rows.proofs.AlteredBlocks.{all-placed, placed-removed, synced-removed}
use Rattle.blocked_rows.proofs.CarriedBlocks.{judged-same, takes-at_most}
use Rattle.blocked_rows.proofs.blocked_rows.BlockedRows.without_block.Goals as goal

-- whether equal blocks have the id
has-same : (id : ℕ) (s t : BlockState) (found : Option Side) (none : Bool) → s ≡ t
    → MatchOption found (has_block id s ≡ false) (λ side. is_kept id (on_side side s) ≡ true) → is_some found ≡ not none → has_block id t ≡ not none
has-same id s t found none same side is = ap (has_block id) (sym same) ∙ has-side id s found side ∙ is

-- equal blocks without it
removed-same : (id : ℕ) (made s t : BlockState) → made ≡ removed id s → s ≡ t → made ≡ removed id t
removed-same id made s t out same = out ∙ ap (removed id) same

-- steps for equal blocks
out-same : (s t : BlockState) (old new : ℕ) → s ≡ t → TakesOneEach altering (length s.above + length s.below) old new
    → TakesOneEach altering (length t.above + length t.below) old new
out-same s t old new same = subst (λ (b : BlockState). TakesOneEach altering (length b.above + length b.below) old new) same

pub returns-then-is_none-clause-refused : goal.returns-then-is_none-clause-refused
returns-then-is_none-clause-refused g c =
    let s = c.args.self.now in
    subst (λ (o : Option Refusal). IsOwed o (Refused UnknownId))
    (unknown-id s c.args.id
    (has-same c.args.id c.self.inside.blocks s c.side_of.result true c.self.view_is c.side_of.ensures.side (c.is_none.ensures ∙ ap not c.if-is_none.true))) refl

pub returns-then-is_none-clause-steps : goal.returns-then-is_none-clause-steps
returns-then-is_none-clause-steps g c h few =
    omega (arith, judged-same c.self.inside.blocks c.args.self.now c.args.steps.now c.side_of.new.steps c.self.view_is c.side_of.ensures.steps)

pub returns-in_err-remove-clause-steps : goal.returns-in_err-remove-clause-steps
returns-in_err-remove-clause-steps g c h few =
    omega (arith, out-same c.in-Ok.blocks c.args.self.now c.args.steps.now c.remove.new.steps (c.in-Ok.ensures ∙ c.self.view_is) c.remove.ensures.steps h few)

pub showing-requires-clause-placed : goal.showing-requires-clause-placed
showing-requires-clause-placed g c κs within =
    let source = g.P.Layer.source c.args.layer.now in
    let s = c.args.self.now in
    let all = all-placed source _ c.self.inside.blocks s c.self.inside.shown c.self.view_is c.self.invariant c.buffer_len-len.ensures.well_formed c.requires in
    subst (ArePlaced source)
    (sym (removed-same c.args.id c.remove.new.self c.in-Ok.blocks s c.in_ok-remove.ensures.ok (c.in-Ok.ensures ∙ c.self.view_is)))
    (placed-removed source s all c.args.id)

pub returns-in_err-showing-clause-refused : goal.returns-in_err-showing-clause-refused
returns-in_err-showing-clause-refused g c =
    owed-memory (remove_refusal c.args.self.now c.args.id) c.from_residual-in_err-showing.result
    (sym c.in_ok-remove.ensures.accepted ∙ ap (λ (b : BlockState). remove_refusal b c.args.id) (c.in-Ok.ensures ∙ c.self.view_is))
    c.from_residual-in_err-showing.ensures.1

pub returns-in_err-showing-clause-steps : goal.returns-in_err-showing-clause-steps
returns-in_err-showing-clause-steps g c =
    let source = g.P.Layer.source c.args.layer.now in
    let s = c.args.self.now in
    let all = all-placed source _ c.self.inside.blocks s c.self.inside.shown c.self.view_is c.self.invariant c.buffer_len-len.ensures.well_formed c.requires in
    let shared = c.in-Ok.ensures ∙ c.self.view_is in
    takes-at_most source s all c.args.steps.now c.remove.new.steps c.showing.new.steps c.args.id
    (out-same c.in-Ok.blocks s c.args.steps.now c.remove.new.steps shared c.remove.ensures.steps)
    (subst (λ (t : BlockState). SyncsAtMost None [] t c.remove.new.steps c.showing.new.steps)
    (removed-same c.args.id c.remove.new.self c.in-Ok.blocks s c.in_ok-remove.ensures.ok shared) c.showing.ensures.steps)

pub returns-clause-made : goal.returns-clause-made
returns-clause-made g c =
    let source = g.P.Layer.source c.args.layer.now in
    let s = c.args.self.now in
    let all = all-placed source _ c.self.inside.blocks s c.self.inside.shown c.self.view_is c.self.invariant c.buffer_len-len.ensures.well_formed c.requires in
    c.in_ok-showing.ensures.made
    ∙ ap (synced source None s.lines)
    (removed-same c.args.id c.remove.new.self c.in-Ok.blocks s c.in_ok-remove.ensures.ok (c.in-Ok.ensures ∙ c.self.view_is))
    ∙ synced-removed source s all c.args.id

pub returns-clause-accepted : goal.returns-clause-accepted
returns-clause-accepted g c =
    sym (ap (λ (b : BlockState). remove_refusal b c.args.id) (c.in-Ok.ensures ∙ c.self.view_is)) ∙ c.in_ok-remove.ensures.accepted

pub returns-clause-steps : goal.returns-clause-steps
returns-clause-steps g c =
    let source = g.P.Layer.source c.args.layer.now in
    let s = c.args.self.now in
    let all = all-placed source _ c.self.inside.blocks s c.self.inside.shown c.self.view_is c.self.invariant c.buffer_len-len.ensures.well_formed c.requires in
    let shared = c.in-Ok.ensures ∙ c.self.view_is in
    takes-at_most source s all c.args.steps.now c.remove.new.steps c.showing.new.steps c.args.id
    (out-same c.in-Ok.blocks s c.args.steps.now c.remove.new.steps shared c.remove.ensures.steps)
    (subst (λ (t : BlockState). SyncsAtMost None [] t c.remove.new.steps c.showing.new.steps)
    (removed-same c.args.id c.remove.new.self c.in-Ok.blocks s c.in_ok-remove.ensures.ok shared) c.showing.ensures.steps)
