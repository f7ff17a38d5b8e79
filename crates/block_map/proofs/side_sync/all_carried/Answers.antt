use Rattle.std.proofs.Common.{◌≡◌, [], List, length, map, sym, ap, subst, ◌∙◌, arith}
use Rattle.cell_units.specs.declared.place.Bias.{Bias}
use Rattle.edit_patch.specs.declared.edit.Edit.{Edit}
use Rattle.mark_tree.specs.declared.mark.Mark.{Mark}
use Rattle.sum_core.specs.declared.load.NoLoad.{NoLoad}
use Rattle.block_map.specs.Stops.{Stop}
use Rattle.block_map.specs.inside.RowMoves.{MayBeMoved, carried}
use Rattle.block_map.specs.inside.SideMoves.{bias_of}
use Rattle.block_map.specs.inside.Sides.{BlockMark, IsSide, kept_of}
use Rattle.block_map.proofs.side_sync.all_carried.Goals as goal

pub carry-requires-clause-stops : goal.carry-requires-clause-stops
carry-requires-clause-stops c =
    let es : List Edit = c.args.edits.now in
    subst (λ (l : List Stop). MayBeMoved c.bias_of.result es l) (sym c.in_ok-stops.ensures)
    (subst (λ (b : Bias). MayBeMoved b es c.args.stops.now) (sym c.bias_of.ensures) c.requires.stops)

pub invariant_of-result : goal.invariant_of-result
invariant_of-result c =
    let es : List Edit = c.args.edits.now in
    let moved : map (carried (bias_of c.args.side) es) c.args.stops.now ≡ c.carry.new.self = sym (c.in_ok-carry.ensures.ok ∙ (λ i. map (carried (c.bias_of.ensures i) es) (c.in_ok-stops.ensures i))) in
    subst (λ (l : List (Mark NoLoad)). IsSide c.behind.result c.carry.new.self l) (sym c.new.ensures)
    (subst (λ (l : List Stop). IsSide c.behind.result l []) moved
    (subst (λ (l : List BlockMark). IsSide l (map (carried (bias_of c.args.side) es) c.args.stops.now) []) (sym c.behind.ensures) c.requires.side))

pub returns-clause-ok : goal.returns-clause-ok
returns-clause-ok c =
    let es : List Edit = c.args.edits.now in
    let moved : c.carry.new.self ≡ map (carried (bias_of c.args.side) es) c.args.stops.now = c.in_ok-carry.ensures.ok ∙ (λ i. map (carried (c.bias_of.ensures i) es) (c.in_ok-stops.ensures i)) in
    λ i. kept_of (c.behind.ensures i) (moved i)

pub returns-in_err-carry-clause-steps : goal.returns-in_err-carry-clause-steps
returns-in_err-carry-clause-steps c h few = c.carry.ensures.steps h (omega (arith, few, ap length c.in_ok-stops.ensures))

pub returns-clause-steps : goal.returns-clause-steps
returns-clause-steps c h few = c.carry.ensures.steps h (omega (arith, few, ap length c.in_ok-stops.ensures))
