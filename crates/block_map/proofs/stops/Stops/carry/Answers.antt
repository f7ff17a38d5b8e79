use Rattle.std.proofs.Common.{◌≡◌, ◌+◌, ◌*◌, false, length, map, sym, ap, subst, ◌∙◌, arith}
use Rattle.std.specs.List.{list_any}
use Rattle.std.proofs.lemmas.List.{length-map}
use Rattle.std.proofs.lemmas.Result.{on_ok_weaker}
use Rattle.block_map.specs.inside.RowMoves.{changes_count, grown, shrunk}
use Rattle.block_map.specs.inside.StopLists.{AreRising, StopsFit}
use Rattle.block_map.proofs.EvenEdits.{stops-stay}
use Rattle.block_map.proofs.StepSums.{two-walks}
use Rattle.block_map.proofs.StopLoops.{carried-map}
use Rattle.block_map.proofs.stops.Stops.carry.Goals as goal

-- no edit moves a stop
pub returns-then-not-change_counts-clause-ok : goal.returns-then-not-change_counts-clause-ok
returns-then-not-change_counts-clause-ok c =
    let even : list_any changes_count c.args.edits.now ≡ false = sym c.change_counts.ensures ∙ c.if-not-change_counts.true in
    sym (stops-stay c.args.bias c.args.edits.now c.args.self.now c.requires.patch even c.requires.stops.kept)

pub shrink-requires-clause-kept : goal.shrink-requires-clause-kept
shrink-requires-clause-kept c = c.requires.stops.kept

pub shrink-requires-clause-fit : goal.shrink-requires-clause-fit
shrink-requires-clause-fit c = c.requires.stops.fit

pub grow-requires-clause-rising : goal.grow-requires-clause-rising
grow-requires-clause-rising c =
    let same = ap (map (grown c.args.bias c.args.edits.now)) c.in_ok-shrink.ensures.ok ∙ carried-map c.args.bias c.args.edits.now c.args.self.now in
    subst (AreRising 0) (sym same) c.requires.stops.rising

pub grow-requires-clause-fits : goal.grow-requires-clause-fits
grow-requires-clause-fits c =
    let same = ap (map (grown c.args.bias c.args.edits.now)) c.in_ok-shrink.ensures.ok ∙ carried-map c.args.bias c.args.edits.now c.args.self.now in
    subst StopsFit (sym same) c.requires.stops.fits

pub returns-clause-ok : goal.returns-clause-ok
returns-clause-ok c =
    let same = ap (map (grown c.args.bias c.args.edits.now)) c.in_ok-shrink.ensures.ok ∙ carried-map c.args.bias c.args.edits.now c.args.self.now in
    on_ok_weaker c.grow.result (λ (e : c.grow.new.self ≡ map (grown c.args.bias c.args.edits.now) c.shrink.new.self). e ∙ same) c.grow.ensures.ok

pub returns-in_err-shrink-clause-steps : goal.returns-in_err-shrink-clause-steps
returns-in_err-shrink-clause-steps c h few =
    two-walks (length c.args.edits.now) (170 * (h + 1)) c.args.steps.now c.shrink.new.steps c.shrink.new.steps (c.shrink.ensures.steps h few) (omega arith)

pub returns-clause-steps : goal.returns-clause-steps
returns-clause-steps c h few =
    let size : length c.shrink.new.self ≡ length c.args.self.now = ap length c.in_ok-shrink.ensures.ok ∙ length-map c.args.self.now (shrunk c.args.bias c.args.edits.now) in
    two-walks (length c.args.edits.now) (170 * (h + 1)) c.args.steps.now c.shrink.new.steps c.grow.new.steps (c.shrink.ensures.steps h few) (c.grow.ensures.steps h (omega (arith, few, size)))
