use Rattle.std.proofs.Common.{◌≡◌, ◌+◌, ◌≤◌, drop, length}
use Rattle.cell_units.specs.declared.limits.TheConstants.{TEXT_LIMIT}
use Rattle.display_map.specs.Splicing.{spliced_text}
use Rattle.display_map.proofs.Batches.{AreOrdered}
use Rattle.display_map.proofs.splicing.is_too_long.Given as goal

abbrev pub invariant-loop-splice : goal.invariant-loop-splice
invariant-loop-splice g l =
    let text = (g.S.Sheet.kept l.sheet).text in
    let left = drop l.splice-index l.splices in
    record {
      told : l.len + length (spliced_text text l.from left) ≡ length (spliced_text text 0 l.splices);
      short : l.len ≤ TEXT_LIMIT;
      ordered : AreOrdered (length text) l.from left;
    }
