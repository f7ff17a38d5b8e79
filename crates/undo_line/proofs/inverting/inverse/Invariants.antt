use Rattle.std.proofs.Common.{◌≡◌, ◌+◌, ◌≤◌, ◌++◌, drop, length}
use Rattle.std.specs.Str.{IsUtf8}
use Rattle.cell_units.proofs.CutLists.{Every}
use Rattle.display_sheet.specs.declared.change.Splice.{Splice}
use Rattle.display_map.specs.Replay.{present_of}
use Rattle.display_map.specs.Splicing.{spliced_text}
use Rattle.display_map.proofs.Batches.{AreOrdered}
use Rattle.display_map.proofs.FittingBatches.{AreAtBoundaries}
use Rattle.undo_line.proofs.RunningInverses.{running}
use Rattle.undo_line.proofs.inverting.inverse.Given as goal

abbrev pub invariant-loop-splice : goal.invariant-loop-splice
invariant-loop-splice g l =
    let text = (present_of l.view).text in
    let left = drop l.splice-index l.batch in
    record {
      told : l.back.items ++ running text l.from l.at left ≡ running text 0 0 l.batch;
      fits : l.at + length (spliced_text text l.from left) ≡ length (spliced_text text 0 l.batch);
      ordered : AreOrdered (length text) l.from left;
      boundaries : AreAtBoundaries text left;
      utf8 : Every (λ (s : Splice). IsUtf8 s.text) left → Every (λ (s : Splice). IsUtf8 s.text) l.batch;
      counted : l.initial.steps ≤ l.steps;
    }
