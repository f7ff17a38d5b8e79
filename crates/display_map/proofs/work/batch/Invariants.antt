use Rattle.std.proofs.Common.{◌≡◌, ℕ, ◌≤◌, [], ◌∷◌, length, map, drop}
use Rattle.display_sheet.specs.Changes.{batch, replacement}
use Rattle.display_sheet.specs.declared.change.Splice.{Splice}
use Rattle.kept_sheet.specs.Bounds.{ReplacesAtMost}
use Rattle.display_map.specs.Events.{Did}
use Rattle.display_map.specs.Replay.{History, appended}
use Rattle.display_map.specs.Works.{KeepsWork}
use Rattle.display_map.proofs.work.batch.Given as goal

abbrev pub invariant-loop-i : goal.invariant-loop-i
invariant-loop-i g l = record {
  kept :
      (h : History) (versions jobs : ℕ) → KeepsWork h (g.S.Sheet.kept l.sheet) l.outs versions jobs →
      KeepsWork (appended h (map Did (batch (drop l.i l.splices)))) (g.S.Sheet.kept l.now) l.carried.items versions jobs;
  counted : l.initial.steps ≤ l.steps;
  unbegun : l.i ≡ length l.splices → (l.steps ≡ l.initial.steps) × (g.S.Sheet.kept l.now ≡ g.S.Sheet.kept l.sheet);
  took :
      (splice : Splice) → l.splices ≡ splice ∷ [] → l.i ≡ 0 →
      ReplacesAtMost (replacement splice) (g.S.Sheet.kept l.sheet) l.initial.steps l.steps;
}
