-- The displays so far are prepared.
use Rattle.std.proofs.Common.{◌≡◌, ◌≤◌, length, map, take, None}
use Rattle.std.specs.Prelude.{vec_len}
use Rattle.std.specs.List.{All}
use Rattle.std.specs.Vec.{vec_capacity}
use Rattle.display_sheet.specs.Changes.{change_refusal}
use Rattle.display_map.specs.Replay.{appended, present_of}
use Rattle.split_views.specs.Views.{added}
use Rattle.split_views.proofs.each.prepare.Given as goal

abbrev pub invariant-loop-display : goal.invariant-loop-display
invariant-loop-display g l = record {
  len : vec_len l.ready ≡ l.display-index;
  room : vec_capacity l.ready ≡ length l.displays;
  before : map (λ r. r.before) l.ready.items ≡ take l.display-index l.displays;
  after : map (λ r. r.after) l.ready.items ≡ map (λ h. appended h (added l.number l.change)) (take l.display-index l.displays);
  accepted : All (λ h. change_refusal (present_of h) l.change ≡ None) (take l.display-index l.displays);
  counted : l.fn.steps ≤ l.steps;
}
