-- What a split keeps.
use Rattle.std.specs.Prelude.{◌≡◌, ◌≤◌, List, [], length}
use Rattle.std.specs.declared.vec.Vec.{Vec}
use Rattle.std.specs.Vec.{vec_capacity, vec_len}
use Rattle.display_map.specs.Events.{Event}
use Rattle.display_map.specs.Replay.{History}
use Rattle.split_views.specs.Views.{AreOfOneText}

-- histories of one text, and an empty list with room for the journal of each
pub record KeepsSplit {Z : Type 0} (histories : List History) (journals : Vec (List Event) Z) : Type 0 where
  pub one_text : AreOfOneText histories
  pub none : journals.items ≡ []
  pub empty : vec_len journals ≡ 0
  pub room : length histories ≤ vec_capacity journals
