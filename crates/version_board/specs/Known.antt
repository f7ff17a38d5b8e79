-- What a contract sees of a writer, of a reader and of what is passed on.
use Rattle.std.specs.Prelude.{◌≡◌, ◌⊎◌, true, All, List, [], ◌∷◌, ◌++◌}
use mathlib.Core.List.{IsPrefix}
use Rattle.logbook.specs.Pages.{Book}
use Rattle.display_map.specs.Versions.{Version}
use Rattle.display_map.specs.Replay.{ends}
use Rattle.version_board.specs.Rows.{BeginsWith, IsRowTo}

-- which board it is, so much of its row as is known, and the newest version of that
pub record Known : Type 0 where
  pub board : Book
  pub row : List Version
  pub newest : Version

-- the same with one more version at the end of the row
abbrev pub added : Known → Version → Known
added k next = record k { row = k.row ++ next ∷ []; newest = next }

-- what the two know are beginnings of one row
abbrev pub AgreeOnRow : Known → Known → Type 0
AgreeOnRow a b = IsPrefix a.row b.row ⊎ IsPrefix b.row a.row

-- of the row of the same board so much is known as before, or more
pub record GoesOn (old new : Known) : Type 0 where
  pub board : new.board ≡ old.board
  pub later : IsPrefix old.row new.row
  pub row : IsRowTo new.row new.newest
  pub begins : All (λ v. BeginsWith new.newest v) old.row
  pub last : ends old.newest.events ≡ true → new.newest ≡ old.newest
