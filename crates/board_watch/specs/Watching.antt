-- What watchers see of the versions on a board.
use Rattle.std.specs.Prelude.{ℕ, ◌≡◌, ◌+◌, ◌<◌, ◌≤◌, Bool, true, false, All, Contains, List, [], ◌∷◌, ◌++◌, length}
use mathlib.Core.List.{IsPrefix}
use Rattle.plain_rows.specs.Rows.{rows_of}
use Rattle.display_map.specs.Versions.{Version}
use Rattle.display_map.specs.Replay.{History, present_of, versions_of}
use Rattle.version_board.specs.Known.{Known}
use Rattle.version_board.specs.Rows.{IsPublished}
use Rattle.board_watch.specs.declared.seen.Seen.{Seen}
use Rattle.board_watch.specs.declared.seen.Watched.{Watched}

-- what is seen of a version: its number, and how many rows its record has
pub record IsSeenOf (version : Version) (seen : Seen) : Type 0 where
  pub number : seen.version + 1 ≡ versions_of version.events
  pub rows : seen.rows ≡ length (rows_of (present_of version))

-- it was seen of one of these versions
abbrev pub IsSeenAmong : List Version → Seen → Type 0
IsSeenAmong versions seen = (version : Version) × Contains versions version × IsSeenOf version seen

-- it was seen of a version of the history: one whose journal is a prefix of the history's
pub record IsSeenIn (history : History) (seen : Seen) : Type 0 where
  pub version : Version
  pub opening : version.opening ≡ history.opening
  pub front : IsPrefix version.events history.events
  pub published : IsPublished version
  pub seen_of : IsSeenOf version seen

-- the numbers of versions rise, and none is below this one
abbrev pub AreRising : ℕ → List Seen → Type 0
AreRising least [] = Unit {0}
AreRising least (seen ∷ more) = (least ≤ seen.version) × AreRising (seen.version + 1) more

-- a watcher: what it knows of the row of versions, and what it saw
pub record Watching : Type 0 where
  pub known : Known
  pub seen : List Seen

-- what a watcher saw in order, of versions of its row
pub record IsWatching (watching : Watching) : Type 0 where
  pub rising : AreRising 0 watching.seen
  pub each : All (IsSeenAmong watching.known.row) watching.seen

-- what a watcher knew of its row and what it saw, it still knows and has
pub record WatchesOn (old new : Watching) : Type 0 where
  pub board : new.known.board ≡ old.known.board
  pub row : IsPrefix old.known.row new.known.row
  pub seen : IsPrefix old.seen new.seen

-- what is given begins with all that the watcher saw
abbrev pub Gives : Watching → Watched → Type 0
Gives watching watched = IsPrefix watching.seen watched.seen.items

-- what a watcher saw of a history, the last of it of the history's newest version
pub record IsWatched (history : History) (seen : List Seen) : Type 0 where
  pub rising : AreRising 0 seen
  pub each : All (IsSeenIn history) seen
  pub before : List Seen
  pub newest : Seen
  pub last : seen ≡ before ++ newest ∷ []
  pub newest_of : IsSeenOf history newest

-- what was seen is after the last that was kept, or there is one already that isn't older
abbrev pub HasKept : List Seen → Seen → List Seen → Bool → Type 0
HasKept old seen new true =
    (new ≡ old ++ seen ∷ []) × ((before : List Seen) (last : Seen) → old ≡ before ++ last ∷ [] → last.version < seen.version)
HasKept old seen new false =
    (new ≡ old) × ((before : List Seen) × (last : Seen) × (old ≡ before ++ last ∷ []) × (seen.version ≤ last.version))
