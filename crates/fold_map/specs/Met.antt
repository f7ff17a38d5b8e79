-- Which joined folds a change meets.
use Rattle.std.specs.Prelude.{ℕ, ◌≡◌, ◌+◌, nat_le, min, if◌then◌else◌, List, ◌++◌, length, Option, Some, None}
use Rattle.joined_folds.specs.declared.joined_fold.JoinedFold.{JoinedFold}
use Rattle.joined_folds.specs.JoinedLists.{last_end}
use Rattle.joined_folds.specs.Windows.{AreParted, window_of}
use Rattle.fold_map.specs.declared.met.Change.{Change}
use Rattle.fold_map.specs.declared.met.Met.{Met}
use Rattle.fold_map.specs.declared.met.MetEnd.{MetEnd}

-- where the next joined fold starts, if that is before the change
abbrev pub start_met : ℕ → Option JoinedFold → ℕ
start_met start None = start
start_met start (Some j) = min start j.start

-- the next joined fold counts where it starts by the end of the change
abbrev pub end_met : ℕ → ℕ → Option JoinedFold → MetEnd
end_met index end None = record { index = index; offset = end }
end_met index end (Some j) = if nat_le j.start end then record { index = index + 1; offset = j.end } else record { index = index; offset = end }

-- Joined folds in three parts, of which the change meets the second.
pub record IsMetBy (js : List JoinedFold) (c : Change) (m : Met) : Type 0 where
  pub front : List JoinedFold
  pub met : List JoinedFold
  pub back : List JoinedFold
  pub parts : js ≡ front ++ (met ++ back)
  pub parted : AreParted c.start c.end front met back
  pub first : m.first ≡ length front
  pub last : m.last ≡ length front + length met
  pub base : m.base ≡ last_end 0 front
  pub window : m.window ≡ window_of c.start c.end c.last met
