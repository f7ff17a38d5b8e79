-- The joined folds of a list of folds, as a list in order.
use Rattle.std.specs.Prelude.{ℕ, ◌≡◌, ◌<◌, ◌≤◌, ◌&&◌, nat_le, nat_lt, Bool, false, List, [], ◌∷◌, length}
use Rattle.std.specs.List.{All, Contains, list_any}
use Rattle.cell_units.specs.Record.{Fold}
use Rattle.cell_units.specs.Folded.{covered, inside}
use Rattle.cell_units.specs.Joined.{IsJoined, ShowsOnePlaceholder}
use Rattle.joined_folds.specs.declared.joined_fold.JoinedFold.{JoinedFold}

-- no fold hides a byte from the one offset up to the other
abbrev pub IsBare : List Fold → ℕ → ℕ → Type 0
IsBare folds from to = (k : ℕ) → from ≤ k → k < to → covered folds k ≡ false

-- the next joined fold after an offset: no fold hides a byte up to its start, and it shows one placeholder
pub record IsNext (folds : List Fold) (from : ℕ) (j : JoinedFold) : Type 0 where
  pub order : from ≤ j.start
  pub some : j.start < j.end
  pub bare : IsBare folds from j.start
  pub shows : ShowsOnePlaceholder folds j.start j.end

-- the joined folds from one offset to another are these, in order, and no fold hides a byte between them
abbrev pub AreJoined : List Fold → ℕ → List JoinedFold → ℕ → Type 0
AreJoined folds from [] to = (from ≤ to) × IsBare folds from to
AreJoined folds from (j ∷ js) to = IsNext folds from j × AreJoined folds j.end js to

-- no fold ends after the offset
abbrev pub EndBy : List Fold → ℕ → Type 0
EndBy folds n = All (λ f. f.end ≤ n) folds

-- all joined folds of folds that end by an offset
abbrev pub AreAllJoined : List Fold → ℕ → List JoinedFold → Type 0
AreAllJoined folds n js = EndBy folds n × AreJoined folds 0 js n

-- where the first one starts, and where the last one ends; `o` where there is none
abbrev pub first_start : ℕ → List JoinedFold → ℕ
first_start o [] = o
first_start o (j ∷ js) = j.start

abbrev pub last_end : ℕ → List JoinedFold → ℕ
last_end o [] = o
last_end o (j ∷ js) = last_end j.end js

-- ---- what the list is

-- the joined fold of these ends
abbrev pub joined_fold : ℕ → ℕ → JoinedFold
joined_fold s e = record { start = s; end = e }

-- each of them is a maximal chain of folds
abbrev pub EachIsJoined : Type 0
EachIsJoined = (folds : List Fold) (n : ℕ) (js : List JoinedFold) → AreAllJoined folds n js → All (λ j. IsJoined folds j.start j.end) js

-- and each maximal chain is one of them
abbrev pub EachIsListed : Type 0
EachIsListed = (folds : List Fold) (n : ℕ) (js : List JoinedFold) (s e : ℕ) → AreAllJoined folds n js → IsJoined folds s e
    → Contains js (joined_fold s e)

-- there is one such list
abbrev pub OneList : Type 0
OneList = (folds : List Fold) (n : ℕ) (js ks : List JoinedFold) → AreAllJoined folds n js → AreAllJoined folds n ks → js ≡ ks

-- a fold lies within one of them
abbrev pub EachIsWithin : Type 0
EachIsWithin = (folds : List Fold) (n : ℕ) (js : List JoinedFold) (f : Fold) → AreAllJoined folds n js → Contains folds f → f.start < f.end
    → (j : JoinedFold) × Contains js j × (j.start ≤ f.start) × (f.end ≤ j.end)

-- an offset is strictly inside one of them
abbrev pub inside_joined : List JoinedFold → ℕ → Bool
inside_joined js o = list_any (λ j. nat_lt j.start o && nat_lt o j.end) js

-- one of them hides the byte at an offset
abbrev pub covered_joined : List JoinedFold → ℕ → Bool
covered_joined js o = list_any (λ j. nat_le j.start o && nat_lt o j.end) js

-- an offset is strictly inside one of them exactly where it is strictly inside a fold, and so with the bytes that they
-- hide
abbrev pub SameTests : Type 0
SameTests = (folds : List Fold) (n : ℕ) (js : List JoinedFold) (o : ℕ) → AreAllJoined folds n js
    → (inside folds o ≡ inside_joined js o) × (covered folds o ≡ covered_joined js o)

-- there are no more of them than folds
abbrev pub NoMoreThanFolds : Type 0
NoMoreThanFolds = (folds : List Fold) (n : ℕ) (js : List JoinedFold) → AreAllJoined folds n js → length js ≤ length folds
