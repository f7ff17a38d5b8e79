-- What a replacement leads from, and what to.
use Rattle.std.specs.Prelude.{◌≡◌, ℕ, ◌+◌, ◌≤◌, List, take, drop, length, Option, Some, None}
use Rattle.cell_units.specs.declared.place.Shift.{Shift}

-- a replacement by its numbers: `count` items replace those from `start` to `end`
pub record Reach : Type 0 where
  pub start : ℕ
  pub end : ℕ
  pub count : ℕ

abbrev pub reach_of : Shift → Reach
reach_of s = record { start = s.start; end = s.end; count = s.count }

-- The replacement lies within both lists. What is before it is the same in both, and so is what is after it, moved.
pub record Leads {X : Type 0} (moved : List X → List X) (old new : List X) (s : Reach) : Type 0 where
  pub within : s.end ≤ length old
  pub reaches : s.start + s.count ≤ length new
  pub before : take s.start new ≡ take s.start old
  pub behind : drop (s.start + s.count) new ≡ moved (drop s.end old)

-- none leads from a list to an equal one
abbrev pub LeadsIfAny : {X : Type 0} → (List X → List X) → List X → List X → Option Reach → Type 0
LeadsIfAny moved old new None = new ≡ old
LeadsIfAny moved old new (Some s) = Leads moved old new s

-- what is after a replacement stays as it was
abbrev pub unmoved : {X : Type 0} → List X → List X
unmoved xs = xs

-- `count` items take the place of those from `start` to `end`, and all others stay as they were
abbrev pub LeadsAt : {X : Type 0} → List X → List X → ℕ → ℕ → ℕ → Type 0
LeadsAt old new start end count = Leads unmoved old new (record { start = start; end = end; count = count })

-- the same of a replacement, if there is one
abbrev pub LeadsBy : {X : Type 0} → List X → List X → Option Shift → Type 0
LeadsBy old new None = new ≡ old
LeadsBy old new (Some s) = LeadsAt old new s.start s.end s.count
