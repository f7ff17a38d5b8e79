-- How many steps a call on a text takes at most, as costs of a height h that the rope's tree can't exceed.
use Rattle.std.specs.Prelude.{ℕ, ◌+◌, ◌*◌, ◌/◌, ◌≤◌, List}
use Rattle.text_rope.specs.Ropes.{HasHeight}

-- a call on the text takes at most `cost h` steps
abbrev pub TakesOnText : (ℕ → ℕ) → List ℕ → ℕ → ℕ → Type 0
TakesOnText cost text old new = (h : ℕ) → HasHeight h text → new ≤ old + cost h

-- a call that makes one text of another takes at most `cost h` steps
abbrev pub ChangesText : (ℕ → ℕ) → List ℕ → List ℕ → ℕ → ℕ → Type 0
ChangesText cost before after old new = (h : ℕ) → HasHeight h before → HasHeight h after → new ≤ old + cost h

-- so many ways from the root down to a chunk
abbrev pub ways : ℕ → ℕ → ℕ
ways count h = count * (h + 1)

-- n bytes are read: one way to each of their chunks. All of these but the first and the last have at least 60 of the
-- bytes
abbrev pub slicing : ℕ → ℕ → ℕ
slicing n h = 3 * (n / 64 + 1) * (h + 1)

-- a row of n bytes is read: its two ends are found, and then it is a slice
abbrev pub reading_row : ℕ → ℕ → ℕ
reading_row n h = 5 * (n / 64 + 1) * (h + 1)

-- n bytes take the place of a range: its ends are found and judged, and one run of chunks is made anew
abbrev pub replacing : ℕ → ℕ → ℕ
replacing n h = 166 * (n / 64 + 1) * (h + 1)
