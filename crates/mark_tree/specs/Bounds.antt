-- How many steps calls on marks and ranges take at most. Like those of sum trees, they are costs of a height h that the
-- tree can't exceed.
use Rattle.std.specs.Prelude.{ℕ, ◌+◌, ◌*◌, ◌^◌, ◌<◌, ◌≤◌}
use Rattle.sum_tree.specs.Bounds.{replacing, way}

-- A call by an id may look at every entry of a list of n, on a fifth as many nodes. It takes at most `cost h` steps
-- beside that.
abbrev pub SearchesAndTakes : (ℕ → ℕ) → ℕ → ℕ → ℕ → Type 0
SearchesAndTakes cost n old new = (h : ℕ) → n < 2 * 6 ^ (h + 1) → 5 * new ≤ 5 * old + (n + 5 * cost h)

-- The places of those that a replacement meets are found by a way down to the first, and mostly one to those after it.
abbrev pub both_ends : ℕ → ℕ
both_ends h = 2 * (h + 1)

-- A place in order is found by two ways down to those at its offset, and by halving among these: at most 34 ways.
abbrev pub halving : ℕ → ℕ
halving h = 34 * (h + 1)

-- k things in the place of others: two ways down to what is before and after, and one replacement of k + 1 entries.
abbrev pub splicing : ℕ → ℕ → ℕ
splicing k h = 2 * way h + replacing (k + 1) h

-- One thing taken off: a way down to it, and what comes after it is spliced.
abbrev pub taking : ℕ → ℕ
taking h = way h + splicing 0 h

-- One thing put in order: its place is found and its neighbours are spliced.
abbrev pub adding : ℕ → ℕ
adding h = 196 * (h + 1)

-- One thing added or taken off by its id, which is sought before.
abbrev pub changing : ℕ → ℕ
changing h = 200 * (h + 1)

-- A replacement of text cuts the list once, and sets each of the marks that it meets anew.
abbrev pub moving : ℕ → ℕ → ℕ
moving met h = 170 * (h + 1) * (met + 1)

-- The first range that reaches an offset is found by a cut and two ways down.
abbrev pub reaching : ℕ → ℕ
reaching h = 81 * (h + 1)

-- Those of k things from a place on that a replacement meets are set anew.
abbrev pub moving_run : ℕ → ℕ → ℕ
moving_run k h = 162 * (h + 1) + 5 * (h + 1) * k

-- those before a replacement, of which it meets some
abbrev pub shrinking_before : ℕ → ℕ → ℕ
shrinking_before met h = 250 * (h + 1) * met + 81 * (h + 1)

-- A replacement of text sets each of the ranges that it meets anew, start by start.
abbrev pub shrinking : ℕ → ℕ → ℕ
shrinking met h = 250 * (h + 1) * (met + 1)

-- the next range that is met: it is the first that reaches the start
abbrev pub next_meeting : ℕ → ℕ
next_meeting h = 82 * (h + 1)

-- Each range that is met is found from the one before it.
abbrev pub meeting : ℕ → ℕ → ℕ
meeting met h = 82 * (h + 1) * (met + 1)
