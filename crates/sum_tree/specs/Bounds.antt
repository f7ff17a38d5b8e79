-- How many steps a call on a list takes at most. A step is one node that is opened or made. Bounds are given for each h
-- such that n items are fewer than 2 * 6 ^ (h + 1). Their tree has at most h levels below its root.
use Rattle.std.specs.Prelude.{ℕ, ◌+◌, ◌-◌, ◌*◌, ◌^◌, ◌<◌, ◌≤◌, min}

-- a call on n items takes at most `cost h` steps
abbrev pub TakesAtMost : (ℕ → ℕ) → ℕ → ℕ → ℕ → Type 0
TakesAtMost cost n old new = (h : ℕ) → n < 2 * 6 ^ (h + 1) → new ≤ old + cost h

-- a call that makes n items of m takes at most `cost h` steps
abbrev pub ChangesAtMost : (ℕ → ℕ) → ℕ → ℕ → ℕ → ℕ → Type 0
ChangesAtMost cost m n old new = (h : ℕ) → m < 2 * 6 ^ (h + 1) → n < 2 * 6 ^ (h + 1) → new ≤ old + cost h

-- a call opens at least so many nodes; the counter stays at the greatest u64
abbrev pub OpensAtLeast : ℕ → ℕ → ℕ → Type 0
OpensAtLeast count old new = min (old + count) (2 ^ 64 - 1) ≤ new

-- a call on n items opens at least one node of each level that so many items need. A node has at most 12 of them
abbrev pub OpensEachLevel : ℕ → ℕ → ℕ → Type 0
OpensEachLevel n old new = (h : ℕ) → 12 ^ h < n → OpensAtLeast (h + 1) old new

-- One way from the root down opens one node on each level.
abbrev pub way : ℕ → ℕ
way h = h + 1

-- A search that may look at every item opens each node once. A node that is no root has at least 6 entries, so there
-- are at most a fifth as many nodes as items.
abbrev pub Searches : ℕ → ℕ → ℕ → Type 0
Searches n old new = 5 * new ≤ 5 * old + (n + 5)

-- A tree of fewer than 2^32 items has no more levels below its root.
abbrev pub highest : ℕ
highest = 11

-- Two trees are joined on the way down the higher one.
abbrev pub joining : ℕ
joining = 38

-- An item at the end is put into the last leaf, or two leaves take its place. Else the way down was in vain, and a leaf
-- is made of the item and joined to the tree.
abbrev pub pushing : ℕ
pushing = way highest + (1 + joining)

-- A cut goes one way down, and on each level joins what lies before it and what lies after it.
abbrev pub cutting : ℕ → ℕ
cutting h = 79 * h + 3

-- A list of k items makes a tree bottom up.
abbrev pub building : ℕ → ℕ
building k = 4 * (k + 1)

-- Three trees that take the place of one: it is cut twice, and they are joined.
abbrev pub cuts_and_joins : ℕ → ℕ
cuts_and_joins h = 2 * cutting h + 2 * joining

-- k items are put in place. Else the way down was in vain, and a tree of them is made, which is spliced in.
abbrev pub replacing : ℕ → ℕ → ℕ
replacing k h = way h + (building k + cuts_and_joins h)
