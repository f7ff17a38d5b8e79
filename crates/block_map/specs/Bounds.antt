-- How many steps calls on rows with blocks between them take at most. They are costs of a height h that neither tree of
-- stops can exceed.
use Rattle.std.specs.Prelude.{ℕ, ◌+◌, ◌*◌, ◌^◌, ◌<◌, ◌≤◌, length}
use Rattle.block_map.specs.Between.{Between}

-- neither tree of stops is higher
abbrev pub IsHeight : ℕ → Between → Type 0
IsHeight h b = (length b.above < 2 * 6 ^ (h + 1)) × (length b.below < 2 * 6 ^ (h + 1))

-- a call takes at most `cost h` steps
abbrev pub TakesBetween : (ℕ → ℕ) → Between → ℕ → ℕ → Type 0
TakesBetween cost b old new = (h : ℕ) → IsHeight h b → new ≤ old + cost h

-- a way down the trees of both sides
abbrev pub both_ways : ℕ → ℕ
both_ways h = 2 * (h + 1)

-- the text row in whose zone a row lies is found by at most 32 ways down the trees of both sides
abbrev pub zoning : ℕ → ℕ
zoning h = 64 * (h + 1)

-- what is at a place of a zone
abbrev pub finding : ℕ → ℕ
finding h = 2 * (h + 1)

-- a row is sought and read
abbrev pub reading : ℕ → ℕ
reading h = 66 * (h + 1)

-- a row is sought, and where in its zone the text row is
abbrev pub locating : ℕ → ℕ
locating h = 65 * (h + 1)

-- a row is sought, and one of a run of rows from it on is read
abbrev pub walking : ℕ → ℕ
walking h = 67 * (h + 1)

-- a stop is put among others, or taken out: its neighbours are looked up, and one replacement is made
abbrev pub putting : ℕ → ℕ
putting h = 170 * (h + 1)

-- a stop is put at the row of the one before it
abbrev pub inserting : ℕ → ℕ
inserting h = 171 * (h + 1)

-- ---- a block that is added or taken out

-- A call may look at every one of n blocks twice, each time on a fifth as many nodes. It takes at most `cost h` steps
-- beside that.
abbrev pub SearchesTwice : (ℕ → ℕ) → ℕ → ℕ → ℕ → Type 0
SearchesTwice cost n old new = (h : ℕ) → n < 2 * 6 ^ (h + 1) → 5 * new ≤ 5 * old + (2 * n + 5 * cost h)

-- each of n blocks is looked at once, in one tree or the other
abbrev pub SearchesBoth : ℕ → ℕ → ℕ → Type 0
SearchesBoth n old new = 5 * new ≤ 5 * old + (n + 10)

-- a call takes at most one step for each of n blocks, which are looked at three times, and `cost h` beside
abbrev pub TakesOneEach : (ℕ → ℕ) → ℕ → ℕ → ℕ → Type 0
TakesOneEach cost n old new = (h : ℕ) → n < 2 * 6 ^ (h + 1) → new ≤ old + (n + cost h)

-- on its side the marks follow the last replacement, a mark and an anchor are put in or taken out, and a stop
abbrev pub altering_side : ℕ → ℕ
altering_side h = 741 * (h + 1)

abbrev pub altering : ℕ → ℕ
altering h = 744 * (h + 1)

-- ---- a `sync`

-- the place of a block of which nothing is shown yet is found from its anchor
abbrev pub seeking : ℕ → ℕ
seeking h = 35 * (h + 1)

-- the places of the blocks to be shown anew are found: by the replacement, from so many anchors, and by so many edits
abbrev pub gathering : ℕ → ℕ → ℕ → ℕ
gathering anchors edits h = (35 * anchors + 2 * edits + 2) * (h + 1)

-- the replacement moves marks, of which it meets some, so many stops are made anew, and so many edits carry the others
abbrev pub remaking : ℕ → ℕ → ℕ → ℕ → ℕ
remaking met anew edits h = (170 * met + 341 * anew + 340 * edits + 170) * (h + 1)

-- of one side the marks follow the replacement before and then this one. So many blocks are shown anew, and so many
-- edits move the others
abbrev pub syncing_side : ℕ → ℕ → ℕ → ℕ
syncing_side anew edits h = (546 * anew + 342 * edits + 342) * (h + 1)

-- of both sides together
abbrev pub syncing : ℕ → ℕ → ℕ → ℕ
syncing anew edits h = (546 * anew + 684 * edits + 684) * (h + 1)
