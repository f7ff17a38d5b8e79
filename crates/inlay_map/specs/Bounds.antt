-- How many steps calls on a text with inlays take at most. They are costs of a height h that neither the text's tree
-- nor the inlays' can exceed.
use Rattle.std.specs.Prelude.{ℕ, ◌+◌, ◌*◌, ◌&&◌, ◌^◌, ◌<◌, ◌≤◌, nat_le, List, length, count_by, Option, Some, None}
use Rattle.cell_units.specs.Layers.{Source}
use Rattle.cell_units.specs.Record.{Inlay}
use Rattle.text_rope.specs.Ropes.{HasHeight}
use Rattle.edit_patch.specs.Leads.{Reach}

-- neither the tree of the text nor that of n inlays is higher
abbrev pub IsHeight : ℕ → List ℕ → ℕ → Type 0
IsHeight h text n = HasHeight h text × (n < 2 * 6 ^ (h + 1))

-- a call on a text with its inlays takes at most `cost h` steps
abbrev pub TakesInlaid : (ℕ → ℕ) → Source → ℕ → ℕ → Type 0
TakesInlaid cost s old new = (h : ℕ) → IsHeight h s.text (length s.inlays) → new ≤ old + cost h

-- the same where n inlays are counted
abbrev pub TakesAmong : (ℕ → ℕ) → List ℕ → ℕ → ℕ → ℕ → Type 0
TakesAmong cost text n old new = (h : ℕ) → IsHeight h text n → new ≤ old + cost h

-- a call on a text with n inlays that searches them for an id once, on a fifth as many nodes
abbrev pub SearchesOnce : (ℕ → ℕ) → List ℕ → ℕ → ℕ → ℕ → Type 0
SearchesOnce cost text n old new = (h : ℕ) → IsHeight h text n → 5 * new ≤ 5 * old + (n + 5 * cost h)

-- a call that makes the splices of a text with its inlays from a list of m splices
abbrev pub Resplices : (ℕ → ℕ) → ℕ → Source → ℕ → ℕ → Type 0
Resplices cost m s old new = (h : ℕ) → IsHeight h s.text (length s.inlays) → m < 2 * 6 ^ (h + 1) → new ≤ old + cost h

-- a splice is measured after the one before it: its inlay, and the row of that
abbrev pub measuring : ℕ → ℕ
measuring h = 2 * (h + 1)

-- k splices are measured and put in place, with the gap after them
abbrev pub resplicing : ℕ → ℕ → ℕ
resplicing k h = 164 * (k + 1) * (h + 1)

-- one inlay and its splice are put among the others, or taken from them
abbrev pub putting : ℕ → ℕ
putting h = 524 * (h + 1)

-- and its id is judged before, and its places are looked up
abbrev pub changing : ℕ → ℕ
changing h = 529 * (h + 1)

-- the inlays that a replacement meets: those at its ends and between them
abbrev pub met : Reach → List Inlay → ℕ
met s inlays = count_by (λ i. nat_le s.start i.offset && nat_le i.offset s.end) inlays

-- none are met where there is none
abbrev pub met_by : Option Reach → List Inlay → ℕ
met_by None inlays = 0
met_by (Some s) inlays = met s inlays

-- k inlays that a replacement of the text meets are moved one by one, and their splices made anew
abbrev pub relaying : ℕ → ℕ → ℕ
relaying k h = 336 * (k + 1) * (h + 1)

-- and what it replaces of what is shown is looked up
abbrev pub syncing : ℕ → ℕ → ℕ
syncing k h = 339 * (k + 1) * (h + 1)
