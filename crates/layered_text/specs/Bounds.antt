-- How many steps an operation on a text with its inlays and folds takes at most.
use Rattle.std.specs.Prelude.{ℕ, ◌+◌, ◌*◌, ◌^◌, ◌<◌, ◌≤◌, max, length}
use Rattle.cell_units.specs.Layers.{Source}
use Rattle.cell_units.specs.Operation.{Operation, operated}
use Rattle.cell_units.specs.Touched.{touched}
use Rattle.plain_rows.specs.Reach.{chunks_of, entries_after, entries_before, sought_in}
use Rattle.layered_text.specs.Layered.{record_of, source_after}

-- Neither the tree of the text nor those of its inlays and folds have more than h levels below their roots.
pub record HasLevels (h : ℕ) (s : Source) : Type 0 where
  pub text : length s.text < 120 * 6 ^ (h + 1)
  pub inlays : length s.inlays < 2 * 6 ^ (h + 1)
  pub folds : length s.folds < 2 * 6 ^ (h + 1)

-- How far an operation reaches in a text with its inlays and folds: the pieces of 64 bytes, and the inlays and folds
-- that it meets, before or after it, whichever are more.
abbrev pub reach_in_text : Operation → Source → ℕ
reach_in_text op s =
    let r = record_of s in
    let rows = touched op r in
    chunks_of op + max (entries_before rows r) (entries_after rows (operated op r))

-- An operation on a text takes at most so many steps, for each h that no tree needs more of, before it or after it.
abbrev pub LaysAtMost : Operation → Source → ℕ → ℕ → Type 0
LaysAtMost op s old new =
    (h : ℕ) → HasLevels h s → HasLevels h (source_after op s) →
    new ≤ old + (sought_in op (record_of s) + 1400 * (reach_in_text op s + 1) * (h + 1))

-- A text is opened in at most so many steps, however long it is: both maps show it once.
abbrev pub opening : ℕ
opening = 3216
