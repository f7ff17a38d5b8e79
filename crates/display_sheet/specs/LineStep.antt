-- Which display lines keep their marks over an operation.
use Rattle.std.specs.Prelude.{ℕ, ◌≡◌, ◌≤◌, ◌+◌, ◌-◌, not, Bool, true, false, List, [], ◌∷◌, ◌++◌, length, map, take, drop, count_by}
use Rattle.cell_units.specs.Record.{Mark, Record, plain_mark, plain_marks}
use Rattle.cell_units.specs.Operation.{Operation, operated}
use Rattle.cell_units.specs.LineCounts.{line_of_row_start, line_of_row_end}
use Rattle.cell_units.specs.Touched.{Rows, row_range, touched, touched_before, touched_after, untouched}

-- each touched line gets a fresh stamp and no width; the k-th untouched line takes the k-th of the marks that are
-- kept. Of a lawful record they are used up exactly, by the law of `step_laws`
abbrev pub handed_on : List Bool → List Mark → ℕ → List Mark
handed_on [] kept fresh = []
handed_on (true ∷ lines) kept fresh = plain_mark fresh ∷ handed_on lines kept (fresh + 1)
handed_on (false ∷ lines) [] fresh = []
handed_on (false ∷ lines) (mark ∷ kept) fresh = mark ∷ handed_on lines kept fresh

-- of each display line, whether the operation touches it: of the record before, and of the one that it leaves
abbrev pub flags_before : Operation → Record → List Bool
flags_before operation before = touched_before (touched operation before) before

abbrev pub flags_after : Operation → Record → Record → List Bool
flags_after operation before after = touched_after (touched operation before) after

-- the marks of `after`, which the operation made of `before`
abbrev pub stepped : Operation → Record → Record → Record
stepped operation before after =
    let flags = flags_after operation before after in
    let kept = untouched (flags_before operation before) before.marks in
    record after {
      marks = handed_on flags kept before.next_stamp;
      next_stamp = before.next_stamp + count_by (λ t. t) flags;
    }

-- the record after an operation, with its marks
unfoldable pub line_step : Operation → Record → Record
line_step operation r = stepped operation r (operated operation r)

-- the k-th untouched line after the operation has the mark of the k-th before
abbrev pub KeepsMarks : Operation → Record → Type 0
KeepsMarks operation r =
    untouched (flags_after operation r (operated operation r)) (line_step operation r).marks
    ≡ untouched (flags_before operation r) r.marks

-- the touched lines after it have fresh stamps, one after another, and no width
abbrev pub GivesFreshMarks : Operation → Record → Type 0
GivesFreshMarks operation r =
    let flags = flags_after operation r (operated operation r) in
    untouched (map not flags) (line_step operation r).marks
    ≡ plain_marks r.next_stamp (count_by (λ t. t) flags)

-- the operation touches the rows from that of a to that of b, and after it those from that of a' to that of b'
pub record Touches (operation : Operation) (r : Record) (a b a' b' : ℕ) : Type 0 where
  pub rows :
      touched operation r
      ≡ Rows (row_range r.text a b) (row_range (operated operation r).text a' b')
  pub order : a ≤ b
  pub within : b ≤ length r.text
  pub order_after : a' ≤ b'
  pub within_after : b' ≤ length (operated operation r).text

-- then the lines from the first touched to the last make place for as many fresh marks as there are such lines after it
abbrev pub SplicesMarks : Operation → Record → ℕ → ℕ → ℕ → ℕ → Type 0
SplicesMarks operation r a b a' b' =
    let after = operated operation r in
    let first = line_of_row_start r a in
    let count = line_of_row_end after b' + 1 - line_of_row_start after a' in
    (first ≡ line_of_row_start after a')
    × ((line_step operation r).marks
    ≡ take first r.marks
    ++ (plain_marks r.next_stamp count ++ drop (line_of_row_end r b + 1) r.marks))
