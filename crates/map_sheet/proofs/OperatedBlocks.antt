-- Which blocks an operation shows anew: those at lines that it touches.
use Rattle.std.proofs.Common.{◌≡◌, ℕ, ◌+◌, ◌<◌, ◌≤◌, ◌||◌, Bool, true, false, List, [], ◌∷◌, get_or, length, Option, None, Some, nat_lt, if◌then◌else◌, sym, ap, subst, ◌∙◌, arith, inl, inr, ◌⊎◌}
use Rattle.std.proofs.lemmas.Bool.{cases_lt, true≢false}
use Rattle.cell_units.specs.declared.place.Side.{Side}
use Rattle.cell_units.specs.declared.place.Side.TheVariants.{Above, Below}
use Rattle.cell_units.specs.declared.place.Shift.{Shift}
use Rattle.cell_units.specs.Lawful.{HasLawfulEntries, source_of}
use Rattle.cell_units.specs.LineCounts.{TouchesOneRun, lines_of}
use Rattle.cell_units.specs.Operation.{AddBlock, AddFold, AddInlay, Operation, RemoveBlock, RemoveFold, RemoveInlay, Replace, SetTab, SetWidth, operated}
use Rattle.cell_units.specs.Record.{Record}
use Rattle.cell_units.specs.Rows.{line_rows, rows_before}
use Rattle.cell_units.specs.Text.{row_of}
use Rattle.cell_units.specs.Touched.{RowRange, row_range, touched, touched_before, touched_lines}
use Rattle.cell_units.proofs.ReplacedRows.{row_of-le}
use Rattle.edit_patch.specs.declared.edit.Edit.{Edit}
use Rattle.edit_patch.specs.Came.{IsReplaced, edit_of}
use Rattle.edit_patch.specs.Fits.{replacement}
use Rattle.block_map.specs.Carried.{IsPassed, SyncsAtMost}
use Rattle.block_map.specs.Follows.{KeepsLine}
use Rattle.block_map.specs.Maps.{Kept, line_of_kept}
use Rattle.block_map.proofs.GatheredSteps.{HasRow, one-replaced}
use Rattle.block_map.proofs.LineStarts.{rows_before-next, rows_before-rises}
use Rattle.blocked_rows.specs.Laws.{AreAsMany}
use Rattle.blocked_rows.specs.Records.{IsRowSplice, IsShiftOf, Lines, kept_blocks}
use Rattle.blocked_rows.specs.Standing.{ArePlaced}
use Rattle.map_sheet.specs.Bounds.{ShowsAtMost, touched_blocks}
use Rattle.map_sheet.proofs.AnewBlocks.{shows-at_most}
use Rattle.map_sheet.proofs.TouchedLines.{end-touched, run-apart, start-touched}

-- ---- rows that stay

-- a row outside a replacement isn't replaced
stays : (a b n i : ℕ) → (i < a) ⊎ (b ≤ i) → ¬ IsReplaced (replacement a b n) i
stays a b n i outside gone = go (nat_lt a b || nat_lt 0 n) gone where
  apart : (i < a) ⊎ (b ≤ i) → ¬ HasRow i (edit_of a b a (a + n))
  apart (inl before) has = omega (arith, before, has.0)
  apart (inr behind) has = omega (arith, behind, has.1)

  go : (c : Bool) → IsReplaced (if c then edit_of a b a (a + n) ∷ [] else []) i → ⊥
  go true gone = apart outside (one-replaced (edit_of a b a (a + n)) i gone)
  go false gone = omega (arith, gone.2)

-- there is one edit at most
pub one-edit : (a b n : ℕ) → length (replacement a b n) ≤ 1
one-edit a b n = go (nat_lt a b || nat_lt 0 n) where
  go : (c : Bool) → length (if c then edit_of a b a (a + n) ∷ [] else []) ≤ 1
  go true = omega arith
  go false = omega arith

-- ---- a replacement meets blocks at touched lines alone

module _ (r : Record) (is : HasLawfulEntries r) (rows : RowRange) where
  -- a block in a touched row is at a touched line
  block-touched : (side : Side) (k : Kept) → k.offset ≤ length r.text → rows.first ≤ row_of r.text k.offset → row_of r.text k.offset ≤ rows.last
      → get_or (touched_lines rows r) (line_of_kept (source_of r) side k) false ≡ true
  block-touched Above k le from to = start-touched r is rows k.offset le from to
  block-touched Below k le from to = end-touched r is rows k.offset le from to

module _ (r : Record) (is : HasLawfulEntries r) where
  met-passes : (shift : Shift) (side : Side) (k : Kept) → k.offset ≤ length r.text
      → get_or (touched_lines (row_range r.text shift.start shift.end) r) (line_of_kept (source_of r) side k) false ≡ false → IsPassed (Some shift) k
  met-passes shift side k le off = elim (cases_lt k.offset shift.start) [
    | inl before ↦ inl before
    | inr from ↦ elim (cases_lt shift.end k.offset) [
      | inl behind ↦ inr behind
      | inr to ↦
          let rows = row_range r.text shift.start shift.end in
          let on = block-touched r is rows side k le (row_of-le r.text shift.start k.offset from) (row_of-le r.text k.offset shift.end to) in
          absurd (true≢false (sym on ∙ off))
    ]
  ]

  passes : (operation : Operation) (shift : Option Shift) → IsShiftOf operation shift → (side : Side) (k : Kept) → k.offset ≤ length r.text
      → get_or (touched_before (touched operation r) r) (line_of_kept (source_of r) side k) false ≡ false → IsPassed shift k
  passes operation None by side k le off = tt
  passes (Replace a b s) (Some shift) by side k le off =
      met-passes shift side k le
      ((λ i. get_or (touched_lines (row_range r.text (by.0 i) (by.1 i)) r) (line_of_kept (source_of r) side k) false) ∙ off)
  passes (AddInlay inlay) (Some shift) by side k le off = absurd by
  passes (RemoveInlay id) (Some shift) by side k le off = absurd by
  passes (AddFold fold) (Some shift) by side k le off = absurd by
  passes (RemoveFold id) (Some shift) by side k le off = absurd by
  passes (AddBlock row id side' lines) (Some shift) by side k le off = absurd by
  passes (RemoveBlock id) (Some shift) by side k le off = absurd by
  passes (SetTab tab) (Some shift) by side k le off = absurd by
  passes (SetWidth width) (Some shift) by side k le off = absurd by

-- ---- so

module _ (operation : Operation) (r : Record) (is : HasLawfulEntries r) (run : TouchesOneRun (touched operation r) r (operated operation r))
    (old new : Lines) (edits : List Edit) (splice : IsRowSplice old new edits run.front run.before run.after) where
  abbrev flags : List Bool
  flags = touched_before (touched operation r) r

  -- an untouched line keeps its rows
  keeps : (line : ℕ) → line < length old → get_or flags line false ≡ false → KeepsLine edits old line
  keeps line lt off =
      let a = rows_before old run.front in
      let b = rows_before old (run.front + run.before) in
      let next = rows_before-next old line lt in
      subst (λ (es : List Edit). KeepsLine es old line) (sym splice.edits_are)
      (λ k within. stays a b run.after (rows_before old line + k)
      (outside k (run-apart run.front run.before run.back line (ap (λ (fs : List Bool). get_or fs line false) (sym run.before_are) ∙ off)) next within)) where
        outside : (k : ℕ) → (line < run.front) ⊎ (run.front + run.before ≤ line)
            → rows_before old (line + 1) ≡ rows_before old line + length (line_rows old line) → k < length (line_rows old line)
            → (rows_before old line + k < rows_before old run.front) ⊎ (rows_before old (run.front + run.before) ≤ rows_before old line + k)
        outside k (inl before) next within =
            inl (omega (arith, rows_before-rises old (line + 1) run.front (omega (arith, before)), next, within))
        outside k (inr behind) next within =
            inr (omega (arith, rows_before-rises old (run.front + run.before) line behind))

  pub operated-shows : (shift : Option Shift) → IsShiftOf operation shift → length (lines_of r) ≡ length old → ArePlaced (source_of r) (kept_blocks r old) → AreAsMany
      → (start end : ℕ) → SyncsAtMost shift edits (kept_blocks r old) start end → ShowsAtMost (touched_blocks operation r) 1 r start end
  operated-shows shift by equal placed as_many start end syncs =
      let few : length edits ≤ 1 =
      omega (arith, ap length splice.edits_are, one-edit (rows_before old run.front) (rows_before old (run.front + run.before)) run.after) in
      shows-at_most r is old flags shift edits equal keeps (passes r is operation shift by) placed as_many 1 start end few syncs
