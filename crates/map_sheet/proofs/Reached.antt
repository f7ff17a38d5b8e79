-- How far an operation reaches in a record and in its text alone, and how high the trees of both are.
use Rattle.std.proofs.Common.{◌≡◌, ℕ, ◌+◌, ◌*◌, ◌^◌, ◌<◌, ◌≤◌, max, length, refl, sym, ap, subst, ◌∙◌, arith}
use Rattle.std.proofs.lemmas.List.{length-map}
use Rattle.cell_units.specs.Folded.{display_lines}
use Rattle.cell_units.specs.Lawful.{source_of}
use Rattle.cell_units.specs.Layers.{Source, shown_lines}
use Rattle.cell_units.specs.Operation.{AddBlock, AddFold, AddInlay, Operation, RemoveBlock, RemoveFold, RemoveInlay, Replace, SetTab, SetWidth, operated}
use Rattle.cell_units.specs.Pieces.{pieces_of}
use Rattle.cell_units.specs.Record.{Record}
use Rattle.cell_units.specs.Touched.{EachLine, NoLine, Rows, Touched, touched, touched_after, touched_before}
use Rattle.plain_rows.specs.Reach.{HasHeight, blocks_at_lines, chunks_of, count_lines, entries_after, entries_before, reach_of_operation}
use Rattle.layered_text.specs.Bounds.{HasLevels, reach_in_text}
use Rattle.layered_text.specs.Layered.{record_of, source_after}
use Rattle.layered_text.proofs.Records.{source-operated}
use Rattle.map_sheet.specs.Bounds.{touched_blocks}
use Rattle.map_sheet.proofs.StepSums.{blocks-reach, text-reach}

-- ---- the trees

pub levels : (h : ℕ) (r : Record) → HasHeight h r → HasLevels h (source_of r)
levels h r high = record { text = high.text; inlays = high.inlays; folds = high.folds }

pub levels-after : (h : ℕ) (operation : Operation) (r : Record) → HasHeight h (operated operation r) → HasLevels h (source_after operation (source_of r))
levels-after h operation r high = subst (HasLevels h) (source-operated operation r) (levels h (operated operation r) high)

-- a source has as many lines as its record
pub lines-high : (h : ℕ) (r : Record) (s : Source) → s ≡ source_of r → HasHeight h r → length (shown_lines s) < 2 * 6 ^ (h + 1)
lines-high h r s same high =
    omega (arith, ap (λ (x : Source). length (shown_lines x)) same, length-map (display_lines r.text r.inlays r.folds) pieces_of, high.lines)

-- ---- how far it reaches

module _ (r : Record) where
  abbrev alone : Record
  alone = record_of (source_of r)

  touched-alone : (operation : Operation) → touched operation alone ≡ touched operation r
  touched-alone (Replace a b t) = refl
  touched-alone (AddInlay i) = refl
  touched-alone (RemoveInlay id) = refl
  touched-alone (AddFold f) = refl
  touched-alone (RemoveFold id) = refl
  touched-alone (AddBlock row id side lines) = refl
  touched-alone (RemoveBlock id) = refl
  touched-alone (SetTab tab) = refl
  touched-alone (SetWidth width) = refl

  before-alone : (t : Touched) → entries_before t alone ≡ entries_before t r
  before-alone NoLine = refl
  before-alone EachLine = refl
  before-alone (Rows before after) = refl

after-source : (t : Touched) (r : Record) → entries_after t r ≡ entries_after t (record_of (source_of r))
after-source NoLine r = refl
after-source EachLine r = refl
after-source (Rows before after) r = refl

module _ (operation : Operation) (r : Record) where
  after-alone : (t : Touched) → entries_after t (operated operation (record_of (source_of r))) ≡ entries_after t (operated operation r)
  after-alone t =
      after-source t (operated operation (record_of (source_of r)))
      ∙ ap (λ (s : Source). entries_after t (record_of s)) (sym (source-operated operation r))
      ∙ sym (after-source t (operated operation r))

  abbrev rows : Touched
  rows = touched operation r

  reach-is : reach_in_text operation (source_of r) ≡ chunks_of operation + max (entries_before rows r) (entries_after rows (operated operation r))
  reach-is =
      (λ i. chunks_of operation
      + max (entries_before (touched-alone r operation i) (record_of (source_of r))) (entries_after (touched-alone r operation i) (operated operation (record_of (source_of r)))))
      ∙ (λ i. chunks_of operation + max (before-alone r rows i) (after-alone rows i))

  abbrev lines_met : ℕ
  lines_met = count_lines (touched_before rows r) + count_lines (touched_after rows (operated operation r))

  abbrev others : ℕ
  others = blocks_at_lines (touched_after rows (operated operation r)) (operated operation r)

  pub text-within : reach_in_text operation (source_of r) ≤ reach_of_operation operation r
  text-within =
      omega (
        arith,
        reach-is,
        text-reach lines_met (chunks_of operation) (entries_before rows r) (entries_after rows (operated operation r)) (touched_blocks operation r) others,
      )

  pub blocks-within : touched_blocks operation r ≤ reach_of_operation operation r
  blocks-within = blocks-reach lines_met (chunks_of operation) (entries_before rows r) (entries_after rows (operated operation r)) (touched_blocks operation r) others
