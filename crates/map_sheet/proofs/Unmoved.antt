-- What operations make of a record that touch no line.
use Rattle.std.proofs.Common.{◌≡◌, ◌≤◌, ℕ, List, length, refl, sym, ap, subst, ◌∙◌}
use Rattle.std.proofs.lemmas.List.{length-map}
use Rattle.cell_units.specs.declared.limits.TheConstants.{LAID_LIMIT}
use Rattle.cell_units.specs.Lawful.{IsAllowed, IsLawful, source_of}
use Rattle.cell_units.specs.Operation.{AddBlock, AddFold, AddInlay, Operation, RemoveBlock, RemoveFold, RemoveInlay, Replace, SetTab, SetWidth, operated}
use Rattle.cell_units.specs.Record.{Mark, Record}
use Rattle.cell_units.specs.Touched.{NoLine, touched}
use Rattle.plain_rows.specs.Plain.{marks_of}
use Rattle.display_sheet.specs.declared.sheet.LineSplice.{LineSplice}
use Rattle.display_sheet.specs.LineStep.{line_step}
use Rattle.display_sheet.specs.Sheets.{IsOperated}
use Rattle.display_sheet.specs.Shown.{unstamped}
use Rattle.display_sheet.proofs.Relaid.{LeavesLines, lawful-unstamped, operated-none}
use Rattle.display_sheet.proofs.Sheets.{unstamped-counted, widths-marks_of}
use Rattle.display_sheet.proofs.StepLaws.{IsLawful-step}
use Rattle.kept_sheet.specs.Kept.{widths_of}
use Rattle.block_map.specs.Maps.{BlockState}
use Rattle.wrapped_lines.specs.WrappedSource as wrapped
use Rattle.wrapped_lines.specs.WrappedSource.{WrappedSource}
use Rattle.blocked_rows.specs.Records.{kept_blocks, row_texts}
use Rattle.map_sheet.specs.Changes.{ChangesBlocks, IsReblocked}
use Rattle.map_sheet.specs.Kept.{Keeps, lines_in}

abbrev no-line : LineSplice
no-line = record { first = 0; end = 0; count = 0 }

-- an operation that leaves the lines: its marks are those from before
module _ (operation : Operation) (r : Record) (is : IsLawful r) (short : length r.text ≤ LAID_LIMIT) (plain : unstamped r ≡ r) (allowed : IsAllowed operation r)
    (none : (P : Record) → touched operation P ≡ NoLine) (leaves : (P : Record) → LeavesLines operation P)
    (tab : (P : Record) → (operated operation P).tab ≡ P.tab) where
  abbrev pub after : Record
  after = record (operated operation r) { marks = marks_of (widths_of r); next_stamp = length (widths_of r) }

  plain-lists : r ≡ record r { marks = marks_of (widths_of r); next_stamp = length (widths_of r) }
  plain-lists = sym plain ∙ (λ i. record r { marks = marks_of (widths_of r); next_stamp = sym (length-map r.marks (λ (m : Mark). m.width)) i })

  pub none-operated : (splice : LineSplice) → splice.first ≡ 0 → splice.end ≡ 0 → splice.count ≡ 0 → IsOperated operation r after splice
  none-operated = operated-none r after (widths_of r) (widths_of r) operation is allowed plain-lists refl refl none leaves tab

  none-lawful : IsLawful after
  none-lawful = subst IsLawful (none-operated no-line refl refl refl r plain).1 (lawful-unstamped (line_step operation r) (IsLawful-step operation r is allowed))

  pub none-keeps : (lines : WrappedSource) → lines ≡ lines_in after → (blocks : BlockState) → blocks ≡ kept_blocks after (row_texts after) → Keeps after (source_of r) lines blocks
  none-keeps lines lines_are blocks blocks_are = record {
    lawful = none-lawful;
    short = subst (λ (t : List ℕ). length t ≤ LAID_LIMIT) (sym (leaves r).text) short;
    plain = unstamped-counted after (widths_of r) refl refl;
    source_is = λ i. record { text = sym (leaves r).text i; inlays = sym (leaves r).inlays i; folds = sym (leaves r).folds i };
    lines_are = lines_are;
    blocks_are = blocks_are;
  }

-- ---- on blocks

pub untouched : (operation : Operation) → ChangesBlocks operation → (P : Record) → touched operation P ≡ NoLine
untouched (AddBlock row id side lines) is P = refl
untouched (RemoveBlock id) is P = refl
untouched (Replace a b s) is P = absurd is
untouched (AddInlay inlay) is P = absurd is
untouched (RemoveInlay id) is P = absurd is
untouched (AddFold fold) is P = absurd is
untouched (RemoveFold id) is P = absurd is
untouched (SetTab tab) is P = absurd is
untouched (SetWidth width) is P = absurd is

pub left : (operation : Operation) → ChangesBlocks operation → (P : Record) → LeavesLines operation P
left (AddBlock row id side lines) is P = record { text = refl; inlays = refl; folds = refl }
left (RemoveBlock id) is P = record { text = refl; inlays = refl; folds = refl }
left (Replace a b s) is P = absurd is
left (AddInlay inlay) is P = absurd is
left (RemoveInlay id) is P = absurd is
left (AddFold fold) is P = absurd is
left (RemoveFold id) is P = absurd is
left (SetTab tab) is P = absurd is
left (SetWidth width) is P = absurd is

pub tab-left : (operation : Operation) → ChangesBlocks operation → (P : Record) → (operated operation P).tab ≡ P.tab
tab-left (AddBlock row id side lines) is P = refl
tab-left (RemoveBlock id) is P = refl
tab-left (Replace a b s) is P = absurd is
tab-left (AddInlay inlay) is P = absurd is
tab-left (RemoveInlay id) is P = absurd is
tab-left (AddFold fold) is P = absurd is
tab-left (RemoveFold id) is P = absurd is
tab-left (SetTab tab) is P = absurd is
tab-left (SetWidth width) is P = absurd is

width-left : (operation : Operation) → ChangesBlocks operation → (P : Record) → (operated operation P).width ≡ P.width
width-left (AddBlock row id side lines) is P = refl
width-left (RemoveBlock id) is P = refl
width-left (Replace a b s) is P = absurd is
width-left (AddInlay inlay) is P = absurd is
width-left (RemoveInlay id) is P = absurd is
width-left (AddFold fold) is P = absurd is
width-left (RemoveFold id) is P = absurd is
width-left (SetTab tab) is P = absurd is
width-left (SetWidth width) is P = absurd is

module _ (operation : Operation) (r : Record) (is : IsLawful r) (short : length r.text ≤ LAID_LIMIT) (plain : unstamped r ≡ r)
    (blocks : BlockState) (re : IsReblocked operation r blocks) where
  abbrev pub reblocked : Record
  reblocked = after operation r is short plain re.allowed (untouched operation re.changes) (left operation re.changes) (tab-left operation re.changes)

  same-lines : lines_in r ≡ lines_in reblocked
  same-lines =
      let l = left operation re.changes r in
      λ i. record {
        source = record { text = sym l.text i; inlays = sym l.inlays i; folds = sym l.folds i };
        tab = sym (tab-left operation re.changes r) i;
        width = sym (width-left operation re.changes r) i;
        marks = sym (widths-marks_of (widths_of r)) i;
      }

  same-rows : row_texts r ≡ row_texts reblocked
  same-rows = ap wrapped.row_texts same-lines

  pub reblocked-operated : (splice : LineSplice) → splice.first ≡ 0 → splice.end ≡ 0 → splice.count ≡ 0 → IsOperated operation r reblocked splice
  reblocked-operated = none-operated operation r is short plain re.allowed (untouched operation re.changes) (left operation re.changes) (tab-left operation re.changes)

  pub reblocked-keeps : Keeps reblocked (source_of r) (lines_in r) blocks
  reblocked-keeps = none-keeps operation r is short plain re.allowed (untouched operation re.changes) (left operation re.changes) (tab-left operation re.changes)
      (lines_in r) same-lines blocks (re.blocks_are ∙ ap (kept_blocks (operated operation r)) same-rows)

-- ---- on the width

module _ (cells : ℕ) (r : Record) (is : IsLawful r) (short : length r.text ≤ LAID_LIMIT) (plain : unstamped r ≡ r) (allowed : IsAllowed (SetWidth cells) r) where
  abbrev pub widened : Record
  widened = after (SetWidth cells) r is short plain allowed (λ P. refl) (λ P. record { text = refl; inlays = refl; folds = refl }) (λ P. refl)

  pub widened-operated : (splice : LineSplice) → splice.first ≡ 0 → splice.end ≡ 0 → splice.count ≡ 0 → IsOperated (SetWidth cells) r widened splice
  widened-operated = none-operated (SetWidth cells) r is short plain allowed (λ P. refl) (λ P. record { text = refl; inlays = refl; folds = refl }) (λ P. refl)

  pub widened-keeps : (lines : WrappedSource) → lines ≡ record (lines_in r) { width = cells } → Keeps widened (source_of r) lines (kept_blocks r (row_texts r))
  widened-keeps lines are = none-keeps (SetWidth cells) r is short plain allowed (λ P. refl) (λ P. record { text = refl; inlays = refl; folds = refl }) (λ P. refl)
      lines
      (are ∙ (λ i. record { source = source_of r; tab = r.tab; width = cells; marks = sym (widths-marks_of (widths_of r)) i }))
      (kept_blocks r (row_texts r))
      (λ i. kept_blocks r (wrapped.row_texts (record { source = source_of r; tab = r.tab; width = r.width; marks = sym (widths-marks_of (widths_of r)) i })))
