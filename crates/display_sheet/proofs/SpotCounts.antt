-- What is counted of each line of a sheet to look offsets up.
use Rattle.std.proofs.Common.{◌≡◌, ℕ, ◌+◌, ◌<◌, ◌≤◌, List, [], ◌∷◌, ◌++◌, length, map, get_or, ap, sym, ◌∙◌, subst, arith}
use Rattle.std.proofs.lemmas.List.{get_or-map, length-map}
use Rattle.std.specs.Arc.{arc_value}
use Rattle.cell_units.specs.Lawful.{IsLawful, source_of}
use Rattle.cell_units.specs.Record.{Block, Record}
use Rattle.cell_units.specs.declared.place.Side.TheVariants.{Above, Below}
use Rattle.plain_rows.specs.declared.plain.PlainBlock.{PlainBlock}
use Rattle.plain_rows.specs.declared.folded_lines.PlainSource.{PlainSource}
use Rattle.plain_rows.specs.Plain.{block_of, listed_record}
use Rattle.plain_rows.specs.FoldedLines.{LaidOut, seen}
use Rattle.plain_rows.specs.Rows.{blocks_at, line_of_block, rows_by_line}
use Rattle.plain_rows.specs.inside.BuiltRows.{block_at, no_block}
use Rattle.plain_rows.proofs.RowsInOrder.{rows_upto}
use Rattle.plain_rows.specs.inside.SpotRows.{HasFirstRows, IsLaid}
use Rattle.plain_rows.proofs.SpotShown.{widths-of}
use Rattle.plain_rows.proofs.SpotSizes.{HasRowsUpto, first-fits, upto-more}
use Rattle.display_sheet.specs.declared.wraps.Wrapped.{Wrapped}
use Rattle.display_sheet.specs.declared.sheet.Sheet.TheInside.{Inside}
use Rattle.display_sheet.specs.Sheets.{IsSheet, KeepsSheet, marks_in, record_in}
use Rattle.display_sheet.specs.Windows.{texts_at}
use Rattle.display_sheet.proofs.RowTotals.{length-texts}

module _ (r : Record) (blocks : List PlainBlock) (own : map block_of blocks ≡ r.blocks) where
  pub same-long : length blocks ≡ length r.blocks
  same-long = sym (length-map blocks block_of) ∙ ap length own

  -- the block of a number
  pub own-block : (n : ℕ) (b : PlainBlock) → n < length blocks → b ≡ get_or blocks n b → block_at r n ≡ block_of b
  own-block n b lt is =
      ap (λ (bs : List Block). get_or bs n no_block) (sym own)
      ∙ get_or-map block_of blocks n b no_block lt
      ∙ ap block_of (sym is)

  pub own-few : IsLawful r → (n : ℕ) (b : PlainBlock) → n < length blocks → b ≡ get_or blocks n b → length b.lines.items ≤ 256
  own-few lawful n b lt is =
      omega (
        arith,
        (lawful.entries.blocks.each n no_block (omega (arith, lt, same-long))).lines.few,
        ap (λ (b : Block). length b.lines) (own-block n b lt is),
      )

-- the line of a block, as it was found
pub stand-read : (r : Record) (stands : List ℕ) (n : ℕ) → stands ≡ map (line_of_block r) r.blocks → n < length r.blocks →
    get_or stands n 0 ≡ line_of_block r (block_at r n)
stand-read r stands n is lt =
    ap (λ (ls : List ℕ). get_or ls n 0) is ∙ get_or-map (line_of_block r) r.blocks n no_block 0 lt

-- ---- the rows before a line's text rows

module _ (r : Record) (wraps : List Wrapped) (laid : LaidOut) (is : IsSheet r wraps laid) (line : ℕ) (lt : line < length r.marks) where
  -- they fit, and so do those up to the line's end
  pub rows-fit : rows_upto line (rows_by_line r) + length (blocks_at r Above line) + length (texts_at r line) + length (blocks_at r Below line) < 4294967296
  rows-fit = omega (arith, first-fits r is.lawful is.laid_out.lawful.text_size line lt, length-texts r is.lawful line lt)

  -- those of one line more
  pub rows-counted : (rows : List ℕ) (row above texts below : ℕ) → HasRowsUpto r line rows row →
      above ≡ length (blocks_at r Above line) → texts ≡ length (texts_at r line) → below ≡ length (blocks_at r Below line) →
      HasRowsUpto r (line + 1) (rows ++ (row + above) ∷ []) (row + above + texts + below)
  rows-counted rows row above texts below has a t b =
      upto-more r is.lawful is.laid_out.lawful.text_size line rows row (row + above) (row + above + texts + below) lt has
      (omega (arith, a))
      (omega (arith, t, b, length-texts r is.lawful line lt))

-- ---- the record of which the display lines are laid out

module _ (v : Inside) (r : Record) (is : record_in v ≡ r) (keeps : KeepsSheet v) where
  -- it is that of the sheet
  pub laid-same : (source : PlainSource) (blocks : List PlainBlock) (widths : List ℕ) → seen source ≡ source_of r → blocks ≡ (arc_value v.blocks).items → widths ≡ map (λ m. m.width) r.marks →
      listed_record (seen source) blocks v.tab v.width widths ≡ r
  laid-same source blocks widths s b w =
      let own : seen source ≡ source_of (record_in v) = s ∙ ap source_of (sym is) in
      let wide : widths ≡ marks_in (arc_value v.wraps) = w ∙ ap (λ (r : Record). map (λ m. m.width) r.marks) (sym is) ∙ widths-of (marks_in (arc_value v.wraps)) in
      (λ i. listed_record (own i) (b i) v.tab v.width (wide i)) ∙ is

  pub laid-is : (first_rows : List ℕ) → HasFirstRows r first_rows → IsLaid r (arc_value v.lines) first_rows
  laid-is first_rows has =
      let sheet = subst (λ (r : Record). IsSheet r (arc_value v.wraps) (arc_value v.lines)) is keeps in
      record {
        lawful = sheet.lawful;
        size = sheet.laid_out.lawful.text_size;
        lines_are = sheet.laid_out;
        rows_are = has;
      }
