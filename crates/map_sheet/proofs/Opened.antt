-- The record of a text that was just opened.
use Rattle.std.proofs.Common.{◌≡◌, ◌≤◌, ◌+◌, ℕ, zero, suc, List, ◌∷◌, length, replicate, refl, sym, ap, subst, ◌∙◌, arith}
use Rattle.std.proofs.lemmas.List.{length-map, length-replicate}
use Rattle.cell_units.specs.declared.limits.TheConstants.{LAID_LIMIT}
use Rattle.cell_units.specs.Lawful.{IsLawful, IsWellFormed}
use Rattle.cell_units.specs.Layers.{Source, plain_source, shown_lines}
use Rattle.cell_units.specs.Record.{Mark, Record, line_count, opened, plain_marks}
use Rattle.cell_units.specs.Text.{IsText}
use Rattle.plain_rows.specs.Rows.{line_elements}
use Rattle.plain_rows.proofs.SpotSizes.{length-elements, lines-count_of}
use Rattle.tab_map.specs.TabLines.{lines_at}
use Rattle.display_sheet.specs.Shown.{unstamped}
use Rattle.display_sheet.proofs.Relaid.{lawful-unstamped}
use Rattle.display_sheet.proofs.Sheets.{unstamped-counted, widths, widths-marks_of}
use Rattle.kept_sheet.specs.Kept.{widths_of}
use Rattle.wrap_map.proofs.Standings.{length-pairs, texts}
use Rattle.block_map.specs.Maps.{BlockState, state_of}
use Rattle.wrapped_lines.specs.WrappedSource as wrapped
use Rattle.wrapped_lines.specs.WrappedSource.{HaveRoom, WrappedSource, unwrapped}
use Rattle.blocked_rows.specs.Records.{row_texts}
use Rattle.map_sheet.specs.Kept.{Keeps, lines_in}
use Rattle.map_sheet.proofs.Rooms.{lines-room, marks-each}

widths-plain : (stamp n : ℕ) → widths (plain_marks stamp n) ≡ replicate n 0
widths-plain stamp zero = refl
widths-plain stamp (suc n) = ap (λ (l : List ℕ). 0 ∷ l) (widths-plain (stamp + 1) n)

module _ (text : List ℕ) (is : IsLawful (opened text)) (short : length text ≤ LAID_LIMIT) where
  abbrev first : Record
  first = unstamped (opened text)

  first-lawful : IsLawful first
  first-lawful = lawful-unstamped (opened text) is

  pub opened-room : HaveRoom (lines_at (plain_source text) 4)
  opened-room = lines-room (opened text) is short

  count : length (lines_at (plain_source text) 4) ≡ line_count text
  count =
      length-elements (opened text) is short
      ∙ sym (length-map (plain_marks 0 (line_count text)) (λ (m : Mark). m.width))
      ∙ ap length (widths-plain 0 (line_count text))
      ∙ length-replicate (line_count text) 0

  lines-are : unwrapped (plain_source text) ≡ lines_in first
  lines-are = λ i. record {
    source = plain_source text;
    tab = 4;
    width = 80;
    marks =
        (ap (λ (n : ℕ). replicate n 0) count
        ∙ sym (widths-plain 0 (line_count text))
        ∙ sym (widths-marks_of (widths (plain_marks 0 (line_count text))))) i;
  }

  rows-are : wrapped.row_texts (unwrapped (plain_source text)) ≡ row_texts first
  rows-are = ap wrapped.row_texts lines-are

  pub opened-each : length (shown_lines (plain_source text)) ≡ length (wrapped.row_texts (unwrapped (plain_source text)))
  opened-each =
      omega (
        arith,
        lines-count_of first first-lawful short,
        length-elements first first-lawful short,
        length-pairs texts (line_elements first) (widths_of first) (marks-each first first-lawful short),
        ap length rows-are,
      )

  pub opened-keeps : (source : Source) → source ≡ plain_source text → (lines : WrappedSource) → lines ≡ unwrapped source → (blocks : BlockState) →
      blocks ≡ state_of (wrapped.row_texts lines) → Keeps first source lines blocks
  opened-keeps source source_is lines made blocks are =
      let laid : lines ≡ lines_in first = made ∙ ap unwrapped source_is ∙ lines-are in
      record {
        lawful = first-lawful;
        short = short;
        plain = unstamped-counted first (widths (plain_marks 0 (line_count text))) refl (sym (length-map (plain_marks 0 (line_count text)) (λ (m : Mark). m.width)));
        source_is = source_is;
        lines_are = laid;
        blocks_are = are ∙ ap state_of (ap wrapped.row_texts laid);
      }

-- what is known of a text that is shown by itself
module _ (shown layer : Source) (layer_is : layer ≡ shown) (formed : IsWellFormed layer) (rope : List ℕ) (rope_is : rope ≡ shown.text) (small : length rope ≤ LAID_LIMIT)
    (laws : (text : List ℕ) → IsText text → IsLawful (opened text)) where
  pub lawful-opened : IsLawful (opened shown.text)
  lawful-opened = laws shown.text (subst (λ (s : Source). IsText s.text) layer_is formed.text)

  pub short-opened : length shown.text ≤ LAID_LIMIT
  short-opened = subst (λ (t : List ℕ). length t ≤ LAID_LIMIT) rope_is small
