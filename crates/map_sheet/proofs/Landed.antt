-- What lines that land make of a record and of its blocks.
use Rattle.std.proofs.Common.{◌≡◌, ◌≤◌, ◌^◌, ℕ, ◌<◌, List, Option, None, length, get_or, refl, sym, ap, subst, ◌∙◌, arith}
use Rattle.std.specs.List.{All}
use Rattle.std.proofs.lemmas.List.{get_or-map, length-map}
use Rattle.cell_units.specs.declared.limits.TheConstants.{LAID_LIMIT}
use Rattle.cell_units.specs.Lawful.{IsLawful, IsWidth, source_of}
use Rattle.cell_units.specs.Layers.{Source}
use Rattle.cell_units.specs.Operation.{SetWidth}
use Rattle.cell_units.specs.Record.{Mark, Record, plain_mark}
use Rattle.cell_units.specs.Rows.{all_rows}
use Rattle.edit_patch.specs.declared.edit.Edit.{Edit}
use Rattle.plain_rows.specs.Plain.{marks_of}
use Rattle.plain_rows.specs.Rows.{line_elements}
use Rattle.display_sheet.specs.Landing.{landed_at, with_landed_lines}
use Rattle.display_sheet.proofs.LandedCounts.{length-landed, widths-landed}
use Rattle.display_sheet.proofs.Sheets.{length-marks_of, unstamped-counted, widths-marks_of}
use Rattle.kept_sheet.specs.Kept.{widths_of}
use Rattle.wrap_map.specs.Standing.{Standing}
use Rattle.wrap_map.proofs.Landed.{length-shown}
use Rattle.wrap_map.proofs.Snapshots.{shown-have-rows}
use Rattle.block_map.specs.Follows.{GoesTo, IsFollowed, KeepsLine}
use Rattle.block_map.specs.Maps.{BlockState, synced}
use Rattle.wrapped_lines.specs.Changed.{IsLandedAt}
use Rattle.wrapped_lines.specs.Places.{marks_at}
use Rattle.wrapped_lines.specs.WrappedSource as wrapped
use Rattle.wrapped_lines.specs.WrappedSource.{WrappedSource}
use Rattle.wrapped_lines.proofs.KeptLines.{kept-lines}
use Rattle.wrapped_lines.proofs.SetMarks.{are-set}
use Rattle.blocked_rows.specs.Laws.{FollowsRows, MovesWithRecord, PlacesBlocks}
use Rattle.blocked_rows.specs.Records.{kept_blocks, row_texts}
use Rattle.map_sheet.specs.Kept.{Keeps, lines_in}
use Rattle.map_sheet.proofs.Rooms.{marks-each, rows-each, rows-room}

abbrev Lines : Type 0
Lines = List (List (List ℕ))

module _ (r : Record) (lawful : IsLawful r) (small : length r.text ≤ LAID_LIMIT) (places : List (Option ℕ)) (lines : WrappedSource) (rows : List Edit)
    (landed : IsLandedAt (lines_in r) places lines rows) where
  abbrev stood : Standing
  stood = record { lines = line_elements r; marks = widths_of r }

  abbrev now : Standing
  now = record { lines = line_elements r; marks = marks_at places r.width (widths_of r) }

  abbrev was : Lines
  was = row_texts r

  abbrev is : Lines
  is = wrapped.row_texts lines

  one_each : length (widths_of r) ≡ length (line_elements r)
  one_each = marks-each r lawful small

  now-each : length (marks_at places r.width (widths_of r)) ≡ length (line_elements r)
  now-each = ap length (are-set places r.width (widths_of r)) ∙ length-landed r.width places (widths_of r) ∙ one_each

  are : length is ≡ length (line_elements r)
  are = ap (λ (w : WrappedSource). length (wrapped.row_texts w)) landed.made ∙ length-shown now now-each

  were : length was ≡ length (line_elements r)
  were = length-shown stood one_each

  -- ---- the record

  abbrev ws : List ℕ
  ws = landed_at r.width places (widths_of r)

  abbrev pub after : Record
  after = with_landed_lines r.width places r

  long : length ws ≡ length r.marks
  long = length-landed r.width places (widths_of r) ∙ length-map r.marks (λ (m : Mark). m.width)

  widths-kept : All IsWidth (widths_of r)
  widths-kept k d lt =
      let own : k < length r.marks = omega (arith, lt, length-map r.marks (λ (m : Mark). m.width)) in
      subst IsWidth (sym (get_or-map (λ (m : Mark). m.width) r.marks k (plain_mark 0) d own)) (lawful.widths k (plain_mark 0) own)

  after-lawful : IsLawful after
  after-lawful = record {
    entries = record { source = lawful.entries.source; blocks = lawful.entries.blocks; tab = lawful.entries.tab; width = lawful.entries.width };
    marked = length-marks_of ws ∙ long ∙ lawful.marked;
    widths = λ k d lt.
        let own : k < length ws = omega (arith, lt, length-marks_of ws) in
        let all = widths-landed r.width places (widths_of r) lawful.entries.width widths-kept in
        let at : get_or ws k d.width ≡ (get_or (marks_of ws) k d).width =
        ap (λ (vs : List ℕ). get_or vs k d.width) (sym (widths-marks_of ws))
        ∙ get_or-map (λ (m : Mark). m.width) (marks_of ws) k d d.width lt in
        subst IsWidth at (all k d.width own);
  }

  lines-after : lines ≡ lines_in after
  lines-after =
      landed.made
      ∙ (λ i. record {
        source = source_of r;
        tab = r.tab;
        width = r.width;
        marks = (are-set places r.width (widths_of r) ∙ sym (widths-marks_of ws)) i;
      })

  rows-after : is ≡ row_texts after
  rows-after = ap wrapped.row_texts lines-after

  -- ---- the blocks

  few : length (all_rows is) ≤ 2 ^ 31
  few = omega (arith, rows-room after after-lawful small, ap (λ (ls : Lines). length (all_rows ls)) rows-after)

  -- a line of which each row is kept stays where it is
  goes : (line : ℕ) → line < length was → KeepsLine rows was line → GoesTo rows was is line line
  goes line lt keeps =
      let kept = kept-lines (lines_in r) lines places rows one_each landed line lt keeps in
      record { there = kept.there; size = kept.size; rows = kept.rows }

  pub landed-followed : FollowsRows → PlacesBlocks → IsFollowed (source_of r) None rows is (kept_blocks r was)
  landed-followed follows puts =
      follows r lawful.entries is rows (kept_blocks r was) (puts r lawful.entries was (rows-each r lawful small) (rows-room r lawful small))
      (record { have = shown-have-rows stood; as_many = were ∙ sym are; stay = goes; fits = landed.fits; room = few })

  pub landed-keeps : MovesWithRecord → (source : Source) → source ≡ source_of r → (blocks : BlockState) → blocks ≡ synced source None is (kept_blocks r was) →
      Keeps after source lines blocks
  landed-keeps moves source source_is blocks made = record {
    lawful = after-lawful;
    short = small;
    plain = unstamped-counted after ws refl (sym long);
    source_is = source_is;
    lines_are = lines-after;
    blocks_are = made ∙ (λ i. synced (source_is i) None (rows-after i) (kept_blocks r was)) ∙ moves (SetWidth r.width) r tt None tt was (row_texts after);
  }
