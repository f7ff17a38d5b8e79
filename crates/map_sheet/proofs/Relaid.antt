-- What an operation makes of the blocks, once it is known what it makes of the lines.
use Rattle.std.proofs.Common.{◌≡◌, ◌≤◌, ◌+◌, ℕ, List, Option, Some, drop, length, replicate, take, refl, sym, ap, subst, ◌∙◌, arith, append_assoc}
use Rattle.cell_units.specs.declared.limits.TheConstants.{LAID_LIMIT}
use Rattle.cell_units.specs.declared.place.Shift.{Shift}
use Rattle.cell_units.specs.Lawful.{IsLawful, source_of}
use Rattle.cell_units.specs.Layers.{Source}
use Rattle.cell_units.specs.Operation.{Operation, operated}
use Rattle.cell_units.specs.Record.{Record}
use Rattle.cell_units.specs.Rows.{all_rows, rows_before}
use Rattle.edit_patch.specs.declared.edit.Edit.{Edit}
use Rattle.edit_patch.specs.Fits.{replacement}
use Rattle.edit_patch.specs.Leads.{LeadsAt}
use Rattle.plain_rows.specs.Rows.{line_elements}
use Rattle.display_sheet.specs.declared.sheet.LineSplice.{LineSplice}
use Rattle.display_sheet.specs.Sheets.{IsOperated}
use Rattle.display_sheet.specs.Shown.{unstamped}
use Rattle.display_sheet.proofs.Sheets.{unstamped-counted, widths-marks_of}
use Rattle.display_sheet.specs.LineSplices.{spliced}
use Rattle.kept_sheet.specs.Kept.{widths_of}
use Rattle.wrap_map.specs.Standing.{Standing, marks_after}
use Rattle.wrap_map.proofs.Snapshots.{shown-have-rows}
use Rattle.block_map.specs.Carried.{SyncsAtMost}
use Rattle.block_map.specs.Follows.{IsFollowed}
use Rattle.block_map.specs.Maps.{BlockState, synced}
use Rattle.wrapped_lines.specs.WrappedSource as wrapped
use Rattle.wrapped_lines.specs.WrappedSource.{WrappedSource}
use Rattle.blocked_rows.specs.Laws.{AreAsMany, FollowsOperations, MovesWithRecord, PlacesBlocks}
use Rattle.blocked_rows.specs.Records.{IsRowSplice, kept_blocks, row_texts}
use Rattle.blocked_rows.specs.Standing.{ArePlaced}
use Rattle.blocked_rows.proofs.LinesShown.{shown-before, shown-lead}
use Rattle.map_sheet.specs.Bounds.{ShowsAtMost, touched_blocks}
use Rattle.map_sheet.specs.Changes.{IsRelaid}
use Rattle.map_sheet.specs.Kept.{Keeps, lines_in}
use Rattle.map_sheet.proofs.OperatedBlocks.{operated-shows}
use Rattle.map_sheet.proofs.Operating.{after_of, lawful-after, operated-by}
use Rattle.map_sheet.proofs.Rooms.{marks-each, rows-each, rows-room}

abbrev Lines : Type 0
Lines = List (List (List ℕ))

module _ (operation : Operation) (r : Record) (is : IsLawful r) (small : length r.text ≤ LAID_LIMIT) (plain : unstamped r ≡ r)
    (source : Source) (lines : WrappedSource) (run : Shift) (rows : List Edit) (shift : Option Shift)
    (re : IsRelaid operation r source lines run rows shift) where
  abbrev pub after : Record
  after = after_of operation r run.start run.end run.count

  pub after-lawful : IsLawful after
  after-lawful = lawful-after operation r run.start run.end run.count is re.allowed (re.splices r plain)

  pub is-operated : (splice : LineSplice) → splice.first ≡ run.start → splice.end ≡ run.end → splice.count ≡ run.count → IsOperated operation r after splice
  is-operated splice a b c = operated-by operation r run.start run.end run.count re.splices after refl splice a b c

  -- ---- the lines

  abbrev ws : List ℕ
  ws = spliced run.start run.end run.count 0 (widths_of r)

  abbrev laid : WrappedSource
  laid = record { source = source; tab = (operated operation r).tab; width = r.width; marks = marks_after (Some run) (widths_of r) }

  spliced-marks : marks_after (Some run) (widths_of r) ≡ ws
  spliced-marks = append_assoc (take run.start (widths_of r)) (replicate run.count 0) (drop run.end (widths_of r))

  pub lines-after : lines ≡ lines_in after
  lines-after =
      re.lines_are.made
      ∙ (λ i. record {
        source = re.source_is i;
        tab = (operated operation r).tab;
        width = sym re.width_is i;
        marks = (spliced-marks ∙ sym (widths-marks_of ws)) i;
      })

  rows-after : wrapped.row_texts lines ≡ row_texts after
  rows-after = ap wrapped.row_texts lines-after

  -- ---- the blocks

  pub blocks-after : MovesWithRecord → synced source shift (wrapped.row_texts lines) (kept_blocks r (row_texts r)) ≡ kept_blocks after (row_texts after)
  blocks-after moves =
      (λ i. synced (re.source_is i) shift (rows-after i) (kept_blocks r (row_texts r)))
      ∙ moves operation r re.leaves shift re.shift_is (row_texts r) (row_texts after)

  one_each : length (widths_of r) ≡ length (line_elements r)
  one_each = marks-each r is small

  leads : LeadsAt (line_elements r) (wrapped.lines_of laid) run.start run.end run.count
  leads = subst (λ (w : WrappedSource). LeadsAt (line_elements r) (wrapped.lines_of w) run.start run.end run.count) re.lines_are.made re.lines_are.leads

  abbrev stood : Standing
  stood = record { lines = line_elements r; marks = widths_of r }

  rows-laid : wrapped.row_texts lines ≡ wrapped.row_texts laid
  rows-laid = ap wrapped.row_texts re.lines_are.made

  rows-lead : LeadsAt (row_texts r) (wrapped.row_texts lines) run.start run.end run.count
  rows-lead = subst (λ (ls : Lines). LeadsAt (row_texts r) ls run.start run.end run.count) (sym rows-laid) (shown-lead stood (wrapped.lines_of laid) run one_each leads)

  rows-single : rows_before (wrapped.row_texts lines) (run.start + run.count) ≡ rows_before (row_texts r) run.start + run.count
  rows-single = ap (λ (ls : Lines). rows_before ls (run.start + run.count)) rows-laid ∙ shown-before stood (wrapped.lines_of laid) run one_each leads

  -- the edit of rows replaces those of the lines that the operation touches
  pub rows-spliced : let t = re.touches.touches in IsRowSplice (row_texts r) (wrapped.row_texts lines) rows t.front t.before t.after
  rows-spliced =
      let t = re.touches.touches in
      let old = row_texts r in
      let new = wrapped.row_texts lines in
      record {
        have = shown-have-rows stood;
        leads =
            subst (λ (n : ℕ). LeadsAt old new t.front (t.front + t.before) n) re.touches.count_is
            (subst (λ (n : ℕ). LeadsAt old new t.front n run.count) re.touches.end_is
            (subst (λ (n : ℕ). LeadsAt old new n run.end run.count) re.touches.start_is rows-lead));
        single =
            (λ i. rows_before new (sym re.touches.start_is i + sym re.touches.count_is i))
            ∙ rows-single
            ∙ (λ i. rows_before old (re.touches.start_is i) + re.touches.count_is i);
        edits_are =
            re.lines_are.rows_are
            ∙ (λ i. replacement (rows_before old (re.touches.start_is i)) (rows_before old (re.touches.end_is i)) (re.touches.count_is i));
        fits = re.lines_are.fits;
        room = omega (arith, rows-room after after-lawful re.short, ap (λ (ls : Lines). length (all_rows ls)) rows-after);
      }

  placed : PlacesBlocks → ArePlaced (source_of r) (kept_blocks r (row_texts r))
  placed places = places r is.entries (row_texts r) (rows-each r is small) (rows-room r is small)

  pub is-followed : FollowsOperations → PlacesBlocks → IsFollowed source shift rows (wrapped.row_texts lines) (kept_blocks r (row_texts r))
  is-followed follows places =
      let new = wrapped.row_texts lines in
      let s = kept_blocks r (row_texts r) in
      subst (λ (x : Source). IsFollowed x shift rows new s) (sym re.source_is)
      (follows operation r is.entries re.allowed re.touches.touches shift re.shift_is new rows s (placed places) rows-spliced)

  -- blocks at touched lines are shown anew
  pub is-shown : PlacesBlocks → AreAsMany → (start end : ℕ) → SyncsAtMost shift rows (kept_blocks r (row_texts r)) start end
      → ShowsAtMost (touched_blocks operation r) 1 r start end
  is-shown places as_many start end syncs =
      operated-shows operation r is.entries re.touches.touches (row_texts r) (wrapped.row_texts lines) rows rows-spliced
      shift re.shift_is (rows-each r is small) (placed places) as_many start end syncs

  -- ---- the record

  pub relaid-keeps : MovesWithRecord → (blocks : BlockState) → blocks ≡ synced source shift (wrapped.row_texts lines) (kept_blocks r (row_texts r)) → Keeps after source lines blocks
  relaid-keeps moves blocks are = record {
    lawful = after-lawful;
    short = re.short;
    plain = unstamped-counted after ws refl refl;
    source_is = re.source_is;
    lines_are = lines-after;
    blocks_are = are ∙ blocks-after moves;
  }
