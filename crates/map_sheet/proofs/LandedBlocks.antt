-- Which blocks lines that land show anew: those at these lines.
use Rattle.std.proofs.Common.{◌≡◌, ◌≤◌, ℕ, ◌<◌, ◌||◌, eqb, Bool, false, List, [], ◌∷◌, Option, None, Some, length, get_or, refl, sym, ap, ◌∙◌, arith, zero-add}
use Rattle.std.specs.List.{enumerate_from, list_any}
use Rattle.std.proofs.lemmas.List.{get_or-map, length-map}
use Rattle.std.proofs.lemmas.List.FromFn.{get_or-enumerate_from, length-enumerate_from}
use Rattle.cell_units.specs.declared.limits.TheConstants.{LAID_LIMIT}
use Rattle.cell_units.specs.Lawful.{IsLawful}
use Rattle.cell_units.specs.Record.{Mark, Record, plain_mark}
use Rattle.edit_patch.specs.declared.edit.Edit.{Edit}
use Rattle.plain_rows.specs.Reach.{blocks_at_lines}
use Rattle.plain_rows.specs.Rows.{line_elements}
use Rattle.kept_sheet.specs.Kept.{placed_lines, standing, widths_of}
use Rattle.wrap_map.specs.Standing.{Standing}
use Rattle.wrap_map.proofs.Landed.{length-shown}
use Rattle.block_map.specs.Carried.{SyncsAtMost}
use Rattle.block_map.specs.Follows.{KeepsLine}
use Rattle.wrapped_lines.specs.Changed.{IsLandedAt}
use Rattle.wrapped_lines.specs.Places.{is_at}
use Rattle.wrapped_lines.specs.WrappedSource.{WrappedSource}
use Rattle.wrapped_lines.proofs.KeptLines.{others-keep}
use Rattle.blocked_rows.specs.Laws.{AreAsMany, PlacesBlocks}
use Rattle.blocked_rows.specs.Records.{kept_blocks, row_texts}
use Rattle.map_sheet.specs.Bounds.{ShowsAtMost}
use Rattle.map_sheet.specs.Kept.{lines_in}
use Rattle.map_sheet.proofs.AnewBlocks.{shows-at_most}
use Rattle.map_sheet.proofs.Rooms.{marks-each, rows-each, rows-room}

-- a line is at one of the places that are still there where it is at one of all
is-placed : (places : List (Option ℕ)) (line : ℕ) → list_any (λ at. eqb at line) (standing places) ≡ is_at places line
is-placed [] line = refl
is-placed (None ∷ places) line = is-placed places line
is-placed (Some at ∷ places) line = ap (λ (b : Bool). eqb at line || b) (is-placed places line)

flag-is : (places : List (Option ℕ)) (r : Record) (line : ℕ) → line < length r.marks → get_or (placed_lines places r) line false ≡ is_at places line
flag-is places r line lt =
    let f : ℕ × Mark → Bool = λ p. list_any (λ at. eqb at p.0) (standing places) in
    let none : ℕ × Mark = (0, plain_mark 0) in
    get_or-map f (enumerate_from 0 r.marks) line none false (omega (arith, length-enumerate_from 0 r.marks, lt))
    ∙ ap f (get_or-enumerate_from 0 r.marks line none lt)
    ∙ ap (λ (n : ℕ). list_any (λ at. eqb at n) (standing places)) (zero-add line)
    ∙ is-placed places line

module _ (r : Record) (lawful : IsLawful r) (small : length r.text ≤ LAID_LIMIT) (places : List (Option ℕ)) (lines : WrappedSource) (rows : List Edit)
    (landed : IsLandedAt (lines_in r) places lines rows) where
  abbrev flags : List Bool
  flags = placed_lines places r

  keeps : (line : ℕ) → line < length (row_texts r) → get_or flags line false ≡ false → KeepsLine rows (row_texts r) line
  keeps line lt off =
      let each = marks-each r lawful small in
      let stood : Standing = record { lines = line_elements r; marks = widths_of r } in
      let all : length (row_texts r) ≡ length r.marks = omega (arith, length-map r.marks (λ (m : Mark). m.width), each, length-shown stood each) in
      others-keep (lines_in r) lines places rows each landed line lt (sym (flag-is places r line (omega (arith, lt, all))) ∙ off)

  pub landed-shows : PlacesBlocks → AreAsMany → (start end : ℕ) → SyncsAtMost None rows (kept_blocks r (row_texts r)) start end
      → ShowsAtMost (blocks_at_lines flags r) (length places) r start end
  landed-shows stand as_many start end syncs =
      let each = rows-each r lawful small in
      shows-at_most r lawful.entries (row_texts r) flags None rows each keeps (λ side k le off. tt)
      (stand r lawful.entries (row_texts r) each (rows-room r lawful small)) as_many (length places) start end landed.few syncs
