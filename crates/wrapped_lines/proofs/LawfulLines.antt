-- The lines of a lawful record have room, whatever their marks.
use Rattle.std.proofs.Common.{◌≡◌, ℕ, suc, ◌+◌, ◌<◌, ◌≤◌, ◌^◌, Bool, true, false, cond, List, [], ◌∷◌, length, get_or, arith}
use Rattle.std.specs.List.{sum_by}
use Rattle.std.proofs.lemmas.List.Elements.{All-from_get_or}
use Rattle.std.proofs.lemmas.List.Sums.{sum_by-cons}
use Rattle.cell_units.specs.declared.limits.TheConstants.{LAID_LIMIT}
use Rattle.cell_units.specs.Cutting.{cut_lines, onto_line}
use Rattle.cell_units.specs.Folded.{display_lines, folded}
use Rattle.cell_units.specs.Inlaid.{Token, is_break}
use Rattle.cell_units.specs.Lawful.{IsLawful, source_of}
use Rattle.cell_units.specs.Record.{Record}
use Rattle.cell_line.specs.declared.element.Element.{Element}
use Rattle.cell_line.specs.Lines.{FitsU32, LineFitsU32}
use Rattle.plain_rows.specs.Rows.{line_elements}
use Rattle.plain_rows.proofs.LawfulSources.{lawful_source}
use Rattle.plain_rows.proofs.ShownSizes.{folded-size, size, size-append}
use Rattle.plain_rows.proofs.SpotSizes.{cells-few, elements-count, elements-few, few-lines, length-elements}
use Rattle.wrap_map.proofs.Rooms.{has-room}
use Rattle.wrapped_lines.specs.Laws.{HasRoomForLines}
use Rattle.wrapped_lines.specs.WrappedSource.{HaveRoom}

-- how many elements a line has, and one more
abbrev pub wide : List Element → ℕ
wide es = length es + 1

-- the lines of a text have the bytes of all of it
lines-size : (ts : List Token) → sum_by size (cut_lines is_break ts) ≡ size ts
lines-size [] = omega arith
lines-size (t ∷ ts) = go (is_break t) (cut_lines is_break ts) (lines-size ts) where
  go : (c : Bool) (ls : List (List Token)) → sum_by size ls ≡ size ts → sum_by size (cond c ((t ∷ []) ∷ ls) (onto_line t ls)) ≡ size (t ∷ ts)
  go true ls h = omega (arith, h, sum_by-cons size (t ∷ []) ls, size-append (t ∷ []) ts)
  go false [] h = omega (arith, h, sum_by-cons size (t ∷ []) [], size-append (t ∷ []) ts)
  go false (l ∷ ls) h = omega (arith, h, sum_by-cons size (t ∷ l) ls, sum_by-cons size l ls, size-append (t ∷ []) l, size-append (t ∷ []) ts)

sum-below : (es : List (List Element)) (ts : List (List Token)) → length es ≡ length ts → ((k : ℕ) → k < length es → length (get_or es k []) ≤ size (get_or ts k []))
    → sum_by wide es ≤ sum_by size ts + length es
sum-below [] ts same each = omega arith
sum-below (e ∷ es) [] same each = absurd (omega (arith, same))
sum-below (e ∷ es) (t ∷ ts) same each =
    omega (
      arith,
      each 0 (omega arith),
      sum-below es ts (omega (arith, same)) (λ k lt. each (suc k) (omega (arith, lt))),
      sum_by-cons wide e es,
      sum_by-cons size t ts,
    )

module _ (r : Record) (lawful : IsLawful r) (short : length r.text ≤ LAID_LIMIT) where
  pub lawful-fits : FitsU32 (line_elements r)
  lawful-fits =
      let count : length (line_elements r) ≡ length r.marks = length-elements r lawful short in (
        omega (arith, count, few-lines r lawful short),
        All-from_get_or LineFitsU32 (line_elements r) [] (λ line lt.
            let there : line < length r.marks = omega (arith, lt, count) in
            (omega (arith, elements-count r lawful short line there), omega (arith, cells-few r lawful short line there))),
      )

  pub lawful-sum : sum_by wide (line_elements r) ≤ 2 ^ 31
  lawful-sum =
      let lines = display_lines r.text r.inlays r.folds in
      let count : length (line_elements r) ≡ length r.marks = length-elements r lawful short in
      let all = sum-below (line_elements r) lines (omega (arith, count, lawful.marked)) (λ k lt. elements-few r lawful short k (omega (arith, lt, count))) in
      omega (
        arith,
        all,
        lines-size (folded r.text r.inlays r.folds),
        folded-size (source_of r) (lawful_source (source_of r) lawful.entries.source short),
        few-lines r lawful short,
        count,
      )

  -- they have room
  pub lawful-room : HaveRoom (line_elements r)
  lawful-room marks = has-room (record { lines = line_elements r; marks = marks }) lawful-fits (omega (arith, lawful-sum))

pub has-room-for-lines : HasRoomForLines
has-room-for-lines r lawful short = lawful-room r lawful short
