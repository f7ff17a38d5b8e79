-- The layer that a text is by itself: a source without inlays and folds.
use Rattle.std.proofs.Common.{◌≡◌, ℕ, ◌+◌, ◌<◌, ◌≤◌, zero, suc, Bool, true, false, cond, List, [], ◌∷◌, ◌++◌, length, take, get_or, slice_range, flat_map, refl, sym, ap, subst, ◌∙◌, inl, inr, arith, Some, None, append-nil}
use Rattle.std.specs.Prelude.{slice_get}
use Rattle.std.specs.List.{sum_by}
use Rattle.std.proofs.lemmas.Bool.{cases_lt}
use Rattle.std.proofs.lemmas.List.{length-take-le, take_all}
use Rattle.std.proofs.lemmas.List.Elements.{All-nil}
use Rattle.std.proofs.lemmas.List.Sums.{sum_by-cons}
use Rattle.cell_units.specs.declared.place.Bias.{Bias}
use Rattle.cell_units.specs.declared.place.Bias.TheVariants.{Left, Right}
use Rattle.cell_units.specs.declared.piece.Piece.{Piece}
use Rattle.cell_units.specs.Text.{is_feed, row_of, IsBoundary, IsText}
use Rattle.cell_units.specs.Cutting.{onto_line}
use Rattle.cell_units.specs.Record.{Fold, Inlay, fold_le, inlay_le, line_count}
use Rattle.cell_units.specs.Inlaid.{bytes_of, show_each}
use Rattle.cell_units.specs.Folded.{shown}
use Rattle.cell_units.specs.BufferLines.{buffer_lines, behind_feeds, line_start, line_end}
use Rattle.cell_units.specs.Lawful.{AreEntries, IsFoldOf, IsInlayOf, IsWellFormed}
use Rattle.cell_units.specs.Layers.{plain_source, shown_lines, shown_text, span_of, place_of, IsBack, HasPlace}
use Rattle.cell_units.proofs.BufferLines.{length-buffer_lines, get_or-buffer_lines, line_end_last, line_end_next, row_of_start, row_of_end}
use Rattle.cell_units.proofs.ReplacedRows.{row_of-lt, row_of-le}
use Rattle.cell_units.proofs.Unfolded.{line_pieces, pieces_from, plain_spans, unfolded_lines}

-- ---- its text and its places

-- bytes show themselves
bytes_shown : (o : ℕ) (bs : List ℕ) → flat_map bytes_of (show_each (shown [] []) o bs) ≡ bs
bytes_shown o [] = refl
bytes_shown o (b ∷ bs) = ap (λ (l : List ℕ). b ∷ l) (bytes_shown (o + 1) bs)

-- before each position are the bytes before its offset
bytes_before : (text : List ℕ) (o : ℕ) → flat_map bytes_of (show_each (shown [] []) 0 (take o text) ++ []) ≡ take o text
bytes_before text o =
    ap (flat_map bytes_of) (append-nil (show_each (shown [] []) 0 (take o text))) ∙ bytes_shown 0 (take o text)

pub text_of_plain : (text : List ℕ) → shown_text (plain_source text) ≡ text
text_of_plain text = bytes_before text (length text) ∙ take_all (length text) text (omega arith)

pub place_of_plain : (text : List ℕ) (o : ℕ) (bias : Bias) → o ≤ length text → place_of (plain_source text) o bias ≡ o
place_of_plain text o Left le = ap length (bytes_shown 0 (take o text)) ∙ length-take-le o text le
place_of_plain text o Right le = ap length (bytes_before text o) ∙ length-take-le o text le

-- ---- and back

has_place : (text : List ℕ) (o : ℕ) → IsBoundary text o → HasPlace (plain_source text) o o
has_place text o b = ((b, refl), Left, place_of_plain text o Left b.0)

only_place : (text : List ℕ) (place o : ℕ) → HasPlace (plain_source text) place o → o ≡ place
only_place text place o (open_at, bias, is) = sym (place_of_plain text o bias open_at.0.0) ∙ is

-- an offset has its own place, and no other has it
pub plain_back : (text : List ℕ) (o : ℕ) (bias : Bias) → IsBoundary text o → IsBack (plain_source text) o bias (Some o)
plain_back text o Left b = (has_place text o b, λ p h. omega (arith, only_place text o p h))
plain_back text o Right b = (has_place text o b, λ p h. omega (arith, only_place text o p h))

pub plain_back_none : (text : List ℕ) (place : ℕ) (bias : Bias) → ¬ IsBoundary text place → IsBack (plain_source text) place bias None
plain_back_none text place bias none o h = none (subst (IsBoundary text) (only_place text place o h) h.0.0)

-- ---- its lines

abbrev long : List ℕ → ℕ
long line = length line + 1

starts_from : (o : ℕ) (text : List ℕ) (n : ℕ) → n < length (buffer_lines text) →
    get_or (o ∷ behind_feeds o text) n 0 ≡ o + sum_by long (take n (buffer_lines text))
starts_from o text zero lt = omega arith
starts_from o [] (suc n) lt = absurd (omega arith)
starts_from o (b ∷ bs) (suc n) lt = go (is_feed b) (buffer_lines bs) (length-buffer_lines bs) (starts_from (o + 1) bs) lt where
  starts : List ℕ
  starts = behind_feeds (o + 1) bs

  go : (c : Bool) (ls : List (List ℕ)) → length ls ≡ line_count bs →
      ((m : ℕ) → m < length ls → get_or ((o + 1) ∷ starts) m 0 ≡ o + 1 + sum_by long (take m ls)) →
      suc n < length (cond c ([] ∷ ls) (onto_line b ls)) →
      get_or (cond c ((o + 1) ∷ starts) starts) n 0 ≡ o + sum_by long (take (suc n) (cond c ([] ∷ ls) (onto_line b ls)))
  go c [] some at within = absurd (omega arith)
  go true (l ∷ ls) some at within = omega (arith, at n (omega arith), sum_by-cons long [] (take n (l ∷ ls)))
  go false (l ∷ ls) some at within =
      omega (arith, at (suc n) (omega arith), sum_by-cons long l (take n ls), sum_by-cons long (b ∷ l) (take n ls))

length-pieces_from : (start : ℕ) (lines : List (List ℕ)) → length (pieces_from start lines) ≡ length lines
length-pieces_from start [] = refl
length-pieces_from start (l ∷ ls) = ap suc (length-pieces_from (start + length l + 1) ls)

pub plain_line_count : (text : List ℕ) → length (shown_lines (plain_source text)) ≡ line_count text
plain_line_count text = ap length (unfolded_lines text) ∙ length-pieces_from 0 (buffer_lines text) ∙ length-buffer_lines text

line_from : (start : ℕ) (lines : List (List ℕ)) (n : ℕ) → n < length lines →
    slice_get (pieces_from start lines) n ≡ Some (line_pieces (start + sum_by long (take n lines)) (get_or lines n []))
line_from start [] n lt = absurd (omega arith)
line_from start (l ∷ ls) zero lt =
    let here : start ≡ start + 0 = omega arith in
    ap (λ (k : ℕ). Some (line_pieces k l)) here
line_from start (l ∷ ls) (suc n) lt =
    let here : start + length l + 1 + sum_by long (take n ls) ≡ start + sum_by long (l ∷ take n ls) = omega (arith, sum_by-cons long l (take n ls)) in
    line_from (start + length l + 1) ls n (omega arith)
    ∙ ap (λ (k : ℕ). Some (line_pieces k (get_or ls n []))) here

-- the bytes of a line, from its start to its end
abbrev pub plain_line : List ℕ → ℕ → List Piece
plain_line text line = line_pieces (line_start text line) (slice_range text (line_start text line) (line_end text line))

pub plain_line_is : (text : List ℕ) (line : ℕ) → line < line_count text → slice_get (shown_lines (plain_source text)) line ≡ Some (plain_line text line)
plain_line_is text line lt =
    let within : line < length (buffer_lines text) = omega (arith, length-buffer_lines text) in
    let at : 0 + sum_by long (take line (buffer_lines text)) ≡ line_start text line = sym (starts_from 0 text line within) in
    ap (λ (lines : List (List Piece)). slice_get lines line) (unfolded_lines text)
    ∙ line_from 0 (buffer_lines text) line within
    ∙ (λ i. Some (line_pieces (at i) (get_or-buffer_lines text line lt i)))

-- a line is in the row of its number
pub plain_span : (text : List ℕ) (line : ℕ) → line < line_count text → span_of (plain_source text) line ≡ (line, line)
plain_span text line lt = let s = plain_spans text line lt in λ i. (s.0 i, s.1 i)

-- ---- the line of an offset

pub line_of_offset : (text : List ℕ) (o : ℕ) → o ≤ length text → (line_start text (row_of text o) ≤ o) × (o ≤ line_end text (row_of text o))
line_of_offset text o le = (from (row_of text o) refl, to) where
  from : (row : ℕ) → row ≡ row_of text o → line_start text row ≤ o
  from zero e = omega arith
  from (suc row) e = elim (cases_lt o (line_start text (suc row))) [
    | inl before ↦
        let lt : row + 1 < line_count text = omega (arith, e, row_of-lt text o) in
        let next : row + 1 ≡ suc row = omega arith in
        let end : line_end text row + 1 ≡ line_start text (suc row) = line_end_next text row lt ∙ ap (line_start text) next in
        absurd (omega (arith, end, row_of-le text o (line_end text row) (omega (arith, end)), row_of_end text row (omega arith)))
    | inr at ↦ at
  ]

  to : o ≤ line_end text (row_of text o)
  to = elim (cases_lt (line_end text (row_of text o)) o) [
    | inl behind ↦ elim (cases_lt (row_of text o + 1) (line_count text)) [
      | inl more ↦ absurd (omega (arith, row_of-le text (line_start text (row_of text o + 1)) o (omega (arith, line_end_next text (row_of text o) more)), row_of_start text (row_of text o + 1) more))
      | inr last ↦ absurd (omega (arith, line_end_last text (row_of text o) (omega (arith, row_of-lt text o))))
    ]
    | inr at ↦ at
  ]

-- ---- it is well formed

pub no_entries : {X : Type 0} (le : X → X → Bool) (id_of : X → ℕ) (Fits : X → Type 0) → AreEntries le id_of Fits []
no_entries le id_of Fits = record { in_order = refl; distinct = λ id. omega arith; few = omega arith; each = All-nil Fits }

pub plain_well_formed : (text : List ℕ) → IsText text → IsWellFormed (plain_source text)
plain_well_formed text is = record {
  text = is;
  inlays = no_entries inlay_le (λ (i : Inlay). i.id) (IsInlayOf text);
  folds = no_entries fold_le (λ (f : Fold). f.id) (IsFoldOf text);
}
