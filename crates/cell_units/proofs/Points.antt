-- The offset at a point is where the boundaries say.
use Rattle.std.proofs.Common.{◌≡◌, ℕ, ◌+◌, ◌-◌, ◌<◌, ◌≤◌, zero, suc, eqb, ltb, not, Bool, true, false, cond, List, length, take, drop, get_or, refl, ap, sym, ◌∙◌, subst, inl, inr, arith}
use mathlib.Core.Bool.{◌&&◌, ◌||◌}
use Rattle.std.specs.List.{prefix_len, suffix_len}
use Rattle.std.specs.Str.{IsUtf8}
use Rattle.std.proofs.Math.Seq.{take-length}
use Rattle.std.proofs.lemmas.Bool.{and_from, cases_eq, cases_lt, le-leb, le-ltb, lt-leb, lt-ltb, or_right}
use Rattle.std.proofs.lemmas.Bool.Decides.{nat_tests}
use Rattle.std.proofs.lemmas.List.{get_or-drop, get_or-take, length-drop, length-take-le}
use Rattle.std.proofs.lemmas.List.Sums.{prefix_len_is, suffix_len_is}
use Rattle.std.proofs.lemmas.Str.{IsUtf8-nil}
use Rattle.cell_units.specs.declared.place.Bias.{Bias}
use Rattle.cell_units.specs.declared.place.Bias.TheVariants.{Left, Right}
use Rattle.cell_units.specs.declared.place.Point.{Point}
use Rattle.cell_units.specs.Text.{IsBoundary, character_end, character_start, goes_on, is_boundary}
use Rattle.cell_units.specs.Record.{line_count}
use Rattle.cell_units.specs.BufferLines.{line_end, line_start}
use Rattle.cell_units.specs.Points.{IsAtPoint, IsFirstBoundary, IsLastBoundary, IsNearBoundary, near_boundary, offset_at}
use Rattle.cell_units.proofs.BufferLines.{line_bounds}
use Rattle.cell_units.proofs.TextLaws.{tells_boundaries}

module _ (text : List ℕ) (utf8 : IsUtf8 text) where
  -- a byte at no boundary goes on, and one at a boundary doesn't
  on_at : (k : ℕ) → k < length text → ¬ IsBoundary text k → goes_on (get_or text k 0) ≡ true
  on_at k lt none = go (goes_on (get_or text k 0)) refl where
    go : (b : Bool) → goes_on (get_or text k 0) ≡ b → b ≡ true
    go true e = refl
    go false e =
        absurd (none ((tells_boundaries text utf8 k).0
        (or_right (eqb k (length text)) (ltb k (length text) && not (goes_on (get_or text k 0))) (and_from (ltb k (length text)) (not (goes_on (get_or text k 0))) (lt-ltb k (length text) lt) (ap not e)))))

  off_at : (k : ℕ) → k < length text → IsBoundary text k → goes_on (get_or text k 0) ≡ false
  off_at k lt b = go (goes_on (get_or text k 0)) ((tells_boundaries text utf8 k).1 b) where
    go : (v : Bool) → (eqb k (length text) || (ltb k (length text) && not v)) ≡ true → v ≡ false
    go false h = refl
    go true h = absurd (grind (arith, nat_tests, h, lt))

  not_at : (k : ℕ) → is_boundary text k ≡ false → ¬ IsBoundary text k
  not_at k e b = absurd (cc (sym e ∙ (tells_boundaries text utf8 k).1 b))

  last_is : (o r : ℕ) → o ≤ length text → IsLastBoundary text o r → character_start text o ≡ r
  last_is o r le near = go (is_boundary text o) refl where
    long : length (take o text) ≡ o
    long = length-take-le o text le

    chosen : (b : Bool) → is_boundary text o ≡ b → character_start text o ≡ cond b o (o - suffix_len goes_on (take o text) - 1)
    chosen b e = ap (λ (t : Bool). cond t o (o - suffix_len goes_on (take o text) - 1)) e

    counted : r < o → suffix_len goes_on (take o text) ≡ length (take o text) - (r + 1)
    counted lt =
        let last : r + 1 - 1 ≡ r = omega arith in
        suffix_len_is goes_on (take o text) (r + 1) 0 (omega (arith, long, lt))
        (λ k from before. ap goes_on (get_or-take o text k 0 (omega (arith, before, long))) ∙ on_at k (omega (arith, before, long, le)) (near.nearest k (omega (arith, from)) (omega (arith, before, long))))
        (λ some. ap (λ (k : ℕ). goes_on (get_or (take o text) k 0)) last ∙ ap goes_on (get_or-take o text r 0 lt) ∙ off_at r (omega (arith, lt, le)) near.boundary)

    go : (b : Bool) → is_boundary text o ≡ b → character_start text o ≡ r
    go true e = elim (cases_lt r o) [
      | inl lt ↦ absurd (near.nearest o lt (omega arith) ((tells_boundaries text utf8 o).0 e))
      | inr ge ↦ chosen true e ∙ omega (arith, ge, near.order)
    ]
    go false e = elim (cases_eq r o) [
      | inl same ↦ absurd (not_at o e (subst (IsBoundary text) same near.boundary))
      | inr other ↦
          let lt : r < o = omega (arith, near.order, other) in
          chosen false e ∙ omega (arith, counted lt, long, lt)
    ]

  first_is : (o r : ℕ) → o ≤ length text → IsFirstBoundary text o r → character_end text o ≡ r
  first_is o r le near =
      let long = length-drop o text in
      let within = near.boundary.0 in
      let at : r < length text → o + (r - o) ≡ r = λ lt. omega (arith, near.order) in
      let counted : prefix_len goes_on (drop o text) ≡ r - o =
      prefix_len_is goes_on (drop o text) (r - o) 0 (omega (arith, long, within))
      (λ k lt. ap goes_on (get_or-drop o text k 0) ∙ on_at (o + k) (omega (arith, lt, within)) (near.nearest (o + k) (omega arith) (omega (arith, lt))))
      (λ lt.
      let below : r < length text = omega (arith, lt, long, near.order) in
      ap goes_on (get_or-drop o text (r - o) 0) ∙ ap (λ (k : ℕ). goes_on (get_or text k 0)) (at below) ∙ off_at r below near.boundary) in
      omega (arith, counted, near.order)

  near_is : (o : ℕ) (bias : Bias) (r : ℕ) → o ≤ length text → IsNearBoundary text o bias r → near_boundary text o bias ≡ r
  near_is o Left r le near = last_is o r le near
  near_is o Right r le near = first_is o r le near

  -- ---- there is one

  same_last : (o : ℕ) → IsBoundary text o → IsLastBoundary text o o
  same_last o b = record { boundary = b; order = omega arith; nearest = λ i lt upto. absurd (omega (arith, lt, upto)) }

  same_first : (o : ℕ) → IsBoundary text o → IsFirstBoundary text o o
  same_first o b = record { boundary = b; order = omega arith; nearest = λ i from lt. absurd (omega (arith, from, lt)) }

  last_found : (o : ℕ) → o ≤ length text → (r : ℕ) × IsLastBoundary text o r
  last_found zero le = (0, same_last 0 (omega arith, IsUtf8-nil))
  last_found (suc o) le = go (is_boundary text (suc o)) refl (last_found o (omega (arith, le))) where
    go : (b : Bool) → is_boundary text (suc o) ≡ b → ((r : ℕ) × IsLastBoundary text o r) → (r : ℕ) × IsLastBoundary text (suc o) r
    go true e below = (suc o, same_last (suc o) ((tells_boundaries text utf8 (suc o)).0 e))
    go false e below = (
      below.0,
      record {
        boundary = below.1.boundary;
        order = omega (arith, below.1.order);
        nearest = λ i lt upto. elim (cases_lt o i) [
          | inl past ↦ let same : suc o ≡ i = omega (arith, past, upto) in subst (λ (k : ℕ). ¬ IsBoundary text k) same (not_at (suc o) e)
          | inr here ↦ below.1.nearest i lt here
        ];
      },
    )

  first_found : (n o : ℕ) → o + n ≡ length text → (r : ℕ) × IsFirstBoundary text o r
  first_found zero o e =
      let end : length text ≡ o = omega (arith, e) in
      (o, same_first o (omega (arith, end), subst (λ (k : ℕ). IsUtf8 (take k text)) end (subst IsUtf8 (sym (take-length text)) utf8)))
  first_found (suc n) o e = go (is_boundary text o) refl (first_found n (o + 1) (omega (arith, e))) where
    go : (b : Bool) → is_boundary text o ≡ b → ((r : ℕ) × IsFirstBoundary text (o + 1) r) → (r : ℕ) × IsFirstBoundary text o r
    go true h behind = (o, same_first o ((tells_boundaries text utf8 o).0 h))
    go false h behind = (
      behind.0,
      record {
        boundary = behind.1.boundary;
        order = omega (arith, behind.1.order);
        nearest = λ i from lt. elim (cases_lt o i) [
          | inl past ↦ behind.1.nearest i (omega (arith, past)) lt
          | inr here ↦ let same : o ≡ i = omega (arith, from, here) in subst (λ (k : ℕ). ¬ IsBoundary text k) same (not_at o h)
        ];
      },
    )

  near_there : (o : ℕ) (bias : Bias) → o ≤ length text → IsNearBoundary text o bias (near_boundary text o bias)
  near_there o Left le = let f = last_found o le in subst (IsLastBoundary text o) (sym (last_is o f.0 le f.1)) f.1
  near_there o Right le = let f = first_found (length text - o) o (omega (arith, le)) in subst (IsFirstBoundary text o) (sym (first_is o f.0 le f.1)) f.1

  module _ (p : Point) (bias : Bias) where
    abbrev o : ℕ
    o = line_start text p.row + p.column

    abbrev in_text : ℕ
    in_text = cond (ltb (line_end text p.row) o) (line_end text p.row) (near_boundary text o bias)

    past_rows : line_count text ≤ p.row → offset_at text p bias ≡ length text
    past_rows past = ap (λ (t : Bool). cond t (length text) in_text) (le-leb (line_count text) p.row past)

    on_row : p.row < line_count text → offset_at text p bias ≡ in_text
    on_row within = ap (λ (t : Bool). cond t (length text) in_text) (lt-leb (line_count text) p.row within)

    past_end : p.row < line_count text → line_end text p.row < o → offset_at text p bias ≡ line_end text p.row
    past_end within past = on_row within ∙ ap (λ (t : Bool). cond t (line_end text p.row) (near_boundary text o bias)) (lt-ltb (line_end text p.row) o past)

    in_row : p.row < line_count text → o ≤ line_end text p.row → offset_at text p bias ≡ near_boundary text o bias
    in_row within here = on_row within ∙ ap (λ (t : Bool). cond t (line_end text p.row) (near_boundary text o bias)) (le-ltb (line_end text p.row) o here)

    -- what is at a point is the offset at it
    pub offset_is : (r : ℕ) → IsAtPoint text p bias r → r ≡ offset_at text p bias
    offset_is r at = elim (cases_lt p.row (line_count text)) [
      | inr past ↦ at.past_rows past ∙ sym (past_rows past)
      | inl within ↦ elim (cases_lt (line_end text p.row) o) [
        | inl past ↦ at.past_end within past ∙ sym (past_end within past)
        | inr here ↦ sym (in_row within here ∙ near_is o bias r (omega (arith, here, (line_bounds text p.row within).1)) (at.in_row within here))
      ]
    ]

    pub is_at_point : IsAtPoint text p bias (offset_at text p bias)
    is_at_point = record {
      past_rows = past_rows;
      past_end = past_end;
      in_row = λ within here. subst (IsNearBoundary text o bias) (sym (in_row within here)) (near_there o bias (omega (arith, here, (line_bounds text p.row within).1)));
    }
