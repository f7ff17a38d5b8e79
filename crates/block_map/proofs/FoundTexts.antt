-- The stop that a row of stops lies in, as a seek by rows finds it.
use Rattle.std.proofs.Common.{◌≡◌, ℕ, zero, suc, ◌+◌, ◌-◌, ◌<◌, ◌≤◌, Bool, true, false, cond, eqb, List, [], ◌∷◌, ◌++◌, Option, Some, filter, flat_map, get_or, length, take, refl, sym, ap, subst, ◌∙◌, inl, inr, arith, add-one}
use Rattle.std.specs.List.{slice_get}
use Rattle.std.proofs.lemmas.Bool.{cases_order, eq-eqb, ne_eqb, le-ltb, lt-ltb}
use Rattle.std.proofs.lemmas.List.{length-append}
use Rattle.std.proofs.lemmas.Option.{same_Some, slice_get-get_or, slice_get_within}
use Rattle.cell_units.specs.declared.place.Bias.TheVariants.{Left, Right}
use Rattle.sum_core.specs.Sums.{total}
use Rattle.sum_tree.specs.Firsts.{IsFirst}
use Rattle.splice_tree.specs.Sides.{none, both}
use Rattle.splice_tree.specs.Splices.{piece_sum}
use Rattle.block_map.specs.RowCounts.{more_rows, no_rows, rows_in}
use Rattle.block_map.specs.Stops.{Stop, rows_upto, texts_at}
use Rattle.block_map.specs.inside.StopLists.{AreStopPieces, IsStopPiece, StopPiece, stops_from}
use Rattle.block_map.proofs.StopPlaces.{none_further, upto-skip, upto-take}

pub get-append_left : {X : Type 0} (xs ys : List X) (i : ℕ) → i < length xs → slice_get (xs ++ ys) i ≡ slice_get xs i
get-append_left [] ys i lt = absurd (omega (arith, lt))
get-append_left (x ∷ xs) ys zero lt = refl
get-append_left (x ∷ xs) ys (suc i) lt = get-append_left xs ys i (omega arith)

pub get-append_right : {X : Type 0} (xs ys : List X) (i : ℕ) → slice_get (xs ++ ys) (length xs + i) ≡ slice_get ys i
get-append_right [] ys i = let e : 0 + i ≡ i = omega arith in ap (slice_get ys) e
get-append_right (x ∷ xs) ys i = let e : suc (length xs) + i ≡ suc (length xs + i) = omega arith in ap (slice_get (x ∷ (xs ++ ys))) e ∙ get-append_right xs ys i

pub texts-cons : (t : ℕ) (s : Stop) (ss : List Stop) → texts_at t (s ∷ ss) ≡ cond (eqb s.row t) s.lines [] ++ texts_at t ss
texts-cons t s ss = go (eqb s.row t) where
  go : (b : Bool) → flat_map (λ (s : Stop). s.lines) (cond b (s ∷ filter (λ (s : Stop). eqb s.row t) ss) (filter (λ (s : Stop). eqb s.row t) ss)) ≡ cond b s.lines [] ++ texts_at t ss
  go true = refl
  go false = refl

-- none is at a place before them all
pub texts-none : (t o : ℕ) (ps : List StopPiece) → t < o → texts_at t (stops_from o ps) ≡ []
texts-none t o [] lt = refl
texts-none t o (p ∷ ps) lt =
    texts-cons t (record { row = o + p.gap.rows; lines = p.load }) (stops_from (o + p.gap.rows) ps)
    ∙ ap (λ b. cond b p.load [] ++ texts_at t (stops_from (o + p.gap.rows) ps)) (ne_eqb (o + p.gap.rows) t (λ e. absurd (omega (arith, e))))
    ∙ texts-none t (o + p.gap.rows) ps (omega arith)

-- how many rows there are up to the end of the first n splices, of text and of stops
abbrev pub shown_to : List StopPiece → ℕ → ℕ
shown_to ps n = rows_in (total (none no_rows) (both more_rows) (piece_sum more_rows) (take n ps)).upper

-- the row x lies in the splice of the index, or after all
pub record IsSeek (ps : List StopPiece) (x i : ℕ) : Type 0 where
  pub short : shown_to ps i ≤ x
  pub reach : i < length ps → x < shown_to ps (suc i)

pub seek : (ps : List StopPiece) (x i : ℕ) → IsFirst (none no_rows) (both more_rows) (piece_sum more_rows) (λ s. rows_in s.upper) ps x Right i → IsSeek ps x i
seek ps x zero f = record { short = omega arith; reach = λ lt. f.reaching lt }
seek ps x (suc i) f = record {
  short = f.short (omega arith);
  reach = λ lt. let r = f.reaching lt in let e : shown_to ps (suc i + 1) ≡ shown_to ps (suc (suc i)) = ap (shown_to ps) (add-one (suc i)) in omega (arith, r, e);
}

-- the splice that the row r of the stops at t lies in
pub record IsTextFound (ps : List StopPiece) (x i : ℕ) (text : Option (List ℕ)) : Type 0 where
  pub piece : StopPiece
  pub is : slice_get ps i ≡ Some piece
  pub start : shown_to ps i + piece.gap.rows ≤ x
  pub at : slice_get piece.load (x - shown_to ps i - piece.gap.rows) ≡ text

-- one splice further on
further : (p : StopPiece) (ps : List StopPiece) (x i : ℕ) (text : Option (List ℕ)) → p.gap.rows + p.new.rows ≤ x → IsTextFound ps (x - (p.gap.rows + p.new.rows)) i text → IsTextFound (p ∷ ps) x (suc i) text
further p ps x i text le f =
    let e : x - (p.gap.rows + p.new.rows) - shown_to ps i - f.piece.gap.rows ≡ x - (p.gap.rows + p.new.rows + shown_to ps i) - f.piece.gap.rows = omega arith in
    record { piece = f.piece; is = f.is; start = omega (arith, f.start); at = ap (slice_get f.piece.load) (sym e) ∙ f.at }

seek-next : (p : StopPiece) (ps : List StopPiece) (x i : ℕ) → IsSeek (p ∷ ps) x (suc i) → IsSeek ps (x - (p.gap.rows + p.new.rows)) i
seek-next p ps x i s = record { short = omega (arith, s.short); reach = λ lt. omega (arith, s.short, s.reach (omega arith)) }

-- the seek finds each row of the stops at a place
abbrev pub Finds : List StopPiece → Type 0
Finds ps = (o t x r i : ℕ) → o ≤ t → IsSeek ps x i → x ≡ t - o + rows_upto Left t (stops_from o ps) + r → r < length (texts_at t (stops_from o ps))
    → IsTextFound ps x i (slice_get (texts_at t (stops_from o ps)) r)

-- the same for any text, as an equation
retext : (ps : List StopPiece) (x i : ℕ) (a b : Option (List ℕ)) → a ≡ b → IsTextFound ps x i a → IsTextFound ps x i b
retext ps x i a b e f = record { piece = f.piece; is = f.is; start = f.start; at = f.at ∙ e }

module _ (p : StopPiece) (ps : List StopPiece) (is : IsStopPiece p) (rest : Finds ps) (o t x r : ℕ) (le : o ≤ t)
    (at : x ≡ t - o + rows_upto Left t (stops_from o (p ∷ ps)) + r) (lt : r < length (texts_at t (stops_from o (p ∷ ps)))) where
  abbrev row : ℕ
  row = o + p.gap.rows

  abbrev others : List Stop
  others = stops_from (o + p.gap.rows) ps

  abbrev texts : List (List ℕ)
  texts = texts_at t (stops_from o (p ∷ ps))

  abbrev stop : Stop
  stop = record { row = o + p.gap.rows; lines = p.load }

  -- the stop is at the place
  same : o + p.gap.rows ≡ t → (i : ℕ) → IsSeek (p ∷ ps) x i → IsTextFound (p ∷ ps) x i (slice_get texts r)
  same here i s =
      let none : rows_upto Left t (stops_from o (p ∷ ps)) ≡ 0 =
      upto-skip Left t stop others (le-ltb row t (omega arith))
      ∙ none_further Left t row p.load ps (le-ltb row t (omega arith)) in
      let joined : texts ≡ p.load ++ texts_at t others =
      texts-cons t stop others ∙ ap (λ b. cond b p.load [] ++ texts_at t others) (eq-eqb row t here) in
      let after : rows_upto Left t others ≡ 0 = none_further Left t row p.load ps (le-ltb row t (omega arith)) in
      let there : x ≡ p.gap.rows + r = omega (arith, at, none) in
      go there joined after i s where
        go : x ≡ p.gap.rows + r → texts ≡ p.load ++ texts_at t others → rows_upto Left t others ≡ 0 → (i : ℕ) → IsSeek (p ∷ ps) x i → IsTextFound (p ∷ ps) x i (slice_get texts r)
        go there joined after zero s =
            let reach : x < p.gap.rows + p.new.rows + 0 = s.reach (omega arith) in
            let few : r < length p.load = omega (arith, is.1) in
            let index : x - 0 - p.gap.rows ≡ r = omega arith in
            record {
              piece = p;
              is = refl;
              start = omega arith;
              at = ap (slice_get p.load) index ∙ sym (get-append_left p.load (texts_at t others) r few) ∙ ap (λ (l : List (List ℕ)). slice_get l r) (sym joined);
            }
        go there joined after (suc j) s =
            let short : p.gap.rows + p.new.rows + shown_to ps j ≤ x = s.short in
            let many : length p.load ≤ r = omega (arith, is.1) in
            let long : length texts ≡ length p.load + length (texts_at t others) = ap length joined ∙ length-append p.load (texts_at t others) in
            let found = rest row t (x - (p.gap.rows + p.new.rows)) (r - length p.load) j (omega arith) (seek-next p ps x j s) (omega (arith, is.1)) (omega (arith, lt)) in
            let index : length p.load + (r - length p.load) ≡ r = omega arith in
            retext (p ∷ ps) x (suc j) (slice_get (texts_at t others) (r - length p.load)) (slice_get texts r)
            (sym (get-append_right p.load (texts_at t others) (r - length p.load)) ∙ ap (slice_get (p.load ++ texts_at t others)) index ∙ ap (λ (l : List (List ℕ)). slice_get l r) (sym joined))
            (further p ps x j (slice_get (texts_at t others) (r - length p.load)) (omega arith) found)

  -- the stop is before the place
  earlier : o + p.gap.rows < t → (i : ℕ) → IsSeek (p ∷ ps) x i → IsTextFound (p ∷ ps) x i (slice_get texts r)
  earlier before i s =
      let more : rows_upto Left t (stops_from o (p ∷ ps)) ≡ length p.load + rows_upto Left t others =
      upto-take Left t stop others (lt-ltb row t before) in
      let same_texts : texts ≡ texts_at t others =
      texts-cons t stop others ∙ ap (λ b. cond b p.load [] ++ texts_at t others) (ne_eqb row t (λ e. absurd (omega (arith, e)))) in
      go more same_texts i s where
        go : rows_upto Left t (stops_from o (p ∷ ps)) ≡ length p.load + rows_upto Left t others → texts ≡ texts_at t others → (i : ℕ) → IsSeek (p ∷ ps) x i → IsTextFound (p ∷ ps) x i (slice_get texts r)
        go more same_texts zero s =
            let reach : x < p.gap.rows + p.new.rows + 0 = s.reach (omega arith) in
            absurd (omega (arith, at, is.1))
        go more same_texts (suc j) s =
            let short : p.gap.rows + p.new.rows + shown_to ps j ≤ x = s.short in
            let found = rest row t (x - (p.gap.rows + p.new.rows)) r j (omega arith) (seek-next p ps x j s) (omega (arith, at, is.1)) (omega (arith, lt, ap length same_texts)) in
            retext (p ∷ ps) x (suc j) (slice_get (texts_at t others) r) (slice_get texts r) (ap (λ (l : List (List ℕ)). slice_get l r) (sym same_texts))
            (further p ps x j (slice_get (texts_at t others) r) (omega arith) found)

  -- there is none after it
  behind : t < o + p.gap.rows → ⊥
  behind far =
      let none : texts ≡ [] =
      texts-cons t stop others ∙ ap (λ b. cond b p.load [] ++ texts_at t others) (ne_eqb row t (λ e. absurd (omega (arith, e)))) ∙ texts-none t row ps far in
      omega (arith, lt, ap length none)

  find : (i : ℕ) → IsSeek (p ∷ ps) x i → IsTextFound (p ∷ ps) x i (slice_get texts r)
  find i s = elim (cases_order (o + p.gap.rows) t) [
    | inl here ↦ same here i s
    | inr (inl before) ↦ earlier before i s
    | inr (inr far) ↦ absurd (behind far)
  ]

pub finds : (ps : List StopPiece) → AreStopPieces ps → Finds ps
finds [] are o t x r i le s at lt = absurd (omega (arith, lt))
finds (p ∷ ps) are o t x r i le s at lt = find p ps are.0 (finds ps are.1) o t x r le at lt i s

-- ---- as the code finds it

-- the row `at` of the stops at a place, as a seek finds it
pub found-text : (ps : List StopPiece) (stops : List Stop) → AreStopPieces ps → stops_from 0 ps ≡ stops → (row before at i : ℕ)
    → IsFirst (none no_rows) (both more_rows) (piece_sum more_rows) (λ s. rows_in s.upper) ps (row + before + at) Right i
    → before ≡ rows_upto Left row stops → at < length (texts_at row stops)
    → IsTextFound ps (row + before + at) i (slice_get (texts_at row stops) at)
found-text ps stops are is row before at i first b lt =
    let there : at < length (texts_at row (stops_from 0 ps)) = omega (arith, lt, ap (λ (l : List Stop). length (texts_at row l)) is) in
    let place : row + before + at ≡ row - 0 + rows_upto Left row (stops_from 0 ps) + at = omega (arith, b, ap (λ (l : List Stop). rows_upto Left row l) is) in
    retext ps (row + before + at) i (slice_get (texts_at row (stops_from 0 ps)) at) (slice_get (texts_at row stops) at) (ap (λ (l : List Stop). slice_get (texts_at row l) at) is)
    (finds ps are 0 row (row + before + at) at i (omega arith) (seek ps (row + before + at) i first) place there)

-- in that splice
pub the-piece : (ps : List StopPiece) (x i : ℕ) (text : Option (List ℕ)) → IsTextFound ps x i text → (p : StopPiece) → Some p ≡ slice_get ps i
    → (shown_to ps i + p.gap.rows ≤ x) × (slice_get p.load (x - shown_to ps i - p.gap.rows) ≡ text)
the-piece ps x i text f p e =
    let same : f.piece ≡ p = same_Some f.piece p (sym f.is ∙ sym e) in
    subst (λ (q : StopPiece). (shown_to ps i + q.gap.rows ≤ x) × (slice_get q.load (x - shown_to ps i - q.gap.rows) ≡ text)) same (f.start, f.at)

pub within : (texts load : List (List ℕ)) (at index : ℕ) → at < length texts → slice_get load index ≡ slice_get texts at → index < length load
within texts load at index lt e = slice_get_within load index (get_or texts at []) (e ∙ slice_get-get_or texts at [] lt)

-- the same by the parts of the splice that the code reads
pub the-text : (ps : List StopPiece) (x i : ℕ) (text : Option (List ℕ)) → IsTextFound ps x i text → (p : StopPiece) → Some p ≡ slice_get ps i
    → (load : List (List ℕ)) (start gap : ℕ) → load ≡ p.load → start ≡ shown_to ps i → gap ≡ p.gap.rows → slice_get load (x - start - gap) ≡ text
the-text ps x i text f p e load start gap load-is start-is gap-is =
    let index : x - start - gap ≡ x - shown_to ps i - p.gap.rows = omega (arith, start-is, gap-is) in
    ap (slice_get load) index ∙ ap (λ (l : List (List ℕ)). slice_get l (x - shown_to ps i - p.gap.rows)) load-is ∙ (the-piece ps x i text f p e).1
