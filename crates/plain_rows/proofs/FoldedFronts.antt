-- What is shown before a position is a prefix of what is shown before a later one.
use Rattle.std.proofs.Common.{◌≡◌, ℕ, ◌+◌, ◌-◌, ◌<◌, ◌≤◌, Bool, true, false, if◌then◌else◌, List, [], ◌∷◌, ◌++◌, zero, suc, length, take, drop, get_or, sym, ap, ◌∙◌, subst, append-nil, append_assoc, length-append, arith}
use Rattle.std.proofs.lemmas.List.{take-append-drop, take_at, take_all, take_more, length_push, length-take-le}
use Rattle.cell_units.specs.declared.place.Bias.{Bias}
use Rattle.cell_units.specs.declared.place.Bias.TheVariants.{Left, Right}
use Rattle.cell_units.specs.Text.{line_feed}
use Rattle.cell_units.specs.Record.{Inlay, Fold}
use Rattle.cell_units.specs.Inlaid.{Token, Byte, Hidden, inlays_at, show_each}
use Rattle.cell_units.specs.Folded.{covered, folded, folded_before, folded_to, inside, shown}
use Rattle.plain_rows.proofs.Fronts.{IsFront, front-append, front-refl, front-trans}

pub show_each-append : (f : ℕ → ℕ → List Token) (o : ℕ) (xs ys : List ℕ) → show_each f o (xs ++ ys) ≡ show_each f o xs ++ show_each f (o + length xs) ys
show_each-append f o [] ys = let e : o ≡ o + 0 = omega arith in ap (λ (k : ℕ). show_each f k ys) e
show_each-append f o (x ∷ xs) ys =
    let e : o + 1 + length xs ≡ o + length (x ∷ xs) = omega arith in
    ap (λ (l : List Token). f o x ++ l) (show_each-append f (o + 1) xs ys ∙ ap (λ (k : ℕ). show_each f (o + 1) xs ++ show_each f k ys) e)
    ∙ sym (append_assoc (f o x) (show_each f (o + 1) xs) (show_each f (o + length (x ∷ xs)) ys))

-- ---- one offset and the next, in lists alone: what is before the offset, its inlays, its token

abbrev pub left_of : Bool → List Token → List Token
left_of i before = if i then take (length before - 1) before else before

abbrev pub right_of : Bool → List Token → List Token → List Token
right_of i before ins = if i then before else before ++ ins

abbrev pub after_of : Bool → List Token → List Token → Token → List Token
after_of i before ins t = before ++ (if i then [] else (ins ++ t ∷ []))

take_front : (n : ℕ) (xs : List Token) → IsFront (take n xs) xs
take_front n xs = (drop n xs, sym (take-append-drop n xs))

-- without its last token it ends before the token
pub but_last : (before ins : List Token) (t : Token) → take (length (before ++ (ins ++ t ∷ [])) - 1) (before ++ (ins ++ t ∷ [])) ≡ before ++ ins
but_last before ins t =
    let at : length (before ++ ins) ≡ length (before ++ (ins ++ t ∷ [])) - 1 =
    omega (arith, length-append before ins, length-append before (ins ++ t ∷ []), length_push ins t) in
    ap (take (length (before ++ (ins ++ t ∷ [])) - 1)) (sym (append_assoc before ins (t ∷ [])))
    ∙ take_at (before ++ ins) (t ∷ []) (length (before ++ (ins ++ t ∷ [])) - 1) at

sides : (i : Bool) (before ins : List Token) → IsFront (left_of i before) (right_of i before ins)
sides true before ins = take_front (length before - 1) before
sides false before ins = front-append before ins

left_next : (i j : Bool) (before ins : List Token) (t : Token) → IsFront (left_of i before) (left_of j (after_of i before ins t))
left_next true true before ins t = subst (λ (l : List Token). IsFront (take (length before - 1) before) (take (length l - 1) l)) (sym (append-nil before)) (front-refl (take (length before - 1) before))
left_next true false before ins t = front-trans (take (length before - 1) before) before (before ++ []) (take_front (length before - 1) before) (front-append before [])
left_next false true before ins t = subst (λ (l : List Token). IsFront before l) (sym (but_last before ins t)) (front-append before ins)
left_next false false before ins t = front-append before (ins ++ t ∷ [])

with_token : (before ins : List Token) (t : Token) → IsFront (before ++ ins) (before ++ (ins ++ t ∷ []))
with_token before ins t = (t ∷ [], sym (append_assoc before ins (t ∷ [])))

right_next : (i j : Bool) (before ins later : List Token) (t : Token) → IsFront (right_of i before ins) (right_of j (after_of i before ins t) later)
right_next true true before ins later t = front-append before []
right_next true false before ins later t = front-trans before (before ++ []) ((before ++ []) ++ later) (front-append before []) (front-append (before ++ []) later)
right_next false true before ins later t = with_token before ins t
right_next false false before ins later t = front-trans (before ++ ins) (before ++ (ins ++ t ∷ [])) ((before ++ (ins ++ t ∷ [])) ++ later) (with_token before ins t) (front-append (before ++ (ins ++ t ∷ [])) later)

-- where the offset shows something, what comes after its inlays is before the next offset
across : (j : Bool) (before ins : List Token) (t : Token) → IsFront (before ++ ins) (left_of j (after_of false before ins t))
across true before ins t = subst (λ (l : List Token). IsFront (before ++ ins) l) (sym (but_last before ins t)) (front-refl (before ++ ins))
across false before ins t = with_token before ins t

at_end : (i : Bool) (before ins : List Token) (t : Token) → IsFront (right_of i before ins) (after_of i before ins t)
at_end true before ins t = front-append before []
at_end false before ins t = with_token before ins t

-- ---- positions

module _ (text : List ℕ) (inlays : List Inlay) (folds : List Fold) where
  abbrev pub tokens_to : ℕ → Bias → List Token
  tokens_to o bias = folded_to text inlays folds o bias

  abbrev pub token_at : ℕ → ℕ → Token
  token_at o b = if covered folds o then Hidden o else Byte o b

  pub next_before : (o : ℕ) → o < length text →
      folded_before text inlays folds (o + 1) ≡ after_of (inside folds o) (folded_before text inlays folds o) (inlays_at inlays o) (token_at o (get_or text o 0))
  next_before o lt =
      let at : 0 + length (take o text) ≡ o = omega (arith, length-take-lt) in
      ap (show_each (shown inlays folds) 0) (take_more text o 0 lt)
      ∙ show_each-append (shown inlays folds) 0 (take o text) (get_or text o 0 ∷ [])
      ∙ ap (λ (k : ℕ). folded_before text inlays folds o ++ show_each (shown inlays folds) k (get_or text o 0 ∷ [])) at
      ∙ ap (λ (l : List Token). folded_before text inlays folds o ++ l) (append-nil (shown inlays folds o (get_or text o 0))) where
        length-take-lt : length (take o text) ≡ o
        length-take-lt = omega (arith, length-take-le o text (omega arith))

  pub to-sides : (o : ℕ) → IsFront (tokens_to o Left) (tokens_to o Right)
  to-sides o = sides (inside folds o) (folded_before text inlays folds o) (inlays_at inlays o)

  to-next : (o : ℕ) (bias : Bias) → o < length text → IsFront (tokens_to o bias) (tokens_to (o + 1) bias)
  to-next o Left lt =
      subst (λ (l : List Token). IsFront (tokens_to o Left) (left_of (inside folds (o + 1)) l)) (sym (next_before o lt))
      (left_next (inside folds o) (inside folds (o + 1)) (folded_before text inlays folds o) (inlays_at inlays o) (token_at o (get_or text o 0)))
  to-next o Right lt =
      subst (λ (l : List Token). IsFront (tokens_to o Right) (right_of (inside folds (o + 1)) l (inlays_at inlays (o + 1)))) (sym (next_before o lt))
      (right_next (inside folds o) (inside folds (o + 1)) (folded_before text inlays folds o) (inlays_at inlays o) (inlays_at inlays (o + 1)) (token_at o (get_or text o 0)))

  to-more : (o n : ℕ) (bias : Bias) → o + n ≤ length text → IsFront (tokens_to o bias) (tokens_to (o + n) bias)
  to-more o zero bias le = let e : o ≡ o + 0 = omega arith in subst (λ (p : ℕ). IsFront (tokens_to o bias) (tokens_to p bias)) e (front-refl (tokens_to o bias))
  to-more o (suc n) bias le =
      let e : o + n + 1 ≡ o + suc n = omega arith in
      subst (λ (p : ℕ). IsFront (tokens_to o bias) (tokens_to p bias)) e
      (front-trans (tokens_to o bias) (tokens_to (o + n) bias) (tokens_to (o + n + 1) bias) (to-more o n bias (omega (arith, le))) (to-next (o + n) bias (omega (arith, le))))

  -- for each bias the place of a position rises with its offset
  pub to-rises : (o p : ℕ) (bias : Bias) → o ≤ p → p ≤ length text → IsFront (tokens_to o bias) (tokens_to p bias)
  to-rises o p bias le within =
      let e : o + (p - o) ≡ p = omega (arith, le) in
      subst (λ (q : ℕ). IsFront (tokens_to o bias) (tokens_to q bias)) e (to-more o (p - o) bias (omega (arith, le, within)))

  -- after the inlays of an offset that shows something comes each later offset
  pub to-across : (o p : ℕ) → inside folds o ≡ false → o < p → p ≤ length text → IsFront (tokens_to o Right) (tokens_to p Left)
  to-across o p out lt within =
      let lt' : o < length text = omega (arith, lt, within) in
      let before = folded_before text inlays folds o in
      let ins = inlays_at inlays o in
      let t = token_at o (get_or text o 0) in
      let next : IsFront (tokens_to o Right) (tokens_to (o + 1) Left) =
      subst (λ (l : List Token). IsFront (tokens_to o Right) (left_of (inside folds (o + 1)) l)) (sym (next_before o lt'))
      (subst (λ (b : Bool). IsFront (right_of b before ins) (left_of (inside folds (o + 1)) (after_of b before ins t))) (sym out) (across (inside folds (o + 1)) before ins t)) in
      front-trans (tokens_to o Right) (tokens_to (o + 1) Left) (tokens_to p Left) next (to-rises (o + 1) p Left (omega (arith, lt)) within)

  -- each place is one of the folded text
  pub to-folded : (o : ℕ) (bias : Bias) → o ≤ length text → IsFront (tokens_to o bias) (folded text inlays folds)
  to-folded o bias le =
      let n = length text in
      front-trans (tokens_to o bias) (tokens_to n bias) (folded text inlays folds) (to-rises o n bias le (omega arith))
      (front-trans (tokens_to n bias) (tokens_to n Right) (folded text inlays folds) (to_right bias) last) where
        to_right : (bias : Bias) → IsFront (tokens_to (length text) bias) (tokens_to (length text) Right)
        to_right Left = to-sides (length text)
        to_right Right = front-refl (tokens_to (length text) Right)

        whole : folded text inlays folds ≡ after_of (inside folds (length text)) (folded_before text inlays folds (length text)) (inlays_at inlays (length text)) (token_at (length text) line_feed)
        whole =
            let at : 0 + length text ≡ length text = omega arith in
            show_each-append (shown inlays folds) 0 text (line_feed ∷ [])
            ∙ (λ i. show_each (shown inlays folds) 0 (sym (take_all (length text) text (omega arith)) i) ++ show_each (shown inlays folds) (at i) (line_feed ∷ []))
            ∙ ap (λ (l : List Token). folded_before text inlays folds (length text) ++ l) (append-nil (shown inlays folds (length text) line_feed))

        last : IsFront (tokens_to (length text) Right) (folded text inlays folds)
        last = subst (λ (l : List Token). IsFront (tokens_to (length text) Right) l) (sym whole)
            (at_end (inside folds (length text)) (folded_before text inlays folds (length text)) (inlays_at inlays (length text)) (token_at (length text) line_feed))
