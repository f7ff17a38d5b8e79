-- Of a lawful record each valid spot shows an open position.
use Rattle.std.proofs.Common.{◌≡◌, ℕ, ◌-◌, ◌≤◌, not, Bool, true, false, if◌then◌else◌, List, [], ◌∷◌, ◌++◌, length, get_or, take, refl, sym, ap, ◌∙◌, subst, append-nil, inl, inr, ◌⊎◌, arith}
use Rattle.std.proofs.lemmas.Bool.{and_from, cases_Bool, not_from_false}
use Rattle.std.proofs.lemmas.List.{length_push, take_at}
use Rattle.cell_units.specs.declared.place.Bias.{Bias}
use Rattle.cell_units.specs.declared.place.Bias.TheVariants.{Left, Right}
use Rattle.cell_units.specs.declared.place.Spot.{Spot}
use Rattle.cell_units.specs.Text.{is_boundary, line_feed}
use Rattle.cell_units.specs.Record.{Record}
use Rattle.cell_units.specs.Inlaid.{Byte, Hidden, Token}
use Rattle.cell_units.specs.Folded.{inside}
use Rattle.cell_line.specs.declared.element.Element.{Element}
use Rattle.cell_units.specs.Lawful.{IsLawful}
use Rattle.plain_rows.specs.Spots.{elements_at, elements_before, is_open, positions, show}
use Rattle.plain_rows.proofs.ElementPlaces.{elements_before-open}
use Rattle.spot_laws.proofs.ElementSides.{HaveBytes, end_of-before, start_of-before}
use Rattle.plain_rows.proofs.FoldedFronts.{left_of, right_of, tokens_to}
use Rattle.plain_rows.proofs.ShowRises.{byte_in, line_in, spot_at}
use Rattle.plain_rows.proofs.SpotPositions.{boundary-within, contains-unmapped, position-boundary}
use Rattle.plain_rows.proofs.SpotOffsets.{IsShownAt, shown-contained}
use Rattle.spot_laws.proofs.BackRises.{HasBack}
use Rattle.spot_laws.proofs.Seams.{all_tokens, have_bytes, is_inside_at}
use Rattle.spot_laws.proofs.Around.{Hiding, all-next, all-right, before, before-hidden, hiding, ins, no-inlays, start-boundary}
use Rattle.spot_laws.proofs.Walks.{leave, walk-down, walk-up}

module _ (r : Record) (lawful : IsLawful r) where
  abbrev to : ℕ → Bias → List Token
  to o bias = tokens_to r.text r.inlays r.folds o bias

  abbrev es_at : List Token → List Element
  es_at xs = elements_at r (line_in xs)

  abbrev elements_to : List Token → Bias → ℕ
  elements_to xs bias = elements_before (es_at xs) (byte_in xs) bias

  show-is : (o : ℕ) (bias : Bias) → show r o bias ≡ spot_at r (line_in (to o bias)) (elements_to (to o bias) bias)
  unfolding show
  show-is o bias = refl

  open-is : (o : ℕ) (bias : Bias) → inside r.folds o ≡ false → is_inside_at r lawful (to o bias) ≡ false → is_open r o bias ≡ true
  unfolding is_open
  open-is o bias out apart = and_from (not (inside r.folds o)) (not (is_inside_at r lawful (to o bias))) (not_from_false (inside r.folds o) out) (not_from_false (is_inside_at r lawful (to o bias)) apart)

  -- an open position of the same place between elements serves for another
  answer : (o : ℕ) (b : Bias) (xs : List Token) → to o b ≡ xs → (p : ℕ) (c : Bias) (ys : List Token) → to p c ≡ ys →
      is_boundary r.text p ≡ true → inside r.folds p ≡ false → is_inside_at r lawful ys ≡ false → line_in ys ≡ line_in xs → elements_to ys c ≡ elements_to xs b → IsShownAt r (show r o b) p
  answer o b xs at p c ys at' boundary out apart line place = record {
    bias = c;
    boundary = boundary;
    opened = open-is p c out (subst (λ (l : List Token). is_inside_at r lawful l ≡ false) (sym at') apart);
    is = show-is p c
        ∙ ap (λ (l : List Token). spot_at r (line_in l) (elements_to l c)) at'
        ∙ (λ i. spot_at r (line i) (place i))
        ∙ ap (λ (l : List Token). spot_at r (line_in l) (elements_to l b)) (sym at)
        ∙ sym (show-is o b);
  }

  left-out : (o : ℕ) → inside r.folds o ≡ false → to o Left ≡ before r lawful o
  left-out o out = ap (λ (b : Bool). left_of b (before r lawful o)) out

  right-out : (o : ℕ) → inside r.folds o ≡ false → to o Right ≡ before r lawful o ++ ins r lawful o
  right-out o out = ap (λ (b : Bool). right_of b (before r lawful o) (ins r lawful o)) out

  right-in : (o : ℕ) → inside r.folds o ≡ true → to o Right ≡ before r lawful o
  right-in o h = ap (λ (b : Bool). right_of b (before r lawful o) (ins r lawful o)) h

  left-in : (o : ℕ) → inside r.folds o ≡ true → (i : Hiding r lawful o) → to o Left ≡ before r lawful i.start ++ ins r lawful i.start
  left-in o h i =
      let xs = before r lawful i.start ++ ins r lawful i.start in
      let at : length xs ≡ length (xs ++ Hidden i.start ∷ []) - 1 = omega (arith, length_push xs (Hidden i.start)) in
      ap (λ (b : Bool). left_of b (before r lawful o)) h
      ∙ ap (λ (l : List Token). take (length l - 1) l) i.is
      ∙ take_at xs (Hidden i.start ∷ []) (length (xs ++ Hidden i.start ∷ []) - 1) at

  bytes-at : (o : ℕ) → o ≤ length r.text → inside r.folds o ≡ false → HaveBytes (es_at (before r lawful o))
  bytes-at o le out = let n = all-next r lawful o le out in have_bytes r lawful (before r lawful o) n.0 n.1 n.2

  -- each position shares its spot with an open one
  pub shown-open : (o : ℕ) (b : Bias) → is_boundary r.text o ≡ true → (p : ℕ) × IsShownAt r (show r o b) p
  shown-open o Left boundary = go (cases_Bool (inside r.folds o)) where
    le : o ≤ length r.text
    le = boundary-within r.text o boundary

    xs : List Token
    xs = before r lawful o

    out_left : inside r.folds o ≡ false → (is_inside_at r lawful xs ≡ true) ⊎ (is_inside_at r lawful xs ≡ false) → (p : ℕ) × IsShownAt r (show r o Left) p
    out_left out (inr h) = (o, answer o Left xs (left-out o out) o Left xs (left-out o out) boundary out h refl refl)
    out_left out (inl h) =
        let s = walk-down r lawful o le out h in
        let ys = before r lawful s.offset ++ ins r lawful s.offset in (
          s.offset,
          answer o Left xs (left-out o out) s.offset Right ys (right-out s.offset s.out) s.boundary s.out s.apart s.line
              ((λ i. elements_before (elements_at r (s.line i)) (s.byte i) Right) ∙ start_of-before (es_at xs) (byte_in xs) Right (bytes-at o le out) h),
        )

    go : (inside r.folds o ≡ true) ⊎ (inside r.folds o ≡ false) → (p : ℕ) × IsShownAt r (show r o Left) p
    go (inr out) = out_left out (cases_Bool (is_inside_at r lawful xs))
    go (inl h) =
        let i = hiding r lawful o le h in
        let near : i.start ≤ length r.text = omega (arith, i.lt, le) in
        let ys = before r lawful i.start ++ ins r lawful i.start in
        let a = all-right r lawful i.start near i.out in
        let whole : all_tokens r lawful ≡ ys ++ Hidden i.start ∷ a.0 = a.1 ∙ ap (λ (t : Bool). ys ++ (if t then Hidden i.start else Byte i.start (get_or (r.text ++ line_feed ∷ []) i.start 0)) ∷ a.0) i.seen in
        let apart = before-hidden r lawful ys i.start a.0 whole in
        (i.start, answer o Left ys (left-in o h i) i.start Right ys (right-out i.start i.out) (start-boundary r lawful i.start near i.out i.seen) i.out apart refl (elements_before-open (es_at ys) (byte_in ys) Right Left apart))
  shown-open o Right boundary = go (cases_Bool (inside r.folds o)) where
    le : o ≤ length r.text
    le = boundary-within r.text o boundary

    xs : List Token
    xs = before r lawful o ++ ins r lawful o

    out_right : inside r.folds o ≡ false → (is_inside_at r lawful xs ≡ true) ⊎ (is_inside_at r lawful xs ≡ false) → (p : ℕ) × IsShownAt r (show r o Right) p
    out_right out (inr h) = (o, answer o Right xs (right-out o out) o Right xs (right-out o out) boundary out h refl refl)
    out_right out (inl h) =
        let none = no-inlays r lawful o le out h in
        let place : xs ≡ before r lawful o = ap (λ (l : List Token). before r lawful o ++ l) none ∙ append-nil (before r lawful o) in
        let h' : is_inside_at r lawful (before r lawful o) ≡ true = subst (λ (l : List Token). is_inside_at r lawful l ≡ true) place h in
        let e = walk-up r lawful o le out h' in (
          e.offset,
          answer o Right (before r lawful o) (right-out o out ∙ place) e.offset Left (before r lawful e.offset) (left-out e.offset e.out) e.boundary e.out e.apart e.line
              ((λ i. elements_before (elements_at r (e.line i)) (e.byte i) Left) ∙ end_of-before (es_at (before r lawful o)) (byte_in (before r lawful o)) Left (bytes-at o le out) h'),
        )

    go : (inside r.folds o ≡ true) ⊎ (inside r.folds o ≡ false) → (p : ℕ) × IsShownAt r (show r o Right) p
    go (inr out) = out_right out (cases_Bool (is_inside_at r lawful xs))
    go (inl h) =
        let s = leave r lawful o le h in
        let ys = before r lawful s.offset in (
          s.offset,
          answer o Right (before r lawful o) (right-in o h) s.offset Left ys (left-out s.offset s.out) s.boundary s.out s.apart (ap line_in s.same)
              (elements_before-open (es_at ys) (byte_in ys) Left Right s.apart ∙ ap (λ (l : List Token). elements_to l Right) s.same),
        )

  -- the set in `back` is never empty
  pub has-back : HasBack r
  has-back s valid =
      let x = contains-unmapped (λ (p : ℕ × Bias). show r p.0 p.1) (positions r.text) s valid in
      let a = shown-open x.0.0 x.0.1 (position-boundary r.text x.0 x.1) in
      (a.0, shown-contained r s a.0 (subst (λ (t : Spot). IsShownAt r t a.0) x.2 a.1))
