-- Spots don't fall as positions rise.
use Rattle.std.proofs.Common.{◌≡◌, ℕ, ◌+◌, ◌<◌, ◌≤◌, not, true, false, List, length, ◌∙◌, subst, inl, inr, ◌⊎◌, arith}
use Rattle.std.specs.List.{after_last, count_by, flat_map}
use Rattle.std.proofs.lemmas.Bool.{and_parts, cases_lt, not-true}
use Rattle.std.proofs.lemmas.Bool.Decides.{nat_tests}
use Rattle.std.proofs.lemmas.List.{length-map}
use Rattle.cell_units.specs.declared.place.Bias.{Bias}
use Rattle.cell_units.specs.declared.place.Bias.TheVariants.{Left, Right}
use Rattle.cell_units.specs.declared.place.Spot.{Spot}
use Rattle.cell_units.specs.declared.piece.Piece.{Piece}
use Rattle.cell_units.specs.Record.{Record}
use Rattle.cell_units.specs.Inlaid.{Token, bytes_of, is_break}
use Rattle.cell_units.specs.Lawful.{IsMarked}
use Rattle.cell_units.specs.Folded.{display_lines, folded, inside, line_of, place_in_line}
use Rattle.cell_units.specs.Pieces.{folded_lines, pieces_of}
use Rattle.cell_line.specs.Elements.{elements_of}
use Rattle.plain_rows.specs.Rows.{line_elements}
use Rattle.plain_rows.specs.Spots.{elements_at, elements_before, is_open, is_within, mark_at, rows_before, show, spot_in_line, spot_le}
use Rattle.plain_rows.proofs.Clips.{spot_le-trans}
use Rattle.plain_rows.proofs.Fronts.{IsFront, after_last-front, count_by-front, flat_map-front, length-front}
use Rattle.plain_rows.proofs.ElementPlaces.{elements_before-open, elements_before-rises, elements_before-sides}
use Rattle.plain_rows.proofs.LineSpots.{spot_in_line-rises, spot_in_line-row}
use Rattle.plain_rows.proofs.FoldedFronts.{to-across, to-folded, to-rises, to-sides, tokens_to}
use Rattle.plain_rows.proofs.RowsInOrder.{lines-breaks, rows_before-later}

abbrev pub line_in : List Token → ℕ
line_in tokens = count_by is_break tokens

abbrev pub byte_in : List Token → ℕ
byte_in tokens = length (flat_map bytes_of (after_last is_break tokens))

abbrev pub spot_of_row : Record → ℕ → Spot → Spot
spot_of_row r line within = record { row = rows_before r line + within.row; col = within.col }

-- the spot of a place between elements of a line
abbrev pub spot_at : Record → ℕ → ℕ → Spot
spot_at r line place = spot_of_row r line (spot_in_line (elements_at r line) (mark_at r line).width place)

in_earlier_row : (s t : Spot) → s.row < t.row → spot_le s t ≡ true
in_earlier_row s t h = grind (arith, nat_tests, h)

moved_down : (n : ℕ) (s t : Spot) → spot_le s t ≡ true → spot_le (record { row = n + s.row; col = s.col }) (record { row = n + t.row; col = t.col }) ≡ true
moved_down n s t h = grind (arith, nat_tests, h)

module _ (r : Record) (marked : IsMarked r) where
  abbrev lines : List (List Token)
  lines = display_lines r.text r.inlays r.folds

  length-lines : length (line_elements r) ≡ length lines
  length-lines =
      length-map (folded_lines r.text r.inlays r.folds) (λ (pieces : List Piece). elements_of pieces r.tab)
      ∙ length-map lines pieces_of

  -- places of lines in order, and within one line in order
  spot_at-rises : (j k a b : ℕ) → (j ≡ k → a ≤ b) → j ≤ k → k ≤ length lines → spot_le (spot_at r j a) (spot_at r k b) ≡ true
  spot_at-rises j k a b same le within = go (cases_lt j k) where
    go : (j < k) ⊎ (k ≤ j) → spot_le (spot_at r j a) (spot_at r k b) ≡ true
    go (inl lt) =
        let row = (spot_in_line (elements_at r j) (mark_at r j).width a).row in
        let more = rows_before-later r j k row lt (omega (arith, lt, within, length-lines)) (omega (arith, lt, within, marked)) (spot_in_line-row (elements_at r j) (mark_at r j).width a) in
        in_earlier_row (spot_at r j a) (spot_at r k b) (omega (arith, more))
    go (inr ge) =
        let e : j ≡ k = omega (arith, le, ge) in
        subst (λ (l : ℕ). spot_le (spot_at r j a) (spot_at r l b) ≡ true) e
        (moved_down (rows_before r j) (spot_in_line (elements_at r j) (mark_at r j).width a) (spot_in_line (elements_at r j) (mark_at r j).width b)
        (spot_in_line-rises (elements_at r j) (mark_at r j).width a b (same e)))

  -- prefixes of the folded text, where what is in one line is in order
  fronts-rise : (xs ys : List Token) (b c : Bias) → IsFront xs ys → IsFront ys (folded r.text r.inlays r.folds) →
      (byte_in xs ≤ byte_in ys → line_in xs ≡ line_in ys → elements_before (elements_at r (line_in xs)) (byte_in xs) b ≤ elements_before (elements_at r (line_in ys)) (byte_in ys) c) →
      spot_le (spot_at r (line_in xs) (elements_before (elements_at r (line_in xs)) (byte_in xs) b)) (spot_at r (line_in ys) (elements_before (elements_at r (line_in ys)) (byte_in ys) c)) ≡ true
  fronts-rise xs ys b c f g order =
      spot_at-rises (line_in xs) (line_in ys) (elements_before (elements_at r (line_in xs)) (byte_in xs) b) (elements_before (elements_at r (line_in ys)) (byte_in ys) c)
      (λ e. order (length-front (flat_map bytes_of (after_last is_break xs)) (flat_map bytes_of (after_last is_break ys)) (flat_map-front bytes_of (after_last is_break xs) (after_last is_break ys) (after_last-front is_break xs ys f e))) e)
      (count_by-front is_break xs ys f)
      (omega (arith, count_by-front is_break ys (folded r.text r.inlays r.folds) g, lines-breaks is_break (folded r.text r.inlays r.folds)))

  -- for one bias, or from Left to Right
  abbrev pub AreInOrder : Bias → Bias → Type 0
  AreInOrder b c = (line byte byte' : ℕ) → byte ≤ byte' → elements_before (elements_at r line) byte b ≤ elements_before (elements_at r line) byte' c

  fronts-order : (xs ys : List Token) (b c : Bias) → IsFront xs ys → IsFront ys (folded r.text r.inlays r.folds) → AreInOrder b c →
      spot_le (spot_at r (line_in xs) (elements_before (elements_at r (line_in xs)) (byte_in xs) b)) (spot_at r (line_in ys) (elements_before (elements_at r (line_in ys)) (byte_in ys) c)) ≡ true
  fronts-order xs ys b c f g order =
      fronts-rise xs ys b c f g (λ le e. subst (λ (l : ℕ). elements_before (elements_at r (line_in xs)) (byte_in xs) b ≤ elements_before (elements_at r l) (byte_in ys) c) e (order (line_in xs) (byte_in xs) (byte_in ys) le))

  pub show-rises : (o p : ℕ) (bias : Bias) → o ≤ p → p ≤ length r.text → spot_le (show r o bias) (show r p bias) ≡ true
  unfolding show
  show-rises o p bias le within =
      fronts-order (tokens_to r.text r.inlays r.folds o bias) (tokens_to r.text r.inlays r.folds p bias) bias bias
      (to-rises r.text r.inlays r.folds o p bias le within)
      (to-folded r.text r.inlays r.folds p bias within)
      (λ line byte byte' h. elements_before-rises (elements_at r line) byte byte' bias h)

  pub show-sides : (o : ℕ) → o ≤ length r.text → spot_le (show r o Left) (show r o Right) ≡ true
  unfolding show
  show-sides o within =
      fronts-order (tokens_to r.text r.inlays r.folds o Left) (tokens_to r.text r.inlays r.folds o Right) Left Right
      (to-sides r.text r.inlays r.folds o)
      (to-folded r.text r.inlays r.folds o Right within)
      (λ line byte byte' h. omega (arith, elements_before-rises (elements_at r line) byte byte' Left h, elements_before-sides (elements_at r line) byte'))

  -- ---- open pairs

  open-outside : (o : ℕ) (bias : Bias) → is_open r o bias ≡ true → inside r.folds o ≡ false
  unfolding is_open
  open-outside o bias h = not-true (inside r.folds o) (and_parts (not (inside r.folds o)) _ h).0

  open-between : (o : ℕ) (bias : Bias) → is_open r o bias ≡ true →
      is_within (elements_at r (line_of r.text r.inlays r.folds o bias)) (place_in_line r.text r.inlays r.folds o bias) ≡ false
  unfolding is_open
  open-between o bias h =
      let within = is_within (elements_at r (line_of r.text r.inlays r.folds o bias)) (place_in_line r.text r.inlays r.folds o bias) in
      not-true within (and_parts (not (inside r.folds o)) (not within) h).1

  pub show-across : (o p : ℕ) → is_open r o Right ≡ true → is_open r p Left ≡ true → o < p → p ≤ length r.text → spot_le (show r o Right) (show r p Left) ≡ true
  unfolding show
  show-across o p opened opened' lt within =
      let xs = tokens_to r.text r.inlays r.folds o Right in
      let ys = tokens_to r.text r.inlays r.folds p Left in
      fronts-rise xs ys Right Left
      (to-across r.text r.inlays r.folds o p (open-outside o Right opened) lt within)
      (to-folded r.text r.inlays r.folds p Left within)
      (λ le e.
      let here : elements_before (elements_at r (line_in xs)) (byte_in xs) Right ≡ elements_before (elements_at r (line_in xs)) (byte_in xs) Left = elements_before-open (elements_at r (line_in xs)) (byte_in xs) Right Left (open-between o Right opened) in
      let more : elements_before (elements_at r (line_in xs)) (byte_in xs) Left ≤ elements_before (elements_at r (line_in ys)) (byte_in ys) Left =
      subst (λ (l : ℕ). elements_before (elements_at r (line_in xs)) (byte_in xs) Left ≤ elements_before (elements_at r l) (byte_in ys) Left) e (elements_before-rises (elements_at r (line_in xs)) (byte_in xs) (byte_in ys) Left le) in
      omega (arith, here, more))

  -- the position comes before the other or is the same
  abbrev pub ComesFirst : ℕ → Bias → ℕ → Bias → Type 0
  ComesFirst o Left p c = o ≤ p
  ComesFirst o Right p Left = o < p
  ComesFirst o Right p Right = o ≤ p

  pub show-open_rises : (o : ℕ) (b : Bias) (p : ℕ) (c : Bias) → is_open r o b ≡ true → is_open r p c ≡ true → ComesFirst o b p c → p ≤ length r.text → spot_le (show r o b) (show r p c) ≡ true
  show-open_rises o Left p Left opened opened' le within = show-rises o p Left le within
  show-open_rises o Right p Right opened opened' le within = show-rises o p Right le within
  show-open_rises o Right p Left opened opened' lt within = show-across o p opened opened' lt within
  show-open_rises o Left p Right opened opened' le within =
      spot_le-trans (show r o Left) (show r p Left) (show r p Right) (show-rises o p Left le within) (show-sides p within)
