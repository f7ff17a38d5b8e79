-- Where an offset is among folds: as the splices of the joined folds carry it, and by the definition.
use Rattle.std.proofs.Common.{◌≡◌, ℕ, ◌+◌, ◌-◌, ◌<◌, ◌≤◌, Bool, true, false, cond, ltb, leb, nat_le, nat_lt, List, [], ◌∷◌, map, filter, flat_map, length, refl, sym, ap, ◌∙◌, subst, ◌&&◌, inl, inr, ◌⊎◌, arith}
use Rattle.std.specs.List.{sum_by}
use Rattle.std.proofs.lemmas.Bool.{cases_lt, leb-true, lt-ltb}
use Rattle.std.proofs.lemmas.Bool.Decides.{nat_tests}
use Rattle.std.proofs.lemmas.List.Sums.{sum_by-cons}
use Rattle.cell_units.specs.declared.place.Bias.{Bias}
use Rattle.cell_units.specs.declared.place.Bias.TheVariants.{Left, Right}
use Rattle.cell_units.specs.Text.{clean}
use Rattle.cell_units.specs.Record.{Fold, Inlay}
use Rattle.cell_units.specs.Folded.{inside}
use Rattle.cell_units.specs.Inlaid.{bytes_of as bytes_of_token}
use Rattle.cell_units.specs.Joined.{IsJoined}
use Rattle.cell_units.specs.Laws.{inlaid_bytes}
use Rattle.cell_units.specs.Layers.{Source, place_of, unfolded}
use Rattle.cell_units.proofs.FoldedPlaces.{place-behind, places-apart, places-of_inlays, places-within}
use Rattle.cell_units.proofs.InlaidPlaces.{left-is, right-is}
use Rattle.cell_units.proofs.Joined.{covered_inside}
use Rattle.cell_units.proofs.ShownPlaces.{places-left_first, places-rise}
use Rattle.joined_folds.specs.declared.joined_fold.JoinedFold.{JoinedFold}
use Rattle.joined_folds.specs.JoinedLists.{AreAllJoined, AreJoined, EndBy, IsBare}
use Rattle.joined_folds.proofs.JoinedLists.{covered_past, joined-order, open_first, shown-joined}
use Rattle.sum_core.specs.declared.load.NoLoad.{NoLoad}
use Rattle.splice_tree.specs.Splices.{Piece, Stretch, is_behind, measured, to_upper}
use Rattle.splice_tree.proofs.Carrying.{after, inside_left, inside_right, kept}
use Rattle.sum_tree.specs.Firsts.{IsReaching}
use Rattle.fold_map.specs.declared.amount.Amount.{Amount}
use Rattle.fold_map.specs.Amounts.{bytes_of}
use Rattle.fold_map.specs.Snapshots.{IsSnapshot, with_folds}
use Rattle.fold_map.specs.Splices.{splice_of, splices_from}

pub behind-left : (g e x : ℕ) → g < x → e ≤ x → (nat_lt g x && nat_le e x) ≡ true
behind-left g e x lt le = grind (arith, nat_tests)

pub behind-right : (e x : ℕ) → e ≤ x → nat_le e x ≡ true
behind-right e x le = grind (arith, nat_tests)

-- ---- a layer without folds

abbrev shown_bytes : Inlay → ℕ
shown_bytes i = length (clean i.text)

more-bytes : (p q : Inlay → Bool) → ((i : Inlay) → p i ≡ true → q i ≡ true) → (is : List Inlay) → inlaid_bytes p is ≤ inlaid_bytes q is
more-bytes p q imp [] = omega arith
more-bytes p q imp (i ∷ is) = go (p i) (q i) (imp i) (more-bytes p q imp is) where
  go : (b c : Bool) → (b ≡ true → c ≡ true) → inlaid_bytes p is ≤ inlaid_bytes q is → sum_by shown_bytes (cond b (i ∷ filter p is) (filter p is)) ≤ sum_by shown_bytes (cond c (i ∷ filter q is) (filter q is))
  go true true h le = omega (arith, le, sum_by-cons shown_bytes i (filter p is), sum_by-cons shown_bytes i (filter q is))
  go true false h le = absurd (cc (h refl))
  go false true h le = omega (arith, le, sum_by-cons shown_bytes i (filter q is))
  go false false h le = le

module _ (text : List ℕ) (inlays : List Inlay) where
  abbrev pub low : Source
  low = record { text = text; inlays = inlays; folds = [] }

  -- between the places of two offsets there is at least the byte of the first
  pub low-apart : (o p : ℕ) → o < p → p ≤ length text → place_of low o Right < place_of low p Left
  low-apart o p lt le =
      let more = more-bytes (λ i. leb i.offset o) (λ i. ltb i.offset p) (λ i h. let l = leb-true i.offset o h in lt-ltb i.offset p (omega (arith, lt, l))) inlays in
      omega (arith, right-is text inlays o (omega (arith, lt, le)), left-is text inlays p le, more, lt)

  -- ---- with folds

  module _ (folds : List Fold) (ends : EndBy folds (length text)) where
    abbrev pub high : Source
    high = record { text = text; inlays = inlays; folds = folds }

    abbrev ss : ℕ → List JoinedFold → List Stretch
    ss base js = map (measured bytes_of) (splices_from low base js)

    -- as far from an offset as in the lower layer, where no fold hides a byte between
    pub apart : (base o : ℕ) (bias : Bias) → base ≤ o → o ≤ length text → inside folds base ≡ false → inside folds o ≡ false → IsBare folds base o
        → place_of high o bias ≡ place_of high base Left + (place_of low o bias - place_of low base Left)
    apart base o Left l u out out' bare =
        let h = places-apart text inlays folds base o l u out out' bare in
        let r = places-rise low base o Left l u in
        omega (arith, h, r)
    apart base o Right l u out out' bare =
        let h = places-apart text inlays folds base o l u out out' bare in
        let r = places-rise low base o Left l u in
        omega (arith, h, r, places-of_inlays text inlays folds o out', places-of_inlays text inlays [] o refl)

    -- a position up to a joined fold's start
    first-kept : (base : ℕ) (j : JoinedFold) (js : List JoinedFold) (o : ℕ) (bias : Bias) → o ≤ j.start → j.start < j.end → j.end ≤ length text → base ≤ o
        → to_upper bias (ss base (j ∷ js)) (place_of low o bias - place_of low base Left) ≡ place_of low o bias - place_of low base Left
    first-kept base j js o bias up some within l =
        kept bias (measured bytes_of (splice_of low base j)) (ss j.end js) (place_of low o bias - place_of low base Left) (reaching bias le) le where
          le : place_of low o bias - place_of low base Left ≤ place_of low j.start Right - place_of low base Left
          le = by bias where
            by : (bias : Bias) → place_of low o bias - place_of low base Left ≤ place_of low j.start Right - place_of low base Left
            by Left = omega (arith, places-rise low o j.start Left up (omega (arith, some, within)), places-left_first low j.start)
            by Right = omega (arith, places-rise low o j.start Right up (omega (arith, some, within)))

          reaching : (bias : Bias) → place_of low o bias - place_of low base Left ≤ place_of low j.start Right - place_of low base Left
              → IsReaching bias (place_of low o bias - place_of low base Left) ((measured bytes_of (splice_of low base j)).gap + (measured bytes_of (splice_of low base j)).old)
          reaching Left le = omega (arith, le)
          reaching Right le = omega (arith, le, low-apart j.start j.end some within)

    module _ (base : ℕ) (j : JoinedFold) (js : List JoinedFold) (some : j.start < j.end) (within : j.end ≤ length text) (l : base ≤ j.start) where
      abbrev s : Stretch
      s = measured bytes_of (splice_of low base j)

      -- what a joined fold hides isn't empty, and begins after the base
      lengths : (place_of low base Left ≤ place_of low j.start Right) × (place_of low j.start Right < place_of low j.end Left)
      lengths = (omega (arith, places-rise low base j.start Left l (omega (arith, some, within)), places-left_first low j.start), low-apart j.start j.end some within)

      hidden-left : (o : ℕ) → j.start < o → o < j.end → to_upper Left (ss base (j ∷ js)) (place_of low o Left - place_of low base Left) ≡ s.gap
      hidden-left o x y = inside_left s (ss j.end js) (place_of low o Left - place_of low base Left)
          (omega (arith, lengths.0, low-apart j.start o x (omega (arith, y, within))))
          (omega (arith, lengths.0, lengths.1, low-apart o j.end y within, places-left_first low o))

      hidden-right : (o : ℕ) → j.start < o → o < j.end → to_upper Right (ss base (j ∷ js)) (place_of low o Right - place_of low base Left) ≡ s.gap + 3
      hidden-right o x y = inside_right s (ss j.end js) (place_of low o Right - place_of low base Left)
          (omega (arith, lengths.0, low-apart j.start o x (omega (arith, y, within)), places-left_first low o))
          (omega (arith, lengths.0, lengths.1, low-apart o j.end y within))

      past : (o : ℕ) (bias : Bias) → j.end ≤ o → o ≤ length text
          → to_upper bias (ss base (j ∷ js)) (place_of low o bias - place_of low base Left) ≡ s.gap + 3 + to_upper bias (ss j.end js) (place_of low o bias - place_of low j.end Left)
      past o bias x y =
          let there : place_of low o bias - place_of low base Left - (s.gap + s.old) ≡ place_of low o bias - place_of low j.end Left = omega (arith, lengths.0, lengths.1) in
          after bias s (ss j.end js) (place_of low o bias - place_of low base Left) (is-behind bias (rises bias))
          ∙ ap (λ k. s.gap + 3 + to_upper bias (ss j.end js) k) there where
            rises : (bias : Bias) → place_of low j.end Left ≤ place_of low o bias
            rises Left = places-rise low j.end o Left x y
            rises Right = omega (arith, places-rise low j.end o Left x y, places-left_first low o)

            is-behind : (bias : Bias) → place_of low j.end Left ≤ place_of low o bias → is_behind bias s (place_of low o bias - place_of low base Left) ≡ true
            is-behind Left le = behind-left s.gap (s.gap + s.old) (place_of low o Left - place_of low base Left) (omega (arith, le, lengths.0, lengths.1)) (omega (arith, le, lengths.0, lengths.1))
            is-behind Right le = behind-right (s.gap + s.old) (place_of low o Right - place_of low base Left) (omega (arith, le, lengths.0, lengths.1))

    -- ---- all together

    pub carried-from : (base : ℕ) (js : List JoinedFold) (o : ℕ) (bias : Bias) → AreJoined folds base js (length text) → inside folds base ≡ false → base ≤ o → o ≤ length text
        → place_of high o bias ≡ place_of high base Left + to_upper bias (ss base js) (place_of low o bias - place_of low base Left)
    carried-from base [] o bias a out l u = apart base o bias l u out (open-to (cases_lt o (length text))) (λ k x y. a.1 k x (omega (arith, y, u))) where
      open-to : (o < length text) ⊎ (length text ≤ o) → inside folds o ≡ false
      open-to (inl x) = covered_inside folds o (a.1 o l x)
      open-to (inr x) = covered_inside folds o (covered_past folds (length text) o ends x)
    carried-from base (j ∷ js) o bias a out l u = go (cases_lt o j.start) (cases_lt j.start o) (cases_lt o j.end) bias (λ x. carried-from j.end js o bias a.1 a.0.shows.3 x u) where
      within : j.end ≤ length text
      within = joined-order folds j.end js (length text) a.1

      start : place_of high j.start Right ≡ place_of high base Left + (place_of low j.start Right - place_of low base Left)
      start = apart base j.start Right a.0.order (omega (arith, a.0.some, within)) out a.0.shows.1 a.0.bare

      is : IsJoined folds j.start j.end
      is = shown-joined folds j.start j.end a.0.some a.0.shows

      before : o ≤ j.start → inside folds o ≡ false
          → place_of high o bias ≡ place_of high base Left + to_upper bias (ss base (j ∷ js)) (place_of low o bias - place_of low base Left)
      before x out' =
          apart base o bias l u out out' (λ k y z. a.0.bare k y (omega (arith, x, z)))
          ∙ ap (λ k. place_of high base Left + k) (sym (first-kept base j js o bias x a.0.some within l))

      within-it : (bias : Bias) → j.start < o → o < j.end → place_of high o bias ≡ place_of high base Left + to_upper bias (ss base (j ∷ js)) (place_of low o bias - place_of low base Left)
      within-it Left x y = omega (arith, (places-within text inlays folds j.start j.end o is x y within).0, start, hidden-left base j js a.0.some within a.0.order o x y)
      within-it Right x y = omega (arith, (places-within text inlays folds j.start j.end o is x y within).1, start, hidden-right base j js a.0.some within a.0.order o x y)

      go : (o < j.start) ⊎ (j.start ≤ o) → (j.start < o) ⊎ (o ≤ j.start) → (o < j.end) ⊎ (j.end ≤ o) → (b : Bias)
          → (j.end ≤ o → place_of high o bias ≡ place_of high j.end Left + to_upper bias (ss j.end js) (place_of low o bias - place_of low j.end Left))
          → place_of high o bias ≡ place_of high base Left + to_upper bias (ss base (j ∷ js)) (place_of low o bias - place_of low base Left)
      go (inl x) _ _ b next = before (omega (arith, x)) (covered_inside folds o (a.0.bare o l x))
      go (inr x) (inr y) _ b next = let e : j.start ≡ o = omega (arith, x, y) in before y (subst (λ (k : ℕ). inside folds k ≡ false) e a.0.shows.1)
      go (inr x) (inl y) (inl z) b next = within-it bias y z
      go (inr x) (inl y) (inr z) b next =
          omega (arith, next z, place-behind text inlays folds j.start j.end is (omega (arith, a.0.some)) within, start, past base j js a.0.some within a.0.order o bias z u)

  -- as the splices carry a place of the lower layer, so it is by the definition
  pub carried-place : (folds : List Fold) (js : List JoinedFold) (o : ℕ) (bias : Bias) → AreAllJoined folds (length text) js → o ≤ length text
      → place_of (record { text = text; inlays = inlays; folds = folds }) o bias ≡ to_upper bias (map (measured bytes_of) (splices_from low 0 js)) (place_of low o bias)
  carried-place folds js o bias a u =
      let first : place_of (high folds a.0) 0 Left ≡ 0 = ap (λ (i : Bool). length (flat_map bytes_of_token (cond i [] []))) (open_first folds) in
      let none : place_of low 0 Left ≡ 0 = refl in
      let same : place_of low o bias - place_of low 0 Left ≡ place_of low o bias = omega (arith, none) in
      let carried = carried-from folds a.0 0 js o bias a.1 (open_first folds) (omega arith) u in
      omega (arith, carried, first, ap (to_upper bias (map (measured bytes_of) (splices_from low 0 js))) same)

-- the same of a snapshot's parts
pub carried-by : (low : Source) (folds : List Fold) (splices : List (Piece Amount NoLoad)) (o : ℕ) (bias : Bias) → IsSnapshot low folds splices → o ≤ length low.text
    → place_of (with_folds low folds) o bias ≡ to_upper bias (map (measured bytes_of) splices) (place_of low o bias)
carried-by low folds splices o bias is u =
    carried-place low.text low.inlays folds is.spliced.joined o bias is.spliced.all u
    ∙ ap (λ ps. to_upper bias (map (measured bytes_of) ps) (place_of (unfolded low) o bias)) (sym is.spliced.spliced)
    ∙ ap (λ (fs : List Fold). to_upper bias (map (measured bytes_of) splices) (place_of (with_folds low fs) o bias)) (sym is.bare)
