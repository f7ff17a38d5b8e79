-- What splices cover: the lower layer up to a joined fold's end, and what is shown of it.
use Rattle.std.proofs.Common.{◌≡◌, ℕ, ◌+◌, ◌-◌, ◌<◌, ◌≤◌, Bool, false, cond, List, [], ◌∷◌, ◌++◌, length, take, refl, sym, ap, ◌∙◌, arith}
use Rattle.std.specs.List.{count_by}
use Rattle.std.proofs.lemmas.List.Sums.{sum_by-append}
use Rattle.cell_units.specs.declared.place.Bias.{Bias}
use Rattle.cell_units.specs.declared.place.Bias.TheVariants.{Left, Right}
use Rattle.cell_units.specs.Record.{Fold, Inlay}
use Rattle.cell_units.specs.Folded.{folded_before, inside, line_of}
use Rattle.cell_units.specs.Inlaid.{Token, inlays_at, is_break}
use Rattle.cell_units.specs.Layers.{Source, place_of, shown_text}
use Rattle.cell_units.proofs.FoldedPlaces.{line-behind, lines-apart, place-behind}
use Rattle.cell_units.proofs.LineSpans.{place-line}
use Rattle.cell_units.proofs.ReplacedRows.{row_of-le}
use Rattle.cell_units.proofs.ShownPlaces.{places-left_first, places-rise}
use Rattle.joined_folds.specs.declared.joined_fold.JoinedFold.{JoinedFold}
use Rattle.joined_folds.specs.JoinedLists.{AreJoined, EndBy, IsNext, last_end}
use Rattle.joined_folds.proofs.JoinedLists.{joined-order, shown-joined}
use Rattle.sum_core.specs.Sums.{total}
use Rattle.splice_tree.specs.Sides.{none, both}
use Rattle.splice_tree.specs.Splices.{piece_sum}
use Rattle.splice_tree.specs.declared.sides.Sides.{Sides}
use Rattle.fold_map.specs.declared.amount.Amount.{Amount}
use Rattle.fold_map.specs.Amounts.{line_at, nothing, together}
use Rattle.fold_map.specs.Splices.{splices_from}
use Rattle.fold_map.proofs.Places.{apart, low-apart}

-- ---- lines

pub breaks-append : (xs ys : List Token) → count_by is_break (xs ++ ys) ≡ count_by is_break xs + count_by is_break ys
breaks-append xs ys = sum_by-append (λ (t : Token). cond (is_break t) 1 0) xs ys

-- the lines of the inlays at an open offset are between its positions
lines-of_inlays : (text : List ℕ) (inlays : List Inlay) (folds : List Fold) (o : ℕ) → inside folds o ≡ false → line_of text inlays folds o Right ≡ line_of text inlays folds o Left + count_by is_break (inlays_at inlays o)
lines-of_inlays text inlays folds o out =
    ap (λ (i : Bool). count_by is_break (cond i (folded_before text inlays folds o) (folded_before text inlays folds o ++ inlays_at inlays o))) out
    ∙ breaks-append (folded_before text inlays folds o) (inlays_at inlays o)
    ∙ ap (λ (n : ℕ). n + count_by is_break (inlays_at inlays o))
    (sym (ap (λ (i : Bool). count_by is_break (cond i (take (length (folded_before text inlays folds o) - 1) (folded_before text inlays folds o)) (folded_before text inlays folds o))) out))

module _ (text : List ℕ) (inlays : List Inlay) where
  abbrev below : Source
  below = record { text = text; inlays = inlays; folds = [] }

  -- the lower layer's lines don't fall
  pub lines-rise : (o p : ℕ) (bias : Bias) → o ≤ p → p ≤ length text → line_at below o bias ≤ line_at below p bias
  lines-rise o p bias l u =
      omega (
        arith,
        place-line below (refl, refl) o bias (omega (arith, l, u)),
        place-line below (refl, refl) p bias u,
        row_of-le (shown_text below) (place_of below o bias) (place_of below p bias) (places-rise below o p bias l u),
      )

  pub lines-left_first : (o : ℕ) → o ≤ length text → line_at below o Left ≤ line_at below o Right
  lines-left_first o u =
      omega (
        arith,
        place-line below (refl, refl) o Left u,
        place-line below (refl, refl) o Right u,
        row_of-le (shown_text below) (place_of below o Left) (place_of below o Right) (places-left_first below o),
      )

  pub lines-right_left : (o p : ℕ) → o < p → p ≤ length text → line_at below o Right ≤ line_at below p Left
  lines-right_left o p l u =
      let lt = low-apart text inlays o p l u in
      omega (
        arith,
        place-line below (refl, refl) o Right (omega (arith, l, u)),
        place-line below (refl, refl) p Left u,
        row_of-le (shown_text below) (place_of below o Right) (place_of below p Left) (omega (arith, lt)),
      )

  module _ (folds : List Fold) (ends : EndBy folds (length text)) where
    abbrev above : Source
    above = record { text = text; inlays = inlays; folds = folds }

    -- ---- from one joined fold's end to that of the next

    module _ (base : ℕ) (j : JoinedFold) (next : IsNext folds base j) (out : inside folds base ≡ false) (within : j.end ≤ length text) where
      joined : place_of above j.end Left ≡ place_of above j.start Right + 3
      joined = place-behind text inlays folds j.start j.end (shown-joined folds j.start j.end next.some next.shows) (let s = next.some in omega arith) within

      pub place-on : place_of above j.end Left ≡ place_of above base Left + (place_of below j.start Right - place_of below base Left) + 3
      place-on =
          let start = apart text inlays folds ends base j.start Right next.order (let s = next.some in omega (arith, within)) out next.shows.1 next.bare in
          omega (arith, joined, start)

      pub line-on : line_at above j.end Left ≡ line_at above base Left + (line_at below j.start Right - line_at below base Left)
      line-on =
          let some = next.some in
          let order = next.order in
          let u : j.start ≤ length text = omega (arith, within) in
          let a = lines-apart text inlays folds base j.start order u out next.shows.1 next.bare in
          let r = lines-rise base j.start Left order u in
          let b = line-behind text inlays folds j.start j.end (shown-joined folds j.start j.end some next.shows) (omega arith) within in
          omega (arith, a, r, b, lines-of_inlays text inlays folds j.start next.shows.1, lines-of_inlays text inlays [] j.start refl)

    -- ---- the sums

    abbrev sum : ℕ → List JoinedFold → Sides Amount
    sum base js = total (none nothing) (both together) (piece_sum together) (splices_from below base js)

    -- what splices cover, up to the end of the last one
    pub record Covers (base : ℕ) (js : List JoinedFold) : Type 0 where
      pub within : last_end base js ≤ length text
      pub order : base ≤ last_end base js
      pub buffer : (sum base js).lower.buffer ≡ last_end base js - base
      pub upper_buffer : (sum base js).upper.buffer ≡ last_end base js - base
      pub bytes : place_of below base Left + (sum base js).lower.bytes ≡ place_of below (last_end base js) Left
      pub feeds : line_at below base Left + (sum base js).lower.feeds ≡ line_at below (last_end base js) Left
      pub upper_bytes : place_of above base Left + (sum base js).upper.bytes ≡ place_of above (last_end base js) Left
      pub upper_feeds : line_at above base Left + (sum base js).upper.feeds ≡ line_at above (last_end base js) Left

    pub covers : (base : ℕ) (js : List JoinedFold) (to : ℕ) → AreJoined folds base js to → inside folds base ≡ false → to ≤ length text → Covers base js
    covers base [] to a out u = record {
      within = omega (arith, a.0, u);
      order = omega arith;
      buffer = omega arith;
      upper_buffer = omega arith;
      bytes = omega arith;
      feeds = omega arith;
      upper_bytes = omega arith;
      upper_feeds = omega arith;
    }
    covers base (j ∷ js) to a out u = go (covers j.end js to a.1 a.0.shows.3 u) where
      within : j.end ≤ length text
      within = omega (arith, joined-order folds j.end js to a.1, u)

      go : Covers j.end js → Covers base (j ∷ js)
      go c =
          let order = a.0.order in
          let some = a.0.some in
          let w : j.start ≤ length text = omega (arith, within) in
          let p1 = places-rise below base j.start Left order w in
          let p2 = places-left_first below j.start in
          let p3 = low-apart text inlays j.start j.end some within in
          let l1 = lines-rise base j.start Left order w in
          let l2 = lines-left_first j.start w in
          let l3 = lines-right_left j.start j.end some within in
          record {
            within = c.within;
            order = let x = c.order in omega arith;
            buffer = let x = c.order in let y = c.buffer in omega arith;
            upper_buffer = let x = c.order in let y = c.upper_buffer in omega arith;
            bytes = let y = c.bytes in omega (arith, p1, p2, p3);
            feeds = let y = c.feeds in omega (arith, l1, l2, l3);
            upper_bytes = let y = c.upper_bytes in omega (arith, place-on base j a.0 out within);
            upper_feeds = let y = c.upper_feeds in omega (arith, line-on base j a.0 out within);
          }
