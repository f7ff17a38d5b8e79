-- What a seek among the splices finds.
use Rattle.std.proofs.Common.{◌≡◌, ℕ, zero, suc, ◌+◌, ◌-◌, ◌<◌, ◌≤◌, ◌^◌, List, [], ◌∷◌, ◌++◌, length, take, take_all, drop, length-append, count_by, Some, None, refl, sym, ap, ◌∙◌, subst, arith}
use Rattle.std.specs.List.{slice_get}
use Rattle.std.proofs.lemmas.List.{length-drop, length-take}
use Rattle.std.proofs.lemmas.List.Sums.{count_by-le-length}
use Rattle.std.proofs.lemmas.Option.{slice_get_past}
use Rattle.cell_units.specs.declared.limits.TheConstants.{LAID_LIMIT}
use Rattle.cell_units.specs.declared.place.Bias.{Bias}
use Rattle.cell_units.specs.declared.place.Bias.TheVariants.{Right}
use Rattle.cell_units.specs.Lawful.{AreInlays}
use Rattle.cell_units.specs.Layers.{Source, inlay_source, shown_text}
use Rattle.cell_units.specs.Record.{Inlay}
use Rattle.cell_units.specs.Text.{is_feed, row_of}
use Rattle.sum_core.specs.Sums.{total}
use Rattle.sum_core.specs.declared.load.NoLoad.{NoLoad}
use Rattle.sum_tree.specs.Firsts.{IsFirst, IsReaching, IsShort}
use Rattle.splice_tree.specs.Sides.{none, both}
use Rattle.splice_tree.specs.Splices.{Piece, piece_sum}
use Rattle.inlay_map.specs.declared.amount.Amount.{Amount}
use Rattle.inlay_map.specs.declared.spot.Spot.{Spot}
use Rattle.inlay_map.specs.Amounts.{amount_between, nothing, together}
use Rattle.inlay_map.specs.Splices.{base_at, splice_of, splices_from}
use Rattle.inlay_map.specs.Spots.{IsSpot, end_at, sum_before}
use Rattle.inlay_map.proofs.Cuts.{cut-at, text-is}
use Rattle.inlay_map.proofs.Places.{place-limit}
use Rattle.inlay_map.proofs.RowsShown.{in-spot}
use Rattle.inlay_map.proofs.ShownFeeds.{feeds-shown}
use Rattle.inlay_map.proofs.SpliceLists.{length-splices}
use Rattle.inlay_map.proofs.Spread.{IsSpread, spread}

some-same : {X : Type 0} (x y : X) → Some x ≡ Some y → x ≡ y
some-same x y p = cc

module _ (text : List ℕ) where
  -- the gap before a splice is the text from the inlay before it to its own
  pub gap-some : (base : ℕ) (is : List Inlay) (n : ℕ) (p : Piece Amount NoLoad) → slice_get (splices_from text base is) n ≡ Some p → p.gap ≡ amount_between text (base_at base is n) (end_at text is n)
  gap-some base [] zero p e = absurd (cc)
  gap-some base [] (suc n) p e = absurd (cc)
  gap-some base (i ∷ is) zero p e = ap (λ (q : Piece Amount NoLoad). q.gap) (sym (some-same (splice_of text base i) p e))
  gap-some base (i ∷ is) (suc n) p e = gap-some i.offset is n p e

  end-past : (base : ℕ) (is : List Inlay) (n : ℕ) → slice_get (splices_from text base is) n ≡ None → end_at text is n ≡ length text
  end-past base [] n e = refl
  end-past base (i ∷ is) zero e = absurd (cc)
  end-past base (i ∷ is) (suc n) e = end-past i.offset is n e

  -- after all it is the rest of the text
  pub gap-none : (is : List Inlay) (n : ℕ) → IsSpread text 0 is → slice_get (splices_from text 0 is) n ≡ None
      → amount_between text (sum_before text 0 is n).lower.bytes (length text) ≡ amount_between text (base_at 0 is n) (end_at text is n)
  gap-none is n s e =
      let c = cut-at text 0 is n s (omega arith) in
      let base : (sum_before text 0 is n).lower.bytes ≡ base_at 0 is n = omega (arith, c.offset) in
      λ i. amount_between text (base i) (sym (end-past 0 is n e) i)

  -- what is before a spot is an amount of the text from its start
  pub before-is : (is : List Inlay) (n : ℕ) → IsSpread text 0 is → (sum_before text 0 is n).lower ≡ amount_between text 0 (sum_before text 0 is n).lower.bytes
  before-is is n s =
      let c = cut-at text 0 is n s (omega arith) in
      let b = (sum_before text 0 is n).lower.bytes in
      let bytes : b ≡ b - 0 = omega arith in
      let same : base_at 0 is n ≡ b = omega (arith, c.offset) in
      let feeds : (sum_before text 0 is n).lower.feeds ≡ row_of text b - row_of text 0 = omega (arith, c.row, ap (row_of text) same) in
      λ i. record { bytes = bytes i; feeds = feeds i }

  pub before-within : (is : List Inlay) (n : ℕ) → IsSpread text 0 is → (sum_before text 0 is n).lower.bytes ≤ length text
  before-within is n s = let c = cut-at text 0 is n s (omega arith) in omega (arith, c.offset, c.within)

pub spot-is : (s : Source) (number : Amount → ℕ) (target : ℕ) (bias : Bias) (spot : Spot) (ps : List (Piece Amount NoLoad)) → ps ≡ splices_from s.text 0 s.inlays
    → IsFirst (none nothing) (both together) (piece_sum together) (λ x. number x.upper) ps target bias spot.index
    → spot.before ≡ total (none nothing) (both together) (piece_sum together) (take spot.index ps)
    → spot.gap ≡ amount_between s.text (base_at 0 s.inlays spot.index) (end_at s.text s.inlays spot.index) → IsSpot s number target bias spot
spot-is s number target bias spot ps same first before gap =
    let long : length ps ≡ length s.inlays = ap (λ (l : List (Piece Amount NoLoad)). length l) same ∙ length-splices s.text 0 s.inlays in
    record {
      within = omega (arith, first.within, long);
      before = before ∙ ap (λ l. total (none nothing) (both together) (piece_sum together) (take spot.index l)) same;
      gap = gap;
      short = λ some. subst (λ b. IsShort bias target (number b.upper)) (sym before) (first.short some);
      reaching = λ lt. subst (λ l. IsReaching bias target (number (total (none nothing) (both together) (piece_sum together) (take (spot.index + 1) l)).upper)) same (first.reaching (omega (arith, lt, long)));
    }

-- ---- the sum of all

lower-at_most : (text : List ℕ) (base : ℕ) (is : List Inlay)
    → (total (none nothing) (both together) (piece_sum together) (splices_from text base is)).lower.feeds ≤ (total (none nothing) (both together) (piece_sum together) (splices_from text base is)).upper.feeds
lower-at_most text base [] = omega arith
lower-at_most text base (i ∷ is) = omega (arith, lower-at_most text i.offset is)

-- how many line feeds are shown
pub record IsFeedSum (text : List ℕ) (is : List Inlay) (lower upper : ℕ) : Type 0 where
  pub order : lower ≤ upper
  pub feeds : count_by is_feed (shown_text (inlay_source text is)) ≡ row_of text (length text) + (upper - lower)
  pub small : count_by is_feed (shown_text (inlay_source text is)) < 2 ^ 28

pub feed-sum : (text : List ℕ) (is : List Inlay) → AreInlays text is → length text ≤ LAID_LIMIT
    → IsFeedSum text is (total (none nothing) (both together) (piece_sum together) (splices_from text 0 is)).lower.feeds (total (none nothing) (both together) (piece_sum together) (splices_from text 0 is)).upper.feeds
feed-sum text is are short =
    let s = spread text is are in
    let le = lower-at_most text 0 is in
    let sum = feeds-shown text 0 is s (omega arith) in
    let same = ap (count_by is_feed) (text-is text is s) in
    let none : row_of text 0 ≡ 0 = refl in
    record {
      order = le;
      feeds = omega (arith, le, sum, same, none);
      small = omega (arith, count_by-le-length is_feed (shown_text (inlay_source text is)), place-limit text Right (length text) is are short (omega arith));
    }

-- how many bytes are shown
pub record IsByteSum (text : List ℕ) (is : List Inlay) (lower upper : ℕ) : Type 0 where
  pub order : lower ≤ length text
  pub bytes : length (shown_text (inlay_source text is)) ≡ upper + (length text - lower)
  pub small : length (shown_text (inlay_source text is)) < 2 ^ 28

pub byte-sum : (text : List ℕ) (is : List Inlay) → AreInlays text is → length text ≤ LAID_LIMIT
    → IsByteSum text is (total (none nothing) (both together) (piece_sum together) (splices_from text 0 is)).lower.bytes (total (none nothing) (both together) (piece_sum together) (splices_from text 0 is)).upper.bytes
byte-sum text is are short =
    let n = length is in
    let at = in-spot text is n (spread text is are) in
    let base = base_at 0 is n in
    let here = take (length text - base) (drop base text) in
    let past : end_at text is n ≡ length text = end-past text 0 is n (slice_get_past (splices_from text 0 is) n (omega (arith, length-splices text 0 is))) in
    let all : take n (splices_from text 0 is) ≡ splices_from text 0 is = take_all n (splices_from text 0 is) (omega (arith, length-splices text 0 is)) in
    let lower = ap (λ (l : List (Piece Amount NoLoad)). (total (none nothing) (both together) (piece_sum together) l).lower.bytes) all in
    let upper = ap (λ (l : List (Piece Amount NoLoad)). (total (none nothing) (both together) (piece_sum together) l).upper.bytes) all in
    let whole : shown_text (inlay_source text is) ≡ at.front ++ (here ++ []) =
    at.whole ∙ ap (λ (m : ℕ). at.front ++ (take (m - base) (drop base text) ++ at.tail)) past ∙ ap (λ (l : List ℕ). at.front ++ (here ++ l)) (at.none (slice_get_past is n (omega arith))) in
    record {
      order = omega (arith, at.order, past, at.offset, lower);
      bytes = omega (
        arith,
        ap (λ (l : List ℕ). length l) whole,
        length-append at.front (here ++ []),
        length-append here [],
        length-take (length text - base) (drop base text),
        length-drop base text,
        at.long,
        at.offset,
        at.order,
        past,
        lower,
        upper,
      );
      small = place-limit text Right (length text) is are short (omega arith);
    }
