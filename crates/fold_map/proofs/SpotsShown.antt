-- What lies at a splice, or after all: up to the placeholder the same is shown as in the lower layer.
use Rattle.std.proofs.Common.{◌≡◌, ℕ, suc, zero, ◌+◌, ◌<◌, ◌≤◌, Bool, true, false, cond, List, [], ◌∷◌, ◌++◌, length, length-append, take, drop, get_or, Some, None, refl, sym, ap, ◌∙◌, subst, arith, append-nil, take_all}
use Rattle.std.specs.List.{count_by, slice_get}
use Rattle.std.proofs.lemmas.List.{get_or-append-add, get_or_append_left, take-append-le}
use Rattle.std.proofs.lemmas.List.Concat.{flat_map-append}
use Rattle.std.proofs.Math.Seq.{take-append-add}
use Rattle.cell_units.specs.Text.{is_feed, row_of}
use Rattle.cell_units.specs.BufferLines.{behind_feeds, line_start}
use Rattle.cell_units.specs.Record.{Fold}
use Rattle.cell_units.specs.Folded.{folded_before, inside, shown}
use Rattle.cell_units.specs.Inlaid.{Token, Hidden, bytes_of as bytes_of_token, inlays_at, placeholder, show_each}
use Rattle.cell_units.specs.Layers.{Source, shown_text, unfolded}
use Rattle.cell_units.proofs.BufferLines.{behind_feeds-append, feeds-append, feeds-cons, length-behind_feeds}
use Rattle.cell_units.proofs.Joined.{covered_inside}
use Rattle.cell_units.proofs.LineSpans.{feeds-tokens}
use Rattle.cell_units.proofs.ShownText.{tokens_bytes}
use Rattle.joined_folds.proofs.JoinedLists.{covered_past}
use Rattle.sum_core.specs.declared.load.NoLoad.{NoLoad}
use Rattle.splice_tree.specs.Splices.{Piece}
use Rattle.splice_tree.specs.declared.sides.Sides.{Sides}
use Rattle.splice_tree.proofs.Passing.{drop-found, drop-past}
use Rattle.fold_map.specs.declared.amount.Amount.{Amount}
use Rattle.fold_map.specs.Splices.{AreSplices}
use Rattle.fold_map.proofs.ShownSteps.{from}
use Rattle.fold_map.proofs.ShownSplices.{AreSpliced, InSplices, in-splices, spliced, sums}

-- ---- a part of a text

-- the row of a place in it
pub row-in : (front mid rest : List ℕ) (r : ℕ) → r ≤ length mid → row_of (front ++ (mid ++ rest)) (length front + r) ≡ count_by is_feed front + count_by is_feed (take r mid)
row-in front mid rest r le =
    ap (count_by is_feed) (take-append-add front (mid ++ rest) r ∙ ap (λ (l : List ℕ). front ++ l) (take-append-le r mid rest le))
    ∙ feeds-append front (take r mid)

feeds-from : (o : ℕ) (bs : List ℕ) (i : ℕ) → i < count_by is_feed bs → get_or (behind_feeds o bs) i 0 ≡ o + get_or (behind_feeds 0 bs) i 0
feeds-from o [] i lt = absurd (omega (arith, lt))
feeds-from o (b ∷ bs) i lt = go (is_feed b) i (omega (arith, lt, feeds-cons b bs)) (λ k. feeds-from (o + 1) bs k) (λ k. feeds-from (0 + 1) bs k) where
  go : (c : Bool) (i : ℕ) → i < cond c 1 0 + count_by is_feed bs
      → ((k : ℕ) → k < count_by is_feed bs → get_or (behind_feeds (o + 1) bs) k 0 ≡ o + 1 + get_or (behind_feeds 0 bs) k 0)
      → ((k : ℕ) → k < count_by is_feed bs → get_or (behind_feeds (0 + 1) bs) k 0 ≡ 0 + 1 + get_or (behind_feeds 0 bs) k 0)
      → get_or (cond c ((o + 1) ∷ behind_feeds (o + 1) bs) (behind_feeds (o + 1) bs)) i 0 ≡ o + get_or (cond c ((0 + 1) ∷ behind_feeds (0 + 1) bs) (behind_feeds (0 + 1) bs)) i 0
  go true zero lt f g = omega arith
  go true (suc i) lt f g = omega (arith, f i (omega (arith, lt)), g i (omega (arith, lt)))
  go false i lt f g = omega (arith, f i (omega (arith, lt)), g i (omega (arith, lt)))

-- the start of a line after one of its feeds
pub start-in : (front mid rest : List ℕ) (r : ℕ) → r < count_by is_feed mid
    → line_start (front ++ (mid ++ rest)) (count_by is_feed front + suc r) ≡ length front + get_or (behind_feeds 0 mid) r 0
start-in front mid rest r lt =
    let here = behind_feeds (0 + length front) mid in
    let more = behind_feeds (0 + length front + length mid) rest in
    let long : length here ≡ count_by is_feed mid = length-behind_feeds (0 + length front) mid in
    let index : count_by is_feed front + suc r ≡ suc (length (behind_feeds 0 front) + r) = omega (arith, length-behind_feeds 0 front) in
    let first : line_start (front ++ (mid ++ rest)) (count_by is_feed front + suc r) ≡ get_or (behind_feeds 0 (front ++ (mid ++ rest))) (length (behind_feeds 0 front) + r) 0 =
    ap (λ (k : ℕ). get_or (0 ∷ behind_feeds 0 (front ++ (mid ++ rest))) k 0) index in
    first
    ∙ ap (λ (l : List ℕ). get_or l (length (behind_feeds 0 front) + r) 0) (behind_feeds-append 0 front (mid ++ rest) ∙ ap (λ (l : List ℕ). behind_feeds 0 front ++ l) (behind_feeds-append (0 + length front) mid rest))
    ∙ get_or-append-add (behind_feeds 0 front) (here ++ more) r 0
    ∙ get_or_append_left here more 0 r (omega (arith, long, lt))
    ∙ (let start : get_or here r 0 ≡ length front + get_or (behind_feeds 0 mid) r 0 = omega (arith, feeds-from (0 + length front) mid r lt) in start)

-- ---- the same bytes on either side

-- The lower layer's text and what is shown have the same bytes after what splices cover.
pub record AreAlike (below above : List ℕ) (before : Sides Amount) (mid : List ℕ) : Type 0 where
  pub front_below : List ℕ
  pub front_above : List ℕ
  pub rest_below : List ℕ
  pub rest_above : List ℕ
  pub below_is : below ≡ front_below ++ (mid ++ rest_below)
  pub above_is : above ≡ front_above ++ (mid ++ rest_above)
  pub lower_bytes : length front_below ≡ before.lower.bytes
  pub upper_bytes : length front_above ≡ before.upper.bytes
  pub lower_feeds : count_by is_feed front_below ≡ before.lower.feeds
  pub upper_feeds : count_by is_feed front_above ≡ before.upper.feeds

module _ (below above : List ℕ) (before : Sides Amount) (mid : List ℕ) (a : AreAlike below above before mid) where
  pub row-below : (r : ℕ) → r ≤ length mid → row_of below (before.lower.bytes + r) ≡ before.lower.feeds + count_by is_feed (take r mid)
  row-below r le =
      (λ i. row_of (a.below_is i) (sym a.lower_bytes i + r))
      ∙ row-in a.front_below mid a.rest_below r le
      ∙ ap (λ (k : ℕ). k + count_by is_feed (take r mid)) a.lower_feeds

  pub row-above : (r : ℕ) → r ≤ length mid → row_of above (before.upper.bytes + r) ≡ before.upper.feeds + count_by is_feed (take r mid)
  row-above r le =
      (λ i. row_of (a.above_is i) (sym a.upper_bytes i + r))
      ∙ row-in a.front_above mid a.rest_above r le
      ∙ ap (λ (k : ℕ). k + count_by is_feed (take r mid)) a.upper_feeds

  pub start-below : (r : ℕ) → r < count_by is_feed mid → line_start below (before.lower.feeds + suc r) ≡ before.lower.bytes + get_or (behind_feeds 0 mid) r 0
  start-below r lt =
      (λ i. line_start (a.below_is i) (sym a.lower_feeds i + suc r))
      ∙ start-in a.front_below mid a.rest_below r lt
      ∙ ap (λ (k : ℕ). k + get_or (behind_feeds 0 mid) r 0) a.lower_bytes

  pub start-above : (r : ℕ) → r < count_by is_feed mid → line_start above (before.upper.feeds + suc r) ≡ before.upper.bytes + get_or (behind_feeds 0 mid) r 0
  start-above r lt =
      (λ i. line_start (a.above_is i) (sym a.upper_feeds i + suc r))
      ∙ start-in a.front_above mid a.rest_above r lt
      ∙ ap (λ (k : ℕ). k + get_or (behind_feeds 0 mid) r 0) a.upper_bytes

  pub long-below : length below ≡ before.lower.bytes + (length mid + length a.rest_below)
  long-below = ap (λ (l : List ℕ). length l) a.below_is ∙ omega (arith, length-append a.front_below (mid ++ a.rest_below), length-append mid a.rest_below, a.lower_bytes)

  pub long-above : length above ≡ before.upper.bytes + (length mid + length a.rest_above)
  long-above = ap (λ (l : List ℕ). length l) a.above_is ∙ omega (arith, length-append a.front_above (mid ++ a.rest_above), length-append mid a.rest_above, a.upper_bytes)

  pub feeds-below : count_by is_feed below ≡ before.lower.feeds + (count_by is_feed mid + count_by is_feed a.rest_below)
  feeds-below = ap (count_by is_feed) a.below_is ∙ omega (arith, feeds-append a.front_below (mid ++ a.rest_below), feeds-append mid a.rest_below, a.lower_feeds)

  pub feeds-above : count_by is_feed above ≡ before.upper.feeds + (count_by is_feed mid + count_by is_feed a.rest_above)
  feeds-above = ap (count_by is_feed) a.above_is ∙ omega (arith, feeds-append a.front_above (mid ++ a.rest_above), feeds-append mid a.rest_above, a.upper_feeds)

-- What is alike before the splice of an index, or after all of them.
pub record InSpot (below above : List ℕ) (ps : List (Piece Amount NoLoad)) (n : ℕ) : Type 0 where
  pub mid : List ℕ
  pub alike : AreAlike below above (sums (take n ps)) mid
  pub bytes : (p : Piece Amount NoLoad) → slice_get ps n ≡ Some p → length mid ≡ p.gap.bytes
  pub feeds : (p : Piece Amount NoLoad) → slice_get ps n ≡ Some p → count_by is_feed mid ≡ p.gap.feeds
  pub held : (p : Piece Amount NoLoad) → slice_get ps n ≡ Some p → (more : List ℕ) × (alike.rest_above ≡ placeholder ++ more)
  pub none : slice_get ps n ≡ None → (alike.rest_below ≡ []) × (alike.rest_above ≡ [])

bytes-of : (xs ys zs : List Token) → tokens_bytes (xs ++ (ys ++ zs)) ≡ tokens_bytes xs ++ (tokens_bytes ys ++ tokens_bytes zs)
bytes-of xs ys zs = flat_map-append bytes_of_token xs (ys ++ zs) ∙ ap (λ (l : List ℕ). tokens_bytes xs ++ l) (flat_map-append bytes_of_token ys zs)

module _ (c : Source) (base : ℕ) (ps : List (Piece Amount NoLoad)) (below above : List Token) (n : ℕ) (r : InSplices c base ps below above n) where
  abbrev alike : (mid more_below more_above : List Token) → r.rest_below ≡ mid ++ more_below → r.rest_above ≡ mid ++ more_above
      → AreAlike (tokens_bytes below) (tokens_bytes above) (sums (take n ps)) (tokens_bytes mid)
  alike mid more_below more_above eb ea = record {
    front_below = tokens_bytes r.front_below;
    front_above = tokens_bytes r.front_above;
    rest_below = tokens_bytes more_below;
    rest_above = tokens_bytes more_above;
    below_is = ap tokens_bytes (r.below_is ∙ ap (λ (l : List Token). r.front_below ++ l) eb) ∙ bytes-of r.front_below mid more_below;
    above_is = ap tokens_bytes (r.above_is ∙ ap (λ (l : List Token). r.front_above ++ l) ea) ∙ bytes-of r.front_above mid more_above;
    lower_bytes = r.lower.bytes;
    upper_bytes = r.upper.bytes;
    lower_feeds = feeds-tokens r.front_below ∙ r.lower.feeds;
    upper_feeds = feeds-tokens r.front_above ∙ r.upper.feeds;
  }

  spot-of : (qs : List (Piece Amount NoLoad)) → drop n ps ≡ qs → AreSpliced c r.offset qs r.rest_below r.rest_above → InSpot (tokens_bytes below) (tokens_bytes above) ps n
  spot-of [] e s = record {
    mid = tokens_bytes r.rest_below;
    alike = alike r.rest_below [] [] (sym (append-nil r.rest_below)) (sym s ∙ sym (append-nil r.rest_below));
    bytes = λ p f. absurd (none-left p f);
    feeds = λ p f. absurd (none-left p f);
    held = λ p f. absurd (none-left p f);
    none = λ f. (refl, refl);
  } where
    none-left : (p : Piece Amount NoLoad) → slice_get ps n ≡ Some p → ⊥
    none-left p f = let is : [] ≡ p ∷ drop (suc n) ps = sym e ∙ drop-found ps n p f in cc
  spot-of (q ∷ qs) e (a, i, s) = record {
    mid = tokens_bytes a.gap;
    alike = alike a.gap (a.old ++ a.below) (Hidden a.start ∷ a.above) i.below_is i.above_is;
    bytes = λ p f. i.gap.bytes ∙ ap (λ (t : Piece Amount NoLoad). t.gap.bytes) (same p f);
    feeds = λ p f. feeds-tokens a.gap ∙ i.gap.feeds ∙ ap (λ (t : Piece Amount NoLoad). t.gap.feeds) (same p f);
    held = λ p f. (tokens_bytes a.above, refl);
    none = λ f. absurd (some-left f);
  } where
    same : (p : Piece Amount NoLoad) → slice_get ps n ≡ Some p → q ≡ p
    same p f = let is : q ∷ qs ≡ p ∷ drop (suc n) ps = sym e ∙ drop-found ps n p f in cc

    some-left : slice_get ps n ≡ None → ⊥
    some-left f = let is : q ∷ qs ≡ [] = sym e ∙ drop-past ps n f in cc

-- ---- a source

module _ (s : Source) (ps : List (Piece Amount NoLoad)) (are : AreSplices s ps) where
  abbrev pub tokens : List Fold → List Token
  tokens folds = from s.text s.inlays folds 0

  pub out-at_end : inside s.folds (length s.text) ≡ false
  out-at_end = covered_inside s.folds (length s.text) (covered_past s.folds (length s.text) (length s.text) are.all.0 (omega arith))

  pub all-spliced : AreSpliced s 0 ps (tokens []) (tokens s.folds)
  all-spliced =
      subst (λ (qs : List (Piece Amount NoLoad)). AreSpliced s 0 qs (tokens []) (tokens s.folds)) (sym are.spliced)
      (spliced s.text s.inlays s.folds 0 are.joined are.all.1)

  pub text-below : shown_text (unfolded s) ≡ tokens_bytes (tokens [])
  text-below = ap (λ (t : List ℕ). tokens_bytes (show_each (shown s.inlays []) 0 t ++ inlays_at s.inlays (length s.text))) (take_all (length s.text) s.text (omega arith))

  pub text-above : shown_text s ≡ tokens_bytes (tokens s.folds)
  text-above =
      let before = folded_before s.text s.inlays s.folds (length s.text) in
      ap (λ (i : Bool). tokens_bytes (cond i before (before ++ inlays_at s.inlays (length s.text)))) out-at_end
      ∙ ap (λ (t : List ℕ). tokens_bytes (show_each (shown s.inlays s.folds) 0 t ++ inlays_at s.inlays (length s.text))) (take_all (length s.text) s.text (omega arith))

  -- what lies at a splice of a source
  pub in-spot : (n : ℕ) → InSpot (shown_text (unfolded s)) (shown_text s) ps n
  in-spot n =
      let r = in-splices s 0 ps (tokens []) (tokens s.folds) n all-spliced in
      subst (λ (t : List ℕ). InSpot t (shown_text s) ps n) (sym text-below)
      (subst (λ (t : List ℕ). InSpot (tokens_bytes (tokens [])) t ps n) (sym text-above)
      (spot-of s 0 ps (tokens []) (tokens s.folds) n r (drop n ps) refl r.rest))
