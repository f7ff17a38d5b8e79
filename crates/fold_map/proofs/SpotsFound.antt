-- Where the place is that a seek by bytes finds.
use Rattle.std.proofs.Common.{◌≡◌, ℕ, suc, zero, ◌+◌, ◌-◌, ◌<◌, ◌≤◌, ◌↔◌, ◌^◌, ◌⊎◌, nat_lt, inl, inr, Bool, true, false, List, [], ◌∷◌, ◌++◌, length, length-append, take, Option, Some, None, refl, sym, ap, ◌∙◌, subst, arith, append_assoc, take_all}
use Rattle.std.specs.List.{count_by, slice_get}
use Rattle.std.proofs.lemmas.Bool.{cases_lt, false≢true, le-ltb, lt-ltb}
use Rattle.std.proofs.lemmas.Option.{slice_get_within}
use Rattle.std.proofs.Math.Seq.{take-append-add}
use Rattle.cell_units.specs.declared.place.Bias.TheVariants.{Right}
use Rattle.cell_units.specs.Inlaid.{placeholder}
use Rattle.cell_units.specs.Layers.{HasPlace, Source, shown_text, unfolded}
use Rattle.cell_units.specs.Text.{is_feed, row_of}
use Rattle.cell_units.proofs.BufferLines.{feeds-append}
use Rattle.joined_folds.specs.declared.joined_fold.JoinedFold.{JoinedFold}
use Rattle.sum_core.specs.declared.load.NoLoad.{NoLoad}
use Rattle.splice_tree.specs.Splices.{IsFirstUpper, Piece}
use Rattle.splice_tree.specs.declared.sides.Sides.{Sides}
use Rattle.fold_map.specs.declared.amount.Amount.{Amount}
use Rattle.fold_map.specs.Amounts.{bytes_of, nothing, together}
use Rattle.fold_map.specs.Splices.{AreSplices, splices_from}
use Rattle.fold_map.specs.Spots.{IsSpot, IsSpotAt, SpotFits, kept_of}
use Rattle.fold_map.specs.declared.spots.Spot.{Spot}
use Rattle.fold_map.proofs.ShownSplices.{sums}
use Rattle.fold_map.proofs.SpotsBack.{none-hidden, offsets-below}
use Rattle.fold_map.proofs.SpotsShown.{in-spot, long-above, long-below, row-above, row-below, row-in}

-- The place is in the lower layer at this one: it has its offsets, and as many line feeds after what splices cover.
pub record IsBelow (s : Source) (place below : ℕ) (before : Sides Amount) : Type 0 where
  pub within : below ≤ length (shown_text (unfolded s))
  pub order : before.lower.feeds ≤ row_of (shown_text (unfolded s)) below
  pub row : row_of (shown_text s) place + before.lower.feeds ≡ before.upper.feeds + row_of (shown_text (unfolded s)) below
  pub same : (o : ℕ) → HasPlace s place o ↔ HasPlace (unfolded s) below o

-- The place is strictly inside a placeholder of this line: no offset has it.
pub record IsHidden (s : Source) (place line : ℕ) : Type 0 where
  pub row : row_of (shown_text s) place ≡ line
  pub none : (o : ℕ) → ¬ HasPlace s place o

-- one splice more
pub sums-next : (ps : List (Piece Amount NoLoad)) (n : ℕ) (p : Piece Amount NoLoad) → slice_get ps n ≡ Some p
    → ((sums (take (n + 1) ps)).upper.bytes ≡ (sums (take n ps)).upper.bytes + (p.gap.bytes + p.new.bytes))
    × ((sums (take (n + 1) ps)).upper.feeds ≡ (sums (take n ps)).upper.feeds + (p.gap.feeds + p.new.feeds))
sums-next ps n p e = go ps n e where
  go : (ps : List (Piece Amount NoLoad)) (n : ℕ) → slice_get ps n ≡ Some p
      → ((sums (take (n + 1) ps)).upper.bytes ≡ (sums (take n ps)).upper.bytes + (p.gap.bytes + p.new.bytes))
      × ((sums (take (n + 1) ps)).upper.feeds ≡ (sums (take n ps)).upper.feeds + (p.gap.feeds + p.new.feeds))
  go [] zero e = absurd (cc)
  go [] (suc n) e = absurd (cc)
  go (q ∷ qs) zero e =
      let same : q ≡ p = cc in
      (omega (arith, ap (λ (t : Piece Amount NoLoad). t.gap.bytes + t.new.bytes) same), omega (arith, ap (λ (t : Piece Amount NoLoad). t.gap.feeds + t.new.feeds) same))
  go (q ∷ qs) (suc n) e =
      let one : suc n + 1 ≡ suc (n + 1) = omega arith in
      let r = go qs n e in (
        omega (arith, ap (λ (k : ℕ). (sums (take k (q ∷ qs))).upper.bytes) one, r.0),
        omega (arith, ap (λ (k : ℕ). (sums (take k (q ∷ qs))).upper.feeds) one, r.1),
      )

-- what replaces each stretch is a placeholder
pub placeholder-new : (s : Source) (ps : List (Piece Amount NoLoad)) (n : ℕ) (p : Piece Amount NoLoad) → AreSplices s ps → slice_get ps n ≡ Some p → (p.new.bytes ≡ 3) × (p.new.feeds ≡ 0)
placeholder-new s ps n p are e = go 0 are.joined n (ap (λ (qs : List (Piece Amount NoLoad)). slice_get qs n) (sym are.spliced) ∙ e) where
  go : (base : ℕ) (js : List JoinedFold) (n : ℕ) → slice_get (splices_from (unfolded s) base js) n ≡ Some p → (p.new.bytes ≡ 3) × (p.new.feeds ≡ 0)
  go base [] zero e = absurd (cc)
  go base [] (suc n) e = absurd (cc)
  go base (j ∷ js) zero e = let new = ap (λ (o : Option (Piece Amount NoLoad)). new_of o) e in (sym (ap (λ (a : Amount). a.bytes) new), sym (ap (λ (a : Amount). a.feeds) new)) where
    new_of : Option (Piece Amount NoLoad) → Amount
    new_of None = nothing
    new_of (Some t) = t.new
  go base (j ∷ js) (suc n) e = go j.end js n e

no-feeds : (k : ℕ) → count_by is_feed (take k placeholder) ≡ 0
no-feeds zero = refl
no-feeds (suc zero) = refl
no-feeds (suc (suc zero)) = refl
no-feeds (suc (suc (suc zero))) = refl
no-feeds (suc (suc (suc (suc k)))) = refl

module _ (s : Source) (ps : List (Piece Amount NoLoad)) (are : AreSplices s ps) (n place : ℕ) (first : IsFirstUpper nothing together bytes_of ps place Right n) where
  abbrev lower : Amount
  lower = (sums (take n ps)).lower

  abbrev upper : Amount
  upper = (sums (take n ps)).upper

  abbrev rest : ℕ
  rest = place - upper.bytes

  -- the place isn't before what splices cover
  pub behind-splices : upper.bytes ≤ place
  behind-splices = go n first.short where
    go : (n : ℕ) → (0 < n → (sums (take n ps)).upper.bytes ≤ place) → (sums (take n ps)).upper.bytes ≤ place
    go zero h = omega arith
    go (suc n) h = h (omega arith)

  pub spot-below : place ≤ length (shown_text s) → ((p : Piece Amount NoLoad) → slice_get ps n ≡ Some p → rest ≤ p.gap.bytes) → IsBelow s place (lower.bytes + rest) (sums (take n ps))
  spot-below within in-gap = go (slice_get ps n) refl where
    here : upper.bytes + rest ≡ place
    here = omega (arith, behind-splices)

    make : rest ≤ length (in-spot s ps are n).mid → IsBelow s place (lower.bytes + rest) (sums (take n ps))
    make le =
        let i = in-spot s ps are n in
        let below = row-below (shown_text (unfolded s)) (shown_text s) (sums (take n ps)) i.mid i.alike rest le in
        let above = row-above (shown_text (unfolded s)) (shown_text s) (sums (take n ps)) i.mid i.alike rest le in
        record {
          within = omega (arith, le, long-below (shown_text (unfolded s)) (shown_text s) (sums (take n ps)) i.mid i.alike);
          order = omega (arith, below);
          row = omega (arith, below, above, ap (row_of (shown_text s)) here);
          same = λ o. let h = offsets-below s ps are n rest in-gap o in subst (λ (k : ℕ). HasPlace s k o ↔ HasPlace (unfolded s) (lower.bytes + rest) o) here h;
        }

    go : (found : Option (Piece Amount NoLoad)) → slice_get ps n ≡ found → IsBelow s place (lower.bytes + rest) (sums (take n ps))
    go None e =
        let i = in-spot s ps are n in
        let none = (i.none e).1 in
        make (omega (arith, within, long-above (shown_text (unfolded s)) (shown_text s) (sums (take n ps)) i.mid i.alike, ap (λ (l : List ℕ). length l) none))
    go (Some p) e = let i = in-spot s ps are n in make (omega (arith, in-gap p e, i.bytes p e))

  pub spot-hidden : (p : Piece Amount NoLoad) → slice_get ps n ≡ Some p → p.gap.bytes < rest → IsHidden s place (upper.feeds + p.gap.feeds)
  spot-hidden p e lt =
      let i = in-spot s ps are n in
      let new = placeholder-new s ps n p are e in
      let reached = first.reaching (slice_get_within ps n p e) in
      let to : place < upper.bytes + (p.gap.bytes + 3) = omega (arith, reached, sums-next ps n p e, new.0) in
      let k = rest - p.gap.bytes in
      let held = i.held p e in
      let a = i.alike in
      let here : place ≡ length a.front_above + (length i.mid + k) = omega (arith, a.upper_bytes, i.bytes p e, behind-splices, lt) in
      let whole : shown_text s ≡ a.front_above ++ ((i.mid ++ placeholder) ++ held.0) =
      a.above_is ∙ ap (λ (l : List ℕ). a.front_above ++ (i.mid ++ l)) held.1 ∙ ap (λ (l : List ℕ). a.front_above ++ l) (sym (append_assoc i.mid placeholder held.0)) in
      let row : row_of (shown_text s) place ≡ count_by is_feed a.front_above + count_by is_feed (take (length i.mid + k) (i.mid ++ placeholder)) =
      (λ j. row_of (whole j) (here j)) ∙ row-in a.front_above (i.mid ++ placeholder) held.0 (length i.mid + k) (omega (arith, length-append i.mid placeholder, i.bytes p e, to, behind-splices)) in
      let part : count_by is_feed (take (length i.mid + k) (i.mid ++ placeholder)) ≡ count_by is_feed i.mid =
      ap (count_by is_feed) (take-append-add i.mid placeholder k) ∙ feeds-append i.mid (take k placeholder) ∙ omega (arith, no-feeds k) in
      record {
        row = omega (arith, row, part, a.upper_feeds, i.feeds p e);
        none = λ o h. none-hidden s ps are n rest p e lt (omega (arith, to, new.0, behind-splices)) o (subst (λ (k : ℕ). HasPlace s k o) (omega (arith, behind-splices)) h);
      }

  -- where a placeholder begins
  pub gap-end : (p : Piece Amount NoLoad) → slice_get ps n ≡ Some p
      → (lower.bytes + p.gap.bytes ≤ length (shown_text (unfolded s))) × (row_of (shown_text (unfolded s)) (lower.bytes + p.gap.bytes) ≡ lower.feeds + p.gap.feeds)
  gap-end p e =
      let i = in-spot s ps are n in
      let below = row-below (shown_text (unfolded s)) (shown_text s) (sums (take n ps)) i.mid i.alike (length i.mid) (omega arith) in
      let all : take (length i.mid) i.mid ≡ i.mid = take_all (length i.mid) i.mid (omega arith) in
      let bytes = i.bytes p e in
      let there : lower.bytes + length i.mid ≡ lower.bytes + p.gap.bytes = omega (arith, bytes) in (
        omega (arith, bytes, long-below (shown_text (unfolded s)) (shown_text s) (sums (take n ps)) i.mid i.alike),
        omega (arith, below, ap (row_of (shown_text (unfolded s))) there, ap (count_by is_feed) all, i.feeds p e),
      )

-- ---- the spot of a place

module _ (s : Source) (ps : List (Piece Amount NoLoad)) (are : AreSplices s ps) (place : ℕ) (within : place ≤ length (shown_text s)) where
  -- a spot so many bytes after what splices cover
  make : (n kept : ℕ) (c : Bool) → IsFirstUpper nothing together bytes_of ps place Right n → kept ≡ kept_of (slice_get ps n) (place - (sums (take n ps)).upper.bytes)
      → c ≡ nat_lt kept (place - (sums (take n ps)).upper.bytes)
      → IsSpot s place (record { below = (sums (take n ps)).lower.bytes + kept; before = sums (take n ps); is_hidden = c })
  make n kept c first k h = go (slice_get ps n) refl k where
    rest : ℕ
    rest = place - (sums (take n ps)).upper.bytes

    seen : IsBelow s place ((sums (take n ps)).lower.bytes + (place - (sums (take n ps)).upper.bytes)) (sums (take n ps)) → kept ≡ place - (sums (take n ps)).upper.bytes
        → IsSpot s place (record { below = (sums (take n ps)).lower.bytes + kept; before = sums (take n ps); is_hidden = c })
    seen is e =
        let false' : c ≡ false = h ∙ ap (λ (j : ℕ). nat_lt j (place - (sums (take n ps)).upper.bytes)) e ∙ le-ltb (place - (sums (take n ps)).upper.bytes) (place - (sums (take n ps)).upper.bytes) (omega arith) in
        subst (λ (j : ℕ). IsSpot s place (record { below = (sums (take n ps)).lower.bytes + j; before = sums (take n ps); is_hidden = c })) (sym e)
        (record { within = is.within; order = is.order; row = is.row; same = λ _. is.same; none = λ t. absurd (false≢true (sym false' ∙ t)) })

    go : (found : Option (Piece Amount NoLoad)) → slice_get ps n ≡ found → kept ≡ kept_of found (place - (sums (take n ps)).upper.bytes)
        → IsSpot s place (record { below = (sums (take n ps)).lower.bytes + kept; before = sums (take n ps); is_hidden = c })
    go None e k = seen (spot-below s ps are n place first within (λ p f. absurd (none-some p (sym e ∙ f)))) k where
      none-some : (p : Piece Amount NoLoad) → None ≡ Some p → ⊥
      none-some p e = cc
    go (Some p) e k = by (cases_lt p.gap.bytes (place - (sums (take n ps)).upper.bytes)) where
      same-piece : (q : Piece Amount NoLoad) → slice_get ps n ≡ Some q → p ≡ q
      same-piece q f = let is : Some p ≡ Some q = sym e ∙ f in cc

      by : (p.gap.bytes < place - (sums (take n ps)).upper.bytes) ⊎ (place - (sums (take n ps)).upper.bytes ≤ p.gap.bytes)
          → IsSpot s place (record { below = (sums (take n ps)).lower.bytes + kept; before = sums (take n ps); is_hidden = c })
      by (inr le) =
          seen
          (spot-below s ps are n place first within (λ q f. omega (arith, le, ap (λ (t : Piece Amount NoLoad). t.gap.bytes) (same-piece q f))))
          (omega (arith, k, le))
      by (inl lt) =
          let gap : kept ≡ p.gap.bytes = omega (arith, k, lt) in
          let true' : c ≡ true = h ∙ ap (λ (j : ℕ). nat_lt j (place - (sums (take n ps)).upper.bytes)) gap ∙ lt-ltb p.gap.bytes (place - (sums (take n ps)).upper.bytes) lt in
          let is = spot-hidden s ps are n place first p e lt in
          let end = gap-end s ps are n place first p e in
          subst (λ (j : ℕ). IsSpot s place (record { below = (sums (take n ps)).lower.bytes + j; before = sums (take n ps); is_hidden = c })) (sym gap)
          (record {
            within = end.0;
            order = omega (arith, end.1);
            row = omega (arith, end.1, is.row);
            same = λ f. absurd (false≢true (sym f ∙ true'));
            none = λ _. is.none;
          })

  -- the spot that is found of a place is its own
  pub spot-is : (spot : Spot) → IsSpotAt ps place spot → IsSpot s place spot
  spot-is spot at =
      let upper = ap (λ (b : Sides Amount). place - b.upper.bytes) at.before in
      let kept = ap (kept_of (slice_get ps at.index)) upper in
      let is = make at.index (kept_of (slice_get ps at.index) (place - spot.before.upper.bytes)) spot.is_hidden at.first kept (at.hidden ∙ ap (nat_lt (kept_of (slice_get ps at.index) (place - spot.before.upper.bytes))) upper) in
      let below : (sums (take at.index ps)).lower.bytes + kept_of (slice_get ps at.index) (place - spot.before.upper.bytes) ≡ spot.below =
      ap (λ (b : Sides Amount). b.lower.bytes + kept_of (slice_get ps at.index) (place - spot.before.upper.bytes)) (sym at.before) ∙ sym at.below in
      subst (IsSpot s place) (λ i. record { below = below i; before = sym at.before i; is_hidden = spot.is_hidden }) is

  pub spot-fits : length (shown_text (unfolded s)) < 2 ^ 32 → SpotFits ps place
  spot-fits small spot at = omega (arith, (spot-is spot at).within, small)
