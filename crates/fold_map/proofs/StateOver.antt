-- The same folds over a layer that shows the same, and how far a replacement moves them.
use Rattle.std.proofs.Common.{◌≡◌, ℕ, ◌+◌, ◌-◌, ◌<◌, ◌≤◌, ◌^◌, List, [], ◌∷◌, length, map, None, sym, ap, ◌∙◌, subst, inl, inr, ◌⊎◌, arith}
use Rattle.std.specs.List.{All}
use Rattle.std.proofs.lemmas.Bool.{cases_lt}
use Rattle.std.proofs.lemmas.List.Elements.{All-cons, All-head, All-nil, All-tail}
use Rattle.cell_units.specs.declared.place.Bias.{Bias}
use Rattle.cell_units.specs.declared.place.Bias.TheVariants.{Left, Right}
use Rattle.cell_units.specs.declared.place.Shift.{Shift}
use Rattle.cell_units.specs.Anchor.{move}
use Rattle.cell_units.specs.Inlaid.{Token}
use Rattle.cell_units.specs.Layers.{Source, inlay_source, unfolded}
use Rattle.cell_units.specs.Record.{Fold}
use Rattle.cell_units.proofs.Moves.{move-above, move-below, move-within}
use Rattle.cell_units.proofs.ShownPlaces.{places-left_first}
use Rattle.joined_folds.specs.declared.joined_fold.JoinedFold.{JoinedFold}
use Rattle.joined_folds.specs.JoinedLists.{AreAllJoined, AreJoined}
use Rattle.joined_folds.specs.Sweeps.{fold_of}
use Rattle.joined_folds.specs.Windows.{moved_on}
use Rattle.joined_folds.proofs.JoinedLists.{joined-order}
use Rattle.mark_tree.specs.declared.mark.RangeMark.{RangeMark}
use Rattle.mark_tree.specs.Ranges.{move_range}
use Rattle.edit_patch.specs.LayerLeads.{layer_places, token_after}
use Rattle.edit_patch.specs.Leads.{Leads, Reach}
use Rattle.sum_core.specs.declared.load.NoLoad.{NoLoad}
use Rattle.splice_tree.specs.Splices.{Piece}
use Rattle.fold_map.specs.declared.amount.Amount.{Amount}
use Rattle.fold_map.specs.Changes.{AreSameAround}
use Rattle.fold_map.specs.Snapshots.{IsSnapshot, with_folds}
use Rattle.fold_map.specs.Synced.{Follows}
use Rattle.fold_map.proofs.ChangedSplices.{front-same}
use Rattle.fold_map.proofs.MapTokens.{bare, layer-is, place-size}
use Rattle.fold_map.proofs.Positions.{unfold-same}
use Rattle.fold_map.proofs.StateMaps.{still-leads}
use Rattle.fold_map.proofs.StateSynced.{folds-lawful, same-around}

ends-within : (folds : List Fold) (from : ℕ) (js : List JoinedFold) (to : ℕ) → AreJoined folds from js to → All (λ j. j.end ≤ to) js
ends-within folds from [] to a = All-nil (λ (j : JoinedFold). j.end ≤ to)
ends-within folds from (j ∷ js) to a = All-cons (λ (i : JoinedFold). i.end ≤ to) j js (joined-order folds j.end js to a.1) (ends-within folds j.end js to a.1)

-- layers that show the same have the same positions
same-positions : (text text' : List ℕ) (s : Source) (s' : Source) → text' ≡ text → bare text' s'.inlays ≡ bare text s.inlays → AreSameAround (inlay_source text s.inlays) (inlay_source text' s'.inlays) (length text) (length text) (length text)
same-positions text text' s s' same tokens =
    let n = length text in
    let L = bare text s.inlays in
    let r : Reach = record { start = length L; end = length L; count = length L - length L } in
    let led : Leads (map (token_after None)) L (bare text' s'.inlays) r =
    subst (λ (l : List Token). Leads (map (token_after None)) L l r) (sym tokens) (still-leads L (length L) (length L) (omega arith) (omega arith)) in
    let all = place-size text s.inlays n Right in
    same-around None text text' s.inlays s'.inlays r led n n n (omega arith) (omega arith) (omega arith) (omega (arith, ap (λ l. length l) same))
    (omega (arith, all, places-left_first (inlay_source text s.inlays) n)) (omega (arith, all)) (λ o l. omega (arith, l))

pub over-snapshot : (low layer : Source) (folds : List Fold) (splices : List (Piece Amount NoLoad)) → IsSnapshot low folds splices → Follows (with_folds low folds) layer None None → IsSnapshot layer folds splices
over-snapshot low layer folds splices is f =
    let js = is.spliced.joined in
    let all : AreAllJoined folds (length layer.text) js = subst (λ (t : List ℕ). AreAllJoined folds (length t) js) (sym f.text) is.spliced.all in
    let tokens : bare layer.text layer.inlays ≡ bare low.text low.inlays =
    sym (layer-is layer.text layer.inlays) ∙ ap (λ (v : Source). layer_places v) (sym (unfold-same layer f.bare)) ∙ f.leads ∙ layer-is low.text low.inlays in
    let same = same-positions low.text layer.text low layer f.text tokens in
    record {
      bare = f.bare;
      lawful = folds-lawful None low.text layer.text folds f.text is.lawful tt;
      fits = f.fits;
      spliced = record {
        joined = js;
        all = all;
        spliced =
            is.spliced.spliced
            ∙ sym (front-same (unfolded low) (unfolded layer) (length low.text) (length low.text) (length low.text) same folds 0 js (length low.text) is.spliced.all.1 (omega arith) (ends-within folds 0 js (length low.text) is.spliced.all.1));
      };
    }

-- ---- how far offsets move

move-bound : (p : ℕ) (bias : Bias) (a b n len : ℕ) → a ≤ b → b ≤ len → p ≤ len → move p bias a b n ≤ moved_on b (a + n) len
move-bound p bias a b n len order within u = go (cases_lt p a) (cases_lt b p) where
  go : (p < a) ⊎ (a ≤ p) → (b < p) ⊎ (p ≤ b) → move p bias a b n ≤ moved_on b (a + n) len
  go (inl x) _ = omega (arith, x, within, move-below p bias a b n x)
  go (inr x) (inl y) = omega (arith, x, y, u, within, order, move-above p bias a b n order y)
  go (inr x) (inr y) = let m = move-within p bias a b n x y in omega (arith, m.1, within)

pub moved-fit : (s : Shift) (len : ℕ) (rs : List RangeMark) → s.end ≤ len → moved_on s.end (s.start + s.count) len < 2 ^ 32 → All (λ f. (f.start < f.end) × (f.end ≤ len)) (map fold_of rs)
    → All (λ r. (r.start < 2 ^ 32) × (r.end < 2 ^ 32)) (map (move_range s) rs)
moved-fit s len [] within few a = All-nil (λ (r : RangeMark). (r.start < 2 ^ 32) × (r.end < 2 ^ 32))
moved-fit s len (r ∷ rs) within few a =
    let h = All-head (λ (f : Fold). (f.start < f.end) × (f.end ≤ len)) (fold_of r) (map fold_of rs) a in
    let x = h.0 in
    let y = h.1 in
    All-cons (λ (q : RangeMark). (q.start < 2 ^ 32) × (q.end < 2 ^ 32)) (move_range s r) (map (move_range s) rs) (
      omega (arith, few, move-bound r.start Right s.start s.end s.count len s.ordered within (omega (arith, x, y))),
      omega (arith, few, move-bound r.end Left s.start s.end s.count len s.ordered within y),
    )
    (moved-fit s len rs within few (All-tail (λ (f : Fold). (f.start < f.end) × (f.end ≤ len)) (fold_of r) (map fold_of rs) a))
