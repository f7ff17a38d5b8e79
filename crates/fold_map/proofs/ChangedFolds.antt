-- The joined folds and the splices after a change within a range.
use Rattle.std.proofs.Common.{◌≡◌, ℕ, zero, suc, ◌+◌, ◌-◌, ◌<◌, ◌≤◌, ◌^◌, List, [], ◌∷◌, ◌++◌, length, map, take, drop, min, nat_lt, filter, cond, Some, Result, Ok, Err, refl, sym, ap, ◌∙◌, subst, inl, inr, ◌⊎◌, ◌&&◌, arith, append_assoc, length-append}
use Rattle.std.specs.List.{All, slice_get}
use Rattle.std.specs.Result.{IfOk}
use Rattle.std.proofs.lemmas.Bool.{cases_lt, le-ltb, lt-ltb}
use Rattle.std.proofs.lemmas.List.{drop_at}
use Rattle.std.proofs.lemmas.Str.{IsUtf8-nil}
use Rattle.std.proofs.lemmas.List.Elements.{All-head, All-tail}
use Rattle.cell_units.specs.declared.place.Bias.TheVariants.{Left, Right}
use Rattle.cell_units.specs.Layers.{Source, unfolded}
use Rattle.cell_units.specs.Record.{Fold}
use Rattle.cell_units.specs.Text.{IsBoundary}
use Rattle.joined_folds.specs.declared.joined_fold.JoinedFold.{JoinedFold}
use Rattle.joined_folds.specs.declared.window.Window.{Window}
use Rattle.joined_folds.specs.JoinedLists.{AreAllJoined, AreJoined, EndBy, last_end}
use Rattle.joined_folds.specs.Sweeps.{AreMet, fold_of}
use Rattle.joined_folds.specs.Windows.{IsWindow, moved_fold, moved_on}
use Rattle.joined_folds.proofs.JoinedLists.{joined-back, joined-front, one-list, open_first}
use Rattle.joined_folds.proofs.Meeting.{meeting-met}
use Rattle.joined_folds.proofs.Windows.{others-stay}
use Rattle.mark_tree.specs.declared.mark.RangeMark.{RangeMark}
use Rattle.mark_tree.specs.Ranges.{IsRangeList, has_in_common}
use Rattle.sum_core.specs.Sums.{total}
use Rattle.sum_core.specs.declared.load.NoLoad.{NoLoad}
use Rattle.sum_core.proofs.Children.{fits-right}
use Rattle.splice_tree.specs.Sides.{BothFit, both, none, sides_laws}
use Rattle.splice_tree.specs.Splices.{Piece, piece_sum, regapped, replaced, with_first_gap}
use Rattle.splice_tree.proofs.Passing.{drop-found}
use Rattle.fold_map.specs.declared.amount.Amount.{Amount}
use Rattle.fold_map.specs.declared.met.Change.{Change}
use Rattle.fold_map.specs.declared.met.Met.{Met}
use Rattle.fold_map.specs.Amounts.{AmountFits, amount_between, amount_laws, nothing, together}
use Rattle.fold_map.specs.Changes.{IsChange, IsGapTo, IsMovedNext}
use Rattle.fold_map.specs.Met.{IsMetBy}
use Rattle.fold_map.specs.Positions.{AreInText}
use Rattle.fold_map.specs.Snapshots.{IsSnapshot, PlacesFit, with_folds}
use Rattle.fold_map.specs.Splices.{AreSplices, splices_from}
use Rattle.fold_map.proofs.ChangedSplices.{in-text, replaced-same}
use Rattle.fold_map.proofs.Fits.{fits-all}
use Rattle.fold_map.proofs.Positions.{base-at, unfold-same}
use Rattle.fold_map.proofs.Cuts.{length-splices}

-- ---- the folds that meet a window

start-test : (s e past : ℕ) → s + 1 < 2 ^ 32 → past ≡ min (e + 1) (2 ^ 32 - 1) → nat_lt s past ≡ nat_lt s (e + 1)
start-test s e past small is = go (cases_lt s (e + 1)) where
  go : (s < e + 1) ⊎ (e + 1 ≤ s) → nat_lt s past ≡ nat_lt s (e + 1)
  go (inl l) = lt-ltb s past (omega (arith, l, small, is)) ∙ sym (lt-ltb s (e + 1) l)
  go (inr l) = le-ltb s past (omega (arith, l, is)) ∙ sym (le-ltb s (e + 1) l)

-- as ends are u32, so is one past the end of the window
pub met-by : (ranges : List RangeMark) (start e past : ℕ) → All (λ r. (r.start < r.end) × (r.end < 2 ^ 32)) ranges → past ≡ min (e + 1) (2 ^ 32 - 1)
    → filter (has_in_common start past) ranges ≡ filter (has_in_common start (e + 1)) ranges
met-by [] start e past b is = refl
met-by (r ∷ rs) start e past b is =
    let bound = All-head (λ (q : RangeMark). (q.start < q.end) × (q.end < 2 ^ 32)) r rs b in
    let rest = met-by rs start e past (All-tail (λ (q : RangeMark). (q.start < q.end) × (q.end < 2 ^ 32)) r rs b) is in
    let same = start-test r.start e past (let x = bound.0 in let y = bound.1 in omega (arith, x, y)) is in
    λ i. cond (same i && nat_lt start r.end) (r ∷ rest i) (rest i)

pub are-met : (ranges : List RangeMark) (w : Window) (past : ℕ) (met : List RangeMark) → IsRangeList ranges → past ≡ min (w.end + 1) (2 ^ 32 - 1)
    → met ≡ filter (has_in_common w.start past) ranges → AreMet (map fold_of ranges) w met
are-met ranges w past met is p m = subst (AreMet (map fold_of ranges) w) (sym (m ∙ met-by ranges w.start w.end past is.bounds p)) (meeting-met ranges w is)

-- ---- lists

few : (folds : List Fold) (from : ℕ) (js : List JoinedFold) (to : ℕ) → AreJoined folds from js to → from + length js ≤ to
few folds from [] to a = omega (arith, a.0)
few folds from (j ∷ js) to a = omega (arith, few folds j.end js to a.1, a.0.order, a.0.some)

in-front : (s : Source) (base : ℕ) (xs ys : List JoinedFold) → AreInText s base (xs ++ ys) → AreInText s base xs
in-front s base [] ys a = base-at s base ys a
in-front s base (x ∷ xs) ys a = (a.0, in-front s x.end xs ys a.1)

in-back : (s : Source) (base : ℕ) (xs ys : List JoinedFold) → AreInText s base (xs ++ ys) → AreInText s (last_end base xs) ys
in-back s base [] ys a = a
in-back s base (x ∷ xs) ys a = in-back s x.end xs ys a.1

abbrev Fit : List (Piece Amount NoLoad) → Type 0
Fit ps = BothFit AmountFits (total (none nothing) (both together) (piece_sum together) ps)

-- where a list fits, so does one of it
one-fits : (xs fresh : List (Piece Amount NoLoad)) (p : Piece Amount NoLoad) (ys : List (Piece Amount NoLoad)) → Fit (xs ++ (fresh ++ p ∷ ys)) → BothFit AmountFits (piece_sum together p)
one-fits xs fresh p ys f =
    let laws = sides_laws nothing together AmountFits amount_laws in
    let rest = fits-right (none nothing) (both together) (BothFit AmountFits) (piece_sum together) laws (xs ++ (fresh ++ p ∷ ys)) xs (fresh ++ p ∷ ys) refl f in
    let last = fits-right (none nothing) (both together) (BothFit AmountFits) (piece_sum together) laws (fresh ++ p ∷ ys) fresh (p ∷ ys) refl rest in
    laws.left_fits (piece_sum together p) (total (none nothing) (both together) (piece_sum together) ys) last

-- the splices of a source are those of each list of its joined folds
pub spliced-by : (s : Source) (splices : List (Piece Amount NoLoad)) (js : List JoinedFold) → AreSplices s splices → AreAllJoined s.folds (length s.text) js → splices ≡ splices_from (unfolded s) 0 js
spliced-by s splices js are all = are.spliced ∙ ap (splices_from (unfolded s) 0) (one-list s.folds (length s.text) are.joined js are.all all)

-- a value that is so under a condition
pub if-so : {T E : Type 0} (r : Result T E) (W : Type 0) (P : T → Type 0) → (W → IfOk r P) → IfOk r (λ v. W → P v)
if-so (Ok v) W P f = f
if-so (Err e) W P f = tt

-- ---- after the change

module _ (s : Source) (js : List JoinedFold) (alls : AreAllJoined s.folds (length s.text) js) (layer : Source) (bare : layer.folds ≡ []) (folds : List Fold) (c : Change)
    (is : IsChange s (with_folds layer folds) c) (m : Met) (met : IsMetBy js c m) where
  abbrev low : Source
  low = unfolded layer

  ends : EndBy folds (length layer.text)
  ends = λ k d h. (is.formed.folds.each k d h).end.0

  all : AreAllJoined s.folds (length s.text) (met.front ++ (met.met ++ met.back))
  all = subst (AreAllJoined s.folds (length s.text)) met.parts alls

  stay : IsWindow folds m.window × ((fresh : List JoinedFold) → AreJoined folds m.window.from fresh m.window.to
      → AreAllJoined folds (length layer.text) (met.front ++ (fresh ++ map (moved_fold c.end c.last) met.back)))
  stay =
      let r = others-stay s.folds folds c.start c.end c.last (length s.text) met.front met.met met.back is.alike all is.within (subst (EndBy folds) is.text ends) met.parted in (
        subst (IsWindow folds) (sym met.window) r.0,
        λ fresh made. subst (λ (k : ℕ). AreAllJoined folds k (met.front ++ (fresh ++ map (moved_fold c.end c.last) met.back))) (sym is.text)
            (r.1 fresh (subst (λ (w : Window). AreJoined folds w.from fresh w.to) met.window made)),
      )

  pub window-is : IsWindow folds m.window
  window-is = stay.0

  -- those after it
  dropped : drop m.last js ≡ met.back
  dropped =
      ap (drop m.last) (met.parts ∙ sym (append_assoc met.front met.met met.back))
      ∙ drop_at (met.front ++ met.met) met.back m.last (length-append met.front met.met ∙ sym met.last)

  next-is : (j : JoinedFold) → slice_get js m.last ≡ Some j → met.back ≡ j ∷ drop (suc m.last) js
  next-is j e = sym dropped ∙ drop-found js m.last j e

  module _ (fresh : List JoinedFold) (made : AreJoined folds m.window.from fresh m.window.to) where
    abbrev pub joined : List JoinedFold
    joined = met.front ++ (fresh ++ map (moved_fold c.end c.last) met.back)

    pub all-joined : AreAllJoined folds (length layer.text) joined
    all-joined = stay.1 fresh made

    first-boundary : IsBoundary layer.text 0
    first-boundary = (omega arith, IsUtf8-nil)

    whole-in : AreInText low 0 joined
    whole-in = in-text layer.text layer.inlays folds is.formed.folds ends 0 joined (length layer.text) all-joined.1 (open_first folds) first-boundary is.fits

    rest-in : AreInText low m.base (fresh ++ map (moved_fold c.end c.last) met.back)
    rest-in = subst (λ (b : ℕ). AreInText low b (fresh ++ map (moved_fold c.end c.last) met.back)) (sym met.base) (in-back low 0 met.front (fresh ++ map (moved_fold c.end c.last) met.back) whole-in)

    pub stand : AreInText layer m.base fresh
    stand = subst (λ (v : Source). AreInText v m.base fresh) (sym (unfold-same layer bare)) (in-front low m.base fresh (map (moved_fold c.end c.last) met.back) rest-in)

    back-in : AreInText low (last_end m.base fresh) (map (moved_fold c.end c.last) met.back)
    back-in = in-back low m.base fresh (map (moved_fold c.end c.last) met.back) rest-in

    pub base-in : IsBoundary layer.text (last_end m.base fresh)
    base-in = base-at low (last_end m.base fresh) (map (moved_fold c.end c.last) met.back) back-in

    pub next-moved : (j : JoinedFold) → slice_get js m.last ≡ Some j → IsMovedNext layer.text (last_end m.base fresh) c j
    next-moved j e =
        let here = next-is j e in
        let next = subst (λ (l : List JoinedFold). AreInText low (last_end m.base fresh) (map (moved_fold c.end c.last) l)) here back-in in
        let far = All-head (λ (i : JoinedFold). c.end < i.start) j (drop (suc m.last) js) (subst (All (λ (i : JoinedFold). c.end < i.start)) here met.parted.back) in
        record { behind = omega (arith, far); boundary = next.0.start_at; order = next.0.order }

    module _ (splices : List (Piece Amount NoLoad)) (spliced : splices ≡ splices_from (unfolded s) 0 js) (gap : Amount) (gap-is : (j : JoinedFold) → slice_get js m.last ≡ Some j → IsGapTo layer (last_end m.base fresh) c gap j) where
      abbrev pub after : List (Piece Amount NoLoad)
      after = replaced m.first m.last (splices_from layer m.base fresh) gap splices

      measured-gap : (j : JoinedFold) (more : List JoinedFold) → met.back ≡ j ∷ more → gap ≡ amount_between low (last_end (last_end 0 met.front) fresh) Left (moved_on c.end c.last j.start) Right
      measured-gap j more e =
          gap-is j (found e) ∙ (λ i. amount_between (unfold-same layer bare i) (last_end (met.base i) fresh) Left (moved_on c.end c.last j.start) Right) where
            found : met.back ≡ j ∷ more → slice_get js m.last ≡ Some j
            found e = get-drop js m.last ∙ ap (λ (l : List JoinedFold). slice_get l 0) (dropped ∙ e) where
              get-drop : (xs : List JoinedFold) (n : ℕ) → slice_get xs n ≡ slice_get (drop n xs) 0
              get-drop [] zero = refl
              get-drop [] (suc n) = refl
              get-drop (x ∷ xs) zero = refl
              get-drop (x ∷ xs) (suc n) = get-drop xs n

      pub after-is : after ≡ splices_from low 0 joined
      after-is =
          let front-are = joined-front s.folds 0 met.front (met.met ++ met.back) (length s.text) all.1 in
          let whole = subst (λ (l : List JoinedFold). AreJoined s.folds 0 l (length s.text)) (sym (append_assoc met.front met.met met.back)) all.1 in
          let back-are = joined-back s.folds 0 (met.front ++ met.met) met.back (length s.text) whole in
          let same = replaced-same (unfolded s) low c.start c.end c.last is.around s.folds met.front met.met met.back fresh (length s.text) gap m.first m.last met.first met.last
          front-are back-are met.parted.front met.parted.back (omega arith) measured-gap in
          (λ i. replaced m.first m.last (splices_from (unfold-same layer bare i) (met.base i) fresh) gap (spliced i))
          ∙ ap (λ (l : List JoinedFold). replaced m.first m.last (splices_from low (last_end 0 met.front) fresh) gap (splices_from (unfolded s) 0 l)) met.parts
          ∙ same

      pub after-fits : length layer.text < 2 ^ 32 → PlacesFit layer → Fit after
      after-fits small below =
          subst Fit (sym after-is)
          (fits-all layer.text layer.inlays folds joined all-joined is.formed small (subst PlacesFit (unfold-same layer bare) below) is.fits)

      pub after-small : length layer.text < 2 ^ 32 → length after < 2 ^ 32
      after-small small =
          omega (arith, small, ap (λ (l : List (Piece Amount NoLoad)). length l) after-is, length-splices low 0 joined, few folds 0 joined (length layer.text) all-joined.1)

      pub gap-fits : length layer.text < 2 ^ 32 → PlacesFit layer → (p : Piece Amount NoLoad) → slice_get splices m.last ≡ Some p → BothFit AmountFits (piece_sum together (regapped gap p))
      gap-fits small below p e =
          let here : with_first_gap gap (drop m.last splices) ≡ regapped gap p ∷ drop (suc m.last) splices = ap (with_first_gap gap) (drop-found splices m.last p e) in
          one-fits (take m.first splices) (splices_from layer m.base fresh) (regapped gap p) (drop (suc m.last) splices)
          (subst (λ (l : List (Piece Amount NoLoad)). Fit (take m.first splices ++ (splices_from layer m.base fresh ++ l))) here (after-fits small below))

      pub snapshot-after : IsSnapshot layer folds after
      snapshot-after = record {
        bare = bare;
        lawful = is.formed.folds;
        fits = is.fits;
        spliced = record { joined = joined; all = all-joined; spliced = after-is };
      }

  pub met-within : (splices : List (Piece Amount NoLoad)) → splices ≡ splices_from (unfolded s) 0 js → (m.first ≤ m.last) × (m.last ≤ length splices)
  met-within splices spliced =
      let first = met.first in
      let last = met.last in
      let whole = ap (λ (l : List JoinedFold). length l) met.parts ∙ length-append met.front (met.met ++ met.back) in
      let size = ap (λ (l : List (Piece Amount NoLoad)). length l) spliced ∙ length-splices (unfolded s) 0 js in
      (omega arith, omega (arith, size, whole, length-append met.met met.back))
