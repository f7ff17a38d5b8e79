-- The splices after a change: those before it, others for those that it met, and those after it with a new first gap.
use Rattle.std.proofs.Common.{◌≡◌, ℕ, ◌+◌, ◌-◌, ◌<◌, ◌≤◌, false, List, [], ◌∷◌, ◌++◌, length, map, take, drop, refl, sym, ap, ◌∙◌, arith, append_assoc, length-append}
use Rattle.std.specs.List.{All}
use Rattle.std.proofs.lemmas.List.{drop_at, take_at}
use Rattle.std.proofs.lemmas.List.Elements.{All-head, All-tail}
use Rattle.cell_units.specs.declared.place.Bias.TheVariants.{Left, Right}
use Rattle.cell_units.specs.Folded.{inside}
use Rattle.cell_units.specs.Inlaid.{placeholder}
use Rattle.cell_units.specs.Lawful.{AreFolds}
use Rattle.cell_units.specs.Layers.{Source}
use Rattle.cell_units.specs.Record.{Fold, Inlay}
use Rattle.cell_units.specs.Text.{IsBoundary}
use Rattle.cell_units.proofs.ShownPlaces.{place-le}
use Rattle.joined_folds.specs.declared.joined_fold.JoinedFold.{JoinedFold}
use Rattle.joined_folds.specs.JoinedLists.{AreJoined, EndBy, last_end}
use Rattle.joined_folds.specs.Windows.{moved_fold, moved_on}
use Rattle.joined_folds.proofs.JoinedLists.{joined-order}
use Rattle.sum_core.specs.declared.load.NoLoad.{NoLoad}
use Rattle.splice_tree.specs.Splices.{Piece, replaced, with_first_gap}
use Rattle.fold_map.specs.declared.amount.Amount.{Amount}
use Rattle.fold_map.specs.Amounts.{amount_between}
use Rattle.fold_map.specs.Changes.{AreSameAround}
use Rattle.fold_map.specs.Positions.{AreInText, hiding}
use Rattle.fold_map.specs.Snapshots.{PlacesFit}
use Rattle.fold_map.specs.Splices.{splice_of, splices_from}
use Rattle.fold_map.proofs.Cuts.{length-splices}
use Rattle.fold_map.proofs.ShownOpens.{end-boundary, start-boundary}
use Rattle.fold_map.proofs.Sums.{place-on}

-- ---- lists of splices

splices-append : (s : Source) (base : ℕ) (xs ys : List JoinedFold) → splices_from s base (xs ++ ys) ≡ splices_from s base xs ++ splices_from s (last_end base xs) ys
splices-append s base [] ys = refl
splices-append s base (x ∷ xs) ys = ap (λ (ps : List (Piece Amount NoLoad)). splice_of s base x ∷ ps) (splices-append s x.end xs ys)

-- ---- layers that are the same around a change

module _ (low low' : Source) (start end last : ℕ) (same : AreSameAround low low' start end last) (folds : List Fold) where
  abbrev on : ℕ → ℕ
  on o = moved_on end last o

  pub front-same : (base : ℕ) (js : List JoinedFold) (to : ℕ) → AreJoined folds base js to → base ≤ start → All (λ j. j.end ≤ start) js → splices_from low' base js ≡ splices_from low base js
  front-same base [] to a l e = refl
  front-same base (j ∷ js) to a l e =
      let by = All-head (λ (i : JoinedFold). i.end ≤ start) j js e in
      let first : splice_of low' base j ≡ splice_of low base j =
      λ i. hiding (same.left base l i) (same.right j.start (omega (arith, by, a.0.some)) i) (same.left j.end by i) in
      λ i. first i ∷ front-same j.end js to a.1 by (All-tail (λ (i : JoinedFold). i.end ≤ start) j js e) i

  pub back-same : (base : ℕ) (js : List JoinedFold) (n : ℕ) → AreJoined folds base js n → end < base → n ≤ length low.text → splices_from low' (on base) (map (moved_fold end last) js) ≡ splices_from low base js
  back-same base [] n a l u = refl
  back-same base (j ∷ js) n a l u =
      let order = a.0.order in
      let some = a.0.some in
      let within = joined-order folds j.end js n a.1 in
      let size : on j.end - on j.start ≡ j.end - j.start = omega (arith, l) in
      let gap = same.behind base j.start Left Right l order (omega (arith, some, within, u)) in
      let old = same.behind j.start j.end Right Left (omega (arith, l, order)) (omega (arith, some)) (omega (arith, within, u)) in
      let first : splice_of low' (on base) (moved_fold end last j) ≡ splice_of low base j =
      λ i. record { gap = gap i; old = old i; new = record { buffer = size i; bytes = length placeholder; feeds = 0 }; load = record {} } in
      λ i. first i ∷ back-same j.end js n a.1 (omega (arith, l, order, some)) u i

  -- those after the change, with the gap before the first of them measured anew
  pub regapped-same : (e base : ℕ) (back : List JoinedFold) (n : ℕ) (gap : Amount) → AreJoined folds e back n → All (λ j. end < j.start) back → n ≤ length low.text
      → ((j : JoinedFold) (more : List JoinedFold) → back ≡ j ∷ more → gap ≡ amount_between low' base Left (on j.start) Right)
      → with_first_gap gap (splices_from low e back) ≡ splices_from low' base (map (moved_fold end last) back)
  regapped-same e base [] n gap a far u is = refl
  regapped-same e base (j ∷ js) n gap a far u is =
      let l = All-head (λ (i : JoinedFold). end < i.start) j js far in
      let some = a.0.some in
      let within = joined-order folds j.end js n a.1 in
      let size : j.end - j.start ≡ on j.end - on j.start = omega (arith, l) in
      let old = same.behind j.start j.end Right Left l (omega (arith, some)) (omega (arith, within, u)) in
      let rest = back-same j.end js n a.1 (omega (arith, l, some)) u in
      let here = is j js refl in
      λ i. record { gap = here i; old = sym old i; new = record { buffer = size i; bytes = length placeholder; feeds = 0 }; load = record {} } ∷ sym rest i

  pub replaced-same : (front met back fresh : List JoinedFold) (n : ℕ) (gap : Amount) (first to : ℕ) → first ≡ length front → to ≡ length front + length met
      → AreJoined folds 0 front (last_end 0 front) → AreJoined folds (last_end 0 (front ++ met)) back n → All (λ j. j.end ≤ start) front → All (λ j. end < j.start) back → n ≤ length low.text
      → ((j : JoinedFold) (more : List JoinedFold) → back ≡ j ∷ more → gap ≡ amount_between low' (last_end (last_end 0 front) fresh) Left (on j.start) Right)
      → replaced first to (splices_from low' (last_end 0 front) fresh) gap (splices_from low 0 (front ++ (met ++ back)))
      ≡ splices_from low' 0 (front ++ (fresh ++ map (moved_fold end last) back))
  replaced-same front met back fresh n gap first to f t front-are back-are by far u is =
      let js = front ++ (met ++ back) in
      let whole : js ≡ (front ++ met) ++ back = sym (append_assoc front met back) in
      let long : length (front ++ met) ≡ to = length-append front met ∙ sym t in
      let taken : take first (splices_from low 0 js) ≡ splices_from low' 0 front =
      ap (take first) (splices-append low 0 front (met ++ back))
      ∙ take_at (splices_from low 0 front) (splices_from low (last_end 0 front) (met ++ back)) first (length-splices low 0 front ∙ sym f)
      ∙ sym (front-same 0 front (last_end 0 front) front-are (omega arith) by) in
      let dropped : drop to (splices_from low 0 js) ≡ splices_from low (last_end 0 (front ++ met)) back =
      ap (λ l. drop to (splices_from low 0 l)) whole
      ∙ ap (drop to) (splices-append low 0 (front ++ met) back)
      ∙ drop_at (splices_from low 0 (front ++ met)) (splices_from low (last_end 0 (front ++ met)) back) to (length-splices low 0 (front ++ met) ∙ long) in
      let behind : with_first_gap gap (drop to (splices_from low 0 js)) ≡ splices_from low' (last_end (last_end 0 front) fresh) (map (moved_fold end last) back) =
      ap (with_first_gap gap) dropped ∙ regapped-same (last_end 0 (front ++ met)) (last_end (last_end 0 front) fresh) back n gap back-are far u is in
      (λ i. taken i ++ (splices_from low' (last_end 0 front) fresh ++ behind i))
      ∙ ap (λ l. splices_from low' 0 front ++ l) (sym (splices-append low' (last_end 0 front) fresh (map (moved_fold end last) back)))
      ∙ sym (splices-append low' 0 front (fresh ++ map (moved_fold end last) back))

-- ---- joined folds are at boundaries

module _ (text : List ℕ) (inlays : List Inlay) (folds : List Fold) (are : AreFolds text folds) (ends : EndBy folds (length text)) where
  abbrev low : Source
  low = record { text = text; inlays = inlays; folds = [] }

  abbrev high : Source
  high = record { text = text; inlays = inlays; folds = folds }

  pub in-text : (base : ℕ) (js : List JoinedFold) (to : ℕ) → AreJoined folds base js to → inside folds base ≡ false → IsBoundary text base → PlacesFit high → AreInText low base js
  in-text base [] to a out b fits = b
  in-text base (j ∷ js) to a out b fits =
      let ended = end-boundary text folds are j.start j.end a.0.some a.0.shows in
      let on = place-on text inlays folds ends base j a.0 out ended.0 in (
        record {
          base_at = b;
          start_at = start-boundary text folds are j.start j.end a.0.shows;
          end_at = ended;
          order = a.0.order;
          some = a.0.some;
          fits = omega (arith, on, place-le high j.end Left ended.0, fits);
        },
        in-text j.end js to a.1 a.0.shows.3 ended fits,
      )
