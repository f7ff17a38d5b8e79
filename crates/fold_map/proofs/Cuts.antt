-- What is found where an offset is sought among the splices of joined folds.
use Rattle.std.proofs.Common.{◌≡◌, ℕ, zero, suc, ◌+◌, ◌-◌, ◌<◌, ◌≤◌, List, [], ◌∷◌, length, take, drop, get_or, Option, Some, refl, sym, ap, ◌∙◌, subst, inl, inr, ◌⊎◌, arith, min, None}
use Rattle.std.specs.List.{All, slice_get}
use Rattle.std.specs.Option.{option_map}
use Rattle.std.proofs.lemmas.Bool.{cases_lt}
use Rattle.std.proofs.lemmas.List.{drop_more, length-drop, take-append-drop, take_more}
use Rattle.std.proofs.lemmas.List.Elements.{All-cons, All-nil}
use Rattle.cell_units.specs.declared.place.Bias.TheVariants.{Right}
use Rattle.cell_units.specs.Record.{Fold, Inlay}
use Rattle.cell_units.specs.Layers.{Source}
use Rattle.joined_folds.specs.declared.joined_fold.JoinedFold.{JoinedFold}
use Rattle.joined_folds.specs.JoinedLists.{AreAllJoined, AreJoined, last_end}
use Rattle.joined_folds.proofs.JoinedLists.{joined-back, joined-front, joined-order, open_first}
use Rattle.sum_core.specs.Sums.{total}
use Rattle.sum_core.specs.declared.load.NoLoad.{NoLoad}
use Rattle.sum_tree.specs.Firsts.{IsFirst}
use Rattle.splice_tree.specs.Sides.{none, both}
use Rattle.splice_tree.specs.Splices.{Piece, piece_sum}
use Rattle.fold_map.specs.declared.amount.Amount.{Amount}
use Rattle.fold_map.specs.declared.cut.Cut.{Cut}
use Rattle.fold_map.specs.Amounts.{buffer_of, nothing, together}
use Rattle.fold_map.specs.Cuts.{IsCut, joined_behind}
use Rattle.fold_map.specs.Splices.{splice_of, splices_from}
use Rattle.fold_map.proofs.Positions.{last-more}
use Rattle.fold_map.proofs.Sums.{covers}

-- ---- lists

some-same : {X : Type 0} (x y : X) → Some x ≡ Some y → x ≡ y
some-same x y p = cc

pub take-splices : (s : Source) (base : ℕ) (js : List JoinedFold) (n : ℕ) → take n (splices_from s base js) ≡ splices_from s base (take n js)
take-splices s base js zero = refl
take-splices s base [] (suc n) = refl
take-splices s base (j ∷ js) (suc n) = ap (λ (ps : List (Piece Amount NoLoad)). splice_of s base j ∷ ps) (take-splices s j.end js n)

pub length-splices : (s : Source) (base : ℕ) (js : List JoinedFold) → length (splices_from s base js) ≡ length js
length-splices s base [] = refl
length-splices s base (j ∷ js) = ap suc (length-splices s j.end js)

module _ (folds : List Fold) where
  -- each ends by where the last one ends
  pub ends-by : (from : ℕ) (js : List JoinedFold) (to : ℕ) → AreJoined folds from js to → All (λ j. j.end ≤ last_end from js) js
  ends-by from [] to a = All-nil (λ (j : JoinedFold). j.end ≤ from)
  ends-by from (j ∷ js) to a = All-cons (λ (i : JoinedFold). i.end ≤ last_end j.end js) j js (behind j.end js to a.1) (ends-by j.end js to a.1) where
    behind : (o : ℕ) (js : List JoinedFold) (to : ℕ) → AreJoined folds o js to → o ≤ last_end o js
    behind o [] to a = omega arith
    behind o (j ∷ js) to a = omega (arith, a.0.order, a.0.some, behind j.end js to a.1)

  -- each ends after where they begin
  pub ends-behind : (from : ℕ) (js : List JoinedFold) (to : ℕ) → AreJoined folds from js to → All (λ j. from < j.end) js
  ends-behind from [] to a = All-nil (λ (j : JoinedFold). from < j.end)
  ends-behind from (j ∷ js) to a = All-cons (λ (i : JoinedFold). from < i.end) j js (omega (arith, a.0.order, a.0.some)) (further js (ends-behind j.end js to a.1)) where
    further : (is : List JoinedFold) → All (λ i. j.end < i.end) is → All (λ i. from < i.end) is
    further is h k d l = let x = h k d l in omega (arith, x, a.0.order, a.0.some)

  -- those from an index on end after an offset where the first of them does
  pub ends-further : (from : ℕ) (js : List JoinedFold) (to o : ℕ) → AreJoined folds from js to → ((j : JoinedFold) (rest : List JoinedFold) → js ≡ j ∷ rest → o < j.end) → All (λ j. o < j.end) js
  ends-further from [] to o a h = All-nil (λ (j : JoinedFold). o < j.end)
  ends-further from (j ∷ js) to o a h = All-cons (λ (i : JoinedFold). o < i.end) j js (h j js refl) (further js (ends-behind j.end js to a.1)) where
    further : (is : List JoinedFold) → All (λ i. j.end < i.end) is → All (λ i. o < i.end) is
    further is g k d l = let x = g k d l in let y = h j js refl in omega (arith, x, y)

  pub joined-take : (from : ℕ) (js : List JoinedFold) (to n : ℕ) → AreJoined folds from js to → AreJoined folds from (take n js) (last_end from (take n js))
  joined-take from js to n a = joined-front folds from (take n js) (drop n js) to (subst (λ (l : List JoinedFold). AreJoined folds from l to) (sym (take-append-drop n js)) a)

  pub joined-drop : (from : ℕ) (js : List JoinedFold) (to n : ℕ) → AreJoined folds from js to → AreJoined folds (last_end from (take n js)) (drop n js) to
  joined-drop from js to n a = joined-back folds from (take n js) (drop n js) to (subst (λ (l : List JoinedFold). AreJoined folds from l to) (sym (take-append-drop n js)) a)

slice-past : {X : Type 0} (xs : List X) (n : ℕ) → length xs ≤ n → slice_get xs n ≡ None
slice-past [] zero l = refl
slice-past [] (suc n) l = refl
slice-past (x ∷ xs) zero l = absurd (omega (arith, l))
slice-past (x ∷ xs) (suc n) l = slice-past xs n (omega (arith, l))

-- past the end there is none, however far
pub slice-min : {X : Type 0} (xs : List X) (n k : ℕ) → k ≡ min n (length xs) → slice_get xs k ≡ slice_get xs n
slice-min xs n k e = go (cases_lt n (length xs)) where
  go : (n < length xs) ⊎ (length xs ≤ n) → slice_get xs k ≡ slice_get xs n
  go (inl l) = let same : k ≡ n = omega (arith, e, l) in ap (slice_get xs) same
  go (inr l) = slice-past xs k (omega (arith, e, l)) ∙ sym (slice-past xs n l)

-- ---- what is found

abbrev head-or : JoinedFold → List JoinedFold → JoinedFold
head-or d [] = d
head-or d (j ∷ js) = j

module _ (low : Source) (folds : List Fold) where
  -- the splice of an index is that of the joined fold there
  pub next-is : (base : ℕ) (js : List JoinedFold) (to n : ℕ) → AreJoined folds base js to → option_map (joined_behind (last_end base (take n js))) (slice_get (splices_from low base js) n) ≡ slice_get js n
  next-is base [] to zero a = refl
  next-is base [] to (suc n) a = refl
  next-is base (j ∷ js) to zero a =
      let start : base + (j.start - base) ≡ j.start = let o = a.0.order in omega arith in
      let end : base + (j.start - base) + (j.end - j.start) ≡ j.end = let o = a.0.order in let t = a.0.some in omega arith in
      λ i. Some (record { start = start i; end = end i })
  next-is base (j ∷ js) to (suc n) a = next-is j.end js to n a.1

  -- and that is within the text
  pub next-within : (base : ℕ) (js : List JoinedFold) (to n : ℕ) (p : Piece Amount NoLoad) → AreJoined folds base js to → slice_get (splices_from low base js) n ≡ Some p
      → last_end base (take n js) + p.gap.buffer + p.old.buffer ≤ to
  next-within base [] to zero p a e = absurd (cc e)
  next-within base [] to (suc n) p a e = absurd (cc e)
  next-within base (j ∷ js) to zero p a e =
      let same : splice_of low base j ≡ p = some-same (splice_of low base j) p e in
      let gap : j.start - base ≡ p.gap.buffer = ap (λ (q : Piece Amount NoLoad). q.gap.buffer) same in
      let old : j.end - j.start ≡ p.old.buffer = ap (λ (q : Piece Amount NoLoad). q.old.buffer) same in
      omega (arith, gap, old, a.0.order, a.0.some, joined-order folds j.end js to a.1)
  next-within base (j ∷ js) to (suc n) p a e = next-within j.end js to n p a.1 e

module _ (text : List ℕ) (inlays : List Inlay) (folds : List Fold) (js : List JoinedFold) (all : AreAllJoined folds (length text) js) where
  abbrev pub low : Source
  low = record { text = text; inlays = inlays; folds = [] }

  abbrev pub number : ℕ → ℕ
  number n = (total (none nothing) (both together) (piece_sum together) (take n (splices_from low 0 js))).lower.buffer

  -- so many splices cover the buffer up to the end of their last joined fold
  pub number-is : (n : ℕ) → number n ≡ last_end 0 (take n js)
  number-is n =
      let c = covers text inlays folds all.0 0 (take n js) (last_end 0 (take n js)) (joined-take folds 0 js (length text) n all.1) (open_first folds) (joined-order folds (last_end 0 (take n js)) (drop n js) (length text) (joined-drop folds 0 js (length text) n all.1)) in
      let b = c.buffer in
      ap (λ (ps : List (Piece Amount NoLoad)). (total (none nothing) (both together) (piece_sum together) ps).lower.buffer) (take-splices low 0 js n) ∙ omega arith

  module _ (offset : ℕ) (cut : Cut) (first : IsFirst (none nothing) (both together) (piece_sum together) (λ s. buffer_of s.lower) (splices_from low 0 js) offset Right cut.index) where
    by : last_end 0 (take cut.index js) ≤ offset
    by = go (cases_lt 0 cut.index) where
      go : (0 < cut.index) ⊎ (cut.index ≤ 0) → last_end 0 (take cut.index js) ≤ offset
      go (inl l) = let x = first.short l in omega (arith, x, number-is cut.index)
      go (inr l) = let e : cut.index ≡ 0 = omega arith in omega (arith, ap (λ n. last_end 0 (take n js)) e)

    within : cut.index ≤ length js
    within = let x = first.within in omega (arith, x, length-splices low 0 js)

    reached : (j : JoinedFold) (more : List JoinedFold) → drop cut.index js ≡ j ∷ more → offset < j.end
    reached j more e =
        let some : cut.index < length js = omega (arith, ap length e, length-drop cut.index js) in
        let here : get_or js cut.index j ≡ j = ap (head-or j) (sym (drop_more js cut.index j some) ∙ e) in
        let last : last_end 0 (take (cut.index + 1) js) ≡ j.end =
        ap (last_end 0) (take_more js cut.index j some) ∙ last-more 0 (take cut.index js) (get_or js cut.index j) ∙ ap (λ (i : JoinedFold). i.end) here in
        let x = first.reaching (omega (arith, some, length-splices low 0 js)) in
        omega (arith, x, number-is (cut.index + 1), last)

    pub found-cut : (found : Option (Piece Amount NoLoad)) → cut.base ≡ number cut.index → found ≡ slice_get (splices_from low 0 js) cut.index → cut.next ≡ option_map (joined_behind cut.base) found → IsCut js offset cut
    found-cut found base is next =
        let here : cut.base ≡ last_end 0 (take cut.index js) = base ∙ number-is cut.index in
        record {
          within = within;
          ended = λ k d h. let x = ends-by folds 0 (take cut.index js) (last_end 0 (take cut.index js)) (joined-take folds 0 js (length text) cut.index all.1) k d h in omega (arith, x, by);
          rest = ends-further folds (last_end 0 (take cut.index js)) (drop cut.index js) (length text) offset (joined-drop folds 0 js (length text) cut.index all.1) reached;
          base = here;
          next = next ∙ (λ i. option_map (joined_behind (here i)) (is i)) ∙ next-is low folds 0 js (length text) cut.index all.1;
        }
