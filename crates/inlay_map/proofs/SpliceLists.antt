-- Lists of splices that belong to inlays.
use Rattle.std.proofs.Common.{◌≡◌, ℕ, zero, suc, ◌+◌, ◌≤◌, List, [], ◌∷◌, ◌++◌, length, take, drop, Some, refl, sym, ap, ◌∙◌, arith}
use Rattle.std.specs.List.{slice_get}
use Rattle.std.proofs.lemmas.List.{drop-drop, length-take, take-append-drop}
use Rattle.std.proofs.Math.Seq.{drop-append-add, drop-append_seam, take-append_seam}
use Rattle.cell_units.specs.Record.{Inlay}
use Rattle.splice_tree.specs.Splices.{with_first_gap}
use Rattle.inlay_map.specs.declared.amount.Amount.{Amount}
use Rattle.inlay_map.specs.Splices.{base_at, splice_of, splices_from}

module _ (text : List ℕ) where
  pub length-splices : (base : ℕ) (is : List Inlay) → length (splices_from text base is) ≡ length is
  length-splices base [] = refl
  length-splices base (i ∷ is) = ap suc (length-splices i.offset is)

  -- the splices from an index on
  pub splices-drop : (base : ℕ) (is : List Inlay) (k : ℕ) → drop k (splices_from text base is) ≡ splices_from text (base_at base is k) (drop k is)
  splices-drop base is zero = refl
  splices-drop base [] (suc k) = refl
  splices-drop base (i ∷ is) (suc k) = splices-drop i.offset is k

  -- those before an index are those of the inlays before it
  pub splices-take : (base : ℕ) (is : List Inlay) (k : ℕ) → take k (splices_from text base is) ≡ splices_from text base (take k is)
  splices-take base is zero = refl
  splices-take base [] (suc k) = refl
  splices-take base (i ∷ is) (suc k) = ap (λ l. splice_of text base i ∷ l) (splices-take i.offset is k)

  -- but for the gap before the first, it doesn't matter what comes before them
  pub rest-same : (gap : Amount) (b c : ℕ) (is : List Inlay) → with_first_gap gap (splices_from text b is) ≡ with_first_gap gap (splices_from text c is)
  rest-same gap b c [] = refl
  rest-same gap b c (i ∷ is) = refl

  pub splice-get : (base : ℕ) (is : List Inlay) (k : ℕ) (i : Inlay) → slice_get is k ≡ Some i → slice_get (splices_from text base is) k ≡ Some (splice_of text (base_at base is k) i)
  splice-get base [] k i e = absurd (cc)
  splice-get base (j ∷ js) zero i e = ap (λ x. Some (splice_of text base x)) (some-same j i e) where
    some-same : (x y : Inlay) → Some x ≡ Some y → x ≡ y
    some-same x y p = cc
  splice-get base (j ∷ js) (suc k) i e = splice-get j.offset js k i e

  -- a list of splices is its prefix, a run, and the rest
  pub in-runs : {X : Type 0} (xs : List X) (from n : ℕ) → take from xs ++ (take n (drop from xs) ++ drop (from + n) xs) ≡ xs
  in-runs xs from n =
      ap (λ l. take from xs ++ (take n (drop from xs) ++ l)) (sym (drop-drop n from xs))
      ∙ ap (λ l. take from xs ++ l) (take-append-drop n (drop from xs))
      ∙ take-append-drop from xs

-- the offset after which an inlay comes is that of the one before it
pub base-behind : (base : ℕ) (is : List Inlay) (k : ℕ) (i : Inlay) → slice_get is k ≡ Some i → base_at base is (suc k) ≡ i.offset
base-behind base [] k i e = absurd (cc)
base-behind base (j ∷ js) zero i e = ap (λ x. x.offset) (some-same j i e) where
  some-same : (x y : Inlay) → Some x ≡ Some y → x ≡ y
  some-same x y p = cc
base-behind base (j ∷ js) (suc k) i e = base-behind j.offset js k i e

-- the splices before a run of inlays are those of a list that has the same before it
pub run-front : (text : List ℕ) (is new : List Inlay) (k : ℕ) → take k new ≡ take k is → take k (splices_from text 0 is) ≡ take k (splices_from text 0 new)
run-front text is new k e = splices-take text 0 is k ∙ ap (splices_from text 0) (sym e) ∙ sym (splices-take text 0 new k)

-- and those after it are so but for the first gap
pub run-rest : (text : List ℕ) (is new : List Inlay) (a b : ℕ) (gap : Amount) → drop b new ≡ drop a is
    → with_first_gap gap (drop a (splices_from text 0 is)) ≡ with_first_gap gap (drop b (splices_from text 0 new))
run-rest text is new a b gap e =
    ap (with_first_gap gap) (splices-drop text 0 is a)
    ∙ rest-same text gap (base_at 0 is a) (base_at 0 new b) (drop a is)
    ∙ ap (λ l. with_first_gap gap (splices_from text (base_at 0 new b) l)) (sym e)
    ∙ ap (with_first_gap gap) (sym (splices-drop text 0 new b))

-- ---- one inlay more or less

pub put-front : (is new : List Inlay) (at : ℕ) (i : Inlay) → at ≤ length is → new ≡ take at is ++ i ∷ drop at is → take at new ≡ take at is
put-front is new at i le e =
    let long : length (take at is) ≡ at = omega (arith, length-take at is, le) in
    (λ k. take (sym long k) (e k)) ∙ take-append_seam (take at is) (i ∷ drop at is)

pub put-rest : (is new : List Inlay) (at : ℕ) (i : Inlay) → at ≤ length is → new ≡ take at is ++ i ∷ drop at is → drop (at + 1) new ≡ drop at is
put-rest is new at i le e =
    let long : at + 1 ≡ length (take at is) + 1 = omega (arith, length-take at is, le) in
    (λ k. drop (long k) (e k)) ∙ drop-append-add (take at is) (i ∷ drop at is) 1

pub taken-front : (is new : List Inlay) (at : ℕ) → at ≤ length is → new ≡ take at is ++ drop (at + 1) is → take at new ≡ take at is
taken-front is new at le e =
    let long : length (take at is) ≡ at = omega (arith, length-take at is, le) in
    (λ k. take (sym long k) (e k)) ∙ take-append_seam (take at is) (drop (at + 1) is)

pub taken-rest : (is new : List Inlay) (at : ℕ) → at ≤ length is → new ≡ take at is ++ drop (at + 1) is → drop at new ≡ drop (at + 1) is
taken-rest is new at le e =
    let long : length (take at is) ≡ at = omega (arith, length-take at is, le) in
    (λ k. drop (sym long k) (e k)) ∙ drop-append_seam (take at is) (drop (at + 1) is)
