-- Folds in order of their starts, joined one after the other.
use Rattle.std.proofs.Common.{◌≡◌, ℕ, ◌<◌, ◌≤◌, ◌&&◌, ◌||◌, zero, suc, Some, None, subst, Bool, true, false, cond, ltb, leb, max, List, [], ◌∷◌, length, map, get_or, refl, ap, ◌∙◌, inl, inr, arith}
use Rattle.std.specs.List.{All, slice_get}
use Rattle.std.proofs.lemmas.Bool.{cases_lt, lt-ltb, le-ltb}
use Rattle.std.proofs.lemmas.Bool.Decides.{nat_tests}
use Rattle.cell_units.specs.Folded.{covered, inside}
use Rattle.plain_rows.specs.declared.folded_lines.Joined.{Joined}
use Rattle.plain_rows.specs.declared.plain.PlainFold.{PlainFold}
use Rattle.plain_rows.specs.FoldedLines.{AreInOrder, AreRanges, Joins, joined_folds}
use Rattle.plain_rows.specs.Plain.{fold_of}

abbrev pub range : ℕ → ℕ → Joined
range s e = record { start = s; end = e }

-- the joined folds of a range and of folds after its start
abbrev pub joined_from : ℕ → ℕ → List PlainFold → List Joined
joined_from s e [] = range s e ∷ []
joined_from s e (f ∷ fs) = cond (ltb f.start e) (joined_from s (max e f.end) fs) (range s e ∷ joined_from f.start f.end fs)

-- folds in order from a start on, none empty
abbrev pub Rise : ℕ → List PlainFold → Type 0
Rise s [] = Unit {0}
Rise s (f ∷ fs) = (s ≤ f.start) × (f.start < f.end) × Rise f.start fs

pub rise-from : (s : ℕ) (folds : List PlainFold) → ((k : ℕ) (d : PlainFold) → k < length folds → s ≤ (get_or folds k d).start) →
    AreInOrder (λ (f : PlainFold). f.start) folds → All (λ (f : PlainFold). f.start < f.end) folds → Rise s folds
rise-from s [] least order some = tt
rise-from s (f ∷ fs) least order some =
    (least 0 f (omega arith), some 0 f (omega arith), rise-from f.start fs (λ k d lt. order 0 (suc k) d (omega arith) (omega arith)) (λ i j d lt within. order (suc i) (suc j) d (omega arith) (omega arith)) (λ k d lt. some (suc k) d (omega arith)))

rise-weaker : (s t : ℕ) (folds : List PlainFold) → t ≤ s → Rise s folds → Rise t folds
rise-weaker s t [] le r = tt
rise-weaker s t (f ∷ fs) le r = (omega (arith, r.0), r.1, r.2)

-- ---- what is inside and what is covered

covers : (s e a b o : ℕ) (rest : Bool) → s ≤ a → a < e → a < b →
    ((leb s o && ltb o (max e b)) || rest) ≡ ((leb s o && ltb o e) || ((leb a o && ltb o b) || rest))
covers s e a b o rest le lt some = grind (arith, nat_tests)

hides : (s e a b o : ℕ) (rest : Bool) → s ≤ a → a < e → a < b →
    ((ltb s o && ltb o (max e b)) || rest) ≡ ((ltb s o && ltb o e) || ((ltb a o && ltb o b) || rest))
hides s e a b o rest le lt some = grind (arith, nat_tests)

pub joined_from-covered : (s e o : ℕ) (folds : List PlainFold) → Rise s folds →
    covered (joined_folds (joined_from s e folds)) o ≡ ((leb s o && ltb o e) || covered (map fold_of folds) o)
joined_from-covered s e o [] r = refl
joined_from-covered s e o (f ∷ fs) r = elim (cases_lt f.start e) [
  | inl lt ↦
      ap (λ (b : Bool). covered (joined_folds (cond b (joined_from s (max e f.end) fs) (range s e ∷ joined_from f.start f.end fs))) o) (lt-ltb f.start e lt)
      ∙ joined_from-covered s (max e f.end) o fs (rise-weaker f.start s fs r.0 r.2)
      ∙ covers s e f.start f.end o (covered (map fold_of fs) o) r.0 lt r.1
  | inr le ↦
      ap (λ (b : Bool). covered (joined_folds (cond b (joined_from s (max e f.end) fs) (range s e ∷ joined_from f.start f.end fs))) o) (le-ltb f.start e le)
      ∙ ap (λ (b : Bool). (leb s o && ltb o e) || b) (joined_from-covered f.start f.end o fs r.2)
]

pub joined_from-inside : (s e o : ℕ) (folds : List PlainFold) → Rise s folds →
    inside (joined_folds (joined_from s e folds)) o ≡ ((ltb s o && ltb o e) || inside (map fold_of folds) o)
joined_from-inside s e o [] r = refl
joined_from-inside s e o (f ∷ fs) r = elim (cases_lt f.start e) [
  | inl lt ↦
      ap (λ (b : Bool). inside (joined_folds (cond b (joined_from s (max e f.end) fs) (range s e ∷ joined_from f.start f.end fs))) o) (lt-ltb f.start e lt)
      ∙ joined_from-inside s (max e f.end) o fs (rise-weaker f.start s fs r.0 r.2)
      ∙ hides s e f.start f.end o (inside (map fold_of fs) o) r.0 lt r.1
  | inr le ↦
      ap (λ (b : Bool). inside (joined_folds (cond b (joined_from s (max e f.end) fs) (range s e ∷ joined_from f.start f.end fs))) o) (le-ltb f.start e le)
      ∙ ap (λ (b : Bool). (ltb s o && ltb o e) || b) (joined_from-inside f.start f.end o fs r.2)
]

pub joined_from-ranges : (o s e : ℕ) (folds : List PlainFold) → o ≤ s → s < e → Rise s folds → AreRanges o (joined_from s e folds)
joined_from-ranges o s e [] le lt r = (le, lt, tt)
joined_from-ranges o s e (f ∷ fs) le lt r = elim (cases_lt f.start e) as (λ _. AreRanges o (cond (ltb f.start e) (joined_from s (max e f.end) fs) (range s e ∷ joined_from f.start f.end fs))) [
  | inl under ↦
      let is = lt-ltb f.start e under in
      let longer : s < max e f.end = omega arith in
      let rest = joined_from-ranges o s (max e f.end) fs le longer (rise-weaker f.start s fs r.0 r.2) in
      rw is rest
  | inr over ↦
      let is = le-ltb f.start e over in
      let rest = joined_from-ranges e f.start f.end fs over r.1 r.2 in
      let all : AreRanges o (range s e ∷ joined_from f.start f.end fs) = (le, lt, rest) in
      rw is all
]

-- a fold before itself changes nothing
pub joins-all : (f : PlainFold) (fs : List PlainFold) → Rise 0 (f ∷ fs) → Joins (map fold_of (f ∷ fs)) (joined_from f.start f.end (f ∷ fs))
joins-all f fs r =
    let twice : Rise f.start (f ∷ fs) = (omega arith, r.1, r.2) in
    record {
      apart = joined_from-ranges 0 f.start f.end (f ∷ fs) (omega arith) r.1 twice;
      inside_same = λ o. joined_from-inside f.start f.end o (f ∷ fs) twice ∙ again (ltb f.start o && ltb o f.end) (inside (map fold_of fs) o);
      covered_same = λ o. joined_from-covered f.start f.end o (f ∷ fs) twice ∙ again (leb f.start o && ltb o f.end) (covered (map fold_of fs) o);
    } where
      again : (b c : Bool) → (b || (b || c)) ≡ (b || c)
      again true c = refl
      again false c = refl

pub joins-from_first : (first : PlainFold) (folds : List PlainFold) → Some first ≡ slice_get folds 0 →
    AreInOrder (λ (f : PlainFold). f.start) folds → All (λ (f : PlainFold). f.start < f.end) folds →
    Joins (map fold_of folds) (joined_from first.start first.end folds)
joins-from_first first [] is order some = let no : Some first ≡ None = is in absurd (cc)
joins-from_first first (f ∷ fs) is order some =
    let same : f ≡ first = (let e : Some first ≡ Some f = is in cc) in
    subst (λ (g : PlainFold). Joins (map fold_of (f ∷ fs)) (joined_from g.start g.end (f ∷ fs))) same
    (joins-all f fs (rise-from 0 (f ∷ fs) (λ k d lt. omega arith) order some))

-- ---- ranges one by one

-- the end of the range before the one of this number, or the offset before all
abbrev pub end_before : ℕ → List Joined → ℕ → ℕ
end_before o [] k = o
end_before o (j ∷ js) zero = o
end_before o (j ∷ js) (suc k) = end_before j.end js k
