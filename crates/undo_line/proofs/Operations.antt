-- A batch without the entries that replace nothing by nothing.
use Rattle.std.proofs.Common.{◌≡◌, ℕ, ◌≤◌, leb, ◌&&◌, Bool, true, cond, List, [], ◌∷◌, map, reverse, refl, ap, ◌∙◌, arith}
use Rattle.std.specs.List.{filter}
use Rattle.std.proofs.lemmas.Bool.{and_from, and_parts, cond_both, le-leb, leb-true}
use Rattle.cell_units.specs.Text.{is_boundary}
use Rattle.cell_units.proofs.CutLists.{Every}
use Rattle.display_sheet.specs.declared.change.Splice.{Splice}
use Rattle.display_sheet.specs.Changes.{are_ranges, batch, is_operation, replacement}

-- a range from an offset on, between two boundaries, and the ranges after it
pub record AreRanges (text : List ℕ) (from : ℕ) (s : Splice) (splices : List Splice) : Type 0 where
  pub order : from ≤ s.start
  pub forth : s.start ≤ s.end
  pub start : is_boundary text s.start ≡ true
  pub end : is_boundary text s.end ≡ true
  pub rest : are_ranges text s.end splices ≡ true

pub parts : (text : List ℕ) (from : ℕ) (s : Splice) (splices : List Splice) → are_ranges text from (s ∷ splices) ≡ true → AreRanges text from s splices
parts text from s splices h =
    let all = and_parts (leb from s.start && leb s.start s.end && is_boundary text s.start && is_boundary text s.end) (are_ranges text s.end splices) h in
    let three = and_parts (leb from s.start && leb s.start s.end && is_boundary text s.start) (is_boundary text s.end) all.0 in
    let two = and_parts (leb from s.start && leb s.start s.end) (is_boundary text s.start) three.0 in
    let one = and_parts (leb from s.start) (leb s.start s.end) two.0 in
    record {
      order = leb-true from s.start one.0;
      forth = leb-true s.start s.end one.1;
      start = two.1;
      end = three.1;
      rest = all.1;
    }

pub whole : (text : List ℕ) (from : ℕ) (s : Splice) (splices : List Splice) → AreRanges text from s splices → are_ranges text from (s ∷ splices) ≡ true
whole text from s splices h =
    let one = and_from (leb from s.start) (leb s.start s.end) (le-leb from s.start h.order) (le-leb s.start s.end h.forth) in
    let two = and_from (leb from s.start && leb s.start s.end) (is_boundary text s.start) one h.start in
    let three = and_from (leb from s.start && leb s.start s.end && is_boundary text s.start) (is_boundary text s.end) two h.end in
    and_from (leb from s.start && leb s.start s.end && is_boundary text s.start && is_boundary text s.end) (are_ranges text s.end splices) three h.rest

from_before : (text : List ℕ) (from before : ℕ) (splices : List Splice) → before ≤ from → are_ranges text from splices ≡ true → are_ranges text before splices ≡ true
from_before text from before [] le h = refl
from_before text from before (s ∷ splices) le h =
    let p = parts text from s splices h in
    whole text before s splices (record { order = omega (arith, le, p.order); forth = p.forth; start = p.start; end = p.end; rest = p.rest })

pub ranges-filter : (text : List ℕ) (from : ℕ) (splices : List Splice) → are_ranges text from splices ≡ true → are_ranges text from (filter is_operation splices) ≡ true
ranges-filter text from [] h = refl
ranges-filter text from (s ∷ splices) h =
    let p = parts text from s splices h in
    let later = filter is_operation splices in
    let rest = ranges-filter text s.end splices p.rest in
    cond_both (is_operation s) (s ∷ later) later (λ (l : List Splice). are_ranges text from l ≡ true)
    (λ _. whole text from s later (record { order = p.order; forth = p.forth; start = p.start; end = p.end; rest = rest }))
    (λ _. from_before text s.end from later (omega (arith, p.order, p.forth)) rest)

pub Every-filter : {X : Type 0} (P : X → Type 0) (test : X → Bool) (xs : List X) → Every P xs → Every P (filter test xs)
Every-filter P test [] h = tt
Every-filter {X} P test (x ∷ xs) h =
    let later = filter test xs in
    let rest = Every-filter P test xs h.1 in
    cond_both (test x) (x ∷ later) later (Every P) (λ _. (h.0, rest)) (λ _. rest)

pub filter-every : {X : Type 0} (test : X → Bool) (xs : List X) → Every (λ x. test x ≡ true) xs → filter test xs ≡ xs
filter-every test [] h = refl
filter-every {X} test (x ∷ xs) h =
    ap (λ (b : Bool). cond b (x ∷ filter test xs) (filter test xs)) h.0 ∙ ap (λ (l : List X). x ∷ l) (filter-every test xs h.1)

pub filtered_pass : {X : Type 0} (test : X → Bool) (xs : List X) → Every (λ x. test x ≡ true) (filter test xs)
filtered_pass test [] = tt
filtered_pass {X} test (x ∷ xs) =
    let later = filter test xs in
    let rest = filtered_pass test xs in
    cond_both (test x) (x ∷ later) later (Every (λ (y : X). test y ≡ true)) (λ e. (e, rest)) (λ _. rest)

-- the operations of a batch are those of its operations
pub batch-filter : (splices : List Splice) → batch (filter is_operation splices) ≡ batch splices
batch-filter splices =
    ap (λ (l : List Splice). map replacement (reverse l)) (filter-every is_operation (filter is_operation splices) (filtered_pass is_operation splices))
