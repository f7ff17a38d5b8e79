-- What becomes of marks where one run of lines is touched.
use Rattle.std.proofs.Common.{◌≡◌, ℕ, ◌+◌, zero, suc, cond, Bool, true, false, List, [], ◌∷◌, ◌++◌, length, take, drop, replicate, refl, ap, ◌∙◌, arith, length-drop}
use Rattle.std.specs.List.{count_by}
use Rattle.std.proofs.lemmas.List.{length-take-le}
use Rattle.std.proofs.lemmas.List.Sums.{sum_by-append}
use Rattle.std.proofs.lemmas.List.Folds.{sum_by-replicate}
use Rattle.cell_units.specs.Record.{Record, Mark, plain_mark, plain_marks}
use Rattle.cell_units.specs.Operation.{Operation}
use Rattle.cell_units.specs.Touched.{untouched, one_run}
use Rattle.display_sheet.specs.LineStep.{handed_on, flags_before, flags_after, stepped}

all_kept : {X : Type 0} (n : ℕ) (marks : List X) → length marks ≡ n → untouched (replicate n false) marks ≡ marks
all_kept zero [] e = refl
all_kept zero (m ∷ ms) e = absurd (omega arith)
all_kept (suc n) [] e = absurd (omega arith)
all_kept {X} (suc n) (m ∷ ms) e = ap (λ (l : List X). m ∷ l) (all_kept n ms (omega arith))

none_kept : {X : Type 0} (n k : ℕ) (marks : List X) → length marks ≡ n + k → untouched (replicate n true ++ replicate k false) marks ≡ drop n marks
none_kept zero k marks e = all_kept k marks (omega arith)
none_kept (suc n) k [] e = absurd (omega arith)
none_kept (suc n) k (m ∷ ms) e = none_kept n k ms (omega arith)

pub kept_marks : {X : Type 0} (before n k : ℕ) (marks : List X) → length marks ≡ before + (n + k) →
    untouched (one_run before n k) marks ≡ take before marks ++ drop (before + n) marks
kept_marks zero n k marks e = none_kept n k marks (omega arith) ∙ (let at : n ≡ 0 + n = omega arith in ap (λ (o : ℕ). drop o marks) at)
kept_marks (suc before) n k [] e = absurd (omega arith)
kept_marks {X} (suc before) n k (m ∷ ms) e =
    ap (λ (l : List X). m ∷ l) (kept_marks before n k ms (omega arith))
    ∙ (let at : suc (before + n) ≡ suc before + n = omega arith in ap (λ (o : ℕ). m ∷ (take before ms ++ drop o (m ∷ ms))) at)

all_handed : (n : ℕ) (kept : List Mark) (fresh : ℕ) → length kept ≡ n → handed_on (replicate n false) kept fresh ≡ kept
all_handed zero [] fresh e = refl
all_handed zero (m ∷ ms) fresh e = absurd (omega arith)
all_handed (suc n) [] fresh e = absurd (omega arith)
all_handed (suc n) (m ∷ ms) fresh e = ap (λ (l : List Mark). m ∷ l) (all_handed n ms fresh (omega arith))

fresh_handed : (n k : ℕ) (kept : List Mark) (fresh : ℕ) → length kept ≡ k →
    handed_on (replicate n true ++ replicate k false) kept fresh ≡ plain_marks fresh n ++ kept
fresh_handed zero k kept fresh e = all_handed k kept fresh e
fresh_handed (suc n) k kept fresh e = ap (λ (l : List Mark). plain_mark fresh ∷ l) (fresh_handed n k kept (fresh + 1) e)

pub handed_run : (before n k : ℕ) (front back : List Mark) (fresh : ℕ) → length front ≡ before → length back ≡ k →
    handed_on (one_run before n k) (front ++ back) fresh ≡ front ++ (plain_marks fresh n ++ back)
handed_run zero n k [] back fresh e h = fresh_handed n k back fresh h
handed_run zero n k (m ∷ ms) back fresh e h = absurd (omega arith)
handed_run (suc before) n k [] back fresh e h = absurd (omega arith)
handed_run (suc before) n k (m ∷ ms) back fresh e h = ap (λ (l : List Mark). m ∷ l) (handed_run before n k ms back fresh (omega arith) h)

pub count_true : (before n k : ℕ) → count_by (λ t. t) (one_run before n k) ≡ n
count_true before n k =
    let f : Bool → ℕ = λ (t : Bool). cond t 1 0 in
    omega (
      arith,
      sum_by-append f (replicate before false) (replicate n true ++ replicate k false),
      sum_by-append f (replicate n true) (replicate k false),
      sum_by-replicate f before false,
      sum_by-replicate f n true,
      sum_by-replicate f k false,
    )

-- where one run of lines is touched before and after, they alone get fresh marks
pub stepped_run : (operation : Operation) (r after : Record) (before n n' k : ℕ) →
    flags_before operation r ≡ one_run before n k → flags_after operation r after ≡ one_run before n' k →
    length r.marks ≡ before + (n + k) →
    stepped operation r after
    ≡ record after { marks = take before r.marks ++ (plain_marks r.next_stamp n' ++ drop (before + n) r.marks); next_stamp = r.next_stamp + n' }
stepped_run operation r after before n n' k before_is after_is long =
    let kept = kept_marks before n k r.marks long in
    let front : length (take before r.marks) ≡ before = length-take-le before r.marks (omega arith) in
    let back : length (drop (before + n) r.marks) ≡ k = omega (arith, length-drop (before + n) r.marks) in
    let handed = handed_run before n' k (take before r.marks) (drop (before + n) r.marks) r.next_stamp front back in
    (λ i. record after { marks = handed_on (after_is i) (untouched (before_is i) r.marks) r.next_stamp; next_stamp = r.next_stamp + count_by (λ t. t) (after_is i) })
    ∙ (λ i. record after { marks = handed_on (one_run before n' k) (kept i) r.next_stamp; next_stamp = r.next_stamp + count_true before n' k i })
    ∙ (λ i. record after { marks = handed i; next_stamp = r.next_stamp + n' })
