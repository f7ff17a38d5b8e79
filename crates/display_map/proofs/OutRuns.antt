-- The lines that jobs that are out have, as runs in order and apart.
use Rattle.std.proofs.Common.{◌≡◌, ℕ, zero, suc, ◌+◌, ◌-◌, ◌<◌, ◌≤◌, ◌&&◌, ◌||◌, eqb, leb, ltb, cond, Bool, true, false, List, [], ◌∷◌, ◌++◌, length, drop, take, get_or, refl, sym, ap, subst, ◌∙◌, inl, inr, arith}
use Rattle.std.specs.Prelude.{Option, Some, None}
use Rattle.std.specs.List.{All, Contains, dedup, list_any}
use Rattle.std.specs.List.Sorted.{IsPermutation, IsSorted}
use Rattle.std.specs.Ordering.{nat_cmp}
use Rattle.std.proofs.lemmas.Bool.{cases_eq, cases_lt, eq-eqb, eqb-true, false≢true, le-leb, le-ltb, lt-leb, lt-ltb, ne_eqb, or_cases}
use Rattle.std.proofs.lemmas.List.{append-nil, drop_all, drop_more, get_or_append_left, get_or-append_right, length-append, take_all, take_more}
use Rattle.std.proofs.lemmas.List.Elements.{All-append, All-cons, All-head, All-nil, All-push, All-tail}
use Rattle.std.proofs.lemmas.List.Filters.{All-dedup}
use Rattle.std.proofs.lemmas.List.Kept.{Contains-dedup_nat, Contains-from_dedup}
use Rattle.std.proofs.lemmas.List.Sorted.{All-permutation, Contains-permutation, IsPermutation-sym}
use Rattle.std.proofs.lemmas.Map.Keys.{IsStrictlyIncreasing-dedup}
use Rattle.cell_line.specs.declared.lines.Run.{Run}
use Rattle.cell_line.specs.Waiting.{AreApart, has_line}
use Rattle.kept_sheet.specs.Kept.{IsRising, standing}
use Rattle.display_map.specs.OutRuns.{any_has, is_in, lines_out}
use Rattle.display_map.specs.Outs.{AreBelow, OutParts}

-- ---- in order

rise-from : (from : ℕ) (xs : List ℕ) → (0 < length xs → from ≤ get_or xs 0 0) → ((k : ℕ) → k + 1 < length xs → get_or xs k 0 < get_or xs (k + 1) 0) → IsRising from xs
rise-from from [] low inc = tt
rise-from from (x ∷ xs) low inc = (low (omega arith), rise-from (x + 1) xs (λ lt. let i = inc 0 (omega (arith, lt)) in omega (arith, i)) (λ k lt. next k (inc (suc k) (omega (arith, lt))))) where
  next : (k : ℕ) → get_or (x ∷ xs) (suc k) 0 < get_or (x ∷ xs) (suc k + 1) 0 → get_or xs k 0 < get_or xs (k + 1) 0
  next k e = let one : suc k + 1 ≡ suc (k + 1) = omega arith in subst (λ (n : ℕ). get_or xs k 0 < get_or (x ∷ xs) n 0) one e

-- what sorting and leaving out repetitions make
pub record InOrder (old new : List ℕ) : Type 0 where
  pub rising : IsRising 0 new
  pub kept : (k : ℕ) → Contains old k → Contains new k
  pub only : (k : ℕ) → Contains new k → Contains old k
  pub within : (n : ℕ) → All (λ a. a < n) old → All (λ a. a < n) new

pub in-order : (old mid new : List ℕ) → IsPermutation old mid → IsSorted nat_cmp mid → new ≡ dedup eqb mid → InOrder old new
in-order old mid new permuted sorted is = subst (InOrder old) (sym is) (record {
  rising = rise-from 0 (dedup eqb mid) (λ lt. omega arith) (IsStrictlyIncreasing-dedup mid sorted);
  kept = λ k c. Contains-dedup_nat mid k (Contains-permutation old mid k permuted c);
  only = λ k c. Contains-permutation mid old k (IsPermutation-sym old mid permuted) (Contains-from_dedup eqb mid k c);
  within = λ n w. All-dedup eqb (λ a. a < n) mid (All-permutation (λ a. a < n) old mid permuted w);
})

-- ---- runs

pub any-append : {X : Type 0} (p : X → Bool) (xs ys : List X) → list_any p (xs ++ ys) ≡ (list_any p xs || list_any p ys)
any-append p [] ys = refl
any-append p (x ∷ xs) ys = ap (λ (b : Bool). p x || b) (any-append p xs ys) ∙ assoc (p x) (list_any p xs) (list_any p ys) where
  assoc : (a b c : Bool) → (a || (b || c)) ≡ ((a || b) || c)
  assoc true b c = refl
  assoc false b c = refl

or_false : (b : Bool) → (b || false) ≡ b
or_false true = refl
or_false false = refl

any-push : {X : Type 0} (p : X → Bool) (xs : List X) (x : X) → list_any p (xs ++ x ∷ []) ≡ (list_any p xs || p x)
any-push p xs x = any-append p xs (x ∷ []) ∙ ap (λ (b : Bool). list_any p xs || b) (or_false (p x))

-- a run without lines has none
empty-has : (first line : ℕ) → has_line (record { first = first; count = 0 }) line ≡ false
empty-has first line = elim (cases_lt line first) [
  | inl lt ↦ ap (λ (b : Bool). b && ltb line (first + 0)) (lt-leb first line lt)
  | inr ge ↦ ap (λ (b : Bool). leb first line && b) (le-ltb line (first + 0) (omega (arith, ge))) ∙ and_false (leb first line)
] where
  and_false : (b : Bool) → (b && false) ≡ false
  and_false true = refl
  and_false false = refl

-- a run with one line more has that one too
longer-has : (first count place line : ℕ) → place ≡ first + count →
    has_line (record { first = first; count = count + 1 }) line ≡ (has_line (record { first = first; count = count }) line || eqb place line)
longer-has first count place line is = elim (cases_lt line first) [
  | inl lt ↦
      ap (λ (b : Bool). b && ltb line (first + (count + 1))) (lt-leb first line lt)
      ∙ sym (λ i. (lt-leb first line lt i && ltb line (first + count)) || ne_eqb place line (λ e. omega (arith, e, lt, is)) i)
  | inr ge ↦ elim (cases_lt line (first + count)) [
    | inl within ↦
        (λ i. le-leb first line ge i && lt-ltb line (first + (count + 1)) (omega (arith, within)) i)
        ∙ sym (λ i. (le-leb first line ge i && lt-ltb line (first + count) within i) || eqb place line)
    | inr behind ↦ elim (cases_eq place line) [
      | inl same ↦
          (λ i. le-leb first line ge i && lt-ltb line (first + (count + 1)) (omega (arith, same, is)) i)
          ∙ sym (λ i. (le-leb first line ge i && le-ltb line (first + count) behind i) || eq-eqb place line same i)
      | inr other ↦
          (λ i. le-leb first line ge i && le-ltb line (first + (count + 1)) (further place line first count is behind other) i)
          ∙ sym (λ i. (le-leb first line ge i && le-ltb line (first + count) behind i) || ne_eqb place line other i)
    ]
  ]
] where
  further : (place line first count : ℕ) → place ≡ first + count → first + count ≤ line → (place ≡ line → ⊥) → first + (count + 1) ≤ line
  further place line first count is le ne = elim (cases_lt (first + count) line) [
    | inl lt ↦ omega (arith, lt)
    | inr ge ↦ absurd (ne (omega (arith, is, le, ge)))
  ]

-- what is kept of the places up to one: runs, and the last of them, which may go on
pub record AreJoined (places : List ℕ) (i : ℕ) (runs : List Run) (run : Run) : Type 0 where
  pub same : (line : ℕ) → (any_has line runs || has_line run line) ≡ is_in line (take i places)
  pub apart : AreApart runs
  pub before : All (λ r. r.first + r.count ≤ run.first) runs
  pub rising : IsRising (run.first + run.count) (drop i places)

pub joined-start : (places : List ℕ) → IsRising 0 places → AreJoined places 0 [] (record { first = 0; count = 0 })
joined-start places rising = record {
  same = λ line. empty-has 0 line;
  apart = λ i j d lt within. absurd (omega (arith, within));
  before = All-nil (λ (r : Run). r.first + r.count ≤ 0);
  rising = rising;
}

apart-push : (runs : List Run) (run : Run) → AreApart runs → All (λ r. r.first + r.count ≤ run.first) runs → AreApart (runs ++ run ∷ [])
apart-push runs run apart before i j d lt within = elim (cases_lt j (length runs)) [
  | inl there ↦
      subst (λ (r : Run). r.first + r.count ≤ (get_or (runs ++ run ∷ []) j d).first) (sym (get_or_append_left runs (run ∷ []) d i (omega (arith, lt, there))))
      (subst (λ (r : Run). (get_or runs i d).first + (get_or runs i d).count ≤ r.first) (sym (get_or_append_left runs (run ∷ []) d j there)) (apart i j d lt there))
  | inr last ↦
      let at : j - length runs ≡ 0 = omega (arith, within, length-append runs (run ∷ []), last) in
      let own : get_or (runs ++ run ∷ []) j d ≡ run = get_or-append_right runs (run ∷ []) (length runs) j d refl last ∙ ap (λ (n : ℕ). get_or (run ∷ []) n d) at in
      subst (λ (r : Run). r.first + r.count ≤ (get_or (runs ++ run ∷ []) j d).first) (sym (get_or_append_left runs (run ∷ []) d i (omega (arith, within, length-append runs (run ∷ []), lt))))
      (subst (λ (r : Run). (get_or runs i d).first + (get_or runs i d).count ≤ r.first) (sym own) (before i d (omega (arith, within, length-append runs (run ∷ []), lt))))
]

module _ (places : List ℕ) (i : ℕ) (runs : List Run) (run : Run) (j : AreJoined places i runs run) where
  -- the runs with the last one
  pub joined-all : length places ≤ i → AreApart (runs ++ run ∷ []) × ((line : ℕ) → any_has line (runs ++ run ∷ []) ≡ is_in line places)
  joined-all whole = (
    apart-push runs run j.apart j.before,
    λ line. any-push (λ r. has_line r line) runs run ∙ j.same line ∙ ap (is_in line) (take_all i places whole),
  )

  module _ (place : ℕ) (there : i < length places) (is : place ≡ get_or places i place) where
    next : drop i places ≡ place ∷ drop (i + 1) places
    next = drop_more places i place there ∙ ap (λ (x : ℕ). x ∷ drop (i + 1) places) (sym is)

    parts : IsRising (run.first + run.count) (place ∷ drop (i + 1) places)
    parts = subst (IsRising (run.first + run.count)) next j.rising

    pub rises : run.first + run.count ≤ place
    rises = parts.0

    passed : (line : ℕ) → is_in line (take (i + 1) places) ≡ (is_in line (take i places) || eqb place line)
    passed line =
        ap (is_in line) (take_more places i place there ∙ ap (λ (x : ℕ). take i places ++ x ∷ []) (sym is))
        ∙ any-push (λ l. eqb l line) (take i places) place

    assoc : (a b c : Bool) → (a || (b || c)) ≡ ((a || b) || c)
    assoc true b c = refl
    assoc false b c = refl

    -- the run goes on
    pub joined-on : place ≡ run.first + run.count → AreJoined places (i + 1) runs (record { first = run.first; count = run.count + 1 })
    joined-on goes = record {
      same =
          λ line.
          ap (λ (b : Bool). any_has line runs || b) (longer-has run.first run.count place line goes)
          ∙ assoc (any_has line runs) (has_line run line) (eqb place line)
          ∙ ap (λ (b : Bool). b || eqb place line) (j.same line)
          ∙ sym (passed line);
      apart = j.apart;
      before = j.before;
      rising = subst (λ (n : ℕ). IsRising n (drop (i + 1) places)) (let e : place + 1 ≡ run.first + (run.count + 1) = omega (arith, goes) in e) parts.1;
    }

    -- another begins
    pub joined-anew : AreJoined places (i + 1) (runs ++ run ∷ []) (record { first = place; count = 1 })
    joined-anew = record {
      same =
          λ line.
          (λ k. (any-push (λ r. has_line r line) runs run ∙ j.same line) k || (longer-has place 0 place line (omega arith) ∙ ap (λ (b : Bool). b || eqb place line) (empty-has place line)) k)
          ∙ sym (passed line);
      apart = apart-push runs run j.apart j.before;
      before = All-push (λ (r : Run). r.first + r.count ≤ place) runs run (λ k d lt. omega (arith, j.before k d lt, rises)) rises;
      rising = parts.1;
    }

-- ---- the same lines in another order

contains-cons : (x : ℕ) (xs : List ℕ) (k : ℕ) → Contains xs k → Contains (x ∷ xs) k
contains-cons x xs k c = (suc c.0, omega (arith, c.1), c.2)

in-contains : (line : ℕ) (xs : List ℕ) → is_in line xs ≡ true → Contains xs line
in-contains line [] h = absurd (false≢true h)
in-contains line (x ∷ xs) h = elim (or_cases (eqb x line) (is_in line xs) h) [
  | inl e ↦ (0, omega arith, eqb-true x line e)
  | inr e ↦ contains-cons x xs line (in-contains line xs e)
]

contains-in : (line : ℕ) (xs : List ℕ) (k : ℕ) → k < length xs → get_or xs k line ≡ line → is_in line xs ≡ true
contains-in line [] k lt e = absurd (omega (arith, lt))
contains-in line (x ∷ xs) zero lt e = ap (λ (b : Bool). b || is_in line xs) (eq-eqb x line e)
contains-in line (x ∷ xs) (suc k) lt e = ap (λ (b : Bool). eqb x line || b) (contains-in line xs k (omega (arith, lt)) e) ∙ or_true (eqb x line) where
  or_true : (b : Bool) → (b || true) ≡ true
  or_true true = refl
  or_true false = refl

same-tests : (a b : Bool) → (a ≡ true → b ≡ true) → (b ≡ true → a ≡ true) → a ≡ b
same-tests true b f g = sym (f refl)
same-tests false true f g = g refl
same-tests false false f g = refl

pub same-in : (old new : List ℕ) → ((k : ℕ) → Contains old k → Contains new k) → ((k : ℕ) → Contains new k → Contains old k) → (line : ℕ) → is_in line new ≡ is_in line old
same-in old new kept only line =
    same-tests (is_in line new) (is_in line old)
    (λ h. let c = only line (in-contains line new h) in contains-in line old c.0 c.1 c.2)
    (λ h. let c = kept line (in-contains line old h) in contains-in line new c.0 c.1 c.2)

-- ---- the lines of jobs are among all lines

standing-below : (n : ℕ) (places : List (Option ℕ)) → AreBelow n places → All (λ a. a < n) (standing places)
standing-below n [] below = All-nil (λ (a : ℕ). a < n)
standing-below n (None ∷ places) below = standing-below n places below
standing-below n (Some line ∷ places) below = All-cons (λ (a : ℕ). a < n) line (standing places) below.0 (standing-below n places below.1)

pub out-below : (n width : ℕ) (outs : List OutParts) → All (λ out. AreBelow n out.lines) outs → All (λ a. a < n) (lines_out width outs)
out-below n width [] below = All-nil (λ (a : ℕ). a < n)
out-below n width (out ∷ outs) below =
    go (eqb out.width width) (standing-below n out.lines (All-head (λ (o : OutParts). AreBelow n o.lines) out outs below)) (out-below n width outs (All-tail (λ (o : OutParts). AreBelow n o.lines) out outs below)) where
      go : (b : Bool) → All (λ a. a < n) (standing out.lines) → All (λ a. a < n) (lines_out width outs) → All (λ a. a < n) (cond b (standing out.lines ++ lines_out width outs) (lines_out width outs))
      go true own rest = All-append (λ (a : ℕ). a < n) (standing out.lines) (lines_out width outs) own rest
      go false own rest = rest

-- ---- lines that are gathered

pub stand-end : (lines old : List ℕ) (places : List (Option ℕ)) (i : ℕ) → length places ≤ i → lines ++ standing (drop i places) ≡ old ++ standing places → lines ≡ old ++ standing places
stand-end lines old places i whole e =
    sym (append-nil lines) ∙ ap (λ (l : List (Option ℕ)). lines ++ standing l) (sym (drop_all i places whole)) ∙ e
