-- The run that is to be wrapped next, found from line to line.
use Rattle.std.proofs.Common.{◌≡◌, ◌≢◌, ⊎_elim, ℕ, ◌+◌, ◌-◌, ◌<◌, ◌≤◌, ◌^◌, min, max, true, false, ◌&&◌, not, nat_lt, nat_le, ◌==◌, List, length, get_or, None, sym, subst, ◌∙◌, arith}
use Rattle.std.specs.List.{list_any}
use Rattle.std.proofs.Math.ListN.{get_or-map}
use Rattle.std.proofs.lemmas.Bool.{and_from, and_left, and_right, cases_lt, eq-eqb, le-leb, le-ltb, lt-leb, lt-ltb, ne_eqb, not_from_false, not_from_true}
use Rattle.std.proofs.lemmas.List.{get_or_default, length-map}
use Rattle.std.proofs.lemmas.List.Folds.{list_any-from_Any, list_any_none}
use Rattle.cell_line.specs.declared.lines.Run.{Run}
use Rattle.wrap_map.specs.Stood.{IsOther, IsOtherIfAny, Stood, marks_in, stood_at, unwrapped}
use Rattle.cell_line.specs.Waiting.{AreApart, IsNext, has_line, waits}
use Rattle.wrap_map.specs.inside.Changes.{IsRunFrom}

-- ---- which lines wait

mark-of : (ls : List Stood) (width k : ℕ) → get_or (marks_in ls) k 0 ≡ (stood_at ls k).mark
mark-of ls width k = get_or-map (λ (l : Stood). l.mark) ls k unwrapped

count-of : (ls : List Stood) → length (marks_in ls) ≡ length ls
count-of ls = length-map ls (λ (l : Stood). l.mark)

-- not where it is wrapped at the width
pub settled : (ls : List Stood) (width : ℕ) (out : List Run) (k : ℕ)
    → (stood_at ls k).mark ≡ width → waits (marks_in ls) width out k ≡ false
settled ls width out k h =
    and_left (nat_lt k (length (marks_in ls)) && not (get_or (marks_in ls) k 0 == width)) (not (list_any (λ run. has_line run k) out))
    (and_right (nat_lt k (length (marks_in ls))) (not (get_or (marks_in ls) k 0 == width))
    (not_from_true (get_or (marks_in ls) k 0 == width) (eq-eqb (get_or (marks_in ls) k 0) width (mark-of ls width k ∙ h))))

-- nor past the last line
pub past_end : (ls : List Stood) (width : ℕ) (out : List Run) (k : ℕ)
    → length ls ≤ k → waits (marks_in ls) width out k ≡ false
past_end ls width out k h =
    let c = count-of ls in
    and_left (nat_lt k (length (marks_in ls)) && not (get_or (marks_in ls) k 0 == width)) (not (list_any (λ run. has_line run k) out))
    (and_left (nat_lt k (length (marks_in ls))) (not (get_or (marks_in ls) k 0 == width)) (le-ltb k (length (marks_in ls)) (omega (arith, h, c))))

-- nor where a run has it
is_out : (ls : List Stood) (width : ℕ) (out : List Run) (k i : ℕ) (run : Run)
    → i < length out → run ≡ get_or out i run → has_line run k ≡ true → waits (marks_in ls) width out k ≡ false
is_out ls width out k i run within is h =
    and_right (nat_lt k (length (marks_in ls)) && not (get_or (marks_in ls) k 0 == width)) (not (list_any (λ run. has_line run k) out))
    (not_from_true (list_any (λ run. has_line run k) out)
    (list_any-from_Any (λ run. has_line run k) out (i, run, within, sym is, h)))

-- and where neither is so
pub waiting : (ls : List Stood) (width : ℕ) (out : List Run) (k : ℕ)
    → k < length ls → (stood_at ls k).mark ≢ width → ((i : ℕ) (d : Run) → i < length out → has_line (get_or out i d) k ≡ false)
    → waits (marks_in ls) width out k ≡ true
waiting ls width out k within other free =
    let c = count-of ls in
    and_from (nat_lt k (length (marks_in ls)) && not (get_or (marks_in ls) k 0 == width)) (not (list_any (λ run. has_line run k) out))
    (and_from (nat_lt k (length (marks_in ls))) (not (get_or (marks_in ls) k 0 == width))
    (lt-ltb k (length (marks_in ls)) (omega (arith, within, c)))
    (not_from_false (get_or (marks_in ls) k 0 == width) (ne_eqb (get_or (marks_in ls) k 0) width (λ e. other (sym (mark-of ls width k) ∙ e)))))
    (not_from_false (list_any (λ run. has_line run k) out) (list_any_none (λ run. has_line run k) out free))

-- ---- a run has a line, or not

has : (run : Run) (k : ℕ) → run.first ≤ k → k < run.first + run.count → has_line run k ≡ true
has run k a b = and_from (nat_le run.first k) (nat_lt k (run.first + run.count)) (le-leb run.first k a) (lt-ltb k (run.first + run.count) b)

pub before_run : (run : Run) (k : ℕ) → k < run.first → has_line run k ≡ false
before_run run k h = and_left (nat_le run.first k) (nat_lt k (run.first + run.count)) (lt-leb run.first k h)

pub behind_run : (run : Run) (k : ℕ) → run.first + run.count ≤ k → has_line run k ≡ false
behind_run run k h = and_right (nat_le run.first k) (nat_lt k (run.first + run.count)) (le-ltb k (run.first + run.count) h)

-- ---- from run to run

-- none of the lines before this one waits, and none of the runs before this one has a line from there on
pub record IsPassed (ls : List Stood) (width : ℕ) (out : List Run) (j line : ℕ) : Type 0 where
  pub none_before : (k : ℕ) → k < line → waits (marks_in ls) width out k ≡ false
  pub past : (i k : ℕ) (d : Run) → i < j → i < length out → line ≤ k → k < length ls → has_line (get_or out i d) k ≡ false

one_more : (P : ℕ → Type 0) (j : ℕ) → ((i : ℕ) → i < j → P i) → P j → (i : ℕ) → i < j + 1 → P i
one_more P j below at i h = ⊎_elim (λ a. below i a) (λ a. let e : j ≡ i = omega arith in subst P e at) (cases_lt i j)

-- past a run that begins at or before the next line that has another mark
pub passed-on : (ls : List Stood) (width : ℕ) (out : List Run) (j line found next : ℕ) (run : Run)
    → IsPassed ls width out j line → j < length out → run ≡ get_or out j run
    → IsOther ls line width found → run.first ≤ found → length ls < 2 ^ 32
    → next ≡ max found (min (run.first + run.count) (2 ^ 32 - 1)) → IsPassed ls width out (j + 1) next
passed-on ls width out j line found next run p within is other begun fits next-is = let order = other.order in record {
  none_before = λ k h.
      ⊎_elim (λ a. p.none_before k a)
      (λ a. ⊎_elim (λ b. settled ls width out k (other.before k a b))
      (λ b. is_out ls width out k j run within is (has run k (omega arith) (omega arith)))
      (cases_lt k found))
      (cases_lt k line);
  past = λ i k d a b c e.
      one_more (λ i. i < length out → has_line (get_or out i d) k ≡ false) j
      (λ i a b. p.past i k d a b (omega arith) e)
      (λ b. subst (λ (r : Run). has_line r k ≡ false) (is ∙ get_or_default out j run d b) (behind_run run k (omega arith)))
      i a b;
}

-- the run from a line found before the next run that is out, or before the end
pub next-is : (ls : List Stood) (width : ℕ) (out : List Run) (j line found end : ℕ) (run : Run)
    → IsPassed ls width out j line → IsOther ls line width found → end ≤ length ls
    → ((i k : ℕ) (d : Run) → j ≤ i → i < length out → k < end → has_line (get_or out i d) k ≡ false)
    → waits (marks_in ls) width out end ≡ false
    → IsRunFrom ls width found end run → IsNext (marks_in ls) width out run
next-is ls width out j line found end run p other within free stops r =
    let order = other.order in
    let first-is = r.first_is in
    let reach = r.within in
    record {
      some = r.some;
      few = r.few;
      none_before = λ k h.
          ⊎_elim (λ a. p.none_before k a) (λ a. settled ls width out k (other.before k a (omega arith))) (cases_lt k line);
      each = λ k h. waiting ls width out (run.first + k) (omega arith)
          (λ e. r.other (run.first + k) (omega arith) (omega arith) e)
          (λ i d b. ⊎_elim (λ a. p.past i (run.first + k) d a b (omega arith) (omega arith)) (λ a. free i (run.first + k) d a b (omega arith)) (cases_lt i j));
      no_longer = λ h.
          subst (λ (n : ℕ). waits (marks_in ls) width out (n + run.count) ≡ false) (sym first-is)
          (⊎_elim (λ a. settled ls width out (found + run.count) (r.no_longer h a))
          (λ a. let e : end ≡ found + run.count = omega arith in subst (λ (n : ℕ). waits (marks_in ls) width out n ≡ false) e stops)
          (cases_lt (found + run.count) end));
    }

-- before the next run that is out
pub next-before : (ls : List Stood) (width : ℕ) (out : List Run) (j line found end : ℕ) (run next : Run)
    → AreApart out → IsPassed ls width out j line → IsOther ls line width found
    → j < length out → run ≡ get_or out j run → 1 ≤ run.count → end ≡ min run.first (length ls)
    → IsRunFrom ls width found end next → IsNext (marks_in ls) width out next
next-before ls width out j line found end run next apart p other within is some end-is r =
    next-is ls width out j line found end next p other (omega arith)
    (λ i k d a b c. ⊎_elim
    (λ q. let e : run.first + run.count ≤ (get_or out i d).first =
    subst (λ (x : Run). x.first + x.count ≤ (get_or out i d).first) (sym (is ∙ get_or_default out j run d within)) (apart j i d q b) in
    before_run (get_or out i d) k (omega arith))
    (λ q. let e : j ≡ i = omega arith in
    subst (λ (n : ℕ). has_line (get_or out n d) k ≡ false) e
    (subst (λ (x : Run). has_line x k ≡ false) (is ∙ get_or_default out j run d within) (before_run run k (omega arith))))
    (cases_lt j i))
    (⊎_elim (λ q. is_out ls width out end j run within is (has run end (omega arith) (omega arith)))
    (λ q. past_end ls width out end q)
    (cases_lt end (length ls)))
    r

-- after all runs that are out
pub next-behind : (ls : List Stood) (width : ℕ) (out : List Run) (line found end : ℕ) (next : Run)
    → IsPassed ls width out (length out) line → IsOther ls line width found → end ≡ length ls
    → IsRunFrom ls width found end next → IsNext (marks_in ls) width out next
next-behind ls width out line found end next p other end-is r =
    next-is ls width out (length out) line found end next p other (omega arith)
    (λ i k d a b c. absurd (omega arith))
    (past_end ls width out end (omega arith))
    r

-- no line waits where from here on all are wrapped at the width
pub none_waits : (ls : List Stood) (width : ℕ) (out : List Run) (j line : ℕ)
    → IsPassed ls width out j line → IsOtherIfAny ls line width None → (k : ℕ) → waits (marks_in ls) width out k ≡ false
none_waits ls width out j line p none k =
    ⊎_elim (λ a. p.none_before k a)
    (λ a. ⊎_elim (λ b. settled ls width out k (none k a b)) (λ b. past_end ls width out k b) (cases_lt k (length ls)))
    (cases_lt k line)
