-- The next run may be sent, and an owner's jobs are those that are outstanding.
use Rattle.std.proofs.Common.{◌≡◌, ℕ, zero, suc, ◌+◌, ◌<◌, ◌≤◌, min, inl, inr, Bool, true, false, not, cond, List, [], ◌∷◌, length, take, drop, get_or, Some, None, refl, sym, ap, ◌∙◌, subst, arith}
use Rattle.std.specs.Prelude.{◌==◌, ◌&&◌, ◌||◌, filter, if◌then◌else◌}
use Rattle.std.specs.List.{list_any, list_all, prefix_len}
use Rattle.std.proofs.lemmas.Bool.{eqb-true, eqb-false}
use Rattle.std.proofs.lemmas.List.{length-drop, length-map}
use Rattle.std.proofs.lemmas.List.Sums.{prefix_len-le-length, prefix_len_stops, fold-append, length-filter}
use Rattle.std.proofs.Math.Seq.{drop-cons}
use Rattle.cell_units.specs.declared.limits.TheConstants.{RUN_LIMIT}
use Rattle.cell_units.specs.Record.{Mark}
use Rattle.cell_line.specs.declared.element.Element.{Element}
use Rattle.cell_line.specs.declared.lines.Run.{Run}
use Rattle.wrap_workers.specs.Jobs.{JobParts}
use Rattle.display_map.specs.Events.{Event}
use Rattle.display_map.specs.Replay.{State, History, begun, happens, replayed, state_of, appended, waits, run_from, first_waiting, next_run}
use Rattle.live_display.specs.declared.owner.Owner.{Owner}
use Rattle.live_display.specs.Beside.{IsSending, outstanding}
use Rattle.live_display.specs.Owned.{AreOut}
use Rattle.edit_script.specs.Verdict.{Verdict}
use Rattle.script_runner.specs.Legal.{IsSend}
use Rattle.script_runner.specs.Going.{IsAbreast, IsPreparedFor, MayHandle}

some-same : {X : Type 0} (x y : X) → Some x ≡ Some y → x ≡ y
some-same x y e = cc

if-some : {X : Type 0} (b : Bool) (x y : X) → (if b then None else Some x) ≡ Some y → (b ≡ false) × (x ≡ y)
if-some true x y e = cc
if-some false x y e = (refl, some-same x y e)

if-none : {X : Type 0} (b : Bool) (x : X) → (if b then None else Some x) ≡ None → b ≡ true
if-none true x e = refl
if-none false x e = cc

or-left : (a b : Bool) → (a || b) ≡ false → a ≡ false
or-left true b e = e
or-left false b e = refl

or-right : (a b : Bool) → (a || b) ≡ false → b ≡ false
or-right true b e = cc
or-right false b e = e

not-false : (a : Bool) → not a ≡ false → a ≡ true
not-false true e = refl
not-false false e = cc

all-prefix : {X : Type 0} (p : X → Bool) (xs : List X) (n : ℕ) → n ≤ prefix_len p xs → list_all p (take n xs) ≡ true
all-prefix p [] zero le = refl
all-prefix p [] (suc n) le = refl
all-prefix p (x ∷ xs) zero le = refl
all-prefix p (x ∷ xs) (suc n) le =
    elim (p x) as (λ b. suc n ≤ cond b (1 + prefix_len p xs) 0 → (b && list_all p (take n xs)) ≡ true)
    [ true ↦ λ h. all-prefix p xs n (omega arith) | false ↦ λ h. absurd (omega arith) ] le

-- the next run begins at a line that waits
record IsNextRun (s : State) (run : Run) : Type 0 where
  mark : Mark
  rest : List Mark
  from : drop run.first s.present.marks ≡ mark ∷ rest
  waiting : waits s mark ≡ true
  within : run.first < length s.present.marks
  count : run.count ≡ min RUN_LIMIT (prefix_len (waits s) (drop run.first s.present.marks))

next-run-is : (s : State) (run : Run) → next_run s ≡ Some run → IsNextRun s run
unfolding next_run
next-run-is s run e =
    let marks : List Mark = s.present.marks in
    let first : ℕ = first_waiting s in
    let d : Mark = record { stamp = 0; width = 0 } in
    let cases = if-some (first == length marks) (run_from s first) run e in
    let apart = eqb-false first (length marks) cases.0 in
    let most : first ≤ length marks = prefix_len-le-length (λ m. not (waits s m)) marks in
    let within : first < length marks = omega arith in
    let it : run_from s first ≡ run = cases.1 in
    let firsts : first ≡ run.first = ap (λ r. r.first) it in
    let counts : min RUN_LIMIT (prefix_len (waits s) (drop first marks)) ≡ run.count = ap (λ r. r.count) it in
    record {
      mark = get_or marks first d;
      rest = drop (suc first) marks;
      from = ap (λ k. drop k marks) (sym firsts) ∙ drop-cons marks first d within;
      waiting = not-false (waits s (get_or marks first d)) (prefix_len_stops (λ m. not (waits s m)) marks d within);
      within = let P : ℕ → Type 0 = λ k. k < length marks in subst P firsts within;
      count = sym counts ∙ ap (λ k. min RUN_LIMIT (prefix_len (waits s) (drop k marks))) firsts;
    }

prefix-some : {X : Type 0} (p : X → Bool) (x : X) (xs : List X) → p x ≡ true → 1 ≤ prefix_len p (x ∷ xs)
prefix-some p x xs e = let P : Bool → Type 0 = λ b. 1 ≤ cond b (1 + prefix_len p xs) 0 in subst P (sym e) (omega arith)

count-some : (s : State) (run : Run) → IsNextRun s run → 1 ≤ run.count
count-some s run next =
    let some : 1 ≤ prefix_len (waits s) (next.mark ∷ next.rest) = prefix-some (waits s) next.mark next.rest next.waiting in
    let P : List Mark → Type 0 = λ l. 1 ≤ prefix_len (waits s) l in
    let here : 1 ≤ prefix_len (waits s) (drop run.first s.present.marks) = subst P (sym next.from) some in
    let e = next.count in omega arith

-- a run that an owner sends
pub send-next : (workers : ℕ) (s : State) (job first count : ℕ) → IsSending workers s job first count → IsSend workers s job first count
send-next workers s job first count sending =
    let run : Run = record { first = first; count = count } in
    let next = next-run-is s run sending.run in
    let e = next.count in
    let some : 1 ≤ count = count-some s run next in
    let most = prefix_len-le-length (waits s) (drop first s.present.marks) in
    let lengths = length-drop first s.present.marks in
    let inside = next.within in
    record {
      number = sending.number;
      some = some;
      few = omega arith;
      within = omega arith;
      all_wait = all-prefix (waits s) (drop first s.present.marks) count (omega arith);
      room = sending.room;
    }

none-any : {X : Type 0} (p : X → Bool) (xs : List X) → prefix_len (λ x. not (p x)) xs ≡ length xs → list_any p xs ≡ false
none-any p [] e = refl
none-any p (x ∷ xs) e =
    elim (p x) as (λ b. cond (not b) (1 + prefix_len (λ x. not (p x)) xs) 0 ≡ suc (length xs) → (b || list_any p xs) ≡ false)
    [ true ↦ λ h. absurd (omega arith) | false ↦ λ h. none-any p xs (omega arith) ] e

-- where no run is next, no line waits
pub none-wait : (s : State) → next_run s ≡ None → list_any (waits s) s.present.marks ≡ false
unfolding next_run
none-wait s e =
    none-any (waits s) s.present.marks
    (eqb-true (first_waiting s) (length s.present.marks) (if-none (first_waiting s == length s.present.marks) (run_from s (first_waiting s)) e))

pub state-append : (h : History) (more : List Event) → state_of (appended h more) ≡ replayed (state_of h) more
unfolding replayed
state-append h more = fold-append happens (begun h.opening) h.events more

-- as many jobs are out as are outstanding
out-count : (h : History) (out : List (JobParts (List (List Element)))) → AreOut h out → length out ≡ outstanding (state_of h)
out-count h out are =
    sym (length-map out (λ job. job.number)) ∙ (ap length are.numbers
    ∙ (length-map (filter (λ job. not job.landed) (state_of h).jobs) (λ job. job.number) ∙ length-filter (λ job. not job.landed) (state_of h).jobs))

-- what an owner that is abreast may take
pub may-handle : (owner : Owner) (verdict : Verdict) → IsAbreast owner
    → IsPreparedFor verdict owner.display → MayHandle owner.crew.workers owner.display verdict
may-handle owner verdict abreast prepared =
    record {
      busy = elim abreast.busy [
        | inl none ↦ inl none
        | inr full ↦ inr (sym (out-count owner.display owner.crew.out abreast.shown.owned.jobs) ∙ full)
      ];
      prepared = prepared;
      room = abreast.room;
    }
