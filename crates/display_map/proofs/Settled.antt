-- Where no line waits and no job is out, every line is wrapped at the width.
use Rattle.std.proofs.Common.{◌≡◌, ℕ, suc, ◌+◌, Bool, true, false, not, cond, List, [], ◌∷◌, length, Some, None, refl, ap, ◌∙◌, arith}
use Rattle.std.specs.Prelude.{◌==◌, ◌&&◌, ◌||◌, if◌then◌else◌}
use Rattle.std.specs.List.{list_any, list_all, prefix_len}
use Rattle.std.proofs.lemmas.Bool.{eqb-true}
use Rattle.cell_units.specs.Record.{Mark}
use Rattle.display_map.specs.Displays.{unlanded}
use Rattle.display_map.specs.Replay.{SentJob, State, first_waiting, holds, is_held, is_settled, next_run, run_from, waits}

pub if-none : {X : Type 0} (b : Bool) (x : X) → (if b then None else Some x) ≡ None → b ≡ true
if-none true x e = refl
if-none false x e = cc

or-left : (a b : Bool) → (a || b) ≡ false → a ≡ false
or-left true b e = e
or-left false b e = refl

or-right : (a b : Bool) → (a || b) ≡ false → b ≡ false
or-right true b e = cc
or-right false b e = e

not-both : (a b : Bool) → (not a && not b) ≡ false → b ≡ false → a ≡ true
not-both true b e f = refl
not-both false true e f = cc
not-both false false e f = cc

none-any : {X : Type 0} (p : X → Bool) (xs : List X) → prefix_len (λ x. not (p x)) xs ≡ length xs → list_any p xs ≡ false
none-any p [] e = refl
none-any p (x ∷ xs) e =
    elim (p x) as (λ b. cond (not b) (1 + prefix_len (λ x. not (p x)) xs) 0 ≡ suc (length xs) → (b || list_any p xs) ≡ false)
    [ true ↦ λ h. absurd (omega arith) | false ↦ λ h. none-any p xs (omega arith) ] e

none-wait : (s : State) → next_run s ≡ None → list_any (waits s) s.present.marks ≡ false
unfolding next_run
none-wait s e =
    none-any (waits s) s.present.marks
    (eqb-true (first_waiting s) (length s.present.marks) (if-none (first_waiting s == length s.present.marks) (run_from s (first_waiting s)) e))

none-held : (width stamp : ℕ) (jobs : List SentJob) → unlanded jobs ≡ []
    → list_any (λ job. not job.landed && (job.width == width) && holds job.stamps stamp) jobs ≡ false
none-held width stamp [] e = refl
none-held width stamp (job ∷ jobs) e = go job.landed (none-held width stamp jobs) e where
  go : (l : Bool) → (unlanded jobs ≡ [] → list_any (λ job. not job.landed && (job.width == width) && holds job.stamps stamp) jobs ≡ false)
      → cond (not l) (job ∷ unlanded jobs) (unlanded jobs) ≡ []
      → ((not l && (job.width == width) && holds job.stamps stamp) || list_any (λ job. not job.landed && (job.width == width) && holds job.stamps stamp) jobs) ≡ false
  go true rest e = rest e
  go false rest e = cc

all-wrapped : (s : State) → ((stamp : ℕ) → is_held s stamp ≡ false) → (marks : List Mark) → list_any (waits s) marks ≡ false
    → list_all (λ m. m.width == s.present.width) marks ≡ true
all-wrapped s held [] e = refl
all-wrapped s held (m ∷ marks) e =
    let here : waits s m ≡ false = or-left (waits s m) (list_any (waits s) marks) e in
    let rest = all-wrapped s held marks (or-right (waits s m) (list_any (waits s) marks) e) in
    let wrapped : (m.width == s.present.width) ≡ true =
    not-both (m.width == s.present.width) (is_held s m.stamp) here (held m.stamp) in
    ap (λ b. b && list_all (λ m. m.width == s.present.width) marks) wrapped ∙ rest

pub all-settled : (s : State) → unlanded s.jobs ≡ [] → next_run s ≡ None → is_settled s.present ≡ true
unfolding is_settled
all-settled s none e =
    all-wrapped s (λ stamp. none-held s.present.width stamp s.jobs none) s.present.marks (none-wait s e)
