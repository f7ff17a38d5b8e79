-- What loops of an owner keep, and why they end.
use Rattle.std.proofs.Common.{◌≡◌, ℕ, ◌-◌, ◌<◌, ◌≤◌, ◌⊎◌, inl, inr, not, Bool, true, false, List, [], ◌∷◌, length, map, Result, Ok, Err, refl, sym, ap, ◌∙◌, subst, arith, true≢false}
use Rattle.std.specs.Prelude.{IfErr, OnOk}
use Rattle.std.specs.Result.{IsErrAnd}
use Rattle.display_map.specs.Displays.{unlanded}
use Rattle.display_map.specs.Events.{Event, event_limit}
use Rattle.display_map.specs.Replay.{History, SentJob, state_of, present_of, is_settled}
use Rattle.display_map.proofs.Settled.{all-settled}
use Rattle.live_display.specs.declared.owner.Owner.{Owner}
use Rattle.live_display.specs.declared.halt.Halt.{Halt}
use Rattle.live_display.specs.Beside.{HasGone, GoesWithout, IsHalted, is_any_landing, is_send, outstanding}
use Rattle.live_display.specs.Owned.{IsBusy, IsOwned, IsSameTeam}
use Rattle.live_display.specs.Stepping.{HasLanded, HasLandedOne, HasSent, IsLonger}
use Rattle.live_display.proofs.Going.{gone-none, gone-gone, gone-longer, halted-behind, without-none}
use Rattle.live_display.proofs.Outs.{Job, outstanding-is}

-- from where a call began to where it is: steps were taken, and the owner still has its team
pub record Keeps (first now : Owner) : Type 0 where
  pub gone : HasGone first.crew.workers first.display now.display
  pub owned : IsOwned now
  pub team : IsSameTeam first now

-- ... and no event of the journal since is such a one
pub record KeepsWithout (is_such : Event → Bool) (first now : Owner) : Type 0 where
  pub keeps : Keeps first now
  pub without : GoesWithout is_such first.display now.display

team-team : (a b c : Owner) → IsSameTeam a b → IsSameTeam b c → IsSameTeam a c
team-team a b c x y = record { workers = y.workers ∙ x.workers; board = y.board ∙ x.board }

pub keeps-more : (a b c : Owner) → Keeps a b → HasGone b.crew.workers b.display c.display → IsOwned c → IsSameTeam b c → Keeps a c
keeps-more a b c kept gone owned team =
    record {
      gone = gone-gone a.crew.workers a.display b.display c.display kept.gone (subst (λ w. HasGone w b.display c.display) kept.team.workers gone);
      owned = owned;
      team = team-team a b c kept.team team;
    }

pub keeps-halted : (a b c : Owner) (halt : Halt) → Keeps a b → IsHalted b.crew.workers b.display c.display halt → IsHalted a.crew.workers a.display c.display halt
keeps-halted a b c halt kept halted =
    halted-behind a.crew.workers a.display b.display c.display halt kept.gone (subst (λ w. IsHalted w b.display c.display halt) kept.team.workers halted)

pub sent-gone : (o o' : Owner) (more : Bool) → HasSent o o' more → HasGone o.crew.workers o.display o'.display
sent-gone o o' true sent = sent.0
sent-gone o o' false sent = gone-none o.crew.workers o.display o'.display sent.1

pub landed-gone : (o o' : Owner) (more : Bool) → HasLandedOne o o' more → HasGone o.crew.workers o.display o'.display
landed-gone o o' true landed = landed.0.gone
landed-gone o o' false none = gone-none o.crew.workers o.display o'.display none.0

pub sent-without : (o o' : Owner) (more : Bool) → HasSent o o' more → GoesWithout is_any_landing o.display o'.display
sent-without o o' true sent = sent.3
sent-without o o' false sent = without-none is_any_landing o.display o'.display sent.1

pub landed-without : (o o' : Owner) (more : Bool) → HasLandedOne o o' more → GoesWithout is_send o.display o'.display
landed-without o o' true landed = landed.0.unsent
landed-without o o' false none = without-none is_send o.display o'.display none.0

-- where a display isn't settled, or its crew is full, and it is busy, a job is out
none-out : (h : History) (out : List Job) → map (λ j. j.number) out ≡ [] → length out ≡ 0
none-out h [] e = refl
none-out h (job ∷ out) e = cc

some-or-none : (out : List Job) → (1 ≤ length out) ⊎ (out ≡ [])
some-or-none [] = inr refl
some-or-none (job ∷ out) = inl (omega arith)

none-numbered : (jobs : List SentJob) → map (λ job. job.number) jobs ≡ [] → jobs ≡ []
none-numbered [] e = refl
none-numbered (job ∷ jobs) e = cc

pub job-is-out : (o : Owner) → IsOwned o → IsBusy o → is_settled (present_of o.display) ≡ false → 1 ≤ length o.crew.out
job-is-out o owned (inr full) unsettled = let some = owned.some_worker in omega (arith, full, some)
job-is-out o owned (inl none) unsettled = elim (some-or-none o.crew.out) [
  | inl some ↦ some
  | inr empty ↦ absurd (true≢false (sym (all-settled (state_of o.display) (none-numbered (unlanded (state_of o.display).jobs) (sym owned.jobs.numbers ∙ ap (map (λ j. j.number)) empty)) none) ∙ unsettled))
]

pub err-halted : (w : ℕ) (h h' : History) (r : Result (Unit {0}) Halt) (halt : Halt) → IsErrAnd r (λ e. e ≡ halt) → IsHalted w h h' halt → IfErr r (IsHalted w h h')
err-halted w h h' (Ok done) halt is halted = tt
err-halted w h h' (Err e) halt is halted = subst (λ e. IsHalted w h h' e) (sym is) halted

pub turn-longer : (o between o' : Owner) → HasLanded o between → HasGone o.crew.workers between.display o'.display → IsLonger o.display o'.display
turn-longer o between o' landed gone =
    let longer = landed.longer in
    let within = landed.within in
    let rest = gone-longer o.crew.workers between.display o'.display gone in
    (omega (arith, longer, within), omega (arith, longer, rest))

pub less-left : (h h' : History) → IsLonger h h' → event_limit - length h'.events < event_limit - length h.events
less-left h h' longer = let room = longer.0 in let more = longer.1 in omega (arith, room, more)

pub none-outstanding : (o : Owner) → IsOwned o → length o.crew.out ≡ 0 → outstanding (state_of o.display) ≡ 0
none-outstanding o owned none = outstanding-is o.display o.crew.out owned.jobs ∙ none

unsettled : (b c : Bool) → b ≡ c → not b ≡ true → c ≡ false
unsettled true c is e = absurd (true≢false (sym e))
unsettled false c is e = sym is

pub unsettled-out : (o : Owner) (b : Bool) → IsOwned o → IsBusy o → b ≡ is_settled (present_of o.display) → not b ≡ true → 1 ≤ length o.crew.out
unsettled-out o b owned busy is e = job-is-out o owned busy (unsettled b (is_settled (present_of o.display)) is e)

-- ---- a landing, and then what is sent

after-landing : (o between o' : Owner) → HasLanded o between → IsSameTeam o between → HasGone between.crew.workers between.display o'.display
    → HasGone o.crew.workers o.display o'.display
after-landing o between o' landed team gone =
    gone-gone o.crew.workers o.display between.display o'.display landed.gone (subst (λ w. HasGone w between.display o'.display) team.workers gone)

pub turn-gone : (o between o' : Owner) (r : Result (Unit {0}) Halt) → HasLanded o between → IsSameTeam o between
    → OnOk r (HasGone between.crew.workers between.display o'.display) → OnOk r (HasGone o.crew.workers o.display o'.display)
turn-gone o between o' (Ok done) landed team gone = after-landing o between o' landed team gone
turn-gone o between o' (Err halt) landed team gone = tt

pub turn-long : (o between o' : Owner) (r : Result (Unit {0}) Halt) → HasLanded o between → IsSameTeam o between
    → OnOk r (HasGone between.crew.workers between.display o'.display) → OnOk r (IsLonger o.display o'.display)
turn-long o between o' (Ok done) landed team gone = turn-longer o between o' landed (subst (λ w. HasGone w between.display o'.display) team.workers gone)
turn-long o between o' (Err halt) landed team gone = tt

pub turn-halted : (o between o' : Owner) (r : Result (Unit {0}) Halt) → HasLanded o between → IsSameTeam o between
    → IfErr r (IsHalted between.crew.workers between.display o'.display) → IfErr r (IsHalted o.crew.workers o.display o'.display)
turn-halted o between o' (Ok done) landed team halted = tt
turn-halted o between o' (Err halt) landed team halted =
    halted-behind o.crew.workers o.display between.display o'.display halt landed.gone
    (subst (λ w. IsHalted w between.display o'.display halt) team.workers halted)
