use Rattle.std.proofs.Common.{◌≡◌, ◌+◌, List, [], ◌∷◌, ◌++◌, length, refl, sym, ap, subst, ◌∙◌, arith}
use Rattle.std.specs.Prelude.{Some, None}
use Rattle.std.specs.List.{All}
use Rattle.display_map.specs.Displays.{IsNextRun, NoneWaits}
use Rattle.display_map.specs.Events.{Event, Sent}
use Rattle.display_map.specs.Outs.{AreBelow, OutParts, waiting_in}
use Rattle.display_map.specs.Replay.{History, next_run, state_of}
use Rattle.display_map.specs.Sending.{IsSent, seen_job}
use Rattle.display_map.proofs.LandedWorks.{taken-back}
use Rattle.display_map.proofs.NextRuns.{none-next}
use Rattle.display_map.proofs.TakenRuns.{few-flags, is-sent, kept-taken, lawful-run, no-run, run-within}
use Rattle.display_map.proofs.Works.{below-sheet}
use Rattle.display_map.proofs.display.DisplayOn.take_run.Goals as goal

pub next_run-requires-clause-below : goal.next_run-requires-clause-below
next_run-requires-clause-below g c =
    let d = c.self.inside in
    let r = g.S.Sheet.kept d.sheet in
    let h : History = record { opening = (g.S.Sheet.kept d.opening).text; events = d.journal } in
    subst (λ (outs : List OutParts). All (λ out. AreBelow (length r.marks) out.lines) outs) (sym c.deref.ensures.value)
    (below-sheet h r d.outs.items d.versions d.jobs d.first c.self.invariant.kept)

pub next_run-requires-clause-none : goal.next_run-requires-clause-none
next_run-requires-clause-none g c =
    let d = c.self.inside in
    let r = g.S.Sheet.kept d.sheet in
    let h : History = record { opening = (g.S.Sheet.kept d.opening).text; events = d.journal } in
    subst (λ (outs : List OutParts). NoneWaits (waiting_in r outs) d.first) (sym c.deref.ensures.value) c.self.invariant.kept.none_before

pub returns-in_default-clause-taken : goal.returns-in_default-clause-taken
returns-in_default-clause-taken g c =
    let d = c.self.inside in
    let r = g.S.Sheet.kept d.sheet in
    let h : History = record { opening = (g.S.Sheet.kept d.opening).text; events = d.journal } in
    let none = subst (λ (outs : List OutParts). IsNextRun (waiting_in r outs) None) c.deref.ensures.value (none-next (waiting_in r c.deref.result.now) c.in_ok-next.next c.in_ok-next.ensures.next c.in_default.not-Some) in
    (subst (λ (h : History). next_run (state_of h) ≡ None) c.self.view_is (no-run h r d.outs.items d.versions d.jobs d.first c.self.invariant none), refl)

pub new-requires : goal.new-requires
new-requires g c =
    let d = c.self.inside in
    let r = g.S.Sheet.kept d.sheet in
    let flags = waiting_in r d.outs.items in
    let h : History = record { opening = (g.S.Sheet.kept d.opening).text; events = d.journal } in
    let next = subst (λ (outs : List OutParts). IsNextRun (waiting_in r outs) (Some c.in-Some.run')) c.deref.ensures.value (subst (IsNextRun (waiting_in r c.deref.result.now)) c.in-Some.is c.in_ok-next.ensures.next) in
    omega (arith, (run-within flags c.in-Some.run' next).2, few-flags h r d.outs.items d.versions d.jobs d.first c.self.invariant)

pub invariant_of-self-in-Err : goal.invariant_of-self-in-Err
invariant_of-self-in-Err g c =
    let d = c.self.inside in
    let r = g.S.Sheet.kept d.sheet in
    let h : History = record { opening = (g.S.Sheet.kept d.opening).text; events = d.journal } in
    taken-back h r d.outs.items d.versions d.jobs d.first c.self.invariant
    c.truncate.new.self (Sent (d.jobs + 1) c.in-Some.run'.first c.in-Some.run'.count ∷ []) c.push.new.self r c.push-2.new.self.items c.len-events.result
    c.truncate.ensures c.in_ok-push.ensures.appended c.len-events.ensures refl c.in-Err.ensures.items

pub job-requires-after_bounds : goal.job-requires-after_bounds
job-requires-after_bounds g c κs b =
    let d = c.self.inside in
    let r = g.S.Sheet.kept d.sheet in
    let h : History = record { opening = (g.S.Sheet.kept d.opening).text; events = d.journal } in
    let next = subst (λ (outs : List OutParts). IsNextRun (waiting_in r outs) (Some c.in-Some.run')) c.deref.ensures.value (subst (IsNextRun (waiting_in r c.deref.result.now)) c.in-Some.is c.in_ok-next.ensures.next) in
    lawful-run h r d.outs.items d.versions d.jobs d.first c.self.invariant c.in-Some.run' next (g.S.Held.Lines.elements_by_line c.in_ok-lines.lines) c.width-width.result
    c.in_ok-lines.ensures c.width-width.ensures

pub overflow_add-self-2 : goal.overflow_add-self-2
overflow_add-self-2 g c =
    let d = c.self.inside in
    let r = g.S.Sheet.kept d.sheet in
    let flags = waiting_in r d.outs.items in
    let h : History = record { opening = (g.S.Sheet.kept d.opening).text; events = d.journal } in
    let next = subst (λ (outs : List OutParts). IsNextRun (waiting_in r outs) (Some c.in-Some.run')) c.deref.ensures.value (subst (IsNextRun (waiting_in r c.deref.result.now)) c.in-Some.is c.in_ok-next.ensures.next) in
    omega (arith, (run-within flags c.in-Some.run' next).2, few-flags h r d.outs.items d.versions d.jobs d.first c.self.invariant)

pub invariant_of-self-2 : goal.invariant_of-self-2
invariant_of-self-2 g c =
    let d = c.self.inside in
    let r = g.S.Sheet.kept d.sheet in
    let h : History = record { opening = (g.S.Sheet.kept d.opening).text; events = d.journal } in
    let next = subst (λ (outs : List OutParts). IsNextRun (waiting_in r outs) (Some c.in-Some.run')) c.deref.ensures.value (subst (IsNextRun (waiting_in r c.deref.result.now)) c.in-Some.is c.in_ok-next.ensures.next) in
    let run = c.in-Some.run' in
    kept-taken h r d.outs.items d.versions d.jobs d.first c.self.invariant run next
    c.push.new.self c.push-2.new.self.items c.width-width.result c.width-width.ensures
    c.in_ok-push.ensures.appended
    (c.in_default-push.ensures.items ∙ ap (λ (out : OutParts). d.outs.items ++ out ∷ []) c.in_ok-out.ensures)

pub returns-clause-taken : goal.returns-clause-taken
returns-clause-taken g c =
    let d = c.self.inside in
    let r = g.S.Sheet.kept d.sheet in
    let h : History = record { opening = (g.S.Sheet.kept d.opening).text; events = d.journal } in
    let next = subst (λ (outs : List OutParts). IsNextRun (waiting_in r outs) (Some c.in-Some.run')) c.deref.ensures.value (subst (IsNextRun (waiting_in r c.deref.result.now)) c.in-Some.is c.in_ok-next.ensures.next) in
    let elements = g.S.Held.Lines.elements_by_line in
    let job = seen_job elements c.job.result in
    let after : History = record { opening = (g.S.Sheet.kept d.opening).text; events = c.push.new.self } in
    subst (λ (h : History). IsSent h after job) c.self.view_is
    (is-sent h r d.outs.items d.versions d.jobs d.first c.self.invariant c.in-Some.run' next after job
    (ap (λ j. j.run) c.job.ensures)
    (ap (λ j. j.number) c.job.ensures)
    (ap (λ j. j.width) c.job.ensures ∙ c.width-width.ensures)
    (ap (λ j. elements j.lines) c.job.ensures ∙ c.in_ok-lines.ensures)
    (ap (λ (events : List Event). record { opening = (g.S.Sheet.kept d.opening).text; events = events }) c.in_ok-push.ensures.appended))
