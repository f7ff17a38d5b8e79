-- The line is recorded, and then its answer is written or its refusal.
use Rattle.std.proofs.Common.{◌≡◌, ◌≤◌, Option, Some, None, length, refl, sym, ap, ◌∙◌, subst, arith}
use Rattle.cell_units.specs.declared.fault.Fault.{Fault}
use Rattle.cell_units.specs.declared.fault.Fault.TheVariants as faults
use Rattle.cell_units.specs.declared.fault.Refusal.{Refusal}
use Rattle.display_map.specs.Replay.{History, present_of, versions_of}
use Rattle.live_display.specs.declared.owner.Owner.{Owner}
use Rattle.edit_script.specs.declared.asked.Query.{Query}
use Rattle.edit_script.specs.Answers.{IsUnanswered}
use Rattle.edit_script.specs.Commands.{Ask}
use Rattle.edit_script.specs.Printed.{query_lines}
use Rattle.edit_script.specs.Verdict.{Refused, Accepted, refused_or, query_refusal}
use Rattle.script_runner.specs.Entries.{judged}
use Rattle.script_runner.specs.Going.{IsAbreast, IsPreparedFor, MayHandle, at, query_verdict}
use Rattle.script_runner.proofs.Handled.{short-begun, short-recorded, lines-written, lines-unwritten, handles-counted, lines-few, unanswered-as, has-answer}
use Rattle.script_runner.proofs.Sends.{may-handle}
use Rattle.script_runner.proofs.runner.Runner.answer.Goals as goal

-- the verdict on a query that isn't refused
accepted : (h mid : History) (query : Query) → mid ≡ h → query_refusal (present_of mid) query ≡ None
    → refused_or (Ask query) (query_refusal (present_of h) query) ≡ Accepted (Ask query)
accepted h mid query same none =
    let N : History → Type 0 = λ h. query_refusal (present_of h) query ≡ None in ap (refused_or (Ask query)) (subst N same none)

-- what may be taken
may : (owner : Owner) (query : Query) → IsAbreast owner → IsPreparedFor (query_verdict owner.display query) owner.display
    → MayHandle owner.crew.workers owner.display (query_verdict owner.display query)
may owner query abreast prepared = may-handle owner (query_verdict owner.display query) abreast prepared

-- the view refuses what the display refuses
here : (h mid : History) (query : Query) (fault : Fault) (refusal : Refusal) → mid ≡ h → IsUnanswered (present_of mid) query fault → fault ≡ faults.Refused refusal
    → query_refusal (present_of h) query ≡ Some refusal
here h mid query fault refusal same why is =
    ap (λ (h : History). query_refusal (present_of h) query) (sym same) ∙ unanswered-as (present_of mid) query fault refusal why is

pub answer-requires : goal.answer-requires
answer-requires g c =
    let P : History → Type 0 = λ h. 1 ≤ versions_of h.events in
    has-answer (versions_of c.in_ok-view.view.events) c.args.query.now (subst P (sym c.in_ok-view.ensures) c.requires.abreast.shown.published)

pub write_answer-requires : goal.write_answer-requires
write_answer-requires g c =
    let few = lines-few (present_of c.in_ok-view.view) (versions_of c.in_ok-view.view.events) c.args.query.now in
    let rows = c.row_count-rows.ensures in
    let are = ap length c.in-Ok.ensures.answered in
    omega arith

pub returns-in_err-view-clause-handled : goal.returns-in_err-view-clause-handled
returns-in_err-view-clause-handled g c =
    short-begun c.args.self.now.owner.crew.workers c.args.number c.args.self.now.owner.display (g.K.Sink.state c.args.self.now.out.now) c.requires.abreast.room
    (query_verdict c.args.self.now.owner.display c.args.query.now) c.from_residual.result c.from_residual.ensures.1

pub returns-in_err-record_line-in-Ok-clause-handled : goal.returns-in_err-record_line-in-Ok-clause-handled
returns-in_err-record_line-in-Ok-clause-handled g c =
    short-recorded c.args.self.now.owner.crew.workers c.args.number c.args.self.now.owner.display (g.K.Sink.state c.args.self.now.out.now) c.requires.abreast.room
    (query_verdict c.args.self.now.owner.display c.args.query.now) c.record_line.new.owner.display
    c.from_residual-in_err-record_line-in-Ok.result c.in_err-record_line-in-Ok.field-0.0 c.from_residual-in_err-record_line-in-Ok.ensures.1
    c.in_err-record_line-in-Ok.ensures.unchanged c.in_err-record_line-in-Ok.ensures.why

pub returns-in_err-lines-in-Ok-clause-handled : goal.returns-in_err-lines-in-Ok-clause-handled
returns-in_err-lines-in-Ok-clause-handled g c =
    let are = c.in-Ok.ensures.answered ∙ ap (λ (h : History). query_lines (present_of h) (versions_of h.events) c.args.query.now) c.in_ok-view.ensures in
    lines-unwritten c.args.self.now.owner.crew.workers c.args.number c.args.self.now.owner.display (g.K.Sink.state c.args.self.now.out.now)
    (query_verdict c.args.self.now.owner.display c.args.query.now)
    (may c.args.self.now.owner c.args.query.now c.requires.abreast c.requires.prepared) c.record_line.new.owner.display c.in_ok-record_line-in-Ok.ensures.recorded
    (Ask c.args.query.now) c.in-Ok.lines (g.K.Sink.state c.write_answer.new.out) c.from_residual-in_err-lines-in-Ok.result
    c.in_err-lines-in-Ok.field-0.0 (accepted c.args.self.now.owner.display c.in_ok-view.view c.args.query.now c.in_ok-view.ensures c.in-Ok.ensures.accepted)
    c.from_residual-in_err-lines-in-Ok.ensures.1 (sym are) c.in_err-lines-in-Ok.ensures.stopped

pub returns-in-Ok-clause-handled : goal.returns-in-Ok-clause-handled
returns-in-Ok-clause-handled g c =
    let are = c.in-Ok.ensures.answered ∙ ap (λ (h : History). query_lines (present_of h) (versions_of h.events) c.args.query.now) c.in_ok-view.ensures in
    handles-counted c.args.self.now.owner.crew.workers c.args.number (at c.args.self.now.owner.display (g.K.Sink.state c.args.self.now.out.now))
    (at c.record_line.new.owner.display (g.K.Sink.state c.write_answer.new.out))
    (query_verdict c.args.self.now.owner.display c.args.query.now)
    (length c.in-Ok.lines) c.in_ok-lines-in-Ok.lines (sym c.in_ok-lines-in-Ok.ensures.lines)
    (lines-written c.args.self.now.owner.crew.workers c.args.number c.args.self.now.owner.display (g.K.Sink.state c.args.self.now.out.now)
    (query_verdict c.args.self.now.owner.display c.args.query.now)
    (may c.args.self.now.owner c.args.query.now c.requires.abreast c.requires.prepared) c.record_line.new.owner.display c.in_ok-record_line-in-Ok.ensures.recorded
    (Ask c.args.query.now) c.in-Ok.lines (g.K.Sink.state c.write_answer.new.out)
    (accepted c.args.self.now.owner.display c.in_ok-view.view c.args.query.now c.in_ok-view.ensures c.in-Ok.ensures.accepted) refl (sym are)
    c.in_ok-lines-in-Ok.ensures.written)

pub refuse-requires-clause-unsettled : goal.refuse-requires-clause-unsettled
refuse-requires-clause-unsettled g c =
    let owed = here c.args.self.now.owner.display c.in_ok-view.view c.args.query.now c.in-Err-Refused.field-0 c.in-Err-Refused.refusal c.in_ok-view.ensures
    c.in-Err-Refused.ensures.refused c.in-Err-Refused.field-0-is in
    let P : Option Refusal → Type 0 = λ o. IsPreparedFor (refused_or (Ask c.args.query.now) o) c.args.self.now.owner.display in
    subst P owed c.requires.prepared

pub returns-in-Err-Refused-clause-handled : goal.returns-in-Err-Refused-clause-handled
returns-in-Err-Refused-clause-handled g c course left tally entry same going is =
    let owed = here c.args.self.now.owner.display c.in_ok-view.view c.args.query.now c.in-Err-Refused.field-0 c.in-Err-Refused.refusal c.in_ok-view.ensures
    c.in-Err-Refused.ensures.refused c.in-Err-Refused.field-0-is in
    let refusal = c.in-Err-Refused.refusal-is in
    let verdict : judged (present_of c.args.self.now.owner.display) entry ≡ Refused c.in-Err-Refused.refusal = is ∙ ap (refused_or (Ask c.args.query.now)) owed in
    c.refuse.ensures.handled course left tally entry same going (cc)
