-- The words are read first, and then the plan is run.
use Rattle.std.proofs.Common.{◌≡◌, inl, Option, Some, None, map, refl, sym, ◌∙◌, subst}
use Rattle.std.specs.Prelude.{IfSome, string_bytes}
use Rattle.command_line.specs.declared.views.ViewPlan.{ViewPlan}
use Rattle.command_line.specs.ViewWords.{HasViews, view_plan_of}
use Rattle.display_cli.specs.declared.ended.Note.{Note}
use Rattle.display_cli.specs.Ended.{HasStatus}
use Rattle.display_cli.proofs.Ends.{reads-none}
use Rattle.split_cli.specs.Closed.{IsClosedAs, IsUnopened, Session, session_of}
use Rattle.split_cli.proofs.Sessions.{closed-short, is-session, names-alone, none-some, of-none, of-plan, of-short}
use Rattle.split_cli.proofs.session.run_views.Goals as goal

pub run_plan-requires-clause-named : goal.run_plan-requires-clause-named
run_plan-requires-clause-named g c =
    let P : Option ViewPlan → Type 0 = λ o. IfSome o (λ plan. plan.plan.make ≡ None) in
    subst P (sym c.in-Ok-Some.ensures.read ∙ c.in-Ok-Some.field-0-is) (names-alone (map string_bytes c.args.words.now))

pub run_plan-requires-clause-views : goal.run_plan-requires-clause-views
run_plan-requires-clause-views g c =
    let P : Option ViewPlan → Type 0 = λ o. IfSome o HasViews in subst P c.in-Ok-Some.field-0-is c.in-Ok-Some.ensures.views

pub returns-in-Ok-Some-clause-session : goal.returns-in-Ok-Some-clause-session
returns-in-Ok-Some-clause-session g c =
    let known : view_plan_of c.args.words.now ≡ Some c.in-Ok-Some.plan = sym c.in-Ok-Some.ensures.read ∙ c.in-Ok-Some.field-0-is in
    let session : Session = session_of (g.I.Inputs.state c.args.inputs.now) (g.I.Inputs.state c.run_plan.new.inputs)
    (g.K.Sink.state c.args.out.now) (g.K.Sink.state c.run_plan.new.out) c.run_plan.result in
    of-plan (view_plan_of c.args.words.now) c.in-Ok-Some.plan session known c.run_plan.ensures.status
    (is-session c.in-Ok-Some.plan session c.run_plan.ensures.closed c.run_plan.ensures.reads c.run_plan.ensures.passed)

pub returns-in-Ok-Some-clause-untouched : goal.returns-in-Ok-Some-clause-untouched
returns-in-Ok-Some-clause-untouched g c none =
    absurd (none-some c.in-Ok-Some.plan none (sym c.in-Ok-Some.ensures.read ∙ c.in-Ok-Some.field-0-is))

pub returns-in-Ok-None : goal.returns-in-Ok-None
returns-in-Ok-None g c =
    let known : view_plan_of c.args.words.now ≡ None = sym c.in-Ok-None.ensures.read ∙ c.in-Ok-None.field-0-is in
    let S : Note → Type 0 = λ n. HasStatus n c.nothing.result.status in
    let session : Session = session_of (g.I.Inputs.state c.args.inputs.now) (g.I.Inputs.state c.args.inputs.now)
    (g.K.Sink.state c.args.out.now) (g.K.Sink.state c.args.out.now) c.nothing.result in
    record {
      session = of-none (view_plan_of c.args.words.now) session known (subst S (sym c.nothing.ensures.note) c.nothing.ensures.status)
          (inl c.nothing.ensures.note) (record { histories = c.nothing.ensures.histories; sink = refl });
      untouched = λ none. (refl, refl);
    }

pub returns-in-Err : goal.returns-in-Err
returns-in-Err g c =
    let session : Session = session_of (g.I.Inputs.state c.args.inputs.now) (g.I.Inputs.state c.args.inputs.now)
    (g.K.Sink.state c.args.out.now) (g.K.Sink.state c.args.out.now) c.nothing-in-Err.result in
    let S : Note → Type 0 = λ n. HasStatus n c.nothing-in-Err.result.status in
    let unopened : IsUnopened session = record { histories = c.nothing-in-Err.ensures.histories; sink = refl } in
    record {
      session = of-short (view_plan_of c.args.words.now) session (subst S (sym c.nothing-in-Err.ensures.note) c.nothing-in-Err.ensures.status)
          c.nothing-in-Err.ensures.note unopened
          (λ plan.
          (let P : Note → Type 0 = IsClosedAs plan session in
          is-session plan session (subst P (sym c.nothing-in-Err.ensures.note) (closed-short plan session unopened refl))
          (reads-none plan.plan session.note (g.I.Inputs.state c.args.inputs.now)) (λ text script. refl)));
      untouched = λ none. (refl, refl);
    }
