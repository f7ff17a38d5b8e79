-- The words are read first, and then the plan is run.
use Rattle.std.proofs.Common.{◌≡◌, ◌⊎◌, inl, inr, map, Option, Some, None, refl, sym, ap, ◌∙◌, subst}
use Rattle.std.specs.Prelude.{IfSome}
use Rattle.command_line.specs.declared.plan.Plan.{Plan}
use Rattle.command_line.specs.Words.{IsWithinLimits, plan_of}
use Rattle.display_cli.specs.declared.ended.Note.{Note}
use Rattle.display_cli.specs.declared.ended.Note.TheVariants as notes
use Rattle.display_cli.specs.Ended.{Run, run_of, IsEndedAs, IsRefused, IsRun, IsRunOfWords, HasStatus}
use Rattle.display_cli.proofs.Ends.{reads-none}
use Rattle.display_cli.proofs.Headline.{is-run, not-usage, ended-short}
use Rattle.display_cli.proofs.top.run.Goals as goal

none-some : {o : Option Plan} (p : Plan) → o ≡ None → o ≡ Some p → ⊥
none-some p e f = cc

-- a run of a plan that the words have
of-plan : (o : Option Plan) (plan : Plan) (run : Run) → o ≡ Some plan → HasStatus run.note run.status → IsRun run plan → IsRunOfWords o run
of-plan o plan run e status it =
    let P : Option Plan → Type 0 = λ o. IfSome o (IsRun run) in
    record {
      status = status;
      usage = λ u. absurd (not-usage plan run run.note it.outcome u);
      unread = λ none. absurd (none-some plan none e);
      nothing = λ none. absurd (none-some plan none e);
      planned = subst P (sym e) it;
    }

-- a run of words without a reading
of-none : (o : Option Plan) (run : Run) → o ≡ None → HasStatus run.note run.status → (run.note ≡ notes.Usage) ⊎ (run.note ≡ notes.Memory) → IsRefused run
    → IsRunOfWords o run
of-none o run e status how refused =
    let P : Option Plan → Type 0 = λ o. IfSome o (IsRun run) in
    record { status = status; usage = λ u. e; unread = λ none. how; nothing = λ none. refused; planned = subst P (sym e) tt }

-- there was no memory for the reading
of-short : (o : Option Plan) (run : Run) → HasStatus run.note run.status → run.note ≡ notes.Memory → IsRefused run
    → ((plan : Plan) → IsRun run plan) → IsRunOfWords o run
of-short None run status is refused it = of-none None run refl status (inr is) refused
of-short (Some plan) run status is refused it = of-plan (Some plan) plan run refl status (it plan)

pub run_plan-requires-clause-limits : goal.run_plan-requires-clause-limits
run_plan-requires-clause-limits g c κs live =
    let P : Option Plan → Type 0 = λ o. IfSome o IsWithinLimits in subst P c.in-Ok-Some.field-0-is c.in-Ok-Some.ensures.lawful

pub returns-in-Ok-Some-clause-run : goal.returns-in-Ok-Some-clause-run
returns-in-Ok-Some-clause-run g c =
    let known : plan_of c.args.words.now ≡ Some c.in-Ok-Some.plan = sym c.in-Ok-Some.ensures.read ∙ c.in-Ok-Some.field-0-is in
    let run : Run = run_of (g.I.Inputs.state c.args.inputs.now) (g.I.Inputs.state c.run_plan.new.inputs) (g.K.Sink.state c.args.out.now) (g.K.Sink.state c.run_plan.new.out) c.run_plan.result in
    of-plan (plan_of c.args.words.now) c.in-Ok-Some.plan run known c.run_plan.ensures.status (is-run c.in-Ok-Some.plan run c.run_plan.ensures.ended c.run_plan.ensures.reads c.run_plan.ensures.passed)

pub returns-in-Ok-Some-clause-untouched : goal.returns-in-Ok-Some-clause-untouched
returns-in-Ok-Some-clause-untouched g c none =
    let known : plan_of c.args.words.now ≡ Some c.in-Ok-Some.plan = sym c.in-Ok-Some.ensures.read ∙ c.in-Ok-Some.field-0-is in
    absurd (none-some c.in-Ok-Some.plan none known)

pub returns-in-Ok-None : goal.returns-in-Ok-None
returns-in-Ok-None g c =
    let known : plan_of c.args.words.now ≡ None = sym c.in-Ok-None.ensures.read ∙ c.in-Ok-None.field-0-is in
    let S : Note → Type 0 = λ n. HasStatus n c.nothing.result.status in
    let run : Run = run_of (g.I.Inputs.state c.args.inputs.now) (g.I.Inputs.state c.args.inputs.now) (g.K.Sink.state c.args.out.now) (g.K.Sink.state c.args.out.now) c.nothing.result in
    record {
      run = of-none (plan_of c.args.words.now) run known (subst S (sym c.nothing.ensures.note) c.nothing.ensures.status) (inl c.nothing.ensures.note)
          (record { history = c.nothing.ensures.history; watched = ap (map (λ w. w.seen.items)) c.nothing.ensures.watched; sink = refl });
      untouched = λ none. (refl, refl);
    }

pub returns-in-Err : goal.returns-in-Err
returns-in-Err g c =
    let run : Run = run_of (g.I.Inputs.state c.args.inputs.now) (g.I.Inputs.state c.args.inputs.now) (g.K.Sink.state c.args.out.now) (g.K.Sink.state c.args.out.now) c.nothing-in-Err.result in
    let S : Note → Type 0 = λ n. HasStatus n c.nothing-in-Err.result.status in
    let refused : IsRefused run = record {
      history = c.nothing-in-Err.ensures.history;
      watched = ap (map (λ w. w.seen.items)) c.nothing-in-Err.ensures.watched;
      sink = refl;
    } in
    record {
      run = of-short (plan_of c.args.words.now) run (subst S (sym c.nothing-in-Err.ensures.note) c.nothing-in-Err.ensures.status) c.nothing-in-Err.ensures.note refused
          (λ plan.
          (let P : Note → Type 0 = IsEndedAs plan run in
          is-run plan run (subst P (sym c.nothing-in-Err.ensures.note) (ended-short plan run refused refl)) (reads-none plan run.note (g.I.Inputs.state c.args.inputs.now)) (λ text script. refl)));
      untouched = λ none. (refl, refl);
    }
