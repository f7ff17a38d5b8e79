-- A made text is started and its script run, or there was no memory.
use Rattle.std.proofs.Common.{◌≡◌, ℕ, List, Option, Some, length, map, refl, sym, ap, ◌∙◌, subst, arith}
use Rattle.command_line.specs.declared.plan.Plan.{Plan}
use Rattle.display_cli.specs.declared.ended.Note.{Note}
use Rattle.script_runner.specs.Outside.{AreTold}
use Rattle.display_cli.specs.Ended.{Run, IsEndedAs, HasStatus, run_of, script_of, text_of}
use Rattle.display_cli.specs.inside.Opening.{IsOpenedOn}
use Rattle.display_cli.proofs.Headline.{ended-run, ended-short}
use Rattle.display_cli.proofs.Made.{ended-unstarted, made-named, made-script, made-text}
use Rattle.display_cli.proofs.top.run_made.Goals as goal

pub run_script-requires-clause-events : goal.run_script-requires-clause-events
run_script-requires-clause-events g c κs live = ap (λ h. h.events) c.in-Ok-start.ensures.started.3

pub returns-in-Err : goal.returns-in-Err
returns-in-Err g c =
    let S : Note → Type 0 = λ n. HasStatus n c.nothing.result.status in
    record {
      status = subst S (sym c.nothing.ensures.note) c.nothing.ensures.status;
      ended = λ inputs.
          (let run : Run = run_of inputs inputs (g.K.Sink.state c.args.out.now) (g.K.Sink.state c.args.out.now) c.nothing.result in
          let P : Note → Type 0 = IsEndedAs c.args.plan.now run in
          subst P (sym c.nothing.ensures.note) (ended-short c.args.plan.now run
          (record { history = c.nothing.ensures.history; watched = ap (map (λ w. w.seen.items)) c.nothing.ensures.watched; sink = refl }) refl));
    }

pub returns : goal.returns
returns g c =
    let plan : Plan = c.args.plan.now in
    let text : List ℕ = c.as_slice.result.now in
    let S : Note → Type 0 = λ n. HasStatus n c.nothing-in-Err-start.result.status in
    record {
      status = subst S (sym c.nothing-in-Err-start.ensures.note) c.nothing-in-Err-start.ensures.status;
      ended = λ inputs.
          (let run : Run = run_of inputs inputs (g.K.Sink.state c.args.out.now) (g.K.Sink.state c.args.out.now) c.nothing-in-Err-start.result in
          let P : Note → Type 0 = IsEndedAs plan run in
          let is : text_of plan inputs ≡ Some text =
          made-text plan inputs c.args.number c.requires.made ∙ ap Some (sym (c.as_slice.ensures.value ∙ c.in-Ok.ensures.made.0)) in
          subst P (sym c.nothing-in-Err-start.ensures.note) (ended-unstarted plan run c.in-Err-start.note text is refl
          (record { history = c.nothing-in-Err-start.ensures.history; watched = ap (map (λ w. w.seen.items)) c.nothing-in-Err-start.ensures.watched; sink = refl })
          c.in-Err-start.ensures.refused));
    }

pub returns-in-Ok-start : goal.returns-in-Ok-start
returns-in-Ok-start g c =
    let plan : Plan = c.args.plan.now in
    let text : List ℕ = c.as_slice.result.now in
    let script : List ℕ = c.as_slice-in-Ok-start.result.now in
    record {
      status = c.run_script.ensures.status;
      ended = λ inputs.
          (let run : Run = run_of inputs inputs (g.K.Sink.state c.args.out.now) (g.K.Sink.state c.run_script.new.out) c.run_script.result in
          let O : Option (List ℕ) → Type 0 = λ told. IsOpenedOn told (length text) c.in-Ok-start.display in
          let is : text_of plan inputs ≡ Some text =
          made-text plan inputs c.args.number c.requires.made ∙ ap Some (sym (c.as_slice.ensures.value ∙ c.in-Ok.ensures.made.0)) in
          let S : Option (List ℕ) → Type 0 = λ told. AreTold told script in
          let from : script_of plan inputs ≡ Some script =
          made-script plan inputs c.args.number c.requires.made ∙ ap Some (sym (c.as_slice-in-Ok-start.ensures.value ∙ c.in-Ok.ensures.made.1)) in
          let fits = c.in-Ok.ensures.fits.1 in
          let same = ap (λ l. length l) c.as_slice-in-Ok-start.ensures.value in
          ended-run plan run c.run_script.result.note (script_of plan inputs) (length text) c.in-Ok-start.display script
          (subst O (sym is) c.in-Ok-start.ensures.started) refl (subst S (sym from) refl, omega arith)
          (λ named. absurd (made-named plan c.args.number c.requires.made named)) (λ named. absurd (made-named plan c.args.number c.requires.made named)) refl
          c.run_script.ensures.lawful c.run_script.ensures.run);
    }
