-- A plan of names ends where its text or its script isn't read, or with the run of its script.
use Rattle.std.proofs.Common.{ℕ, List, Option, length, map, refl, sym, subst, ap, ◌∙◌}
use Rattle.cell_units.specs.declared.limits.TheConstants.{TEXT_LIMIT}
use Rattle.command_line.specs.declared.plan.Plan.{Plan}
use Rattle.display_cli.specs.declared.limits.TheConstants.{SCRIPT_LIMIT}
use Rattle.display_cli.specs.declared.ended.Note.{Note}
use Rattle.script_runner.specs.declared.outside.Part.TheVariants as parts
use Rattle.script_runner.specs.Outside.{InputState, count_between}
use Rattle.display_cli.specs.Ended.{Run, IsEndedAs, HasStatus, ends_at_text, run_of}
use Rattle.display_cli.specs.inside.Opening.{IsOpenedOn, IsScript, IsTextUnread}
use Rattle.display_cli.proofs.Ends.{named-text, named-script, reads-text, reads-both, script-passed, text-passed, unread-behind}
use Rattle.display_cli.proofs.Headline.{ended-unopened, ended-unread, ended-run, run-behind}
use Rattle.display_cli.proofs.NameRead.{script-counted, text-counted}
use Rattle.display_cli.proofs.top.run_named.Goals as goal

pub run_script-requires-clause-events : goal.run_script-requires-clause-events
run_script-requires-clause-events g c κs live = ap (λ h. h.events) c.in-Ok.ensures.opened.3

pub returns-in-Err : goal.returns-in-Err
returns-in-Err g c =
    let plan : Plan = c.args.plan.now in
    let before : InputState = g.I.Inputs.state c.args.inputs.now in
    let behind : InputState = g.I.Inputs.state c.open_text.new.inputs in
    let run : Run = run_of before behind (g.K.Sink.state c.args.out.now) (g.K.Sink.state c.args.out.now) c.nothing.result in
    let P : Note → Type 0 = IsEndedAs plan run in
    let S : Note → Type 0 = λ n. HasStatus n c.nothing.result.status in
    let T : Option (List ℕ) → Type 0 = λ told. IsTextUnread told before.faults behind.faults c.in-Err.note in
    record {
      status = subst S (sym c.nothing.ensures.note) c.nothing.ensures.status;
      ended = subst P (sym c.nothing.ensures.note) (ended-unopened plan run c.in-Err.note (λ _. c.requires.named) (record {
        history = c.nothing.ensures.history;
        watched = ap (map (λ w. w.seen.items)) c.nothing.ensures.watched;
        sink = refl;
      }) (subst T (named-text plan before c.requires.named) c.in-Err.ensures.refused));
      reads = reads-text plan c.nothing.result.note before behind c.requires.named c.open_text.ensures.reads;
      passed = λ text script. text-passed (before.told plan.text) before.faults behind.faults c.in-Err.note c.in-Err.ensures.refused
          (λ e. text (c.nothing.ensures.note ∙ e));
    }

pub returns-in-Err-read_script : goal.returns-in-Err-read_script
returns-in-Err-read_script g c =
    let plan : Plan = c.args.plan.now in
    let before : InputState = g.I.Inputs.state c.args.inputs.now in
    let between : InputState = g.I.Inputs.state c.open_text.new.inputs in
    let behind : InputState = g.I.Inputs.state c.read_script.new.inputs in
    let run : Run = run_of before behind (g.K.Sink.state c.args.out.now) (g.K.Sink.state c.args.out.now) c.nothing-in-Err-read_script.result in
    let P : Note → Type 0 = IsEndedAs plan run in
    let S : Note → Type 0 = λ n. HasStatus n c.nothing-in-Err-read_script.result.status in
    let count : ℕ = count_between parts.Text before between in
    let O : Option (List ℕ) → Type 0 = λ told. IsOpenedOn told count c.in-Ok.display in
    record {
      status = subst S (sym c.nothing-in-Err-read_script.ensures.note) c.nothing-in-Err-read_script.ensures.status;
      ended = subst P (sym c.nothing-in-Err-read_script.ensures.note) (ended-unread plan run c.in-Err-read_script.note
          (between.told plan.script) between.faults count c.in-Ok.display c.requires.named (record {
            history = c.nothing-in-Err-read_script.ensures.history;
            watched = ap (map (λ w. w.seen.items)) c.nothing-in-Err-read_script.ensures.watched;
            sink = refl;
          }) (subst O (named-text plan before c.requires.named) c.in-Ok.ensures.opened)
          (c.open_text.ensures.reads.tells plan.script ∙ named-script plan before c.requires.named) c.in-Ok.ensures.passed c.in-Err-read_script.ensures.refused);
      reads = reads-both plan c.nothing-in-Err-read_script.result.note before between behind c.requires.named
          (ap ends_at_text c.nothing-in-Err-read_script.ensures.note
          ∙ unread-behind (between.told plan.script) between.faults behind.faults c.in-Err-read_script.note c.in-Err-read_script.ensures.refused)
          c.open_text.ensures.reads c.read_script.ensures.reads;
      passed = λ text script. script-passed (between.told plan.script) between.faults behind.faults c.in-Err-read_script.note c.in-Err-read_script.ensures.refused
          (λ e. script (c.nothing-in-Err-read_script.ensures.note ∙ e)) ∙ c.in-Ok.ensures.passed;
    }

pub returns-in-Ok-read_script : goal.returns-in-Ok-read_script
returns-in-Ok-read_script g c =
    let plan : Plan = c.args.plan.now in
    let before : InputState = g.I.Inputs.state c.args.inputs.now in
    let between : InputState = g.I.Inputs.state c.open_text.new.inputs in
    let behind : InputState = g.I.Inputs.state c.read_script.new.inputs in
    let run : Run = run_of before behind (g.K.Sink.state c.args.out.now) (g.K.Sink.state c.run_script.new.out) c.run_script.result in
    let S : List ℕ → Type 0 = λ script. IsScript (between.told plan.script) script in
    let count : ℕ = count_between parts.Text before between in
    let O : Option (List ℕ) → Type 0 = λ told. IsOpenedOn told count c.in-Ok.display in
    record {
      status = c.run_script.ensures.status;
      ended = ended-run plan run c.run_script.result.note (between.told plan.script) count c.in-Ok.display c.as_slice.result.now
          (subst O (named-text plan before c.requires.named) c.in-Ok.ensures.opened)
          (c.open_text.ensures.reads.tells plan.script ∙ named-script plan before c.requires.named)
          (subst S (sym c.as_slice.ensures.value) c.in-Ok-read_script.ensures.read)
          (λ _. sym (text-counted plan.text plan.script TEXT_LIMIT SCRIPT_LIMIT before between behind c.open_text.ensures.reads c.read_script.ensures.reads))
          (λ _. ap length c.as_slice.ensures.value ∙ (c.in-Ok-read_script.ensures.counted
          ∙ sym (script-counted plan.text plan.script TEXT_LIMIT SCRIPT_LIMIT before between behind c.open_text.ensures.reads c.read_script.ensures.reads)))
          (c.in-Ok-read_script.ensures.passed ∙ c.in-Ok.ensures.passed)
          c.run_script.ensures.lawful c.run_script.ensures.run;
      reads = reads-both plan c.run_script.result.note before between behind c.requires.named
          (run-behind plan.make _ c.run_script.result.status c.run_script.result.history (g.K.Sink.state c.run_script.new.out) _ c.run_script.result.note
          c.run_script.ensures.run) c.open_text.ensures.reads c.read_script.ensures.reads;
      passed = λ text script. c.in-Ok-read_script.ensures.passed ∙ c.in-Ok.ensures.passed;
    }
