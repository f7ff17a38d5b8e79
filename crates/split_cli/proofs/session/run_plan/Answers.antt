-- A session ends where its text or its script isn't read, or as its script was played.
use Rattle.std.proofs.Common.{ℕ, List, Option, length, refl, sym, subst, ap, ◌∙◌}
use Rattle.cell_units.specs.declared.limits.TheConstants.{TEXT_LIMIT}
use Rattle.command_line.specs.declared.plan.Plan.{Plan}
use Rattle.display_cli.specs.declared.limits.TheConstants.{SCRIPT_LIMIT}
use Rattle.display_cli.specs.declared.ended.Note.{Note}
use Rattle.display_cli.specs.Ended.{HasStatus, ends_at_text}
use Rattle.display_cli.specs.inside.Opening.{IsScript, IsTextUnread}
use Rattle.display_cli.proofs.Ends.{named-script, named-text, reads-both, reads-text, script-passed, text-passed, unread-behind}
use Rattle.display_cli.proofs.NameRead.{script-counted, text-counted}
use Rattle.script_runner.specs.declared.outside.Part.TheVariants as parts
use Rattle.script_runner.specs.Entries.{script_lines}
use Rattle.split_runner.specs.Going.{course_of}
use Rattle.script_runner.specs.Outside.{InputState, count_between}
use Rattle.split_cli.specs.Closed.{IsClosedAs, Session, session_of}
use Rattle.split_cli.specs.inside.Opening.{AreOpenedOn}
use Rattle.split_cli.proofs.Sessions.{close-behind, closed-run, closed-unopened, closed-unread, fresh-views, played-as}
use Rattle.split_cli.proofs.session.run_plan.Goals as goal

pub play-requires-clause-fresh : goal.play-requires-clause-fresh
play-requires-clause-fresh g c = fresh-views _ _ c.args.plan.now.views c.in-Ok.split c.in-Ok.ensures.opened

pub returns-in-Err : goal.returns-in-Err
returns-in-Err g c =
    let plan : Plan = c.args.plan.now.plan in
    let before : InputState = g.I.Inputs.state c.args.inputs.now in
    let after : InputState = g.I.Inputs.state c.open_text.new.inputs in
    let session : Session = session_of before after (g.K.Sink.state c.args.out.now) (g.K.Sink.state c.args.out.now) c.nothing.result in
    let P : Note → Type 0 = IsClosedAs c.args.plan.now session in
    let S : Note → Type 0 = λ n. HasStatus n c.nothing.result.status in
    let T : Option (List ℕ) → Type 0 = λ told. IsTextUnread told before.faults after.faults c.in-Err.note in
    record {
      status = subst S (sym c.nothing.ensures.note) c.nothing.ensures.status;
      closed = subst P (sym c.nothing.ensures.note) (closed-unopened c.args.plan.now session c.in-Err.note c.requires.named
          (record { histories = c.nothing.ensures.histories; sink = refl })
          (subst T (named-text plan before c.requires.named) c.in-Err.ensures.refused));
      reads = reads-text plan c.nothing.result.note before after c.requires.named c.open_text.ensures.reads;
      passed = λ text script. text-passed (before.told plan.text) before.faults after.faults c.in-Err.note c.in-Err.ensures.refused
          (λ e. text (c.nothing.ensures.note ∙ e));
    }

pub returns-in-Err-read_script : goal.returns-in-Err-read_script
returns-in-Err-read_script g c =
    let plan : Plan = c.args.plan.now.plan in
    let before : InputState = g.I.Inputs.state c.args.inputs.now in
    let between : InputState = g.I.Inputs.state c.open_text.new.inputs in
    let after : InputState = g.I.Inputs.state c.read_script.new.inputs in
    let session : Session =
    session_of before after (g.K.Sink.state c.args.out.now) (g.K.Sink.state c.args.out.now) c.nothing-in-Err-read_script.result in
    let P : Note → Type 0 = IsClosedAs c.args.plan.now session in
    let S : Note → Type 0 = λ n. HasStatus n c.nothing-in-Err-read_script.result.status in
    let count : ℕ = count_between parts.Text before between in
    let O : Option (List ℕ) → Type 0 = λ told. AreOpenedOn told count c.args.plan.now.views c.in-Ok.split in
    record {
      status = subst S (sym c.nothing-in-Err-read_script.ensures.note) c.nothing-in-Err-read_script.ensures.status;
      closed = subst P (sym c.nothing-in-Err-read_script.ensures.note) (closed-unread c.args.plan.now session c.in-Err-read_script.note
          (between.told plan.script) between.faults count c.in-Ok.split c.requires.named
          (record { histories = c.nothing-in-Err-read_script.ensures.histories; sink = refl })
          (subst O (named-text plan before c.requires.named) c.in-Ok.ensures.opened)
          (c.open_text.ensures.reads.tells plan.script ∙ named-script plan before c.requires.named) c.in-Ok.ensures.passed
          c.in-Err-read_script.ensures.refused);
      reads = reads-both plan c.nothing-in-Err-read_script.result.note before between after c.requires.named
          (ap ends_at_text c.nothing-in-Err-read_script.ensures.note
          ∙ unread-behind (between.told plan.script) between.faults after.faults c.in-Err-read_script.note c.in-Err-read_script.ensures.refused)
          c.open_text.ensures.reads c.read_script.ensures.reads;
      passed = λ text script. script-passed (between.told plan.script) between.faults after.faults c.in-Err-read_script.note
          c.in-Err-read_script.ensures.refused (λ e. script (c.nothing-in-Err-read_script.ensures.note ∙ e)) ∙ c.in-Ok.ensures.passed;
    }

pub returns-in-Ok-read_script : goal.returns-in-Ok-read_script
returns-in-Ok-read_script g c =
    let plan : Plan = c.args.plan.now.plan in
    let before : InputState = g.I.Inputs.state c.args.inputs.now in
    let between : InputState = g.I.Inputs.state c.open_text.new.inputs in
    let after : InputState = g.I.Inputs.state c.read_script.new.inputs in
    let session : Session = session_of before after (g.K.Sink.state c.args.out.now) (g.K.Sink.state c.play.new.out) c.closed_as.result in
    let S : List ℕ → Type 0 = λ script. IsScript (between.told plan.script) script in
    let count : ℕ = count_between parts.Text before between in
    let O : Option (List ℕ) → Type 0 = λ told. AreOpenedOn told count c.args.plan.now.views c.in-Ok.split in
    record {
      status = c.closed_as.ensures.status;
      closed = closed-run c.args.plan.now session c.play.result.refused c.closed_as.result.note (between.told plan.script) count c.in-Ok.split
          c.as_slice.result.now
          (subst O (named-text plan before c.requires.named) c.in-Ok.ensures.opened)
          (c.open_text.ensures.reads.tells plan.script ∙ named-script plan before c.requires.named)
          (subst S (sym c.as_slice.ensures.value) c.in-Ok-read_script.ensures.read)
          (sym (text-counted plan.text plan.script TEXT_LIMIT SCRIPT_LIMIT before between after c.open_text.ensures.reads c.read_script.ensures.reads))
          (ap length c.as_slice.ensures.value ∙ (c.in-Ok-read_script.ensures.counted
          ∙ sym (script-counted plan.text plan.script TEXT_LIMIT SCRIPT_LIMIT before between after c.open_text.ensures.reads c.read_script.ensures.reads)))
          (c.in-Ok-read_script.ensures.passed ∙ c.in-Ok.ensures.passed) c.closed_as.ensures.note
          (λ text views fresh. played-as (course_of text views (script_lines c.as_slice.result.now) session.sink) text c.play.result.histories
          c.closed_as.result.histories session.sink_after c.play.result.refused c.closed_as.ensures.histories (c.play.ensures text views fresh));
      reads = reads-both plan c.closed_as.result.note before between after c.requires.named
          (close-behind c.play.result.refused c.closed_as.result.status c.closed_as.result.note c.closed_as.ensures.note)
          c.open_text.ensures.reads c.read_script.ensures.reads;
      passed = λ text script. c.in-Ok-read_script.ensures.passed ∙ c.in-Ok.ensures.passed;
    }
