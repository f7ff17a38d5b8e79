-- What it came to, and what is said of it.
use Rattle.std.proofs.Common.{subst}
use Rattle.display_cli.specs.declared.ended.Note.{Note}
use Rattle.display_cli.specs.Ended.{Says}
use Rattle.display_cli.proofs.Ends.{says}
use Rattle.split_cli.proofs.entry.program.Goals as goal

pub returns : goal.returns
returns g c =
    let S : Note → Type 0 = λ note. Says note (g.E.Sink.state c.args.err.now) (g.E.Sink.state c.say.new.out) in
    record {
      topped = c.top-topped.result;
      end = c.top-topped.ensures.end;
      said = subst S c.note-note.ensures (says c.note-note.result (g.E.Sink.state c.args.err.now) (g.E.Sink.state c.say.new.out) c.say.result
          c.say.ensures.ok c.say.ensures.front c.say.ensures.failed);
      status_is = c.status.ensures;
    }
