-- The runner plays the script, and its histories are those of the journals.
use Rattle.std.proofs.Common.{map, ap, ◌∙◌, rules}
use Rattle.script_runner.specs.Entries.{script_lines}
use Rattle.script_runner.specs.Legal.{history_of}
use Rattle.split_runner.specs.Going.{IsPlayed, course_of}
use Rattle.split_runner.proofs.PlayHandled.{played-again, played-of}
use Rattle.split_runner.proofs.playing.play.Goals as goal

pub run_script-refused-requires-clause-started : goal.run_script-refused-requires-clause-started
run_script-refused-requires-clause-started g c = (
  c.requires.fresh.0,
  c.requires.fresh.1,
  record {
    histories = c.requires.fresh.2;
    past = c.new-undo.ensures.past;
    future = c.new-undo.ensures.future;
    line = c.new-undo.ensures.line c.requires.fresh.0;
  },
)

pub returns : goal.returns
returns g c = λ text views same.
    (let lines = script_lines c.args.script.now in
    let course = course_of text views lines (g.K.Sink.state c.args.out.now) in
    let sink = g.K.Sink.state c.run_script-refused.new.self.out.now in
    let hs = c.run_script-refused.new.self.split in
    let it : IsPlayed course hs sink c.run_script-refused.result =
    c.run_script-refused.ensures.played text views (record {
      histories = same;
      past = c.new-undo.ensures.past;
      future = c.new-undo.ensures.future;
      line = c.new-undo.ensures.line text;
    }) in
    let again = ap (map (history_of text)) c.into_journals.ensures ∙ played-again course hs sink c.run_script-refused.result it in
    played-of course hs (map (history_of text) c.into_journals.result.items) sink _ c.run_script-refused.result it again
    (ap g.K.Sink.state (search rules)))
