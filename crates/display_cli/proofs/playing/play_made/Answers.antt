-- The answers went nowhere, and then the summary was written.
use Rattle.std.proofs.Common.{◌≡◌, vec_len}
use Rattle.display_cli.proofs.Made.{left-made, on-ok-same}
use Rattle.display_cli.specs.Telling.{bytes_told}
use Rattle.display_cli.proofs.playing.play_made.Goals as goal

pub returns-clause-left : goal.returns-clause-left
returns-clause-left g c number =
    left-made number c.args.script.now c.args.opened.owner (g.K.Sink.state c.args.out.now) (g.K.Sink.state c.report-played.new.out)
    (bytes_told c.new-nowhere.result.told) (bytes_told c.play_opened-left.new.out.told) c.play_opened-left.result.0 c.report-played.result
    c.play_opened-left.ensures.left c.report-played.ensures.reports c.report-played.ensures.same

pub returns-clause-team : goal.returns-clause-team
returns-clause-team g c = record {
  boards = c.play_opened-left.ensures.team.boards;
  few = c.play_opened-left.ensures.team.few;
  all = on-ok-same c.report-played.result c.play_opened-left.result.0.played (vec_len c.play_opened-left.result.1 ≡ vec_len c.args.opened.readers) c.report-played.ensures.same
      c.play_opened-left.ensures.team.all;
}
