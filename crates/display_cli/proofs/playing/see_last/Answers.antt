-- What the watchers of the board saw last.
use Rattle.std.specs.Prelude.{Option}
use Rattle.std.proofs.Common.{subst}
use Rattle.version_board.specs.Known.{Known}
use Rattle.board_watch.specs.Watching.{Watching}
use Rattle.display_cli.specs.inside.Left.{AreBoards, board_of, boards_of}
use Rattle.display_cli.proofs.Opened.{boards-all}
use Rattle.display_cli.proofs.Watches.{see-last}
use Rattle.display_cli.proofs.playing.see_last.Goals as goal

pub end_all-requires : goal.end_all-requires
end_all-requires c =
    let P : Option Known → Type 0 = λ o. AreBoards (board_of o) (boards_of c.args.team.items) in
    boards-all (λ (w : Watching). w.known.board) c.in-Some.writer.board c.args.team.items (subst P c.in-Some.is c.requires)

pub returns-in-Some-clause-seen : goal.returns-in-Some-clause-seen
returns-in-Some-clause-seen c = see-last c.args.writer.now c.in-Some.writer c.end_all.result c.in-Some.is c.end_all.ensures.seen
