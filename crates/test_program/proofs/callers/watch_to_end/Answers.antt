use Rattle.std.proofs.Common.{◌≡◌}
use Rattle.version_board.specs.Known.{Known}
use Rattle.test_program.proofs.Watched.{of_readers}
use Rattle.test_program.proofs.callers.watch_to_end.Goals as goal

pub end_board-requires-clause-team : goal.end_board-requires-clause-team
end_board-requires-clause-team g c = of_readers (λ (k : Known). k.board ≡ c.args.writer.now.board) _ _ c.in_ok-team.ensures.known c.requires.readers
