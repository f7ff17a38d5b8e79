-- What a display publishes first may open a row.
use Rattle.std.proofs.Common.{false, sym, subst, ap, ◌∙◌}
use Rattle.display_map.specs.Replay.{versions_of}
use Rattle.version_board.specs.Rows.{IsFirst}
use Rattle.version_board.proofs.RowLemmas.{may_open}
use Rattle.live_display.proofs.opening.publish_first.Goals as goal

pub board-requires-clause-first : goal.board-requires-clause-first
board-requires-clause-first g c =
    subst IsFirst (sym (c.in_ok-first.ensures.version ∙ c.in_ok-first.ensures.published)) (may_open c.args.display.now false (ap versions_of c.requires.events))
