use Rattle.std.proofs.Common.{sym, subst}
use Rattle.tab_map.specs.TabLines.{lines_at}
use Rattle.wrapped_lines.specs.WrappedSource.{HaveRoom, WrappedSource}
use Rattle.wrapped_lines.proofs.lines.WrappedLines.after.Goals as goal

pub followed-requires-clause-room : goal.followed-requires-clause-room
followed-requires-clause-room g c κs within =
    subst (λ (w : WrappedSource). HaveRoom (lines_at (g.L.Layer.source c.args.layer) w.tab)) (sym c.self.view_is) c.requires.room
