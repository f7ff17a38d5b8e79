use Rattle.std.proofs.Common.{◌∙◌, ap, sym, subst}
use Rattle.cell_units.specs.Layers.{Source}
use Rattle.tab_map.specs.TabLines.{lines_at}
use Rattle.wrapped_lines.specs.WrappedSource.{HaveRoom, WrappedSource}
use Rattle.wrapped_lines.proofs.lines.WrappedLines.retabbed.Goals as goal

pub followed-requires-clause-room : goal.followed-requires-clause-room
followed-requires-clause-room g c κs within =
    subst (λ (s : Source). HaveRoom (lines_at s c.args.tab)) (sym (c.in_ok-layer.ensures ∙ ap (λ (w : WrappedSource). w.source) c.self.view_is)) c.requires.room
