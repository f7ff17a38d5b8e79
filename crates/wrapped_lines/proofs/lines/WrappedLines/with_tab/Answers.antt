use Rattle.wrapped_lines.proofs.lines.WrappedLines.with_tab.Goals as goal

pub retabbed-requires-clause-room : goal.retabbed-requires-clause-room
retabbed-requires-clause-room g c κs within = c.requires.room (c.is_tab.ensures.0 c.if-not-is_tab.false)
