use Rattle.test_trees.proofs.Tabbed.{fits}
use Rattle.test_trees.proofs.callers.a_tab_size_makes_all_lines_anew.Goals as goal

pub retabbed-requires-clause-fits : goal.retabbed-requires-clause-fits
retabbed-requires-clause-fits g c = λ d. fits _ c.in_ok-rope.ensures
