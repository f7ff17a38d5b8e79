use Rattle.std.proofs.Common.{◌↔◌, IsTrue, subst, sym}
use Rattle.cell_units.specs.Layers.{Source}
use Rattle.cell_units.specs.Text.{IsBoundary}
use Rattle.text_rope.specs.Ropes.{HasHeight}
use Rattle.inlay_map.proofs.inlaid.Inlaid.is_boundary.Goals as goal

pub returns-clause-test : goal.returns-clause-test
returns-clause-test c = subst (λ (s : Source). IsTrue c.is_boundary.result ↔ IsBoundary s.text c.args.offset) c.self.view_is c.is_boundary.ensures.test

pub returns-clause-steps : goal.returns-clause-steps
returns-clause-steps c h high = c.is_boundary.ensures.steps h (subst (λ (s : Source). HasHeight h s.text) (sym c.self.view_is) high)
