use Rattle.std.proofs.Common.{◌∙◌, ap, subst, sym, arith}
use Rattle.cell_units.specs.Layers.{Source}
use Rattle.cell_units.specs.Text.{row_of}
use Rattle.text_rope.specs.Ropes.{HasHeight}
use Rattle.inlay_map.proofs.Measured.{behind-is}
use Rattle.inlay_map.proofs.inlaid.Inlaid.amount_behind.Goals as goal

pub overflow_sub-result-2 : goal.overflow_sub-result-2
overflow_sub-result-2 c =
    (behind-is c.args.self.now.text c.args.before c.args.end c.row_of-row.result c.requires.before c.requires.order (c.row_of-row.ensures.row ∙ ap (λ (s : Source). row_of s.text c.args.end) c.self.view_is)).0

pub returns-clause-amount : goal.returns-clause-amount
returns-clause-amount c =
    (behind-is c.args.self.now.text c.args.before c.args.end c.row_of-row.result c.requires.before c.requires.order (c.row_of-row.ensures.row ∙ ap (λ (s : Source). row_of s.text c.args.end) c.self.view_is)).1

pub returns-clause-steps : goal.returns-clause-steps
returns-clause-steps c h high = omega (arith, c.row_of-row.ensures.steps h (subst (λ (s : Source). HasHeight h s.text) (sym c.self.view_is) high))
