use Rattle.block_map.proofs.TwoSides.{kept-above_taken, kept-below_taken, seen-above_taken, seen-below_taken}
use Rattle.block_map.proofs.block_map.BlockMap.take.Goals as goal

pub invariant_of-self : goal.invariant_of-self
invariant_of-self g c =
    let i = c.self.inside in
    kept-above_taken (g.R.Rows.shown i.rows) i.above i.below c.args.self.now c.self.invariant c.self.view_is c.take.result c.take.new.self c.args.id c.args.side c.requires c.in-Above.is c.take.ensures.ok c.take.ensures.unchanged

pub invariant_of-self-in-Below : goal.invariant_of-self-in-Below
invariant_of-self-in-Below g c =
    let i = c.self.inside in
    kept-below_taken (g.R.Rows.shown i.rows) i.above i.below c.args.self.now c.self.invariant c.self.view_is c.take-in-Below.result c.take-in-Below.new.self c.args.id c.args.side c.requires c.in-Below.is c.take-in-Below.ensures.ok c.take-in-Below.ensures.unchanged

pub returns-in-Above-clause-ok : goal.returns-in-Above-clause-ok
returns-in-Above-clause-ok g c =
    let i = c.self.inside in
    seen-above_taken (g.R.Rows.shown i.rows) i.above i.below c.args.self.now c.self.invariant c.self.view_is c.take.result c.take.new.self c.args.id c.args.side c.requires c.in-Above.is c.take.ensures.ok

pub returns-in-Below-clause-ok : goal.returns-in-Below-clause-ok
returns-in-Below-clause-ok g c =
    let i = c.self.inside in
    seen-below_taken (g.R.Rows.shown i.rows) i.above i.below c.args.self.now c.self.invariant c.self.view_is c.take-in-Below.result c.take-in-Below.new.self c.args.id c.args.side c.requires c.in-Below.is c.take-in-Below.ensures.ok
