use Rattle.std.proofs.Common.{arith}
use Rattle.splice_tree.proofs.Carried.{up}
use Rattle.splice_tree.proofs.splice_tree.SpliceTree.to_upper.Goals as goal

pub overflow_cast-result : goal.overflow_cast-result
overflow_cast-result g c =
    let f = c.find_lower-found in
    let is : _ = up g.S.Summary.empty g.S.Summary.joined g.M.Measure.number g.met.M.Count.count_laws c.args.bias c.args.self.now f.result.index c.args.place c.carry_up-within.result
    c.of.result c.of-start.result f.result.before f.result.splice f.ensures.first f.ensures.before f.ensures.splice c.of.ensures c.of-start.ensures c.carry_up-within.ensures.place in
    omega (arith, is)

pub returns-clause-place : goal.returns-clause-place
returns-clause-place g c =
    let f = c.find_lower-found in
    up g.S.Summary.empty g.S.Summary.joined g.M.Measure.number g.met.M.Count.count_laws c.args.bias c.args.self.now f.result.index c.args.place c.carry_up-within.result
    c.of.result c.of-start.result f.result.before f.result.splice f.ensures.first f.ensures.before f.ensures.splice c.of.ensures c.of-start.ensures c.carry_up-within.ensures.place
