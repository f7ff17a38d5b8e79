use Rattle.std.proofs.Common.{◌+◌, ◌-◌, refl, arith}
use Rattle.fold_map.specs.declared.lines.LineStart.{LineStart}
use Rattle.fold_map.proofs.LinesLayer.{start-is}
use Rattle.fold_map.proofs.lines.start_of.Goals as goal

pub overflow_add-below : goal.overflow_add-below
overflow_add-below c =
    let f = c.find_upper-found in
    let at : LineStart = record { index = f.result.index; before = f.result.before; below = f.result.before.lower.feeds + (c.args.line - f.result.before.upper.feeds) } in
    let fits = c.requires at (start-is c.args.splices.now c.args.line at f.ensures.first f.ensures.before refl) in
    omega (arith, fits)

pub returns-clause-start : goal.returns-clause-start
returns-clause-start c =
    let f = c.find_upper-found in
    let at : LineStart = record { index = f.result.index; before = f.result.before; below = f.result.before.lower.feeds + (c.args.line - f.result.before.upper.feeds) } in
    start-is c.args.splices.now c.args.line at f.ensures.first f.ensures.before refl
