use Rattle.std.proofs.Common.{ap, arith}
use Rattle.std.specs.Option.{option_copied}
use Rattle.fold_map.specs.declared.amount.Amount.{Amount}
use Rattle.fold_map.proofs.cut.joined_behind.Goals as goal

pub overflow_add-start : goal.overflow_add-start
overflow_add-start c =
    let fits = c.requires c.in-Some.splice.now (ap option_copied c.in-Some.is) in
    omega (arith, fits, ap (λ (a : Amount). a.buffer) c.gap.ensures)

pub overflow_add-result : goal.overflow_add-result
overflow_add-result c =
    let fits = c.requires c.in-Some.splice.now (ap option_copied c.in-Some.is) in
    omega (arith, fits, ap (λ (a : Amount). a.buffer) c.gap.ensures, ap (λ (a : Amount). a.buffer) c.old.ensures)
