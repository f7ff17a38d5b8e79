use Rattle.std.proofs.Common.{ℕ, List, length, ap, arith}
use Rattle.cell_units.proofs.Returns.{clean-not_longer}
use Rattle.inlay_map.proofs.inlaid.amount_shown.Goals as goal

pub overflow_cast-result : goal.overflow_cast-result
overflow_cast-result c =
    let e = ap (λ (l : List ℕ). length l) c.shown-shown.ensures in
    omega (arith, clean-not_longer c.args.text.now, e)

pub feeds_in-requires : goal.feeds_in-requires
feeds_in-requires c =
    let e = ap (λ (l : List ℕ). length l) c.shown-shown.ensures in
    omega (arith, clean-not_longer c.args.text.now, e)
