use Rattle.std.proofs.Common.{arith}
use Rattle.split_views.proofs.Keeping.{kept-opened}
use Rattle.split_views.proofs.split.shared.Goals as goal

pub invariant_of-result : goal.invariant_of-result
invariant_of-result g c =
    kept-opened c.in_ok-displays.displays.items c.in_ok-journals.journals c.args.views c.args.first c.requires.0 c.requires.1 c.in_ok-displays.ensures
    c.in_ok-journals.ensures.items c.in_ok-journals.ensures.len (omega (arith, c.in_ok-journals.ensures.exact))
