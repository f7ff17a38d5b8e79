use Rattle.std.proofs.Common.{◌∙◌, option_map, Some, ap, sym}
use Rattle.edit_patch.specs.Leads.{reach_of}
use Rattle.edit_patch.specs.Covering.{with_pending}
use Rattle.edit_patch.proofs.cover.with_pending.Goals as goal

pub returns-in-None : goal.returns-in-None
returns-in-None c = λ i. with_pending (option_map reach_of (sym c.in-None.is i)) (Some (reach_of c.args.second))

pub covering-requires : goal.covering-requires
covering-requires c = c.requires c.in-Some.first c.in-Some.is

pub returns-in-Some : goal.returns-in-Some
returns-in-Some c = ap Some c.covering.ensures ∙ (λ i. with_pending (option_map reach_of (sym c.in-Some.is i)) (Some (reach_of c.args.second)))
