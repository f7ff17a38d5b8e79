use Rattle.edit_patch.proofs.CoverLeads.{cover-leads}
use Rattle.edit_patch.proofs.laws.covering_laws.Goals as goal

pub returns : goal.returns
returns c = cover-leads
