use Rattle.display_map.proofs.LandingLaws.{landing-gives_cuts}
use Rattle.display_map.proofs.laws.landing_laws.Goals as goal

pub returns : goal.returns
returns c = landing-gives_cuts
