use Rattle.spot_laws.proofs.LawfulExample.{example-lawful}
use Rattle.spot_laws.proofs.laws.worked_record.Goals as goal

pub returns : goal.returns
returns c = example-lawful
