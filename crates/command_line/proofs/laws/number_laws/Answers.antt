use Rattle.command_line.proofs.Decimals.{number_only, number_read}
use Rattle.command_line.proofs.laws.number_laws.Goals as goal

pub returns : goal.returns
returns c = record { read = number_read; only = number_only }
