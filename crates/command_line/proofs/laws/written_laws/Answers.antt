use Rattle.command_line.proofs.Written.{read_names, read_seed}
use Rattle.command_line.proofs.laws.written_laws.Goals as goal

pub returns : goal.returns
returns c = record {
  names = λ text script crew watchers t s least most few. read_names crew watchers least most few text script t s;
  seed = λ seed crew watchers limit least most few. read_seed crew watchers least most few seed limit;
}
