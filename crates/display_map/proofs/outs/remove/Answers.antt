use Rattle.std.proofs.Common.{rules}
use Rattle.std.specs.Prelude.{◌==◌, not}
use Rattle.std.proofs.lemmas.Fn.{filter_same}
use Rattle.display_map.proofs.outs.remove.Goals as goal

pub returns : goal.returns
returns c = filter_same _ (λ out. not (out.number == c.args.number)) _ (λ x b q k. search rules) _ _ c.retain.ensures.filtered
