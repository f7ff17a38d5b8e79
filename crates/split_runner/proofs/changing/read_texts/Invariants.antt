-- The texts so far are UTF-8.
use Rattle.std.proofs.Common.{All, take}
use Rattle.std.specs.Str.{IsUtf8}
use Rattle.split_runner.proofs.changing.read_texts.Given as goal

abbrev pub invariant-loop-splice : goal.invariant-loop-splice
invariant-loop-splice l = All (λ s. IsUtf8 s.text) (take l.splice-index l.batch)
