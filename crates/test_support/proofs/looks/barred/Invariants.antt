use Rattle.std.proofs.Common.{◌≡◌, string_bytes, take}
use Rattle.test_support.specs.Told.{barred_told}
use Rattle.test_support.proofs.looks.barred.Given as goal

abbrev pub invariant-loop-piece : goal.invariant-loop-piece
invariant-loop-piece l = string_bytes l.all ≡ barred_told (take l.piece-index l.pieces)
