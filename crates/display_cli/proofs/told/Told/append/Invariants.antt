use Rattle.std.proofs.Common.{◌≡◌, ◌++◌, take}
use Rattle.display_cli.specs.Telling.{bytes_told}
use Rattle.display_cli.proofs.told.Told.append.Given as goal

abbrev pub invariant-loop-byte : goal.invariant-loop-byte
invariant-loop-byte l = bytes_told l.self ≡ bytes_told l.initial.self ++ take l.byte-index l.bytes
