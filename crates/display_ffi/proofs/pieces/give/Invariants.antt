-- The first so many are written, and the others are as they were.
use Rattle.std.proofs.Common.{◌≡◌, map, take, drop}
use Rattle.display_ffi.specs.Pieces.{as_given}
use Rattle.display_ffi.proofs.pieces.give.Given as goal

abbrev pub invariant-loop-i : goal.invariant-loop-i
invariant-loop-i l = record {
  given : take l.i l.out ≡ map as_given (take l.i l.pieces);
  rest : drop l.i l.out ≡ drop l.i l.initial.out;
}
