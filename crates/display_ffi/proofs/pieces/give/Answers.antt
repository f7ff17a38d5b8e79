-- As many pieces as fit are written, and the others are as they were.
use Rattle.std.proofs.Common.{◌≡◌, min, length, arith}
use Rattle.display_ffi.proofs.Lent.{all-given}
use Rattle.display_ffi.proofs.pieces.give.Goals as goal

pub returns : goal.returns
returns c =
    let all : c.loop-i.i ≡ min (length c.args.pieces.now) (length c.args.out.now) =
    omega (arith, c.min-count.ensures, c.loop-i-test.false, c.loop-i.auto.i-end) in
    all-given c.args.pieces.now c.args.out.now c.loop-i.out c.loop-i.i all c.loop-i.invariant.given c.loop-i.invariant.rest
