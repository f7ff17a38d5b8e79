use Rattle.std.proofs.Common.{arith}
use Rattle.fold_map.proofs.CopiedPieces.{offset-small}
use Rattle.fold_map.proofs.pieces.cut.Goals as goal

pub offset_in-start-requires : goal.offset_in-start-requires
offset_in-start-requires c =
    let r = c.requires in
    offset-small c.args.piece.now c.args.from r.whole (omega (arith, r.order, r.within)) (omega arith) (omega arith)

pub offset_in-end-requires : goal.offset_in-end-requires
offset_in-end-requires c =
    let r = c.requires in
    offset-small c.args.piece.now c.args.to r.whole r.within (omega arith) (omega arith)
