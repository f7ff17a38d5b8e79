use Rattle.std.proofs.Common.{arith}
use Rattle.row_pieces.specs.Changed.{looks}
use Rattle.view_changes.proofs.Lengths.{lead-in-turn, length-looks}
use Rattle.view_changes.proofs.in_turn.covering_of.Goals as goal

pub covering-requires : goal.covering-requires
covering-requires c =
    let led = c.requires.first in
    let between = c.args.between.now in
    let new = c.args.new.now in
    lead-in-turn c.args.first c.args.then (looks led.earlier) (looks between) (looks new) led.is_true c.requires.then led.few
    (omega (arith, length-looks between c.lawful.ensures.lawful, c.row_count-between.ensures, c.row_count-between.type_inv))
    (omega (arith, length-looks new c.lawful-2.ensures.lawful, c.row_count-new.ensures, c.row_count-new.type_inv))
