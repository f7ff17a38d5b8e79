use Rattle.cell_units.specs.Lawful.{source_of}
use Rattle.plain_rows.proofs.SpotShown.{fold-around, rows-are}
use Rattle.plain_rows.proofs.spots.laid_rows.LaidRowsSpotRows.fold_around.Goals as goal

pub returns-clause-around : goal.returns-clause-around
returns-clause-around c =
    let r = c.args.self.now in
    let are = rows-are c.self.inside r c.self.view_is c.self.invariant in
    fold-around (source_of r) c.args.offset c.fold_around.result (c.fold_around.ensures (source_of r) are.lines)
