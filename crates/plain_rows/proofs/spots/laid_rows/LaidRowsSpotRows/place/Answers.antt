use Rattle.cell_units.specs.Lawful.{source_of}
use Rattle.plain_rows.proofs.SpotShown.{rows-are}
use Rattle.plain_rows.proofs.spots.laid_rows.LaidRowsSpotRows.place.Goals as goal

pub returns-clause-line : goal.returns-clause-line
returns-clause-line c =
    let r = c.args.self.now in
    let are = rows-are c.self.inside r c.self.view_is c.self.invariant in
    c.line_of-line.ensures (source_of r) are.lines c.requires.0

pub returns-clause-byte : goal.returns-clause-byte
returns-clause-byte c =
    let r = c.args.self.now in
    let are = rows-are c.self.inside r c.self.view_is c.self.invariant in
    c.place_in_line.ensures (source_of r) are.lines c.requires.0
