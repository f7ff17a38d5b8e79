use Rattle.std.proofs.Common.{◌∙◌, sym}
use Rattle.block_map.proofs.RowsInZones.{in-zone, row-in-zone}
use Rattle.block_map.proofs.snapshot.BlockSnapshot.row.Goals as goal

pub row_at-requires-clause-there : goal.row_at-requires-clause-there
row_at-requires-clause-there g c lives outlives =
    in-zone c.args.self.now c.text_rows-count.ensures.lawful c.args.row c.place_of-place.result.text_row c.place_of-place.result.at c.place_of-place.ensures.zone

pub returns-clause-row : goal.returns-clause-row
returns-clause-row g c =
    sym (row-in-zone c.args.self.now c.text_rows-count.ensures.lawful c.args.row c.place_of-place.result.text_row c.place_of-place.result.at c.place_of-place.ensures.zone ∙ c.in_ok-row_at.ensures.row)
