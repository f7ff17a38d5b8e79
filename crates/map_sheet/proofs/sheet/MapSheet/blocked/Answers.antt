use Rattle.std.proofs.Common.{ap, ◌∙◌}
use Rattle.cell_units.specs.Record.{Record}
use Rattle.blocked_rows.specs.Records.{kept_blocks, row_texts}
use Rattle.map_sheet.proofs.sheet.MapSheet.blocked.Goals as goal

pub returns : goal.returns
returns c = c.deref.ensures ∙ c.self.invariant.blocks_are ∙ ap (λ (r : Record). kept_blocks r (row_texts r)) c.self.view_is
