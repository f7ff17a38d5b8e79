use Rattle.std.proofs.Common.{◌≡◌, ◌∙◌, ◌≤◌, ℕ, ap, arith}
use Rattle.cell_units.specs.Rows.{rows_before}
use Rattle.block_map.specs.Between.{Between}
use Rattle.block_map.specs.inside.Zones.{zone_start}
use Rattle.block_map.proofs.RowsInZones.{begin-within, line-zone}
use Rattle.block_map.proofs.snapshot.BlockSnapshot.start_of.Goals as goal

pub zone_start-requires-after_bounds : goal.zone_start-requires-after_bounds
zone_start-requires-after_bounds g c κs b =
    omega (arith, begin-within c.args.self.now c.text_rows-count.ensures.lawful c.args.line c.requires, c.rows_before-text_row.ensures, ap (λ (b : Between). rows_before b.lines c.args.line) c.self.view_is)

pub returns-clause-start : goal.returns-clause-start
returns-clause-start g c =
    let same : c.rows_before-text_row.result ≡ rows_before c.args.self.now.lines c.args.line = c.rows_before-text_row.ensures ∙ ap (λ (b : Between). rows_before b.lines c.args.line) c.self.view_is in
    c.zone_start.ensures.start.row
    ∙ ap (zone_start c.args.self.now) same
    ∙ line-zone c.args.self.now c.text_rows-count.ensures.lawful c.args.line c.requires
