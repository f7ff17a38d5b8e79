use Rattle.std.proofs.Common.{◌∙◌, ℕ, List, ap, sym}
use Rattle.plain_rows.specs.Rows.{Row}
use Rattle.block_map.specs.Between.{Between}
use Rattle.block_map.proofs.RowsInZones.{text-row-of}
use Rattle.block_map.proofs.snapshot.BlockSnapshot.text_row.Goals as goal

abbrev the_row : List ℕ → ℕ → Row
the_row text kind = record { kind = kind; text = text }

pub returns : goal.returns
returns g c =
    ap (the_row c.in_ok-row_text-in-Some.field-0) c.kind_of.ensures
    ∙ sym (text-row-of c.args.self.now (g.R.Rows.shown c.self.inside.rows) c.args.at c.in-Some.line c.in-Some.row c.in_ok-row_text-in-Some.field-0 (sym (ap (λ (b : Between). b.lines) c.self.view_is)) c.in-Some.ensures c.in_ok-row_text-in-Some.ensures)
