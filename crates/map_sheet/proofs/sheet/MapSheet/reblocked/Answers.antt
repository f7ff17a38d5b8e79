use Rattle.std.proofs.Common.{refl}
use Rattle.std.specs.Arc.{arc_value}
use Rattle.map_sheet.proofs.Steps.{block-operated, block-some}
use Rattle.map_sheet.proofs.sheet.MapSheet.reblocked.Goals as goal

pub with_lines-requires : goal.with_lines-requires
with_lines-requires c =
    block-some c.args.self.now c.lawful.ensures.lawful c.lawful.ensures.short c.lawful.ensures.plain
    (arc_value c.in_ok-text.text) c.in_ok-text.ensures (arc_value c.in_ok-lines.lines) c.in_ok-lines.ensures c.args.blocks c.requires

pub returns : goal.returns
returns c =
    block-operated c.args.self.now c.lawful.ensures.lawful c.lawful.ensures.short c.lawful.ensures.plain
    (arc_value c.in_ok-text.text) c.in_ok-text.ensures (arc_value c.in_ok-lines.lines) c.in_ok-lines.ensures c.args.blocks
    c.in_ok-sheet.sheet c.in_ok-sheet.ensures (record { first = 0; end = 0; count = 0 }) refl refl refl
