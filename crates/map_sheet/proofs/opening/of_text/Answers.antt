use Rattle.std.proofs.Common.{◌∙◌, arith, sym, subst}
use Rattle.cell_units.specs.Layers.{Source}
use Rattle.tab_map.specs.TabLines.{lines_at}
use Rattle.wrapped_lines.specs.WrappedSource.{HaveRoom}
use Rattle.map_sheet.proofs.Opened.{lawful-opened, opened-room, short-opened}
use Rattle.map_sheet.proofs.Sent.{sheet_sent}
use Rattle.map_sheet.proofs.opening.of_text.Goals as goal

pub new-requires-after_bounds : goal.new-requires-after_bounds
new-requires-after_bounds c κs =
    let text = c.args.text in
    let lawful = lawful-opened text c.args.layer c.requires.layer c.buffer_len-layer_len.ensures.well_formed c.rope.result.now c.rope.ensures (omega (arith, c.len-len.ensures.within, c.len-len.ensures.value)) c.operation_laws.ensures.opened in
    let short = short-opened text c.args.layer c.requires.layer c.buffer_len-layer_len.ensures.well_formed c.rope.result.now c.rope.ensures (omega (arith, c.len-len.ensures.within, c.len-len.ensures.value)) c.operation_laws.ensures.opened in
    subst (λ (s : Source). HaveRoom (lines_at s 4)) (sym (c.requires.layer ∙ c.requires.plain)) (opened-room text.text lawful short)

pub new-requires-send-L : goal.new-requires-send-L
new-requires-send-L c κs = search sheet_sent depth 12 fits 4000

pub new-requires-sync-L : goal.new-requires-sync-L
new-requires-sync-L c κs = search sheet_sent depth 12 fits 4000
