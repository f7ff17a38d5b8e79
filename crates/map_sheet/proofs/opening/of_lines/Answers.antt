use Rattle.std.proofs.Common.{◌∙◌, ap, arith, sym, length}
use Rattle.std.specs.Arc.{arc_value}
use Rattle.cell_units.specs.Layers.{Source, shown_lines}
use Rattle.cell_units.specs.Record.{opened}
use Rattle.display_sheet.specs.Shown.{unstamped}
use Rattle.block_map.specs.Maps.{state_of}
use Rattle.wrap_map.specs.Standing.{shown_rows}
use Rattle.wrapped_lines.specs.WrappedSource as wrapped
use Rattle.wrapped_lines.specs.WrappedSource.{unwrapped}
use Rattle.map_sheet.proofs.Opened.{lawful-opened, opened-each, opened-keeps, short-opened}
use Rattle.map_sheet.proofs.Sent.{sheet_sent}
use Rattle.map_sheet.proofs.opening.of_lines.Goals as goal

pub new-requires-after_bounds : goal.new-requires-after_bounds
new-requires-after_bounds c κs =
    let text = c.args.text in
    let layer_is = c.layer.ensures in
    let lawful = lawful-opened text c.layer.result.now layer_is c.buffer_len-layer_len.ensures.well_formed c.rope.result.now c.rope.ensures (omega (arith, c.len-len.ensures.within, c.len-len.ensures.value)) c.operation_laws.ensures.opened in
    let short = short-opened text c.layer.result.now layer_is c.buffer_len-layer_len.ensures.well_formed c.rope.result.now c.rope.ensures (omega (arith, c.len-len.ensures.within, c.len-len.ensures.value)) c.operation_laws.ensures.opened in
    ap (λ (s : Source). length (shown_lines s)) (c.layer-2.ensures ∙ c.requires.plain)
    ∙ opened-each text.text lawful short
    ∙ sym (ap length (c.in_ok-rows.ensures ∙ ap shown_rows c.rows.ensures ∙ ap wrapped.row_texts (c.requires.lines ∙ ap unwrapped c.requires.plain)))

pub assembled-requires : goal.assembled-requires
assembled-requires c =
    let text = c.args.text in
    let lawful = lawful-opened text c.layer.result.now c.layer.ensures c.buffer_len-layer_len.ensures.well_formed c.rope.result.now c.rope.ensures (omega (arith, c.len-len.ensures.within, c.len-len.ensures.value)) c.operation_laws.ensures.opened in
    let short = short-opened text c.layer.result.now c.layer.ensures c.buffer_len-layer_len.ensures.well_formed c.rope.result.now c.rope.ensures (omega (arith, c.len-len.ensures.within, c.len-len.ensures.value)) c.operation_laws.ensures.opened in (
      unstamped (opened text.text),
      opened-keeps text.text lawful short (arc_value c.in_ok-text.text) (c.in_ok-text.ensures.ok ∙ c.requires.plain) c.args.lines
          (c.requires.lines ∙ ap unwrapped (sym c.in_ok-text.ensures.ok)) c.in_ok-blocks.blocks
          (c.in_ok-blocks.ensures.made ∙ ap state_of (c.in_ok-rows.ensures ∙ ap shown_rows c.rows.ensures)),
    )

pub returns-clause-made : goal.returns-clause-made
returns-clause-made c =
    let text = c.args.text in
    let lawful = lawful-opened text c.layer.result.now c.layer.ensures c.buffer_len-layer_len.ensures.well_formed c.rope.result.now c.rope.ensures (omega (arith, c.len-len.ensures.within, c.len-len.ensures.value)) c.operation_laws.ensures.opened in
    let short = short-opened text c.layer.result.now c.layer.ensures c.buffer_len-layer_len.ensures.well_formed c.rope.result.now c.rope.ensures (omega (arith, c.len-len.ensures.within, c.len-len.ensures.value)) c.operation_laws.ensures.opened in
    c.assembled.ensures (unstamped (opened text.text))
    (opened-keeps text.text lawful short (arc_value c.in_ok-text.text) (c.in_ok-text.ensures.ok ∙ c.requires.plain) c.args.lines
    (c.requires.lines ∙ ap unwrapped (sym c.in_ok-text.ensures.ok)) c.in_ok-blocks.blocks
    (c.in_ok-blocks.ensures.made ∙ ap state_of (c.in_ok-rows.ensures ∙ ap shown_rows c.rows.ensures)))

pub rows-requires-send-L : goal.rows-requires-send-L
rows-requires-send-L c κs = search sheet_sent depth 12 fits 4000

pub rows-requires-sync-L : goal.rows-requires-sync-L
rows-requires-sync-L c κs = search sheet_sent depth 12 fits 4000

pub new-requires-send-R : goal.new-requires-send-R
new-requires-send-R c κs = search sheet_sent depth 12 fits 4000

pub new-requires-sync-R : goal.new-requires-sync-R
new-requires-sync-R c κs = search sheet_sent depth 12 fits 4000

pub new-requires-send-P : goal.new-requires-send-P
new-requires-send-P c κs = search sheet_sent depth 12 fits 4000

pub new-requires-sync-P : goal.new-requires-sync-P
new-requires-sync-P c κs = search sheet_sent depth 12 fits 4000
