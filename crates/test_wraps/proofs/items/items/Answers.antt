use Rattle.std.proofs.Common.{◌≡◌, ◌∙◌, arith, subst, sym}
use Rattle.cell_line.specs.Lines.{FitsU32}
use Rattle.cell_units.specs.Layers.{plain_source}
use Rattle.tab_map.specs.TabLines.{lines_at}
use Rattle.wrapped_lines.specs.WrappedSource.{HaveRoom, lines_of}
use Rattle.test_stages.proofs.Texts.{text-fits, text-room}
use Rattle.test_wraps.proofs.items.items.Goals as goal

pub items_at-requires-clause-fits : goal.items_at-requires-clause-fits
items_at-requires-clause-fits c κs =
    let text = c.args.text.now in
    subst FitsU32 (sym c.lines.ensures)
    (text-fits text.rope text.lines text.of_text text.tab (omega (arith, c.len-bytes.ensures.value, c.len-bytes.ensures.within)))

pub items_at-requires-clause-room : goal.items_at-requires-clause-room
items_at-requires-clause-room c κs =
    let text = c.args.text.now in
    let are : lines_at (plain_source text.rope) 4 ≡ lines_of text.lines = λ i. lines_at (sym text.of_text i) (sym text.tab i) in
    subst HaveRoom (are ∙ sym c.lines.ensures)
    (text-room text.rope (omega (arith, c.len-bytes.ensures.value, c.len-bytes.ensures.within)))
