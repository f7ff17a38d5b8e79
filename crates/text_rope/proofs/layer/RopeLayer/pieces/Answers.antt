use Rattle.std.proofs.Common.{◌≡◌, ◌<◌, ◌∷◌, [], Some, slice_range, ap, sym, ◌∙◌, arith}
use Rattle.cell_units.specs.declared.piece.PieceKind.TheVariants.{Buffer}
use Rattle.cell_units.specs.Record.{line_count}
use Rattle.cell_units.specs.BufferLines.{line_end, line_start}
use Rattle.cell_units.proofs.PlainLayers.{plain_line_count}
use Rattle.text_rope.proofs.Layers.{no_piece, whole_row}
use Rattle.text_rope.proofs.layer.RopeLayer.pieces.Goals as goal

pub row_range-start-requires : goal.row_range-start-requires
row_range-start-requires c = omega (arith, c.requires, plain_line_count c.args.self.now)

pub returns-then-start-end : goal.returns-then-start-end
returns-then-start-end c =
    let text = c.args.self.now in
    let lt : c.args.line < line_count text = omega (arith, c.requires, plain_line_count text) in
    let same : line_start text c.args.line ≡ line_end text c.args.line =
    sym (ap (λ r. r.0) c.row_range-start.ensures.range) ∙ c.if-start-end.true ∙ ap (λ r. r.1) c.row_range-start.ensures.range in
    no_piece text c.args.line lt same ∙ ap Some (sym c.new.ensures.items)

pub returns : goal.returns
returns c =
    let text = c.args.self.now in
    let lt : c.args.line < line_count text = omega (arith, c.requires, plain_line_count text) in
    let start : c.row_range-start.result.0 ≡ line_start text c.args.line = ap (λ r. r.0) c.row_range-start.ensures.range in
    let end : c.row_range-start.result.1 ≡ line_end text c.args.line = ap (λ r. r.1) c.row_range-start.ensures.range in
    let some : line_start text c.args.line < line_end text c.args.line = omega (arith, start, end, c.row_range-start.ensures.order, c.if-start-end.false) in
    let bytes : c.in_ok-text.text ≡ slice_range text (line_start text c.args.line) (line_end text c.args.line) =
    c.in_ok-text.ensures.text ∙ (λ i. slice_range text (start i) (end i)) in
    let same : c.in_ok-from_array.field-0.items
    ≡ record { kind = Buffer; text = slice_range text (line_start text c.args.line) (line_end text c.args.line); start = line_start text c.args.line; end = line_end text c.args.line } ∷ [] =
    c.in_ok-from_array.ensures.items ∙ (λ i. record { kind = Buffer; text = bytes i; start = start i; end = end i } ∷ []) in
    whole_row text c.args.line lt some ∙ ap Some (sym same)
