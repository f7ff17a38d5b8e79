use Rattle.std.proofs.Common.{◌≡◌, ◌<◌, ◌^◌, [], length, ap, sym, ◌∙◌, subst}
use Rattle.std.specs.Prelude.{IfOk}
use Rattle.cell_units.specs.Layers.{shown_lines}
use Rattle.cell_line.specs.Elements.{elements_of, total_cells}
use Rattle.cell_line.specs.Lines.{line_at}
use Rattle.tab_map.specs.TabLines.{lines_at}
use Rattle.tab_map.proofs.TabLemmas.{line_made}
use Rattle.tab_map.proofs.snapshot.TabSnapshotLines.elements.Goals as goal

pub elements-requires-clause-fits : goal.elements-requires-clause-fits
elements-requires-clause-fits g c =
    let source = g.L.Layer.source c.self.inside.layer in
    let tab = c.self.inside.tab in
    let line = c.args.line in
    let made : line_at (lines_at source tab) line ≡ elements_of c.as_slice.result.now tab =
    line_made (λ pieces. elements_of pieces tab) (shown_lines source) line c.in_ok-pieces.pieces.items [] c.in_ok-pieces.ensures
    ∙ ap (λ pieces. elements_of pieces tab) (sym c.as_slice.ensures.value) in
    let within : line < length (lines_at source tab) = subst (λ lines. line < length lines) (sym c.self.view_is) c.requires in
    subst (λ es. total_cells es < 2 ^ 32) made (c.self.invariant.1.1 line [] within).1

pub returns : goal.returns
returns g c =
    let source = g.L.Layer.source c.self.inside.layer in
    let tab = c.self.inside.tab in
    let line = c.args.line in
    let made : line_at (lines_at source tab) line ≡ elements_of c.as_slice.result.now tab =
    line_made (λ pieces. elements_of pieces tab) (shown_lines source) line c.in_ok-pieces.pieces.items [] c.in_ok-pieces.ensures
    ∙ ap (λ pieces. elements_of pieces tab) (sym c.as_slice.ensures.value) in
    let is_line : elements_of c.as_slice.result.now tab ≡ line_at c.args.self.now line =
    sym made ∙ ap (λ lines. line_at lines line) c.self.view_is in
    subst (λ es. IfOk c.elements.result (λ elements. elements.items ≡ es)) is_line c.elements.ensures
