use Rattle.std.proofs.Common.{◌≡◌, ◌-◌, List, Some, [], length, map, take, get_or, ap, sym, ◌∙◌, arith}
use Rattle.std.specs.List.{slice_get}
use Rattle.std.proofs.lemmas.List.Elements.{All-same, All-take}
use Rattle.std.proofs.lemmas.Result.{IfOk-weaker}
use Rattle.cell_units.specs.Cutting.{cut_lines}
use Rattle.cell_units.specs.Layers.{shown_lines}
use Rattle.plain_rows.specs.declared.folded_lines.Part.{Part}
use Rattle.plain_rows.specs.FoldedLines.{Lies, is_end, seen}
use Rattle.plain_rows.specs.inside.PartPieces.{before_end, piece_in}
use Rattle.plain_rows.proofs.EndsOfLines.{before_end-take}
use Rattle.plain_rows.proofs.Positions.{lies-all, line-lies, line-some, pieces-found}
use Rattle.plain_rows.proofs.folded_lines.FoldedLines.pieces.Goals as goal

pub slice_bounds-line_pieces-count : goal.slice_bounds-line_pieces-count
slice_bounds-line_pieces-count c =
    omega (arith, line-some (seen c.args.source.now) c.args.self.now c.requires.lines c.args.line c.requires.within, ap length c.line-parts.ensures.parts)

pub line_pieces-requires-clause-lie : goal.line_pieces-requires-clause-lie
line_pieces-requires-clause-lie c =
    let s = seen c.args.source.now in
    let parts = c.args.self.now.parts in
    All-take (Lies s) (length c.line-parts.result.now - 1) c.line-parts.result.now
    (All-same (Lies s) c.line-parts.result.now (get_or (cut_lines is_end parts) c.args.line []) c.line-parts.ensures.parts
    (lies-all s (get_or (cut_lines is_end parts) c.args.line []) (line-lies s parts c.args.line c.requires.lines.shown.lie)))

pub returns : goal.returns
returns c =
    let s = seen c.args.source.now in
    let line = get_or (cut_lines is_end c.args.self.now.parts) c.args.line [] in
    let parts : take (length c.line-parts.result.now - 1) c.line-parts.result.now ≡ before_end line =
    ap (λ (l : List Part). take (length l - 1) l) c.line-parts.ensures.parts ∙ sym (before_end-take line) in
    IfOk-weaker c.line_pieces.result
    (λ pieces. pieces.items ≡ map (piece_in s) (take (length c.line-parts.result.now - 1) c.line-parts.result.now))
    (λ pieces. slice_get (shown_lines s) c.args.line ≡ Some pieces.items)
    (λ pieces e. pieces-found s c.args.self.now c.requires.lines c.args.line c.requires.within ∙ ap Some (ap (map (piece_in s)) (sym parts) ∙ sym e))
    c.line_pieces.ensures
