use Rattle.std.proofs.Common.{◌++◌, ◌∷◌, [], map, take, get_or, ap, sym, ◌∙◌, arith}
use Rattle.std.proofs.lemmas.List.{map-append, take_more}
use Rattle.plain_rows.specs.declared.folded_lines.Part.TheVariants.{Buffer}
use Rattle.plain_rows.specs.FoldedLines.{seen}
use Rattle.plain_rows.specs.inside.PartPieces.{piece_in}
use Rattle.plain_rows.proofs.folded_lines.line_pieces.Goals as goal

pub loop-part-preserved : goal.loop-part-preserved
loop-part-preserved c =
    let parts = c.args.parts.now in
    let f = piece_in (seen c.args.source.now) in
    c.in_ok-push.ensures.items
    ∙ (λ i. c.loop-part.invariant i ++ c.in_ok-piece.ensures i ∷ [])
    ∙ sym (ap (map f) (take_more parts c.loop-part.part-index (Buffer 0 0) (omega arith)) ∙ map-append f (take c.loop-part.part-index parts) (get_or parts c.loop-part.part-index (Buffer 0 0) ∷ []))
