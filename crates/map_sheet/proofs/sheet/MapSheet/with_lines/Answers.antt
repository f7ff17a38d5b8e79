use Rattle.std.proofs.Common.{◌∙◌, ap, subst, sym}
use Rattle.std.specs.Arc.{arc_value}
use Rattle.block_map.specs.Maps.{BlockState}
use Rattle.map_sheet.specs.Kept.{Keeps, record_in}
use Rattle.map_sheet.proofs.Keeping.{keeps, made}
use Rattle.map_sheet.proofs.sheet.MapSheet.with_lines.Goals as goal

pub invariant_of-result : goal.invariant_of-result
invariant_of-result c =
    let text = arc_value c.args.text in
    let lines = arc_value c.args.lines in
    subst (λ (b : BlockState). Keeps (record_in text lines b) text lines b) (sym c.in_ok-blocks.ensures.ok)
    (keeps c.requires.0 text lines c.args.blocks c.requires.1)

pub returns : goal.returns
returns c r kept =
    ap (λ (b : BlockState). record_in (arc_value c.args.text) (arc_value c.args.lines) b) c.in_ok-blocks.ensures.ok
    ∙ made r (arc_value c.args.text) (arc_value c.args.lines) c.args.blocks kept
