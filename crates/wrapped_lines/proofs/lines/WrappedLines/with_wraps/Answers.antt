use Rattle.wrapped_lines.specs.WrappedSource.{WrappedSource}
use Rattle.wrapped_lines.proofs.Together.{with-wraps}
use Rattle.wrapped_lines.proofs.lines.WrappedLines.with_wraps.Goals as goal

pub invariant_of-result : goal.invariant_of-result
invariant_of-result g c =
    let m = c.self.inside in
    let w : WrappedSource = record { source = g.L.Layer.source m.layer; tab = m.tab; width = m.width; marks = m.rows.marks } in
    with-wraps w c.args.self.now m.lines c.in_ok-share-2.field-0 m.wraps c.args.wraps m.rows c.in_ok-rows.rows
    (g.L.Layer.source c.in_ok-share.field-0) c.args.width c.self.invariant c.self.view_is c.in_ok-share.ensures c.in_ok-share-2.ensures
    c.requires.lines c.requires.width c.in_ok-rows.ensures
