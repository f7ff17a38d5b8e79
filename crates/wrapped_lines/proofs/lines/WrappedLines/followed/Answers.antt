use Rattle.std.proofs.Common.{◌∙◌, ℕ, [], ap, length, sym, subst, arith}
use Rattle.cell_units.specs.Layers.{Source}
use Rattle.cell_line.specs.Lines.{FitsU32}
use Rattle.tab_map.specs.TabLines.{lines_at}
use Rattle.wrap_map.specs.Standing.{Wrapped}
use Rattle.wrapped_lines.specs.WrappedSource.{WrappedSource, lines_of}
use Rattle.wrapped_lines.proofs.lines.WrappedLines.followed.Goals as goal

pub sync-requires-clause-fits : goal.sync-requires-clause-fits
sync-requires-clause-fits g c κs within =
    let layer = g.L.Layer.source c.args.layer in
    subst (λ (s : Source). FitsU32 (lines_at s c.args.tabs.tab)) (sym c.in_ok-share.ensures)
    (subst (λ (t : ℕ). FitsU32 (lines_at layer t)) (sym c.requires.tab) (c.requires.room []).fits)

pub returns-clause-steps : goal.returns-clause-steps
returns-clause-steps g c h before after =
    let was = ap (λ (o : Wrapped). length o.standing.lines) c.self.invariant.wraps_are ∙ ap (λ (w : WrappedSource). length (lines_of w)) c.self.view_is in
    let is = ap length c.in_ok-share-2.ensures ∙ ap length c.in_ok-lines.ensures.synced.lines_are
    ∙ (λ i. length (lines_at (c.in_ok-share.ensures i) (c.requires.tab i))) in
    c.rewrap.ensures.steps h (omega (arith, was, before)) (omega (arith, is, after))
