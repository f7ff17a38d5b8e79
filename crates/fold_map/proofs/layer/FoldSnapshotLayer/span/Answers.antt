use Rattle.std.proofs.Common.{◌+◌, ◌-◌, ℕ, length, map, ap, sym, subst, ◌∙◌, arith}
use Rattle.cell_units.specs.Layers.{Source, shown_lines, span_of}
use Rattle.joined_folds.specs.Sweeps.{fold_of}
use Rattle.fold_map.specs.Lines.{CoverLines, lines_of}
use Rattle.fold_map.proofs.LinesFound.{first-row}
use Rattle.fold_map.proofs.LinesLayer.{IsLastBelow, ends-before, ends-last, line-fits, line-lt, lines-are, lines-covered, lines-fewer, there-at}
use Rattle.fold_map.proofs.SpotsLayer.{over}
use Rattle.fold_map.proofs.layer.FoldSnapshotLayer.span.Goals as goal
use Rattle.fold_map.proofs.layer.FoldSnapshotLayer.span.Goals.{then-line-lines, else-line-lines}

pub lines_shown-lines-requires : goal.lines_shown-lines-requires
lines_shown-lines-requires g c =
    let v = c.args.self.now in
    let ps = c.self.inside.splices in
    let o = over (g.L.Layer.source c.self.inside.layer) v (map fold_of c.self.inside.folds) ps c.self.invariant c.self.view_is in
    subst (CoverLines ps) (sym (c.lines-below.ensures ∙ ap (λ (u : Source). length (shown_lines u)) o.below)) (lines-covered v ps o.are)

pub start_of-first-requires : goal.start_of-first-requires
start_of-first-requires g c =
    let v = c.args.self.now in
    let ps = c.self.inside.splices in
    let o = over (g.L.Layer.source c.self.inside.layer) v (map fold_of c.self.inside.folds) ps c.self.invariant c.self.view_is in
    line-fits v ps o.are c.args.line c.requires (omega (arith, c.lines-below.ensures, c.lines-below.type_inv, ap (λ (u : Source). length (shown_lines u)) o.below))

pub overflow_add-line : goal.overflow_add-line
overflow_add-line g c =
    let v = c.args.self.now in
    let ps = c.self.inside.splices in
    let o = over (g.L.Layer.source c.self.inside.layer) v (map fold_of c.self.inside.folds) ps c.self.invariant c.self.view_is in
    omega (arith, c.requires, lines-fewer v ps o.are, c.lines-below.ensures, c.lines-below.type_inv, ap (λ (u : Source). length (shown_lines u)) o.below)

pub start_of-requires : goal.start_of-requires
start_of-requires g c =
    let v = c.args.self.now in
    let ps = c.self.inside.splices in
    let o = over (g.L.Layer.source c.self.inside.layer) v (map fold_of c.self.inside.folds) ps c.self.invariant c.self.view_is in
    let low = c.lines-below.ensures ∙ ap (λ (u : Source). length (shown_lines u)) o.below in
    let lines = c.lines_shown-lines.ensures ∙ ap (lines_of ps) low ∙ lines-are v ps o.are in
    line-fits v ps o.are (c.args.line + 1) (omega (arith, c.if-line-lines.true, lines)) (omega (arith, low, c.lines-below.type_inv))

pub overflow_sub-last : goal.overflow_sub-last
overflow_sub-last g c =
    let v = c.args.self.now in
    let ps = c.self.inside.splices in
    let o = over (g.L.Layer.source c.self.inside.layer) v (map fold_of c.self.inside.folds) ps c.self.invariant c.self.view_is in
    let low = c.lines-below.ensures ∙ ap (λ (u : Source). length (shown_lines u)) o.below in
    let lines = c.lines_shown-lines.ensures ∙ ap (lines_of ps) low ∙ lines-are v ps o.are in
    (ends-before v ps o.are c.args.line c.start_of.result c.start_of.ensures.start (omega (arith, c.if-line-lines.true, lines))).0

pub overflow_sub-last-else-line-lines : goal.overflow_sub-last-else-line-lines
overflow_sub-last-else-line-lines g c =
    let v = c.args.self.now in
    let ps = c.self.inside.splices in
    let o = over (g.L.Layer.source c.self.inside.layer) v (map fold_of c.self.inside.folds) ps c.self.invariant c.self.view_is in
    let low = c.lines-below.ensures ∙ ap (λ (u : Source). length (shown_lines u)) o.below in
    let lines = c.lines_shown-lines.ensures ∙ ap (lines_of ps) low ∙ lines-are v ps o.are in
    let last = ends-last v ps o.are c.args.line c.requires (omega (arith, c.if-line-lines.false, lines)) in
    omega (arith, last.0, low)

pub span-start-requires : goal.span-start-requires
span-start-requires g c =
    let v = c.args.self.now in
    let ps = c.self.inside.splices in
    let o = over (g.L.Layer.source c.self.inside.layer) v (map fold_of c.self.inside.folds) ps c.self.invariant c.self.view_is in
    omega (arith, there-at v ps o.are c.args.line c.start_of-first.result c.start_of-first.ensures.start c.requires, ap (λ (u : Source). length (shown_lines u)) o.below)

pub span-end-requires : goal.span-end-requires
span-end-requires g c =
    let v = c.args.self.now in
    let ps = c.self.inside.splices in
    let o = over (g.L.Layer.source c.self.inside.layer) v (map fold_of c.self.inside.folds) ps c.self.invariant c.self.view_is in
    let low = c.lines-below.ensures ∙ ap (λ (u : Source). length (shown_lines u)) o.below in
    let lines = c.lines_shown-lines.ensures ∙ ap (lines_of ps) low ∙ lines-are v ps o.are in
    let last : IsLastBelow v ps o.are c.args.line c.if-line-lines.last =
    elim c.if-line-lines.branch [
      | then-line-lines w ↦ subst (IsLastBelow v ps o.are c.args.line) (sym w.last-is) (ends-before v ps o.are c.args.line w.start_of.result w.start_of.ensures.start (omega (arith, w.if-line-lines.true, lines))).1
      | else-line-lines w ↦ subst (IsLastBelow v ps o.are c.args.line) (sym (w.last-is ∙ ap (λ (k : ℕ). k - 1) low)) (ends-last v ps o.are c.args.line c.requires (omega (arith, w.if-line-lines.false, lines))).1
    ] in
    omega (arith, last.there, ap (λ (u : Source). length (shown_lines u)) o.below)

pub returns : goal.returns
returns g c =
    let v = c.args.self.now in
    let ps = c.self.inside.splices in
    let o = over (g.L.Layer.source c.self.inside.layer) v (map fold_of c.self.inside.folds) ps c.self.invariant c.self.view_is in
    let low = c.lines-below.ensures ∙ ap (λ (u : Source). length (shown_lines u)) o.below in
    let lines = c.lines_shown-lines.ensures ∙ ap (lines_of ps) low ∙ lines-are v ps o.are in
    let last : IsLastBelow v ps o.are c.args.line c.if-line-lines.last =
    elim c.if-line-lines.branch [
      | then-line-lines w ↦ subst (IsLastBelow v ps o.are c.args.line) (sym w.last-is) (ends-before v ps o.are c.args.line w.start_of.result w.start_of.ensures.start (omega (arith, w.if-line-lines.true, lines))).1
      | else-line-lines w ↦ subst (IsLastBelow v ps o.are c.args.line) (sym (w.last-is ∙ ap (λ (k : ℕ). k - 1) low)) (ends-last v ps o.are c.args.line c.requires (omega (arith, w.if-line-lines.false, lines))).1
    ] in
    let at = c.start_of-first.result in
    let start = c.start_of-first.ensures.start in
    let first = first-row v ps o.are c.args.line at start (line-lt v ps o.are c.args.line at start c.requires) in
    let from = ap (λ (r : ℕ × ℕ). r.0) c.span-start.ensures ∙ ap (λ (u : Source). (span_of u at.below).0) o.below ∙ sym first in
    let to = ap (λ (r : ℕ × ℕ). r.1) c.span-end.ensures ∙ ap (λ (u : Source). (span_of u c.if-line-lines.last).1) o.below ∙ sym last.row in
    λ i. (from i, to i)
