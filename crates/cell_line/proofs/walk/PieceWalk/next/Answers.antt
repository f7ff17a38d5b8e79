use Rattle.std.proofs.Common.{◌≡◌, ◌++◌, ◌∷◌, true, drop, slice_range, ap, sym, ◌∙◌, arith}
use Rattle.std.specs.Char.{encode_utf8}
use Rattle.unicode_segmentation.specs.Grapheme.{graphemes}
use Rattle.cell_line.specs.Elements.{clusters}
use Rattle.cell_line.specs.inside.Marks.{element_of}
use Rattle.cell_line.specs.inside.Parts.{clusters_in}
use Rattle.cell_line.proofs.Seam.{seam_boundary, start_boundary, start_slice}
use Rattle.cell_line.proofs.Walks.{cells_fit, next_part, some_clusters, step_fits, walk_alone, walk_to, IsStep}
use Rattle.cell_line.proofs.walk.PieceWalk.next.Goals as goal
use Rattle.cell_line.proofs.walk.PieceWalk.next.Goals.{After-cells-in-Some-start_alone, After-cells-2}

pub range-requires-clause-end_boundary : goal.range-requires-clause-end_boundary
range-requires-clause-end_boundary c =
    rw c.len_utf8.ensures.len (start_boundary c.in_ok-begun.text.now c.in-Some-start_alone.first c.in-Some-start_alone.rest.now c.in-Some-start_alone.ensures)

alone : (c : After-cells-in-Some-start_alone) →
    IsStep c.self.inside.tab c.self.inside.column c.cells-in-Some-start_alone.result c.args.self.now c.of_alone-lent.result
    (clusters_in c.next_cluster.new.part ++ (graphemes true c.in-Some-start_alone.rest.now ++ clusters (drop c.in_ok-begun.begun c.self.inside.pieces.now)))
alone c =
    let w = c.self.inside in
    let first = c.in-Some-start_alone.first in
    let rest = c.in-Some-start_alone.rest.now in
    let text = c.in_ok-begun.text.now in
    let none = c.in_default.ensures.none in
    let starts = c.in-Some-start_alone.ensures in
    let is : c.of_alone-lent.result ≡ element_of w.tab w.column (encode_utf8 first) =
    c.of_alone-lent.ensures
    ∙ ap (element_of w.tab w.column) (c.range.ensures.value ∙ start_slice text first rest c.len_utf8.result starts c.len_utf8.ensures.len) in
    step_fits w.tab w.column c.cells-in-Some-start_alone.result _ c.args.self.now c.of_alone-lent.result _ c.self.view_is c.self.invariant.3 c.cells-in-Some-start_alone.ensures
    (walk_alone w.tab w.column c.cells-in-Some-start_alone.result first (clusters_in w.part) (graphemes true w.rest.now) (clusters (drop w.begun w.pieces.now))
    (clusters_in c.next_cluster.new.part) (clusters (drop c.in_ok-begun.begun w.pieces.now)) text rest c.of_alone-lent.result
    none.0 none.1 c.in_ok-begun.ensures.some.same starts is c.cells-in-Some-start_alone.ensures)

pub overflow_add-self-in-Some-start_alone : goal.overflow_add-self-in-Some-start_alone
overflow_add-self-in-Some-start_alone c = let s = (alone (goal.at.overflow_add-self-in-Some-start_alone c).After-cells-in-Some-start_alone).sum in omega (arith, s)

pub invariant_of-self-in-Some-start_alone : goal.invariant_of-self-in-Some-start_alone
invariant_of-self-in-Some-start_alone c =
    (c.self.invariant.0, c.in_ok-begun.ensures.some.within, c.in-Some-start_alone.ensures.utf8, (alone (goal.at.invariant_of-self-in-Some-start_alone c).After-cells-in-Some-start_alone).rest)

pub returns-in-Some-start_alone : goal.returns-in-Some-start_alone
returns-in-Some-start_alone c = (alone (goal.at.returns-in-Some-start_alone c).After-cells-in-Some-start_alone).first

pub range-part-requires-clause-end_boundary : goal.range-part-requires-clause-end_boundary
range-part-requires-clause-end_boundary c =
    seam_boundary c.in_ok-begun.text.now c.next_seam-end.result c.in_ok-begun.ensures.some.utf8 c.next_seam-end.ensures

pub range_from-self-inside-requires : goal.range_from-self-inside-requires
range_from-self-inside-requires c =
    λ _. seam_boundary c.in_ok-begun.text.now c.next_seam-end.result c.in_ok-begun.ensures.some.utf8 c.next_seam-end.ensures

pub invariant_of-self-in_err-cluster : goal.invariant_of-self-in_err-cluster
invariant_of-self-in_err-cluster c =
    absurd (some_clusters c.range-part.result.now c.range-part.utf8 (omega (arith, c.range-part.ensures.len, c.next_seam-end.ensures.past))
    (sym c.graphemes.ensures.left ∙ c.in_err-cluster.ensures.none.0))

pub returns-in_err-cluster : goal.returns-in_err-cluster
returns-in_err-cluster c =
    absurd (some_clusters c.range-part.result.now c.range-part.utf8 (omega (arith, c.range-part.ensures.len, c.next_seam-end.ensures.past))
    (sym c.graphemes.ensures.left ∙ c.in_err-cluster.ensures.none.0))

pub of_cluster-lent-requires-2-clause-fits : goal.of_cluster-lent-requires-2-clause-fits
of_cluster-lent-requires-2-clause-fits c =
    let w = c.self.inside in
    let next = c.in_ok-begun.ensures.some in
    let end = c.next_seam-end.result in
    let text = c.in_ok-begun.text.now in
    let first : graphemes true (slice_range text 0 end) ≡ c.in_ok-cluster.cluster.now ∷ clusters_in c.next_cluster-2.new.part =
    ap (graphemes true) (sym c.range-part.ensures.value) ∙ sym c.graphemes.ensures.left ∙ c.in_ok-cluster.ensures.some in
    (cells_fit w.column _ (element_of w.tab w.column c.in_ok-cluster.cluster.now) _
    (next_part w.tab w.column end (clusters_in w.part) (graphemes true w.rest.now) (clusters (drop w.begun w.pieces.now)) (clusters_in c.next_cluster-2.new.part)
    (clusters (drop c.in_ok-begun.begun w.pieces.now)) text c.in_default.ensures.none.0 next.same c.next_seam-end.ensures
    c.in_ok-cluster.cluster.now first) c.self.invariant.3).0

cluster_step : (c : After-cells-2) →
    IsStep c.self.inside.tab c.self.inside.column c.cells-2.result c.args.self.now c.of_cluster-lent-2.result
    (clusters_in c.next_cluster-2.new.part ++ (graphemes true c.range_from-self-inside.result.now ++ clusters (drop c.in_ok-begun.begun c.self.inside.pieces.now)))
cluster_step c =
    let w = c.self.inside in
    let end = c.next_seam-end.result in
    let text = c.in_ok-begun.text.now in
    let next = c.in_ok-begun.ensures.some in
    let first : graphemes true (slice_range text 0 end) ≡ c.in_ok-cluster.cluster.now ∷ clusters_in c.next_cluster-2.new.part =
    ap (graphemes true) (sym c.range-part.ensures.value) ∙ sym c.graphemes.ensures.left ∙ c.in_ok-cluster.ensures.some in
    step_fits w.tab w.column c.cells-2.result _ c.args.self.now c.of_cluster-lent-2.result _ c.self.view_is c.self.invariant.3 c.cells-2.ensures
    (walk_to w.tab w.column end c.cells-2.result (clusters_in w.part) (graphemes true w.rest.now) (clusters (drop w.begun w.pieces.now))
    (clusters_in c.next_cluster-2.new.part) (clusters (drop c.in_ok-begun.begun w.pieces.now)) text c.range_from-self-inside.result.now c.in_ok-cluster.cluster.now c.of_cluster-lent-2.result
    c.in_default.ensures.none.0 next.same c.next_seam-end.ensures first c.of_cluster-lent-2.ensures c.cells-2.ensures c.range_from-self-inside.ensures.value)

pub overflow_add-self-2 : goal.overflow_add-self-2
overflow_add-self-2 c = let s = (cluster_step (goal.at.overflow_add-self-2 c).After-cells-2).sum in omega (arith, s)

pub invariant_of-self-2 : goal.invariant_of-self-2
invariant_of-self-2 c =
    (c.self.invariant.0, c.in_ok-begun.ensures.some.within, c.range_from-self-inside.utf8, (cluster_step (goal.at.invariant_of-self-2 c).After-cells-2).rest)

pub returns : goal.returns
returns c = (cluster_step (goal.at.returns c).After-cells-2).first
