use Rattle.std.proofs.Common.{List, ℕ, ◌+◌, ◌++◌, drop, true, sym, ap, ◌∙◌, arith}
use Rattle.std.proofs.lemmas.List.{drop_all}
use Rattle.unicode_segmentation.specs.Grapheme.{graphemes}
use Rattle.cell_units.specs.declared.piece.Piece.{Piece}
use Rattle.cell_line.specs.Elements.{clusters}
use Rattle.cell_line.proofs.Placed.{clusters_step}
use Rattle.cell_line.proofs.Walks.{no_rest, skip_empty}
use Rattle.cell_line.proofs.walk.next_text.Goals as goal

pub loop-at-init : goal.loop-at-init
loop-at-init c = no_rest c.args.rest.now (clusters (drop c.args.begun c.args.pieces.now)) c.if-rest-gt0.false

pub returns-then-text-gt0-clause-some : goal.returns-then-text-gt0-clause-some
returns-then-text-gt0-clause-some c = record {
  some = c.if-text-gt0.true;
  utf8 = c.as_str-text.utf8;
  within = omega (arith, c.loop-at-test.true);
  same = c.loop-at.invariant
      ∙ clusters_step c.args.pieces.now c.loop-at.at c.index-pieces-at.result c.loop-at-test.true c.index-pieces-at.is
      ∙ ap (λ (t : List ℕ). graphemes true t ++ clusters (drop (c.loop-at.at + 1) c.args.pieces.now)) (sym (c.as_str-text.ensures ∙ ap (λ (p : Piece). p.text) (sym c.index-pieces-at.is)));
}

pub loop-at-preserved : goal.loop-at-preserved
loop-at-preserved c =
    c.loop-at.invariant
    ∙ skip_empty c.args.pieces.now c.loop-at.at c.index-pieces-at.result c.as_str-text.result.now c.loop-at-test.true c.index-pieces-at.is (c.as_str-text.ensures ∙ ap (λ (p : Piece). p.text) (sym c.index-pieces-at.is)) c.if-text-gt0.false

pub returns-clause-none : goal.returns-clause-none
returns-clause-none c = c.loop-at.invariant ∙ ap clusters (drop_all c.loop-at.at c.args.pieces.now (omega arith))
