-- The parts of wrapped lines belong together.
use Rattle.std.proofs.Common.{◌≡◌, ℕ, List, ap, sym, subst, ◌∙◌}
use Rattle.cell_line.specs.declared.element.Element.{Element}
use Rattle.cell_units.specs.Layers.{Source}
use Rattle.tab_map.specs.TabLines.{lines_at}
use Rattle.wrap_map.specs.Standing.{Standing, Wrapped}
use Rattle.wrapped_lines.specs.WrappedSource.{HaveRoom, WrappedSource, lines_of}
use Rattle.wrapped_lines.specs.inside.Kept.{BelongTogether}

-- shares of the layer and its lines with another wrap map of these lines
pub with-wraps : (w now : WrappedSource) (lines shared : List (List Element)) (wraps after : Wrapped) (rows stood : Standing) (source : Source) (width : ℕ) →
    BelongTogether lines wraps rows w → w ≡ now → source ≡ w.source → shared ≡ lines →
    after.standing.lines ≡ lines_of now → after.width ≡ width → stood ≡ after.standing →
    BelongTogether shared after stood (record { source = source; tab = w.tab; width = width; marks = stood.marks })
with-wraps w now lines shared wraps after rows stood source width all view layer same of at is =
    let there : lines_of now ≡ lines_at source w.tab = sym (ap lines_of view) ∙ ap (λ (s : Source). lines_at s w.tab) (sym layer) in
    record {
      tab = all.tab;
      room = subst (λ (s : Source). HaveRoom (lines_at s w.tab)) (sym layer) all.room;
      lines_are = same ∙ all.lines_are ∙ ap (λ (s : Source). lines_at s w.tab) (sym layer);
      wraps_are = λ i. record { standing = record { lines = (of ∙ there) i; marks = sym (ap (λ (s : Standing). s.marks) is) i }; width = at i };
      rows_are = λ i. record { lines = (ap (λ (s : Standing). s.lines) is ∙ of ∙ there) i; marks = stood.marks };
    }
