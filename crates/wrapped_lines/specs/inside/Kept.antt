-- What the parts of a source with wrapped lines are.
use Rattle.std.specs.Prelude.{◌≡◌, List}
use Rattle.cell_line.specs.declared.element.Element.{Element}
use Rattle.cell_units.specs.Lawful.{IsTab}
use Rattle.wrap_map.specs.Standing.{Standing, Wrapped}
use Rattle.wrapped_lines.specs.WrappedSource.{HaveRoom, WrappedSource, lines_of, standing_lines}

-- the lines, the wrap map and its rows are of one source
pub record BelongTogether (lines : List (List Element)) (wraps : Wrapped) (rows : Standing) (w : WrappedSource) : Type 0 where
  pub tab : IsTab w.tab
  pub room : HaveRoom (lines_of w)
  pub lines_are : lines ≡ lines_of w
  pub wraps_are : wraps ≡ record { standing = standing_lines w; width = w.width }
  pub rows_are : rows ≡ standing_lines w
