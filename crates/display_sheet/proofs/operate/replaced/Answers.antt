-- A boundary of the text is one of the bytes that are lent.
use Rattle.std.proofs.Common.{ℕ, List}
use Rattle.std.specs.Str.{IsCharBoundary, IsUtf8}
use Rattle.cell_units.specs.Text.{IsBoundary}
use Rattle.cell_units.proofs.Boundaries.{boundary_from_test}
use Rattle.cell_units.proofs.TextLaws.{tells_boundaries}
use Rattle.display_sheet.proofs.operate.replaced.Goals as goal

lent : (text : List ℕ) (o : ℕ) → IsUtf8 text → IsBoundary text o → IsCharBoundary text o
lent text o utf8 at = boundary_from_test text o ((tells_boundaries text utf8 o).1 at)

pub range-requires-clause-end_boundary : goal.range-requires-clause-end_boundary
range-requires-clause-end_boundary c = lent c.args.text.now c.args.splice.now.start c.utf8.text c.requires.start

pub range_from-requires : goal.range_from-requires
range_from-requires c = λ _. lent c.args.text.now c.args.splice.now.end c.utf8.text c.requires.end
