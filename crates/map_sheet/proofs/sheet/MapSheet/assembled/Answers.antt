use Rattle.std.proofs.Common.{subst, sym}
use Rattle.std.specs.Arc.{arc_value}
use Rattle.wrapped_lines.specs.WrappedSource.{WrappedSource}
use Rattle.map_sheet.specs.Kept.{Keeps}
use Rattle.map_sheet.proofs.sheet.MapSheet.assembled.Goals as goal

pub with_lines-requires : goal.with_lines-requires
with_lines-requires c = (
  c.requires.0,
  subst (λ (w : WrappedSource). Keeps c.requires.0 (arc_value c.args.text) w c.args.blocks) (sym c.in_ok-lines.ensures.ok) c.requires.1,
)

pub returns : goal.returns
returns c r kept =
    c.with_lines.ensures r
    (subst (λ (w : WrappedSource). Keeps r (arc_value c.args.text) w c.args.blocks) (sym c.in_ok-lines.ensures.ok) kept)
