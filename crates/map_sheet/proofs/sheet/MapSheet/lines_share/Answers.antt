use Rattle.std.proofs.Common.{◌≡◌, ap, subst, ◌∙◌}
use Rattle.std.specs.Arc.{arc_value}
use Rattle.std.specs.Result.{IfOk}
use Rattle.wrapped_lines.specs.WrappedSource.{WrappedSource}
use Rattle.map_sheet.specs.Kept.{lines_in}
use Rattle.map_sheet.proofs.sheet.MapSheet.lines_share.Goals as goal

pub returns : goal.returns
returns c = subst (λ (w : WrappedSource). IfOk c.share_of.result (λ share. arc_value share ≡ w)) (c.self.invariant.lines_are ∙ ap lines_in c.self.view_is) c.share_of.ensures
