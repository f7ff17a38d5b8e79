use Rattle.std.proofs.Common.{◌≡◌, ap, subst, ◌∙◌}
use Rattle.std.specs.Arc.{arc_value}
use Rattle.std.specs.Result.{IfOk}
use Rattle.cell_units.specs.Lawful.{source_of}
use Rattle.cell_units.specs.Layers.{Source}
use Rattle.map_sheet.proofs.sheet.MapSheet.text_share.Goals as goal

pub returns : goal.returns
returns c = subst (λ (s : Source). IfOk c.share_of.result (λ share. arc_value share ≡ s)) (c.self.invariant.source_is ∙ ap source_of c.self.view_is) c.share_of.ensures
