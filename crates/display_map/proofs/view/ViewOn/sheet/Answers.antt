use Rattle.display_map.proofs.Views.{sheet-read}
use Rattle.display_map.proofs.view.ViewOn.sheet.Goals as goal

pub returns : goal.returns
returns g c = sheet-read c.self.invariant c.self.view_is
