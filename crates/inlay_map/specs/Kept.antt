-- What an inlay map and what it shows keep.
use Rattle.std.specs.Prelude.{◌≡◌, ◌≤◌, [], length, Option, None}
use Rattle.cell_units.specs.declared.limits.TheConstants.{LAID_LIMIT}
use Rattle.cell_units.specs.Lawful.{AreInlays}
use Rattle.cell_units.specs.Layers.{Source}
use Rattle.cell_units.specs.Text.{IsText}
use Rattle.edit_patch.specs.LayerLeads.{LayerLeads}
use Rattle.edit_patch.specs.Leads.{Reach}

-- A text within the limit of what is kept that has no carriage return, with inlays that fit it and without folds.
pub record IsInlaid (s : Source) : Type 0 where
  pub short : length s.text ≤ LAID_LIMIT
  pub text : IsText s.text
  pub inlays : AreInlays s.text s.inlays
  pub folds : s.folds ≡ []

-- What was shown last and what is now have one text, and the replacement that is pending leads from the one to the
-- other.
pub record IsKept (now shown : Source) (pending : Option Reach) : Type 0 where
  pub text : now.text ≡ shown.text
  pub leads : LayerLeads None shown now pending
