-- What a change of the text or of the inlays replaces of what is shown.
use Rattle.std.specs.Prelude.{ℕ, ◌+◌}
use Rattle.cell_units.specs.Layers.{Source}
use Rattle.edit_patch.specs.LayerLeads.{shown_between, shown_shift}
use Rattle.edit_patch.specs.Leads.{Reach}

-- What a replacement of the text replaces of what is shown: also the inlays at both its ends.
abbrev pub inlaid_shift : Source → Source → Reach → Reach
inlaid_shift before after s =
    shown_shift before s.start s.end (shown_between after s.start (s.start + s.count))

-- What an inlay at the offset replaces that is added or removed: all inlays at that offset.
abbrev pub inlay_shift : Source → Source → ℕ → Reach
inlay_shift before after offset = shown_shift before offset offset (shown_between after offset offset)
