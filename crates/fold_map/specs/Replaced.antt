-- What a change replaces of what is shown.
use Rattle.std.specs.Prelude.{ℕ, ◌-◌, length}
use Rattle.cell_units.specs.declared.place.Bias.TheVariants.{Left, Right}
use Rattle.cell_units.specs.Layers.{Source, place_of, shown_text}
use Rattle.edit_patch.specs.Leads.{Reach}

-- All from the left place of an offset to the right place of another. It is replaced by what isn't before or after it
-- then.
abbrev pub shown_change : Source → Source → ℕ → ℕ → Reach
shown_change before after start end =
    let first = place_of before start Left in
    let past = place_of before end Right in
    record { start = first; end = past; count = length (shown_text after) - (length (shown_text before) - past) - first }
