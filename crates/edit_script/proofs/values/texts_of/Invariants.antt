use Rattle.std.proofs.Common.{◌≡◌, drop}
use Rattle.serde_json.specs.View.{items_view}
use Rattle.edit_script.specs.Commands.{texts_of_items}
use Rattle.edit_script.proofs.Forms.{texts_after}
use Rattle.edit_script.proofs.values.texts_of.Given as goal

-- the texts of all values are those read so far and those of the values that are left
abbrev pub invariant-loop-item : goal.invariant-loop-item
invariant-loop-item l = texts_of_items (items_view l.items) ≡ texts_after l.texts.items (drop l.item-index l.items)
