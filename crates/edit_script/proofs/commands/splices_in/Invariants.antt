use Rattle.std.proofs.Common.{◌≡◌, ◌≤◌, drop}
use Rattle.serde_json.specs.View.{items_view}
use Rattle.display_map.specs.Replay.{present_of}
use Rattle.edit_script.specs.Commands.{splices_of_items}
use Rattle.edit_script.proofs.Forms.{after}
use Rattle.edit_script.proofs.commands.splices_in.Given as goal

-- the splices of all values are those read so far and those of the values that are left
abbrev pub invariant-loop-item : goal.invariant-loop-item
invariant-loop-item l =
    let text = (present_of l.view).text in
    record {
      read : splices_of_items l.form text (items_view l.items) ≡ after l.form text l.splices.items (drop l.item-index l.items);
      counted : l.initial.steps ≤ l.steps;
    }
