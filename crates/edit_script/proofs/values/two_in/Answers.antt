-- A list of another length has none.
use Rattle.std.proofs.Common.{ap, length, arith}
use borrow.Author.Tests.{ltb-true, ltb-false}
use Rattle.serde_json.specs.View.{view}
use Rattle.edit_script.proofs.Forms.{two_in-other}
use Rattle.edit_script.proofs.values.two_in.Goals as goal
use Rattle.edit_script.proofs.values.two_in.Goals.{in_default-via-then-as_slice-lt2, in_default-via-else-as_slice-lt2+else-this-lt3}

pub returns-in_default : goal.returns-in_default
returns-in_default c =
    let same = ap length c.as_slice.ensures.value in
    elim c.in_default.branch [
      | in_default-via-then-as_slice-lt2 w ↦ two_in-other (view c.args.value.now) c.in_ok-as_array.field-0.now.items c.in_ok-as_array.ensures (omega (arith, ltb-true, same))
      | in_default-via-else-as_slice-lt2+else-this-lt3 w ↦ two_in-other (view c.args.value.now) c.in_ok-as_array.field-0.now.items c.in_ok-as_array.ensures (omega (arith, ltb-false, same))
    ]
