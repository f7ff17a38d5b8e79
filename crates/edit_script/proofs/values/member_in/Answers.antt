-- An object of one member is that member, and another is none.
use Rattle.std.proofs.Common.{Some, ap, ◌∙◌, option_and_then, arith}
use Rattle.serde_json.specs.View.{view}
use Rattle.edit_script.specs.Commands.{only_member}
use Rattle.edit_script.proofs.Lines.{only_member-one, only_member-others}
use Rattle.edit_script.proofs.values.member_in.Goals as goal

pub returns-then-len-ne1 : goal.returns-then-len-ne1
returns-then-len-ne1 c =
    only_member-others c.in_ok-members.members.now.entries (omega arith) ∙ ap (option_and_then only_member) c.in_ok-members.ensures

pub returns : goal.returns
returns c =
    let value = c.in_ok-name.value.now in
    let one = only_member-one c.in_ok-members.members.now.entries c.in_ok-name.name.now value (omega arith) c.in_ok-name.ensures.first in
    ap (λ key. Some (key, view value)) c.as_str.ensures.value ∙ (one ∙ ap (option_and_then only_member) c.in_ok-members.ensures)
