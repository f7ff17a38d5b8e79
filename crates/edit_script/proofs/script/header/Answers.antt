-- Bytes that aren't text are no header.
use Rattle.std.proofs.Common.{◌≡◌, Bool, true, false, length, Option, option_and_then, refl, sym, ap, ◌∙◌}
use Rattle.std.specs.Prelude.{◌&&◌, nat_le}
use Rattle.std.specs.Option.{option_map_or}
use Rattle.serde_json.specs.Data.{Data}
use Rattle.edit_script.specs.declared.blank.TheConstants.{LINE_LIMIT}
use Rattle.edit_script.specs.Commands.{member_in}
use Rattle.edit_script.specs.Script.{is_form_two}
use Rattle.edit_script.proofs.Lines.{value_of-no_text}
use Rattle.edit_script.proofs.script.header.Goals as goal

and-false : (b : Bool) → false ≡ (b && false)
and-false true = refl
and-false false = refl

pub returns-in_default-clause-header : goal.returns-in_default-clause-header
returns-in_default-clause-header c =
    and-false (nat_le (length c.args.line.now) LINE_LIMIT)
    ∙ ap (λ (value : Option Data). nat_le (length c.args.line.now) LINE_LIMIT && option_map_or is_form_two (option_and_then member_in value) false)
    (sym (value_of-no_text c.args.line.now c.in_default.ensures.cases.0))
