use Rattle.std.proofs.Common.{◌≡◌, ◌∙◌, None, arith, rules, sym, true}
use Rattle.std.specs.Result.{result_ok}
use Rattle.command_line.specs.Words.{is_decimal}
use Rattle.command_line.proofs.Numbers.{unparsed}
use Rattle.command_line.proofs.plan.number.Goals as goal

pub returns-in_err-number : goal.returns-in_err-number
returns-in_err-number c =
    let is_number : is_decimal c.args.value.now ≡ true = search rules in
    let unread : result_ok c.parse.result ≡ None = sym c.ok.ensures.value ∙ c.in_err-number.was in
    c.from_residual.ensures ∙ sym (unparsed _ c.args.value.now c.parse.result c.args.least c.args.most (omega arith) is_number c.parse.ensures.value.0 unread)
