-- The call of `all` returns whether each byte is blank.
use Rattle.std.proofs.Common.{rules, tests, arith}
use Rattle.std.proofs.lemmas.Iterator.{YieldsList-from_slice}
use Rattle.std.proofs.lemmas.Iterator.Search.{all_from_yields_List}
use Rattle.std.proofs.lemmas.Bool.Decides.{nat_tests}
use Rattle.edit_script.specs.Verdict.{is_blank_byte}
use Rattle.edit_script.proofs.blank.skipped.Goals as goal

pub returns-then-line-le-LINE_LIMIT : goal.returns-then-line-le-LINE_LIMIT
returns-then-line-le-LINE_LIMIT c =
    let all = all_from_yields_List is_blank_byte _ _ c.all.result c.all.ensures.ran (YieldsList-from_slice c.args.line.now cc) (λ x b q k. search (rules, tests)) in
    grind (arith, nat_tests)
