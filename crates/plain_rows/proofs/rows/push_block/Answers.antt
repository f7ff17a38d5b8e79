use Rattle.std.proofs.Common.{◌++◌, ℕ, List, map, ap, sym, ◌∙◌, arith}
use Rattle.std.proofs.lemmas.List.{take_all}
use Rattle.plain_rows.specs.Plain.{block_of}
use Rattle.plain_rows.proofs.BuiltRows.{Pairs, pairs-block}
use Rattle.plain_rows.proofs.rows.push_block.Goals as goal

pub returns : goal.returns
returns c =
    let lines = c.args.block.now.lines.items in
    c.loop-line.invariant
    ∙ ap (λ (l : Pairs). c.args.rows.now.items ++ l)
    (ap (map (λ (line : List ℕ). (98, line))) (take_all c.loop-line.line-index lines (omega arith)) ∙ sym (pairs-block (block_of c.args.block.now)))
