use Rattle.std.proofs.Common.{◌≡◌, ◌-◌, suc, ap, sym, ◌∙◌, arith}
use Rattle.plain_rows.specs.declared.folded_lines.LineEnd.{LineEnd}
use Rattle.plain_rows.specs.declared.folded_lines.Part.TheVariants.{Buffer}
use Rattle.plain_rows.specs.inside.PartPieces.{line_from}
use Rattle.plain_rows.proofs.EndsOfLines.{first-from, from-read}
use Rattle.plain_rows.proofs.folded_lines.line_start.Goals as goal

pub returns-then-line-eq0 : goal.returns-then-line-eq0
returns-then-line-eq0 c = sym (ap (line_from 0 c.args.ends.now) c.if-line-eq0.true ∙ first-from 0 c.args.ends.now)

pub returns-else-line-eq0 : goal.returns-else-line-eq0
returns-else-line-eq0 c =
    let none : LineEnd = record { parts = 0; feed = Buffer 0 0 } in
    let next : suc (c.args.line - 1) ≡ c.args.line = omega (arith, c.if-line-eq0.false) in
    sym (from-read 0 c.args.ends.now (c.args.line - 1) none (omega (arith, c.requires, c.if-line-eq0.false)))
    ∙ ap (line_from 0 c.args.ends.now) next
