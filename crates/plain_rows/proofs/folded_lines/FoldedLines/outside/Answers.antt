use Rattle.std.proofs.Common.{sym, subst}
use Rattle.cell_units.specs.declared.place.Bias.{Bias}
use Rattle.cell_units.specs.declared.place.Bias.TheVariants.{Left, Right}
use Rattle.plain_rows.specs.inside.Passed.{IsSamePlace}
use Rattle.plain_rows.proofs.PassedTokens.{left-inside, right-inside}
use Rattle.plain_rows.proofs.folded_lines.FoldedLines.outside.Goals as goal

pub returns-in-Left : goal.returns-in-Left
returns-in-Left c = λ source are le.
    let around = c.in-Some.ensures source are in
    subst (λ (bias : Bias). IsSamePlace source c.args.offset bias c.in-Some.fold.start Right) (sym c.in-Left.is)
    (left-inside source c.in-Some.fold around.0 c.args.offset around.1 around.2)

pub returns-in-Right : goal.returns-in-Right
returns-in-Right c = λ source are le.
    let around = c.in-Some.ensures source are in
    subst (λ (bias : Bias). IsSamePlace source c.args.offset bias c.in-Some.fold.end Left) (sym c.in-Right.is)
    (right-inside source c.in-Some.fold around.0 c.args.offset around.1 around.2 around.3)
