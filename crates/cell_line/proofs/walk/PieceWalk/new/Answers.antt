use Rattle.std.proofs.Common.{◌+◌, ◌^◌, ◌<◌, ◌++◌, List, ℕ, ap, sym, subst, arith}
use Rattle.std.proofs.lemmas.Str.{IsUtf8-nil}
use Rattle.cell_line.specs.declared.element.Element.{Element}
use Rattle.cell_line.specs.Elements.{clusters, elements_of, placed, total_cells}
use Rattle.cell_line.proofs.Seam.{graphemes_none}
use Rattle.cell_line.proofs.walk.PieceWalk.new.Goals as goal

pub invariant_of-result : goal.invariant_of-result
invariant_of-result c =
    let same = ap (λ (g : List (List ℕ)). placed c.args.tab 0 (g ++ clusters c.args.pieces.now)) graphemes_none in
    let fits : 0 + total_cells (elements_of c.args.pieces.now c.args.tab) < 2 ^ 32 = omega (arith, c.requires.fits) in
    (omega (arith, c.requires.size.0), omega arith, IsUtf8-nil, subst (λ (es : List Element). 0 + total_cells es < 2 ^ 32) (sym same) fits)

pub returns : goal.returns
returns c = ap (λ (g : List (List ℕ)). placed c.args.tab 0 (g ++ clusters c.args.pieces.now)) graphemes_none
