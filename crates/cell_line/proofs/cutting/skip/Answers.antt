use Rattle.std.proofs.Common.{◌≡◌, ◌-◌, ℕ, suc, drop, ap, sym, ◌∙◌, arith}
use Rattle.cell_line.specs.inside.Marks.{left_of}
use Rattle.cell_line.proofs.Walks.{dropped, letters_drop}
use Rattle.cell_line.proofs.cutting.skip.Goals as goal

pub elements-preserved : goal.elements-preserved
elements-preserved c =
    let k = c.elements.left - 1 in
    let n : suc k ≡ c.elements.left = omega (arith, c.elements-test.true) in
    sym (letters_drop (left_of c.next_mark.new.self) c.pass_letters-left.result k (left_of c.pass_letters-left.new.self) c.pass_letters-left.ensures.letters c.pass_letters-left.ensures.within)
    ∙ sym (dropped k (left_of c.elements.walk) (left_of c.next_mark.new.self) c.next_mark.result c.next_mark.ensures)
    ∙ ap (λ (i : ℕ). drop i (left_of c.elements.walk)) n
    ∙ c.elements.invariant
