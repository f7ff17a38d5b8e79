use Rattle.std.proofs.Common.{◌∙◌, Option, sym, ap, subst}
use Rattle.cell_units.specs.declared.place.Shift.{Shift}
use Rattle.block_map.specs.inside.SideMoves.{MayFollow, marks_after}
use Rattle.block_map.proofs.MarksAfter.{marks-stay}
use Rattle.block_map.proofs.block_marks.BlockMarks.behind.Goals as goal

pub returns-then-shift : goal.returns-then-shift
returns-then-shift c =
    let follow = subst (λ (o : Option Shift). MayFollow o c.args.marks) c.in-Some.is c.requires in
    c.of-then-shift.ensures
    ∙ sym (marks-stay c.in-Some.shift c.args.marks c.len-count.ensures.lawful.sorted c.if-shift.true follow.unmet)
    ∙ ap (λ (o : Option Shift). marks_after o c.args.marks) (sym c.in-Some.is)

pub invariant_of-result : goal.invariant_of-result
invariant_of-result c = subst (λ (o : Option Shift). MayFollow o c.args.marks) c.in-Some.is c.requires

pub returns-else-shift : goal.returns-else-shift
returns-else-shift c = ap (λ (o : Option Shift). marks_after o c.args.marks) (sym c.in-Some.is)
