use Rattle.std.proofs.Common.{◌≡◌, Bool, true, false, not, refl}
use Rattle.cell_line.specs.inside.Marks.{left_of}
use Rattle.cell_line.proofs.Walks.{leading_more}
use Rattle.cell_line.proofs.mark.Lead.of.Goals as goal

not_false : (b : Bool) → not b ≡ false → b ≡ true
not_false true h = refl
not_false false h = absurd (cc)

pub blanks-preserved : goal.blanks-preserved
blanks-preserved c =
    leading_more (left_of c.args.walk) (left_of c.blanks.walk) (left_of c.next_mark.new.self) c.blanks.count c.blanks.cells c.in-Some.mark c.blanks.invariant c.in-Some.ensures (not_false c.in-Some.mark.blank c.if-not-mark.false)
