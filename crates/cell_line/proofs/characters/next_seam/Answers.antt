use Rattle.std.specs.Str.Iter.{chars_rest}
use Rattle.cell_line.proofs.Seam.{searched_more}
use Rattle.cell_line.proofs.characters.next_seam.Goals as goal

pub characters-preserved : goal.characters-preserved
characters-preserved c =
    rw (c.is_alone-alone.ensures, c.len_utf8-at.ensures.value)
    (searched_more c.args.text.now (chars_rest c.characters.chars) (chars_rest c.next.new.self) c.characters.at c.in-Some.c c.characters.parts c.utf8.text c.characters.invariant c.in-Some.ensures.steps.0)
