use Rattle.std.proofs.Common.{List, ℕ, length, ap, arith}
use Rattle.cell_units.specs.Text.{clean}
use Rattle.cell_units.proofs.ReplacedRows.{length-replaced_text}
use Rattle.edit_patch.specs.Leads.{reach_of}
use Rattle.folded_text.proofs.Texts.{put-is}
use Rattle.layered_text.proofs.changes.replaced.Goals as goal

-- ---- the range is one of the text

pub overflow_sub-kept : goal.overflow_sub-kept
overflow_sub-kept c = c.requires.range.0

pub overflow_sub-kept-2 : goal.overflow_sub-kept-2
overflow_sub-kept-2 c =
    let range = c.requires.range in
    omega (arith, range.0, range.2.0, c.len.ensures.value)

pub overflow_sub-len : goal.overflow_sub-len
overflow_sub-len c =
    let range = c.requires.range in
    omega (
      arith,
      range.0,
      range.1.0,
      range.2.0,
      c.len.ensures.value,
      c.len-2.ensures.value,
      ap (λ (t : List ℕ). length t) c.in-Ok.ensures.cases.text,
      length-replaced_text c.args.rope.now c.args.start c.args.end (clean c.args.text.now) range.1.0,
    )

pub returns-clause-shift : goal.returns-clause-shift
returns-clause-shift c =
    let made = c.in-Ok.ensures.cases in
    let shift = c.new-shift.ensures in
    put-is c.args.rope.now c.in-Ok.made (clean c.args.text.now) c.args.start c.args.end c.len.result c.len-2.result (reach_of c.new-shift.result)
    made.range made.text c.len.ensures.value c.len-2.ensures.value shift.start shift.end shift.count
