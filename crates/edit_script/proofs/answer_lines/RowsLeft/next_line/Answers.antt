-- The next row is made, its line is given, and what is left is what comes after it.
use Rattle.std.proofs.Common.{◌≡◌, ◌<◌, Some, ap, ◌∙◌, arith, drop}
use Rattle.std.specs.Prelude.{slice_get}
use Rattle.edit_script.specs.Answers.{rows_seen}
use Rattle.edit_script.proofs.RowLines.{next-row, get-index}
use Rattle.edit_script.proofs.answer_lines.RowsLeft.next_line.Goals as goal

pub overflow_add-self-2 : goal.overflow_add-self-2
overflow_add-self-2 c = let fits = c.in_ok-refill.ensures.made.fits in let left = c.in_ok-refill.ensures.left in omega (arith, c.if-self-eq0.false)

pub returns-clause-made : goal.returns-clause-made
returns-clause-made c =
    let made = c.in_ok-refill.ensures.made in
    let some : 0 < c.refill.new.self.left = omega (arith, c.in_ok-refill.ensures.left, c.if-self-eq0.false) in
    let below = c.in_ok-refill.ensures.some in
    let is : slice_get c.refill.new.self.made.items c.refill.new.self.used ≡ Some c.index.result.now = get-index c.refill.new.self.made.items c.refill.new.self.used c.index.result.now c.in_ok-refill.ensures.some c.index.ensures in
    let row = next-row c.refill.new.self.made.items c.refill.new.self.used c.refill.new.self.next c.refill.new.self.left (rows_seen c.refill.new.self)
    c.index.result.now c.in_ok-line.line made.same is some c.in_ok-line.ensures in
    let there = made.there in
    let fits = made.fits in
    let few = made.few in
    record { there = omega arith; fits = omega arith; within = omega arith; few = omega arith; same = row.same }

pub returns-clause-line : goal.returns-clause-line
returns-clause-line c =
    let some : 0 < c.refill.new.self.left = omega (arith, c.in_ok-refill.ensures.left, c.if-self-eq0.false) in
    let is : slice_get c.refill.new.self.made.items c.refill.new.self.used ≡ Some c.index.result.now = get-index c.refill.new.self.made.items c.refill.new.self.used c.index.result.now c.in_ok-refill.ensures.some c.index.ensures in
    let row = next-row c.refill.new.self.made.items c.refill.new.self.used c.refill.new.self.next c.refill.new.self.left (rows_seen c.refill.new.self)
    c.index.result.now c.in_ok-line.line c.in_ok-refill.ensures.made.same is some c.in_ok-line.ensures in
    row.line_is ∙ ap (λ l. slice_get l 0) c.in_ok-refill.ensures.kept

pub returns-clause-rest : goal.returns-clause-rest
returns-clause-rest c =
    let some : 0 < c.refill.new.self.left = omega (arith, c.in_ok-refill.ensures.left, c.if-self-eq0.false) in
    let is : slice_get c.refill.new.self.made.items c.refill.new.self.used ≡ Some c.index.result.now = get-index c.refill.new.self.made.items c.refill.new.self.used c.index.result.now c.in_ok-refill.ensures.some c.index.ensures in
    let row = next-row c.refill.new.self.made.items c.refill.new.self.used c.refill.new.self.next c.refill.new.self.left (rows_seen c.refill.new.self)
    c.index.result.now c.in_ok-line.line c.in_ok-refill.ensures.made.same is some c.in_ok-line.ensures in
    row.rest_is ∙ ap (drop 1) c.in_ok-refill.ensures.kept
