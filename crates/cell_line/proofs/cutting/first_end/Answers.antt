use Rattle.std.proofs.Common.{ℕ, ◌+◌, ◌^◌, ◌<◌, ◌≤◌, length, refl, ap, sym, subst, ◌∙◌, arith}
use Rattle.cell_line.specs.declared.filling.Row.{Row}
use Rattle.cell_line.specs.Wrapping.{next_start_of}
use Rattle.cell_line.specs.inside.Filling.{IsOpen}
use Rattle.cell_line.specs.inside.Marks.{left_of}
use Rattle.cell_line.proofs.RowEnds.{over_not, pass_letters, pass_mark, pass_more, pass_new, pass_whole, passing_fits, row_fits, with_more, IsPassing}
use Rattle.cell_line.proofs.Walks.{letters_length}
use Rattle.cell_line.proofs.cutting.first_end.Goals as goal
use Rattle.cell_line.proofs.cutting.first_end.Goals.{After-pass_letters-letters}

pub line-init : goal.line-init
line-init c =
    (pass_new (left_of c.args.walk) c.args.room 0 c.at-row.result _ (left_of c.args.walk) refl (omega arith) c.at-row.ensures, ap (λ (row : Row). row.start) c.at-row.ensures)

pub overflows-requires : goal.overflows-requires
overflows-requires c =
    let es = left_of c.args.walk in
    let p = c.line.invariant.0 in
    let m = pass_mark es c.args.room c.args.lead c.line.at c.line.row c.line.parts (left_of c.line.walk) (left_of c.next_mark.new.self) c.in-Some.mark p c.requires.lead c.requires.some c.in-Some.ensures in
    let asked = c.asked-row.ensures.asked es c.args.room m.0 p.open_row p.parts_are in
    (row_fits es c.args.room c.args.lead c.line.at c.asked-row.result c.in-Some.mark m.0 asked c.requires.fits).0

pub returns-then-overflows-clause-some : goal.returns-then-overflows-clause-some
returns-then-overflows-clause-some c =
    let es = left_of c.args.walk in
    let p = c.line.invariant.0 in
    let m = pass_mark es c.args.room c.args.lead c.line.at c.line.row c.line.parts (left_of c.line.walk) (left_of c.next_mark.new.self) c.in-Some.mark p c.requires.lead c.requires.some c.in-Some.ensures in
    let asked = c.asked-row.ensures.asked es c.args.room m.0 p.open_row p.parts_are in
    c.end.ensures es c.args.room c.args.lead c.in-Some.mark m.0 asked (sym c.overflows.ensures ∙ c.if-overflows.true)
    ∙ ap (next_start_of es c.args.room) (c.asked-row.ensures.start ∙ c.line.invariant.1)

pub with-row-requires-clause-cells : goal.with-row-requires-clause-cells
with-row-requires-clause-cells c =
    let es = left_of c.args.walk in
    let p = c.line.invariant.0 in
    let m = pass_mark es c.args.room c.args.lead c.line.at c.line.row c.line.parts (left_of c.line.walk) (left_of c.next_mark.new.self) c.in-Some.mark p c.requires.lead c.requires.some c.in-Some.ensures in
    let asked = c.asked-row.ensures.asked es c.args.room m.0 p.open_row p.parts_are in
    (row_fits es c.args.room c.args.lead c.line.at c.asked-row.result c.in-Some.mark m.0 asked c.requires.fits).0

pub with-row-requires-clause-since : goal.with-row-requires-clause-since
with-row-requires-clause-since c =
    let es = left_of c.args.walk in
    let p = c.line.invariant.0 in
    let m = pass_mark es c.args.room c.args.lead c.line.at c.line.row c.line.parts (left_of c.line.walk) (left_of c.next_mark.new.self) c.in-Some.mark p c.requires.lead c.requires.some c.in-Some.ensures in
    let asked = c.asked-row.ensures.asked es c.args.room m.0 p.open_row p.parts_are in
    (row_fits es c.args.room c.args.lead c.line.at c.asked-row.result c.in-Some.mark m.0 asked c.requires.fits).1

before : (c : After-pass_letters-letters) → IsPassing (left_of c.args.walk) c.args.room (c.line.at + 1) c.with-row.result c.parts_after-parts.result (left_of c.next_mark.new.self)
before c =
    let es = left_of c.args.walk in
    let p = c.line.invariant.0 in
    let m = pass_mark es c.args.room c.args.lead c.line.at c.line.row c.line.parts (left_of c.line.walk) (left_of c.next_mark.new.self) c.in-Some.mark p c.requires.lead c.requires.some c.in-Some.ensures in
    let asked = c.asked-row.ensures.asked es c.args.room m.0 p.open_row p.parts_are in
    let more = with_more es c.args.room c.args.lead c.line.at c.asked-row.result c.in-Some.mark m.0 asked
    (over_not c.args.room c.args.lead c.line.at c.asked-row.result.cells c.in-Some.mark (sym c.overflows.ensures ∙ c.if-overflows.false)) in
    let next = subst (IsOpen es c.args.room (c.line.at + 1)) (sym c.with-row.ensures) more in
    pass_more es c.args.room c.args.lead c.line.at c.with-row.result c.parts_after-parts.result (left_of c.next_mark.new.self) c.in-Some.mark m.0 m.1 next c.parts_after-parts.ensures

behind : (c : After-pass_letters-letters) →
    IsPassing (left_of c.args.walk) c.args.room (c.line.at + 1 + c.pass_letters-letters.result)
    (record { start = c.with-row.result.start; cells = c.with-row.result.cells + c.pass_letters-letters.result; well = c.with-row.result.well; since = c.with-row.result.since + c.pass_letters-letters.result })
    c.parts_after-parts.result (left_of c.pass_letters-letters.new.self)
behind c =
    pass_letters (left_of c.args.walk) c.args.room c.args.lead (c.line.at + 1) c.pass_letters-letters.result c.with-row.result c.parts_after-parts.result (left_of c.next_mark.new.self) (left_of c.pass_letters-letters.new.self)
    (before c) c.requires.lead c.requires.some c.pass_letters-letters.ensures.letters
    (subst (λ (k : ℕ). c.pass_letters-letters.result ≤ k) c.letters_room.ensures c.pass_letters-letters.ensures.within)

fit : (c : After-pass_letters-letters) →
    (c.with-row.result.cells + c.pass_letters-letters.result < 2 ^ 32) × (c.with-row.result.since + c.pass_letters-letters.result < 2 ^ 32) × (c.line.at + 1 + c.pass_letters-letters.result < 2 ^ 32)
fit c = passing_fits (left_of c.args.walk) c.args.room _ _ _ _ (behind c) c.requires.fits

pub with_letters-row-requires-clause-cells : goal.with_letters-row-requires-clause-cells
with_letters-row-requires-clause-cells c = (fit (goal.at.with_letters-row-requires-clause-cells c).After-pass_letters-letters).0

pub with_letters-row-requires-clause-since : goal.with_letters-row-requires-clause-since
with_letters-row-requires-clause-since c = (fit (goal.at.with_letters-row-requires-clause-since c).After-pass_letters-letters).1

pub overflow_add-at-in-Some : goal.overflow_add-at-in-Some
overflow_add-at-in-Some c = let f = (fit (goal.at.overflow_add-at-in-Some c).After-pass_letters-letters).2 in omega (arith, f)

pub line-preserved : goal.line-preserved
line-preserved c = (
  subst (λ (row : Row). IsPassing (left_of c.args.walk) c.args.room (c.line.at + 1 + c.pass_letters-letters.result) row c.parts_after-parts.result (left_of c.pass_letters-letters.new.self))
      (sym c.with_letters-row.ensures) (behind (goal.at.line-preserved c).After-pass_letters-letters),
  ap (λ (row : Row). row.start) c.with_letters-row.ensures ∙ ap (λ (row : Row). row.start) c.with-row.ensures ∙ c.asked-row.ensures.start ∙ c.line.invariant.1,
)

pub line-smaller : goal.line-smaller
line-smaller c =
    let one = ap length c.in-Some.ensures.1 in
    let more = letters_length (left_of c.next_mark.new.self) c.pass_letters-letters.result (left_of c.pass_letters-letters.new.self) c.pass_letters-letters.ensures.letters in
    omega (arith, one, more)

pub returns-clause-none : goal.returns-clause-none
returns-clause-none c =
    pass_whole (left_of c.args.walk) c.args.room c.line.at c.line.row c.line.parts (left_of c.line.walk) c.line.invariant.0 c.in_default.ensures.0 c.line.invariant.1 (omega (arith, c.requires.some))
