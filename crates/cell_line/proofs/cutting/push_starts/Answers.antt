use Rattle.std.proofs.Common.{◌≡◌, ◌+◌, ◌++◌, ◌^◌, ◌<◌, ◌≤◌, ℕ, List, length, ap, sym, subst, ◌∙◌, arith}
use Rattle.cell_line.specs.declared.filling.Row.{Row}
use Rattle.cell_line.specs.Wrapping.{row_starts}
use Rattle.cell_line.specs.inside.Filling.{letters_room_at, starts_after, starts_left}
use Rattle.cell_line.specs.inside.Marks.{left_of}
use Rattle.cell_line.proofs.RowEnds.{left_new, letters_left, pass_end, pass_letters, pass_mark, pass_more, pass_new, passing_fits, row_fits, IsPassing}
use Rattle.cell_line.proofs.Walks.{letters_length}
use Rattle.cell_line.proofs.cutting.push_starts.Goals as goal
use Rattle.cell_line.proofs.cutting.push_starts.Goals.{After-pass_letters-letters}

pub line-init : goal.line-init
line-init c =
    let es = left_of c.args.walk in (
      pass_new es c.args.room c.args.from c.at-row.result _ (left_of c.skip.new.walk) c.skip.ensures c.requires.within c.at-row.ensures,
      ap (λ (row : Row). c.args.starts.now.items ++ starts_left es c.args.room row.start c.args.from) c.at-row.ensures
          ∙ ap (λ (rest : List ℕ). c.args.starts.now.items ++ rest) (left_new es c.args.room c.args.from c.args.from (omega arith)),
    )

pub fill-requires-clause-cells : goal.fill-requires-clause-cells
fill-requires-clause-cells c =
    let es = left_of c.args.walk in
    let p = c.line.invariant.0 in
    let m = pass_mark es c.args.room c.args.lead c.line.at c.line.row c.line.parts (left_of c.line.walk) (left_of c.next_mark.new.self) c.in-Some.mark p c.requires.lead c.requires.some c.in-Some.ensures in
    let asked = c.asked-asked.ensures.asked es c.args.room m.0 p.open_row p.parts_are in
    (row_fits es c.args.room c.args.lead c.line.at c.asked-asked.result c.in-Some.mark m.0 asked c.requires.fits).0

pub fill-requires-clause-since : goal.fill-requires-clause-since
fill-requires-clause-since c =
    let es = left_of c.args.walk in
    let p = c.line.invariant.0 in
    let m = pass_mark es c.args.room c.args.lead c.line.at c.line.row c.line.parts (left_of c.line.walk) (left_of c.next_mark.new.self) c.in-Some.mark p c.requires.lead c.requires.some c.in-Some.ensures in
    let asked = c.asked-asked.ensures.asked es c.args.room m.0 p.open_row p.parts_are in
    (row_fits es c.args.room c.args.lead c.line.at c.asked-asked.result c.in-Some.mark m.0 asked c.requires.fits).1

before : (c : After-pass_letters-letters) →
    IsPassing (left_of c.args.walk) c.args.room (c.line.at + 1) c.in_ok-row.row c.parts_after-parts.result (left_of c.next_mark.new.self)
    × (c.fill.new.starts.items ++ starts_left (left_of c.args.walk) c.args.room c.in_ok-row.row.start (c.line.at + 1)
    ≡ c.args.starts.now.items ++ row_starts (left_of c.args.walk) c.args.room (length (left_of c.args.walk)) c.args.from)
before c =
    let es = left_of c.args.walk in
    let p = c.line.invariant.0 in
    let m = pass_mark es c.args.room c.args.lead c.line.at c.line.row c.line.parts (left_of c.line.walk) (left_of c.next_mark.new.self) c.in-Some.mark p c.requires.lead c.requires.some c.in-Some.ensures in
    let asked = c.asked-asked.ensures.asked es c.args.room m.0 p.open_row p.parts_are in
    let all = c.args.starts.now.items ++ row_starts es c.args.room (length es) c.args.from in
    let begun = c.in_ok-begin.ensures es c.args.room all m.0.within c.line.invariant.1 in
    let filled = c.in_ok-row.ensures es all m.0 asked
    (ap (λ (s : ℕ). c.begin.new.starts.items ++ starts_after es c.args.room s) c.asked-asked.ensures.start ∙ begun) in (
      pass_more es c.args.room c.args.lead c.line.at c.in_ok-row.row c.parts_after-parts.result (left_of c.next_mark.new.self) c.in-Some.mark m.0 m.1 filled.0 c.parts_after-parts.ensures,
      filled.1,
    )

within : (c : After-pass_letters-letters) → c.pass_letters-letters.result ≤ letters_room_at c.args.room c.in_ok-row.row (c.line.at + 1) c.parts_after-parts.result
within c = subst (λ (k : ℕ). c.pass_letters-letters.result ≤ k) c.letters_room.ensures c.pass_letters-letters.ensures.within

behind : (c : After-pass_letters-letters) →
    IsPassing (left_of c.args.walk) c.args.room (c.line.at + 1 + c.pass_letters-letters.result)
    (record { start = c.in_ok-row.row.start; cells = c.in_ok-row.row.cells + c.pass_letters-letters.result; well = c.in_ok-row.row.well; since = c.in_ok-row.row.since + c.pass_letters-letters.result })
    c.parts_after-parts.result (left_of c.pass_letters-letters.new.self)
behind c =
    pass_letters (left_of c.args.walk) c.args.room c.args.lead (c.line.at + 1) c.pass_letters-letters.result c.in_ok-row.row c.parts_after-parts.result (left_of c.next_mark.new.self) (left_of c.pass_letters-letters.new.self)
    (before c).0 c.requires.lead c.requires.some c.pass_letters-letters.ensures.letters (within c)

fit : (c : After-pass_letters-letters) →
    (c.in_ok-row.row.cells + c.pass_letters-letters.result < 2 ^ 32) × (c.in_ok-row.row.since + c.pass_letters-letters.result < 2 ^ 32) × (c.line.at + 1 + c.pass_letters-letters.result < 2 ^ 32)
fit c = passing_fits (left_of c.args.walk) c.args.room _ _ _ _ (behind c) c.requires.fits

pub with_letters-row-requires-clause-cells : goal.with_letters-row-requires-clause-cells
with_letters-row-requires-clause-cells c = (fit (goal.at.with_letters-row-requires-clause-cells c).After-pass_letters-letters).0

pub with_letters-row-requires-clause-since : goal.with_letters-row-requires-clause-since
with_letters-row-requires-clause-since c = (fit (goal.at.with_letters-row-requires-clause-since c).After-pass_letters-letters).1

pub overflow_add-at-in-Some : goal.overflow_add-at-in-Some
overflow_add-at-in-Some c = let f = (fit (goal.at.overflow_add-at-in-Some c).After-pass_letters-letters).2 in omega (arith, f)

pub line-preserved : goal.line-preserved
line-preserved c =
    let at = (goal.at.line-preserved c).After-pass_letters-letters in
    let es = left_of c.args.walk in
    let row = c.in_ok-row.row in
    let n = c.pass_letters-letters.result in (
      subst (λ (r : Row). IsPassing es c.args.room (c.line.at + 1 + n) r c.parts_after-parts.result (left_of c.pass_letters-letters.new.self)) (sym c.with_letters-row.ensures) (behind at),
      ap (λ (r : Row). c.fill.new.starts.items ++ starts_left es c.args.room r.start (c.line.at + 1 + n)) c.with_letters-row.ensures
          ∙ ap (λ (rest : List ℕ). c.fill.new.starts.items ++ rest) (sym (letters_left es c.args.room (c.line.at + 1) n row c.parts_after-parts.result (within at)))
          ∙ (before at).1,
    )

pub line-smaller : goal.line-smaller
line-smaller c =
    let one = ap length c.in-Some.ensures.1 in
    let more = letters_length (left_of c.next_mark.new.self) c.pass_letters-letters.result (left_of c.pass_letters-letters.new.self) c.pass_letters-letters.ensures.letters in
    omega (arith, one, more)

pub returns : goal.returns
returns c =
    pass_end (left_of c.args.walk) c.args.room c.line.at c.line.row c.line.parts (left_of c.line.walk) c.line.starts.items _ c.line.invariant.0 c.in_default.ensures.0 c.line.invariant.1
