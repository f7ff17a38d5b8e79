use Rattle.std.proofs.Common.{◌≡◌, ◌⊎◌, inl, inr, ◌+◌, ◌≤◌, ◌<◌, ℕ, ◌++◌, sym, subst, ◌∙◌, arith}
use Rattle.cell_line.specs.declared.filling.Row.{Row}
use Rattle.cell_line.specs.inside.Filling.{starts_left, IsOpen}
use Rattle.cell_line.proofs.RowEnds.{over_cells, over_not, turn_past, turn_with}
use Rattle.cell_line.proofs.filling.fill.Goals as goal

pub returns-then-not-overflows : goal.returns-then-not-overflows
returns-then-not-overflows c = λ es all m h done.
    let P : Row → Type 0 = λ row. IsOpen es c.args.room (c.args.at + 1) row × (c.args.starts.now.items ++ starts_left es c.args.room row.start (c.args.at + 1) ≡ all) in
    subst P (sym c.with.ensures)
    (turn_with es c.args.room c.args.lead c.args.at c.args.row c.args.mark c.args.starts.now.items all m h
    (over_not c.args.room c.args.lead c.args.at c.args.row.cells c.args.mark (sym c.overflows.ensures ∙ c.if-not-overflows.true)) done)

at_start : (room cells start at : ℕ) → (cells ≤ room) ⊎ (start ≡ at) → room < cells → start ≡ at
at_start room cells start at (inl small) over = absurd (omega (arith, small, over))
at_start room cells start at (inr here) over = here

pub returns-then-room-last : goal.returns-then-room-last
returns-then-room-last c = λ es all m h done.
    let over = sym c.overflows.ensures ∙ c.if-not-overflows.false in
    let why = (over_cells c.args.room c.args.lead c.args.at c.args.row.cells c.args.mark over).1 in
    let a = c.in_ok-turned.ensures.turned es c.args.room c.args.lead c.args.at c.args.mark all m h over done in
    let b = c.in_ok-last.ensures.turned es c.args.lead all m a.0 why a.1 in
    let P : Row → Type 0 = λ row. IsOpen es c.args.room (c.args.at + 1) row × (c.from_place.new.starts.items ++ starts_left es c.args.room row.start (c.args.at + 1) ≡ all) in
    subst P (sym c.at.ensures)
    (turn_past es c.args.room c.args.lead c.args.at c.in_ok-last.last c.args.mark _ all m b.0 why
    (at_start c.args.room (c.in_ok-last.last.cells + c.args.mark.cells) c.in_ok-last.last.start c.args.at b.1 c.if-room-last.true) c.if-room-last.true b.2)

pub returns : goal.returns
returns c = λ es all m h done.
    let over = sym c.overflows.ensures ∙ c.if-not-overflows.false in
    let why = (over_cells c.args.room c.args.lead c.args.at c.args.row.cells c.args.mark over).1 in
    let a = c.in_ok-turned.ensures.turned es c.args.room c.args.lead c.args.at c.args.mark all m h over done in
    let b = c.in_ok-last.ensures.turned es c.args.lead all m a.0 why a.1 in
    let P : Row → Type 0 = λ row. IsOpen es c.args.room (c.args.at + 1) row × (c.from_place.new.starts.items ++ starts_left es c.args.room row.start (c.args.at + 1) ≡ all) in
    subst P (sym c.with-2.ensures)
    (turn_with es c.args.room c.args.lead c.args.at c.in_ok-last.last c.args.mark _ all m b.0.0 (inl (omega (arith, c.if-room-last.false))) b.2)
