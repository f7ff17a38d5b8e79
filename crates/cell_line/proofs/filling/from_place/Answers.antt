use Rattle.std.proofs.Common.{◌≡◌, ◌⊎◌, inr, ◌+◌, ◌≤◌, ◌++◌, refl, sym, subst}
use Rattle.cell_line.specs.declared.filling.Row.{Row}
use Rattle.cell_line.specs.inside.Filling.{starts_after, IsTurned}
use Rattle.cell_line.proofs.RowEnds.{turn_here}
use Rattle.cell_line.proofs.filling.from_place.Goals as goal

pub returns-then-room-row-clause-turned : goal.returns-then-room-row-clause-turned
returns-then-room-row-clause-turned c = λ es lead all m h why done.
    let t = turn_here es c.args.room lead c.args.at c.args.row c.args.mark c.args.starts.now.items all m h why c.if-row-at.true c.if-room-row.true done in
    let P : Row → Type 0 = λ row. IsTurned es c.args.room c.args.at row
    × ((row.cells + c.args.mark.cells ≤ c.args.room) ⊎ (row.start ≡ c.args.at))
    × (c.push.new.self.items ++ starts_after es c.args.room row.start ≡ all) in
    subst P (sym c.at.ensures) (t.0, inr refl, rw c.in_ok-push.ensures.ok t.1)
