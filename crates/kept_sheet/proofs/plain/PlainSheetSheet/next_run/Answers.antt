use Rattle.std.proofs.Common.{◌≡◌, ℕ, ◌<◌, false, List, map, sym, subst}
use Rattle.cell_line.specs.Waiting.{IsNextIfAny, waits}
use Rattle.kept_sheet.proofs.plain.PlainSheetSheet.next_run.Goals as goal

pub next_run-requires : goal.next_run-requires
next_run-requires c =
    let out = c.args.out.now in
    let r = c.args.self.now in
    subst (λ (ms : List ℕ). (line : ℕ) → line < c.args.from → waits ms c.width.result out line ≡ false) (sym c.wraps.ensures)
    (subst (λ (w : ℕ). (line : ℕ) → line < c.args.from → waits (map (λ m. m.width) r.marks) w out line ≡ false) (sym c.width.ensures) c.requires.none)

pub returns-clause-next : goal.returns-clause-next
returns-clause-next c =
    let out = c.args.out.now in
    let r = c.args.self.now in
    subst (λ (w : ℕ). IsNextIfAny (map (λ m. m.width) r.marks) w out c.next_run.result) c.width.ensures
    (subst (λ (ms : List ℕ). IsNextIfAny ms c.width.result out c.next_run.result) c.wraps.ensures c.next_run.ensures)
