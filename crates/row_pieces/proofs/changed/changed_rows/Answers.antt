use Rattle.std.proofs.Common.{◌≡◌, ◌-◌, ℕ, ap, sym, subst, ◌∙◌}
use Rattle.plain_rows.specs.Plain.{record_of}
use Rattle.row_pieces.specs.declared.row_change.RowChange.{RowChange}
use Rattle.row_pieces.specs.Changed.{IsTrue, change, looks, looks_by_line, rows_of_lines}
use Rattle.row_pieces.proofs.Covering.{rows-replaced}
use Rattle.row_pieces.proofs.LandedLooks.{landed-between}
use Rattle.row_pieces.proofs.changed.changed_rows.Goals as goal

pub returns : goal.returns
returns c =
    let old = record_of c.args.before.now in
    let new = record_of c.args.after.now in
    let first : ℕ = c.args.lines.first in
    let end : ℕ = c.args.lines.end in
    let lines = change first end c.args.lines.count in
    let count = c.saturating_sub.ensures ∙ (λ i. c.in_ok-end.ensures i - c.in_ok-from.ensures i) in
    let is : record { from = c.in_ok-from.from; to = c.in_ok-to.to; count = c.saturating_sub.result } ≡ rows_of_lines lines (looks_by_line old) (looks_by_line new) =
    λ i. record { from = c.in_ok-from.ensures i; to = c.in_ok-to.ensures i; count = count i } in
    record {
      exact = is;
      truth = λ t. subst (λ (rows : RowChange). IsTrue rows (looks old) (looks new)) (sym is) (rows-replaced lines (looks_by_line old) (looks_by_line new) t);
      landed = λ l e.
          subst (λ (rows : RowChange). IsTrue rows (looks old) (looks new))
          (sym (is ∙ ap (λ (n : ℕ). rows_of_lines (change first end n) (looks_by_line old) (looks_by_line new)) e))
          (landed-between old new first end c.requires.before.0.marked l);
    }
