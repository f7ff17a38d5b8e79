use Rattle.std.proofs.Common.{◌<◌, length, ap, sym, subst, ◌∙◌, arith}
use Rattle.std.specs.List.{All}
use Rattle.display_sheet.specs.declared.wraps.Wrapped.{Wrapped}
use Rattle.display_sheet.specs.Wraps.{rows_of_lines}
use Rattle.display_sheet.proofs.wraps.Wraps.from_slice.Goals as goal

pub invariant_of-result : goal.invariant_of-result
invariant_of-result c =
    let are = c.in_ok-chunked.ensures.joined in
    record {
      full = c.in_ok-chunked.ensures.full;
      counted = sym (ap length are);
      few = omega (arith, c.requires, ap length are);
      summed = c.rows_of_lines.ensures.rows ∙ sym (ap rows_of_lines are);
      small = subst (All (λ (l : Wrapped). l.rows < 4294967296)) (sym are) c.rows_of_lines.ensures.small;
    }
