use Rattle.std.proofs.Common.{◌≡◌, ◌∙◌, ◌-◌, length, take, min, ap, sym, arith}
use Rattle.mark_tree.specs.Entries.{extent_over, last_offset}
use Rattle.mark_tree.proofs.Coding.{length-placed, last-placed, placed-take, end-taken, taken-min}
use Rattle.mark_tree.proofs.spaced.Spaced.offset_before.Goals as goal

pub overflow_cast-result : goal.overflow_cast-result
overflow_cast-result g c =
    let es = c.cursor_at.result.items in
    omega (arith, end-taken (c.cursor_at.result.place - 1) es, c.cursor_at.ensures.fits, ap (λ s. s.span) c.start.ensures)

pub returns-clause-offset : goal.returns-clause-offset
returns-clause-offset g c =
    let es = c.cursor_at.result.items in
    let same : length es ≡ length c.args.self.now = sym (length-placed 0 es) ∙ ap length c.cursor_at.ensures.items in
    let turn : c.cursor_at.result.place - 1 ≡ min c.args.at (length es) = omega (arith, c.cursor_at.ensures.place) in
    ap (λ s. s.span) c.start.ensures
    ∙ ap (λ n. (extent_over (take n es)).span) turn
    ∙ ap (λ l. (extent_over l).span) (taken-min c.args.at es)
    ∙ omega (arith, last-placed 0 (take c.args.at es))
    ∙ ap (last_offset 0) (sym (placed-take c.args.at 0 es))
    ∙ ap (λ l. last_offset 0 (take c.args.at l)) c.cursor_at.ensures.items
