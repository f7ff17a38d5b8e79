use Rattle.std.proofs.Common.{◌≡◌, ◌∙◌, ◌+◌, ◌≤◌, Some, length, take, min, ap, sym, arith}
use Rattle.std.specs.List.{slice_get}
use Rattle.std.specs.Option.{option_copied}
use Rattle.mark_tree.specs.Entries.{extent_over, last_offset, placed_at}
use Rattle.mark_tree.proofs.Coding.{last-placed, length-placed, placed-get, placed-take, offset_fits-at}
use Rattle.mark_tree.proofs.Seeking.{found-at, past-at, before-at}
use Rattle.mark_tree.proofs.spaced.Spaced.get.Goals as goal

pub returns-in_err-entry-clause-found : goal.returns-in_err-entry-clause-found
returns-in_err-entry-clause-found g c =
    let es = c.cursor_at-cursor.result.items in
    let same : length es ≡ length c.args.self.now = sym (length-placed 0 es) ∙ ap length c.cursor_at-cursor.ensures.items in
    let place : c.cursor_at-cursor.result.place ≡ min c.args.at (length es) + 1 = c.cursor_at-cursor.ensures.place ∙ ap (λ n. min c.args.at n + 1) (sym same) in
    let past : length c.args.self.now ≤ c.args.at = omega (arith, same, past-at es c.args.at c.cursor_at-cursor.result.place place (sym c.item.ensures ∙ ap option_copied c.in_err-entry.was)) in
    rw c.from_residual.ensures past

pub overflow_cast-result : goal.overflow_cast-result
overflow_cast-result g c =
    let es = c.cursor_at-cursor.result.items in
    let same : length es ≡ length c.args.self.now = sym (length-placed 0 es) ∙ ap length c.cursor_at-cursor.ensures.items in
    let place : c.cursor_at-cursor.result.place ≡ min c.args.at (length es) + 1 = c.cursor_at-cursor.ensures.place ∙ ap (λ n. min c.args.at n + 1) (sym same) in
    let found = found-at es c.args.at c.cursor_at-cursor.result.place c.in_ok-entry.entry.now place (sym c.item.ensures ∙ ap option_copied c.in_ok-entry.was) in
    let before = before-at es c.args.at c.cursor_at-cursor.result.place place in
    omega (arith, c.cursor_at-cursor.ensures.fits, offset_fits-at c.args.at es c.in_ok-entry.entry.now found, ap (λ s. s.span) c.start.ensures, ap (λ l. (extent_over l).span) before)

pub overflow_add-result : goal.overflow_add-result
overflow_add-result g c =
    let es = c.cursor_at-cursor.result.items in
    let same : length es ≡ length c.args.self.now = sym (length-placed 0 es) ∙ ap length c.cursor_at-cursor.ensures.items in
    let place : c.cursor_at-cursor.result.place ≡ min c.args.at (length es) + 1 = c.cursor_at-cursor.ensures.place ∙ ap (λ n. min c.args.at n + 1) (sym same) in
    let found = found-at es c.args.at c.cursor_at-cursor.result.place c.in_ok-entry.entry.now place (sym c.item.ensures ∙ ap option_copied c.in_ok-entry.was) in
    let before = before-at es c.args.at c.cursor_at-cursor.result.place place in
    omega (arith, c.cursor_at-cursor.ensures.fits, offset_fits-at c.args.at es c.in_ok-entry.entry.now found, ap (λ s. s.span) c.start.ensures, ap (λ l. (extent_over l).span) before)

pub returns-clause-found : goal.returns-clause-found
returns-clause-found g c =
    let es = c.cursor_at-cursor.result.items in
    let same : length es ≡ length c.args.self.now = sym (length-placed 0 es) ∙ ap length c.cursor_at-cursor.ensures.items in
    let place : c.cursor_at-cursor.result.place ≡ min c.args.at (length es) + 1 = c.cursor_at-cursor.ensures.place ∙ ap (λ n. min c.args.at n + 1) (sym same) in
    let entry = c.in_ok-entry.entry.now in
    let found = found-at es c.args.at c.cursor_at-cursor.result.place entry place (sym c.item.ensures ∙ ap option_copied c.in_ok-entry.was) in
    let before = before-at es c.args.at c.cursor_at-cursor.result.place place in
    let span : (extent_over (take c.args.at es)).span ≡ c.start.result.span = ap (λ l. (extent_over l).span) (sym before) ∙ sym (ap (λ s. s.span) c.start.ensures) in
    let turn : 0 + (extent_over (take c.args.at es)).span + entry.gap ≡ c.start.result.span + entry.gap = omega arith in
    ap (λ l. slice_get l c.args.at) (sym c.cursor_at-cursor.ensures.items)
    ∙ placed-get c.args.at 0 es entry found
    ∙ ap (λ n. Some (placed_at n entry)) turn

pub returns-clause-gap : goal.returns-clause-gap
returns-clause-gap g c =
    let es = c.cursor_at-cursor.result.items in
    let same : length es ≡ length c.args.self.now = sym (length-placed 0 es) ∙ ap length c.cursor_at-cursor.ensures.items in
    let place : c.cursor_at-cursor.result.place ≡ min c.args.at (length es) + 1 = c.cursor_at-cursor.ensures.place ∙ ap (λ n. min c.args.at n + 1) (sym same) in
    let before = before-at es c.args.at c.cursor_at-cursor.result.place place in
    let span : (extent_over (take c.args.at es)).span ≡ c.start.result.span = ap (λ l. (extent_over l).span) (sym before) ∙ sym (ap (λ s. s.span) c.start.ensures) in
    let last : last_offset 0 (take c.args.at c.args.self.now) ≡ 0 + (extent_over (take c.args.at es)).span =
    ap (λ l. last_offset 0 (take c.args.at l)) (sym c.cursor_at-cursor.ensures.items) ∙ ap (last_offset 0) (placed-take c.args.at 0 es) ∙ last-placed 0 (take c.args.at es) in
    omega (arith, last, span)
