use Rattle.std.proofs.Common.{◌∙◌, ap, sym, arith}
use Rattle.std.specs.Option.{option_copied}
use Rattle.mark_tree.proofs.Coding.{end-taken}
use Rattle.mark_tree.proofs.Seeking.{last-none, last-some}
use Rattle.mark_tree.proofs.spaced.offset_on.Goals as goal

pub overflow_cast-result : goal.overflow_cast-result
overflow_cast-result g c =
    let at = c.args.cursor.now in
    omega (arith, end-taken at.place at.items, c.requires.fits, ap (λ s. s.span) c.end.ensures)

pub returns-in-None : goal.returns-in-None
returns-in-None g c =
    let at = c.args.cursor.now in
    last-none at.items at.place c.requires.some (sym c.item.ensures ∙ ap option_copied c.in-None.is)

pub returns-in-Some : goal.returns-in-Some
returns-in-Some g c =
    let at = c.args.cursor.now in
    (last-some at.items at.place c.in-Some.field-0.now c.requires.some (sym c.item.ensures ∙ ap option_copied c.in-Some.is), ap (λ s. s.span) c.end.ensures)
