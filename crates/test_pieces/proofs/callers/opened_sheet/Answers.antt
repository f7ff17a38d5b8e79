use Rattle.std.proofs.Common.{length, sym, ap, subst, ◌∙◌, arith}
use Rattle.cell_units.specs.Text.{IsText}
use Rattle.cell_units.proofs.Characters.{clean-utf8}
use Rattle.cell_units.proofs.Returns.{clean-not_longer}
use Rattle.cell_units.proofs.TextLaws.{clean-no_return}
use Rattle.test_pieces.proofs.callers.opened_sheet.Goals as goal

pub new-requires : goal.new-requires
new-requires c = omega (arith, ap length c.in_ok-cleaned.ensures, clean-not_longer c.args.text.now, c.requires)

pub opened-requires : goal.opened-requires
opened-requires c =
    let text = c.args.text.now in
    subst IsText (sym (c.in_ok-buffer.ensures.ok ∙ c.in_ok-new.ensures ∙ c.in_ok-cleaned.ensures)) (clean-utf8 text c.utf8.text, clean-no_return text)
