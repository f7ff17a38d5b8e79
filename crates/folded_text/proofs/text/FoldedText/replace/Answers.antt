use Rattle.std.proofs.Common.{ℕ, List, Some, option_map, subst, sym}
use Rattle.cell_units.proofs.Characters.{clean-utf8}
use Rattle.cell_units.specs.Text.{clean}
use Rattle.edit_patch.specs.Leads.{Reach, reach_of}
use Rattle.folded_text.proofs.Texts.{is-replaced}
use Rattle.folded_text.specs.Shown.{IsShown}
use Rattle.folded_text.proofs.text.FoldedText.replace.Goals as goal

pub follow-requires : goal.follow-requires
follow-requires c =
    let made = c.in_ok-rope.ensures in
    is-replaced c.args.self.now.rope c.in_ok-rope.rope (clean c.args.text.now) c.args.start c.args.end (reach_of c.in_ok-rope.shift)
    (clean-utf8 c.args.text.now c.utf8.text) made.range made.text made.shift

pub returns-clause-shown : goal.returns-clause-shown
returns-clause-shown c =
    let m = c.args.self.now in
    let made = c.in_ok-follow.field-0 in
    let e = c.in_ok-follow.ensures in
    let text = e.text in
    let put = c.in_ok-rope.ensures.shift in
    subst (λ (p : List ℕ × Reach). IsShown p.0 (Some p.1) m.inlays m.folds made.0 (option_map reach_of made.1)) (λ i. (sym text i, put i)) e.shown
