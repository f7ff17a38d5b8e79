use Rattle.std.proofs.Common.{◌≡◌, ◌∙◌, ◌<◌, ◌*◌, ◌^◌, ◌+◌, length, min, ap, sym, subst}
use Rattle.mark_tree.proofs.Coding.{length-placed}
use Rattle.mark_tree.proofs.Seeking.{place-by_items}
use Rattle.mark_tree.proofs.spaced.Spaced.cursor_at.Goals as goal

pub returns-clause-place : goal.returns-clause-place
returns-clause-place g c =
    let entries = c.self.inside.entries in
    let same : length c.cursor-cursor.result.items ≡ length c.args.self.now =
    ap length c.cursor-cursor.ensures.items ∙ sym (length-placed 0 entries) ∙ ap length c.self.view_is in
    place-by_items c.cursor-cursor.result.items c.args.at c.seek.new.self.place c.seek.ensures.sought
    ∙ ap (λ n. min c.args.at n + 1) same

pub returns-clause-steps : goal.returns-clause-steps
returns-clause-steps g c h few =
    let entries = c.self.inside.entries in
    let same : length c.cursor-cursor.result.items ≡ length c.args.self.now =
    ap length c.cursor-cursor.ensures.items ∙ sym (length-placed 0 entries) ∙ ap length c.self.view_is in
    c.seek.ensures.steps h (subst (λ n. n < 2 * 6 ^ (h + 1)) (sym same) few)
