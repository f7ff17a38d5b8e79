use Rattle.std.proofs.Common.{◌≡◌, ◌∙◌, ap, sym, length, position, nat_le, arith}
use Rattle.mark_tree.specs.Views.{mark_of}
use Rattle.mark_tree.proofs.MarkViews.{first-of, none-of}
use Rattle.mark_tree.proofs.Moved.{length-map}
use Rattle.mark_tree.proofs.mark_tree.MarkTree.at_or_after.Goals as goal

pub returns-then-at-len-clause-steps : goal.returns-then-at-len-clause-steps
returns-then-at-len-clause-steps g c h few =
    let same : length c.self.inside.marks ≡ length c.args.self.now = sym (length-map mark_of c.self.inside.marks) ∙ ap length c.self.view_is in
    c.first_at-at.ensures.steps h (omega (arith, few, same))

pub returns-else-at-len-clause-steps : goal.returns-else-at-len-clause-steps
returns-else-at-len-clause-steps g c h few =
    let same : length c.self.inside.marks ≡ length c.args.self.now = sym (length-map mark_of c.self.inside.marks) ∙ ap length c.self.view_is in
    c.first_at-at.ensures.steps h (omega (arith, few, same))

pub returns-then-at-len-clause-place : goal.returns-then-at-len-clause-place
returns-then-at-len-clause-place g c =
    let ps = c.self.inside.marks in
    first-of c.args.offset ps c.first_at-at.result (omega (arith, c.len.ensures.len)) c.first_at-at.ensures.before c.first_at-at.ensures.from
    ∙ ap (position (λ m. nat_le c.args.offset m.offset)) c.self.view_is

pub returns-else-at-len-clause-place : goal.returns-else-at-len-clause-place
returns-else-at-len-clause-place g c =
    let ps = c.self.inside.marks in
    none-of c.args.offset ps c.first_at-at.result (omega (arith, c.len.ensures.len, c.first_at-at.ensures.within)) c.first_at-at.ensures.before
    ∙ ap (position (λ m. nat_le c.args.offset m.offset)) c.self.view_is
