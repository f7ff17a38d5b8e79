use Rattle.std.proofs.Common.{◌≡◌, ◌∙◌, ◌+◌, nat_le, ap, sym, length, arith}
use Rattle.std.specs.List.{position_or_len}
use Rattle.mark_tree.specs.Views.{mark_of}
use Rattle.mark_tree.proofs.MarkViews.{place-from}
use Rattle.mark_tree.proofs.Moved.{length-map}
use Rattle.mark_tree.proofs.mark_tree.MarkTree.places_met.Goals as goal

pub returns-clause-from : goal.returns-clause-from
returns-clause-from g c =
    place-from c.args.shift.start c.self.inside.marks c.places_met.result.from (omega arith) c.places_met.ensures.before c.places_met.ensures.from
    ∙ ap (position_or_len (λ m. nat_le c.args.shift.start m.offset)) c.self.view_is

pub returns-clause-to : goal.returns-clause-to
returns-clause-to g c =
    place-from (c.args.shift.end + 1) c.self.inside.marks c.places_met.result.to c.places_met.ensures.within c.places_met.ensures.upto c.places_met.ensures.behind
    ∙ ap (position_or_len (λ m. nat_le (c.args.shift.end + 1) m.offset)) c.self.view_is

pub returns-clause-within : goal.returns-clause-within
returns-clause-within g c =
    let same : length c.self.inside.marks ≡ length c.args.self.now = sym (length-map mark_of c.self.inside.marks) ∙ ap length c.self.view_is in
    omega (arith, c.places_met.ensures.within, same)

pub returns-clause-steps : goal.returns-clause-steps
returns-clause-steps g c h few =
    let same : length c.self.inside.marks ≡ length c.args.self.now = sym (length-map mark_of c.self.inside.marks) ∙ ap length c.self.view_is in
    c.places_met.ensures.steps h (omega (arith, few, same))
