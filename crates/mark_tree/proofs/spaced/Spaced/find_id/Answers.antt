use Rattle.std.proofs.Common.{◌≡◌, ◌∙◌, ap, sym, length, arith, position}
use Rattle.std.specs.Option.{is_some}
use Rattle.mark_tree.specs.Entries.{placed_from}
use Rattle.mark_tree.specs.Order.{has_placed_id}
use Rattle.mark_tree.proofs.Coding.{length-placed, position-placed}
use Rattle.mark_tree.proofs.Finding.{position-any}
use Rattle.mark_tree.proofs.spaced.Spaced.find_id.Goals as goal

pub returns-clause-found : goal.returns-clause-found
returns-clause-found g c =
    let shown : placed_from 0 c.self.inside.entries ≡ c.args.self.now = c.self.view_is in
    c.position.ensures.place ∙ position-placed c.args.id 0 c.self.inside.entries ∙ ap (position (has_placed_id c.args.id)) shown

pub returns-clause-any : goal.returns-clause-any
returns-clause-any g c =
    let shown : placed_from 0 c.self.inside.entries ≡ c.args.self.now = c.self.view_is in
    ap is_some (c.position.ensures.place ∙ position-placed c.args.id 0 c.self.inside.entries ∙ ap (position (has_placed_id c.args.id)) shown)
    ∙ position-any (has_placed_id c.args.id) c.args.self.now

pub returns-clause-steps : goal.returns-clause-steps
returns-clause-steps g c =
    let same : length c.self.inside.entries ≡ length c.args.self.now = sym (length-placed 0 c.self.inside.entries) ∙ ap length c.self.view_is in
    omega (arith, c.position.ensures.steps, same)
