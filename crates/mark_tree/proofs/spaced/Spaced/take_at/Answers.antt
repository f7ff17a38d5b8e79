use Rattle.std.proofs.Common.{◌≡◌, ◌+◌, ◌*◌, ◌^◌, ◌<◌, ◌∙◌, length, filter, ap, sym, subst, arith, le_trans}
use Rattle.mark_tree.specs.Entries.{IsCodable, spliced}
use Rattle.mark_tree.specs.Order.{lacks_placed_id, IsOrdered}
use Rattle.mark_tree.proofs.Changing.{no_shift, spliced-at, spliced-out, codable-taken, ordered-taken, length-taken}
use Rattle.mark_tree.proofs.spaced.Spaced.take_at.Goals as goal

pub overflow_add-at : goal.overflow_add-at
overflow_add-at g c = omega (arith, c.requires.within, c.len-count.ensures.codable.small)

pub splice-requires-clause-codable : goal.splice-requires-clause-codable
splice-requires-clause-codable g c =
    let at = c.args.at in
    let ps = c.args.self.now in
    let thing = c.in_ok-thing.thing in
    let made = ap (λ l. spliced at (at + 1) l no_shift ps) c.new.ensures.items ∙ spliced-at at thing ps c.requires.ordered c.in_ok-thing.ensures.copy in
    subst IsCodable (sym made) (codable-taken thing.id ps c.requires.ordered c.len-count.ensures.codable)

pub splice-requires-clause-within : goal.splice-requires-clause-within
splice-requires-clause-within g c = omega (arith, c.requires.within)

pub splice-requires-clause-behind : goal.splice-requires-clause-behind
splice-requires-clause-behind g c k d lt = omega arith

pub returns-clause-ok : goal.returns-clause-ok
returns-clause-ok g c =
    c.in_ok-splice.ensures.ok ∙ ap (λ l. spliced c.args.at (c.args.at + 1) l no_shift c.args.self.now) c.new.ensures.items ∙ spliced-out c.args.at c.args.self.now

pub returns-clause-ordered : goal.returns-clause-ordered
returns-clause-ordered g c =
    let at = c.args.at in
    let ps = c.args.self.now in
    let thing = c.in_ok-thing.thing in
    let made = c.in_ok-splice.ensures.ok ∙ ap (λ l. spliced at (at + 1) l no_shift ps) c.new.ensures.items ∙ spliced-at at thing ps c.requires.ordered c.in_ok-thing.ensures.copy in
    subst IsOrdered (sym made) (ordered-taken thing.id ps c.requires.ordered)

pub returns-clause-steps : goal.returns-clause-steps
returns-clause-steps g c h few =
    let at = c.args.at in
    let ps = c.args.self.now in
    let thing = c.in_ok-thing.thing in
    let made : spliced at (at + 1) c.new.result.items no_shift ps ≡ filter (lacks_placed_id thing.id) ps =
    ap (λ l. spliced at (at + 1) l no_shift ps) c.new.ensures.items ∙ spliced-at at thing ps c.requires.ordered c.in_ok-thing.ensures.copy in
    let new : length (spliced at (at + 1) c.new.result.items no_shift ps) < 2 * 6 ^ (h + 1) = omega (arith, few, ap length made, length-taken thing.id ps) in
    omega (arith, c.in_ok-thing.ensures.steps h few, c.in_ok-splice.ensures.steps h few new, ap length c.new.ensures.items)

pub returns-in_err-thing-clause-steps : goal.returns-in_err-thing-clause-steps
returns-in_err-thing-clause-steps g c h few =
    let one = c.in_err-thing.ensures.steps h few in
    omega (arith, one)

pub returns-in_err-splice-clause-ordered : goal.returns-in_err-splice-clause-ordered
returns-in_err-splice-clause-ordered g c = subst IsOrdered (sym c.in_err-splice.ensures.unchanged) c.requires.ordered

pub returns-in_err-splice-clause-counted : goal.returns-in_err-splice-clause-counted
returns-in_err-splice-clause-counted g c = le_trans c.in_ok-thing.ensures.counted c.in_err-splice.ensures.counted

pub returns-in_err-splice-clause-steps : goal.returns-in_err-splice-clause-steps
returns-in_err-splice-clause-steps g c h few =
    let at = c.args.at in
    let ps = c.args.self.now in
    let thing = c.in_ok-thing.thing in
    let made : spliced at (at + 1) c.new.result.items no_shift ps ≡ filter (lacks_placed_id thing.id) ps =
    ap (λ l. spliced at (at + 1) l no_shift ps) c.new.ensures.items ∙ spliced-at at thing ps c.requires.ordered c.in_ok-thing.ensures.copy in
    let new : length (spliced at (at + 1) c.new.result.items no_shift ps) < 2 * 6 ^ (h + 1) = omega (arith, few, ap length made, length-taken thing.id ps) in
    omega (arith, c.in_ok-thing.ensures.steps h few, c.in_err-splice.ensures.steps h few new, ap length c.new.ensures.items)

pub returns-clause-counted : goal.returns-clause-counted
returns-clause-counted g c = le_trans c.in_ok-thing.ensures.counted c.in_ok-splice.ensures.counted
