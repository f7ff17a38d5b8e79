use Rattle.std.proofs.Common.{◌≡◌, ◌+◌, ◌*◌, ◌^◌, ◌<◌, ◌++◌, ◌∷◌, ◌∙◌, length, take, drop, ap, sym, subst, arith, le_trans}
use Rattle.cell_units.specs.Sorting.{insert_by}
use Rattle.mark_tree.specs.Entries.{IsCodable, spliced}
use Rattle.mark_tree.specs.Order.{placed_le, IsOrdered}
use Rattle.mark_tree.proofs.Changing.{no_shift, placed-at, shifted-none, spliced-added, codable-added, ordered-added, length-added, put-steps}
use Rattle.mark_tree.proofs.spaced.Spaced.put.Goals as goal

pub splice-requires-clause-codable : goal.splice-requires-clause-codable
splice-requires-clause-codable g c =
    let at = c.place_for-at.result in
    let added : spliced at at c.in_ok-single.single.items no_shift c.args.self.now ≡ insert_by placed_le c.args.fresh c.args.self.now =
    ap (λ l. spliced at at l no_shift c.args.self.now) c.in_ok-single.ensures ∙ spliced-added at c.args.fresh c.args.self.now (placed-at c.args.fresh c.args.self.now c.key.result at c.key.ensures c.place_for-at.ensures.place) in
    subst IsCodable (sym added) (codable-added c.args.fresh c.args.self.now c.requires.ordered c.len-count.ensures.codable c.requires.end c.requires.small)

pub splice-requires-clause-behind : goal.splice-requires-clause-behind
splice-requires-clause-behind g c k d lt = omega arith

pub returns-clause-ok : goal.returns-clause-ok
returns-clause-ok g c =
    let at = c.place_for-at.result in
    c.in_ok-splice.ensures.ok ∙ ap (λ l. spliced at at l no_shift c.args.self.now) c.in_ok-single.ensures ∙ spliced-added at c.args.fresh c.args.self.now (placed-at c.args.fresh c.args.self.now c.key.result at c.key.ensures c.place_for-at.ensures.place)

pub returns-clause-place : goal.returns-clause-place
returns-clause-place g c =
    let at = c.place_for-at.result in
    c.in_ok-splice.ensures.ok ∙ ap (λ l. spliced at at l no_shift c.args.self.now) c.in_ok-single.ensures ∙ ap (λ l. take at c.args.self.now ++ c.args.fresh ∷ l) (shifted-none (drop at c.args.self.now))

pub returns-clause-within : goal.returns-clause-within
returns-clause-within g c = c.place_for-at.ensures.place.within

pub returns-clause-ordered : goal.returns-clause-ordered
returns-clause-ordered g c =
    let at = c.place_for-at.result in
    let made = c.in_ok-splice.ensures.ok ∙ ap (λ l. spliced at at l no_shift c.args.self.now) c.in_ok-single.ensures ∙ spliced-added at c.args.fresh c.args.self.now (placed-at c.args.fresh c.args.self.now c.key.result at c.key.ensures c.place_for-at.ensures.place) in
    subst IsOrdered (sym made) (ordered-added c.args.fresh c.args.self.now c.requires.ordered c.requires.fresh)

pub returns-clause-steps : goal.returns-clause-steps
returns-clause-steps g c h few =
    let at = c.place_for-at.result in
    let old : length c.args.self.now < 2 * 6 ^ (h + 1) = omega (arith, few) in
    let added : spliced at at c.in_ok-single.single.items no_shift c.args.self.now ≡ insert_by placed_le c.args.fresh c.args.self.now =
    ap (λ l. spliced at at l no_shift c.args.self.now) c.in_ok-single.ensures ∙ spliced-added at c.args.fresh c.args.self.now (placed-at c.args.fresh c.args.self.now c.key.result at c.key.ensures c.place_for-at.ensures.place) in
    let new : length (spliced at at c.in_ok-single.single.items no_shift c.args.self.now) < 2 * 6 ^ (h + 1) = omega (arith, few, ap length added, length-added c.args.fresh c.args.self.now) in
    put-steps h c.args.steps.now c.place_for-at.new.steps c.splice.new.steps (c.place_for-at.ensures.steps h old)
    (omega (arith, c.in_ok-splice.ensures.steps h old new, ap length c.in_ok-single.ensures))

pub returns-in_err-single-clause-steps : goal.returns-in_err-single-clause-steps
returns-in_err-single-clause-steps g c h few =
    let old : length c.args.self.now < 2 * 6 ^ (h + 1) = omega (arith, few) in
    let one = c.place_for-at.ensures.steps h old in
    omega (arith, one)

pub returns-in_err-splice-clause-ordered : goal.returns-in_err-splice-clause-ordered
returns-in_err-splice-clause-ordered g c = subst IsOrdered (sym c.in_err-splice.ensures.unchanged) c.requires.ordered

pub returns-in_err-splice-clause-counted : goal.returns-in_err-splice-clause-counted
returns-in_err-splice-clause-counted g c = le_trans c.place_for-at.ensures.counted c.in_err-splice.ensures.counted

pub returns-in_err-splice-clause-steps : goal.returns-in_err-splice-clause-steps
returns-in_err-splice-clause-steps g c h few =
    let at = c.place_for-at.result in
    let old : length c.args.self.now < 2 * 6 ^ (h + 1) = omega (arith, few) in
    let added : spliced at at c.in_ok-single.single.items no_shift c.args.self.now ≡ insert_by placed_le c.args.fresh c.args.self.now =
    ap (λ l. spliced at at l no_shift c.args.self.now) c.in_ok-single.ensures ∙ spliced-added at c.args.fresh c.args.self.now (placed-at c.args.fresh c.args.self.now c.key.result at c.key.ensures c.place_for-at.ensures.place) in
    let new : length (spliced at at c.in_ok-single.single.items no_shift c.args.self.now) < 2 * 6 ^ (h + 1) = omega (arith, few, ap length added, length-added c.args.fresh c.args.self.now) in
    put-steps h c.args.steps.now c.place_for-at.new.steps c.splice.new.steps (c.place_for-at.ensures.steps h old)
    (omega (arith, c.in_err-splice.ensures.steps h old new, ap length c.in_ok-single.ensures))

pub returns-clause-counted : goal.returns-clause-counted
returns-clause-counted g c = le_trans c.place_for-at.ensures.counted c.in_ok-splice.ensures.counted
