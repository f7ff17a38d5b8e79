use Rattle.std.proofs.Common.{◌≡◌, ◌∙◌, ◌+◌, ◌-◌, ◌*◌, ◌^◌, ◌≤◌, ◌<◌, length, take, drop, min, ap, sym, subst, arith}
use Rattle.std.specs.List.{All}
use Rattle.std.specs.Option.{MatchOption}
use Rattle.mark_tree.specs.Entries.{extent_over, placed_from}
use Rattle.mark_tree.proofs.Coding.{length-placed}
use Rattle.mark_tree.proofs.Seeking.{items-taken, before-offset, from-offset, next-offset}
use Rattle.mark_tree.proofs.spaced.Spaced.next_at.Goals as goal

pub overflow_cast-place : goal.overflow_cast-place
overflow_cast-place g c =
    let es = c.cursor-cursor.result.items in
    let at = c.seek.new.self.place in
    let first : c.start-place.result.items ≡ min (at - 1) (length es) =
    ap (λ s. s.items) c.start-place.ensures ∙ ap (λ l. (extent_over (take (at - 1) l)).items) c.seek.ensures.items ∙ items-taken (at - 1) es in
    omega (arith, first, ap length c.cursor-cursor.ensures.items, c.len-count.ensures, c.len-count.type_inv)

pub returns-clause-within : goal.returns-clause-within
returns-clause-within g c =
    let es = c.cursor-cursor.result.items in
    let at = c.seek.new.self.place in
    let first : c.start-place.result.items ≡ min (at - 1) (length es) =
    ap (λ s. s.items) c.start-place.ensures ∙ ap (λ l. (extent_over (take (at - 1) l)).items) c.seek.ensures.items ∙ items-taken (at - 1) es in
    let shown : placed_from 0 es ≡ c.args.self.now = ap (placed_from 0) c.cursor-cursor.ensures.items ∙ c.self.view_is in
    omega (arith, first, length-placed 0 es, ap length shown)

pub returns-clause-before : goal.returns-clause-before
returns-clause-before g c =
    let es = c.cursor-cursor.result.items in
    let at = c.seek.new.self.place in
    let first : c.start-place.result.items ≡ min (at - 1) (length es) =
    ap (λ s. s.items) c.start-place.ensures ∙ ap (λ l. (extent_over (take (at - 1) l)).items) c.seek.ensures.items ∙ items-taken (at - 1) es in
    let shown : placed_from 0 es ≡ c.args.self.now = ap (placed_from 0) c.cursor-cursor.ensures.items ∙ c.self.view_is in
    let some = c.seek.ensures.sought.past_start in
    let few = c.seek.ensures.sought.at_most_past_end in
    let turn : at - 1 ≡ c.start-place.result.items = omega arith in
    subst (λ n. All (λ p. p.offset < c.args.offset) (take n c.args.self.now)) turn
    (subst (λ l. All (λ p. p.offset < c.args.offset) (take (at - 1) l)) shown
    (before-offset es c.args.offset at c.seek.ensures.sought))

pub returns-clause-from : goal.returns-clause-from
returns-clause-from g c =
    let es = c.cursor-cursor.result.items in
    let at = c.seek.new.self.place in
    let first : c.start-place.result.items ≡ min (at - 1) (length es) =
    ap (λ s. s.items) c.start-place.ensures ∙ ap (λ l. (extent_over (take (at - 1) l)).items) c.seek.ensures.items ∙ items-taken (at - 1) es in
    let shown : placed_from 0 es ≡ c.args.self.now = ap (placed_from 0) c.cursor-cursor.ensures.items ∙ c.self.view_is in
    let some = c.seek.ensures.sought.past_start in
    let few = c.seek.ensures.sought.at_most_past_end in
    let turn : at - 1 ≡ c.start-place.result.items = omega arith in
    subst (λ n. All (λ p. c.args.offset ≤ p.offset) (drop n c.args.self.now)) turn
    (subst (λ l. All (λ p. c.args.offset ≤ p.offset) (drop (at - 1) l)) shown
    (from-offset es c.args.offset at c.seek.ensures.sought))

pub returns-clause-steps : goal.returns-clause-steps
returns-clause-steps g c h few =
    let es = c.cursor-cursor.result.items in
    let shown : placed_from 0 es ≡ c.args.self.now = ap (placed_from 0) c.cursor-cursor.ensures.items ∙ c.self.view_is in
    let same : length es ≡ length c.args.self.now = sym (length-placed 0 es) ∙ ap length shown in
    c.seek.ensures.steps h (subst (λ n. n < 2 * 6 ^ (h + 1)) (sym same) few)

pub returns-clause-offset : goal.returns-clause-offset
returns-clause-offset g c d =
    let es = c.cursor-cursor.result.items in
    let at = c.seek.new.self.place in
    let first : c.start-place.result.items ≡ min (at - 1) (length es) =
    ap (λ s. s.items) c.start-place.ensures ∙ ap (λ l. (extent_over (take (at - 1) l)).items) c.seek.ensures.items ∙ items-taken (at - 1) es in
    let shown : placed_from 0 es ≡ c.args.self.now = ap (placed_from 0) c.cursor-cursor.ensures.items ∙ c.self.view_is in
    let same = c.seek.ensures.items in
    next-offset es c.args.self.now c.start-place.result.items at c.offset_on-offset.result d shown c.seek.ensures.sought.past_start first
    (subst (λ l. MatchOption c.offset_on-offset.result (length l < at) (λ o. (at ≤ length l) × (o ≡ (extent_over (take at l)).span))) same c.offset_on-offset.ensures)
