use Rattle.std.proofs.Common.{◌≡◌, ◌∙◌, ◌-◌, length, take, min, ap, subst, arith}
use Rattle.std.specs.Ordering.{nat_cmp}
use Rattle.cell_units.specs.declared.place.Bias.TheVariants.{Left}
use Rattle.sum_tree.specs.Cursors.{IsSought}
use Rattle.mark_tree.specs.Extents.{none, both, by_end}
use Rattle.mark_tree.specs.Entries.{extent_of, extent_over, placed_from}
use Rattle.mark_tree.specs.Reaching.{IsFirstReaching}
use Rattle.mark_tree.proofs.Seeking.{items-taken}
use Rattle.mark_tree.proofs.FirstReaching.{short-counted}
use Rattle.mark_tree.proofs.reaching.count_short.Goals as goal

pub overflow_cast-result : goal.overflow_cast-result
overflow_cast-result g c =
    let items = c.cursor-cursor.result.items in
    let place = c.seek.new.self.place in
    let first : c.start.result.items ≡ min (place - 1) (length items) =
    ap (λ s. s.items) c.start.ensures ∙ ap (λ l. (extent_over (take (place - 1) l)).items) c.seek.ensures.items ∙ items-taken (place - 1) items in
    omega (arith, first, ap length c.cursor-cursor.ensures.items, c.len-count.ensures, c.len-count.type_inv)

pub returns-clause-count : goal.returns-clause-count
returns-clause-count g c =
    let items = c.cursor-cursor.result.items in
    let place = c.seek.new.self.place in
    let base = c.args.base in
    let first : c.start.result.items ≡ min (place - 1) (length items) =
    ap (λ s. s.items) c.start.ensures ∙ ap (λ l. (extent_over (take (place - 1) l)).items) c.seek.ensures.items ∙ items-taken (place - 1) items in
    let some = c.seek.ensures.sought.past_start in
    let few = c.seek.ensures.sought.at_most_past_end in
    let turn : place - 1 ≡ c.start.result.items = omega arith in
    let less : c.saturating_sub.result ≡ c.args.offset - base = omega (arith, c.saturating_sub.ensures) in
    subst (IsFirstReaching 0 c.args.offset (placed_from base c.args.entries.now)) turn
    (short-counted c.args.entries.now c.args.offset base place
    (subst (λ l. IsSought none both extent_of by_end (λ a b. nat_cmp a.end b.end) l (record { end = c.args.offset - base; span = 0; items = 0 }) Left place) c.cursor-cursor.ensures.items
    (subst (λ n. IsSought none both extent_of by_end (λ a b. nat_cmp a.end b.end) items (record { end = n; span = 0; items = 0 }) Left place) less c.seek.ensures.sought)))
