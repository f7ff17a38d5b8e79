use Rattle.std.proofs.Common.{◌≡◌, ◌<◌, ◌^◌, ◌∙◌, not, ap, sym, subst, map, filter, IfErr, OnOk, IfOk, arith}
use Rattle.std.specs.List.{All, list_any, Contains}
use Rattle.std.proofs.lemmas.List.Elements.{All-filter, All-contains}
use Rattle.cell_units.specs.declared.fault.Refusal.TheVariants.{UnknownId}
use Rattle.mark_tree.specs.Entries.{end_at}
use Rattle.mark_tree.specs.Marks.{IsRefusedFor}
use Rattle.mark_tree.specs.Ranges.{has_range_id, lacks_range_id}
use Rattle.mark_tree.specs.Order.{lacks_placed_id}
use Rattle.mark_tree.specs.RangeViews.{range_of, IsRange}
use Rattle.mark_tree.proofs.RangeViewed.{any-range, filter-range, contains-range}
use Rattle.mark_tree.proofs.Finding.{contained}
use Rattle.mark_tree.proofs.Splicing.{either}
use Rattle.mark_tree.proofs.range_tree.RangeTree.remove.Goals as goal
use Rattle.mark_tree.proofs.range_tree.RangeTree.remove.Goals.{in-Ok, in-Err}

pub take_id-requires : goal.take_id-requires
take_id-requires c = record { ordered = c.self.invariant.ordered }

pub overflow_add-result : goal.overflow_add-result
overflow_add-result c =
    let fits : end_at c.in-Ok.taken.thing < 2 ^ 32 = All-contains (λ p. end_at p < 2 ^ 32) c.self.inside.ranges c.in-Ok.taken.thing c.len-count.ensures.codable.ends (contained c.self.inside.ranges c.in-Ok.taken.place c.in-Ok.taken.thing c.in-Ok.ensures.thing) in
    omega arith

pub invariant_of-self : goal.invariant_of-self
invariant_of-self c =
    let ps = c.self.inside.ranges in
    record {
      each = either (All IsRange) c.take_id.result c.take_id.new.self (filter (lacks_placed_id c.args.id) ps) ps c.take_id.ensures.ok c.take_id.ensures.unchanged (All-filter (lacks_placed_id c.args.id) IsRange ps c.self.invariant.each) c.self.invariant.each;
      ordered = c.take_id.ensures.ordered;
    }

pub returns-clause-ok : goal.returns-clause-ok
returns-clause-ok c =
    let X : Type 0 = map range_of c.take_id.new.self ≡ filter (lacks_range_id c.args.id) c.args.self.now in
    elim c.match-take_id.branch [
      | in-Ok w ↦ subst (λ r. OnOk r X) (sym w.result-is) (ap (map range_of) w.in-Ok.ensures.ok ∙ filter-range c.args.id c.self.inside.ranges ∙ ap (filter (lacks_range_id c.args.id)) c.self.view_is)
      | in-Err w ↦ subst (λ r. OnOk r X) (sym w.result-is) tt
    ]

pub returns-clause-range : goal.returns-clause-range
returns-clause-range c =
    elim c.match-take_id.branch [
      | in-Ok w ↦ subst (λ r. IfOk r (λ q. Contains c.args.self.now q)) (sym w.result-is) (subst (λ l. Contains l (range_of w.in-Ok.taken.thing)) c.self.view_is (contains-range w.in-Ok.taken.thing c.self.inside.ranges (contained c.self.inside.ranges w.in-Ok.taken.place w.in-Ok.taken.thing w.in-Ok.ensures.thing)))
      | in-Err w ↦ subst (λ r. IfOk r (λ q. Contains c.args.self.now q)) (sym w.result-is) tt
    ]

pub returns-clause-refused : goal.returns-clause-refused
returns-clause-refused c =
    let cause = ap not (any-range c.args.id c.self.inside.ranges ∙ ap (list_any (has_range_id c.args.id)) c.self.view_is) in
    elim c.match-take_id.branch [
      | in-Ok w ↦ subst (λ r. IfErr r (IsRefusedFor UnknownId (not (list_any (has_range_id c.args.id) c.args.self.now)))) (sym w.result-is) tt
      | in-Err w ↦ subst (λ r. IfErr r (IsRefusedFor UnknownId (not (list_any (has_range_id c.args.id) c.args.self.now)))) (sym w.result-is)
          (subst (λ b. IsRefusedFor UnknownId b w.in-Err.fault) cause w.in-Err.ensures.refused)
    ]
