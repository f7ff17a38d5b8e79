use Rattle.std.proofs.Common.{◌≡◌, ◌∙◌, Bool, true, false, not, refl, sym, ap, subst, filter}
use Rattle.std.specs.List.{list_any}
use Rattle.cell_units.specs.declared.fault.Fault.{Fault}
use Rattle.cell_units.specs.declared.fault.Refusal.TheVariants.{UnknownId}
use Rattle.mark_tree.specs.Marks.{IsRefusedFor, has_id, lacks_id}
use Rattle.block_map.proofs.LackedIds.{none-lacked}
use Rattle.block_map.proofs.marks_by_id.without_any.Goals as goal

not-there : (b : Bool) → not b ≡ true → b ≡ false
not-there true e = absurd (cc)
not-there false e = refl

pub returns-in-Err-Refused-clause-ok : goal.returns-in-Err-Refused-clause-ok
returns-in-Err-Refused-clause-ok g c =
    let a = c.in-Err-Refused in
    let there : Bool = list_any (has_id c.args.id) c.in_ok-next.next in
    let lacked = subst (λ (f : Fault). IsRefusedFor UnknownId (not there) f) a.field-0-is a.ensures.refused in
    a.ensures.unchanged ∙ sym (none-lacked c.args.id c.in_ok-next.next (not-there there lacked.1)) ∙ ap (filter (lacks_id c.args.id)) c.in_ok-next.ensures
