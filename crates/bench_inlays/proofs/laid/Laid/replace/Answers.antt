use Rattle.std.proofs.Common.{◌≡◌, ◌∙◌, List, ℕ, length, ap, sym, subst}
use Rattle.cell_units.specs.Operation.{replaced_text}
use Rattle.cell_units.specs.Text.{clean}
use Rattle.cell_units.proofs.Characters.{clean-utf8}
use Rattle.text_rope.specs.Edits.{IsRange}
use Rattle.edit_patch.specs.Leads.{reach_of}
use Rattle.inlay_map.proofs.ReplacedTexts.{IsTold, told, told-leads, told-stand}
use Rattle.bench_inlays.proofs.laid.Laid.replace.Goals as goal
use Rattle.bench_inlays.proofs.laid.Laid.replace.Goals.{In_ok-next}

-- what the map is given is so
is_told : (c : In_ok-next) → IsTold c.args.self.now.map.current.text c.in_ok-next.next (clean c.args.text.now) (reach_of c.new-shift.result)
is_told c =
    let m = c.args.self.now in
    let put = clean c.args.text.now in
    let held : c.in_ok-rope.rope ≡ m.map.current.text = c.in_ok-rope.ensures ∙ sym m.one_text in
    let made = c.in_ok-replace.ensures.cases in
    told m.map.current.text c.in_ok-next.next put c.args.start c.args.end c.len-bytes.result c.len.result (reach_of c.new-shift.result)
    (subst (λ (t : List ℕ). IsRange t c.args.start c.args.end) held made.range)
    (c.in_ok-next.ensures ∙ made.text ∙ ap (λ (t : List ℕ). replaced_text t c.args.start c.args.end put) held)
    (c.len-bytes.ensures.value ∙ ap (λ (t : List ℕ). length t) (sym m.one_text))
    (c.len.ensures.value ∙ ap (λ (t : List ℕ). length t) (sym c.in_ok-next.ensures))
    c.new-shift.ensures.start c.new-shift.ensures.end c.new-shift.ensures.count

pub sync-requires-clause-leads : goal.sync-requires-clause-leads
sync-requires-clause-leads c =
    told-leads c.args.self.now.map.current.text c.in_ok-next.next (clean c.args.text.now) (reach_of c.new-shift.result) (is_told (goal.at.sync-requires-clause-leads c).In_ok-next)

pub sync-requires-clause-boundaries : goal.sync-requires-clause-boundaries
sync-requires-clause-boundaries c =
    let e = c.len-inlays.ensures.lawful in
    told-stand c.args.self.now.map.current.text c.in_ok-next.next (clean c.args.text.now) (reach_of c.new-shift.result) (is_told (goal.at.sync-requires-clause-boundaries c).In_ok-next)
    e.text.0 (clean-utf8 c.args.text.now c.utf8.text) c.args.self.now.map.current.inlays e.inlays
