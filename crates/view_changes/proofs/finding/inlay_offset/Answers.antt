use Rattle.std.proofs.Common.{◌≡◌, ◌==◌, Bool, List, [], sym, ap, ◌∙◌}
use Rattle.std.specs.Option.{option_map}
use Rattle.std.specs.List.{find}
use Rattle.cell_units.specs.Layers.{Source}
use Rattle.cell_units.specs.Record.{Inlay}
use Rattle.inlay_map.specs.Maps.{inlay_with}
use Rattle.view_changes.proofs.Found.{found, not-found}
use Rattle.view_changes.proofs.finding.inlay_offset.Goals as goal
use Rattle.view_changes.proofs.finding.inlay_offset.Goals.{After-find_id}

-- the inlays are those of the record
inlays-are : (c : After-find_id) → c.inlaid-inlaid.result.now.inlays ≡ c.args.sheet.now.inlays
inlays-are c = ap (λ (s : Source). s.inlays) (c.inlaid-inlaid.ensures ∙ ap (λ (s : Source). record { text = s.text; inlays = s.inlays; folds = [] }) c.text.ensures)

pub returns-in_err-at-clause-offset : goal.returns-in_err-at-clause-offset
returns-in_err-at-clause-offset c =
    let own : Inlay → Bool = λ (i : Inlay). i.id == c.args.id in
    let none = not-found own c.inlaid-inlaid.result.now.inlays (sym c.in_err-at.ensures.index) in
    c.from_residual.ensures ∙ sym (ap (λ (inlays : List Inlay). option_map (λ i. i.offset) (find own inlays)) (sym (inlays-are (goal.at.returns-in_err-at-clause-offset c).After-find_id)) ∙ ap (option_map (λ i. i.offset)) none)

pub returns-clause-offset : goal.returns-clause-offset
returns-clause-offset c =
    let own : Inlay → Bool = λ (i : Inlay). i.id == c.args.id in
    let inlay = inlay_with c.in-Some._id c.in-Some.offset c.in-Some._bias c.in-Some._text.now in
    let there = found own c.inlaid-inlaid.result.now.inlays c.in_ok-at.at inlay (sym c.in_ok-at.ensures.index) c.in-Some.ensures.inlay in
    sym (ap (λ (inlays : List Inlay). option_map (λ i. i.offset) (find own inlays)) (sym (inlays-are (goal.at.returns-clause-offset c).After-find_id)) ∙ ap (option_map (λ i. i.offset)) there)
