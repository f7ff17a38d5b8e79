use Rattle.std.proofs.Common.{◌≡◌, ◌==◌, Bool, List, sym, ap, ◌∙◌}
use Rattle.std.specs.Option.{option_map}
use Rattle.std.specs.List.{find}
use Rattle.cell_units.specs.Layers.{Source}
use Rattle.cell_units.specs.Record.{Fold}
use Rattle.map_sheet.proofs.Sent.{sheet_sent}
use Rattle.view_changes.proofs.Found.{found, not-found, there-is}
use Rattle.view_changes.proofs.finding.fold_range.Goals as goal
use Rattle.view_changes.proofs.finding.fold_range.Goals.{After-find_id}

pub find_id-requires-send-L : goal.find_id-requires-send-L
find_id-requires-send-L c κs = search sheet_sent depth 12 fits 4000

pub find_id-requires-sync-L : goal.find_id-requires-sync-L
find_id-requires-sync-L c κs = search sheet_sent depth 12 fits 4000

pub get-requires-send-L : goal.get-requires-send-L
get-requires-send-L c κs = search sheet_sent depth 12 fits 4000

pub get-requires-sync-L : goal.get-requires-sync-L
get-requires-sync-L c κs = search sheet_sent depth 12 fits 4000

-- the folds are those of the record
folds-are : (c : After-find_id) → c.layer-layer.result.now.folds ≡ c.args.sheet.now.folds
folds-are c = ap (λ (s : Source). s.folds) (c.layer-layer.ensures ∙ c.text.ensures)

pub unreachable-requires : goal.unreachable-requires
unreachable-requires c =
    there-is (λ (f : Fold). f.id == c.args.id) c.layer-layer.result.now.folds c.in_ok-at.at (sym c.in_ok-at.ensures.place) (sym c.in_default.ensures.fold)

pub returns-in_err-at-clause-range : goal.returns-in_err-at-clause-range
returns-in_err-at-clause-range c =
    let own : Fold → Bool = λ (f : Fold). f.id == c.args.id in
    let none = not-found own c.layer-layer.result.now.folds (sym c.in_err-at.ensures.place) in
    c.from_residual.ensures
    ∙ sym (ap (λ (folds : List Fold). option_map (λ f. (f.start, f.end)) (find own folds)) (sym (folds-are (goal.at.returns-in_err-at-clause-range c).After-find_id)) ∙ ap (option_map (λ f. (f.start, f.end))) none)

pub returns-clause-range : goal.returns-clause-range
returns-clause-range c =
    let own : Fold → Bool = λ (f : Fold). f.id == c.args.id in
    let fold : Fold = record { start = c.in-Some.fold.start; end = c.in-Some.fold.end; id = c.in-Some.fold.id } in
    let there = found own c.layer-layer.result.now.folds c.in_ok-at.at fold (sym c.in_ok-at.ensures.place) (sym c.in-Some.ensures.fold) in
    sym (ap (λ (folds : List Fold). option_map (λ f. (f.start, f.end)) (find own folds)) (sym (folds-are (goal.at.returns-clause-range c).After-find_id)) ∙ ap (option_map (λ f. (f.start, f.end))) there)
