use Rattle.std.proofs.Common.{◌≡◌, ℕ, List, sym, subst}
use Rattle.std.specs.List.{slice_range}
use Rattle.std.specs.Result.{IfOk}
use Rattle.cell_units.specs.Text.{IsBoundary}
use Rattle.display_map.proofs.Views.{text-read}
use Rattle.display_map.proofs.view.ViewOn.slice.Goals as goal

pub slice-requires-clause-start : goal.slice-requires-clause-start
slice-requires-clause-start g c =
    let text = text-read c.self.invariant c.self.view_is in
    subst (λ (text : List ℕ). IsBoundary text c.args.start) (sym text) c.requires.start

pub slice-requires-clause-end : goal.slice-requires-clause-end
slice-requires-clause-end g c =
    let text = text-read c.self.invariant c.self.view_is in
    subst (λ (text : List ℕ). IsBoundary text c.args.end) (sym text) c.requires.end

pub returns-clause-text : goal.returns-clause-text
returns-clause-text g c =
    let text = text-read c.self.invariant c.self.view_is in
    subst (λ (text : List ℕ). IfOk c.slice.result (λ own. own ≡ slice_range text c.args.start c.args.end)) text c.slice.ensures.text
