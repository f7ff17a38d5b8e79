use Rattle.std.proofs.Common.{◌≡◌, List, ℕ, ap, subst, sym, ◌∙◌}
use Rattle.std.specs.Prelude.{slice_range}
use Rattle.std.specs.Result.{IfOk}
use Rattle.cell_units.specs.Layers.{Source}
use Rattle.cell_units.specs.Text.{IsBoundary}
use Rattle.map_sheet.proofs.kept.MapSheetSheet.slice.Goals as goal

pub slice-requires-clause-start : goal.slice-requires-clause-start
slice-requires-clause-start c =
    subst (λ (t : List ℕ). IsBoundary t c.args.start) (sym (c.rope.ensures ∙ ap (λ (s : Source). s.text) c.text.ensures)) c.requires.start

pub slice-requires-clause-end : goal.slice-requires-clause-end
slice-requires-clause-end c =
    subst (λ (t : List ℕ). IsBoundary t c.args.end) (sym (c.rope.ensures ∙ ap (λ (s : Source). s.text) c.text.ensures)) c.requires.end

pub returns-clause-text : goal.returns-clause-text
returns-clause-text c =
    subst (λ (t : List ℕ). IfOk c.slice.result (λ text. text ≡ slice_range t c.args.start c.args.end)) (c.rope.ensures ∙ ap (λ (s : Source). s.text) c.text.ensures) c.slice.ensures.text
