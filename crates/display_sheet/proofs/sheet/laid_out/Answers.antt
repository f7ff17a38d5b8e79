use Rattle.std.proofs.Common.{◌≡◌, map, length, ap, sym, subst, ◌∙◌, arith}
use Rattle.std.specs.Prelude.{IfOk}
use Rattle.cell_units.specs.Layers.{Source}
use Rattle.cell_units.specs.Lawful.{IsWellFormed}
use Rattle.plain_rows.specs.FoldedLines.{AreLinesOf, seen}
use Rattle.plain_rows.specs.Plain.{fold_of, inlay_of}
use Rattle.display_sheet.specs.Sheets.{draft_source}
use Rattle.display_sheet.proofs.sheet.laid_out.Goals as goal

pub new-requires-clause-formed : goal.new-requires-clause-formed
new-requires-clause-formed c =
    let same : draft_source c.args.draft.now ≡ seen (record { text = c.as_str.result; inlays = c.as_slice.result; folds = c.as_slice-2.result }) =
    λ i. record {
      text = sym (c.as_str.ensures.text ∙ c.deref.ensures) i;
      inlays = map inlay_of (sym (c.as_slice.ensures.value ∙ ap (λ v. v.items) c.deref-2.ensures) i);
      folds = map fold_of (sym (c.as_slice-2.ensures.value ∙ ap (λ v. v.items) c.deref-3.ensures) i);
    } in
    subst IsWellFormed same c.requires

pub new-requires-clause-size : goal.new-requires-clause-size
new-requires-clause-size c = omega (arith, ap length c.as_str.ensures.text, c.as_str.ensures.size)

pub returns : goal.returns
returns c =
    let same : seen (record { text = c.as_str.result; inlays = c.as_slice.result; folds = c.as_slice-2.result }) ≡ draft_source c.args.draft.now =
    λ i. record {
      text = (c.as_str.ensures.text ∙ c.deref.ensures) i;
      inlays = map inlay_of ((c.as_slice.ensures.value ∙ ap (λ v. v.items) c.deref-2.ensures) i);
      folds = map fold_of ((c.as_slice-2.ensures.value ∙ ap (λ v. v.items) c.deref-3.ensures) i);
    } in
    subst (λ (s : Source). IfOk c.new.result (λ lines. AreLinesOf s lines)) same c.new.ensures
