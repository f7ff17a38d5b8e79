use Rattle.std.proofs.Common.{◌≡◌, None, map, refl, sym, ap, ◌∙◌, arith}
use Rattle.std.specs.Arc.{arc_value}
use Rattle.cell_units.specs.Sorting.{insert_by}
use Rattle.cell_units.specs.Record.{fold_le}
use Rattle.cell_units.specs.Operation.{AddFold}
use Rattle.cell_units.specs.Lawful.{IsAllowed}
use Rattle.plain_rows.specs.Plain.{fold_of}
use Rattle.display_sheet.specs.declared.sheet.Draft.{Draft}
use Rattle.display_sheet.specs.Changes.{fold_refusal}
use Rattle.display_sheet.proofs.Drafts.{fold-added}
use Rattle.display_sheet.proofs.Refused.{fold-allowed}
use Rattle.display_sheet.proofs.operate.add_fold.Goals as goal

pub relaid-requires : goal.relaid-requires
relaid-requires c =
    let r = c.args.sheet.now in
    let x = fold_of c.args.fold in
    let none : fold_refusal r x ≡ None = sym c.in_default.ensures in
    let a : IsAllowed (AddFold x) r = fold-allowed r x c.lawful.ensures.entries.source.text.0 none in
    let draft : Draft = record { text = c.in_ok-draft.draft.text; inlays = c.in_ok-draft.draft.inlays; folds = c.in_ok-draft-2.field-0; blocks = c.in_ok-draft.draft.blocks } in
    let list : map fold_of (arc_value c.in_ok-draft-2.field-0).items ≡ insert_by fold_le x r.folds =
    ap (λ v. map fold_of v.items) c.in_ok-draft-2.ensures ∙ c.in_ok-folds.ensures ∙ ap (insert_by fold_le x) c.folds.ensures in
    (AddFold x, fold-added r draft x (record { start = c.args.fold.start; end = c.args.fold.end }) a (omega (arith, a.0.some)) a.0.end.0 refl refl c.in_ok-draft.ensures.text_is c.in_ok-draft.ensures.inlays_are list c.in_ok-draft.ensures.blocks_are)

pub returns : goal.returns
returns c =
    let r = c.args.sheet.now in
    let x = fold_of c.args.fold in
    let none : fold_refusal r x ≡ None = sym c.in_default.ensures in
    let a : IsAllowed (AddFold x) r = fold-allowed r x c.lawful.ensures.entries.source.text.0 none in
    let draft : Draft = record { text = c.in_ok-draft.draft.text; inlays = c.in_ok-draft.draft.inlays; folds = c.in_ok-draft-2.field-0; blocks = c.in_ok-draft.draft.blocks } in
    let list : map fold_of (arc_value c.in_ok-draft-2.field-0).items ≡ insert_by fold_le x r.folds =
    ap (λ v. map fold_of v.items) c.in_ok-draft-2.ensures ∙ c.in_ok-folds.ensures ∙ ap (insert_by fold_le x) c.folds.ensures in
    (none, a, c.in_ok-relaid.ensures (AddFold x) (fold-added r draft x (record { start = c.args.fold.start; end = c.args.fold.end }) a (omega (arith, a.0.some)) a.0.end.0 refl refl c.in_ok-draft.ensures.text_is c.in_ok-draft.ensures.inlays_are list c.in_ok-draft.ensures.blocks_are))
