use Rattle.std.proofs.Common.{◌≡◌, None, map, refl, rules, sym, ap, ◌∙◌}
use Rattle.std.specs.Arc.{arc_value}
use Rattle.cell_units.specs.Sorting.{insert_by}
use Rattle.cell_units.specs.Record.{inlay_le}
use Rattle.cell_units.specs.Operation.{AddInlay}
use Rattle.cell_units.specs.Lawful.{IsAllowed}
use Rattle.plain_rows.specs.Plain as plain
use Rattle.display_sheet.specs.declared.sheet.Draft.{Draft}
use Rattle.display_sheet.specs.Changes.{inlay_of, inlay_refusal}
use Rattle.display_sheet.proofs.Drafts.{inlay-added}
use Rattle.display_sheet.proofs.Refused.{inlay-allowed}
use Rattle.display_sheet.proofs.operate.add_inlay.Goals as goal

pub returns-in-Some : goal.returns-in-Some
returns-in-Some c = sym (c.in-Some.ensures c.args.bias)

pub returns-in_err-from_str : goal.returns-in_err-from_str
returns-in_err-from_str c = let none = sym (c.in_default.ensures c.args.bias) in search (rules, none)

pub returns-in_err-inlays : goal.returns-in_err-inlays
returns-in_err-inlays c = let none = sym (c.in_default.ensures c.args.bias) in search (rules, none)

pub returns-in_err-draft : goal.returns-in_err-draft
returns-in_err-draft c = let none = sym (c.in_default.ensures c.args.bias) in search (rules, none)

pub returns-in_err-draft-2 : goal.returns-in_err-draft-2
returns-in_err-draft-2 c = let none = sym (c.in_default.ensures c.args.bias) in search (rules, none)

pub returns-in_err-relaid : goal.returns-in_err-relaid
returns-in_err-relaid c = let none = sym (c.in_default.ensures c.args.bias) in search (rules, none)

pub relaid-requires : goal.relaid-requires
relaid-requires c =
    let r = c.args.sheet.now in
    let x = inlay_of c.args.id c.args.offset c.args.bias c.args.text.now in
    let none : inlay_refusal r x ≡ None = sym (c.in_default.ensures c.args.bias) in
    let a : IsAllowed (AddInlay x) r = inlay-allowed r x c.lawful.ensures.entries.source.text.0 c.utf8.text none in
    let draft : Draft = record { text = c.in_ok-draft.draft.text; inlays = c.in_ok-draft-2.field-0; folds = c.in_ok-draft.draft.folds; blocks = c.in_ok-draft.draft.blocks } in
    let list : map plain.inlay_of (arc_value c.in_ok-draft-2.field-0).items ≡ insert_by inlay_le x r.inlays =
    ap (λ v. map plain.inlay_of v.items) c.in_ok-draft-2.ensures
    ∙ c.in_ok-inlays.ensures
    ∙ (λ k. insert_by inlay_le (inlay_of c.args.id c.args.offset c.args.bias (c.in_ok-from_str.ensures k)) (c.inlays.ensures k)) in
    (AddInlay x, inlay-added r draft x (record { start = c.args.offset; end = c.args.offset }) a a.0.boundary.0 refl refl c.in_ok-draft.ensures.text_is list c.in_ok-draft.ensures.folds_are c.in_ok-draft.ensures.blocks_are)

pub returns : goal.returns
returns c =
    let r = c.args.sheet.now in
    let x = inlay_of c.args.id c.args.offset c.args.bias c.args.text.now in
    let none : inlay_refusal r x ≡ None = sym (c.in_default.ensures c.args.bias) in
    let a : IsAllowed (AddInlay x) r = inlay-allowed r x c.lawful.ensures.entries.source.text.0 c.utf8.text none in
    let draft : Draft = record { text = c.in_ok-draft.draft.text; inlays = c.in_ok-draft-2.field-0; folds = c.in_ok-draft.draft.folds; blocks = c.in_ok-draft.draft.blocks } in
    let list : map plain.inlay_of (arc_value c.in_ok-draft-2.field-0).items ≡ insert_by inlay_le x r.inlays =
    ap (λ v. map plain.inlay_of v.items) c.in_ok-draft-2.ensures
    ∙ c.in_ok-inlays.ensures
    ∙ (λ k. insert_by inlay_le (inlay_of c.args.id c.args.offset c.args.bias (c.in_ok-from_str.ensures k)) (c.inlays.ensures k)) in
    (none, a, c.in_ok-relaid.ensures (AddInlay x) (inlay-added r draft x (record { start = c.args.offset; end = c.args.offset }) a a.0.boundary.0 refl refl c.in_ok-draft.ensures.text_is list c.in_ok-draft.ensures.folds_are c.in_ok-draft.ensures.blocks_are))
