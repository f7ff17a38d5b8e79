use Rattle.std.proofs.Common.{◌≡◌, ◌==◌, Some, None, map, refl, rules, sym, ap, ◌∙◌}
use Rattle.std.specs.Arc.{arc_value}
use Rattle.std.specs.List.{find}
use Rattle.std.specs.Option.{is_some}
use Rattle.cell_units.specs.Operation.{RemoveInlay, without_inlay}
use Rattle.cell_units.specs.Lawful.{IsInlayOf}
use Rattle.plain_rows.specs.Plain.{inlay_of}
use Rattle.display_sheet.specs.declared.sheet.Draft.{Draft}
use Rattle.display_sheet.specs.Changes.{has_inlay}
use Rattle.display_sheet.proofs.Drafts.{inlay-removed}
use Rattle.display_sheet.proofs.Refused.{All-find, any-found, found-known, known, unknown}
use Rattle.display_sheet.proofs.operate.remove_inlay.Goals as goal

pub returns-in_default : goal.returns-in_default
returns-in_default c =
    let r = c.args.sheet.now in
    let found : find (λ i. i.id == c.args.id) r.inlays ≡ None = sym (c.in_default.ensures ∙ ap (find (λ i. i.id == c.args.id)) c.inlays.ensures) in
    unknown (has_inlay c.args.id r) (any-found (λ i. i.id == c.args.id) r.inlays ∙ ap is_some found)

pub relaid-requires : goal.relaid-requires
relaid-requires c =
    let r = c.args.sheet.now in
    let x = inlay_of c.in-Some.inlay.now in
    let found : find (λ i. i.id == c.args.id) r.inlays ≡ Some x = sym (c.in-Some.ensures ∙ ap (find (λ i. i.id == c.args.id)) c.inlays.ensures) in
    let w = All-find (IsInlayOf r.text) (λ i. i.id == c.args.id) r.inlays x c.lawful.ensures.entries.source.inlays.each found in
    let draft : Draft = record { text = c.in_ok-draft.draft.text; inlays = c.in_ok-draft-2.field-0; folds = c.in_ok-draft.draft.folds; blocks = c.in_ok-draft.draft.blocks } in
    let list : map inlay_of (arc_value c.in_ok-draft-2.field-0).items ≡ without_inlay c.args.id r.inlays =
    ap (λ v. map inlay_of v.items) c.in_ok-draft-2.ensures ∙ c.in_ok-inlays.ensures ∙ ap (without_inlay c.args.id) c.inlays-2.ensures in
    let is = inlay-removed r draft c.args.id x (record { start = c.in-Some.inlay.now.offset; end = c.in-Some.inlay.now.offset }) found w.boundary.0 refl refl c.in_ok-draft.ensures.text_is list c.in_ok-draft.ensures.folds_are c.in_ok-draft.ensures.blocks_are in
    (RemoveInlay c.args.id, is)

pub returns : goal.returns
returns c =
    let r = c.args.sheet.now in
    let x = inlay_of c.in-Some.inlay.now in
    let found : find (λ i. i.id == c.args.id) r.inlays ≡ Some x = sym (c.in-Some.ensures ∙ ap (find (λ i. i.id == c.args.id)) c.inlays.ensures) in
    let w = All-find (IsInlayOf r.text) (λ i. i.id == c.args.id) r.inlays x c.lawful.ensures.entries.source.inlays.each found in
    let draft : Draft = record { text = c.in_ok-draft.draft.text; inlays = c.in_ok-draft-2.field-0; folds = c.in_ok-draft.draft.folds; blocks = c.in_ok-draft.draft.blocks } in
    let list : map inlay_of (arc_value c.in_ok-draft-2.field-0).items ≡ without_inlay c.args.id r.inlays =
    ap (λ v. map inlay_of v.items) c.in_ok-draft-2.ensures ∙ c.in_ok-inlays.ensures ∙ ap (without_inlay c.args.id) c.inlays-2.ensures in
    let is = inlay-removed r draft c.args.id x (record { start = c.in-Some.inlay.now.offset; end = c.in-Some.inlay.now.offset }) found w.boundary.0 refl refl c.in_ok-draft.ensures.text_is list c.in_ok-draft.ensures.folds_are c.in_ok-draft.ensures.blocks_are in
    (known (has_inlay c.args.id r) (any-found (λ i. i.id == c.args.id) r.inlays ∙ ap is_some found), tt, c.in_ok-relaid.ensures (RemoveInlay c.args.id) is)

pub returns-in_err-inlays : goal.returns-in_err-inlays
returns-in_err-inlays c =
    let found = sym (c.in-Some.ensures ∙ ap (find (λ i. i.id == c.args.id)) c.inlays.ensures) in
    let none = found-known (λ i. i.id == c.args.id) c.args.sheet.now.inlays (inlay_of c.in-Some.inlay.now) found in
    search (rules, none)

pub returns-in_err-draft : goal.returns-in_err-draft
returns-in_err-draft c =
    let found = sym (c.in-Some.ensures ∙ ap (find (λ i. i.id == c.args.id)) c.inlays.ensures) in
    let none = found-known (λ i. i.id == c.args.id) c.args.sheet.now.inlays (inlay_of c.in-Some.inlay.now) found in
    search (rules, none)

pub returns-in_err-draft-2 : goal.returns-in_err-draft-2
returns-in_err-draft-2 c =
    let found = sym (c.in-Some.ensures ∙ ap (find (λ i. i.id == c.args.id)) c.inlays.ensures) in
    let none = found-known (λ i. i.id == c.args.id) c.args.sheet.now.inlays (inlay_of c.in-Some.inlay.now) found in
    search (rules, none)

pub returns-in_err-relaid : goal.returns-in_err-relaid
returns-in_err-relaid c =
    let found = sym (c.in-Some.ensures ∙ ap (find (λ i. i.id == c.args.id)) c.inlays.ensures) in
    let none = found-known (λ i. i.id == c.args.id) c.args.sheet.now.inlays (inlay_of c.in-Some.inlay.now) found in
    search (rules, none)
