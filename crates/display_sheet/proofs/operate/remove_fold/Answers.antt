use Rattle.std.proofs.Common.{◌≡◌, ◌==◌, Some, None, map, refl, rules, sym, ap, ◌∙◌, arith}
use Rattle.std.specs.Arc.{arc_value}
use Rattle.std.specs.List.{find}
use Rattle.std.specs.Option.{is_some}
use Rattle.cell_units.specs.Operation.{RemoveFold, without_fold}
use Rattle.cell_units.specs.Lawful.{IsFoldOf}
use Rattle.plain_rows.specs.Plain.{fold_of}
use Rattle.display_sheet.specs.declared.sheet.Draft.{Draft}
use Rattle.display_sheet.specs.Changes.{has_fold}
use Rattle.display_sheet.proofs.Drafts.{fold-removed}
use Rattle.display_sheet.proofs.Refused.{All-find, any-found, found-known, known, unknown}
use Rattle.display_sheet.proofs.operate.remove_fold.Goals as goal

pub returns-in_default : goal.returns-in_default
returns-in_default c =
    let r = c.args.sheet.now in
    let found : find (λ i. i.id == c.args.id) r.folds ≡ None = sym (c.in_default.ensures ∙ ap (find (λ i. i.id == c.args.id)) c.folds.ensures) in
    unknown (has_fold c.args.id r) (any-found (λ i. i.id == c.args.id) r.folds ∙ ap is_some found)

pub relaid-requires : goal.relaid-requires
relaid-requires c =
    let r = c.args.sheet.now in
    let x = fold_of c.in-Some.fold.now in
    let found : find (λ i. i.id == c.args.id) r.folds ≡ Some x = sym (c.in-Some.ensures ∙ ap (find (λ i. i.id == c.args.id)) c.folds.ensures) in
    let w = All-find (IsFoldOf r.text) (λ i. i.id == c.args.id) r.folds x c.lawful.ensures.entries.source.folds.each found in
    let draft : Draft = record { text = c.in_ok-draft.draft.text; inlays = c.in_ok-draft.draft.inlays; folds = c.in_ok-draft-2.field-0; blocks = c.in_ok-draft.draft.blocks } in
    let list : map fold_of (arc_value c.in_ok-draft-2.field-0).items ≡ without_fold c.args.id r.folds =
    ap (λ v. map fold_of v.items) c.in_ok-draft-2.ensures ∙ c.in_ok-folds.ensures ∙ ap (without_fold c.args.id) c.folds-2.ensures in
    let is = fold-removed r draft c.args.id x (record { start = c.in-Some.fold.now.start; end = c.in-Some.fold.now.end }) found (omega (arith, w.some)) w.end.0 refl refl c.in_ok-draft.ensures.text_is c.in_ok-draft.ensures.inlays_are list c.in_ok-draft.ensures.blocks_are in
    (RemoveFold c.args.id, is)

pub returns : goal.returns
returns c =
    let r = c.args.sheet.now in
    let x = fold_of c.in-Some.fold.now in
    let found : find (λ i. i.id == c.args.id) r.folds ≡ Some x = sym (c.in-Some.ensures ∙ ap (find (λ i. i.id == c.args.id)) c.folds.ensures) in
    let w = All-find (IsFoldOf r.text) (λ i. i.id == c.args.id) r.folds x c.lawful.ensures.entries.source.folds.each found in
    let draft : Draft = record { text = c.in_ok-draft.draft.text; inlays = c.in_ok-draft.draft.inlays; folds = c.in_ok-draft-2.field-0; blocks = c.in_ok-draft.draft.blocks } in
    let list : map fold_of (arc_value c.in_ok-draft-2.field-0).items ≡ without_fold c.args.id r.folds =
    ap (λ v. map fold_of v.items) c.in_ok-draft-2.ensures ∙ c.in_ok-folds.ensures ∙ ap (without_fold c.args.id) c.folds-2.ensures in
    let is = fold-removed r draft c.args.id x (record { start = c.in-Some.fold.now.start; end = c.in-Some.fold.now.end }) found (omega (arith, w.some)) w.end.0 refl refl c.in_ok-draft.ensures.text_is c.in_ok-draft.ensures.inlays_are list c.in_ok-draft.ensures.blocks_are in
    (known (has_fold c.args.id r) (any-found (λ i. i.id == c.args.id) r.folds ∙ ap is_some found), tt, c.in_ok-relaid.ensures (RemoveFold c.args.id) is)

pub returns-in_err-folds : goal.returns-in_err-folds
returns-in_err-folds c =
    let found = sym (c.in-Some.ensures ∙ ap (find (λ i. i.id == c.args.id)) c.folds.ensures) in
    let none = found-known (λ i. i.id == c.args.id) c.args.sheet.now.folds (fold_of c.in-Some.fold.now) found in
    search (rules, none)

pub returns-in_err-draft : goal.returns-in_err-draft
returns-in_err-draft c =
    let found = sym (c.in-Some.ensures ∙ ap (find (λ i. i.id == c.args.id)) c.folds.ensures) in
    let none = found-known (λ i. i.id == c.args.id) c.args.sheet.now.folds (fold_of c.in-Some.fold.now) found in
    search (rules, none)

pub returns-in_err-draft-2 : goal.returns-in_err-draft-2
returns-in_err-draft-2 c =
    let found = sym (c.in-Some.ensures ∙ ap (find (λ i. i.id == c.args.id)) c.folds.ensures) in
    let none = found-known (λ i. i.id == c.args.id) c.args.sheet.now.folds (fold_of c.in-Some.fold.now) found in
    search (rules, none)

pub returns-in_err-relaid : goal.returns-in_err-relaid
returns-in_err-relaid c =
    let found = sym (c.in-Some.ensures ∙ ap (find (λ i. i.id == c.args.id)) c.folds.ensures) in
    let none = found-known (λ i. i.id == c.args.id) c.args.sheet.now.folds (fold_of c.in-Some.fold.now) found in
    search (rules, none)
