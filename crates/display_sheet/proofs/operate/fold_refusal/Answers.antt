use Rattle.std.proofs.Common.{◌≡◌, ◌==◌, ℕ, List, true, false, length, sym, ap, ◌∙◌, arith, le-leb}
use Rattle.std.proofs.lemmas.Bool.{lt-leb}
use Rattle.std.proofs.lemmas.List.{length-map}
use Rattle.plain_rows.specs.Plain.{fold_of}
use Rattle.cell_units.specs.declared.limits.TheConstants.{ENTRY_LIMIT}
use Rattle.display_sheet.specs.Changes.{has_fold, is_fold_range}
use Rattle.display_sheet.proofs.Refused.{fold-long, fold-none, fold-range, fold-used, found-used}
use Rattle.display_sheet.proofs.operate.fold_refusal.Goals as goal

pub returns-then-is_some : goal.returns-then-is_some
returns-then-is_some c =
    let r = c.args.sheet.now in
    let f = fold_of c.args.fold.now in
    let used : has_fold f.id r ≡ true = found-used fold_of (λ j. j.id == f.id) c.folds.result.now r.folds c.found.result true c.found.ensures c.folds.ensures (sym c.is_some.ensures ∙ c.if-is_some.true) in
    sym (fold-used r f used)

pub returns-then-not-is_fold_range : goal.returns-then-not-is_fold_range
returns-then-not-is_fold_range c =
    let r = c.args.sheet.now in
    let f = fold_of c.args.fold.now in
    let used : has_fold f.id r ≡ false = found-used fold_of (λ j. j.id == f.id) c.folds.result.now r.folds c.found.result false c.found.ensures c.folds.ensures (sym c.is_some.ensures ∙ c.if-is_some.false) in
    let fits : c.is_fold_range.result ≡ is_fold_range r.text f = c.is_fold_range.ensures ∙ ap (λ (t : List ℕ). is_fold_range t f) c.text.ensures in
    sym (fold-range r f used (sym fits ∙ c.if-not-is_fold_range.true))

pub returns-then-folds-ge-ENTRY_LIMIT : goal.returns-then-folds-ge-ENTRY_LIMIT
returns-then-folds-ge-ENTRY_LIMIT c =
    let r = c.args.sheet.now in
    let f = fold_of c.args.fold.now in
    let used : has_fold f.id r ≡ false = found-used fold_of (λ j. j.id == f.id) c.folds.result.now r.folds c.found.result false c.found.ensures c.folds.ensures (sym c.is_some.ensures ∙ c.if-is_some.false) in
    let fits : c.is_fold_range.result ≡ is_fold_range r.text f = c.is_fold_range.ensures ∙ ap (λ (t : List ℕ). is_fold_range t f) c.text.ensures in
    sym (fold-long r f used (sym fits ∙ c.if-not-is_fold_range.false) (le-leb ENTRY_LIMIT (length r.folds) (omega (arith, c.if-folds-ge-ENTRY_LIMIT.true, ap length c.folds-2.ensures, length-map c.folds-2.result.now fold_of))))

pub returns : goal.returns
returns c =
    let r = c.args.sheet.now in
    let f = fold_of c.args.fold.now in
    let used : has_fold f.id r ≡ false = found-used fold_of (λ j. j.id == f.id) c.folds.result.now r.folds c.found.result false c.found.ensures c.folds.ensures (sym c.is_some.ensures ∙ c.if-is_some.false) in
    let fits : c.is_fold_range.result ≡ is_fold_range r.text f = c.is_fold_range.ensures ∙ ap (λ (t : List ℕ). is_fold_range t f) c.text.ensures in
    sym (fold-none r f used (sym fits ∙ c.if-not-is_fold_range.false) (lt-leb ENTRY_LIMIT (length r.folds) (omega (arith, c.if-folds-ge-ENTRY_LIMIT.false, ap length c.folds-2.ensures, length-map c.folds-2.result.now fold_of))))
