use Rattle.std.proofs.Common.{ap, ◌∙◌, ◌++◌, drop, map, take}
use Rattle.std.proofs.lemmas.List.{map-append}
use Rattle.cell_units.specs.Record.{fold_le}
use Rattle.plain_rows.specs.Plain.{fold_of}
use Rattle.display_sheet.proofs.Entries.{added-at, rest-is}
use Rattle.display_sheet.proofs.folds.added.Goals as goal

pub returns : goal.returns
returns c =
    added-at fold_of fold_le c.args.fold c.args.folds.now c.extend_from_slice.new.self.items c.push.new.self.items c.extend_from_slice-2.new.self.items c.passed-at.result c.passed-at.ensures
    (ap (map fold_of) (c.in_ok-extend_from_slice.ensures.items ∙ ap (λ l. l ++ take c.passed-at.result c.args.folds.now) c.in_ok-added.ensures.items))
    c.in_ok-push.ensures.items
    (ap (map fold_of) (c.in_ok-extend_from_slice-2.ensures.items ∙ ap (λ l. c.push.new.self.items ++ l) (rest-is c.passed-at.result c.args.folds.now))
    ∙ map-append fold_of c.push.new.self.items (drop c.passed-at.result c.args.folds.now))
