use Rattle.std.proofs.Common.{ap, ◌∙◌, ◌++◌, map, take}
use Rattle.cell_units.specs.Record.{inlay_le}
use Rattle.plain_rows.specs.Plain.{inlay_of}
use Rattle.display_sheet.proofs.Entries.{added-at, rest-is}
use Rattle.display_sheet.proofs.inlays.added.Goals as goal

pub returns : goal.returns
returns c =
    added-at inlay_of inlay_le c.args.inlay c.args.inlays.now c.push_copies.new.copies.items c.push.new.self.items c.push_copies-2.new.copies.items c.passed-at.result c.passed-at.ensures
    (c.in_ok-push_copies.ensures ∙ ap (λ l. map inlay_of l ++ map inlay_of (take c.passed-at.result c.args.inlays.now)) c.in_ok-added.ensures.items) c.in_ok-push.ensures.items (c.in_ok-push_copies-2.ensures ∙ ap (λ l. map inlay_of c.push.new.self.items ++ map inlay_of l) (rest-is c.passed-at.result c.args.inlays.now))
