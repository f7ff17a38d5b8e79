use Rattle.std.proofs.Common.{ap, ◌∙◌, ◌++◌, map, take}
use Rattle.cell_units.specs.Record.{block_le}
use Rattle.plain_rows.specs.Plain.{block_of}
use Rattle.display_sheet.proofs.Entries.{added-at, rest-is}
use Rattle.display_sheet.proofs.blocks.added.Goals as goal

pub returns : goal.returns
returns c =
    added-at block_of block_le c.args.block c.args.blocks.now c.push_copies.new.copies.items c.push.new.self.items c.push_copies-2.new.copies.items c.passed-at.result c.passed-at.ensures
    (c.in_ok-push_copies.ensures ∙ ap (λ l. map block_of l ++ map block_of (take c.passed-at.result c.args.blocks.now)) c.in_ok-added.ensures.items) c.in_ok-push.ensures.items (c.in_ok-push_copies-2.ensures ∙ ap (λ l. map block_of c.push.new.self.items ++ map block_of l) (rest-is c.passed-at.result c.args.blocks.now))
