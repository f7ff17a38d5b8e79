use Rattle.std.proofs.Common.{refl, rules}
use Rattle.map_sheet.proofs.Refusals.{width-none, width-refused}
use Rattle.map_sheet.proofs.Steps.{width-keeps, width-operated}
use Rattle.map_sheet.proofs.Unmoved.{widened}
use Rattle.map_sheet.proofs.Sent.{sheet_sent}
use Rattle.map_sheet.proofs.sheet.MapSheet.with_width.Goals as goal

pub with_width-requires-send-L : goal.with_width-requires-send-L
with_width-requires-send-L _ _ = search sheet_sent depth 12 fits 4000

pub with_width-requires-sync-L : goal.with_width-requires-sync-L
with_width-requires-sync-L _ _ = search sheet_sent depth 12 fits 4000

pub relined-requires : goal.relined-requires
relined-requires c = (
  widened c.args.cells c.args.self.now c.lawful.ensures.lawful c.lawful.ensures.short c.lawful.ensures.plain c.in_ok-lines.ensures.accepted,
  width-keeps c.args.self.now c.lawful.ensures.lawful c.lawful.ensures.short c.lawful.ensures.plain c.wrapped.result.now c.wrapped.ensures
      c.args.cells c.in_ok-lines.ensures.accepted c.in_ok-lines.lines c.in_ok-lines.ensures.set,
)

pub returns : goal.returns
returns c = (
  width-none c.args.cells c.in_ok-lines.ensures.accepted,
  c.in_ok-lines.ensures.accepted,
  width-operated c.args.self.now c.lawful.ensures.lawful c.lawful.ensures.short c.lawful.ensures.plain c.wrapped.result.now c.wrapped.ensures
      c.args.cells c.in_ok-lines.ensures.accepted c.in_ok-lines.lines c.in_ok-lines.ensures.set c.in_ok-sheet.sheet c.in_ok-sheet.ensures
      (record { first = 0; end = 0; count = 0 }) refl refl refl,
)

pub returns-in_err-lines : goal.returns-in_err-lines
returns-in_err-lines c =
    let refused = width-refused c.args.cells c.in_err-lines.field-0.0 c.in_err-lines.ensures.refused in
    search (rules, refused)

pub returns-in_err-sheet : goal.returns-in_err-sheet
returns-in_err-sheet c = let none = width-none c.args.cells c.in_ok-lines.ensures.accepted in search (rules, none)
