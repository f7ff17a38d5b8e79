use Rattle.kept_sheet.proofs.PlainSheets.{cuts-landed}
use Rattle.display_sheet.specs.Landing.{lists_of}
use Rattle.kept_sheet.proofs.plain.PlainSheetJobSheet.landed.Goals as goal

pub land-requires-clause-lines : goal.land-requires-clause-lines
land-requires-clause-lines c =
    cuts-landed c.args.self.now c.in_ok-sheet.sheet c.args._old.now c.args._run c.args.places.now (lists_of c.args.wraps.now) c.width.result
    c.in_ok-sheet.ensures c.width.ensures c.requires.lines c.requires.wraps
