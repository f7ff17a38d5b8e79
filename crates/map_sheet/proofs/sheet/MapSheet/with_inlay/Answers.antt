use Rattle.std.proofs.Common.{refl, rules}
use Rattle.cell_units.specs.Operation.{AddInlay}
use Rattle.display_sheet.specs.Changes.{inlay_of}
use Rattle.display_sheet.proofs.Refused.{inlay-allowed}
use Rattle.map_sheet.proofs.Done.{inlay-accepted, inlay-refused, inlay-turned}
use Rattle.map_sheet.proofs.Works.{change-works, text-works}
use Rattle.map_sheet.proofs.sheet.MapSheet.with_inlay.Goals as goal

pub relaid-requires : goal.relaid-requires
relaid-requires c = (
  AddInlay (inlay_of c.args.id c.args.offset c.args.bias c.args.text.now),
  inlay-turned c.args.self.now c.lawful.ensures.lawful c.lawful.ensures.short c.text.result.now c.text.ensures c.args.id c.args.offset c.args.bias c.args.text.now
      c.utf8.text c.in_ok-made.ensures.accepted c.in_ok-made.made.text c.in_ok-made.made.shown c.in_ok-made.ensures.changed,
)

pub returns-clause-made : goal.returns-clause-made
returns-clause-made c =
    let r = c.args.self.now in
    let inlay = inlay_of c.args.id c.args.offset c.args.bias c.args.text.now in
    let none = inlay-accepted r c.lawful.ensures.lawful c.lawful.ensures.short c.text.result.now c.text.ensures c.args.id c.args.offset c.args.bias c.args.text.now c.in_ok-made.ensures.accepted in (
      none,
      inlay-allowed r inlay c.lawful.ensures.lawful.entries.source.text.0 c.utf8.text none,
      c.in_ok-relaid.ensures.done (AddInlay inlay)
          (inlay-turned r c.lawful.ensures.lawful c.lawful.ensures.short c.text.result.now c.text.ensures c.args.id c.args.offset c.args.bias c.args.text.now
          c.utf8.text c.in_ok-made.ensures.accepted c.in_ok-made.made.text c.in_ok-made.made.shown c.in_ok-made.ensures.changed),
    )

pub returns-in_err-made-clause-made : goal.returns-in_err-made-clause-made
returns-in_err-made-clause-made c =
    let refused = inlay-refused c.args.self.now c.lawful.ensures.lawful c.lawful.ensures.short c.text.result.now c.text.ensures c.args.id c.args.offset c.args.bias c.args.text.now
    c.in_err-made.field-0.0 c.in_err-made.ensures.refused in
    search (rules, refused)

pub returns-in_err-relaid-clause-made : goal.returns-in_err-relaid-clause-made
returns-in_err-relaid-clause-made c =
    let none = inlay-accepted c.args.self.now c.lawful.ensures.lawful c.lawful.ensures.short c.text.result.now c.text.ensures c.args.id c.args.offset c.args.bias c.args.text.now c.in_ok-made.ensures.accepted in
    search (rules, none)

pub returns-in_err-made-clause-steps : goal.returns-in_err-made-clause-steps
returns-in_err-made-clause-steps c =
    text-works (AddInlay (inlay_of c.args.id c.args.offset c.args.bias c.args.text.now)) c.args.self.now refl c.text.result.now c.text.ensures
    c.args.steps.now c.with_inlay.new.steps c.with_inlay.ensures.steps

pub returns-in_err-relaid-clause-steps : goal.returns-in_err-relaid-clause-steps
returns-in_err-relaid-clause-steps c =
    change-works (AddInlay (inlay_of c.args.id c.args.offset c.args.bias c.args.text.now)) c.args.self.now refl c.text.result.now c.text.ensures
    c.args.steps.now c.with_inlay.new.steps c.with_inlay.ensures.steps
    c.relaid.new.steps
    (c.relaid.ensures.steps (AddInlay (inlay_of c.args.id c.args.offset c.args.bias c.args.text.now))
    (inlay-turned c.args.self.now c.lawful.ensures.lawful c.lawful.ensures.short c.text.result.now c.text.ensures c.args.id c.args.offset c.args.bias c.args.text.now
    c.utf8.text c.in_ok-made.ensures.accepted c.in_ok-made.made.text c.in_ok-made.made.shown c.in_ok-made.ensures.changed))

pub returns-clause-steps : goal.returns-clause-steps
returns-clause-steps c =
    change-works (AddInlay (inlay_of c.args.id c.args.offset c.args.bias c.args.text.now)) c.args.self.now refl c.text.result.now c.text.ensures
    c.args.steps.now c.with_inlay.new.steps c.with_inlay.ensures.steps
    c.relaid.new.steps
    (c.relaid.ensures.steps (AddInlay (inlay_of c.args.id c.args.offset c.args.bias c.args.text.now))
    (inlay-turned c.args.self.now c.lawful.ensures.lawful c.lawful.ensures.short c.text.result.now c.text.ensures c.args.id c.args.offset c.args.bias c.args.text.now
    c.utf8.text c.in_ok-made.ensures.accepted c.in_ok-made.made.text c.in_ok-made.made.shown c.in_ok-made.ensures.changed))
