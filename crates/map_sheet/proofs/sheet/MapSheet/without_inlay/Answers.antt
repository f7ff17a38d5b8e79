use Rattle.std.proofs.Common.{refl, rules}
use Rattle.cell_units.specs.Operation.{RemoveInlay}
use Rattle.map_sheet.proofs.Done.{uninlay-accepted, uninlay-refused, uninlay-turned}
use Rattle.map_sheet.proofs.Works.{change-works, text-works}
use Rattle.map_sheet.proofs.sheet.MapSheet.without_inlay.Goals as goal

pub relaid-requires : goal.relaid-requires
relaid-requires c = (
  RemoveInlay c.args.id,
  uninlay-turned c.args.self.now c.lawful.ensures.lawful c.lawful.ensures.short c.text.result.now c.text.ensures c.args.id
      c.in_ok-made.made.text c.in_ok-made.made.shown c.in_ok-made.ensures.changed,
)

pub returns-clause-made : goal.returns-clause-made
returns-clause-made c = (
  uninlay-accepted c.args.self.now c.lawful.ensures.lawful c.lawful.ensures.short c.text.result.now c.text.ensures c.args.id c.in_ok-made.ensures.accepted,
  tt,
  c.in_ok-relaid.ensures.done (RemoveInlay c.args.id)
      (uninlay-turned c.args.self.now c.lawful.ensures.lawful c.lawful.ensures.short c.text.result.now c.text.ensures c.args.id
      c.in_ok-made.made.text c.in_ok-made.made.shown c.in_ok-made.ensures.changed),
)

pub returns-in_err-made-clause-made : goal.returns-in_err-made-clause-made
returns-in_err-made-clause-made c =
    let refused = uninlay-refused c.args.self.now c.lawful.ensures.lawful c.lawful.ensures.short c.text.result.now c.text.ensures c.args.id
    c.in_err-made.field-0.0 c.in_err-made.ensures.refused in
    search (rules, refused)

pub returns-in_err-relaid-clause-made : goal.returns-in_err-relaid-clause-made
returns-in_err-relaid-clause-made c =
    let none = uninlay-accepted c.args.self.now c.lawful.ensures.lawful c.lawful.ensures.short c.text.result.now c.text.ensures c.args.id c.in_ok-made.ensures.accepted in
    search (rules, none)

pub returns-in_err-made-clause-steps : goal.returns-in_err-made-clause-steps
returns-in_err-made-clause-steps c =
    text-works (RemoveInlay c.args.id) c.args.self.now refl c.text.result.now c.text.ensures
    c.args.steps.now c.without_inlay.new.steps c.without_inlay.ensures.steps

pub returns-in_err-relaid-clause-steps : goal.returns-in_err-relaid-clause-steps
returns-in_err-relaid-clause-steps c =
    change-works (RemoveInlay c.args.id) c.args.self.now refl c.text.result.now c.text.ensures
    c.args.steps.now c.without_inlay.new.steps c.without_inlay.ensures.steps
    c.relaid.new.steps
    (c.relaid.ensures.steps (RemoveInlay c.args.id)
    (uninlay-turned c.args.self.now c.lawful.ensures.lawful c.lawful.ensures.short c.text.result.now c.text.ensures c.args.id
    c.in_ok-made.made.text c.in_ok-made.made.shown c.in_ok-made.ensures.changed))

pub returns-clause-steps : goal.returns-clause-steps
returns-clause-steps c =
    change-works (RemoveInlay c.args.id) c.args.self.now refl c.text.result.now c.text.ensures
    c.args.steps.now c.without_inlay.new.steps c.without_inlay.ensures.steps
    c.relaid.new.steps
    (c.relaid.ensures.steps (RemoveInlay c.args.id)
    (uninlay-turned c.args.self.now c.lawful.ensures.lawful c.lawful.ensures.short c.text.result.now c.text.ensures c.args.id
    c.in_ok-made.made.text c.in_ok-made.made.shown c.in_ok-made.ensures.changed))
