use Rattle.std.proofs.Common.{refl, rules}
use Rattle.cell_units.specs.Operation.{AddFold}
use Rattle.display_sheet.specs.Changes.{fold_of}
use Rattle.display_sheet.proofs.Refused.{fold-allowed}
use Rattle.map_sheet.proofs.Done.{fold-accepted, fold-refused, fold-turned}
use Rattle.map_sheet.proofs.Works.{change-works, text-works}
use Rattle.map_sheet.proofs.sheet.MapSheet.with_fold.Goals as goal

pub relaid-requires : goal.relaid-requires
relaid-requires c = (
  AddFold (fold_of c.args.id c.args.start c.args.end),
  fold-turned c.args.self.now c.lawful.ensures.lawful c.lawful.ensures.short c.text.result.now c.text.ensures c.args.id c.args.start c.args.end
      c.in_ok-made.ensures.accepted c.in_ok-made.made.text c.in_ok-made.made.shown c.in_ok-made.ensures.changed,
)

pub returns-clause-made : goal.returns-clause-made
returns-clause-made c =
    let r = c.args.self.now in
    let fold = fold_of c.args.id c.args.start c.args.end in
    let none = fold-accepted r c.lawful.ensures.lawful c.lawful.ensures.short c.text.result.now c.text.ensures c.args.id c.args.start c.args.end c.in_ok-made.ensures.accepted in (
      none,
      fold-allowed r fold c.lawful.ensures.lawful.entries.source.text.0 none,
      c.in_ok-relaid.ensures.done (AddFold fold)
          (fold-turned r c.lawful.ensures.lawful c.lawful.ensures.short c.text.result.now c.text.ensures c.args.id c.args.start c.args.end
          c.in_ok-made.ensures.accepted c.in_ok-made.made.text c.in_ok-made.made.shown c.in_ok-made.ensures.changed),
    )

pub returns-in_err-made-clause-made : goal.returns-in_err-made-clause-made
returns-in_err-made-clause-made c =
    let refused = fold-refused c.args.self.now c.lawful.ensures.lawful c.lawful.ensures.short c.text.result.now c.text.ensures c.args.id c.args.start c.args.end
    c.in_err-made.field-0.0 c.in_err-made.ensures.refused in
    search (rules, refused)

pub returns-in_err-relaid-clause-made : goal.returns-in_err-relaid-clause-made
returns-in_err-relaid-clause-made c =
    let none = fold-accepted c.args.self.now c.lawful.ensures.lawful c.lawful.ensures.short c.text.result.now c.text.ensures c.args.id c.args.start c.args.end c.in_ok-made.ensures.accepted in
    search (rules, none)

pub returns-in_err-made-clause-steps : goal.returns-in_err-made-clause-steps
returns-in_err-made-clause-steps c =
    text-works (AddFold (fold_of c.args.id c.args.start c.args.end)) c.args.self.now refl c.text.result.now c.text.ensures
    c.args.steps.now c.with_fold.new.steps c.with_fold.ensures.steps

pub returns-in_err-relaid-clause-steps : goal.returns-in_err-relaid-clause-steps
returns-in_err-relaid-clause-steps c =
    change-works (AddFold (fold_of c.args.id c.args.start c.args.end)) c.args.self.now refl c.text.result.now c.text.ensures
    c.args.steps.now c.with_fold.new.steps c.with_fold.ensures.steps
    c.relaid.new.steps
    (c.relaid.ensures.steps (AddFold (fold_of c.args.id c.args.start c.args.end))
    (fold-turned c.args.self.now c.lawful.ensures.lawful c.lawful.ensures.short c.text.result.now c.text.ensures c.args.id c.args.start c.args.end
    c.in_ok-made.ensures.accepted c.in_ok-made.made.text c.in_ok-made.made.shown c.in_ok-made.ensures.changed))

pub returns-clause-steps : goal.returns-clause-steps
returns-clause-steps c =
    change-works (AddFold (fold_of c.args.id c.args.start c.args.end)) c.args.self.now refl c.text.result.now c.text.ensures
    c.args.steps.now c.with_fold.new.steps c.with_fold.ensures.steps
    c.relaid.new.steps
    (c.relaid.ensures.steps (AddFold (fold_of c.args.id c.args.start c.args.end))
    (fold-turned c.args.self.now c.lawful.ensures.lawful c.lawful.ensures.short c.text.result.now c.text.ensures c.args.id c.args.start c.args.end
    c.in_ok-made.ensures.accepted c.in_ok-made.made.text c.in_ok-made.made.shown c.in_ok-made.ensures.changed))
