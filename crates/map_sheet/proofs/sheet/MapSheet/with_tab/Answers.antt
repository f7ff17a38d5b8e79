use Rattle.std.proofs.Common.{rules}
use Rattle.std.specs.Arc.{arc_value}
use Rattle.cell_units.specs.Operation.{SetTab}
use Rattle.map_sheet.proofs.Refusals.{tab-none, tab-refused}
use Rattle.map_sheet.proofs.Steps.{tab-relaid, tab-room}
use Rattle.map_sheet.proofs.Works.{tab-lines, tab-works}
use Rattle.map_sheet.proofs.Sent.{sheet_sent}
use Rattle.map_sheet.proofs.sheet.MapSheet.with_tab.Goals as goal

pub with_tab-requires-send-L : goal.with_tab-requires-send-L
with_tab-requires-send-L _ _ = search sheet_sent depth 12 fits 4000

pub with_tab-requires-sync-L : goal.with_tab-requires-sync-L
with_tab-requires-sync-L _ _ = search sheet_sent depth 12 fits 4000

pub with_tab-requires-clause-room : goal.with_tab-requires-clause-room
with_tab-requires-clause-room c κs =
    tab-room c.args.self.now c.lawful.ensures.lawful c.lawful.ensures.short c.lawful.ensures.plain c.wrapped.result.now c.wrapped.ensures c.args.size

pub rewrapped-requires : goal.rewrapped-requires
rewrapped-requires c = (
  SetTab c.args.size,
  tab-relaid c.args.self.now c.lawful.ensures.lawful c.lawful.ensures.short c.lawful.ensures.plain c.wrapped.result.now c.wrapped.ensures
      c.args.size c.in_ok-made.ensures.accepted (arc_value c.in_ok-text.text) c.in_ok-text.ensures
      c.in_ok-made.made.lines c.in_ok-made.made.run c.in_ok-made.made.rows c.in_ok-made.ensures.all c.in_ok-made.ensures.rewrapped,
)

pub returns-clause-made : goal.returns-clause-made
returns-clause-made c = (
  tab-none c.args.size c.in_ok-made.ensures.accepted,
  c.in_ok-made.ensures.accepted,
  c.in_ok-rewrapped.ensures.done (SetTab c.args.size)
      (tab-relaid c.args.self.now c.lawful.ensures.lawful c.lawful.ensures.short c.lawful.ensures.plain c.wrapped.result.now c.wrapped.ensures
      c.args.size c.in_ok-made.ensures.accepted (arc_value c.in_ok-text.text) c.in_ok-text.ensures
      c.in_ok-made.made.lines c.in_ok-made.made.run c.in_ok-made.made.rows c.in_ok-made.ensures.all c.in_ok-made.ensures.rewrapped),
)

pub returns-in_err-made-clause-made : goal.returns-in_err-made-clause-made
returns-in_err-made-clause-made c =
    let refused = tab-refused c.args.size c.in_err-made.field-0.0 c.in_err-made.ensures.refused in
    search (rules, refused)

pub returns-in_err-text-clause-made : goal.returns-in_err-text-clause-made
returns-in_err-text-clause-made c = let none = tab-none c.args.size c.in_ok-made.ensures.accepted in search (rules, none)

pub returns-in_err-rewrapped-clause-made : goal.returns-in_err-rewrapped-clause-made
returns-in_err-rewrapped-clause-made c = let none = tab-none c.args.size c.in_ok-made.ensures.accepted in search (rules, none)

pub returns-in_err-made-clause-steps : goal.returns-in_err-made-clause-steps
returns-in_err-made-clause-steps c = tab-lines c.args.size c.args.self.now c.wrapped.result.now c.wrapped.ensures c.args.steps.now c.with_tab.new.steps c.with_tab.ensures.steps

pub returns-in_err-text-clause-steps : goal.returns-in_err-text-clause-steps
returns-in_err-text-clause-steps c = tab-lines c.args.size c.args.self.now c.wrapped.result.now c.wrapped.ensures c.args.steps.now c.with_tab.new.steps c.with_tab.ensures.steps

pub returns-in_err-rewrapped-clause-steps : goal.returns-in_err-rewrapped-clause-steps
returns-in_err-rewrapped-clause-steps c =
    tab-works c.args.size c.args.self.now c.wrapped.result.now c.wrapped.ensures c.args.steps.now c.with_tab.new.steps c.with_tab.ensures.steps
    c.rewrapped.new.steps
    (c.rewrapped.ensures.steps (SetTab c.args.size)
    (tab-relaid c.args.self.now c.lawful.ensures.lawful c.lawful.ensures.short c.lawful.ensures.plain c.wrapped.result.now c.wrapped.ensures
    c.args.size c.in_ok-made.ensures.accepted (arc_value c.in_ok-text.text) c.in_ok-text.ensures
    c.in_ok-made.made.lines c.in_ok-made.made.run c.in_ok-made.made.rows c.in_ok-made.ensures.all c.in_ok-made.ensures.rewrapped))

pub returns-clause-steps : goal.returns-clause-steps
returns-clause-steps c =
    tab-works c.args.size c.args.self.now c.wrapped.result.now c.wrapped.ensures c.args.steps.now c.with_tab.new.steps c.with_tab.ensures.steps
    c.rewrapped.new.steps
    (c.rewrapped.ensures.steps (SetTab c.args.size)
    (tab-relaid c.args.self.now c.lawful.ensures.lawful c.lawful.ensures.short c.lawful.ensures.plain c.wrapped.result.now c.wrapped.ensures
    c.args.size c.in_ok-made.ensures.accepted (arc_value c.in_ok-text.text) c.in_ok-text.ensures
    c.in_ok-made.made.lines c.in_ok-made.made.run c.in_ok-made.made.rows c.in_ok-made.ensures.all c.in_ok-made.ensures.rewrapped))
