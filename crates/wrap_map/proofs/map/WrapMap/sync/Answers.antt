use Rattle.std.proofs.Common.{refl, arith}
use Rattle.wrap_map.specs.Standing.{Standing, standing_of}
use Rattle.wrap_map.proofs.Calls.{leads-now, room-now, sync-kept, sync-lengths, sync-synced}
use Rattle.wrap_map.proofs.Synced.{sync-fits, sync-within}
use Rattle.wrap_map.proofs.map.WrapMap.sync.Goals as goal

pub replaced_if_any-requires-clause-within : goal.replaced_if_any-requires-clause-within
replaced_if_any-requires-clause-within g c =
    let m = c.self.inside in
    let s : Standing = standing_of (g.N.Lines.elements_by_line m.lines) m.stretches in
    let lines = g.N.Lines.elements_by_line c.args.lines in
    sync-within s lines c.args.below m.stretches c.self.invariant.0.1 c.self.invariant.0.0
    (leads-now c.args.self.now s m.width lines c.args.below c.self.view_is c.requires.leads)

pub replaced_if_any-requires-clause-rows_fit : goal.replaced_if_any-requires-clause-rows_fit
replaced_if_any-requires-clause-rows_fit g c =
    let m = c.self.inside in
    let s : Standing = standing_of (g.N.Lines.elements_by_line m.lines) m.stretches in
    let lines = g.N.Lines.elements_by_line c.args.lines in
    sync-fits s lines c.args.below m.stretches c.self.invariant.0.1 c.self.invariant.0.0
    (leads-now c.args.self.now s m.width lines c.args.below c.self.view_is c.requires.leads)
    (room-now c.args.self.now s m.width lines c.args.below c.self.view_is c.requires.room)

pub returns-in_err-stretches-clause-steps : goal.returns-in_err-stretches-clause-steps
returns-in_err-stretches-clause-steps g c h old new =
    let m = c.self.inside in
    let s : Standing = standing_of (g.N.Lines.elements_by_line m.lines) m.stretches in
    let long = sync-lengths c.args.self.now s m.stretches m.width (g.N.Lines.elements_by_line c.args.lines) c.args.below
    c.self.view_is c.self.invariant.0.1 c.self.invariant.0.0 c.requires.leads c.requires.room in
    c.replaced_if_any.ensures.steps h (omega (arith, old, long.0)) (omega (arith, new, long.1))

pub returns-in_err-share-clause-steps : goal.returns-in_err-share-clause-steps
returns-in_err-share-clause-steps g c h old new =
    let m = c.self.inside in
    let s : Standing = standing_of (g.N.Lines.elements_by_line m.lines) m.stretches in
    let long = sync-lengths c.args.self.now s m.stretches m.width (g.N.Lines.elements_by_line c.args.lines) c.args.below
    c.self.view_is c.self.invariant.0.1 c.self.invariant.0.0 c.requires.leads c.requires.room in
    c.replaced_if_any.ensures.steps h (omega (arith, old, long.0)) (omega (arith, new, long.1))

pub returns-in_err-share-2-clause-steps : goal.returns-in_err-share-2-clause-steps
returns-in_err-share-2-clause-steps g c h old new =
    let m = c.self.inside in
    let s : Standing = standing_of (g.N.Lines.elements_by_line m.lines) m.stretches in
    let long = sync-lengths c.args.self.now s m.stretches m.width (g.N.Lines.elements_by_line c.args.lines) c.args.below
    c.self.view_is c.self.invariant.0.1 c.self.invariant.0.0 c.requires.leads c.requires.room in
    c.replaced_if_any.ensures.steps h (omega (arith, old, long.0)) (omega (arith, new, long.1))

pub invariant_of-snapshot : goal.invariant_of-snapshot
invariant_of-snapshot g c =
    let m = c.self.inside in
    let s : Standing = standing_of (g.N.Lines.elements_by_line m.lines) m.stretches in
    sync-kept c.args.self.now s m.stretches m.width (g.N.Lines.elements_by_line c.args.lines) (g.N.Lines.elements_by_line c.in_ok-share.field-0) c.args.below
    c.in_ok-stretches.stretches c.in_ok-share-2.field-0
    c.self.view_is c.self.invariant.0.1 c.self.invariant.0.0 c.requires.leads c.requires.room
    c.in_ok-stretches.ensures.lines c.in_ok-share.ensures c.in_ok-share-2.ensures

pub invariant_of-self : goal.invariant_of-self
invariant_of-self g c =
    let m = c.self.inside in
    let s : Standing = standing_of (g.N.Lines.elements_by_line m.lines) m.stretches in
    let lines = g.N.Lines.elements_by_line c.args.lines in
    let k = sync-kept c.args.self.now s m.stretches m.width lines lines c.args.below
    c.in_ok-stretches.stretches c.in_ok-stretches.stretches
    c.self.view_is c.self.invariant.0.1 c.self.invariant.0.0 c.requires.leads c.requires.room
    c.in_ok-stretches.ensures.lines refl refl in
    (k, c.self.invariant.1)

pub returns-clause-synced : goal.returns-clause-synced
returns-clause-synced g c =
    let m = c.self.inside in
    let s : Standing = standing_of (g.N.Lines.elements_by_line m.lines) m.stretches in
    sync-synced c.args.self.now s m.stretches m.width (g.N.Lines.elements_by_line c.args.lines) (g.N.Lines.elements_by_line c.in_ok-share.field-0)
    c.args.below c.in_ok-stretches.rows
    c.in_ok-stretches.stretches c.in_ok-share-2.field-0
    c.self.view_is c.self.invariant.0.1 c.self.invariant.0.0 c.requires.leads c.requires.room
    c.in_ok-stretches.ensures.lines c.in_ok-stretches.ensures.rows c.in_ok-share.ensures c.in_ok-share-2.ensures

pub returns-clause-steps : goal.returns-clause-steps
returns-clause-steps g c h old new =
    let m = c.self.inside in
    let s : Standing = standing_of (g.N.Lines.elements_by_line m.lines) m.stretches in
    let long = sync-lengths c.args.self.now s m.stretches m.width (g.N.Lines.elements_by_line c.args.lines) c.args.below
    c.self.view_is c.self.invariant.0.1 c.self.invariant.0.0 c.requires.leads c.requires.room in
    c.replaced_if_any.ensures.steps h (omega (arith, old, long.0)) (omega (arith, new, long.1))
