-- The line is recorded, and then its change is done or its refusal is written.
use Rattle.std.proofs.Common.{false, Option, subst, arith}
use Rattle.cell_units.specs.declared.fault.Refusal.{Refusal}
use Rattle.display_map.specs.Replay.{present_of}
use Rattle.display_sheet.specs.declared.change.Change.{Change}
use Rattle.display_sheet.specs.Changes.{change_refusal}
use Rattle.live_display.specs.declared.owner.Owner.{Owner}
use Rattle.script_runner.specs.Going.{HasChanged, IsAbreast, IsPrepared, MayHandle}
use Rattle.script_runner.proofs.Handled.{change_verdict, change-calm, change-unrecorded, change-stopped, change-refused, change-unwritten, change-done}
use Rattle.script_runner.proofs.Sends.{may-handle}
use Rattle.script_runner.proofs.runner.Runner.change.Goals as goal

may : (owner : Owner) (change : Change) → IsAbreast owner → IsPrepared false owner.display → MayHandle owner.crew.workers owner.display (change_verdict owner.display change)
may owner change abreast unsettled =
    may-handle owner (change_verdict owner.display change) abreast (change-calm owner.display change (change_refusal (present_of owner.display) change) unsettled)

pub returns-in_err-record_line-clause-handled : goal.returns-in_err-record_line-clause-handled
returns-in_err-record_line-clause-handled g c =
    change-unrecorded c.args.self.now.owner.crew.workers c.args.number c.args.self.now.owner.display (g.K.Sink.state c.args.self.now.out.now) c.requires.abreast.room
    c.args.change.now c.record_line.new.owner.display c.from_residual.result c.in_err-record_line.field-0.0 c.operations.result c.from_residual.ensures.1
    c.in_err-record_line.ensures.unchanged c.in_err-record_line.ensures.why c.operations.ensures.asked

pub returns-in_err-refusal-clause-handled : goal.returns-in_err-refusal-clause-handled
returns-in_err-refusal-clause-handled g c =
    let most = c.operations.ensures.most in
    let room = c.in_ok-record_line.ensures.room in
    change-stopped c.args.self.now.owner.crew.workers c.args.number c.args.self.now.owner.display (g.K.Sink.state c.args.self.now.out.now) c.args.change.now
    (may c.args.self.now.owner c.args.change.now c.requires.abreast c.requires.unsettled) c.record_line.new.owner.display c.in_ok-record_line.ensures.recorded
    c.apply_change.new.owner.display c.from_residual-in_err-refusal.result c.in_err-refusal.field-0.0 c.from_residual-in_err-refusal.ensures.1
    c.in_err-refusal.ensures.memory (omega arith) c.in_err-refusal.ensures.stopped

pub returns-in_err-write_refusal-in-Some-clause-handled : goal.returns-in_err-write_refusal-in-Some-clause-handled
returns-in_err-write_refusal-in-Some-clause-handled g c =
    let H : Option Refusal → Type 0 = λ r. HasChanged c.record_line.new.owner.display c.args.change.now c.apply_change.new.owner.display r in
    change-unwritten c.args.self.now.owner.crew.workers c.args.number c.args.self.now.owner.display (g.K.Sink.state c.args.self.now.out.now) c.args.change.now
    (may c.args.self.now.owner c.args.change.now c.requires.abreast c.requires.unsettled) c.record_line.new.owner.display c.in_ok-record_line.ensures.recorded
    c.in-Some.refusal c.apply_change.new.owner.display (g.K.Sink.state c.write_refusal.new.out)
    c.from_residual-in_err-write_refusal-in-Some.result c.in_err-write_refusal-in-Some.field-0.0 c.from_residual-in_err-write_refusal-in-Some.ensures.1
    (subst H c.in-Some.is c.in_ok-refusal.ensures.changed) c.in_err-write_refusal-in-Some.ensures.stopped

pub returns-in_ok-write_refusal-in-Some-clause-handled : goal.returns-in_ok-write_refusal-in-Some-clause-handled
returns-in_ok-write_refusal-in-Some-clause-handled g c =
    let H : Option Refusal → Type 0 = λ r. HasChanged c.record_line.new.owner.display c.args.change.now c.apply_change.new.owner.display r in
    change-refused c.args.self.now.owner.crew.workers c.args.number c.args.self.now.owner.display (g.K.Sink.state c.args.self.now.out.now) c.args.change.now
    (may c.args.self.now.owner c.args.change.now c.requires.abreast c.requires.unsettled) c.record_line.new.owner.display c.in_ok-record_line.ensures.recorded
    c.in-Some.refusal c.apply_change.new.owner.display (g.K.Sink.state c.write_refusal.new.out)
    (subst H c.in-Some.is c.in_ok-refusal.ensures.changed) c.in_ok-write_refusal-in-Some.ensures.written

pub returns-in-None-clause-handled : goal.returns-in-None-clause-handled
returns-in-None-clause-handled g c =
    let H : Option Refusal → Type 0 = λ r. HasChanged c.record_line.new.owner.display c.args.change.now c.apply_change.new.owner.display r in
    change-done c.args.self.now.owner.crew.workers c.args.number c.args.self.now.owner.display (g.K.Sink.state c.args.self.now.out.now) c.args.change.now
    (may c.args.self.now.owner c.args.change.now c.requires.abreast c.requires.unsettled) c.record_line.new.owner.display c.in_ok-record_line.ensures.recorded
    c.apply_change.new.owner.display (subst H c.in-None.is c.in_ok-refusal.ensures.changed)
