-- Every view is settled, and then the line is handled.
use Rattle.std.proofs.Common.{◌<◌, false, length, Ok, sym, subst}
use Rattle.split_script.specs.declared.line.SplitLine as declared
use Rattle.split_script.specs.Lines.{Astray, Own, Redo, Skipped, Undo, line_of}
use Rattle.split_script.specs.Met.{steps_of}
use Rattle.split_runner.specs.Going.{Handles, IsOfViews, stage}
use Rattle.split_runner.proofs.LineHandled.{goes-idle, goes-settled, line-full, line-ready, line-skipped, line-unsettled, may-handle}
use Rattle.split_runner.proofs.UndoHandled.{astray-refused}
use Rattle.split_runner.proofs.runner.Runner.handle_line.Goals as goal

pub settle-requires : goal.settle-requires
settle-requires g c = goes-idle (stage g.K.Sink.state c.args.self.now) c.requires.goes_on

pub own_line-requires : goal.own_line-requires
own_line-requires g c =
    let O : declared.SplitLine → Type 0 = λ l. IsOfViews (length c.args.self.now.split) (line_of l) in
    let there : c.in-Own.view < length c.args.self.now.split = subst O c.in-Own.is c.requires.there in
    may-handle (stage g.K.Sink.state c.settle.new.self) c.in-Own.view
    (goes-settled (stage g.K.Sink.state c.args.self.now) (stage g.K.Sink.state c.settle.new.self) c.requires.goes_on c.in_ok-settle.ensures.settled)
    (subst (λ n. c.in-Own.view < n) (sym c.settle.ensures.count) there) c.of_one_text.ensures.few c.in_ok-check_room.ensures.room

pub undo-requires : goal.undo-requires
undo-requires g c = c.of_one_text.ensures.some

pub redo-requires : goal.redo-requires
redo-requires g c = c.of_one_text.ensures.some

pub returns-in_err-settle-clause-handled : goal.returns-in_err-settle-clause-handled
returns-in_err-settle-clause-handled g c =
    line-unsettled c.args.number (line_of c.args.line) (stage g.K.Sink.state c.args.self.now) (stage g.K.Sink.state c.settle.new.self)
    c.in_err-settle.field-0.0 c.from_residual.result c.from_residual.ensures.1 c.in_err-settle.ensures.settled

pub returns-in_err-check_room-clause-handled : goal.returns-in_err-check_room-clause-handled
returns-in_err-check_room-clause-handled g c =
    line-full c.args.number (line_of c.args.line) (stage g.K.Sink.state c.args.self.now) (stage g.K.Sink.state c.settle.new.self)
    c.in_err-check_room.field-0.0 c.from_residual-in_err-check_room.result c.from_residual-in_err-check_room.ensures.1
    c.in_ok-settle.ensures.settled c.in_err-check_room.ensures.full

pub returns-in-Skipped-clause-handled : goal.returns-in-Skipped-clause-handled
returns-in-Skipped-clause-handled g c =
    let old = stage g.K.Sink.state c.args.self.now in
    let s = stage g.K.Sink.state c.settle.new.self in
    let H : declared.SplitLine → Type 0 = λ l. Handles c.args.number (line_of l) old s (Ok false) in
    subst H (sym c.in-Skipped.is)
    (line-ready c.args.number Skipped old s s (Ok false) c.in_ok-settle.ensures.settled c.in_ok-check_room.ensures.room
    (λ course done refused next ready. line-skipped c.args.number s.histories s.undo s.sink course done refused next ready.going))

pub returns-in-Own-clause-handled : goal.returns-in-Own-clause-handled
returns-in-Own-clause-handled g c =
    let old = stage g.K.Sink.state c.args.self.now in
    let s = stage g.K.Sink.state c.settle.new.self in
    let new = stage g.K.Sink.state c.own_line.new.self in
    let H : declared.SplitLine → Type 0 = λ l. Handles c.args.number (line_of l) old new c.own_line.result in
    subst H (sym c.in-Own.is)
    (line-ready c.args.number (Own c.in-Own.view c.in-Own.line.now) old s new c.own_line.result c.in_ok-settle.ensures.settled
    c.in_ok-check_room.ensures.room c.own_line.ensures.handled)

pub returns-in-Undo-clause-handled : goal.returns-in-Undo-clause-handled
returns-in-Undo-clause-handled g c =
    let old = stage g.K.Sink.state c.args.self.now in
    let s = stage g.K.Sink.state c.settle.new.self in
    let new = stage g.K.Sink.state c.undo.new.self in
    let H : declared.SplitLine → Type 0 = λ l. Handles c.args.number (line_of l) old new c.undo.result in
    subst H (sym c.in-Undo.is)
    (line-ready c.args.number Undo old s new c.undo.result c.in_ok-settle.ensures.settled c.in_ok-check_room.ensures.room c.undo.ensures.handled)

pub returns-in-Redo-clause-handled : goal.returns-in-Redo-clause-handled
returns-in-Redo-clause-handled g c =
    let old = stage g.K.Sink.state c.args.self.now in
    let s = stage g.K.Sink.state c.settle.new.self in
    let new = stage g.K.Sink.state c.redo.new.self in
    let H : declared.SplitLine → Type 0 = λ l. Handles c.args.number (line_of l) old new c.redo.result in
    subst H (sym c.in-Redo.is)
    (line-ready c.args.number Redo old s new c.redo.result c.in_ok-settle.ensures.settled c.in_ok-check_room.ensures.room c.redo.ensures.handled)

pub returns-in-Astray-clause-handled : goal.returns-in-Astray-clause-handled
returns-in-Astray-clause-handled g c =
    let old = stage g.K.Sink.state c.args.self.now in
    let s = stage g.K.Sink.state c.settle.new.self in
    let new = stage g.K.Sink.state c.refuse_astray.new.self in
    let H : declared.SplitLine → Type 0 = λ l. Handles c.args.number (line_of l) old new c.refuse_astray.result in
    subst H (sym c.in-Astray.is)
    (line-ready c.args.number Astray old s new c.refuse_astray.result c.in_ok-settle.ensures.settled c.in_ok-check_room.ensures.room
    (λ course done refused next ready. c.refuse_astray.ensures.handled course done refused (c.args.number, Astray) next ready.going
    (astray-refused course.text s.histories (steps_of s.histories done) c.args.number)))
