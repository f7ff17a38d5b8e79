-- What the line is read as has its verdict, on the display as it is when the line is recorded.
use Rattle.std.proofs.Common.{◌∙◌, ◌∷◌, sym}
use Rattle.display_map.specs.Replay.{present_of}
use Rattle.script_runner.specs.Entries.{Bytes}
use Rattle.script_runner.specs.Going.{at, stage}
use Rattle.script_runner.proofs.Handled.{handled-err, verdict-change, verdict-caret, verdict-query, verdict-settle, asked-change, handles-unread}
use Rattle.script_runner.proofs.ReadLines.{prepared-caret, prepared-change, prepared-query, prepared-settle, prepared-unread, read-as, read-still, unread-as, unread-still}
use Rattle.script_runner.proofs.runner.Runner.handle_line.Goals as goal

pub change-requires-clause-unsettled : goal.change-requires-clause-unsettled
change-requires-clause-unsettled g c =
    prepared-change c.args.self.now.owner.display c.prepare.new.owner.display c.read-read.result.0 c.read-read.result.1 c.read-read.ensures.settles
    c.in_ok-prepare.ensures.prepared c.in-Ok-Change.field-0 c.in-Ok-Change.is c.in-Ok-Change.change c.in-Ok-Change.field-0-is

pub answer-requires-clause-prepared : goal.answer-requires-clause-prepared
answer-requires-clause-prepared g c =
    prepared-query c.args.self.now.owner.display c.prepare.new.owner.display c.read-read.result.0 c.read-read.result.1 c.read-read.ensures.settles
    c.in_ok-prepare.ensures.prepared c.in-Ok-Query.field-0 c.in-Ok-Query.is c.in-Ok-Query.query c.in-Ok-Query.field-0-is c.in_ok-prepare.ensures.text

pub answer_caret-requires-clause-settled : goal.answer_caret-requires-clause-settled
answer_caret-requires-clause-settled g c =
    prepared-caret c.args.self.now.owner.display c.prepare.new.owner.display c.read-read.result.0 c.read-read.result.1 c.read-read.ensures.settles
    c.in_ok-prepare.ensures.prepared c.in-Ok-Caret.field-0 c.in-Ok-Caret.is c.in-Ok-Caret.query c.in-Ok-Caret.field-0-is

pub settled-requires-clause-settled : goal.settled-requires-clause-settled
settled-requires-clause-settled g c =
    prepared-settle c.args.self.now.owner.display c.prepare.new.owner.display c.read-read.result.0 c.read-read.result.1 c.read-read.ensures.settles
    c.in_ok-prepare.ensures.prepared c.in-Ok-Settle.field-0 c.in-Ok-Settle.is c.in-Ok-Settle.field-0-is

pub refuse_unread-requires-clause-unsettled : goal.refuse_unread-requires-clause-unsettled
refuse_unread-requires-clause-unsettled g c =
    prepared-unread c.args.self.now.owner.display c.prepare.new.owner.display c.read-read.result.0 c.read-read.result.1 c.read-read.ensures.settles
    c.in_ok-prepare.ensures.prepared c.in-Err.fault c.in-Err.is

pub returns-in_err-prepare-clause-handled : goal.returns-in_err-prepare-clause-handled
returns-in_err-prepare-clause-handled g c course left tally same going =
    handled-err course left tally (at c.prepare.new.owner.display (g.K.Sink.state c.args.self.now.out.now)) c.from_residual.result c.in_err-prepare.field-0.0
    c.from_residual.ensures.1
    (c.in_err-prepare.ensures.going course ((c.args.number, Bytes c.args.self.now.form c.args.line.now) ∷ left) tally (g.K.Sink.state c.args.self.now.out.now) same going)

pub returns-in-Ok-Change-clause-handled : goal.returns-in-Ok-Change-clause-handled
returns-in-Ok-Change-clause-handled g c course left tally same going =
    let before = c.in_ok-prepare.ensures.going course ((c.args.number, Bytes c.args.self.now.form c.args.line.now) ∷ left) tally (g.K.Sink.state c.args.self.now.out.now) same going in
    let read = read-still c.args.self.now.form (present_of c.args.self.now.owner.display).text (present_of c.prepare.new.owner.display).text c.args.line.now
    c.in-Ok-Change.field-0 c.in_ok-prepare.ensures.text
    (read-as c.args.self.now.form (present_of c.args.self.now.owner.display).text c.args.line.now c.read-read.result.0 c.in-Ok-Change.field-0 c.in-Ok-Change.is c.read-read.ensures.read) in
    c.change.ensures.handled course left tally (Bytes c.args.self.now.form c.args.line.now) (same ∙ sym c.prepare.ensures.team.workers) before
    (verdict-change c.args.self.now.form (present_of c.prepare.new.owner.display) c.args.line.now c.in-Ok-Change.field-0 c.in-Ok-Change.change read c.in-Ok-Change.field-0-is)
    (asked-change c.args.self.now.form (present_of c.prepare.new.owner.display) c.args.line.now c.in-Ok-Change.field-0 c.in-Ok-Change.change read c.in-Ok-Change.field-0-is)

pub returns-in-Ok-Query-clause-handled : goal.returns-in-Ok-Query-clause-handled
returns-in-Ok-Query-clause-handled g c course left tally same going =
    let before = c.in_ok-prepare.ensures.going course ((c.args.number, Bytes c.args.self.now.form c.args.line.now) ∷ left) tally (g.K.Sink.state c.args.self.now.out.now) same going in
    let read = read-still c.args.self.now.form (present_of c.args.self.now.owner.display).text (present_of c.prepare.new.owner.display).text c.args.line.now
    c.in-Ok-Query.field-0 c.in_ok-prepare.ensures.text
    (read-as c.args.self.now.form (present_of c.args.self.now.owner.display).text c.args.line.now c.read-read.result.0 c.in-Ok-Query.field-0 c.in-Ok-Query.is c.read-read.ensures.read) in
    c.answer.ensures.handled course left tally (Bytes c.args.self.now.form c.args.line.now) (same ∙ sym c.prepare.ensures.team.workers) before
    (verdict-query c.args.self.now.form (present_of c.prepare.new.owner.display) c.args.line.now c.in-Ok-Query.field-0 c.in-Ok-Query.query read c.in-Ok-Query.field-0-is)

pub returns-in-Ok-Caret-clause-handled : goal.returns-in-Ok-Caret-clause-handled
returns-in-Ok-Caret-clause-handled g c course left tally same going =
    let before = c.in_ok-prepare.ensures.going course ((c.args.number, Bytes c.args.self.now.form c.args.line.now) ∷ left) tally (g.K.Sink.state c.args.self.now.out.now) same going in
    let read = read-still c.args.self.now.form (present_of c.args.self.now.owner.display).text (present_of c.prepare.new.owner.display).text c.args.line.now
    c.in-Ok-Caret.field-0 c.in_ok-prepare.ensures.text
    (read-as c.args.self.now.form (present_of c.args.self.now.owner.display).text c.args.line.now c.read-read.result.0 c.in-Ok-Caret.field-0 c.in-Ok-Caret.is c.read-read.ensures.read) in
    c.answer_caret.ensures.handled course left tally (Bytes c.args.self.now.form c.args.line.now) (same ∙ sym c.prepare.ensures.team.workers) before
    (verdict-caret c.args.self.now.form (present_of c.prepare.new.owner.display) c.args.line.now c.in-Ok-Caret.field-0 c.in-Ok-Caret.query read c.in-Ok-Caret.field-0-is)

pub returns-in-Ok-Settle-clause-handled : goal.returns-in-Ok-Settle-clause-handled
returns-in-Ok-Settle-clause-handled g c course left tally same going =
    let before = c.in_ok-prepare.ensures.going course ((c.args.number, Bytes c.args.self.now.form c.args.line.now) ∷ left) tally (g.K.Sink.state c.args.self.now.out.now) same going in
    let read = read-still c.args.self.now.form (present_of c.args.self.now.owner.display).text (present_of c.prepare.new.owner.display).text c.args.line.now
    c.in-Ok-Settle.field-0 c.in_ok-prepare.ensures.text
    (read-as c.args.self.now.form (present_of c.args.self.now.owner.display).text c.args.line.now c.read-read.result.0 c.in-Ok-Settle.field-0 c.in-Ok-Settle.is c.read-read.ensures.read) in
    c.settled.ensures.handled course left tally (Bytes c.args.self.now.form c.args.line.now) (same ∙ sym c.prepare.ensures.team.workers) before
    (verdict-settle c.args.self.now.form (present_of c.prepare.new.owner.display) c.args.line.now c.in-Ok-Settle.field-0 read c.in-Ok-Settle.field-0-is)

pub returns-in-Err-clause-handled : goal.returns-in-Err-clause-handled
returns-in-Err-clause-handled g c course left tally same going =
    let before = c.in_ok-prepare.ensures.going course ((c.args.number, Bytes c.args.self.now.form c.args.line.now) ∷ left) tally (g.K.Sink.state c.args.self.now.out.now) same going in
    let unread = unread-still c.args.self.now.form (present_of c.args.self.now.owner.display).text (present_of c.prepare.new.owner.display).text c.args.line.now
    c.in-Err.fault c.in_ok-prepare.ensures.text
    (unread-as c.args.self.now.form (present_of c.args.self.now.owner.display).text c.args.line.now c.read-read.result.0 c.in-Err.fault c.in-Err.is c.read-read.ensures.refused) in
    handles-unread c.prepare.new.owner.crew.workers c.args.number c.args.self.now.form c.args.line.now c.in-Err.fault
    (at c.prepare.new.owner.display (g.K.Sink.state c.args.self.now.out.now)) (stage g.K.Sink.state c.refuse_unread.new.self) c.refuse_unread.result
    unread c.refuse_unread.ensures.handled course left tally (same ∙ sym c.prepare.ensures.team.workers) before
