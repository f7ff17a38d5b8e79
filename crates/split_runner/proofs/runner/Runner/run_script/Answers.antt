-- The first versions, the lines, and the last versions.
use Rattle.std.proofs.Common.{refl}
use Rattle.script_runner.specs.Entries.{script_lines}
use Rattle.split_runner.specs.Going.{course_of, stage}
use Rattle.split_runner.proofs.PlayHandled.{begins, goes-first, played-cut, started-room, stops-first}
use Rattle.split_runner.proofs.runner.Runner.run_script.Goals as goal

pub publish_all-requires : goal.publish_all-requires
publish_all-requires g c = started-room (stage g.K.Sink.state c.args.self.now) c.requires.started

pub run_lines-requires-clause-begun : goal.run_lines-requires-clause-begun
run_lines-requires-clause-begun g c =
    let old = stage g.K.Sink.state c.args.self.now in
    begins old.histories c.publish_all.new.self old.undo old.sink c.requires.started c.in_ok-publish_all.ensures.published

pub finish-requires : goal.finish-requires
finish-requires g c =
    let old = stage g.K.Sink.state c.args.self.now in
    let it = c.requires.started in
    let lines = script_lines c.args.script.now in
    let course = course_of it.0 it.1 lines old.sink in (
      course,
      course.lines,
      c.in_ok-refused.refused,
      c.in_ok-refused.ensures.handled course refl
          (goes-first it.0 it.1 lines old.histories c.publish_all.new.self old.undo old.sink it.2 c.in_ok-publish_all.ensures.published),
    )

pub returns-in_err-publish_all-clause-played : goal.returns-in_err-publish_all-clause-played
returns-in_err-publish_all-clause-played g c =
    let old = stage g.K.Sink.state c.args.self.now in
    stops-first (script_lines c.args.script.now) old.histories c.publish_all.new.self old.undo old.sink c.from_residual.result c.from_residual.ensures.1
    c.in_err-publish_all.ensures.some

pub returns-in_err-refused-clause-played : goal.returns-in_err-refused-clause-played
returns-in_err-refused-clause-played g c = λ text views it.
    (let old = stage g.K.Sink.state c.args.self.now in
    let lines = script_lines c.args.script.now in
    let course = course_of text views lines old.sink in
    played-cut course (stage g.K.Sink.state c.run_lines.new.self) c.from_residual-in_err-refused.result c.in_err-refused.field-0.0
    c.from_residual-in_err-refused.ensures.1
    (c.in_err-refused.ensures.handled course refl
    (goes-first text views lines old.histories c.publish_all.new.self old.undo old.sink it c.in_ok-publish_all.ensures.published)))

pub returns-in_err-finish-clause-played : goal.returns-in_err-finish-clause-played
returns-in_err-finish-clause-played g c = λ text views it.
    (let old = stage g.K.Sink.state c.args.self.now in
    let lines = script_lines c.args.script.now in
    let course = course_of text views lines old.sink in
    played-cut course (stage g.K.Sink.state c.finish.new.self) c.from_residual-in_err-finish.result c.in_err-finish.field-0.0
    c.from_residual-in_err-finish.ensures.1
    (c.in_err-finish.ensures.finished course c.in_ok-refused.refused
    (c.in_ok-refused.ensures.handled course refl
    (goes-first text views lines old.histories c.publish_all.new.self old.undo old.sink it c.in_ok-publish_all.ensures.published))))

pub returns-clause-played : goal.returns-clause-played
returns-clause-played g c = λ text views it.
    (let old = stage g.K.Sink.state c.args.self.now in
    let lines = script_lines c.args.script.now in
    let course = course_of text views lines old.sink in
    c.in_ok-finish.ensures.finished course c.in_ok-refused.refused
    (c.in_ok-refused.ensures.handled course refl
    (goes-first text views lines old.histories c.publish_all.new.self old.undo old.sink it c.in_ok-publish_all.ensures.published)))
