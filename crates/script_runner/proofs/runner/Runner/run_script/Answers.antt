-- The lines behind the head are the entries of the script.
use Rattle.std.proofs.Common.{List, ℕ, None, subst, sym, arith}
use Rattle.script_runner.specs.declared.stop.Stop.{Stop}
use Rattle.script_runner.specs.declared.stop.Stop.TheVariants as stops
use Rattle.script_runner.specs.Entries.{Entry, numbered_lines}
use Rattle.script_runner.specs.Output.{no_lines}
use Rattle.script_runner.specs.Going.{IsCut, IsGoing, stage}
use Rattle.script_runner.proofs.GoingOn.{going-full, going-short}
use Rattle.script_runner.proofs.Played.{lines-err}
use Rattle.script_runner.proofs.Heads.{behind-head}
use Rattle.script_runner.proofs.runner.Runner.run_script.Goals as goal

pub returns-in_err-check_room-clause-handled : goal.returns-in_err-check_room-clause-handled
returns-in_err-check_room-clause-handled g c course same going =
    let here = stage g.K.Sink.state c.args.self.now in
    let P : Stop → Type 0 = λ s. IsCut None course here s in
    lines-err course here c.from_residual.result c.in_err-check_room.field-0.0 c.from_residual.ensures.1
    (subst P (sym c.in_err-check_room.ensures.full.0)
    (going-full course (numbered_lines c.args.script.now) no_lines here going (omega (arith, c.in_err-check_room.ensures.full.1))))

pub returns-in_err-head-clause-handled : goal.returns-in_err-head-clause-handled
returns-in_err-head-clause-handled g c course same going =
    let here = stage g.K.Sink.state c.args.self.now in
    let room = c.in_ok-check_room.ensures.room in
    lines-err course here c.from_residual-in_err-head.result stops.Memory c.from_residual-in_err-head.ensures.1
    (going-short course (numbered_lines c.args.script.now) no_lines here going (omega arith))

pub returns-clause-handled : goal.returns-clause-handled
returns-clause-handled g c course same going =
    let here = stage g.K.Sink.state c.args.self.now in
    let P : List (ℕ × Entry) → Type 0 = λ left. IsGoing course left no_lines here in
    c.run_lines.ensures.handled course same (subst P (behind-head c.args.script.now c.in_ok-head.head c.in_ok-head.ensures) going)
