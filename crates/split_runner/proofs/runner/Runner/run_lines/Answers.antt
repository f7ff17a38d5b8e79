-- Line after line the run goes on.
use Rattle.std.proofs.Common.{◌∙◌, ℕ, List, length, refl, sym, subst, arith}
use Rattle.script_runner.specs.Entries.{script_lines}
use Rattle.script_runner.proofs.Played.{none-lines}
use Rattle.split_runner.specs.Going.{IsDone, stage}
use Rattle.split_runner.proofs.PlayHandled.{first-done, goes-next, handled-cut, last-done, next-cut, next-done}
use Rattle.split_script.specs.Lines.{split_line}
use Rattle.split_runner.proofs.runner.Runner.run_lines.Goals as goal

pub loop-rest-init : goal.loop-rest-init
loop-rest-init g c = record {
  sink = refl;
  numbers = omega arith;
  goes = c.requires.begun;
  going = λ course all going. first-done course (script_lines c.args.script.now) (stage g.K.Sink.state c.args.self.now) all going;
}

pub run_line-requires : goal.run_line-requires
run_line-requires g c = let goes = c.loop-rest.invariant.goes in (goes.0, goes.1, goes.2, goes.4)

pub loop-rest-preserved : goal.loop-rest-preserved
loop-rest-preserved g c =
    let s = stage g.K.Sink.state c.loop-rest.self in
    let s' = stage g.K.Sink.state c.run_line.new.self in
    let line = c.split_line.result.0.now in
    let more = script_lines c.split_line.result.1.now in
    record {
      sink = c.run_line.ensures.sink ∙ c.loop-rest.invariant.sink;
      numbers = omega (arith, c.loop-rest.invariant.numbers, c.split_line.ensures.shorter);
      goes = goes-next c.loop-rest.number (split_line (length c.loop-rest.self.split) line) s s' c.in_ok-again.again c.loop-rest.invariant.goes
          c.in_ok-again.ensures.handled;
      going = λ course all going.
          (let P : List (List ℕ) → Type 0 = λ lines. IsDone course c.loop-rest.number c.loop-rest.refused lines s in
          next-done course c.loop-rest.number c.loop-rest.refused line more s s' (subst P c.split_line.ensures.lines (c.loop-rest.invariant.going course all going))
          c.in_ok-again.again c.in_ok-again.ensures.handled);
    }

pub returns-in_err-again-clause-handled : goal.returns-in_err-again-clause-handled
returns-in_err-again-clause-handled g c course all going =
    let s = stage g.K.Sink.state c.loop-rest.self in
    let s' = stage g.K.Sink.state c.run_line.new.self in
    let P : List (List ℕ) → Type 0 = λ lines. IsDone course c.loop-rest.number c.loop-rest.refused lines s in
    handled-cut course s' c.from_residual.result c.in_err-again.field-0.0 c.from_residual.ensures.1
    (next-cut course c.loop-rest.number c.loop-rest.refused c.split_line.result.0.now (script_lines c.split_line.result.1.now) s s'
    (subst P c.split_line.ensures.lines (c.loop-rest.invariant.going course all going)) c.in_err-again.field-0.0 c.in_err-again.ensures.handled)

pub returns-clause-handled : goal.returns-clause-handled
returns-clause-handled g c course all going =
    let s = stage g.K.Sink.state c.loop-rest.self in
    let P : List (List ℕ) → Type 0 = λ lines. IsDone course c.loop-rest.number c.loop-rest.refused lines s in
    last-done course c.loop-rest.number c.loop-rest.refused s
    (subst P (none-lines c.loop-rest.rest.now (sym c.loop-rest-test.ensures)) (c.loop-rest.invariant.going course all going))
