-- Line after line the run goes on.
use Rattle.std.proofs.Common.{◌+◌, ◌∙◌, ℕ, List, subst, sym, refl, ap, arith}
use Rattle.edit_script.specs.declared.asked.Form.{Form}
use Rattle.script_runner.specs.declared.tally.Tally.{Tally}
use Rattle.script_runner.specs.Entries.{script_lines}
use Rattle.script_runner.specs.Going.{IsGoing, numbered_from, stage}
use Rattle.script_runner.proofs.Played.{none-lines, lines-err}
use Rattle.script_runner.proofs.runner.Runner.run_lines.Goals as goal

pub loop-rest-init : goal.loop-rest-init
loop-rest-init g c =
    let handled = ap (λ (t : Tally). t.handled) c.none-tally.ensures in
    let refused = ap (λ (t : Tally). t.refused) c.none-tally.ensures in
    let answers = ap (λ (t : Tally). t.answers) c.none-tally.ensures in
    record {
      ready = c.requires.ready;
      team = record { workers = refl; board = refl };
      sink = refl;
      form = refl;
      numbers = omega arith;
      handled = omega arith;
      refused = omega arith;
      answers = omega arith;
      going = λ course same going.
          (let P : Tally → Type 0 = λ t. IsGoing course (numbered_from c.args.self.now.form (c.args.passed + 1) (script_lines c.args.lines.now)) t (stage g.K.Sink.state c.args.self.now) in
          subst P (sym c.none-tally.ensures) going);
    }

pub count-requires : goal.count-requires
count-requires g c = record {
  handled = omega (arith, c.loop-rest.invariant.numbers, c.loop-rest.invariant.handled, c.split_line.ensures.shorter);
  refused = omega (arith, c.loop-rest.invariant.numbers, c.loop-rest.invariant.refused, c.split_line.ensures.shorter);
  answers = omega (arith, c.loop-rest.invariant.numbers, c.loop-rest.invariant.answers, c.split_line.ensures.shorter);
}

pub loop-rest-preserved : goal.loop-rest-preserved
loop-rest-preserved g c =
    let form : Form = c.loop-rest.self.form in
    record {
      ready = c.in_ok-outcome.ensures.ready;
      team = record {
        workers = c.run_line.ensures.same.team.workers ∙ c.loop-rest.invariant.team.workers;
        board = c.run_line.ensures.same.team.board ∙ c.loop-rest.invariant.team.board;
      };
      sink = c.run_line.ensures.same.sink ∙ c.loop-rest.invariant.sink;
      form = c.run_line.ensures.same.form ∙ c.loop-rest.invariant.form;
      numbers = omega (arith, c.loop-rest.invariant.numbers, c.split_line.ensures.shorter);
      handled = omega (arith, c.loop-rest.invariant.handled, c.count.ensures.few.handled);
      refused = omega (arith, c.loop-rest.invariant.refused, c.count.ensures.few.refused);
      answers = omega (arith, c.loop-rest.invariant.answers, c.count.ensures.few.answers);
      going = λ course same going.
          (let P : List (List ℕ) → Type 0 = λ lines. IsGoing course (numbered_from form (c.loop-rest.number + 1) lines) c.loop-rest.tally (stage g.K.Sink.state c.loop-rest.self) in
          let T : Tally → Type 0 = λ t. IsGoing course (numbered_from form (c.loop-rest.number + 1 + 1) (script_lines c.split_line.result.1.now)) t (stage g.K.Sink.state c.run_line.new.self) in
          let F : Form → Type 0 = λ f. IsGoing course (numbered_from f (c.loop-rest.number + 1 + 1) (script_lines c.split_line.result.1.now)) c.count.new.self (stage g.K.Sink.state c.run_line.new.self) in
          subst F (sym c.run_line.ensures.same.form) (subst T (sym c.count.ensures.counted) (c.in_ok-outcome.ensures.handled course (script_lines c.split_line.result.1.now) c.loop-rest.tally
          (same ∙ sym c.loop-rest.invariant.team.workers) (subst P c.split_line.ensures.lines (c.loop-rest.invariant.going course same going)))));
    }

pub returns-in_err-outcome-clause-handled : goal.returns-in_err-outcome-clause-handled
returns-in_err-outcome-clause-handled g c course same going =
    let P : List (List ℕ) → Type 0 = λ lines. IsGoing course (numbered_from c.loop-rest.self.form (c.loop-rest.number + 1) lines) c.loop-rest.tally (stage g.K.Sink.state c.loop-rest.self) in
    lines-err course (stage g.K.Sink.state c.run_line.new.self) c.from_residual.result c.in_err-outcome.field-0.0 c.from_residual.ensures.1
    (c.in_err-outcome.ensures.handled course (script_lines c.split_line.result.1.now) c.loop-rest.tally
    (same ∙ sym c.loop-rest.invariant.team.workers) (subst P c.split_line.ensures.lines (c.loop-rest.invariant.going course same going)))

pub returns-clause-handled : goal.returns-clause-handled
returns-clause-handled g c course same going =
    let P : List (List ℕ) → Type 0 = λ lines. IsGoing course (numbered_from c.loop-rest.self.form (c.loop-rest.number + 1) lines) c.loop-rest.tally (stage g.K.Sink.state c.loop-rest.self) in
    subst P (none-lines c.loop-rest.rest.now (sym c.loop-rest-test.ensures)) (c.loop-rest.invariant.going course same going)
