-- Each line stands behind those that were written before.
use Rattle.std.proofs.Common.{◌≡◌, Some, [], length, sym, ap, ◌∙◌, arith}
use Rattle.script_runner.specs.declared.stop.Stop.{Stop}
use Rattle.script_runner.specs.Output.{printed_with}
use Rattle.script_runner.specs.Writing.{IsUnwritten}
use Rattle.script_runner.proofs.Fronts.{written-more, written-stopped, fewer-left, one-fewer, none-first}
use Rattle.script_runner.proofs.Results.{err-same}
use Rattle.script_runner.proofs.write.write_answer.Goals as goal

pub returns-in_err-write_prefixed-clause-stopped : goal.returns-in_err-write_prefixed-clause-stopped
returns-in_err-write_prefixed-clause-stopped g c =
    let P : Stop → Type 0 = IsUnwritten (printed_with c.args.prefix.now c.args.answer.now) (g.K.Sink.state c.args.out.now) (g.K.Sink.state c.write_prefixed.new.out) in
    err-same c.from_residual-in_err-write_prefixed.result c.in_err-write_prefixed.field-0.0 P c.from_residual-in_err-write_prefixed.ensures.1
    (written-stopped c.args.prefix.now c.args.answer.now c.loop-line.answer c.next_line.new.self (g.K.Sink.state c.args.out.now) (g.K.Sink.state c.loop-line.out)
    (g.K.Sink.state c.write_prefixed.new.out) c.as_str.result.now c.in_err-write_prefixed.field-0.0 c.loop-line.invariant.written
    (ap Some c.as_str.ensures ∙ (sym c.in-Some.is ∙ c.in_ok-line.ensures.line)) c.in_ok-line.ensures.rest c.in_err-write_prefixed.ensures.stopped)

pub overflow_add-lines : goal.overflow_add-lines
overflow_add-lines g c =
    let fewer = fewer-left c.loop-line.answer c.next_line.new.self c.in-Some.line (sym c.in-Some.is ∙ c.in_ok-line.ensures.line) c.in_ok-line.ensures.rest in
    omega (arith, c.requires, c.loop-line.invariant.counted)

pub loop-line-preserved : goal.loop-line-preserved
loop-line-preserved g c =
    let fewer = one-fewer c.loop-line.answer c.next_line.new.self c.in-Some.line (sym c.in-Some.is ∙ c.in_ok-line.ensures.line) c.in_ok-line.ensures.rest in
    record {
      written = written-more c.args.prefix.now c.args.answer.now c.loop-line.answer c.next_line.new.self (g.K.Sink.state c.args.out.now) (g.K.Sink.state c.loop-line.out)
          (g.K.Sink.state c.write_prefixed.new.out) c.as_str.result.now c.loop-line.invariant.written
          (ap Some c.as_str.ensures ∙ (sym c.in-Some.is ∙ c.in_ok-line.ensures.line)) c.in_ok-line.ensures.rest c.in_ok-write_prefixed.ensures.written;
      counted = omega (arith, c.loop-line.invariant.counted);
      rises = omega (arith, c.loop-line.invariant.rises, c.next_line.ensures.counted);
    }

pub returns-clause-lines : goal.returns-clause-lines
returns-clause-lines g c =
    let none : c.loop-line.answer ≡ [] = none-first c.loop-line.answer (sym c.in_default.is ∙ c.in_ok-line.ensures.line) in
    let empty = ap length none in omega (arith, c.loop-line.invariant.counted)
