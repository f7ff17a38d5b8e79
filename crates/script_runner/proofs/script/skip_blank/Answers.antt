-- A blank line is passed, and any other ends the loop.
use Rattle.std.proofs.Common.{◌∙◌, ◌+◌, sym, refl, arith}
use Rattle.script_runner.specs.Entries.{script_lines}
use Rattle.script_runner.proofs.Heads.{passes-blank, only-line, no-line}
use Rattle.script_runner.proofs.Played.{none-lines}
use Rattle.script_runner.proofs.script.skip_blank.Goals as goal

pub loop-line-init : goal.loop-line-init
loop-line-init c = record { form = refl; asking = refl; within = omega arith }

pub loop-line-preserved : goal.loop-line-preserved
loop-line-preserved c =
    let more = passes-blank (c.loop-line.passed + 1) (script_lines c.loop-line.rest.now) c.split_line.result.0.now (script_lines c.split_line.result.1.now)
    c.split_line.ensures.lines (sym c.skipped.ensures ∙ c.if-not-skipped.false) in
    record {
      form = c.loop-line.invariant.form ∙ more.0;
      asking = c.loop-line.invariant.asking ∙ more.1;
      within = omega (arith, c.loop-line.invariant.within, c.split_line.ensures.shorter);
    }

pub returns-then-not-skipped : goal.returns-then-not-skipped
returns-then-not-skipped c =
    record {
      form = c.loop-line.invariant.form;
      asking = c.loop-line.invariant.asking;
      filled = only-line (c.loop-line.passed + 1) (script_lines c.loop-line.rest.now) c.split_line.result.0.now (script_lines c.split_line.result.1.now)
          c.split_line.ensures.lines (sym c.skipped.ensures ∙ c.if-not-skipped.true);
      within = c.loop-line.invariant.within;
    }

pub returns : goal.returns
returns c =
    record {
      form = c.loop-line.invariant.form;
      asking = c.loop-line.invariant.asking;
      filled = no-line (script_lines c.loop-line.rest.now) (none-lines c.loop-line.rest.now (sym c.loop-line-test.ensures));
      within = c.loop-line.invariant.within;
    }
