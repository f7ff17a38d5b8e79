use Rattle.std.proofs.Common.{◌≡◌, ℕ, ap, ◌∙◌, arith}
use Rattle.cell_line.specs.declared.lines.Run.{Run}
use Rattle.cell_line.specs.Lines.{line_at}
use Rattle.cell_line.specs.Wrapping.{cuts_of}
use Rattle.wrap_workers.proofs.Runs.{cut_next}
use Rattle.wrap_workers.proofs.wrap.wraps.Goals as goal

pub loop-line-preserved : goal.loop-line-preserved
loop-line-preserved g c =
    let lines = g.N.Lines.elements_by_line c.args.job.now.lines in
    let first : c.run-run.result.first ≡ c.args.job.now.run.first = ap (λ (run : Run). run.first) c.run-run.ensures.value in
    let count : c.run-run.result.count ≡ c.args.job.now.run.count = ap (λ (run : Run). run.count) c.run-run.ensures.value in
    let cut : c.in_ok-cuts.cuts.items ≡ cuts_of (line_at lines c.loop-line.line) c.args.job.now.width =
    c.in_ok-cuts.ensures
    ∙ ap (λ n. cuts_of (line_at (g.N.Lines.elements_by_line n) c.loop-line.line) c.width.result) c.lines.ensures
    ∙ ap (λ (width : ℕ). cuts_of (line_at lines c.loop-line.line) width) c.width.ensures in
    cut_next lines c.args.job.now.run.first c.loop-line.line c.args.job.now.width c.loop-line.wraps.items c.push.new.self.items c.in_ok-cuts.cuts
    (omega (arith, first)) (omega (arith, c.run-run.ensures.lawful.1.2, first, count)) c.loop-line.invariant c.in_ok-push.ensures.items cut
