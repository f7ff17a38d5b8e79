use Rattle.std.proofs.Common.{◌≡◌, ℕ, ap, sym, subst, ◌∙◌}
use Rattle.std.specs.List.{All}
use Rattle.kept_sheet.specs.Kept.{widths_of}
use Rattle.cell_line.specs.Waiting.{AreApart}
use Rattle.display_map.specs.OutRuns.{any_has, is_in, lines_out}
use Rattle.display_map.specs.Outs.{AreBelow}
use Rattle.display_map.proofs.NextRuns.{next-is, none-from}
use Rattle.display_map.proofs.outs.next_run.Goals as goal

pub runs_out-requires : goal.runs_out-requires
runs_out-requires g c =
    subst (λ (n : ℕ). All (λ out. AreBelow n out.lines) c.args.outs.now) (sym c.lines.ensures.value) c.requires.below

pub next_run-requires-clause-none : goal.next_run-requires-clause-none
next_run-requires-clause-none g c =
    let r = g.S.Sheet.kept c.args.sheet.now in
    let same : (line : ℕ) → any_has line c.as_slice.result.now ≡ is_in line (lines_out r.width c.args.outs.now) =
    λ line. ap (any_has line) c.as_slice.ensures.value ∙ c.in_ok-runs.ensures.same line ∙ ap (λ (w : ℕ). is_in line (lines_out w c.args.outs.now)) c.width.ensures in
    none-from (widths_of r) r.width c.args.outs.now c.as_slice.result.now same c.args.from c.requires.none

pub next_run-requires-clause-apart : goal.next_run-requires-clause-apart
next_run-requires-clause-apart g c = subst AreApart (sym c.as_slice.ensures.value) c.in_ok-runs.ensures.apart

pub returns-clause-next : goal.returns-clause-next
returns-clause-next g c =
    let r = g.S.Sheet.kept c.args.sheet.now in
    let same : (line : ℕ) → any_has line c.as_slice.result.now ≡ is_in line (lines_out r.width c.args.outs.now) =
    λ line. ap (any_has line) c.as_slice.ensures.value ∙ c.in_ok-runs.ensures.same line ∙ ap (λ (w : ℕ). is_in line (lines_out w c.args.outs.now)) c.width.ensures in
    next-is (widths_of r) r.width c.args.outs.now c.as_slice.result.now same c.next_run.result c.next_run.ensures.next
