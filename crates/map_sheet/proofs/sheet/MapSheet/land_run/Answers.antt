use Rattle.std.proofs.Common.{ap, length, sym, subst, ◌∙◌}
use Rattle.kept_sheet.specs.Kept as kept
use Rattle.kept_sheet.specs.Kept.{AreLinesAt, cuts_in, placed_lines}
use Rattle.plain_rows.specs.Rows.{line_elements}
use Rattle.wrapped_lines.specs.Changed.{IsLandedAt}
use Rattle.wrapped_lines.specs.WrappedSource as wrapped
use Rattle.wrapped_lines.specs.WrappedSource.{WrappedSource}
use Rattle.map_sheet.proofs.Works.{land-lines, land-works, run-places}
use Rattle.map_sheet.proofs.Sent.{sheet_sent}
use Rattle.map_sheet.proofs.sheet.MapSheet.land_run.Goals as goal

pub landed-requires-send-L : goal.landed-requires-send-L
landed-requires-send-L _ _ = search sheet_sent depth 12 fits 4000

pub landed-requires-sync-L : goal.landed-requires-sync-L
landed-requires-sync-L _ _ = search sheet_sent depth 12 fits 4000

pub landed-requires-clause-lines : goal.landed-requires-clause-lines
landed-requires-clause-lines c κs =
    subst (λ (w : WrappedSource). AreLinesAt (wrapped.lines_of w) c.args.places.now (kept.lines_in c.args.old.now c.args.run)) (sym c.wrapped.ensures) c.requires.lines

pub landed-requires-clause-wraps : goal.landed-requires-clause-wraps
landed-requires-clause-wraps c κs = c.requires.wraps ∙ ap (λ (w : WrappedSource). cuts_in c.args.old.now c.args.run w.width) (sym c.wrapped.ensures)

pub relanded-requires : goal.relanded-requires
relanded-requires c =
    subst (λ (w : WrappedSource). IsLandedAt w c.args.places.now c.in_ok-made.made.lines c.in_ok-made.made.rows) c.wrapped.ensures c.in_ok-made.ensures.landed

pub returns-in_err-made-clause-steps : goal.returns-in_err-made-clause-steps
returns-in_err-made-clause-steps c =
    land-lines c.args.run.count (placed_lines c.args.places.now c.args.self.now) c.args.self.now c.wrapped.result.now c.wrapped.ensures
    c.args.steps.now c.landed.new.steps c.landed.ensures.steps

pub returns-clause-steps : goal.returns-clause-steps
returns-clause-steps c =
    land-works c.args.run.count (placed_lines c.args.places.now c.args.self.now) c.args.self.now c.wrapped.result.now c.wrapped.ensures
    c.args.steps.now c.landed.new.steps c.landed.ensures.steps
    (length c.args.places.now)
    (run-places (line_elements c.args.self.now) c.args.places.now c.args.old.now c.args.run c.requires.lines)
    c.relanded.new.steps c.relanded.ensures.steps
