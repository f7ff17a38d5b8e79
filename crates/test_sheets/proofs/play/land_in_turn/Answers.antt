use Rattle.std.proofs.Common.{rules, arith, ◌≡◌, ◌∷◌, [], List, false, subst, sym}
use Rattle.display_map.specs.Events.{Landed}
use Rattle.display_map.specs.Replay.{History, appended}
use Rattle.display_map.specs.Sending.{IsOutstanding, is_landing, seen_job}
use Rattle.test_sheets.proofs.play.land_in_turn.Goals as goal

pub land-requires-2-after_bounds : goal.land-requires-2-after_bounds
land-requires-2-after_bounds g c κs within =
    let job = seen_job g.S.Held.Lines.elements_by_line c.args.jobs.1 in
    let other : is_landing job.number (Landed c.args.jobs.0.number) ≡ false = search (rules, c.number.ensures, c.number-2.ensures, arith) in
    let out = c.job_laws.ensures.stays c.args.display.now (Landed c.args.jobs.0.number) job other c.requires.second in
    c.changes.ensures job (subst (λ (h : History). IsOutstanding h job) (sym c.in_ok-land.ensures) out)
