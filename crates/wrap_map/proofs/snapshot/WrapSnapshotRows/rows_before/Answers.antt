use Rattle.std.proofs.Common.{List, take, ap, sym, ◌∙◌}
use Rattle.wrap_map.specs.Standing.{stood_of}
use Rattle.wrap_map.specs.Stood.{Stood, rows_in}
use Rattle.wrap_map.proofs.Standings.{rows_before-stood}
use Rattle.wrap_map.proofs.snapshot.WrapSnapshotRows.rows_before.Goals as goal

pub returns : goal.returns
returns g c =
    let st = c.self.invariant.1 ∙ ap stood_of c.self.view_is in
    c.rows_before.ensures.rows
    ∙ ap (λ (l : List Stood). rows_in (take c.args.line l)) st
    ∙ sym (rows_before-stood c.args.self.now c.args.line)
