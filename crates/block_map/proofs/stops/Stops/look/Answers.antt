use Rattle.std.proofs.Common.{ℕ, ◌≤◌, List, unwrap_or, ◌∙◌, sym, arith}
use Rattle.block_map.specs.Stops.{Stop}
use Rattle.block_map.proofs.StopLooks.{at-most-later, same-rows}
use Rattle.block_map.proofs.stops.Stops.look.Goals as goal

pub returns-clause-same : goal.returns-clause-same
returns-clause-same c t low high =
    let ss : List Stop = c.args.self.now in
    let at : ℕ = c.first_behind-found.result.index in
    let least : c.min-next.result ≤ unwrap_or c.first_behind-found.result.row 4294967296 = omega (arith, c.min-next.ensures, c.unwrap_or.ensures) in
    let later = at-most-later ss at c.min-next.result c.first_behind-found.result.row 4294967296 c.len-count.ensures.rising c.first_behind-found.ensures.row least in
    same-rows c.args.bias c.args.row ss at c.first_behind-found.ensures.place c.len-count.ensures.rising c.first_behind-found.ensures.within
    c.first_behind-found.result.before c.first_place.result c.first_behind-found.ensures.before c.first_place.ensures
    c.min-next.result c.first_place-2.result later c.first_place-2.ensures t low high
    ∙ sym c.first_behind-found.ensures.rows
