use Rattle.std.proofs.Common.{◌+◌, ◌-◌, ◌≤◌, List, ℕ, count_by, sym, subst, arith}
use Rattle.std.specs.List.{concat}
use Rattle.cell_units.specs.Text.{is_feed}
use Rattle.text_rope.specs.Finds.{IsBehindFeed}
use Rattle.text_rope.proofs.RowFinds.{feed_in_chunk, feeds_enough, starts_behind}
use Rattle.text_rope.proofs.rows.start_of_row.Goals as goal
use Rattle.text_rope.proofs.rows.start_of_row.Goals.{After-behind_feed}

pub behind_feed-requires-clause-within : goal.behind_feed-requires-clause-within
behind_feed-requires-clause-within c =
    let r = c.found_row-found.result.before in
    subst (λ (m : List ℕ). c.args.row - r.feeds ≤ count_by is_feed m) (sym c.found_row-found.ensures.here) (feeds_enough c.args.chunks.now c.args.row r c.found_row-found.ensures.found)

-- the place in the text
behind : (c : After-behind_feed) → IsBehindFeed (concat c.args.chunks.now) c.args.row (c.found_row-found.result.before.bytes + c.behind_feed.result)
behind c = feed_in_chunk c.args.chunks.now c.args.row c.found_row-found.result.before c.found_row-found.result.text.now c.behind_feed.result c.found_row-found.ensures.found c.found_row-found.ensures.here c.behind_feed.ensures

pub overflow_add-result : goal.overflow_add-result
overflow_add-result c =
    let place = behind (goal.at.overflow_add-result c).After-behind_feed in
    omega (arith, place.within, c.requires.rope.small)

pub returns-clause-start : goal.returns-clause-start
returns-clause-start c = starts_behind (concat c.args.chunks.now) c.args.row (c.found_row-found.result.before.bytes + c.behind_feed.result) (behind (goal.at.returns-clause-start c).After-behind_feed)
