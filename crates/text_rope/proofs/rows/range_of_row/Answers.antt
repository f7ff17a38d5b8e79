use Rattle.std.proofs.Common.{◌≡◌, ◌+◌, ◌-◌, ◌<◌, ◌≤◌, [], List, ℕ, count_by, get_or, ap, sym, subst, arith}
use Rattle.std.specs.List.{concat}
use Rattle.std.proofs.lemmas.List.Sums.{count_by-le-length}
use Rattle.cell_units.specs.Text.{is_feed}
use Rattle.cell_units.proofs.BufferLines.{line_end_next}
use Rattle.cell_units.proofs.ReplacedRows.{row_of-lt}
use Rattle.text_rope.specs.Finds.{IsBehindFeed}
use Rattle.text_rope.proofs.RowFinds.{feed_in_chunk, feeds_enough, next_in_chunk, starts_behind}
use Rattle.text_rope.proofs.rows.range_of_row.Goals as goal
use Rattle.text_rope.proofs.rows.range_of_row.Goals.{After-behind_feed, After-behind_feed-2}

-- where the row begins
behind : (c : After-behind_feed) → IsBehindFeed (concat c.args.chunks.now) c.args.row (c.found_row-found.result.before.bytes + c.behind_feed.result)
behind c = feed_in_chunk c.args.chunks.now c.args.row c.found_row-found.result.before c.found_row-found.result.text.now c.behind_feed.result c.found_row-found.ensures.found c.found_row-found.ensures.here c.behind_feed.ensures

pub behind_feed-requires-clause-within : goal.behind_feed-requires-clause-within
behind_feed-requires-clause-within c =
    let r = c.found_row-found.result.before in
    subst (λ (m : List ℕ). c.args.row - r.feeds ≤ count_by is_feed m) (sym c.found_row-found.ensures.here) (feeds_enough c.args.chunks.now c.args.row r c.found_row-found.ensures.found)

pub overflow_add-start : goal.overflow_add-start
overflow_add-start c = omega (arith, (behind (goal.at.overflow_add-start c).After-behind_feed).within, c.requires.rope.small)

pub returns-then-number-count_feeds-clause-start : goal.returns-then-number-count_feeds-clause-start
returns-then-number-count_feeds-clause-start c =
    starts_behind (concat c.args.chunks.now) c.args.row (c.found_row-found.result.before.bytes + c.behind_feed.result) (behind (goal.at.returns-then-number-count_feeds-clause-start c).After-behind_feed)

-- ---- where it ends in the same chunk

pub behind_feed-requires-2-clause-within : goal.behind_feed-requires-2-clause-within
behind_feed-requires-2-clause-within c =
    let r = c.found_row-found.result.before in
    omega (
      arith,
      c.if-number-count_feeds.false,
      c.count_feeds.ensures,
      ap (λ (t : List ℕ). count_by is_feed t) c.as_bytes.ensures.value,
      ap (λ (t : List ℕ). count_by is_feed t) c.found_row-found.ensures.here,
      feeds_enough c.args.chunks.now c.args.row r c.found_row-found.ensures.found,
    )

pub overflow_add-number : goal.overflow_add-number
overflow_add-number c =
    let text = concat c.args.chunks.now in
    omega (arith, c.requires.within, count_by-le-length is_feed text, c.requires.rope.small)

-- where the next row begins
behind_next : (c : After-behind_feed-2) → IsBehindFeed (concat c.args.chunks.now) (c.args.row + 1) (c.found_row-found.result.before.bytes + c.behind_feed-2.result)
behind_next c =
    let chunks = c.args.chunks.now in
    let r = c.found_row-found.result.before in
    let more : c.args.row - r.feeds < count_by is_feed (get_or chunks r.chunks []) = omega (
      arith,
      c.if-number-count_feeds.false,
      c.count_feeds.ensures,
      ap (λ (t : List ℕ). count_by is_feed t) c.as_bytes.ensures.value,
      ap (λ (t : List ℕ). count_by is_feed t) c.found_row-found.ensures.here,
      feeds_enough chunks c.args.row r c.found_row-found.ensures.found,
    ) in
    let same : c.args.row + 1 - r.feeds ≡ c.args.row - r.feeds + 1 = omega (arith, c.found_row-found.ensures.found.start) in
    feed_in_chunk chunks (c.args.row + 1) r c.found_row-found.result.text.now c.behind_feed-2.result (next_in_chunk chunks c.args.row r c.found_row-found.ensures.found more) c.found_row-found.ensures.here
    (subst (λ (k : ℕ). IsBehindFeed c.found_row-found.result.text.now k c.behind_feed-2.result) (sym same) c.behind_feed-2.ensures)

pub overflow_add-next : goal.overflow_add-next
overflow_add-next c = omega (arith, (behind_next (goal.at.overflow_add-next c).After-behind_feed-2).within, c.requires.rope.small)

pub overflow_sub-result : goal.overflow_sub-result
overflow_sub-result c = omega (arith, (behind_next (goal.at.overflow_sub-result c).After-behind_feed-2).some)

pub returns-clause-start : goal.returns-clause-start
returns-clause-start c =
    starts_behind (concat c.args.chunks.now) c.args.row (c.found_row-found.result.before.bytes + c.behind_feed.result) (behind (goal.at.returns-clause-start c).After-behind_feed)

pub returns-clause-end : goal.returns-clause-end
returns-clause-end c =
    let text = concat c.args.chunks.now in
    let place = c.found_row-found.result.before.bytes + c.behind_feed-2.result in
    let at = behind_next (goal.at.returns-clause-end c).After-behind_feed-2 in
    let start = starts_behind text (c.args.row + 1) place at in
    omega (arith, start, line_end_next text c.args.row (omega (arith, at.row, row_of-lt text place)))
