use Rattle.std.proofs.Common.{◌≡◌, ◌+◌, ◌-◌, ◌<◌, ◌≤◌, [], List, ℕ, count_by, get_or, length, take, take_all, ap, sym, subst, ◌∙◌, arith}
use Rattle.std.specs.List.{concat}
use Rattle.std.proofs.lemmas.List.{length-take-le}
use Rattle.cell_units.specs.BufferLines.{line_start}
use Rattle.cell_units.specs.Text.{is_feed, row_of}
use Rattle.cell_units.proofs.BufferLines.{line_count-is}
use Rattle.cell_units.proofs.PlainLayers.{line_of_offset}
use Rattle.cell_units.proofs.ReplacedRows.{row_of-le, row_of-lt}
use Rattle.text_rope.specs.Finds.{IsBehindFeed}
use Rattle.text_rope.specs.RowSizes.{row_size_of}
use Rattle.text_rope.proofs.Nearest.{row_here, row_small}
use Rattle.text_rope.proofs.Places.{within_chunk}
use Rattle.text_rope.proofs.RowFinds.{feed_in_chunk, front_feeds, row_in_chunk, starts_behind}
use Rattle.text_rope.proofs.RowStarts.{row_start_is}
use Rattle.text_rope.proofs.rows.point_at.Goals as goal
use Rattle.text_rope.proofs.rows.point_at.Goals.{After-count_feeds-feeds, After-behind_feed}

-- the bytes of the chunk
chunk_is : (c : After-count_feeds-feeds) → c.as_bytes.result.now ≡ get_or c.args.chunks.now c.found_at-found.result.before.chunks []
chunk_is c = c.as_bytes.ensures.value ∙ c.found_at-found.ensures.here

front_fits : (c : After-count_feeds-feeds) → c.args.offset - c.found_at-found.result.before.bytes ≤ length c.as_bytes.result.now
front_fits c = omega (arith, within_chunk c.args.chunks.now c.args.offset c.found_at-found.result.before c.found_at-found.ensures.found, ap length (chunk_is c))

row : (c : After-count_feeds-feeds) → c.found_at-found.result.before.feeds + c.count_feeds-feeds.result ≡ row_of (concat c.args.chunks.now) c.args.offset
row c =
    let r = c.found_at-found.result.before in
    let n = c.args.offset - r.bytes in
    ap (λ (k : ℕ). r.feeds + k) c.count_feeds-feeds.ensures
    ∙ row_here c.args.chunks.now c.args.offset r (take n c.as_bytes.result.now) c.found_at-found.ensures.found (ap (take n) (chunk_is c))

pub slice_bounds-front-end : goal.slice_bounds-front-end
slice_bounds-front-end c =
    let r = c.found_at-found.result.before in
    let n = c.args.offset - r.bytes in
    sym (length-take-le n c.as_bytes.result.now (omega (
      arith,
      within_chunk c.args.chunks.now c.args.offset r c.found_at-found.ensures.found,
      ap length (c.as_bytes.ensures.value ∙ c.found_at-found.ensures.here),
    )))

pub overflow_add-row : goal.overflow_add-row
overflow_add-row c = omega (arith, row (goal.at.overflow_add-row c).After-count_feeds-feeds, row_small c.args.chunks.now c.args.offset c.requires.rope)

-- ---- where the row begins before the chunk

pub start_of_row-requires-clause-within : goal.start_of_row-requires-clause-within
start_of_row-requires-clause-within c =
    let text = concat c.args.chunks.now in
    omega (arith, row (goal.at.start_of_row-requires-clause-within c).After-count_feeds-feeds, row_of-lt text c.args.offset, line_count-is text)

pub overflow_sub-result : goal.overflow_sub-result
overflow_sub-result c =
    let text = concat c.args.chunks.now in
    let row_is = row (goal.at.overflow_sub-result c).After-count_feeds-feeds in
    omega (arith, c.start_of_row.ensures.start, ap (line_start text) row_is, (line_of_offset text c.args.offset c.requires.within).0)

pub returns-then-feeds-eq0-clause-point : goal.returns-then-feeds-eq0-clause-point
returns-then-feeds-eq0-clause-point c =
    let text = concat c.args.chunks.now in
    let row_is = row (goal.at.returns-then-feeds-eq0-clause-point c).After-count_feeds-feeds in
    let start = c.start_of_row.ensures.start ∙ ap (line_start text) row_is ∙ sym (row_start_is text c.args.offset c.requires.within) in
    λ i. record { row = row_is i; column = c.args.offset - start i }

-- ---- where it begins in the chunk

pub behind_feed-requires-clause-within : goal.behind_feed-requires-clause-within
behind_feed-requires-clause-within c =
    let here = (goal.at.behind_feed-requires-clause-within c).After-count_feeds-feeds in
    let n = c.args.offset - c.found_at-found.result.before.bytes in
    omega (arith, c.count_feeds-feeds.ensures, front_feeds c.as_bytes.result.now n (front_fits here), ap (λ (t : List ℕ). count_by is_feed t) c.as_bytes.ensures.value)

-- the place in the text
behind : (c : After-behind_feed) → IsBehindFeed (concat c.args.chunks.now) (c.found_at-found.result.before.feeds + c.count_feeds-feeds.result) (c.found_at-found.result.before.bytes + c.behind_feed.result)
behind c =
    let chunks = c.args.chunks.now in
    let r = c.found_at-found.result.before in
    let feeds = c.count_feeds-feeds.result in
    let text = c.found_at-found.result.text.now in
    let same : r.feeds + feeds - r.feeds ≡ feeds = omega arith in
    let within : feeds ≤ count_by is_feed (get_or chunks r.chunks []) = omega (arith, c.behind_feed.ensures.row, row_of-le text c.behind_feed.result (length text) c.behind_feed.ensures.within, ap (λ (t : List ℕ). count_by is_feed t) (take_all (length text) text (omega arith)), ap (λ (t : List ℕ). count_by is_feed t) c.found_at-found.ensures.here) in
    let some : 0 < feeds = omega (arith, c.if-feeds-eq0.false) in
    feed_in_chunk chunks (r.feeds + feeds) (row_size_of r) text c.behind_feed.result (row_in_chunk chunks c.args.offset (r.feeds + feeds) feeds r c.found_at-found.ensures.found (omega arith) some within) c.found_at-found.ensures.here
    (subst (λ (k : ℕ). IsBehindFeed text k c.behind_feed.result) (sym same) c.behind_feed.ensures)

pub overflow_add-start : goal.overflow_add-start
overflow_add-start c =
    let place = behind (goal.at.overflow_add-start c).After-behind_feed in
    omega (arith, place.within, c.requires.rope.small)

pub overflow_sub-result-2 : goal.overflow_sub-result-2
overflow_sub-result-2 c =
    let text = concat c.args.chunks.now in
    let row_is = row (goal.at.overflow_sub-result-2 c).After-count_feeds-feeds in
    let r = c.found_at-found.result.before in
    let start = starts_behind text (r.feeds + c.count_feeds-feeds.result) (r.bytes + c.behind_feed.result) (behind (goal.at.overflow_sub-result-2 c).After-behind_feed) in
    omega (arith, start, ap (line_start text) row_is, (line_of_offset text c.args.offset c.requires.within).0)

pub returns-clause-point : goal.returns-clause-point
returns-clause-point c =
    let text = concat c.args.chunks.now in
    let row_is = row (goal.at.returns-clause-point c).After-count_feeds-feeds in
    let r = c.found_at-found.result.before in
    let start = starts_behind text (r.feeds + c.count_feeds-feeds.result) (r.bytes + c.behind_feed.result) (behind (goal.at.returns-clause-point c).After-behind_feed) ∙ ap (line_start text) row_is ∙ sym (row_start_is text c.args.offset c.requires.within) in
    λ i. record { row = row_is i; column = c.args.offset - start i }
