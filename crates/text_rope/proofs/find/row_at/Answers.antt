use Rattle.std.proofs.Common.{◌≡◌, ◌+◌, ◌-◌, [], ℕ, get_or, length, take, ap, sym, ◌∙◌, arith}
use Rattle.std.specs.List.{concat}
use Rattle.std.proofs.lemmas.List.{length-take-le}
use Rattle.cell_units.specs.Text.{row_of}
use Rattle.text_rope.proofs.Nearest.{row_here, row_small}
use Rattle.text_rope.proofs.Places.{within_chunk}
use Rattle.text_rope.proofs.find.row_at.Goals as goal
use Rattle.text_rope.proofs.find.row_at.Goals.{After-count_feeds}

-- the bytes of the chunk
chunk_is : (c : After-count_feeds) → c.as_bytes.result.now ≡ get_or c.args.chunks.now c.found_at-found.result.before.chunks []
chunk_is c = c.as_bytes.ensures.value ∙ c.found_at-found.ensures.here

row : (c : After-count_feeds) → c.found_at-found.result.before.feeds + c.count_feeds.result ≡ row_of (concat c.args.chunks.now) c.args.offset
row c =
    let r = c.found_at-found.result.before in
    let n = c.args.offset - r.bytes in
    ap (λ (k : ℕ). r.feeds + k) c.count_feeds.ensures
    ∙ row_here c.args.chunks.now c.args.offset r (take n c.as_bytes.result.now) c.found_at-found.ensures.found (ap (take n) (chunk_is c))

pub slice_bounds-front-end : goal.slice_bounds-front-end
slice_bounds-front-end c =
    let r = c.found_at-found.result.before in
    let n = c.args.offset - r.bytes in
    sym (length-take-le n c.as_bytes.result.now (omega (
      arith,
      within_chunk c.args.chunks.now c.args.offset r c.found_at-found.ensures.found,
      ap length (c.as_bytes.ensures.value ∙ c.found_at-found.ensures.here),
    )))

pub overflow_add-result : goal.overflow_add-result
overflow_add-result c = omega (arith, row (goal.at.overflow_add-result c).After-count_feeds, row_small c.args.chunks.now c.args.offset c.requires.rope)

pub returns-clause-row : goal.returns-clause-row
returns-clause-row c = row (goal.at.returns-clause-row c).After-count_feeds
