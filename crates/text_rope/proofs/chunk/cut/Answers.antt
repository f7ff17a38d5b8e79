use Rattle.std.proofs.Common.{sym, subst, arith}
use Rattle.text_rope.specs.Chunks.{IsChunk}
use Rattle.text_rope.proofs.Cuts.{IsCut, floor_cuts}
use Rattle.text_rope.proofs.chunk.cut.Goals as goal
use Rattle.text_rope.proofs.chunk.cut.Goals.{After-split_at}

good : (c : After-split_at) → IsCut c.args.text.now c.floor_char_boundary.result
good c =
    let share = c.share_of.ensures in
    let floor = c.floor_char_boundary.ensures in
    floor_cuts c.args.text.now c.floor_char_boundary.result c.share_of.result c.utf8.text c.requires (record { most = share.most; all = share.all; some = share.least; rest = share.rest }) floor.bound floor.boundary floor.nearest

pub returns-clause-chunk : goal.returns-clause-chunk
returns-clause-chunk c = subst IsChunk (sym c.split_at.ensures.front) (good (goal.at.returns-clause-chunk c).After-split_at).chunk

pub returns-clause-shorter : goal.returns-clause-shorter
returns-clause-shorter c = let cut = good (goal.at.returns-clause-shorter c).After-split_at in omega (arith, cut.past, c.split_at.ensures.back_len)

pub returns-clause-front : goal.returns-clause-front
returns-clause-front c = let cut = good (goal.at.returns-clause-front c).After-split_at in omega (arith, cut.front, c.split_at.ensures.front_len)
