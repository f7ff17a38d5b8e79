use Rattle.std.proofs.Common.{◌≡◌, ◌≤◌, ℕ, List, sym, subst, length, arith}
use Rattle.mark_tree.specs.Marks.{mark_with}
use Rattle.block_map.specs.Maps.{IsBlockAt}
use Rattle.block_map.proofs.AlteredSides.{marks-count}
use Rattle.block_map.proofs.BlocksGot.{block-at}
use Rattle.block_map.proofs.block_side.BlockSide.get.Goals as goal

pub returns-in_err-offset-clause-block : goal.returns-in_err-offset-clause-block
returns-in_err-offset-clause-block c =
    let i = c.self.inside in
    let past : length c.args.self.now ≤ c.args.at = omega (arith, c.in_err-offset.ensures.mark, marks-count i.marks i.stops i.added c.args.self.now c.self.invariant c.self.view_is) in
    rw c.from_residual.ensures past

pub returns-in_err-offset-clause-steps : goal.returns-in_err-offset-clause-steps
returns-in_err-offset-clause-steps c h few =
    let i = c.self.inside in
    c.get.ensures.steps h (omega (arith, few, marks-count i.marks i.stops i.added c.args.self.now c.self.invariant c.self.view_is))

pub returns-clause-block : goal.returns-clause-block
returns-clause-block c =
    let i = c.self.inside in
    let m = c.in_ok-offset in
    subst (λ (texts : List (List ℕ)). IsBlockAt c.args.self.now c.args.at m.offset m.id texts) (sym c.texts.ensures)
    (block-at i.marks i.stops i.added c.args.self.now c.self.invariant c.self.view_is c.args.at (mark_with m.offset m._bias m.id m.lines.now) m.ensures.mark)

pub returns-clause-steps : goal.returns-clause-steps
returns-clause-steps c h few =
    let i = c.self.inside in
    c.get.ensures.steps h (omega (arith, few, marks-count i.marks i.stops i.added c.args.self.now c.self.invariant c.self.view_is))
