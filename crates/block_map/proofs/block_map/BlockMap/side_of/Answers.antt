use Rattle.std.proofs.Common.{◌≡◌, ◌∙◌, ◌||◌, false, ap, length, sym, arith}
use Rattle.block_map.specs.Maps.{BlockState, has_block}
use Rattle.block_map.specs.inside.TwoSides.{is_kept}
use Rattle.block_map.proofs.block_map.BlockMap.side_of.Goals as goal

pub returns-then-has_id-clause-side : goal.returns-then-has_id-clause-side
returns-then-has_id-clause-side g c = ap (λ (s : BlockState). is_kept c.args.id s.above) (sym c.self.view_is) ∙ sym c.has_id.ensures.value ∙ c.if-has_id.true

pub returns-then-has_id-clause-steps : goal.returns-then-has_id-clause-steps
returns-then-has_id-clause-steps g c = omega (arith, c.has_id.ensures.steps, ap (λ (s : BlockState). length s.above) c.self.view_is)

pub returns-then-has_id-2-clause-side : goal.returns-then-has_id-2-clause-side
returns-then-has_id-2-clause-side g c = ap (λ (s : BlockState). is_kept c.args.id s.below) (sym c.self.view_is) ∙ sym c.has_id-2.ensures.value ∙ c.if-has_id-2.true

pub returns-then-has_id-2-clause-steps : goal.returns-then-has_id-2-clause-steps
returns-then-has_id-2-clause-steps g c =
    omega (arith, c.has_id.ensures.steps, c.has_id-2.ensures.steps, ap (λ (s : BlockState). length s.above) c.self.view_is, ap (λ (s : BlockState). length s.below) c.self.view_is)

pub returns-clause-side : goal.returns-clause-side
returns-clause-side g c =
    let above : is_kept c.args.id c.self.inside.above ≡ false = sym c.has_id.ensures.value ∙ c.if-has_id.false in
    let below : is_kept c.args.id c.self.inside.below ≡ false = sym c.has_id-2.ensures.value ∙ c.if-has_id-2.false in
    ap (has_block c.args.id) (sym c.self.view_is) ∙ (λ i. above i || below i)

pub returns-clause-steps : goal.returns-clause-steps
returns-clause-steps g c =
    omega (arith, c.has_id.ensures.steps, c.has_id-2.ensures.steps, ap (λ (s : BlockState). length s.above) c.self.view_is, ap (λ (s : BlockState). length s.below) c.self.view_is)
