use Rattle.std.proofs.Common.{◌≡◌, ℕ, ◌+◌, ◌*◌, ◌^◌, ◌<◌, ◌⊎◌, [], List, length, inl, inr, sym, subst, arith}
use Rattle.std.specs.List.{All, Contains}
use Rattle.block_map.specs.Stops.{Stop}
use Rattle.block_map.specs.inside.Anew.{IsAnchoredAt, IsAnewAt, IsMetAt, IsTouchedAt}
use Rattle.block_map.specs.inside.Sides.{BlockMark}
use Rattle.block_map.proofs.AnewPlaces.{anchored-within, blank-anchored}
use Rattle.block_map.proofs.Gathered.{leave-carried}
use Rattle.block_map.proofs.PairedSides.{paired-length}
use Rattle.block_map.proofs.ShownAnew.{anchors-few}
use Rattle.block_map.proofs.StepSums.{gathered-first, gathered-second, gathered-steps}
use Rattle.block_map.proofs.anew.places_anew.Goals as goal

pub push_anchored-requires : goal.push_anchored-requires
push_anchored-requires g c = anchored-within c.args.marks.now c.args.stops.now c.args.anchors.now c.len-count.ensures.lawful c.requires.side

pub returns-clause-within : goal.returns-clause-within
returns-clause-within g c =
    let ms : List BlockMark = c.args.marks.now in
    let ss : List Stop = c.args.stops.now in
    let none : All (λ a. a < length ms) [] = λ k d lt. absurd (omega (arith, lt)) in
    let start : All (λ a. a < length ms) c.new-places.result.items = subst (λ (l : List ℕ). All (λ a. a < length ms) l) (sym c.new-places.ensures.items) none in
    let marked = c.in_ok-push_anchored.ensures.ok.within (c.in_ok-push_met.ensures.ok.within start) in
    let same : length ms ≡ length ss = sym (paired-length ms ss c.requires.side.each) in
    c.put_in_order.ensures.within (length ss) (c.in_ok-push_edited.ensures.ok.within (subst (λ (n : ℕ). All (λ a. a < n) c.push_anchored.new.places.items) same marked))

pub returns-clause-others : goal.returns-clause-others
returns-clause-others g c =
    let ms : List BlockMark = c.args.marks.now in
    let ss : List Stop = c.args.stops.now in
    leave-carried c.args.change.now.shift c.args.change.now.edits.now (g.R.Rows.shown c.args.change.now.old.now) c.args.side ms ss c.put_in_order.new.places.items c.requires.side.each
    (λ k at. c.put_in_order.ensures.kept k (c.in_ok-push_edited.ensures.ok.kept k (c.in_ok-push_anchored.ensures.ok.kept k (c.in_ok-push_met.ensures.ok.more k at))))
    (λ k at. c.put_in_order.ensures.kept k (c.in_ok-push_edited.ensures.ok.kept k (c.in_ok-push_anchored.ensures.ok.more k (blank-anchored ms ss c.args.anchors.now c.len-count.ensures.lawful c.requires.side k at))))
    (λ k at. c.put_in_order.ensures.kept k (c.in_ok-push_edited.ensures.ok.more k at))

pub returns-clause-only : goal.returns-clause-only
returns-clause-only g c = λ k at. edited k (c.in_ok-push_edited.ensures.ok.only k (c.put_in_order.ensures.only k at)) where
  met : (k : ℕ) → Contains c.new-places.result.items k ⊎ IsMetAt c.args.change.now.shift c.args.marks.now k
      → IsAnewAt c.args.change.now.shift c.args.change.now.edits.now (g.R.Rows.shown c.args.change.now.old.now) c.args.side c.args.marks.now c.args.stops.now c.args.anchors.now k
  met k (inl none) = let c' : Contains [] k = subst (λ (l : List ℕ). Contains l k) c.new-places.ensures.items none in absurd (omega (arith, c'.1))
  met k (inr m) = inl m

  anchored : (k : ℕ) → Contains c.push_met.new.places.items k ⊎ IsAnchoredAt c.args.anchors.now c.args.marks.now k
      → IsAnewAt c.args.change.now.shift c.args.change.now.edits.now (g.R.Rows.shown c.args.change.now.old.now) c.args.side c.args.marks.now c.args.stops.now c.args.anchors.now k
  anchored k (inl at) = met k (c.in_ok-push_met.ensures.ok.only k at)
  anchored k (inr a) = inr (inl a)

  edited : (k : ℕ) → Contains c.push_anchored.new.places.items k ⊎ IsTouchedAt c.args.change.now.edits.now (g.R.Rows.shown c.args.change.now.old.now) c.args.side c.args.stops.now k
      → IsAnewAt c.args.change.now.shift c.args.change.now.edits.now (g.R.Rows.shown c.args.change.now.old.now) c.args.side c.args.marks.now c.args.stops.now c.args.anchors.now k
  edited k (inl at) = anchored k (c.in_ok-push_anchored.ensures.ok.only k at)
  edited k (inr t) = inr (inr t)

pub returns-in_err-push_met-clause-steps : goal.returns-in_err-push_met-clause-steps
returns-in_err-push_met-clause-steps g c h few =
    gathered-first h (length c.args.anchors.now) (length c.args.change.now.edits.now) c.args.steps.now c.push_met.new.steps (c.push_met.ensures.steps h few)

pub returns-in_err-push_anchored-clause-steps : goal.returns-in_err-push_anchored-clause-steps
returns-in_err-push_anchored-clause-steps g c h few =
    let few' : length c.args.anchors.now < 2 * 6 ^ (h + 1) = omega (arith, few, anchors-few c.args.marks.now c.args.stops.now c.args.anchors.now c.requires.side) in
    gathered-second h (length c.args.anchors.now) (length c.args.change.now.edits.now) c.args.steps.now c.push_met.new.steps c.push_anchored.new.steps (c.push_met.ensures.steps h few) (c.push_anchored.ensures.steps h few' few)

pub returns-in_err-push_edited-clause-steps : goal.returns-in_err-push_edited-clause-steps
returns-in_err-push_edited-clause-steps g c h few =
    let few' : length c.args.anchors.now < 2 * 6 ^ (h + 1) = omega (arith, few, anchors-few c.args.marks.now c.args.stops.now c.args.anchors.now c.requires.side) in
    let few'' : length c.args.stops.now < 2 * 6 ^ (h + 1) = omega (arith, few, paired-length c.args.marks.now c.args.stops.now c.requires.side.each) in
    gathered-steps h (length c.args.anchors.now) (length c.args.change.now.edits.now) c.args.steps.now c.push_met.new.steps c.push_anchored.new.steps c.push_edited.new.steps (c.push_met.ensures.steps h few) (c.push_anchored.ensures.steps h few' few) (c.push_edited.ensures.steps h few'')

pub returns-clause-steps : goal.returns-clause-steps
returns-clause-steps g c h few =
    let few' : length c.args.anchors.now < 2 * 6 ^ (h + 1) = omega (arith, few, anchors-few c.args.marks.now c.args.stops.now c.args.anchors.now c.requires.side) in
    let few'' : length c.args.stops.now < 2 * 6 ^ (h + 1) = omega (arith, few, paired-length c.args.marks.now c.args.stops.now c.requires.side.each) in
    gathered-steps h (length c.args.anchors.now) (length c.args.change.now.edits.now) c.args.steps.now c.push_met.new.steps c.push_anchored.new.steps c.push_edited.new.steps (c.push_met.ensures.steps h few) (c.push_anchored.ensures.steps h few' few) (c.push_edited.ensures.steps h few'')
