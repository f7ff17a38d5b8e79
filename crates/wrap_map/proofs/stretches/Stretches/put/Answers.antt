use Rattle.std.proofs.Common.{◌+◌, ◌<◌, ◌≤◌, ◌^◌, List, length, take, ap, sym, subst, ◌∙◌}
use Rattle.wrap_map.specs.Stood.{Stood, put_in, rows_in}
use Rattle.wrap_map.specs.inside.Bounds.{PutsAtMost}
use Rattle.wrap_map.specs.inside.Gathering.{gathered}
use Rattle.wrap_map.specs.inside.Stretches.{AreStretches, Stretched, spread}
use Rattle.wrap_map.proofs.Puts.{IsPlaced, either, first-room, placed, put-placed, second-room}
use Rattle.wrap_map.proofs.Ticks.{put-first, put-second, put-ticks}
use Rattle.wrap_map.proofs.stretches.Stretches.put.Goals as goal
use Rattle.wrap_map.proofs.stretches.Stretches.put.Goals.{After-part_behind, After-replace, In_ok-gather-2}

pub returns-in_err-head-clause-steps : goal.returns-in_err-head-clause-steps
returns-in_err-head-clause-steps c =
    let ss = c.self.inside.tree in
    subst (λ (l : List Stood). PutsAtMost c.args.start c.args.end c.args.fresh.items l c.args.steps.now c.part_before.new.steps) c.self.view_is
    (put-first ss (length c.args.fresh.items) (length (put_in c.args.start c.args.end (spread c.args.fresh.items) (spread ss))) c.args.steps.now c.part_before.new.steps
    c.self.invariant.0.each c.part_before.ensures.steps)

second : (c : After-part_behind) → PutsAtMost c.args.start c.args.end c.args.fresh.items c.args.self.now c.args.steps.now c.part_behind.new.steps
second c =
    let ss = c.self.inside.tree in
    subst (λ (l : List Stood). PutsAtMost c.args.start c.args.end c.args.fresh.items l c.args.steps.now c.part_behind.new.steps) c.self.view_is
    (put-second ss (length c.args.fresh.items) (length (put_in c.args.start c.args.end (spread c.args.fresh.items) (spread ss))) c.args.steps.now c.part_before.new.steps c.part_behind.new.steps
    c.self.invariant.0.each c.part_before.ensures.steps c.part_behind.ensures.steps)

pub returns-in_err-tail-clause-steps : goal.returns-in_err-tail-clause-steps
returns-in_err-tail-clause-steps c = second (goal.at.returns-in_err-tail-clause-steps c).After-part_behind

pub returns-in_err-gather-clause-steps : goal.returns-in_err-gather-clause-steps
returns-in_err-gather-clause-steps c = second (goal.at.returns-in_err-gather-clause-steps c).After-part_behind

pub returns-in_err-gather-2-clause-steps : goal.returns-in_err-gather-2-clause-steps
returns-in_err-gather-2-clause-steps c = second (goal.at.returns-in_err-gather-2-clause-steps c).After-part_behind

pub gather-requires : goal.gather-requires
gather-requires c =
    let ss = c.self.inside.tree in
    let head = c.in_ok-head.head in
    let tail = c.in_ok-tail.tail in
    let rows = subst (λ (l : List Stood). rows_in (put_in c.args.start c.args.end (spread c.args.fresh.items) l) < 2 ^ 32) (sym c.self.view_is) c.requires.rows_fit in
    first-room ss head.stretches.items c.args.fresh.items tail.stretches.items head.at tail.at c.args.start c.args.end c.in_ok-head.ensures.head c.in_ok-tail.ensures.tail rows

pub gather-requires-2 : goal.gather-requires-2
gather-requires-2 c =
    let ss = c.self.inside.tree in
    let head = c.in_ok-head.head in
    let tail = c.in_ok-tail.tail in
    let rows = subst (λ (l : List Stood). rows_in (put_in c.args.start c.args.end (spread c.args.fresh.items) l) < 2 ^ 32) (sym c.self.view_is) c.requires.rows_fit in
    subst (λ (l : List Stretched). length (spread l) + length (spread tail.stretches.items) < 2 ^ 32) (sym c.in_ok-gather.ensures.made)
    (second-room ss head.stretches.items c.args.fresh.items tail.stretches.items head.at tail.at c.args.start c.args.end c.in_ok-head.ensures.head c.in_ok-tail.ensures.tail rows)

made : (c : In_ok-gather-2) → IsPlaced c.self.inside.tree c.args.fresh.items c.args.start c.args.end c.in_ok-head.head.at c.in_ok-tail.tail.at c.gather-2.new.stretches.items
made c =
    let ss = c.self.inside.tree in
    let head = c.in_ok-head.head in
    let tail = c.in_ok-tail.tail in
    let rows = subst (λ (l : List Stood). rows_in (put_in c.args.start c.args.end (spread c.args.fresh.items) l) < 2 ^ 32) (sym c.self.view_is) c.requires.rows_fit in
    let within = subst (λ (l : List Stood). c.args.end ≤ length l) (sym c.self.view_is) c.requires.within in
    put-placed ss head.stretches.items c.args.fresh.items tail.stretches.items c.gather-2.new.stretches.items head.at tail.at c.args.start c.args.end
    c.self.invariant.0 c.in_ok-head.ensures.head c.in_ok-tail.ensures.tail c.in_ok-gather.ensures.fresh c.requires.order within rows
    (c.in_ok-gather-2.ensures.made ∙ ap (λ (l : List Stretched). gathered l tail.stretches.items) c.in_ok-gather.ensures.made)

pub replace-requires-clause-order : goal.replace-requires-clause-order
replace-requires-clause-order c = (made (goal.at.replace-requires-clause-order c).In_ok-gather-2).order

pub replace-requires-clause-fits : goal.replace-requires-clause-fits
replace-requires-clause-fits c = (made (goal.at.replace-requires-clause-fits c).In_ok-gather-2).fits

pub replace-requires-clause-small : goal.replace-requires-clause-small
replace-requires-clause-small c = (made (goal.at.replace-requires-clause-small c).In_ok-gather-2).small

pub invariant_of-self : goal.invariant_of-self
invariant_of-self c =
    let m = made (goal.at.invariant_of-self c).In_ok-gather-2 in (
      either c.replace.result _ _ (AreStretches c.replace.new.self) c.replace.ensures.ok c.replace.ensures.unchanged
          (λ e. subst (λ (l : List Stretched). AreStretches l) (sym e) m.are)
          (λ e. subst (λ (l : List Stretched). AreStretches l) (sym e) c.self.invariant.0),
      c.self.invariant.1,
    )

pub returns-clause-put : goal.returns-clause-put
returns-clause-put c =
    let m = made (goal.at.returns-clause-put c).In_ok-gather-2 in
    ap spread c.in_ok-replace.ensures.ok ∙ m.spread_is ∙ ap (put_in c.args.start c.args.end (spread c.args.fresh.items)) c.self.view_is

-- the seeks and the replacement
third : (c : After-replace) → PutsAtMost c.args.start c.args.end c.args.fresh.items c.args.self.now c.args.steps.now c.replace.new.steps
third c =
    let m = made (goal.at-After-replace c).In_ok-gather-2 in
    let ss = c.self.inside.tree in
    subst (λ (l : List Stood). PutsAtMost c.args.start c.args.end c.args.fresh.items l c.args.steps.now c.replace.new.steps) c.self.view_is
    (put-ticks ss (placed ss c.in_ok-head.head.at c.gather-2.new.stretches.items c.in_ok-tail.tail.at) (length c.args.fresh.items) (length c.gather-2.new.stretches.items)
    (length (put_in c.args.start c.args.end (spread c.args.fresh.items) (spread ss))) c.args.steps.now c.part_before.new.steps c.part_behind.new.steps c.replace.new.steps
    c.self.invariant.0.each m.fewer m.few c.part_before.ensures.steps c.part_behind.ensures.steps c.replace.ensures.steps)

pub returns-in_err-replace-clause-steps : goal.returns-in_err-replace-clause-steps
returns-in_err-replace-clause-steps c = third (goal.at.returns-in_err-replace-clause-steps c).After-replace

pub returns-clause-steps : goal.returns-clause-steps
returns-clause-steps c = third (goal.at.returns-clause-steps c).After-replace

pub invariant_of-self-2 : goal.invariant_of-self-2
invariant_of-self-2 c =
    let m = made (goal.at.invariant_of-self-2 c).In_ok-gather-2 in
    (subst (λ (l : List Stretched). AreStretches l) (sym c.in_ok-replace.ensures.ok) m.are, c.self.invariant.1)

pub returns-clause-rows : goal.returns-clause-rows
returns-clause-rows c = record {
  start_is = c.in_ok-head.ensures.rows ∙ ap (λ (l : List Stood). rows_in (take c.args.start l)) c.self.view_is;
  end_is = c.in_ok-tail.ensures.rows ∙ ap (λ (l : List Stood). rows_in (take c.args.end l)) c.self.view_is;
}
