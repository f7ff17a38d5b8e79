use Rattle.std.proofs.Common.{ℕ, ◌≡◌, ◌+◌, ◌*◌, ◌^◌, ◌<◌, ◌∙◌, ap, length, take, arith}
use Rattle.std.specs.List.{list_any}
use Rattle.mark_tree.specs.Marks.{has_id}
use Rattle.block_map.specs.inside.StopLists.{last_row}
use Rattle.block_map.proofs.AlteredSides.{anchors-count, anchors-none, marks-any, marks-count, seen-as, seen-with, side-as, side-with, stops-count}
use Rattle.block_map.proofs.block_side.BlockSide.add.Goals as goal

pub with_new-requires-clause-room : goal.with_new-requires-clause-room
with_new-requires-clause-room c =
    let i = c.self.inside in
    let ms = c.in_ok-settled.settled in
    let same = c.in_ok-settled.ensures.ok in
    let side = side-as ms i.marks i.stops same i.added c.self.invariant in
    let seen = seen-as ms i.marks i.stops same c.args.self.now c.self.view_is in
    omega (arith, marks-count ms i.stops i.added c.args.self.now side seen, c.requires.room)

pub with_new-requires-clause-unused : goal.with_new-requires-clause-unused
with_new-requires-clause-unused c =
    let i = c.self.inside in
    let ms = c.in_ok-settled.settled in
    let same = c.in_ok-settled.ensures.ok in
    let side = side-as ms i.marks i.stops same i.added c.self.invariant in
    let seen = seen-as ms i.marks i.stops same c.args.self.now c.self.view_is in
    let id : c.mark-block.result.id ≡ c.args.id = ap (λ m. m.id) c.mark-block.ensures in
    ap (λ (n : ℕ). list_any (has_id n) ms) id ∙ marks-any ms i.stops i.added c.args.self.now side seen c.args.id ∙ c.requires.unused

pub with_none-requires-clause-within : goal.with_none-requires-clause-within
with_none-requires-clause-within c =
    let i = c.self.inside in
    let ms = c.in_ok-settled.settled in
    let same = c.in_ok-settled.ensures.ok in
    let side = side-as ms i.marks i.stops same i.added c.self.invariant in
    let seen = seen-as ms i.marks i.stops same c.args.self.now c.self.view_is in
    omega (
      arith,
      marks-count ms i.stops i.added c.args.self.now side seen,
      stops-count ms i.stops i.added c.args.self.now side seen,
      c.in_ok-at.ensures.within,
    )

pub with_none-requires-clause-room : goal.with_none-requires-clause-room
with_none-requires-clause-room c =
    let i = c.self.inside in
    let ms = c.in_ok-settled.settled in
    let same = c.in_ok-settled.ensures.ok in
    let side = side-as ms i.marks i.stops same i.added c.self.invariant in
    let seen = seen-as ms i.marks i.stops same c.args.self.now c.self.view_is in
    omega (arith, stops-count ms i.stops i.added c.args.self.now side seen, c.requires.room)

pub with_none-requires-clause-fit : goal.with_none-requires-clause-fit
with_none-requires-clause-fit c = c.self.invariant.fits

pub with_new-requires-2-clause-room : goal.with_new-requires-2-clause-room
with_new-requires-2-clause-room c =
    let i = c.self.inside in
    let ms = c.in_ok-settled.settled in
    let same = c.in_ok-settled.ensures.ok in
    let side = side-as ms i.marks i.stops same i.added c.self.invariant in
    let seen = seen-as ms i.marks i.stops same c.args.self.now c.self.view_is in
    omega (arith, anchors-count ms i.stops i.added c.args.self.now side seen, c.requires.room)

pub with_new-requires-2-clause-unused : goal.with_new-requires-2-clause-unused
with_new-requires-2-clause-unused c =
    let i = c.self.inside in
    let ms = c.in_ok-settled.settled in
    let same = c.in_ok-settled.ensures.ok in
    let side = side-as ms i.marks i.stops same i.added c.self.invariant in
    let seen = seen-as ms i.marks i.stops same c.args.self.now c.self.view_is in
    let id : c.mark-anchor.result.id ≡ c.args.id = ap (λ m. m.id) c.mark-anchor.ensures in
    ap (λ (n : ℕ). list_any (has_id n) i.added) id ∙ anchors-none ms i.stops i.added c.args.self.now side seen c.args.id c.requires.unused

pub invariant_of-self-2 : goal.invariant_of-self-2
invariant_of-self-2 c =
    let i = c.self.inside in
    let ms = c.in_ok-settled.settled in
    let same = c.in_ok-settled.ensures.ok in
    let side = side-as ms i.marks i.stops same i.added c.self.invariant in
    let seen = seen-as ms i.marks i.stops same c.args.self.now c.self.view_is in
    side-with ms i.stops i.added c.args.self.now side seen c.args.offset c.args.id c.args.lines (last_row 0 (take c.in_ok-at.at i.stops)) c.in_ok-at.at
    c.mark-block.result c.mark-anchor.result c.of.result c.in_ok-stops.stops c.in_ok-added.added
    c.mark-block.ensures c.mark-anchor.ensures (c.of.ensures ∙ c.in_ok-at.ensures.ok) (c.of.ensures ∙ c.in_ok-at.ensures.place) c.in_ok-stops.ensures.ok c.in_ok-added.ensures.ok
    c.requires.lawful c.requires.unused c.len-marks.ensures.lawful.sorted c.requires.room c.in_ok-stops.ensures.fits

pub returns-clause-ok : goal.returns-clause-ok
returns-clause-ok c =
    let i = c.self.inside in
    let ms = c.in_ok-settled.settled in
    let same = c.in_ok-settled.ensures.ok in
    let side = side-as ms i.marks i.stops same i.added c.self.invariant in
    let seen = seen-as ms i.marks i.stops same c.args.self.now c.self.view_is in
    seen-with ms i.stops i.added c.args.self.now side seen c.args.offset c.args.id c.args.lines (last_row 0 (take c.in_ok-at.at i.stops)) c.in_ok-at.at
    c.mark-block.result c.mark-anchor.result c.of.result c.in_ok-stops.stops c.in_ok-added.added
    c.mark-block.ensures c.mark-anchor.ensures (c.of.ensures ∙ c.in_ok-at.ensures.ok) (c.of.ensures ∙ c.in_ok-at.ensures.place) c.in_ok-stops.ensures.ok c.in_ok-added.ensures.ok
    c.requires.lawful c.requires.unused

pub returns-in_err-settled-clause-steps : goal.returns-in_err-settled-clause-steps
returns-in_err-settled-clause-steps c h few =
    let i = c.self.inside in
    let marks = marks-count i.marks i.stops i.added c.args.self.now c.self.invariant c.self.view_is in
    omega (arith, c.settled.ensures.steps h (omega (arith, few, marks)))

pub returns-in_err-at-clause-steps : goal.returns-in_err-at-clause-steps
returns-in_err-at-clause-steps c h few =
    let i = c.self.inside in
    let ms = c.in_ok-settled.settled in
    let same = c.in_ok-settled.ensures.ok in
    let side = side-as ms i.marks i.stops same i.added c.self.invariant in
    let seen = seen-as ms i.marks i.stops same c.args.self.now c.self.view_is in
    let marks = marks-count ms i.stops i.added c.args.self.now side seen in
    let few-settled : length i.marks < 2 * 6 ^ (h + 1) = omega (arith, few, marks, ap length same) in
    omega (arith, c.settled.ensures.steps h few-settled, c.with_new.ensures.steps h (omega (arith, few, marks)), marks)

pub returns-in_err-stops-clause-steps : goal.returns-in_err-stops-clause-steps
returns-in_err-stops-clause-steps c h few =
    let i = c.self.inside in
    let ms = c.in_ok-settled.settled in
    let same = c.in_ok-settled.ensures.ok in
    let side = side-as ms i.marks i.stops same i.added c.self.invariant in
    let seen = seen-as ms i.marks i.stops same c.args.self.now c.self.view_is in
    let marks = marks-count ms i.stops i.added c.args.self.now side seen in
    let stops = stops-count ms i.stops i.added c.args.self.now side seen in
    let few-settled : length i.marks < 2 * 6 ^ (h + 1) = omega (arith, few, marks, ap length same) in
    omega (arith, c.settled.ensures.steps h few-settled, c.with_new.ensures.steps h (omega (arith, few, marks)), c.with_none.ensures.steps h (omega (arith, few, stops)), marks, stops)

pub returns-in_err-added-clause-steps : goal.returns-in_err-added-clause-steps
returns-in_err-added-clause-steps c h few =
    let i = c.self.inside in
    let ms = c.in_ok-settled.settled in
    let same = c.in_ok-settled.ensures.ok in
    let side = side-as ms i.marks i.stops same i.added c.self.invariant in
    let seen = seen-as ms i.marks i.stops same c.args.self.now c.self.view_is in
    let marks = marks-count ms i.stops i.added c.args.self.now side seen in
    let stops = stops-count ms i.stops i.added c.args.self.now side seen in
    let anchors = anchors-count ms i.stops i.added c.args.self.now side seen in
    let few-settled : length i.marks < 2 * 6 ^ (h + 1) = omega (arith, few, marks, ap length same) in
    omega (
      arith,
      c.settled.ensures.steps h few-settled,
      c.with_new.ensures.steps h (omega (arith, few, marks)),
      c.with_none.ensures.steps h (omega (arith, few, stops)),
      c.with_new-2.ensures.steps h (omega (arith, few, anchors)),
      marks,
      stops,
      anchors,
    )

pub returns-clause-steps : goal.returns-clause-steps
returns-clause-steps c h few =
    let i = c.self.inside in
    let ms = c.in_ok-settled.settled in
    let same = c.in_ok-settled.ensures.ok in
    let side = side-as ms i.marks i.stops same i.added c.self.invariant in
    let seen = seen-as ms i.marks i.stops same c.args.self.now c.self.view_is in
    let marks = marks-count ms i.stops i.added c.args.self.now side seen in
    let stops = stops-count ms i.stops i.added c.args.self.now side seen in
    let anchors = anchors-count ms i.stops i.added c.args.self.now side seen in
    let few-settled : length i.marks < 2 * 6 ^ (h + 1) = omega (arith, few, marks, ap length same) in
    omega (
      arith,
      c.settled.ensures.steps h few-settled,
      c.with_new.ensures.steps h (omega (arith, few, marks)),
      c.with_none.ensures.steps h (omega (arith, few, stops)),
      c.with_new-2.ensures.steps h (omega (arith, few, anchors)),
      marks,
      stops,
      anchors,
    )
