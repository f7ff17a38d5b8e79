use Rattle.std.proofs.Common.{◌+◌, ◌*◌, ◌^◌, ◌<◌, ◌∙◌, ap, length, arith}
use Rattle.block_map.proofs.AlteredSides.{anchors-count, at-within, marks-any, marks-count, seen-as, seen-without, side-as, side-without, stops-count}
use Rattle.block_map.proofs.block_side.BlockSide.take.Goals as goal

pub without_known-requires : goal.without_known-requires
without_known-requires c =
    let i = c.self.inside in
    let ms = c.in_ok-settled.settled in
    let same = c.in_ok-settled.ensures.ok in
    let side = side-as ms i.marks i.stops same i.added c.self.invariant in
    let seen = seen-as ms i.marks i.stops same c.args.self.now c.self.view_is in
    marks-any ms i.stops i.added c.args.self.now side seen c.args.id ∙ c.requires

pub without-requires-clause-within : goal.without-requires-clause-within
without-requires-clause-within c =
    let i = c.self.inside in
    let ms = c.in_ok-settled.settled in
    let same = c.in_ok-settled.ensures.ok in
    let side = side-as ms i.marks i.stops same i.added c.self.invariant in
    let seen = seen-as ms i.marks i.stops same c.args.self.now c.self.view_is in
    at-within ms i.stops i.added c.args.self.now side seen c.args.id c.in_ok-at.at c.in_ok-at.marks i.stops i.added c.in_ok-at.ensures.rest c.in_ok-at.ensures.id

pub without-requires-clause-fit : goal.without-requires-clause-fit
without-requires-clause-fit c = c.self.invariant.fits

pub invariant_of-self-2 : goal.invariant_of-self-2
invariant_of-self-2 c =
    let i = c.self.inside in
    let ms = c.in_ok-settled.settled in
    let same = c.in_ok-settled.ensures.ok in
    let side = side-as ms i.marks i.stops same i.added c.self.invariant in
    let seen = seen-as ms i.marks i.stops same c.args.self.now c.self.view_is in
    side-without ms i.stops i.added c.args.self.now side seen c.args.id c.in_ok-at.at c.of.result c.in_ok-stops.stops c.in_ok-added.added
    (c.of.ensures ∙ c.in_ok-at.ensures.rest) c.in_ok-at.ensures.id c.len-marks.ensures.lawful.distinct c.in_ok-stops.ensures.ok c.in_ok-added.ensures.ok c.in_ok-stops.ensures.fits

pub returns-clause-ok : goal.returns-clause-ok
returns-clause-ok c =
    let i = c.self.inside in
    let ms = c.in_ok-settled.settled in
    let same = c.in_ok-settled.ensures.ok in
    let side = side-as ms i.marks i.stops same i.added c.self.invariant in
    let seen = seen-as ms i.marks i.stops same c.args.self.now c.self.view_is in
    seen-without ms i.stops i.added c.args.self.now side seen c.args.id c.in_ok-at.at c.of.result c.in_ok-stops.stops c.in_ok-added.added
    (c.of.ensures ∙ c.in_ok-at.ensures.rest) c.in_ok-at.ensures.id c.len-marks.ensures.lawful.distinct c.in_ok-stops.ensures.ok

pub returns-in_err-settled-clause-steps : goal.returns-in_err-settled-clause-steps
returns-in_err-settled-clause-steps c h few =
    let i = c.self.inside in
    let marks = marks-count i.marks i.stops i.added c.args.self.now c.self.invariant c.self.view_is in
    omega (arith, c.settled.ensures.steps h (omega (arith, few, marks)))

pub returns-in_err-at-clause-steps : goal.returns-in_err-at-clause-steps
returns-in_err-at-clause-steps c h few =
    let i = c.self.inside in
    let ms = c.in_ok-settled.settled in
    let same = c.in_ok-settled.ensures.ok in
    let side = side-as ms i.marks i.stops same i.added c.self.invariant in
    let seen = seen-as ms i.marks i.stops same c.args.self.now c.self.view_is in
    let marks = marks-count ms i.stops i.added c.args.self.now side seen in
    let few-settled : length i.marks < 2 * 6 ^ (h + 1) = omega (arith, few, marks, ap length same) in
    omega (arith, c.settled.ensures.steps h few-settled, c.without_known.ensures.steps h (omega (arith, few, marks)), marks)

pub returns-in_err-stops-clause-steps : goal.returns-in_err-stops-clause-steps
returns-in_err-stops-clause-steps c h few =
    let i = c.self.inside in
    let ms = c.in_ok-settled.settled in
    let same = c.in_ok-settled.ensures.ok in
    let side = side-as ms i.marks i.stops same i.added c.self.invariant in
    let seen = seen-as ms i.marks i.stops same c.args.self.now c.self.view_is in
    let marks = marks-count ms i.stops i.added c.args.self.now side seen in
    let stops = stops-count ms i.stops i.added c.args.self.now side seen in
    let few-settled : length i.marks < 2 * 6 ^ (h + 1) = omega (arith, few, marks, ap length same) in
    omega (arith, c.settled.ensures.steps h few-settled, c.without_known.ensures.steps h (omega (arith, few, marks)), c.without.ensures.steps h (omega (arith, few, stops)), marks, stops)

pub returns-in_err-added-clause-steps : goal.returns-in_err-added-clause-steps
returns-in_err-added-clause-steps c h few =
    let i = c.self.inside in
    let ms = c.in_ok-settled.settled in
    let same = c.in_ok-settled.ensures.ok in
    let side = side-as ms i.marks i.stops same i.added c.self.invariant in
    let seen = seen-as ms i.marks i.stops same c.args.self.now c.self.view_is in
    let marks = marks-count ms i.stops i.added c.args.self.now side seen in
    let stops = stops-count ms i.stops i.added c.args.self.now side seen in
    let anchors = anchors-count ms i.stops i.added c.args.self.now side seen in
    let few-settled : length i.marks < 2 * 6 ^ (h + 1) = omega (arith, few, marks, ap length same) in
    omega (
      arith,
      c.settled.ensures.steps h few-settled,
      c.without_known.ensures.steps h (omega (arith, few, marks)),
      c.without.ensures.steps h (omega (arith, few, stops)),
      c.without_any.ensures.steps h (omega (arith, few, anchors)),
      marks,
      stops,
      anchors,
    )

pub returns-clause-steps : goal.returns-clause-steps
returns-clause-steps c h few =
    let i = c.self.inside in
    let ms = c.in_ok-settled.settled in
    let same = c.in_ok-settled.ensures.ok in
    let side = side-as ms i.marks i.stops same i.added c.self.invariant in
    let seen = seen-as ms i.marks i.stops same c.args.self.now c.self.view_is in
    let marks = marks-count ms i.stops i.added c.args.self.now side seen in
    let stops = stops-count ms i.stops i.added c.args.self.now side seen in
    let anchors = anchors-count ms i.stops i.added c.args.self.now side seen in
    let few-settled : length i.marks < 2 * 6 ^ (h + 1) = omega (arith, few, marks, ap length same) in
    omega (
      arith,
      c.settled.ensures.steps h few-settled,
      c.without_known.ensures.steps h (omega (arith, few, marks)),
      c.without.ensures.steps h (omega (arith, few, stops)),
      c.without_any.ensures.steps h (omega (arith, few, anchors)),
      marks,
      stops,
      anchors,
    )
