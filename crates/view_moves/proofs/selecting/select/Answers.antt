use Rattle.display_map.specs.Replay.{present_of}
use Rattle.view_moves.proofs.Narrow.{narrow}
use Rattle.view_moves.proofs.SpansByClips.{greater-narrow, selects-end, selects-spans, selects-start}
use Rattle.view_moves.proofs.selecting.select.Goals as goal

pub spans_between-requires-clause-narrow : goal.spans_between-requires-clause-narrow
spans_between-requires-clause-narrow g c = narrow (present_of c.args.view.now) c.lawful.ensures.lawful c.lawful.ensures.short

pub spans_between-requires-clause-fits : goal.spans_between-requires-clause-fits
spans_between-requires-clause-fits g c =
    greater-narrow (present_of c.args.view.now) c.args.one c.args.other c.in_ok-s.s c.in_ok-t.t c.ends_of-ends.result.first c.ends_of-ends.result.last c.in_ok-s.ensures.nearest c.in_ok-t.ensures.nearest
    (narrow (present_of c.args.view.now) c.lawful.ensures.lawful c.lawful.ensures.short) c.ends_of-ends.ensures.last

pub spans_between-requires-clause-order : goal.spans_between-requires-clause-order
spans_between-requires-clause-order g c = c.ends_of-ends.ensures.order

pub returns-clause-start : goal.returns-clause-start
returns-clause-start g c =
    selects-start (present_of c.args.view.now) c.args.one c.args.other c.in_ok-s.s c.in_ok-t.t c.ends_of-ends.result.first c.ends_of-ends.result.last c.in_ok-s.ensures.nearest c.in_ok-t.ensures.nearest
    c.in_ok-start.start c.ends_of-ends.ensures.first c.in_ok-start.ensures.offset

pub returns-clause-end : goal.returns-clause-end
returns-clause-end g c =
    selects-end (present_of c.args.view.now) c.args.one c.args.other c.in_ok-s.s c.in_ok-t.t c.ends_of-ends.result.first c.ends_of-ends.result.last c.in_ok-s.ensures.nearest c.in_ok-t.ensures.nearest
    c.in_ok-end.end c.ends_of-ends.ensures.last c.in_ok-end.ensures.offset

pub returns-clause-spans : goal.returns-clause-spans
returns-clause-spans g c =
    selects-spans (present_of c.args.view.now) c.args.one c.args.other c.in_ok-s.s c.in_ok-t.t c.ends_of-ends.result.first c.ends_of-ends.result.last c.in_ok-s.ensures.nearest c.in_ok-t.ensures.nearest
    c.in_ok-spans.spans.items c.ends_of-ends.ensures.first c.ends_of-ends.ensures.last c.in_ok-spans.ensures.spans
