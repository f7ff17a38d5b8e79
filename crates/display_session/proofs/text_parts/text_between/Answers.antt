-- An offset that is shown is a boundary.
use Rattle.display_map.specs.Replay.{present_of}
use Rattle.display_session.proofs.Slices.{shown-boundary}
use Rattle.display_session.proofs.text_parts.text_between.Goals as goal

pub slice-requires-clause-start : goal.slice-requires-clause-start
slice-requires-clause-start c =
    let text = (present_of c.args.view.now).text in
    shown-boundary text c.args.start (c.text_laws.ensures.boundaries text c.lawful.ensures.lawful.entries.source.text.0) c.in_ok-show.ensures.accepted

pub slice-requires-clause-end : goal.slice-requires-clause-end
slice-requires-clause-end c =
    let text = (present_of c.args.view.now).text in
    shown-boundary text c.args.end (c.text_laws.ensures.boundaries text c.lawful.ensures.lawful.entries.source.text.0) c.in_ok-show-2.ensures.accepted
