-- A change sends and lands nothing, and what covers the rows that were replaced covers its own too.
use Rattle.std.proofs.Common.{List, ap, map, refl, ◌∙◌}
use Rattle.std.specs.Prelude.{option_map}
use Rattle.wrap_workers.specs.Finishes.{job_of}
use Rattle.display_sheet.specs.Changes.{ops_of}
use Rattle.display_map.specs.Events.{Did, Event}
use Rattle.display_map.specs.Replay.{History, appended}
use Rattle.display_session.specs.declared.watch.Watch.{Watch}
use Rattle.display_session.proofs.LoneDisplays.{kept-did}
use Rattle.display_session.proofs.Watches.{led-view, watched-view}
use Rattle.display_session.proofs.lone.LoneDisplay.apply_watched.Goals as goal

pub changed_since-requires-clause-since : goal.changed_since-requires-clause-since
changed_since-requires-clause-since c =
    led-view c.args.self.now c.in_ok-before.before c.args.watch (c.in_ok-before.ensures ∙ c.self.view_is) c.lawful.ensures c.requires.watched

pub returns-clause-watched : goal.returns-clause-watched
returns-clause-watched c =
    let next : Watch = record { events = c.args.watch.events; replaced = c.in_ok-replaced.replaced } in
    let events : List Event = map Did (ops_of c.args.change.now) in
    watched-view c.args.self.now c.in_ok-before.before c.apply.new.self c.args.watch next events (c.in_ok-before.ensures ∙ c.self.view_is)
    (c.in_ok-apply.ensures.done ∙ ap (λ (h : History). appended h events) (c.in_ok-next.ensures ∙ c.self.view_is)) refl c.in_ok-replaced.ensures.rows
    c.requires.watched

pub invariant_of-self : goal.invariant_of-self
invariant_of-self c =
    let ops = ops_of c.args.change.now in
    kept-did c.job_laws.ensures.over_operations c.self.inside.display c.apply.new.self ops (option_map job_of c.self.inside.late)
    (c.in_ok-apply.ensures.done ∙ ap (λ (h : History). appended h (map Did ops)) c.in_ok-next.ensures) c.self.invariant
