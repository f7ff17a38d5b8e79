-- What covers the rows that were replaced covers those of the landing too.
use Rattle.std.proofs.Common.{[], ◌∷◌, List, refl}
use Rattle.display_map.specs.Events.{Event, Landed}
use Rattle.display_map.proofs.Sent.{display_sent}
use Rattle.display_session.specs.declared.watch.Watch.{Watch}
use Rattle.display_session.proofs.Watches.{led-view, shown-view, watched-view}
use Rattle.display_session.proofs.lone.land_watched.Goals as goal

pub landed_since-watch-requires-clause-since : goal.landed_since-watch-requires-clause-since
landed_since-watch-requires-clause-since c =
    led-view c.args.display.now c.in-Ok.before c.args.watch.now c.in-Ok.ensures c.lawful.ensures c.requires.watched

pub returns-in-Ok-land-clause-watched : goal.returns-in-Ok-land-clause-watched
returns-in-Ok-land-clause-watched c =
    let h = c.args.display.now in
    let w = c.args.watch.now in
    let next : Watch = record { events = w.events; replaced = c.landed_since-watch.result } in
    let events : List Event = Landed c.args.done.job.number ∷ [] in
    let landed = c.in-Ok-land.ensures.landed in
    watched-view h c.in-Ok.before c.land.new.self w next events c.in-Ok.ensures landed refl
    (c.landed_since-watch.ensures.rows c.args.done.job.number (shown-view h c.in-Ok.before c.land.new.self events c.sheet-after.result.now c.in-Ok.ensures landed c.sheet-after.ensures))
    c.requires.watched

pub land-requires-send-S-Held : goal.land-requires-send-S-Held
land-requires-send-S-Held _ _ = search display_sent depth 12 fits 4000

pub land-requires-sync-S-Held : goal.land-requires-sync-S-Held
land-requires-sync-S-Held _ _ = search display_sent depth 12 fits 4000
