use Rattle.std.proofs.Common.{◌≡◌, length, ap, subst, take, arith, List}
use Rattle.std.proofs.lemmas.List.{take_all}
use Rattle.display_map.specs.Events.{Event}
use Rattle.display_map.specs.Identity.{HaveSameLines}
use Rattle.display_map.specs.Replay.{begun, replayed}
use Rattle.test_display.proofs.lawful.same_lines.Goals as goal

pub returns : goal.returns
returns g c = λ n.
    let h = c.args.version.now in
    subst (λ (events : List Event). HaveSameLines (replayed (begun h.opening) (take n h.events)).present (replayed (begun h.opening) events).present)
    (take_all (length h.events) h.events (omega arith))
    (c.stamp_laws.ensures h.opening h.events n (length h.events) c.lawful.ensures.opening c.lawful.ensures.fits)
