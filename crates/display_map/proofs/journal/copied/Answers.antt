use Rattle.std.proofs.Common.{◌≡◌, ℕ, ◌<◌, ◌+◌, List, [], ◌∷◌, ◌++◌, get_or, length, take, ap, sym, ◌∙◌, arith}
use Rattle.std.proofs.lemmas.List.{map-append, take_more}
use Rattle.display_map.specs.Events.{event_of, events_of}
use Rattle.display_map.specs.declared.event.Event as declared
use Rattle.display_map.proofs.journal.copied.Goals as goal

more : (copy events : List declared.Event) (i : ℕ) (e e' : declared.Event) → i < length events → get_or events i e ≡ e → event_of e' ≡ event_of e →
    events_of copy ≡ events_of (take i events) → events_of (copy ++ e' ∷ []) ≡ events_of (take (i + 1) events)
more copy events i e e' lt at same before =
    map-append event_of copy (e' ∷ [])
    ∙ (λ k. before k ++ same k ∷ [])
    ∙ sym (map-append event_of (take i events) (e ∷ []))
    ∙ ap (λ (x : declared.Event). events_of (take i events ++ x ∷ [])) (sym at)
    ∙ ap events_of (sym (take_more events i e lt))

pub loop-event-preserved : goal.loop-event-preserved
loop-event-preserved c =
    ap events_of c.in_ok-push.ensures.items
    ∙ more c.loop-event.copy.items c.args.events.now c.loop-event.event-index c.event-item.result c.in_ok-copy-2.field-0 (omega arith) (sym c.event-item.is) c.in_ok-copy-2.ensures c.loop-event.invariant
