-- What an appended event says comes after what the others say.
use Rattle.std.proofs.Common.{◌≡◌, ◌∷◌, ◌++◌, [], List, take, ap, sym, ◌∙◌}
use Rattle.std.specs.Arc.{arc_value}
use Rattle.std.proofs.lemmas.List.{map-append, take-map}
use Rattle.display_map.specs.Events.{event_of, events_of}
use Rattle.display_map.specs.declared.event.Event as declared
use Rattle.display_map.proofs.journal.Chunk.push_behind.Goals as goal

pushed : (len : _) (events : List declared.Event) (e : declared.Event) → events_of (take len events ++ e ∷ []) ≡ take len (events_of events) ++ event_of e ∷ []
pushed len events e = map-append event_of (take len events) (e ∷ []) ∙ ap (λ l. l ++ event_of e ∷ []) (sym (take-map event_of len events))

pub returns-in_ok-push-in-Some-clause-appended : goal.returns-in_ok-push-in-Some-clause-appended
returns-in_ok-push-in-Some-clause-appended c =
    ap events_of (c.in_ok-push-in-Some.ensures.items ∙ ap (λ l. l ++ c.args.event ∷ []) (c.truncate.ensures.items ∙ ap (λ v. take c.args.len v.items) c.in-Some.ensures.value))
    ∙ pushed c.args.len (arc_value c.self.inside.events).items c.args.event
    ∙ ap (λ l. take c.args.len l ++ event_of c.args.event ∷ []) c.self.view_is

pub returns-in_ok-self-inside-in-None-clause-appended : goal.returns-in_ok-self-inside-in-None-clause-appended
returns-in_ok-self-inside-in-None-clause-appended c =
    ap (λ v. events_of v.items) c.in_ok-self-inside-in-None.ensures.ok
    ∙ ap events_of c.in_ok-push-in-None.ensures.items
    ∙ map-append event_of c.in_ok-copy-in-None.copy.items (c.args.event ∷ [])
    ∙ ap (λ l. l ++ event_of c.args.event ∷ []) (c.in_ok-copy-in-None.ensures ∙ ap (λ (l : List declared.Event). events_of (take c.args.len l)) (c.deref-in-None.ensures.value ∙ ap (λ v. v.items) c.deref.ensures) ∙ sym (take-map event_of c.args.len (arc_value c.self.inside.events).items))
    ∙ ap (λ l. take c.args.len l ++ event_of c.args.event ∷ []) c.self.view_is
