-- Versions that are published.
use Rattle.std.proofs.Common.{◌≡◌, ◌+◌, cond, Bool, List, [], ◌∷◌, ◌++◌, Option, Some, None, refl, ap, arith}
use Rattle.std.specs.List.{last_or}
use Rattle.std.proofs.lemmas.List.Sums.{sum_by-append}
use Rattle.display_map.specs.Events.{Event, Published}
use Rattle.display_map.specs.Replay.{ends, is_last, is_published, versions_of}

pub versions-more : (events : List Event) (e : Event) → versions_of (events ++ e ∷ []) ≡ versions_of events + cond (is_published e) 1 0
versions-more events e = omega (arith, sum_by-append (λ (e : Event). cond (is_published e) 1 0) events (e ∷ []))

last_pushed : (o : Option Event) (events : List Event) (e : Event) → last_or o (events ++ e ∷ []) ≡ Some e
last_pushed o [] e = refl
last_pushed o (d ∷ ds) e = last_pushed (Some d) ds e

pub ends-published : (events : List Event) (last : Bool) → ends (events ++ Published last ∷ []) ≡ last
ends-published events last = ap is_last (last_pushed None events (Published last))
