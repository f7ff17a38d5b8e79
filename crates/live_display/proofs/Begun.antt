-- An owner that was just opened.
use Rattle.std.proofs.Common.{◌≡◌, ℕ, ◌≤◌, false, List, [], ◌∷◌, Option, refl, sym, ap, ◌∙◌, subst, arith}
use Rattle.std.specs.Prelude.{IfSome}
use Rattle.std.proofs.lemmas.List.Elements.{All-nil}
use Rattle.display_map.specs.Events.{Event, Published}
use Rattle.display_map.specs.Replay.{History, State, begun, replayed, state_of, appended}
use Rattle.display_map.specs.Sending.{IsOutstanding}
use Rattle.display_map.proofs.Replays.{state_of-one_more, replayed-none}
use Rattle.version_board.specs.Known.{Known}
use Rattle.live_display.specs.Owned.{AreNumbered, AreOut, HasTeam, IsNewest, numbers_out}
use Rattle.live_display.proofs.Newest.{newest-published}
use Rattle.live_display.proofs.Outs.{Job}
use Rattle.live_display.proofs.Owners.{some-more}

no-jobs : (start h : History) → start.events ≡ [] → h ≡ appended start (Published false ∷ []) → (state_of h).jobs ≡ []
no-jobs start h none is =
    ap (λ h. (state_of h).jobs) is
    ∙ (ap (λ (s : State). s.jobs) (state_of-one_more start (Published false))
    ∙ (ap (λ (es : List Event). (replayed (begun start.opening) es).jobs) none
    ∙ ap (λ (s : State). s.jobs) (replayed-none (begun start.opening))))

none-out : (h : History) → (state_of h).jobs ≡ [] → AreOut h []
none-out h none =
    record {
      numbered = subst (λ jobs. AreNumbered jobs) (sym none) refl;
      numbers = ap numbers_out (sym none);
      each = All-nil (λ job. IsOutstanding h job);
    }

pub team-opened : (start h : History) (workers w : ℕ) (out : List Job) (writer : Option Known) → start.events ≡ [] → 1 ≤ workers → h ≡ appended start (Published false ∷ [])
    → out ≡ [] → w ≡ workers → IfSome writer (λ wr. wr.newest ≡ h) → HasTeam h out w writer
team-opened start h workers w out writer none some is empty team shown =
    subst (λ out. HasTeam h out w writer) (sym empty) (record {
      some_worker = omega (arith, some, team);
      few = omega arith;
      jobs = none-out h (no-jobs start h none is);
      shown = some-more (λ wr. wr.newest ≡ h) (λ wr. IsNewest wr.newest h) writer
          (λ wr it. subst (λ v. IsNewest v h) (sym it) (newest-published h start is)) shown;
    })
