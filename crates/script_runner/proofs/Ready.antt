-- What stays as it is while an owner goes on.
use Rattle.std.proofs.Common.{◌≡◌, ℕ, ◌+◌, ◌≤◌, Bool, true, false, cond, List, [], ◌∷◌, ◌++◌, map, Option, Some, None, refl, sym, ap, ◌∙◌, subst, arith}
use Rattle.std.specs.Prelude.{◌==◌, if◌then◌else◌}
use Rattle.std.specs.List.{list_any}
use Rattle.std.proofs.lemmas.List.Sums.{sum_by-append}
use Rattle.cell_units.specs.Record.{Record}
use Rattle.cell_units.specs.Operation.{Operation}
use Rattle.display_map.specs.Events.{Event}
use Rattle.display_map.specs.Events.{Line, Did, Sent, Landed, Published}
use Rattle.display_map.specs.Replay.{History, State, SentJob, replayed, state_of, present_of, landed_on, job_numbered, versions_of, is_published, appended}
use Rattle.live_display.specs.declared.owner.Owner.{Owner}
use Rattle.live_display.specs.Beside.{Step, Sends, Lands, events_of, behind, behind_all, GoesWithout, HasGone, is_send}
use Rattle.live_display.specs.Owned.{IsOwned}
use Rattle.script_runner.specs.Going.{IsReady, IsShown, IsUnsent}
use Rattle.script_runner.proofs.Sends.{state-append}
use Rattle.script_runner.proofs.Unsettled.{unsent-line, unsent-without}

-- a version stays published
pub published-more : (old new : History) (more : List Event) → new ≡ appended old more → 1 ≤ versions_of old.events → 1 ≤ versions_of new.events
published-more old new more e some =
    let all : versions_of (old.events ++ more) ≡ versions_of old.events + versions_of more =
    sum_by-append (λ e. cond (is_published e) 1 0) old.events more in
    let P : History → Type 0 = λ h. 1 ≤ versions_of h.events in
    subst P (sym e) (omega arith)

shown-more : (old new : Owner) (more : List Event) → new.display ≡ appended old.display more → IsShown old → IsOwned new → IsShown new
shown-more old new more e shown owned = record { owned = owned; published = published-more old.display new.display more e shown.published }

-- an owner is ready where its journal ends with a line
pub ready-line : (old new : Owner) (number : ℕ) → new.display ≡ appended old.display (Line number ∷ []) → IsShown old → IsOwned new → IsReady new
ready-line old new number e shown owned =
    let P : History → Type 0 = λ h. IsUnsent h.events in
    record {
      shown = shown-more old new (Line number ∷ []) e shown owned;
      unsent = subst P (sym e) (unsent-line old.display.events number);
    }

-- ... and it stays so over events without a send
pub ready-more : (old new : Owner) (more : List Event) → new.display ≡ appended old.display more → list_any is_send more ≡ false → IsReady old → IsOwned new → IsReady new
ready-more old new more e none ready owned =
    record {
      shown = shown-more old new more e ready.shown owned;
      unsent = unsent-without old.display new.display (record { more = more; display = e; none = none }) ready.unsent;
    }

dids-none : (ops : List Operation) → list_any is_send (map (λ op. Did op) ops) ≡ false
dids-none [] = refl
dids-none (op ∷ ops) = dids-none ops

-- ... as over the operations of a change
pub ready-done : (old new : Owner) (ops : List Operation) → new.display ≡ appended old.display (map (λ op. Did op) ops) → IsReady old → IsOwned new → IsReady new
ready-done old new ops e ready owned = ready-more old new (map (λ op. Did op) ops) e (dids-none ops) ready owned

-- ... and over a version
pub ready-published : (old new : Owner) (last : Bool) → new.display ≡ appended old.display (Published last ∷ []) → IsReady old → IsOwned new → IsReady new
ready-published old new last e ready owned = ready-more old new (Published last ∷ []) e refl ready owned

pub ready-same : (old new : Owner) → new.display ≡ old.display → IsReady old → IsOwned new → IsReady new
ready-same old new e ready owned =
    let P : History → Type 0 = λ h. IsUnsent h.events in
    let Q : History → Type 0 = λ h. 1 ≤ versions_of h.events in
    record { shown = record { owned = owned; published = subst Q (sym e) ready.shown.published }; unsent = subst P (sym e) ready.unsent }

published-steps : (h : History) (steps : List Step) → 1 ≤ versions_of h.events → 1 ≤ versions_of (behind_all h steps).events
published-steps h [] some = some
published-steps h (step ∷ steps) some = published-steps (behind h step) steps (published-more h (behind h step) (events_of step) refl some)

pub shown-gone : (workers : ℕ) (old new : Owner) → HasGone workers old.display new.display → IsShown old → IsOwned new → IsShown new
shown-gone workers old new gone shown owned =
    let P : History → Type 0 = λ h. 1 ≤ versions_of h.events in
    record { owned = owned; published = subst P (sym gone.display) (published-steps old.display gone.steps shown.published) }

-- results landed
pub ready-landed : (workers : ℕ) (old new : Owner) → HasGone workers old.display new.display → GoesWithout is_send old.display new.display
    → IsReady old → IsOwned new → IsReady new
ready-landed workers old new gone went ready owned =
    record {
      shown = shown-gone workers old new gone ready.shown owned;
      unsent = unsent-without old.display new.display went ready.unsent;
    }

landed-if : (b : Bool) (r s : Record) → s.text ≡ r.text → (if b then s else r).text ≡ r.text
landed-if true r s e = e
landed-if false r s e = refl

landed-text : (r : Record) (o : Option SentJob) → (landed_on r o).text ≡ r.text
landed-text r None = refl
landed-text r (Some job) = landed-if (job.width == r.width) r _ refl

-- runs that are sent and jobs that land keep the text
text-step : (h : History) (step : Step) → (present_of (behind h step)).text ≡ (present_of h).text
unfolding replayed
text-step h (Sends job first count) = ap (λ (s : State). s.present.text) (state-append h (Sent job first count ∷ []))
text-step h (Lands job) =
    ap (λ (s : State). s.present.text) (state-append h (Landed job ∷ (Published false ∷ [])))
    ∙ landed-text (state_of h).present (job_numbered job (state_of h).jobs)

text-steps : (h : History) (steps : List Step) → (present_of (behind_all h steps)).text ≡ (present_of h).text
text-steps h [] = refl
text-steps h (step ∷ steps) = text-steps (behind h step) steps ∙ text-step h step

pub text-gone : (workers : ℕ) (old new : History) → HasGone workers old new → (present_of new).text ≡ (present_of old).text
text-gone workers old new gone = ap (λ (h : History). (present_of h).text) gone.display ∙ text-steps old gone.steps
