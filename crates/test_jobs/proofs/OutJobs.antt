-- Jobs that are out, over what happens to their display.
use Rattle.std.proofs.Common.{◌≡◌, ◌≢◌, ℕ, suc, List, [], ◌∷◌, ◌++◌, false, All, refl, sym, subst}
use Rattle.std.specs.Prelude.{slice_index_or}
use Rattle.std.specs.List.{remove}
use Rattle.std.proofs.lemmas.Bool.{ne_eqb}
use Rattle.std.proofs.lemmas.List.Elements.{All-append, All-drop, All-push, All-take}
use Rattle.cell_line.specs.declared.element.Element.{Element}
use Rattle.wrap_workers.specs.Jobs.{JobParts}
use Rattle.display_map.specs.Events.{Event, Landed}
use Rattle.display_map.specs.Replay.{History, appended}
use Rattle.display_map.specs.Sending.{IsOutstanding, IsSent, is_landing, seen_job, sending}
use Rattle.test_jobs.specs.Out.{AreOut, StayOut}

-- a job stays out over each event that isn't its landing
abbrev pub StaysOver : Type 0
StaysOver = (h : History) (e : Event) (job : JobParts (List (List Element))) → is_landing job.number e ≡ false → IsOutstanding h job →
    IsOutstanding (appended h (e ∷ [])) job

-- those that are out stay so where another is sent
pub sent_stay : (before after : History) (job : JobParts (List (List Element))) → StaysOver → IsSent before after job → StayOut before after
sent_stay before after job stays sent = λ other is_out.
    subst (λ (h : History). IsOutstanding h other) (sym sent.event_is) (stays before (sending job) other refl is_out)

module _ {N : Type 0} (elements : N → List (List Element)) where
  -- jobs that stay out, each by itself, stay so together
  pub all_stay : (before after : History) (out : List (JobParts N)) → StayOut before after → AreOut elements before out → AreOut elements after out
  all_stay before after out stay are k d lt = stay (seen_job elements (slice_index_or out k d)) (are k d lt)

  -- one more is out
  pub one_more : (h : History) (out all : List (JobParts N)) (job : JobParts N) → all ≡ out ++ job ∷ [] →
      AreOut elements h out → IsOutstanding h (seen_job elements job) → AreOut elements h all
  one_more h out all job is are this =
      let P : JobParts N → Type 0 = λ job. IsOutstanding h (seen_job elements job) in
      subst (All P) (sym is) (All-push P out job are this)

  -- without one of them
  pub without_one : (h : History) (out left : List (JobParts N)) (at : ℕ) → left ≡ remove out at → AreOut elements h out → AreOut elements h left
  without_one h out left at is are =
      let P : JobParts N → Type 0 = λ job. IsOutstanding h (seen_job elements job) in
      subst (All P) (sym is) (All-append P _ _ (All-take P at out are) (All-drop P (suc at) out are))

  -- those of other numbers stay out when one lands
  pub others_stay : (before after : History) (left : List (JobParts N)) (number : ℕ) → after ≡ appended before (Landed number ∷ []) → StaysOver →
      All (λ job. job.number ≢ number) left → AreOut elements before left → AreOut elements after left
  others_stay before after left number is stays apart are k d lt =
      let job = slice_index_or left k d in
      let other : is_landing job.number (Landed number) ≡ false = ne_eqb number job.number (λ e. apart k d lt (sym e)) in
      subst (λ (h : History). IsOutstanding h (seen_job elements job)) (sym is)
      (stays before (Landed number) (seen_job elements job) other (are k d lt))
