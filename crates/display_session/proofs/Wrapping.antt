-- What wrapping leaves.
use Rattle.std.proofs.Common.{◌≡◌, Bool, true, false, List, [], ◌∷◌, ◌++◌, Option, Some, None, refl, sym, ap, ◌∙◌, append_assoc, subst, true≢false}
use Rattle.std.specs.Prelude.{◌&&◌, ◌==◌, if◌then◌else◌}
use Rattle.std.specs.List.{list_all}
use Rattle.std.proofs.lemmas.List.{append-nil}
use Rattle.std.proofs.lemmas.List.Folds.{list_all-append}
use Rattle.cell_units.specs.declared.fault.Refusal.TheVariants.{BadRange}
use Rattle.cell_units.specs.Record.{Record}
use Rattle.cell_units.specs.Text.{is_boundary}
use Rattle.display_map.specs.Events.{Event, Line, Did, Sent, Landed, Published}
use Rattle.display_map.specs.Replay.{History, SentJob, State, appended, happens, job_numbered, landed_on, present_of, replayed, state_of, wrapped_at}
use Rattle.display_map.proofs.Replays.{replayed-cons, replayed-none, state_of-appended}
use Rattle.edit_script.specs.declared.asked.Query.{Query}
use Rattle.edit_script.specs.declared.asked.Query.TheVariants as queries
use Rattle.edit_script.specs.Verdict.{query_refusal}
use Rattle.display_session.specs.Wrapping.{IsWrapped, is_wrapping}

abbrev with_events : History → List Event → History
with_events h events = record { opening = h.opening; events = events }

pub wrapped-none : (h : History) → IsWrapped h h
wrapped-none h = record { more = []; since = ap (with_events h) (sym (append-nil h.events)); each = refl }

pub wrapped-same : (a b : History) → b ≡ a → IsWrapped a b
wrapped-same a b e = subst (λ h. IsWrapped a h) (sym e) (wrapped-none a)

pub wrapped-both : (a b c : History) → IsWrapped a b → IsWrapped b c → IsWrapped a c
wrapped-both a b c one two =
    record {
      more = one.more ++ two.more;
      since = two.since ∙ (ap (λ h. appended h two.more) one.since ∙ ap (with_events a) (append_assoc a.events one.more two.more));
      each = list_all-append is_wrapping one.more two.more ∙ (ap (λ b. b && list_all is_wrapping two.more) one.each ∙ two.each);
    }

-- ---- the text stays, so a question is refused as before

landed-text : (r : Record) (job : Option SentJob) → (landed_on r job).text ≡ r.text
landed-text r None = refl
landed-text r (Some job) = go (job.width == r.width) where
  go : (b : Bool) → (if b then record r { marks = wrapped_at job.width job.stamps r.marks } else r).text ≡ r.text
  go true = refl
  go false = refl

same-text : (s : State) (events : List Event) → list_all is_wrapping events ≡ true → (replayed s events).present.text ≡ s.present.text
same-text s [] e = ap (λ (s : State). s.present.text) (replayed-none s)
same-text s (Sent job first count ∷ events) e =
    ap (λ (s : State). s.present.text) (replayed-cons s (Sent job first count) events) ∙ same-text (happens s (Sent job first count)) events e
same-text s (Landed job ∷ events) e =
    ap (λ (s : State). s.present.text) (replayed-cons s (Landed job) events)
    ∙ (same-text (happens s (Landed job)) events e ∙ landed-text s.present (job_numbered job s.jobs))
same-text s (Line number ∷ events) e = absurd (true≢false (sym e))
same-text s (Did op ∷ events) e = absurd (true≢false (sym e))
same-text s (Published last ∷ events) e = absurd (true≢false (sym e))

pub wrapped-text : (a b : History) → IsWrapped a b → (present_of b).text ≡ (present_of a).text
wrapped-text a b it =
    ap (λ h. (present_of h).text) it.since
    ∙ (ap (λ (s : State). s.present.text) (state_of-appended a it.more) ∙ same-text (state_of a) it.more it.each)

pub wrapped-refusal : (a b : History) (query : Query) → IsWrapped a b → query_refusal (present_of b) query ≡ query_refusal (present_of a) query
wrapped-refusal a b (queries.Rows first count) it = refl
wrapped-refusal a b (queries.Peek first count) it = refl
wrapped-refusal a b (queries.Show offset bias) it =
    ap (λ text. if is_boundary text offset then None else Some BadRange) (wrapped-text a b it)
wrapped-refusal a b (queries.Back spot bias) it = refl
wrapped-refusal a b (queries.Clip spot bias) it = refl
