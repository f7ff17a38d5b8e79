-- What a session is by its note, and that it ends as it is owed.
use Rattle.std.proofs.Common.{◌≡◌, ℕ, ◌⊎◌, ◌&&◌, inl, inr, Bool, true, false, if◌then◌else◌, List, [], ◌∷◌, length, map, Option, Some, None, Result, Ok, Err, refl, sym, ap, ◌∙◌, subst}
use Rattle.std.specs.declared.alloc.Global.{Global}
use Rattle.std.specs.declared.vec.Vec.{Vec}
use Rattle.std.specs.Prelude.{IfOk, IfSome, option_map, replicate}
use Rattle.cell_units.specs.Text.{clean}
use Rattle.display_map.specs.Events.{Event}
use Rattle.display_map.specs.Replay.{History}
use Rattle.command_line.specs.declared.limits.TheConstants.{VIEWS_LEAST, VIEWS_MOST}
use Rattle.command_line.specs.declared.views.ViewPlan.{ViewPlan}
use Rattle.command_line.specs.ViewWords.{is_views, of_views, view_reading}
use Rattle.command_line.specs.Words.{Word, is_name, number}
use Rattle.script_runner.specs.declared.stop.Stop.{Stop}
use Rattle.script_runner.specs.declared.stop.Stop.TheVariants as stops
use Rattle.script_runner.specs.declared.outside.Part.TheVariants as parts
use Rattle.script_runner.specs.Entries.{script_lines}
use Rattle.script_runner.specs.Legal.{history_of}
use Rattle.script_runner.specs.Outside.{AreTold, Faults, SinkState, count_between}
use Rattle.split_script.specs.Theorems.{SplitCourse}
use Rattle.split_runner.specs.Going.{IsPlayed, course_of, started}
use Rattle.display_cli.specs.declared.ended.Note.{Note}
use Rattle.display_cli.specs.declared.ended.Note.TheVariants.{Memory, Usage}
use Rattle.display_cli.specs.Ended.{HasRead, HasReadsPassed, HasStatus, ReadsInOrder, ends_at_text, script_of, text_of}
use Rattle.display_cli.specs.inside.Opening.{IsScript, IsScriptUnread, IsTextUnread, note_of}
use Rattle.display_cli.proofs.Ends.{HaveRead, complete, ends-unopened, ends-unread, has-read, opened-told, owed}
use Rattle.split_cli.specs.Closed.{IsClosedAs, IsSession, IsSessionOfWords, IsShort, IsUnopened, Session, closings_of, histories_on, outside, split_course_of}
use Rattle.split_cli.specs.inside.Opening.{AreOpenedOn, IsCloseOf}

-- ---- the plan

-- nothing is made where the words ask for views
pub names-alone : (words : List Word) → IfSome (view_reading words) (λ plan. plan.plan.make ≡ None)
names-alone [] = tt
names-alone (first ∷ []) = tt
names-alone (first ∷ (views ∷ [])) = tt
names-alone (first ∷ (views ∷ (text ∷ []))) = tt
names-alone (first ∷ (views ∷ (text ∷ (script ∷ (more ∷ words))))) = tt
names-alone (first ∷ (views ∷ (text ∷ (script ∷ [])))) =
    by (is_views first && (is_name text && is_name script)) (number VIEWS_LEAST VIEWS_MOST views)
  where
    by : (b : Bool) (n : Option ℕ) → IfSome (if b then option_map (of_views text script) n else None) (λ plan. plan.plan.make ≡ None)
    by false n = tt
    by true None = tt
    by true (Some n) = refl

-- ---- the views

-- views that were started on what was read
pub views-opened : (told : Option (List ℕ)) (count views : ℕ) (bytes slice : List ℕ) (r : Result (List History) Note) → AreTold told bytes
    → length bytes ≡ count → slice ≡ bytes → IfOk r (AreOpenedOn (Some slice) (length slice) views) → IfOk r (AreOpenedOn told count views)
views-opened told count views bytes slice (Ok histories) tells counted same opened =
    let first : Result History Note = Ok opened.0 in
    (opened.0, opened-told told count bytes slice first tells counted same opened.1, opened.2)
views-opened told count views bytes slice (Err note) tells counted same opened = tt

-- they are as they were just started
pub fresh-views : (told : Option (List ℕ)) (count views : ℕ) (histories : List History) → AreOpenedOn told count views histories
    → (text : List ℕ) × (n : ℕ) × (histories ≡ started text n)
fresh-views told count views histories opened =
    (clean opened.1.0, views, opened.2 ∙ ap (λ first. replicate views first) opened.1.3)

-- a play whose journals were handed on
pub played-as : (course : SplitCourse) (text : List ℕ) (old new : Vec (List Event) Global) (sink : SinkState) (r : Result Bool Stop) → new ≡ old
    → IsPlayed course (map (history_of text) old.items) sink r → IsPlayed course (map (history_of text) new.items) sink r
played-as course text old new sink r same it =
    let P : Vec (List Event) Global → Type 0 = λ journals. IsPlayed course (map (history_of text) journals.items) sink r in subst P (sym same) it

-- a play that was closed so isn't of the text alone
pub close-behind : (r : Result Bool Stop) (status : ℕ) (note : Note) → IsCloseOf r status note → ends_at_text note ≡ false
close-behind (Ok refused) status note is = ap ends_at_text is.0
close-behind (Err stop) status note is = ap ends_at_text is ∙ by stop
  where
    by : (stop : Stop) → ends_at_text (note_of stop) ≡ false
    by stops.Write = refl
    by stops.JournalFull = refl
    by stops.Memory = refl

-- ---- what a session is by its note

module _ (plan : ViewPlan) (session : Session) where
  -- there was no memory, and nothing was written
  pub closed-short : IsUnopened session → session.inputs_after.faults ≡ session.inputs.faults → IsShort plan session
  closed-short unopened same = record { ended = inr unopened; reads_passed = same; writes_passed = ap (λ s. s.faults) unopened.sink }

  -- a text that wasn't opened
  pub closed-unopened : (note : Note) → plan.plan.make ≡ None → IsUnopened session
      → IsTextUnread (text_of plan.plan session.inputs) session.inputs.faults session.inputs_after.faults note → IsClosedAs plan session note
  closed-unopened note named unopened =
      ends-unopened (closings_of plan session) plan.plan (outside session) note (λ _. named) unopened (closed-short unopened)

  -- a script that wasn't read, after a text that was
  pub closed-unread : (note : Note) (told : Option (List ℕ)) (faults : Faults) (count : ℕ) (histories : List History) → plan.plan.make ≡ None
      → IsUnopened session → AreOpenedOn (text_of plan.plan session.inputs) count plan.views histories → told ≡ script_of plan.plan session.inputs
      → faults ≡ session.inputs.faults → IsScriptUnread told faults session.inputs_after.faults note → IsClosedAs plan session note
  closed-unread note told faults count histories named unopened opened =
      ends-unread (closings_of plan session) plan.plan (outside session) note told faults count opened.0 named unopened (closed-short unopened) opened.1

  module _ (read : HasRead plan.plan (outside session)) (passed : session.inputs_after.faults ≡ session.inputs.faults) where
    Played : Result Bool Stop → Type 0
    Played r =
        IsPlayed (split_course_of plan read.bytes read.script session.sink) (histories_on (clean read.bytes) session) session.sink_after r

    stopped-as : (stop : Stop) → Played (Err stop) → IsClosedAs plan session (note_of stop)
    unfolding Played
    stopped-as stops.Write it = record { read = read; stopped = it.0; caused = it.1 }
    stopped-as stops.JournalFull it = record { read = read; stopped = it.0; caused = it.1 }
    stopped-as stops.Memory it =
        record { ended = inl (record { read = read; stopped = it.0; caused = tt }); reads_passed = passed; writes_passed = it.1 }

    -- the script was played
    pub closed-played : (r : Result Bool Stop) (note : Note) → IsCloseOf r session.status note
        → IsPlayed (split_course_of plan read.bytes read.script session.sink) (histories_on (clean read.bytes) session) session.sink_after r
        → IsClosedAs plan session note
    unfolding Played
    closed-played (Ok refused) note is it =
        let P : Note → Type 0 = IsClosedAs plan session in
        subst P (sym is.0) (record { read = read; refused = refused; status = is.1; finished = it })
    closed-played (Err stop) note is it = let P : Note → Type 0 = IsClosedAs plan session in subst P (sym is) (stopped-as stop it)

  -- the script was played on views that were opened on the text
  pub closed-run : (r : Result Bool Stop) (note : Note) (told : Option (List ℕ)) (count : ℕ) (histories : List History) (script : List ℕ)
      → AreOpenedOn (text_of plan.plan session.inputs) count plan.views histories → told ≡ script_of plan.plan session.inputs → IsScript told script
      → count ≡ count_between parts.Text session.inputs session.inputs_after
      → length script ≡ count_between parts.Script session.inputs session.inputs_after
      → session.inputs_after.faults ≡ session.inputs.faults → IsCloseOf r session.status note
      → ((text : List ℕ) (views : ℕ) → histories ≡ started text views
      → IsPlayed (course_of text views (script_lines script) session.sink) (histories_on text session) session.sink_after r)
      → IsClosedAs plan session note
  closed-run r note told count histories script opened tells read of_text of_script passed is plays =
      let them = has-read plan.plan (outside session) told count opened.0 script opened.1 tells read (λ _. of_text) (λ _. of_script) in
      closed-played them passed r note is (plays (clean opened.1.0) plan.views (opened.2 ∙ ap (λ first. replicate plan.views first) opened.1.3))

  have-read : HaveRead (closings_of plan session) plan.plan (outside session)
  have-read = record { finished = λ it. it.read; unwritten = λ it. it.read; full = λ it. it.read; failed = λ it. it.caused.1 }

  pub is-session : IsClosedAs plan session session.note
      → ReadsInOrder plan.plan session.note session.inputs.reads session.inputs_after.reads → HasReadsPassed (outside session) → IsSession session plan
  is-session it reads passed =
      record {
        outcome = it;
        reads = reads;
        passed = passed;
        owed = owed (closings_of plan session) plan.plan (outside session) have-read it;
        complete = complete (closings_of plan session) plan.plan (outside session) have-read it;
      }

-- ---- the words

not-usage : (plan : ViewPlan) (session : Session) (note : Note) → IsClosedAs plan session note → note ≡ Usage → ⊥
not-usage plan session note it e = let P : Note → Type 0 = IsClosedAs plan session in subst P e it

pub none-some : {o : Option ViewPlan} (p : ViewPlan) → o ≡ None → o ≡ Some p → ⊥
none-some p e f = cc

-- a session of a plan that the words have
pub of-plan : (o : Option ViewPlan) (plan : ViewPlan) (session : Session) → o ≡ Some plan → HasStatus session.note session.status
    → IsSession session plan → IsSessionOfWords o session
of-plan o plan session e status it =
    let P : Option ViewPlan → Type 0 = λ o. IfSome o (IsSession session) in
    record {
      status = status;
      usage = λ u. absurd (not-usage plan session session.note it.outcome u);
      unread = λ none. absurd (none-some plan none e);
      nothing = λ none. absurd (none-some plan none e);
      planned = subst P (sym e) it;
    }

-- a session of words without a reading
pub of-none : (o : Option ViewPlan) (session : Session) → o ≡ None → HasStatus session.note session.status
    → (session.note ≡ Usage) ⊎ (session.note ≡ Memory) → IsUnopened session → IsSessionOfWords o session
of-none o session e status how unopened =
    let P : Option ViewPlan → Type 0 = λ o. IfSome o (IsSession session) in
    record { status = status; usage = λ u. e; unread = λ none. how; nothing = λ none. unopened; planned = subst P (sym e) tt }

-- there was no memory for the reading
pub of-short : (o : Option ViewPlan) (session : Session) → HasStatus session.note session.status → session.note ≡ Memory
    → IsUnopened session → ((plan : ViewPlan) → IsSession session plan) → IsSessionOfWords o session
of-short None session status is unopened it = of-none None session refl status (inr is) unopened
of-short (Some plan) session status is unopened it = of-plan (Some plan) plan session refl status (it plan)
