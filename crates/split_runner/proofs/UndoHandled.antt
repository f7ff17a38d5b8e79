-- How the handling of an undo or a redo ends.
use Rattle.std.proofs.Common.{◌≡◌, inl, inr, ℕ, ◌+◌, ◌<◌, ◌≤◌, Bool, true, false, not, List, [], ◌∷◌, ◌++◌, length, drop, Option, Some, None, option_map, Result, Ok, refl, sym, ap, ◌∙◌, subst, true≢false, arith}
use Rattle.std.specs.Prelude.{◌↔◌, ◌||◌, IsSome, is_some, nat_lt, slice_get}
use Rattle.std.specs.Result.{IsErrAnd}
use Rattle.std.proofs.lemmas.Bool.{lt-ltb}
use Rattle.std.proofs.lemmas.List.{append-nil}
use Rattle.cell_units.specs.declared.fault.Fault.{Fault}
use Rattle.cell_units.specs.declared.fault.Fault.TheVariants as faults
use Rattle.cell_units.specs.declared.fault.Refusal.{Refusal}
use Rattle.cell_units.specs.declared.fault.Refusal.TheVariants.{NotCommand, NothingThere}
use Rattle.display_sheet.specs.declared.change.Change.{Change}
use Rattle.display_sheet.specs.declared.change.Splice.{Splice}
use Rattle.display_sheet.specs.Changes.{batch}
use Rattle.display_map.specs.Events.{Line, event_limit}
use Rattle.display_map.specs.Replay.{History, present_of}
use Rattle.live_display.specs.declared.owner.TheConstants.{EVENTS_AHEAD}
use Rattle.edit_script.specs.Printed.{refusal_text}
use Rattle.script_runner.specs.declared.stop.Stop.{Stop}
use Rattle.script_runner.specs.declared.stop.Stop.TheVariants as stops
use Rattle.script_runner.specs.Entries.{Entry}
use Rattle.script_runner.specs.Going as runs
use Rattle.script_runner.specs.Outside.{SinkState, Takes}
use Rattle.script_runner.specs.Output.{printed, printed_with}
use Rattle.script_runner.specs.Writing.{IsUnwritten}
use Rattle.script_runner.proofs.Fronts.{takes-none, takes-same}
use Rattle.split_views.specs.Views.{history_of}
use Rattle.split_views.specs.Whole.{IsOneFull}
use Rattle.undo_line.specs.Inverse.{Leads, inverse, text_after}
use Rattle.undo_line.specs.TextLines.{IsLineOf, LeadAlong, TextLine}
use Rattle.undo_line.specs.TextLines as texts
use Rattle.undo_line.specs.UndoParts.{UndoParts}
use Rattle.split_script.specs.Lines.{Astray, Redo, SplitLine, Undo}
use Rattle.split_script.specs.Met.{Met, OwnIsThere, Redoes, Stays, Step, Undoes, met_at, nothing, step_for, steps_of, steps_through, text_line}
use Rattle.split_script.specs.Met as meets
use Rattle.split_script.specs.Output.{answered, lines_of, nothing_there, refuses}
use Rattle.split_script.specs.Parts.{BatchLine, batch_line, batch_of, entry_for, entry_of}
use Rattle.split_script.specs.Parts as parts
use Rattle.split_script.specs.Theorems.{SplitCourse, asked_for, entries_of}
use Rattle.split_runner.specs.Going.{HandlesReady, HandlesRefused, IsAcceptedIn, IsCut, IsGoing, IsReady, IsRefusedLine, IsUndoAfter, IsTooFull, IsUnreached, IsUnrestored, at, done_in_all, on}
use Rattle.split_runner.proofs.Batches.{IsSameLine, entry-short, moved-all, undo-same}
use Rattle.split_runner.proofs.Cases.{batch-step, going-still, text-step}
use Rattle.split_runner.proofs.Cuts.{cut-next, first-asked, going-full}
use Rattle.split_runner.proofs.OwnHandled.{line-short}
use Rattle.split_runner.proofs.Reaching.{fits, shared-entries, tested-utf8}
use Rattle.split_runner.proofs.UndoLines.{IsShared, going-shared}
use Rattle.split_runner.proofs.Within.{cut-before, handled-err}

-- ---- lines of no view that are refused

one-printed : (text : List ℕ) (m : Met) (refusal : Refusal) → lines_of text m ≡ refusal_text refusal ∷ []
    → printed_with [] (refusal_text refusal ∷ []) ≡ answered text (m ∷ [])
one-printed text m refusal is = ap printed (sym (append-nil (lines_of text m) ∙ is))

-- its refusal was written
pub refused-written : (hs : List History) (undo : UndoParts) (sink sink' : SinkState) (refusal : Refusal)
    → Takes (printed_with [] (refusal_text refusal ∷ [])) sink sink' → HandlesRefused refusal (at hs undo sink) (at hs undo sink') (Ok true)
refused-written hs undo sink sink' refusal written course done refused l next going it =
    subst (λ b. IsGoing course (done ++ l ∷ []) (refused || b) (at hs undo sink')) it.refused
    (going-still course done refused hs undo sink sink' l going next it.there it.no_entry it.texts it.batches
    (takes-same sink sink' _ _ (one-printed course.text (met_at hs (steps_of hs done) l) refusal it.answer) written))

-- ... or not whole
pub refused-unwritten : (hs : List History) (undo : UndoParts) (sink sink' : SinkState) (refusal : Refusal) (r : Result Bool Stop) (stop : Stop)
    → IsErrAnd r (λ e. e ≡ stop) → IsUnwritten (printed_with [] (refusal_text refusal ∷ [])) sink sink' stop
    → HandlesRefused refusal (at hs undo sink) (at hs undo sink') r
refused-unwritten hs undo sink sink' refusal r stop e why course done refused l next going it =
    handled-err course (done ++ l ∷ []) refused (at hs undo sink') r stop e
    (λ later. cut-before course done later refused hs undo undo sink l going next sink' stop
    (subst (λ b. IsUnwritten b sink sink' stop) (one-printed course.text (met_at hs (steps_of hs done) l) refusal it.answer) why))

module _ (text : List ℕ) (hs : List History) (past : List Step) (number : ℕ) where
  still-texts : (line : SplitLine) → meets.stepped (text_line text past) (step_for nothing line) ≡ text_line text past
      → met_at hs past (number, line) ≡ record { number = number; line = line; before = nothing; past = past }
      → text_line text (steps_through (met_at hs past (number, line))) ≡ text_line text past
  still-texts line e is =
      ap (λ m. text_line text (steps_through m)) is ∙ (text-step text past (step_for nothing line) ∙ e)

  still-batches : (line : SplitLine) → parts.stepped (batch_line text past) (step_for nothing line) ≡ batch_line text past
      → met_at hs past (number, line) ≡ record { number = number; line = line; before = nothing; past = past }
      → batch_line text (steps_through (met_at hs past (number, line))) ≡ batch_line text past
  still-batches line e is =
      ap (λ m. batch_line text (steps_through m)) is ∙ (batch-step text past (step_for nothing line) ∙ e)

  pub astray-refused : IsRefusedLine text hs past (number, Astray) NotCommand
  astray-refused = record {
    no_entry = λ view. refl;
    texts = still-texts Astray refl refl;
    batches = still-batches Astray refl refl;
    answer = refl;
    refused = refl;
    there = tt;
  }

  module _ (undo : UndoParts) (it : IsUndoAfter text past undo) where
    no-texts : (present : List ℕ) (batches : List (List Splice)) (line : List (List ℕ)) → LeadAlong present batches line → batches ≡ [] → line ≡ []
    no-texts present [] [] along none = refl
    no-texts present [] (t ∷ ts) along none = absurd along
    no-texts present (b ∷ bs) line along none = absurd (cons-none none)
      where
        cons-none : {X : Type 0} {x : X} {xs : List X} → x ∷ xs ≡ [] → ⊥
        cons-none e = cc

    pub undo-refused : undo.past ≡ [] → IsRefusedLine text hs past (number, Undo) NothingThere
    undo-refused none =
        let texts-none : (text_line text past).past ≡ [] = no-texts (text_line text past).present undo.past (text_line text past).past it.leads.back none in
        let batches-none : (batch_line text past).past ≡ [] = sym it.past ∙ none in
        record {
          no_entry = λ view. ap (λ l. option_map {U = ℕ × Entry} (λ entry. (number, entry)) (entry_for view (slice_get l 0) Undo)) batches-none;
          texts = still-texts Undo (ap (λ l. texts.gone_back l (text_line text past)) texts-none) refl;
          batches = still-batches Undo (ap (λ l. parts.gone_back l (batch_line text past)) batches-none) refl;
          answer = ap (λ l. nothing_there (nat_lt 0 (length l))) texts-none;
          refused = ap (λ l. not (nat_lt 0 (length l))) texts-none;
          there = tt;
        }

    pub redo-refused : undo.future ≡ [] → IsRefusedLine text hs past (number, Redo) NothingThere
    redo-refused none =
        let texts-none : (text_line text past).future ≡ [] = no-texts (text_line text past).present undo.future (text_line text past).future it.leads.forth none in
        let batches-none : (batch_line text past).future ≡ [] = sym it.future ∙ none in
        record {
          no_entry = λ view. ap (λ l. option_map {U = ℕ × Entry} (λ entry. (number, entry)) (entry_for view (slice_get l 0) Redo)) batches-none;
          texts = still-texts Redo (ap (λ l. texts.gone_forth l (text_line text past)) texts-none) refl;
          batches = still-batches Redo (ap (λ l. parts.gone_forth l (batch_line text past)) batches-none) refl;
          answer = ap (λ l. nothing_there (nat_lt 0 (length l))) texts-none;
          refused = ap (λ l. not (nat_lt 0 (length l))) texts-none;
          there = tt;
        }

pub undo-shared : IsShared Undo
undo-shared = record {
  entry = λ view o. refl;
  met_is = λ histories past number. refl;
  there = λ histories number. tt;
  asks = λ text m. refl;
}

pub redo-shared : IsShared Redo
redo-shared = record {
  entry = λ view o. refl;
  met_is = λ histories past number. refl;
  there = λ histories number. tt;
  asks = λ text m. refl;
}

-- ---- the undo line after them

first-is : {X : Type 0} (l : List X) (x : X) → slice_get l 0 ≡ Some x → l ≡ x ∷ drop 1 l
first-is [] x e = cc
first-is (y ∷ l) x e = let same : y ≡ x = cc in ap (λ z. z ∷ l) same

module _ (text : List ℕ) (past : List Step) (old new : UndoParts) (it : IsUndoAfter text past old) (taken back : List Splice) where
  abbrev line : TextLine
  line = text_line text past

  abbrev batches : BatchLine
  batches = batch_line text past

  pub undo-undone : slice_get old.past 0 ≡ Some taken → back ≡ inverse line.present taken → Leads line.present taken (texts.undone line).present
      → new.past ≡ drop 1 old.past → new.future ≡ back ∷ old.future → IsLineOf new (texts.undone line) → IsUndoAfter text (past ++ Undoes ∷ []) new
  undo-undone there is leads past-is future-is along =
      let now : BatchLine = record { past = drop 1 old.past; present = text_after batches.present taken; future = inverse batches.present taken ∷ batches.future } in
      let text-is : text_line text (past ++ Undoes ∷ []) ≡ texts.undone line = text-step text past Undoes in
      let batch-is : batch_line text (past ++ Undoes ∷ []) ≡ now =
      batch-step text past Undoes ∙ ap (λ l. parts.gone_back l batches) (sym it.past ∙ first-is old.past taken there) in
      record {
        past = past-is ∙ ap (λ b. b.past) (sym batch-is);
        future = future-is ∙ (ap (λ b. b ∷ old.future) (is ∙ ap (λ t. inverse t taken) (sym it.present))
            ∙ (ap (λ l. inverse batches.present taken ∷ l) it.future ∙ ap (λ b. b.future) (sym batch-is)));
        present = ap (λ b. b.present) batch-is
            ∙ (ap (λ t. text_after t taken) it.present ∙ (leads.gives ∙ ap (λ t. t.present) (sym text-is)));
        leads = subst (IsLineOf new) (sym text-is) along;
      }

  pub undo-redone : slice_get old.future 0 ≡ Some taken → back ≡ inverse line.present taken → Leads line.present taken (texts.redone line).present
      → new.past ≡ back ∷ old.past → new.future ≡ drop 1 old.future → IsLineOf new (texts.redone line) → IsUndoAfter text (past ++ Redoes ∷ []) new
  undo-redone there is leads past-is future-is along =
      let now : BatchLine = record { past = inverse batches.present taken ∷ batches.past; present = text_after batches.present taken; future = drop 1 old.future } in
      let text-is : text_line text (past ++ Redoes ∷ []) ≡ texts.redone line = text-step text past Redoes in
      let batch-is : batch_line text (past ++ Redoes ∷ []) ≡ now =
      batch-step text past Redoes ∙ ap (λ l. parts.gone_forth l batches) (sym it.future ∙ first-is old.future taken there) in
      record {
        past = past-is ∙ (ap (λ b. b ∷ old.past) (is ∙ ap (λ t. inverse t taken) (sym it.present))
            ∙ (ap (λ l. inverse batches.present taken ∷ l) it.past ∙ ap (λ b. b.past) (sym batch-is)));
        future = future-is ∙ ap (λ b. b.future) (sym batch-is);
        present = ap (λ b. b.present) batch-is
            ∙ (ap (λ t. text_after t taken) it.present ∙ (leads.gives ∙ ap (λ t. t.present) (sym text-is)));
        leads = subst (IsLineOf new) (sym text-is) along;
      }

-- ---- a batch of the undo line

-- a line takes a batch, after which the undo line is so
pub record IsTaking (line : SplitLine) (splices : List Splice) (text : List ℕ) (past : List Step) (undo : UndoParts) : Type 0 where
  pub gives : text_after (text_line text past).present splices ≡ (meets.stepped (text_line text past) (step_for nothing line)).present
  pub silent : (number : ℕ) → answered text (record { number = number; line = line; before = nothing; past = past } ∷ []) ≡ []
  pub unrefused : (number : ℕ) → refuses text (record { number = number; line = line; before = nothing; past = past }) ≡ false
  pub undone : IsUndoAfter text (past ++ step_for nothing line ∷ []) undo

module _ (number : ℕ) (line : SplitLine) (shared : IsShared line) (hs new : List History) (undo undo' : UndoParts) (sink : SinkState) (splices : List Splice)
    (some : 1 ≤ length hs)
    (does : (text : List ℕ) (done : List (ℕ × SplitLine)) → IsUndoAfter text (steps_of hs done) undo
    → batch_of (batch_line text (steps_of hs done)) (step_for nothing line) ≡ Some splices) where
  first : (course : SplitCourse) (done : List (ℕ × SplitLine)) (refused : Bool) → IsReady course done refused (at hs undo sink) → 0 < course.views
  first course done refused ready = let same : length hs ≡ course.views = ready.going.views.count in omega (arith, same, some)

  seen : (course : SplitCourse) (lines : List (ℕ × SplitLine)) → IsCut (on course lines) (at hs undo sink) stops.JournalFull
      → IsCut (on course lines) (at hs undo' sink) stops.JournalFull
  seen course lines cut = record { stopped = cut.stopped; why = cut.why }

  -- it isn't done
  pub restore-cut : (r : Result Bool Stop) (stop : Stop) → IsErrAnd r (λ e. e ≡ stop) → IsUnrestored number splices hs new stop
      → HandlesReady number line (at hs undo sink) (at new undo' sink) r
  restore-cut r stops.Write e why course done refused next ready = absurd why
  restore-cut r stops.JournalFull e why course done refused next ready =
      let view = why.1.0 in
      let past = steps_of hs done in
      let it : event_limit < length (history_of hs view).events + (EVENTS_AHEAD + length splices) = why.1.2 in
      let asked : asked_for course.text (met_at hs past (number, line)) line ≡ length splices =
      ap (λ m. asked_for course.text m line) (shared.met_is hs past number)
      ∙ (shared.asks course.text (record { number = number; line = line; before = nothing; past = past })
      ∙ ap entries_of (does course.text done ready.going.undo)) in
      handled-err course (done ++ (number, line) ∷ []) refused (at new undo' sink) r stops.JournalFull e
      (λ later. subst (λ k. IsCut (on course ((done ++ (number, line) ∷ []) ++ later)) (at k undo' sink) stops.JournalFull) (sym why.0)
      (seen course ((done ++ (number, line) ∷ []) ++ later)
      (cut-next course done later (number, line) (at hs undo sink) stops.JournalFull
      (going-full course done ((number, line) ∷ later) refused (at hs undo sink) ready.going view (subst (λ n. view < n) ready.going.views.count why.1.1)
      (subst (λ n. event_limit < length (history_of hs view).events + EVENTS_AHEAD + n) (sym (first-asked course.text hs done later (number, line) ∙ asked))
      (omega (arith, it)))))))
  restore-cut r stops.Memory e (inl same) course done refused next ready =
      line-short number line hs new undo undo' sink r e same course done refused next ready
  restore-cut r stops.Memory e (inr begun) course done refused next ready =
      let m : Met = record { number = number; line = line; before = nothing; past = steps_of hs done } in
      handled-err course (done ++ (number, line) ∷ []) refused (at new undo' sink) r stops.Memory e
      (λ later. entry-short course done refused hs undo sink number line m splices ready.going next ready.settled
      (shared-entries course done refused hs undo sink number 0 splices ready.going (first course done refused ready) begun.accepted line shared.entry
      (does course.text done ready.going.undo))
      later undo' new begun.more begun.moved begun.each (shared.met_is new (steps_of hs done) number))

  -- it is done
  pub restore-handled : IsAcceptedIn 0 splices hs → new ≡ done_in_all number splices hs
      → ((text : List ℕ) (done : List (ℕ × SplitLine)) → (text_line text (steps_of hs done)).present ≡ (present_of (history_of hs 0)).text
      → IsUndoAfter text (steps_of hs done) undo → IsTaking line splices text (steps_of hs done) undo')
      → HandlesReady number line (at hs undo sink) (at new undo' sink) (Ok false)
  restore-handled accepted all takes course done refused next ready =
      let lt = first course done refused ready in
      let it = takes course.text done (sym (ready.going.present 0 lt)) ready.going.undo in
      subst (λ k. IsGoing course (done ++ (number, line) ∷ []) (refused || false) (at k undo' sink)) (sym all)
      (subst (λ b. IsGoing course (done ++ (number, line) ∷ []) (refused || b) (at (done_in_all number splices hs) undo' sink)) (it.unrefused number)
      (going-shared course done refused hs (done_in_all number splices hs) undo undo' sink sink number line splices ready.going next shared ready.settled
      (does course.text done ready.going.undo) (tested-utf8 splices accepted.utf8)
      (fits course done refused hs undo sink number 0 splices ready.going lt accepted)
      (moved-all hs (Line number ∷ runs.changed (batch splices))) it.gives it.undone
      (takes-same sink sink [] _ (sym (it.silent number)) (takes-none sink))))

-- ---- what an undo takes, and a redo

some-length : {X : Type 0} (l : List X) → 0 < length l → nat_lt 0 (length l) ≡ true
some-length l lt = lt-ltb 0 (length l) lt

pub undo-takes : (text : List ℕ) (past : List Step) (old new : UndoParts) (taken back : List Splice) → IsUndoAfter text past old
    → slice_get old.past 0 ≡ Some taken → 0 < length (text_line text past).past → back ≡ inverse (text_line text past).present taken
    → Leads (text_line text past).present taken (texts.undone (text_line text past)).present
    → new.past ≡ drop 1 old.past → new.future ≡ back ∷ old.future → IsLineOf new (texts.undone (text_line text past)) → IsTaking Undo taken text past new
undo-takes text past old new taken back it there some is leads past-is future-is along = record {
  gives = leads.gives;
  silent = λ number. ap (λ b. printed (nothing_there b ++ [])) (some-length (text_line text past).past some);
  unrefused = λ number. ap not (some-length (text_line text past).past some);
  undone = undo-undone text past old new it taken back there is leads past-is future-is along;
}

pub redo-takes : (text : List ℕ) (past : List Step) (old new : UndoParts) (taken back : List Splice) → IsUndoAfter text past old
    → slice_get old.future 0 ≡ Some taken → 0 < length (text_line text past).future → back ≡ inverse (text_line text past).present taken
    → Leads (text_line text past).present taken (texts.redone (text_line text past)).present
    → new.past ≡ back ∷ old.past → new.future ≡ drop 1 old.future → IsLineOf new (texts.redone (text_line text past)) → IsTaking Redo taken text past new
redo-takes text past old new taken back it there some is leads past-is future-is along = record {
  gives = leads.gives;
  silent = λ number. ap (λ b. printed (nothing_there b ++ [])) (some-length (text_line text past).future some);
  unrefused = λ number. ap not (some-length (text_line text past).future some);
  undone = undo-redone text past old new it taken back there is leads past-is future-is along;
}

pub undo-after : (hs : List History) (taken back : List Splice) (old ready new : UndoParts) → IsSameLine old ready → slice_get ready.past 0 ≡ Some taken
    → ((line : TextLine) → IsLineOf ready line → Leads line.present taken (texts.undone line).present)
    → ((line : TextLine) → IsLineOf ready line → 0 < length line.past)
    → back ≡ inverse (present_of (history_of hs 0)).text taken
    → Leads (text_after (present_of (history_of hs 0)).text taken) back (present_of (history_of hs 0)).text
    → new.past ≡ drop 1 ready.past → new.future ≡ back ∷ ready.future
    → ((line : TextLine) → IsLineOf ready line → Leads (texts.undone line).present back line.present → IsLineOf new (texts.undone line))
    → (text : List ℕ) (done : List (ℕ × SplitLine)) → (text_line text (steps_of hs done)).present ≡ (present_of (history_of hs 0)).text
    → IsUndoAfter text (steps_of hs done) old → IsTaking Undo taken text (steps_of hs done) new
undo-after hs taken back old ready new same there leads some back-is back-leads past-is future-is along text done present it =
    let past = steps_of hs done in
    let line = text_line text past in
    let now = undo-same text past old ready same it in
    let led = leads line now.leads in
    let P : List ℕ → Type 0 = λ t. Leads (text_after t taken) back t in
    let Q : List ℕ → Type 0 = λ t. Leads t back line.present in
    undo-takes text past ready new taken back now there (some line now.leads) (back-is ∙ ap (λ t. inverse t taken) (sym present)) led past-is future-is
    (along line now.leads (subst Q led.gives (subst P (sym present) back-leads)))

pub redo-after : (hs : List History) (taken back : List Splice) (old ready new : UndoParts) → IsSameLine old ready → slice_get ready.future 0 ≡ Some taken
    → ((line : TextLine) → IsLineOf ready line → Leads line.present taken (texts.redone line).present)
    → ((line : TextLine) → IsLineOf ready line → 0 < length line.future)
    → back ≡ inverse (present_of (history_of hs 0)).text taken
    → Leads (text_after (present_of (history_of hs 0)).text taken) back (present_of (history_of hs 0)).text
    → new.past ≡ back ∷ ready.past → new.future ≡ drop 1 ready.future
    → ((line : TextLine) → IsLineOf ready line → Leads (texts.redone line).present back line.present → IsLineOf new (texts.redone line))
    → (text : List ℕ) (done : List (ℕ × SplitLine)) → (text_line text (steps_of hs done)).present ≡ (present_of (history_of hs 0)).text
    → IsUndoAfter text (steps_of hs done) old → IsTaking Redo taken text (steps_of hs done) new
redo-after hs taken back old ready new same there leads some back-is back-leads past-is future-is along text done present it =
    let past = steps_of hs done in
    let line = text_line text past in
    let now = undo-same text past old ready same it in
    let led = leads line now.leads in
    let P : List ℕ → Type 0 = λ t. Leads (text_after t taken) back t in
    let Q : List ℕ → Type 0 = λ t. Leads t back line.present in
    redo-takes text past ready new taken back now there (some line now.leads) (back-is ∙ ap (λ t. inverse t taken) (sym present)) led past-is future-is
    (along line now.leads (subst Q led.gives (subst P (sym present) back-leads)))

-- ---- what the calls say

pub none-there : {X : Type 0} {Y : Type 0} (l : List X) (o : Option Y) → (IsSome o ↔ (0 < length l)) → o ≡ None → l ≡ []
none-there [] o iff none = refl
none-there (x ∷ l) o iff none = absurd (true≢false (sym (iff.1 (omega arith)) ∙ ap is_some none))

pub unreached-as : (number : ℕ) (change : Change) (splices : List Splice) (old new : List History) (fault : Fault)
    → IsUnreached 0 number change splices old new fault → IsUnrestored number splices old new stops.Memory
unreached-as number change splices old new (faults.Refused refusal) it = inl it.1
unreached-as number change splices old new faults.NoMemory it = it

pub unrestored-full : (number : ℕ) (splices : List Splice) (hs : List History) (count : ℕ) (stop : Stop) → count ≡ length splices
    → IsTooFull (EVENTS_AHEAD + count) hs stop → IsUnrestored number splices hs hs stop
unrestored-full number splices hs count stop len full =
    let P : Stop → Type 0 = λ x. IsUnrestored number splices hs hs x in
    subst P (sym full.0) (refl, subst (λ n. IsOneFull (EVENTS_AHEAD + n) hs) len full.1)
