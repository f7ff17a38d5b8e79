-- Each operation of a legal history is allowed where it is done.
use Rattle.std.proofs.Common.{◌≡◌, ℕ, zero, suc, List, [], ◌∷◌, ◌++◌, length, map, take, Option, Some, None, option_map, refl, sym, ap, ◌∙◌, subst, arith}
use Rattle.std.specs.Prelude.{slice_get}
use Rattle.std.proofs.lemmas.List.{map-append, take_all}
use Rattle.std.proofs.lemmas.Option.{same_Some}
use mathlib.Core.List.{IsPrefix}
use Rattle.cell_units.specs.Operation.{Operation}
use Rattle.cell_units.specs.Record.{Record}
use Rattle.cell_units.specs.Text.{IsText}
use Rattle.display_map.specs.Events.{Event, Did, Landed, Line, Published, Sent}
use Rattle.display_map.specs.LawfulStates.{EventFits, EventsFit}
use Rattle.display_map.specs.Replay.{State, begun, replayed, state_of}
use Rattle.display_map.proofs.Allowed.{change-fits}
use Rattle.display_map.proofs.FittingBatches.{EventsFit-append}
use Rattle.display_map.proofs.LawfulReplays.{lawful-replayed}
use Rattle.display_map.proofs.Outstanding.{fits-behind, fits-front}
use Rattle.display_map.proofs.Replays.{replayed-append, replayed-cons}
use Rattle.edit_script.specs.Commands.{Apply, Ask, AskCaret, Command, Settle}
use Rattle.edit_script.specs.Verdict.{Accepted, ops_of}
use Rattle.script_runner.specs.Entries.{Entry, judged}
use Rattle.script_runner.specs.Legal.{AtEach, DoesChanges, IsChanging, history_of, next_entry}
use Rattle.display_cli.specs.RunLaws.{LeadsToLawful}
use Rattle.display_cli.proofs.ReadCommands.{IsAcceptedOn, accepted-on}

-- ---- the prefixes of a history

pub take-snoc : {X : Type 0} (xs : List X) (n : ℕ) (x : X) → slice_get xs n ≡ Some x → take (suc n) xs ≡ take n xs ++ x ∷ []
take-snoc [] n x e = absurd (cc)
take-snoc (y ∷ ys) zero x e = ap (λ z. z ∷ []) (same_Some y x e)
take-snoc (y ∷ ys) (suc n) x e = ap (λ l. y ∷ l) (take-snoc ys n x e)

take-past : {X : Type 0} (xs : List X) (n : ℕ) → slice_get xs n ≡ None → take (suc n) xs ≡ take n xs
take-past [] zero e = refl
take-past [] (suc n) e = refl
take-past (y ∷ ys) zero e = absurd (cc)
take-past (y ∷ ys) (suc n) e = ap (λ l. y ∷ l) (take-past ys n e)

-- what holds of no events, and of one event more at each place of a history, holds of each prefix
pub each_prefix : (P : List Event → Type 0) (h : List Event) → P [] → ((k : ℕ) (e : Event) → slice_get h k ≡ Some e → P (take k h) → P (take k h ++ e ∷ []))
    → (n : ℕ) → P (take n h)
each_prefix P h none one zero = none
each_prefix P h none one (suc n) = go (slice_get h n) refl (each_prefix P h none one n) where
  go : (o : Option Event) → slice_get h n ≡ o → P (take n h) → P (take (suc n) h)
  go None e before = subst P (sym (take-past h n e)) before
  go (Some x) e before = subst P (sym (take-snoc h n x e)) (one n x e before)

-- ... so of the whole
pub whole : (P : List Event → Type 0) (h : List Event) → P [] → ((k : ℕ) (e : Event) → slice_get h k ≡ Some e → P (take k h) → P (take k h ++ e ∷ [])) → P h
whole P h none one = subst P (take_all (length h) h (omega arith)) (each_prefix P h none one (length h))

-- ---- what a line does to a state

pub same_state : (text : List ℕ) (past : List Event) (number : ℕ) (done : List Operation) →
    state_of (history_of text (past ++ (Line number ∷ map (λ op. Did op) done))) ≡ replayed (state_of (history_of text past)) (map (λ op. Did op) done)
same_state text past number done =
    replayed-append (begun text) past (Line number ∷ map (λ op. Did op) done) ∙ replayed-cons (state_of (history_of text past)) (Line number) (map (λ op. Did op) done)

-- ---- operations

-- those of an accepted command fit the state that it was accepted on
command-fits : (s : State) (command : Command) → IsText s.present.text → IsAcceptedOn s.present command → EventsFit s (map Did (ops_of command))
command-fits s (Apply change) is on = change-fits s change is on.inserts on.unrefused
command-fits s (Ask query) is on = tt
command-fits s (AskCaret query) is on = tt
command-fits s Settle is on = tt

entry-accepted : (r : Record) (next : Option (ℕ × Entry)) (command : Command) → option_map (λ l. judged r l.1) next ≡ Some (Accepted command) → IsAcceptedOn r command
entry-accepted r None command e = absurd (cc)
entry-accepted r (Some l) command e = accepted-on r l.1 command (same_Some (judged r l.1) (Accepted command) e)

module _ (text : List ℕ) (entries : List (ℕ × Entry)) (is : IsText text) where
  -- an operation that is the next one of a change
  next-fits : (past : List Event) (done rest : List Operation) (op : Operation) → EventsFit (begun text) past → IsChanging text entries past done (op ∷ rest)
      → EventFits (state_of (history_of text past)) (Did op)
  next-fits past done rest op fits changing =
      let before = changing.past in
      let events = map (λ (op : Operation). Did op) done in
      let s = state_of (history_of text before) in
      let all = subst (EventsFit (begun text)) changing.ends fits in
      let lawful = lawful-replayed text before is (fits-front (begun text) before (Line changing.number ∷ events) all) in
      let accepted = entry-accepted s.present (next_entry entries before) changing.command changing.accepted in
      let ops = subst (λ (l : List Operation). EventsFit s (map Did l)) changing.operations (command-fits s changing.command lawful.entries.source.text accepted) in
      let parted = subst (EventsFit s) (map-append Did done (op ∷ rest)) ops in
      let here = fits-behind s events (Did op ∷ map Did rest) parted in
      subst (λ (l : List Event). EventFits (state_of (history_of text l)) (Did op)) (sym changing.ends)
      (subst (λ (t : State). EventFits t (Did op)) (sym (same_state text before changing.number done)) here.0)

  event-fits : (past : List Event) (e : Event) → EventsFit (begun text) past → DoesChanges text entries past e → EventFits (state_of (history_of text past)) e
  event-fits past (Line number) fits changes = tt
  event-fits past (Did op) fits changes = let it = changes.only op refl in next-fits past it.0 it.1 op fits it.2
  event-fits past (Sent job first count) fits changes = tt
  event-fits past (Landed job) fits changes = tt
  event-fits past (Published last) fits changes = tt

  pub history-fits : (history : List Event) → AtEach (DoesChanges text entries) history → EventsFit (begun text) history
  history-fits history changes =
      whole (EventsFit (begun text)) history tt
      (λ k e at fits. EventsFit-append (begun text) (take k history) (e ∷ []) fits (event-fits (take k history) e fits (changes k e at), tt))

-- a prefix of a history that fits
pub fits-prefix : (text : List ℕ) (past history : List Event) → IsPrefix past history → EventsFit (begun text) history → EventsFit (begun text) past
fits-prefix text past history front fits = fits-front (begun text) past front.0 (subst (EventsFit (begun text)) (sym front.1) fits)

pub leads-to_lawful : (text : List ℕ) (entries : List (ℕ × Entry)) (history : List Event) → IsText text → AtEach (DoesChanges text entries) history → LeadsToLawful text history
leads-to_lawful text entries history is changes =
    let all = history-fits text entries is history changes in
    record {
      fits = all;
      lawful = λ past front. lawful-replayed text past is (fits-prefix text past history front all);
    }
