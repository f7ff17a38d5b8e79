-- The text of a history depends on its text before, and on what was done since.
use Rattle.std.proofs.Common.{◌≡◌, ℕ, true≢false, not, nat_lt, true, false, List, [], ◌∷◌, length, map, Option, refl, sym, ap, ◌∙◌}
use Rattle.std.specs.Prelude.{fold}
use Rattle.cell_units.specs.declared.limits.TheConstants.{TEXT_LIMIT}
use Rattle.cell_units.specs.declared.fault.Refusal.{Refusal}
use Rattle.cell_units.specs.declared.fault.Refusal.TheVariants.{BadRange, TooLong}
use Rattle.cell_units.specs.Operation.{Operation, AddBlock, AddFold, AddInlay, RemoveBlock, RemoveFold, RemoveInlay, Replace, SetTab, SetWidth, operated, replaced_text}
use Rattle.cell_units.specs.Record.{Record}
use Rattle.cell_units.specs.Text.{clean}
use Rattle.display_sheet.specs.declared.change.Splice.{Splice}
use Rattle.display_sheet.specs.Changes.{ChangeParts, Edit, One, are_ranges, batch, edit_refusal, first_of, operated_all, operations_in, refusal_of, splice_of}
use Rattle.display_sheet.specs.LineStep.{line_step}
use Rattle.display_map.specs.Events.{Event, Did, Landed, Line, Published, Sent}
use Rattle.display_map.specs.Replay.{History, State, appended, happens, job_numbered, present_of, replayed, state_of}
use Rattle.display_map.proofs.Jobs.{landed_on-is}
use Rattle.display_map.proofs.Replays.{replayed-cons, replayed-none, state_of-appended}
use Rattle.split_views.specs.Views.{is_edit}

-- ---- operations

abbrev text_by : List ℕ → Operation → List ℕ
text_by text (Replace a b s) = replaced_text text a b (clean s)
text_by text _ = text

text-operated : (r : Record) (op : Operation) → (operated op r).text ≡ text_by r.text op
text-operated r (Replace a b s) = refl
text-operated r (AddInlay inlay) = refl
text-operated r (RemoveInlay id) = refl
text-operated r (AddFold fold) = refl
text-operated r (RemoveFold id) = refl
text-operated r (AddBlock row id side lines) = refl
text-operated r (RemoveBlock id) = refl
text-operated r (SetTab tab) = refl
text-operated r (SetWidth width) = refl

text-stepped : (r : Record) (op : Operation) → (line_step op r).text ≡ text_by r.text op
unfolding line_step
text-stepped r op = text-operated r op

text-operated_all : (r : Record) (ops : List Operation) → (operated_all ops r).text ≡ fold text_by r.text ops
text-operated_all r [] = refl
text-operated_all r (op ∷ ops) =
    text-operated_all (operated op r) ops ∙ ap (λ (text : List ℕ). fold text_by text ops) (text-operated r op)

-- ---- events

abbrev pub text_on : List ℕ → Event → List ℕ
text_on text (Did op) = text_by text op
text_on text _ = text

text-happens : (s : State) (e : Event) → (happens s e).present.text ≡ text_on s.present.text e
text-happens s (Line number) = refl
text-happens s (Did op) = text-stepped s.present op
text-happens s (Sent job first count) = refl
text-happens s (Landed job) = ap (λ (r : Record). r.text) (landed_on-is s.present (job_numbered job s.jobs))
text-happens s (Published last) = refl

text-replayed : (s : State) (es : List Event) → (replayed s es).present.text ≡ fold text_on s.present.text es
text-replayed s [] = ap (λ (s : State). s.present.text) (replayed-none s)
text-replayed s (e ∷ es) =
    ap (λ (s : State). s.present.text) (replayed-cons s e es)
    ∙ text-replayed (happens s e) es
    ∙ ap (λ (text : List ℕ). fold text_on text es) (text-happens s e)

pub text-appended : (h : History) (es : List Event) → (present_of (appended h es)).text ≡ fold text_on (present_of h).text es
text-appended h es = ap (λ (s : State). s.present.text) (state_of-appended h es) ∙ text-replayed (state_of h) es

-- ---- a change that isn't an edit leaves the text

pub text-kept : (text : List ℕ) (number : ℕ) (p : ChangeParts) → is_edit p ≡ false → fold text_on text (Line number ∷ map Did (operations_in p)) ≡ text
text-kept text number (Edit splices) other = absurd (true≢false other)
text-kept text number (One (Replace a b s)) other = absurd (true≢false other)
text-kept text number (One (AddInlay inlay)) other = refl
text-kept text number (One (RemoveInlay id)) other = refl
text-kept text number (One (AddFold fold)) other = refl
text-kept text number (One (RemoveFold id)) other = refl
text-kept text number (One (AddBlock row id side lines)) other = refl
text-kept text number (One (RemoveBlock id)) other = refl
text-kept text number (One (SetTab tab)) other = refl
text-kept text number (One (SetWidth width)) other = refl

-- ---- an edit is judged by the text alone

refusal_by : List Splice → List ℕ → Option Refusal
refusal_by splices text =
    first_of ((not (are_ranges text 0 splices), BadRange) ∷ ((nat_lt TEXT_LIMIT (length (fold text_by text (batch splices))), TooLong) ∷ []))

judged_by : (r : Record) (splices : List Splice) → edit_refusal r splices ≡ refusal_by splices r.text
unfolding refusal_by
judged_by r splices =
    ap (λ (text : List ℕ). first_of ((not (are_ranges r.text 0 splices), BadRange) ∷ ((nat_lt TEXT_LIMIT (length text), TooLong) ∷ [])))
    (text-operated_all r (batch splices))

edits-alike : (r r' : Record) (splices : List Splice) → r.text ≡ r'.text → edit_refusal r splices ≡ edit_refusal r' splices
edits-alike r r' splices same = judged_by r splices ∙ ap (refusal_by splices) same ∙ sym (judged_by r' splices)

pub judged-alike : (r r' : Record) (p : ChangeParts) → is_edit p ≡ true → r.text ≡ r'.text → refusal_of r p ≡ refusal_of r' p
judged-alike r r' (Edit splices) edit same = edits-alike r r' splices same
judged-alike r r' (One (Replace a b s)) edit same = edits-alike r r' (splice_of a b s ∷ []) same
judged-alike r r' (One (AddInlay inlay)) edit same = absurd (true≢false (sym edit))
judged-alike r r' (One (RemoveInlay id)) edit same = absurd (true≢false (sym edit))
judged-alike r r' (One (AddFold fold)) edit same = absurd (true≢false (sym edit))
judged-alike r r' (One (RemoveFold id)) edit same = absurd (true≢false (sym edit))
judged-alike r r' (One (AddBlock row id side lines)) edit same = absurd (true≢false (sym edit))
judged-alike r r' (One (RemoveBlock id)) edit same = absurd (true≢false (sym edit))
judged-alike r r' (One (SetTab tab)) edit same = absurd (true≢false (sym edit))
judged-alike r r' (One (SetWidth width)) edit same = absurd (true≢false (sym edit))
