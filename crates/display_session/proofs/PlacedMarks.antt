-- Marks stay at boundaries.
use Rattle.std.proofs.Common.{◌≡◌, ℕ, ◌≤◌, arith, Bool, true, List, [], ◌∷◌, ◌++◌, length, map, refl, sym, ap, ◌∙◌, subst}
use Rattle.std.specs.Prelude.{◌&&◌, Result, Ok, Err, OnErr, OnOk}
use Rattle.std.specs.List.{All, filter}
use Rattle.std.proofs.lemmas.Bool.{and_parts}
use Rattle.cell_units.specs.declared.limits.TheConstants.{TEXT_LIMIT}
use Rattle.cell_units.specs.Lawful.{IsAllowed}
use Rattle.cell_units.specs.Operation.{Operation, Replace, AddInlay, RemoveInlay, AddFold, RemoveFold, AddBlock, RemoveBlock, SetTab, SetWidth, operated}
use Rattle.cell_units.specs.Record.{Record}
use Rattle.cell_units.specs.Sorting.{insert_by}
use Rattle.cell_units.specs.Text.{IsBoundary, IsText, clean, is_boundary}
use Rattle.cell_units.proofs.Characters.{clean-utf8}
use Rattle.cell_units.proofs.CutLists.{Every, Every-mono}
use Rattle.cell_units.proofs.FoundEntries.{All-from_Every}
use Rattle.cell_units.proofs.MovedBoundaries.{boundary-moved, replaced-is_text}
use Rattle.cell_units.proofs.SortedLists.{Every-filter, Every-insert, Every-map, Every-sort}
use Rattle.cell_units.proofs.TextLaws.{tells_boundaries}
use Rattle.mark_tree.specs.Marks.{mark_le}
use Rattle.display_sheet.specs.LineStep.{line_step}
use Rattle.display_map.specs.Events.{Event, Did}
use Rattle.display_map.specs.LawfulStates.{EventsFit, IsLawfulHistory}
use Rattle.display_map.specs.Replay.{History, State, appended, begun, happens, present_of, replayed, state_of}
use Rattle.display_map.proofs.Batches.{is_boundary-le}
use Rattle.display_map.proofs.Replays.{replayed-cons, replayed-none, state_of-appended}
use Rattle.display_session.specs.HostMarks.{HostMark, are_placed, marks_after, marks_moved, moved_mark}
use Rattle.display_session.specs.Lines.{IsSettled}
use Rattle.display_session.specs.Wrapping.{IsWrapped}
use Rattle.display_session.proofs.Wrapping.{wrapped-text}

-- ---- a test of all, mark by mark

abbrev AreAt : List ℕ → List HostMark → Type 0
AreAt text marks = Every (λ m. is_boundary text m.offset ≡ true) marks

each-placed : (text : List ℕ) (marks : List HostMark) → are_placed text marks ≡ true → AreAt text marks
each-placed text [] e = tt
each-placed text (m ∷ marks) e =
    let both = and_parts (is_boundary text m.offset) (are_placed text marks) e in
    (both.0, each-placed text marks both.1)

all-placed : (text : List ℕ) (marks : List HostMark) → AreAt text marks → are_placed text marks ≡ true
all-placed text [] h = refl
all-placed text (m ∷ marks) h = ap (λ b. b && are_placed text marks) h.0 ∙ all-placed text marks h.1

pub placed-added : (text : List ℕ) (m : HostMark) (marks : List HostMark) → is_boundary text m.offset ≡ true → are_placed text marks ≡ true →
    are_placed text (insert_by mark_le m marks) ≡ true
placed-added text m marks at e =
    all-placed text (insert_by mark_le m marks) (Every-insert mark_le (λ (m : HostMark). is_boundary text m.offset ≡ true) m marks at (each-placed text marks e))

pub placed-kept : (text : List ℕ) (p : HostMark → Bool) (marks : List HostMark) → are_placed text marks ≡ true → are_placed text (filter p marks) ≡ true
placed-kept text p marks e =
    all-placed text (filter p marks) (Every-filter mark_le (λ (m : HostMark). is_boundary text m.offset ≡ true) p marks (each-placed text marks e))

-- marks that changed or, where the call failed, didn't
pub placed-either : {A E : Type 0} (text : List ℕ) (old changed new : List HostMark) (r : Result A E) → OnOk r (new ≡ changed) → OnErr r (new ≡ old) →
    are_placed text old ≡ true → are_placed text changed ≡ true → are_placed text new ≡ true
placed-either text old changed new (Ok x) ok err before after = ap (are_placed text) ok ∙ after
placed-either text old changed new (Err e) ok err before after = ap (are_placed text) err ∙ before

-- wrapping leaves the text
pub settled-wrapped : {A E : Type 0} (a b : History) (r : Result A E) → OnOk r (IsSettled a b) → OnErr r (IsWrapped a b) → IsWrapped a b
settled-wrapped a b (Ok x) ok err = ok.wrapped
settled-wrapped a b (Err e) ok err = err

pub placed-wrapped : (a b : History) (marks : List HostMark) → IsWrapped a b → are_placed (present_of a).text marks ≡ true → are_placed (present_of b).text marks ≡ true
placed-wrapped a b marks it e = ap (λ (text : List ℕ). are_placed text marks) (wrapped-text a b it) ∙ e

pub placed-small : (h : History) (marks : List HostMark) → IsLawfulHistory h → are_placed (present_of h).text marks ≡ true → All (λ m. m.offset ≤ TEXT_LIMIT) marks
placed-small h marks is e =
    All-from_Every (λ (m : HostMark). m.offset ≤ TEXT_LIMIT) marks
    (Every-mono (λ (m : HostMark). is_boundary (present_of h).text m.offset ≡ true) (λ (m : HostMark). m.offset ≤ TEXT_LIMIT) marks
    (λ m at. omega (arith, is.short, is_boundary-le (present_of h).text m.offset at)) (each-placed (present_of h).text marks e))

-- ---- over operations

abbrev AreAtBoundaries : List ℕ → List HostMark → Type 0
AreAtBoundaries text marks = Every (λ m. IsBoundary text m.offset) marks

over-one : (r : Record) (op : Operation) (marks : List HostMark) → IsText r.text → IsAllowed op r → AreAtBoundaries r.text marks →
    IsText (operated op r).text × AreAtBoundaries (operated op r).text (marks_after marks op)
over-one r (Replace a b s) marks is ok at = (
  replaced-is_text r.text a b s is ok.0 ok.1 ok.2 ok.3,
  Every-sort mark_le (λ (m : HostMark). IsBoundary (operated (Replace a b s) r).text m.offset) (map (moved_mark a b (length (clean s))) marks)
      (Every-map (moved_mark a b (length (clean s))) (λ (m : HostMark). IsBoundary r.text m.offset) (λ (m : HostMark). IsBoundary (operated (Replace a b s) r).text m.offset)
      (λ m h. boundary-moved r.text a b (clean s) is.0 ok.0 ok.1 ok.2 (clean-utf8 s ok.3) m.offset m.bias h) marks at),
)
over-one r (AddInlay inlay) marks is ok at = (is, at)
over-one r (RemoveInlay id) marks is ok at = (is, at)
over-one r (AddFold fold) marks is ok at = (is, at)
over-one r (RemoveFold id) marks is ok at = (is, at)
over-one r (AddBlock row id side lines) marks is ok at = (is, at)
over-one r (RemoveBlock id) marks is ok at = (is, at)
over-one r (SetTab size) marks is ok at = (is, at)
over-one r (SetWidth cells) marks is ok at = (is, at)

text-did : (s : State) (op : Operation) → (happens s (Did op)).present.text ≡ (operated op s.present).text
unfolding line_step
text-did s op = refl

over-all : (s : State) (ops : List Operation) (marks : List HostMark) → IsText s.present.text → EventsFit s (map Did ops) → AreAtBoundaries s.present.text marks →
    AreAtBoundaries (replayed s (map Did ops)).present.text (marks_moved ops marks)
over-all s [] marks is fits at = subst (λ (t : State). AreAtBoundaries t.present.text marks) (sym (replayed-none s)) at
over-all s (op ∷ ops) marks is fits at =
    let next = happens s (Did op) in
    let one = over-one s.present op marks is fits.0 at in
    let same = sym (text-did s op) in
    subst (λ (t : State). AreAtBoundaries t.present.text (marks_moved (op ∷ ops) marks)) (sym (replayed-cons s (Did op) (map Did ops)))
    (over-all next ops (marks_after marks op) (subst IsText same one.0) fits.1 (subst (λ (text : List ℕ). AreAtBoundaries text (marks_after marks op)) same one.1))

fits-behind : (s : State) (xs ys : List Event) → EventsFit s (xs ++ ys) → EventsFit (replayed s xs) ys
fits-behind s [] ys h = subst (λ (t : State). EventsFit t ys) (sym (replayed-none s)) h
fits-behind s (x ∷ xs) ys h = subst (λ (t : State). EventsFit t ys) (sym (replayed-cons s x xs)) (fits-behind (happens s x) xs ys h.1)

-- the operations that a display did were allowed where they were done
pub placed-moved : (a b : History) (ops : List Operation) (marks : List HostMark) → IsLawfulHistory a → IsLawfulHistory b → b ≡ appended a (map Did ops) →
    are_placed (present_of a).text marks ≡ true → are_placed (present_of b).text (marks_moved ops marks) ≡ true
placed-moved a b ops marks before after is e =
    let text = (present_of a).text in
    let utf8 = before.lawful.entries.source.text.0 in
    let fits = fits-behind (begun a.opening) a.events (map Did ops) (subst IsLawfulHistory is after).fits in
    let at = Every-mono (λ (m : HostMark). is_boundary text m.offset ≡ true) (λ (m : HostMark). IsBoundary text m.offset) marks
    (λ m h. (tells_boundaries text utf8 m.offset).0 h) (each-placed text marks e) in
    let done = over-all (state_of a) ops marks before.lawful.entries.source.text fits at in
    let now : (replayed (state_of a) (map Did ops)).present.text ≡ (present_of b).text =
    ap (λ (s : State). s.present.text) (sym (state_of-appended a (map Did ops))) ∙ ap (λ (h : History). (present_of h).text) (sym is) in
    let later = after.lawful.entries.source.text.0 in
    all-placed (present_of b).text (marks_moved ops marks)
    (Every-mono (λ (m : HostMark). IsBoundary (present_of b).text m.offset) (λ (m : HostMark). is_boundary (present_of b).text m.offset ≡ true) (marks_moved ops marks)
    (λ m h. (tells_boundaries (present_of b).text later m.offset).1 h)
    (subst (λ (text : List ℕ). AreAtBoundaries text (marks_moved ops marks)) now done))
