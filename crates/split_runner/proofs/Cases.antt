-- What each kind of line makes of a run that goes on.
use Rattle.std.proofs.Common.{◌≡◌, ℕ, suc, ◌<◌, ◌≤◌, Bool, true, false, List, [], ◌∷◌, ◌++◌, length, Option, None, refl, sym, ap, ◌∙◌, subst, arith}
use Rattle.std.specs.Prelude.{◌||◌, nat_lt}
use Rattle.std.specs.List.{cons_option}
use Rattle.std.proofs.lemmas.Bool.{ltb-false, ltb-true}
use Rattle.std.proofs.lemmas.List.{append-nil, get_or_past}
use Rattle.std.proofs.lemmas.List.Sums.{fold-append}
use Rattle.display_map.specs.Events.{Event}
use Rattle.display_map.specs.Replay.{History, appended, present_of}
use Rattle.script_runner.specs.Entries.{Entry}
use Rattle.script_runner.specs.Outside.{SinkState, Takes}
use Rattle.split_views.specs.Views.{history_of}
use Rattle.undo_line.specs.TextLines.{IsLineOf}
use Rattle.undo_line.specs.UndoParts.{UndoParts}
use Rattle.split_script.specs.Lines.{SplitLine}
use Rattle.split_script.specs.Met.{Met, OwnIsThere, Stays, Step, before_line, before_own, met, met_at, nothing, step_of, steps_of, steps_through, text_line}
use Rattle.split_script.specs.Met as meets
use Rattle.split_script.specs.Output.{answered, refuses}
use Rattle.split_script.specs.Parts.{BatchLine, batch_line, entry_of, part_of}
use Rattle.split_script.specs.Parts as parts
use Rattle.split_script.specs.Theorems.{SplitCourse}
use Rattle.split_script.proofs.Mets.{Grow}
use Rattle.split_script.proofs.Before.{StartWith, before-stays, below-later}
use Rattle.split_runner.specs.Going.{AreMoved, IsGoing, IsUnderWay, at}
use Rattle.split_runner.proofs.Goings.{TextsStay, going-more}

unopened : History
unopened = record { opening = []; events = [] }

pub grow-moved : (old new : List History) (more : ℕ → List Event) → AreMoved old new more → Grow old new
grow-moved old new more moved view = by (nat_lt view (length old)) refl
  where
    by : (b : Bool) → nat_lt view (length old) ≡ b → (es : List Event) × (history_of new view ≡ appended (history_of old view) es)
    by true is = (more view, moved.each view (ltb-true view (length old) is))
    by false is =
        let past : length old ≤ view = ltb-false view (length old) is in
        let none : history_of old view ≡ record { opening = []; events = [] } = get_or_past old view (record { opening = []; events = [] }) past in
        let gone : history_of new view ≡ record { opening = []; events = [] } =
        get_or_past new view (record { opening = []; events = [] }) (omega (arith, moved.count, past)) in
        ([], gone ∙ (sym none ∙ ap (λ l. record { opening = (history_of old view).opening; events = l }) (sym (append-nil (history_of old view).events))))

pub moved-none : (hs : List History) → AreMoved hs hs (λ view. [])
moved-none hs = record {
  count = refl;
  each = λ view lt. ap (λ l. record { opening = (history_of hs view).opening; events = l }) (sym (append-nil (history_of hs view).events));
}

-- where each history went on by nothing, or from the line that comes next, the texts before that line stay
pub texts-stay : (number : ℕ) (old new : List History) (more : ℕ → List Event) → AreMoved old new more
    → ((view : ℕ) → view < length old → StartWith number (more view)) → TextsStay number old new
texts-stay number old new more moved starts k view le = by (nat_lt view (length old)) refl
  where
    text : List History → List ℕ
    text hs = (present_of (before_line k (history_of hs view))).text

    by : (b : Bool) → nat_lt view (length old) ≡ b
        → (present_of (before_line k (history_of new view))).text ≡ (present_of (before_line k (history_of old view))).text
    by true is =
        let lt = ltb-true view (length old) is in
        ap (λ (h : History). (present_of (before_line k h)).text) (moved.each view lt)
        ∙ ap (λ (h : History). (present_of h).text) (before-stays k number (history_of old view) (more view) le (starts view lt))
    by false is =
        let past : length old ≤ view = ltb-false view (length old) is in
        ap (λ (h : History). (present_of (before_line k h)).text)
        (get_or_past new view (record { opening = []; events = [] }) (omega (arith, moved.count, past))
        ∙ sym (get_or_past old view (record { opening = []; events = [] }) past))

-- ---- lines of texts and of batches after one step more

pub text-step : (text : List ℕ) (past : List Step) (step : Step) → text_line text (past ++ step ∷ []) ≡ meets.stepped (text_line text past) step
text-step text past step = fold-append meets.stepped _ past (step ∷ [])

pub batch-step : (text : List ℕ) (past : List Step) (step : Step) → batch_line text (past ++ step ∷ []) ≡ parts.stepped (batch_line text past) step
batch-step text past step = fold-append parts.stepped _ past (step ∷ [])

-- ---- a line that is nothing to any view

module _ (course : SplitCourse) (done : List (ℕ × SplitLine)) (refused : Bool) (hs : List History) (undo : UndoParts) (sink sink' : SinkState)
    (l : ℕ × SplitLine) (going : IsGoing course done refused (at hs undo sink)) (next : l.0 ≡ suc (length done))
    (there : OwnIsThere hs l.0 l.1) where
  abbrev m : Met
  m = met_at hs (steps_of hs done) l

  -- it has no entry, and leads nowhere
  pub going-still : ((view : ℕ) → entry_of course.text view m ≡ None)
      → text_line course.text (steps_through m) ≡ text_line course.text (steps_of hs done)
      → batch_line course.text (steps_through m) ≡ batch_line course.text (steps_of hs done)
      → Takes (answered course.text (m ∷ [])) sink sink'
      → IsGoing course (done ++ l ∷ []) (refused || refuses course.text m) (at hs undo sink')
  going-still none same-text same-batch written =
      going-more course done refused hs hs undo undo sink sink' l m going (grow-moved hs hs (λ view. []) (moved-none hs)) next there refl
      going.views
      (λ view lt. subst (λ part. IsUnderWay part (history_of hs view))
      (sym (append-nil (part_of course.text view (met hs done)))
      ∙ ap (λ more. part_of course.text view (met hs done) ++ more) (sym (no-entry (entry_of course.text view m) (none view))))
      (going.under_way view lt))
      (λ view lt. below-later (suc (length done)) (history_of hs view).events (going.below view lt))
      (texts-stay (suc (length done)) hs hs (λ view. []) (moved-none hs) (λ view lt. tt))
      (λ view lt. going.present view lt ∙ ap (λ t. t.present) (sym same-text))
      (record {
        past = going.undo.past ∙ ap (λ b. b.past) (sym same-batch);
        future = going.undo.future ∙ ap (λ b. b.future) (sym same-batch);
        present = ap (λ b. b.present) same-batch ∙ (going.undo.present ∙ ap (λ t. t.present) (sym same-text));
        leads = subst (λ t. IsLineOf undo t) (sym same-text) going.undo.leads;
      })
      written
    where
      no-entry : (o : Option (ℕ × Entry)) → o ≡ None → cons_option o [] ≡ []
      no-entry o e = ap (λ x. cons_option x []) e
