-- A run goes on over one line more.
use Rattle.std.proofs.Common.{◌≡◌, ℕ, suc, ◌+◌, ◌<◌, ◌≤◌, Bool, true, false, List, [], ◌∷◌, ◌++◌, length, refl, sym, ap, ◌∙◌, subst, arith}
use Rattle.std.specs.Prelude.{◌||◌}
use Rattle.std.specs.List.{AllByRecursion, filter_map}
use Rattle.std.proofs.lemmas.List.{length_push}
use Rattle.display_map.specs.Replay.{History, present_of}
use Rattle.script_runner.specs.Outside.{SinkState, Takes}
use Rattle.script_runner.proofs.Fronts.{takes-more, takes-same}
use Rattle.split_views.specs.Views.{history_of}
use Rattle.undo_line.specs.UndoParts.{UndoParts}
use Rattle.split_script.specs.Lines.{SplitLine}
use Rattle.split_script.specs.Met.{Met, OwnIsThere, before_line, met, met_at, steps_of, steps_through, text_line}
use Rattle.split_script.specs.Output.{answered, has_refused, refuses}
use Rattle.split_script.specs.Parts.{entry_of, part_of}
use Rattle.split_script.specs.Theorems.{AreHistories, FollowsTexts, SplitCourse}
use Rattle.split_script.proofs.Mets.{Grow, answered-more, before-all, have-grows, have-snoc, met-snoc, met-stable, part-more, refused-more, steps-snoc, steps-stable}
use Rattle.split_runner.specs.Going.{IsBelow, IsGoing, IsUnderWay, IsUndoAfter, at}

-- ---- facts about each element

all-more : {X : Type 0} (P : X → Type 0) (xs : List X) (x : X) → AllByRecursion P xs → P x → AllByRecursion P (xs ++ x ∷ [])
all-more P [] x all one = (one, tt)
all-more P (y ∷ xs) x all one = (all.0, all-more P xs x all.1 one)

pub all-weaker : {X : Type 0} (P Q R : X → Type 0) (xs : List X) → ((x : X) → P x → Q x → R x) → AllByRecursion P xs → AllByRecursion Q xs → AllByRecursion R xs
all-weaker P Q R [] follows ps qs = tt
all-weaker P Q R (x ∷ xs) follows ps qs = (follows x ps.0 qs.0, all-weaker P Q R xs follows ps.1 qs.1)

-- the text of a view before a line
abbrev pub text_before : ℕ → History → List ℕ
text_before number h = (present_of (before_line number h)).text

-- the texts before lines up to a number stay
abbrev pub TextsStay : ℕ → List History → List History → Type 0
TextsStay number old new =
    (k view : ℕ) → k ≤ number → text_before k (history_of new view) ≡ text_before k (history_of old view)

-- what one line more makes of a run
module _ (course : SplitCourse) (done : List (ℕ × SplitLine)) (refused : Bool) (old new : List History) (undo undo' : UndoParts) (sink sink' : SinkState)
    (l : ℕ × SplitLine) (m : Met) (going : IsGoing course done refused (at old undo sink)) (grow : Grow old new)
    (next : l.0 ≡ suc (length done)) (there : OwnIsThere new l.0 l.1) (is : met_at new (steps_of old done) l ≡ m) where
  abbrev text : List ℕ
  text = course.text

  abbrev now : List (ℕ × SplitLine)
  now = done ++ l ∷ []

  met-is : met new now ≡ met old done ++ m ∷ []
  met-is =
      met-snoc new done l
      ∙ (ap (λ ms. ms ++ met_at new (steps_of new done) l ∷ []) (met-stable old new grow done going.there)
      ∙ ap (λ x. met old done ++ x ∷ []) (ap (λ steps. met_at new steps l) (steps-stable old new grow done going.there) ∙ is))

  steps-are : steps_of new now ≡ steps_through m
  steps-are =
      steps-snoc new done l
      ∙ ap steps_through (ap (λ steps. met_at new steps l) (steps-stable old new grow done going.there) ∙ is)

  part-is : (view : ℕ) → part_of text view (met new now) ≡ part_of text view (met old done) ++ filter_map (entry_of text view) (m ∷ [])
  part-is view = ap (part_of text view) met-is ∙ part-more text view (met old done) (m ∷ [])

  number-is : m.number ≡ suc (length done)
  number-is = sym (ap (λ (x : Met). x.number) is) ∙ next

  longer : length now ≡ suc (length done)
  longer = length_push done l ∙ (omega arith)

  pub going-more : AreHistories course new
      → ((view : ℕ) → view < course.views
      → IsUnderWay (part_of text view (met old done) ++ filter_map (entry_of text view) (m ∷ [])) (history_of new view))
      → ((view : ℕ) → view < course.views → IsBelow (suc (suc (length done))) (history_of new view))
      → TextsStay (suc (length done)) old new
      → ((view : ℕ) → view < course.views → (present_of (history_of new view)).text ≡ (text_line text (steps_through m)).present)
      → IsUndoAfter text (steps_through m) undo'
      → Takes (answered text (m ∷ [])) sink sink'
      → IsGoing course now (refused || refuses text m) (at new undo' sink')
  going-more views under below stay present undone written =
      record {
        views = views;
        under_way = λ view lt. subst (λ part. IsUnderWay part (history_of new view)) (sym (part-is view)) (under view lt);
        below = λ view lt. subst (λ n. IsBelow (suc n) (history_of new view)) (sym longer) (below view lt);
        there = have-snoc new done l (have-grows old new grow done going.there) there;
        numbers = subst (λ ms. AllByRecursion (λ x. x.number ≤ length now) ms) (sym met-is)
            (all-more (λ x. x.number ≤ length now) (met old done) m
            (all-weaker (λ x. x.number ≤ length done) (λ x. Unit {0}) (λ x. x.number ≤ length now) (met old done)
            (λ x le _. omega (arith, le, longer)) going.numbers (all-unit (met old done)))
            (omega (arith, number-is, longer)));
        texts = subst (λ ms. AllByRecursion (FollowsTexts text course.views new) ms) (sym met-is)
            (all-more (FollowsTexts text course.views new) (met old done) m
            (all-weaker (λ x. x.number ≤ length done) (FollowsTexts text course.views old) (FollowsTexts text course.views new) (met old done)
            (λ x le follows view lt. stay (x.number + 1) view (omega (arith, le)) ∙ follows view lt) going.numbers going.texts)
            (λ view lt. ap (λ (h : History). (present_of h).text)
            (ap (λ n. before_line n (history_of new view)) (ap (λ n. n + 1) number-is ∙ omega arith)
            ∙ before-all (suc (suc (length done))) (history_of new view) (below view lt))
            ∙ present view lt));
        present = λ view lt. present view lt ∙ ap (λ steps. (text_line text steps).present) (sym steps-are);
        undo = subst (λ steps. IsUndoAfter text steps undo') (sym steps-are) undone;
        written = takes-same course.sink sink' _ _ (sym (ap (answered text) met-is ∙ answered-more text (met old done) (m ∷ [])))
            (takes-more course.sink sink sink' (answered text (met old done)) (answered text (m ∷ [])) going.written written);
        refusals = ap (has_refused text) met-is ∙ (refused-more text (met old done) (m ∷ [])
            ∙ (ap (λ b. b || has_refused text (m ∷ [])) going.refusals ∙ ap (λ b. refused || b) (one-refused (refuses text m))));
      }
    where
      all-unit : {X : Type 0} (xs : List X) → AllByRecursion (λ x. Unit {0}) xs
      all-unit [] = tt
      all-unit (x ∷ xs) = (tt, all-unit xs)

      one-refused : (b : Bool) → (b || false) ≡ b
      one-refused true = refl
      one-refused false = refl
