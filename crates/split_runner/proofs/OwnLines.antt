-- A line of a view that reaches no other view.
use Rattle.std.proofs.Common.{◌≡◌, ℕ, suc, ◌<◌, Bool, true, false, List, [], ◌∷◌, ◌++◌, length, Some, None, refl, sym, ap, ◌∙◌, subst}
use Rattle.std.specs.Prelude.{◌||◌, ◌==◌, if◌then◌else◌, option_map}
use Rattle.std.specs.List.{cons_option, list_any}
use Rattle.std.proofs.lemmas.Bool.{eqb-true, eq-eqb}
use Rattle.std.proofs.lemmas.List.{append-nil}
use Rattle.display_map.specs.Events.{Event, Line}
use Rattle.display_map.specs.Replay.{History, appended, present_of}
use Rattle.edit_script.specs.declared.asked.Form.TheVariants.{First}
use Rattle.script_runner.specs.Entries.{Bytes, Edited, Entry}
use Rattle.script_runner.specs.Legal.{IsOrderlySoFar, is_line}
use Rattle.script_runner.specs.Outside.{SinkState, Takes}
use Rattle.split_views.specs.Views.{history_of}
use Rattle.undo_line.specs.TextLines.{IsLineOf}
use Rattle.undo_line.specs.UndoParts.{UndoParts}
use Rattle.split_script.specs.Lines.{Own, SplitLine}
use Rattle.split_script.specs.Met.{Met, OwnIsThere, Stays, before_line, edit_in, editing, has_line_from, met, met_at, step_of, steps_of, steps_through, text_line, verdict_on}
use Rattle.split_script.specs.Output.{answered, refuses}
use Rattle.split_script.specs.Parts.{batch_line, batch_of, entry_for, entry_of, part_of}
use Rattle.split_script.specs.Theorems.{SplitCourse}
use Rattle.split_script.proofs.Before.{StartWith, before-next, below-later, below-line, there-line}
use Rattle.split_runner.specs.Going.{AreMoved, IsBelow, IsGoing, IsUnderWay, at}
use Rattle.split_runner.proofs.Cases.{batch-step, grow-moved, text-step, texts-stay}
use Rattle.split_runner.proofs.Goings.{going-more}
use Rattle.split_runner.proofs.Within.{StayOrderly}

-- the events of one view, and none of the others
abbrev pub in_view : ℕ → List Event → ℕ → List Event
in_view view more other = if view == other then more else []

module _ (course : SplitCourse) (done : List (ℕ × SplitLine)) (refused : Bool) (old new : List History) (undo : UndoParts) (sink sink' : SinkState)
    (number view : ℕ) (bytes : List ℕ) (rest : List Event) (going : IsGoing course done refused (at old undo sink))
    (next : number ≡ suc (length done)) (lt : view < course.views)
    (moved : AreMoved old new (in_view view (Line number ∷ rest))) (quiet : list_any is_line rest ≡ false) where
  abbrev h : History
  h = history_of old view

  abbrev l : ℕ × SplitLine
  l = (number, Own view bytes)

  abbrev m : Met
  m = record { number = number; line = Own view bytes; before = h; past = steps_of old done }

  within : (v : ℕ) → v < course.views → v < length old
  within v less = subst (λ n. v < n) (sym going.views.count) less

  pub own-new : history_of new view ≡ appended h (Line number ∷ rest)
  own-new =
      moved.each view (within view lt)
      ∙ ap (λ b. appended h (if b then Line number ∷ rest else [])) (eq-eqb view view refl)

  none-from : has_line_from number h.events ≡ false
  none-from = ap (λ n. has_line_from n h.events) next ∙ going.below view lt

  pub is-met : met_at new (steps_of old done) l ≡ m
  is-met =
      let P : History → Met = λ k. record { number = number; line = Own view bytes; before = k; past = steps_of old done } in
      ap P (ap (before_line number) own-new ∙ before-next number h rest none-from)

  is-there : OwnIsThere new number (Own view bytes)
  is-there = ap (λ (k : History). has_line_from number k.events) own-new ∙ there-line number h.events rest

  pub starts : (v : ℕ) → v < length old → StartWith number (in_view view (Line number ∷ rest) v)
  starts v less = by (view == v)
    where
      by : (b : Bool) → StartWith number (if b then Line number ∷ rest else [])
      by true = refl
      by false = tt

  starts-next : (v : ℕ) → v < length old → StartWith (suc (length done)) (in_view view (Line number ∷ rest) v)
  starts-next v less = subst (λ n. StartWith n (in_view view (Line number ∷ rest) v)) next (starts v less)

  -- a view that isn't its own stays
  stays : (v : ℕ) → v < course.views → (view == v) ≡ false → history_of new v ≡ history_of old v
  stays v less is =
      moved.each v (within v less)
      ∙ (ap (λ b. appended (history_of old v) (if b then Line number ∷ rest else [])) is
      ∙ ap (λ es. record { opening = (history_of old v).opening; events = es }) (append-nil (history_of old v).events))

  -- what is known of each view, given it of the one, and of the others as they were
  of-each : (P : ℕ → History → Type 0) → P view (appended h (Line number ∷ rest)) → ((v : ℕ) → v < course.views → P v (history_of old v))
      → (v : ℕ) → v < course.views → P v (history_of new v)
  of-each P own others v less = by (view == v) refl
    where
      by : (b : Bool) → (view == v) ≡ b → P v (history_of new v)
      by true is =
          let same : view ≡ v = eqb-true view v is in
          subst (λ u. P u (history_of new u)) same (subst (P view) (sym own-new) own)
      by false is =
          subst (P v) (sym (stays v less is)) (others v less)

  module _ (calm : edit_in (verdict_on h bytes) ≡ None) where
    step-is : step_of m ≡ Stays
    step-is = ap editing calm

    texts-same : text_line course.text (steps_through m) ≡ text_line course.text (steps_of old done)
    texts-same =
        ap (λ s. text_line course.text (steps_of old done ++ s ∷ [])) step-is ∙ text-step course.text (steps_of old done) Stays

    batches-same : batch_line course.text (steps_through m) ≡ batch_line course.text (steps_of old done)
    batches-same =
        ap (λ s. batch_line course.text (steps_of old done ++ s ∷ [])) step-is ∙ batch-step course.text (steps_of old done) Stays

    entry-is : (v : ℕ) → entry_of course.text v m ≡ (if view == v then Some (number, Bytes First bytes) else None)
    entry-is v =
        ap (λ s. option_map {U = ℕ × Entry} (λ entry. (number, entry)) (entry_for v (batch_of (batch_line course.text (steps_of old done)) s) (Own view bytes))) step-is
        ∙ either (view == v)
      where
        either : (b : Bool) → option_map {U = ℕ × Entry} (λ entry. (number, entry)) (if b then Some (Bytes First bytes) else option_map Edited None)
            ≡ (if b then Some (number, Bytes First bytes) else None)
        either true = refl
        either false = refl

    part-now : (v : ℕ) → (b : Bool) → (view == v) ≡ b
        → part_of course.text v (met old done) ++ cons_option (entry_of course.text v m) []
        ≡ part_of course.text v (met old done) ++ cons_option (if b then Some (number, Bytes First bytes) else None) []
    part-now v b is =
        ap (λ o. part_of course.text v (met old done) ++ cons_option o [])
        (entry-is v ∙ ap (λ (b : Bool). if b then Some (number, Bytes First bytes) else None) is)

    -- its history is orderly whichever entries come later, and so are the others
    pub own-stays : ((later : List (ℕ × Entry))
        → IsOrderlySoFar h.opening ((part_of course.text view (met old done) ++ (number, Bytes First bytes) ∷ []) ++ later) 1 (h.events ++ (Line number ∷ rest)))
        → StayOrderly course done old new m
    own-stays own v less later = by (view == v) refl
      where
        by : (b : Bool) → (view == v) ≡ b
            → IsOrderlySoFar (history_of old v).opening
            ((part_of course.text v (met old done) ++ cons_option (entry_of course.text v m) []) ++ later) 1 (history_of new v).events
        by true is =
            subst (λ p. IsOrderlySoFar (history_of old v).opening (p ++ later) 1 (history_of new v).events) (sym (part-now v true is))
            (subst (λ u. IsOrderlySoFar (history_of old u).opening ((part_of course.text u (met old done) ++ (number, Bytes First bytes) ∷ []) ++ later) 1
            (history_of new u).events) (eqb-true view v is)
            (subst (λ (k : History). IsOrderlySoFar h.opening ((part_of course.text view (met old done) ++ (number, Bytes First bytes) ∷ []) ++ later) 1 k.events)
            (sym own-new) (own later)))
        by false is =
            subst (λ p. IsOrderlySoFar (history_of old v).opening (p ++ later) 1 (history_of new v).events)
            (sym (part-now v false is ∙ append-nil (part_of course.text v (met old done))))
            (subst (λ (k : History). IsOrderlySoFar (history_of old v).opening (part_of course.text v (met old done) ++ later) 1 k.events)
            (sym (stays v less is)) ((going.under_way v less).orderly later))

    -- the run goes on with it
    pub going-own : IsUnderWay (part_of course.text view (met old done) ++ (number, Bytes First bytes) ∷ []) (appended h (Line number ∷ rest))
        → (present_of (appended h (Line number ∷ rest))).text ≡ (present_of h).text
        → Takes (answered course.text (m ∷ [])) sink sink'
        → IsGoing course (done ++ l ∷ []) (refused || refuses course.text m) (at new undo sink')
    going-own under same written =
        going-more course done refused old new undo undo sink sink' l m going (grow-moved old new (in_view view (Line number ∷ rest)) moved) next is-there is-met
        (record {
          count = moved.count ∙ going.views.count;
          opening = of-each (λ v k. k.opening ≡ course.text) (going.views.opening view lt) going.views.opening;
        })
        (λ v less. by v less (view == v) refl)
        (of-each (λ v k. IsBelow (suc (suc (length done))) k)
        (subst (λ n. has_line_from (suc n) (h.events ++ (Line number ∷ rest)) ≡ false) next (below-line number h.events rest none-from quiet))
        (λ v less. below-later (suc (length done)) (history_of old v).events (going.below v less)))
        (texts-stay (suc (length done)) old new (in_view view (Line number ∷ rest)) moved starts-next)
        (of-each (λ v k. (present_of k).text ≡ (text_line course.text (steps_through m)).present)
        (same ∙ (going.present view lt ∙ ap (λ t. t.present) (sym texts-same)))
        (λ v less. going.present v less ∙ ap (λ t. t.present) (sym texts-same)))
        (record {
          past = going.undo.past ∙ ap (λ b. b.past) (sym batches-same);
          future = going.undo.future ∙ ap (λ b. b.future) (sym batches-same);
          present = ap (λ b. b.present) batches-same ∙ (going.undo.present ∙ ap (λ t. t.present) (sym texts-same));
          leads = subst (λ t. IsLineOf undo t) (sym texts-same) going.undo.leads;
        })
        written
      where
        by : (v : ℕ) → v < course.views → (b : Bool) → (view == v) ≡ b
            → IsUnderWay (part_of course.text v (met old done) ++ cons_option (entry_of course.text v m) []) (history_of new v)
        by v less true is =
            let same : view ≡ v = eqb-true view v is in
            subst (λ p. IsUnderWay p (history_of new v)) (sym (part-now v true is))
            (subst (λ u. IsUnderWay (part_of course.text u (met old done) ++ (number, Bytes First bytes) ∷ []) (history_of new u)) same
            (subst (λ k. IsUnderWay (part_of course.text view (met old done) ++ (number, Bytes First bytes) ∷ []) k) (sym own-new) under))
        by v less false is =
            subst (λ p. IsUnderWay p (history_of new v)) (sym (part-now v false is ∙ append-nil (part_of course.text v (met old done))))
            (subst (λ k. IsUnderWay (part_of course.text v (met old done)) k) (sym (stays v less is)) (going.under_way v less))
