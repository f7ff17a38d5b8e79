-- Lines as they are met: one more of them, and histories that grow.
use Rattle.std.proofs.Common.{◌≡◌, ℕ, Bool, true, false, List, [], ◌∷◌, ◌++◌, refl, sym, ap, ◌∙◌, true≢false}
use Rattle.std.specs.Prelude.{◌||◌, if◌then◌else◌, flat_map}
use Rattle.std.specs.List.{filter_map, list_any}
use Rattle.std.proofs.lemmas.Bool.{or_left}
use Rattle.std.proofs.lemmas.List.{append-nil}
use Rattle.std.proofs.lemmas.Grind.{flat_map-append}
use Rattle.std.proofs.lemmas.List.Elements.{filter_map-append}
use Rattle.std.proofs.lemmas.List.Folds.{list_any-append}
use Rattle.display_map.specs.Events.{Event}
use Rattle.display_map.specs.Replay.{History, appended}
use Rattle.script_runner.specs.Entries.{Entry}
use Rattle.script_runner.specs.Output.{printed}
use Rattle.split_views.specs.Views.{history_of}
use Rattle.split_script.specs.Lines.{Astray, Own, Redo, Skipped, SplitLine, Undo}
use Rattle.split_script.specs.Met.{HaveOwnLines, Met, OwnIsThere, Step, before_line, before_own, events_before, has_line_from, is_line_from, met, met_at, met_from, step_of, steps_from, steps_of, steps_through}
use Rattle.split_script.specs.Output.{answered, has_refused, lines_of, refuses}
use Rattle.split_script.specs.Parts.{entry_of, part_of}

-- ---- one more line

pub met-append : (histories : List History) (past : List Step) (xs ys : List (ℕ × SplitLine))
    → met_from histories past (xs ++ ys) ≡ met_from histories past xs ++ met_from histories (steps_from histories past xs) ys
met-append histories past [] ys = refl
met-append histories past (x ∷ xs) ys =
    ap (λ l. met_at histories past x ∷ l) (met-append histories (steps_through (met_at histories past x)) xs ys)

pub met-snoc : (histories : List History) (done : List (ℕ × SplitLine)) (l : ℕ × SplitLine)
    → met histories (done ++ l ∷ []) ≡ met histories done ++ met_at histories (steps_of histories done) l ∷ []
met-snoc histories done l = met-append histories [] done (l ∷ [])

steps-append : (histories : List History) (past : List Step) (xs ys : List (ℕ × SplitLine))
    → steps_from histories past (xs ++ ys) ≡ steps_from histories (steps_from histories past xs) ys
steps-append histories past [] ys = refl
steps-append histories past (x ∷ xs) ys = steps-append histories (steps_through (met_at histories past x)) xs ys

pub steps-snoc : (histories : List History) (done : List (ℕ × SplitLine)) (l : ℕ × SplitLine)
    → steps_of histories (done ++ l ∷ []) ≡ steps_through (met_at histories (steps_of histories done) l)
steps-snoc histories done l = steps-append histories [] done (l ∷ [])

-- the first lines are met as they are without those after them
pub part-more : (text : List ℕ) (view : ℕ) (xs ys : List Met) → part_of text view (xs ++ ys) ≡ part_of text view xs ++ part_of text view ys
part-more text view xs ys = filter_map-append (entry_of text view) xs ys

pub answered-more : (text : List ℕ) (xs ys : List Met) → answered text (xs ++ ys) ≡ answered text xs ++ answered text ys
answered-more text xs ys =
    ap printed (flat_map-append (lines_of text) xs ys) ∙ flat_map-append _ (flat_map (lines_of text) xs) (flat_map (lines_of text) ys)

pub refused-more : (text : List ℕ) (xs ys : List Met) → has_refused text (xs ++ ys) ≡ (has_refused text xs || has_refused text ys)
refused-more text xs ys = list_any-append (refuses text) xs ys

-- ---- histories that grow

before-there : (number : ℕ) (xs ys : List Event) → has_line_from number xs ≡ true → events_before number (xs ++ ys) ≡ events_before number xs
before-there number [] ys e = absurd (true≢false (sym e))
before-there number (x ∷ xs) ys e = either (is_line_from number x) (before-there number xs ys) e
  where
    either : (b : Bool) → (has_line_from number xs ≡ true → events_before number (xs ++ ys) ≡ events_before number xs)
        → (b || has_line_from number xs) ≡ true
        → (if b then [] else x ∷ events_before number (xs ++ ys)) ≡ (if b then [] else x ∷ events_before number xs)
    either true rest e = refl
    either false rest e = ap (λ l. x ∷ l) (rest e)

pub before-none : (number : ℕ) (xs ys : List Event) → has_line_from number xs ≡ false
    → events_before number (xs ++ ys) ≡ xs ++ events_before number ys
before-none number [] ys e = refl
before-none number (x ∷ xs) ys e = either (is_line_from number x) (before-none number xs ys) e
  where
    either : (b : Bool) → (has_line_from number xs ≡ false → events_before number (xs ++ ys) ≡ xs ++ events_before number ys)
        → (b || has_line_from number xs) ≡ false
        → (if b then [] else x ∷ events_before number (xs ++ ys)) ≡ x ∷ (xs ++ events_before number ys)
    either true rest e = absurd (true≢false e)
    either false rest e = ap (λ l. x ∷ l) (rest e)

pub before-all : (number : ℕ) (h : History) → has_line_from number h.events ≡ false → before_line number h ≡ h
before-all number h e =
    ap (λ l. record { opening = h.opening; events = l })
    (ap (events_before number) (sym (append-nil h.events)) ∙ (before-none number h.events [] e ∙ append-nil h.events))

pub before-more : (number : ℕ) (h : History) (more : List Event) → has_line_from number h.events ≡ true
    → before_line number (appended h more) ≡ before_line number h
before-more number h more e = ap (λ l. record { opening = h.opening; events = l }) (before-there number h.events more e)

-- each history goes on with further events, maybe none
abbrev pub Grow : List History → List History → Type 0
Grow old new = (view : ℕ) → (more : List Event) × (history_of new view ≡ appended (history_of old view) more)

module _ (old new : List History) (grow : Grow old new) where
  own-stable : (number : ℕ) (line : SplitLine) → OwnIsThere old number line → before_own new number line ≡ before_own old number line
  own-stable number (Own view bytes) there =
      ap (before_line number) (grow view).1 ∙ before-more number (history_of old view) (grow view).0 there
  own-stable number Skipped there = refl
  own-stable number Undo there = refl
  own-stable number Redo there = refl
  own-stable number Astray there = refl

  met-at-stable : (past : List Step) (l : ℕ × SplitLine) → OwnIsThere old l.0 l.1 → met_at new past l ≡ met_at old past l
  met-at-stable past l there =
      let P : History → Met = λ h. record { number = l.0; line = l.1; before = h; past = past } in ap P (own-stable l.0 l.1 there)

  met-from-stable : (past : List Step) (lines : List (ℕ × SplitLine)) → HaveOwnLines old lines → met_from new past lines ≡ met_from old past lines
  met-from-stable past [] have = refl
  met-from-stable past (l ∷ lines) have =
      ap (λ m. m ∷ met_from new (steps_through m) lines) (met-at-stable past l have.0)
      ∙ ap (λ ms. met_at old past l ∷ ms) (met-from-stable (steps_through (met_at old past l)) lines have.1)

  -- the lines that were handled are met as before
  pub met-stable : (lines : List (ℕ × SplitLine)) → HaveOwnLines old lines → met new lines ≡ met old lines
  met-stable lines have = met-from-stable [] lines have

  steps-from-stable : (past : List Step) (lines : List (ℕ × SplitLine)) → HaveOwnLines old lines → steps_from new past lines ≡ steps_from old past lines
  steps-from-stable past [] have = refl
  steps-from-stable past (l ∷ lines) have =
      ap (λ m. steps_from new (steps_through m) lines) (met-at-stable past l have.0)
      ∙ steps-from-stable (steps_through (met_at old past l)) lines have.1

  pub steps-stable : (lines : List (ℕ × SplitLine)) → HaveOwnLines old lines → steps_of new lines ≡ steps_of old lines
  steps-stable lines have = steps-from-stable [] lines have

  own-grows : (number : ℕ) (line : SplitLine) → OwnIsThere old number line → OwnIsThere new number line
  own-grows number (Own view bytes) there =
      ap (λ (h : History). has_line_from number h.events) (grow view).1
      ∙ (list_any-append (is_line_from number) (history_of old view).events (grow view).0
      ∙ or_left (has_line_from number (history_of old view).events) (has_line_from number (grow view).0) there)
  own-grows number Skipped there = tt
  own-grows number Undo there = tt
  own-grows number Redo there = tt
  own-grows number Astray there = tt

  pub have-grows : (lines : List (ℕ × SplitLine)) → HaveOwnLines old lines → HaveOwnLines new lines
  have-grows [] have = tt
  have-grows (l ∷ lines) have = (own-grows l.0 l.1 have.0, have-grows lines have.1)

pub have-snoc : (histories : List History) (lines : List (ℕ × SplitLine)) (l : ℕ × SplitLine) → HaveOwnLines histories lines
    → OwnIsThere histories l.0 l.1 → HaveOwnLines histories (lines ++ l ∷ [])
have-snoc histories [] l have there = (there, tt)
have-snoc histories (x ∷ lines) l have there = (have.0, have-snoc histories lines l have.1 there)
