-- An inlay or a fold more or less.
use Rattle.std.proofs.Common.{◌≡◌, ℕ, ◌-◌, ◌<◌, ◌≤◌, Bool, false, cond, eqb, ltb, leb, List, [], ◌∷◌, ◌++◌, length, refl, sym, ap, ◌∙◌, arith}
use mathlib.Core.Bool.{◌&&◌, ◌||◌}
use Rattle.std.specs.List.{list_any, filter, flat_map}
use Rattle.std.proofs.lemmas.Bool.{ne_eqb, le-ltb, lt-leb, and_left, and_right}
use Rattle.cell_units.specs.Text.{row_of}
use Rattle.cell_units.specs.Record.{Inlay, Fold}
use Rattle.cell_units.specs.Inlaid.{Token, Byte, Hidden, is_break, inlay_bytes, inlays_at}
use Rattle.cell_units.specs.Folded.{inside, covered, shown, folded, token_row}
use Rattle.cell_units.proofs.CutRuns.{Counted}
use Rattle.cell_units.proofs.CountedLines.{SameAway, SameAway-in_place, changed_in_place}

any_without : {X : Type 0} (p : X → Bool) (xs : List X) (x : X) (ys : List X) → p x ≡ false → list_any p (xs ++ x ∷ ys) ≡ list_any p (xs ++ ys)
any_without p [] x ys h = ap (λ (c : Bool). c || list_any p ys) h
any_without p (y ∷ xs) x ys h = ap (λ (c : Bool). p y || c) (any_without p xs x ys h)

filter_without : {X : Type 0} (p : X → Bool) (xs : List X) (x : X) (ys : List X) → p x ≡ false → filter p (xs ++ x ∷ ys) ≡ filter p (xs ++ ys)
filter_without p [] x ys h = ap (λ (c : Bool). cond c (x ∷ filter p ys) (filter p ys)) h
filter_without p (y ∷ xs) x ys h = ap (λ (l : List _). cond (p y) (y ∷ l) l) (filter_without p xs x ys h)

module _ (xs : List Inlay) (i : Inlay) (ys : List Inlay) (folds : List Fold) where
  elsewhere : (k x : ℕ) → (i.offset ≡ k → ⊥) → shown (xs ++ i ∷ ys) folds k x ≡ shown (xs ++ ys) folds k x
  elsewhere k x h = ap (λ (l : List Token). cond (inside folds k) [] (l ++ cond (covered folds k) (Hidden k) (Byte k x) ∷ [])) (ap (flat_map inlay_bytes) (filter_without (λ i. eqb i.offset k) xs i ys (ne_eqb i.offset k h)))

  -- away from the inlay the same is shown without it and with it
  pub inlay_out-away : SameAway (λ t. t) i.offset i.offset (i.offset - i.offset) (xs ++ i ∷ ys) (xs ++ ys) folds folds
  inlay_out-away = SameAway-in_place i.offset i.offset (xs ++ i ∷ ys) (xs ++ ys) folds folds (omega arith) (λ k x h. sym (elsewhere k x (λ e. omega arith))) (λ k x h. sym (elsewhere k x (λ e. omega arith))) (λ k h. refl)

  pub inlay_in-away : SameAway (λ t. t) i.offset i.offset (i.offset - i.offset) (xs ++ ys) (xs ++ i ∷ ys) folds folds
  inlay_in-away = SameAway-in_place i.offset i.offset (xs ++ ys) (xs ++ i ∷ ys) folds folds (omega arith) (λ k x h. elsewhere k x (λ e. omega arith)) (λ k x h. elsewhere k x (λ e. omega arith)) (λ k h. refl)

module _ (xs : List Inlay) (i : Inlay) (ys : List Inlay) (folds : List Fold) (text : List ℕ) (within : i.offset ≤ length text) (free : covered folds (length text) ≡ false) where
  pub inlay_removed : Counted is_break (λ t. t) (token_row text) (token_row text) (row_of text i.offset) (row_of text i.offset) (row_of text i.offset) (folded text (xs ++ i ∷ ys) folds) (folded text (xs ++ ys) folds)
  inlay_removed = changed_in_place (xs ++ i ∷ ys) (xs ++ ys) folds folds text i.offset i.offset (inlay_out-away xs i ys folds) within free

  pub inlay_added : Counted is_break (λ t. t) (token_row text) (token_row text) (row_of text i.offset) (row_of text i.offset) (row_of text i.offset) (folded text (xs ++ ys) folds) (folded text (xs ++ i ∷ ys) folds)
  inlay_added = changed_in_place (xs ++ ys) (xs ++ i ∷ ys) folds folds text i.offset i.offset (inlay_in-away xs i ys folds) within free

module _ (inlays : List Inlay) (xs : List Fold) (f : Fold) (ys : List Fold) (some : f.start < f.end) where
  covered_behind : (k : ℕ) → f.end ≤ k → covered (xs ++ f ∷ ys) k ≡ covered (xs ++ ys) k
  covered_behind k h = any_without (λ f. leb f.start k && ltb k f.end) xs f ys (and_right (leb f.start k) (ltb k f.end) (le-ltb k f.end h))

  covered_before : (k : ℕ) → k < f.start → covered (xs ++ f ∷ ys) k ≡ covered (xs ++ ys) k
  covered_before k h = any_without (λ f. leb f.start k && ltb k f.end) xs f ys (and_left (leb f.start k) (ltb k f.end) (lt-leb f.start k h))

  inside_behind : (k : ℕ) → f.end ≤ k → inside (xs ++ f ∷ ys) k ≡ inside (xs ++ ys) k
  inside_behind k h = any_without (λ f. ltb f.start k && ltb k f.end) xs f ys (and_right (ltb f.start k) (ltb k f.end) (le-ltb k f.end h))

  inside_before : (k : ℕ) → k < f.start → inside (xs ++ f ∷ ys) k ≡ inside (xs ++ ys) k
  inside_before k h = any_without (λ f. ltb f.start k && ltb k f.end) xs f ys (and_left (ltb f.start k) (ltb k f.end) (le-ltb f.start k (omega arith)))

  show : (k x : ℕ) → inside (xs ++ f ∷ ys) k ≡ inside (xs ++ ys) k → covered (xs ++ f ∷ ys) k ≡ covered (xs ++ ys) k → shown inlays (xs ++ f ∷ ys) k x ≡ shown inlays (xs ++ ys) k x
  show k x e c = λ j. cond (e j) [] (inlays_at inlays k ++ cond (c j) (Hidden k) (Byte k x) ∷ [])

  -- away from the fold the same is shown with it and without it
  pub fold_in-away : SameAway (λ t. t) f.start f.end (f.end - f.start) inlays inlays (xs ++ ys) (xs ++ f ∷ ys)
  fold_in-away = SameAway-in_place f.start f.end inlays inlays (xs ++ ys) (xs ++ f ∷ ys) (omega arith)
      (λ k x h. show k x (inside_before k h) (covered_before k h)) (λ k x h. show k x (inside_behind k (omega arith)) (covered_behind k (omega arith))) covered_behind

  pub fold_out-away : SameAway (λ t. t) f.start f.end (f.end - f.start) inlays inlays (xs ++ f ∷ ys) (xs ++ ys)
  fold_out-away = SameAway-in_place f.start f.end inlays inlays (xs ++ f ∷ ys) (xs ++ ys) (omega arith)
      (λ k x h. sym (show k x (inside_before k h) (covered_before k h))) (λ k x h. sym (show k x (inside_behind k (omega arith)) (covered_behind k (omega arith)))) (λ k h. sym (covered_behind k h))

module _ (inlays : List Inlay) (xs : List Fold) (f : Fold) (ys : List Fold) (text : List ℕ) (some : f.start < f.end) (within : f.end ≤ length text) (free : covered (xs ++ ys) (length text) ≡ false) where
  pub fold_added : Counted is_break (λ t. t) (token_row text) (token_row text) (row_of text f.start) (row_of text f.end) (row_of text f.end) (folded text inlays (xs ++ ys)) (folded text inlays (xs ++ f ∷ ys))
  fold_added = changed_in_place inlays inlays (xs ++ ys) (xs ++ f ∷ ys) text f.start f.end (fold_in-away inlays xs f ys some) within free

  pub fold_removed : Counted is_break (λ t. t) (token_row text) (token_row text) (row_of text f.start) (row_of text f.end) (row_of text f.end) (folded text inlays (xs ++ f ∷ ys)) (folded text inlays (xs ++ ys))
  fold_removed = changed_in_place inlays inlays (xs ++ f ∷ ys) (xs ++ ys) text f.start f.end (fold_out-away inlays xs f ys some) within
      (covered_behind inlays xs f ys some (length text) within ∙ free)
