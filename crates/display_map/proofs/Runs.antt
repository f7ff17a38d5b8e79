-- The lines of one run among all lines, by their stamps.
use Rattle.std.proofs.Common.{◌≡◌, ℕ, ◌+◌, ◌≤◌, ◌==◌, ◌&&◌, ◌||◌, not, eqb, cond, Bool, true, false, List, [], ◌∷◌, ◌++◌, length, map, take, drop, replicate, refl, sym, ap, subst, ◌∙◌, arith}
use Rattle.std.proofs.lemmas.Bool.{eq-eqb}
use Rattle.std.proofs.lemmas.List.{append_assoc, map-append, take-append-drop, drop-drop}
use Rattle.std.proofs.lemmas.List.Folds.{list_any-append}
use Rattle.cell_units.specs.Record.{Mark}
use Rattle.display_map.specs.Events.{Sent}
use Rattle.display_map.specs.Replay.{State, holds, stamps_of, happens, waits}
use Rattle.display_map.proofs.Stamps.{stamps, times, times-cons, times-append}
use Rattle.display_map.proofs.Jobs.{waits-sent}

holds_none : (v : ℕ) (xs : List ℕ) → times v xs ≡ 0 → holds xs v ≡ false
holds_none v [] e = refl
holds_none v (x ∷ xs) e = go (eqb x v) refl (times-cons v x xs) (λ h. holds_none v xs h) where
  go : (b : Bool) → eqb x v ≡ b → times v (x ∷ xs) ≡ cond (eqb x v) 1 0 + times v xs → (times v xs ≡ 0 → holds xs v ≡ false) → (eqb x v || holds xs v) ≡ false
  go true h sum rest = absurd (omega (arith, e, sum, ap {B = ℕ} (λ (c : Bool). cond c 1 0) h))
  go false h sum rest = ap (λ (c : Bool). c || holds xs v) h ∙ rest (omega (arith, e, sum))

times_own : (v : ℕ) (xs : List ℕ) → times v (v ∷ xs) ≡ 1 + times v xs
times_own v xs = times-cons v v xs ∙ ap {B = ℕ} (λ (c : Bool). cond c 1 0 + times v xs) (eq-eqb v v refl)

holds_own : (v : ℕ) (before behind : List ℕ) → holds (before ++ v ∷ behind) v ≡ true
holds_own v before behind =
    list_any-append (λ (s : ℕ). s == v) before (v ∷ behind)
    ∙ ap (λ (c : Bool). holds before v || (c || holds behind v)) (eq-eqb v v refl)
    ∙ or_true (holds before v) where
      or_true : (b : Bool) → (b || true) ≡ true
      or_true true = refl
      or_true false = refl

sum_of : (v : ℕ) (xs ys zs : List Mark) → times v (stamps (xs ++ (ys ++ zs))) ≤ 1 → times v (stamps xs) + times v (stamps ys) + times v (stamps zs) ≤ 1
sum_of v xs ys zs h =
    let stamp : Mark → ℕ = λ (m : Mark). m.stamp in
    let parts : stamps (xs ++ (ys ++ zs)) ≡ stamps xs ++ (stamps ys ++ stamps zs) =
    map-append stamp xs (ys ++ zs) ∙ ap (λ (l : List ℕ). stamps xs ++ l) (map-append stamp ys zs) in
    omega (arith, ap (times v) parts, times-append v (stamps xs) (stamps ys ++ stamps zs), times-append v (stamps ys) (stamps zs))

map_same : {X Y : Type 0} (f : X → Y) (y : Y) → ((x : X) → f x ≡ y) → (xs : List X) → map f xs ≡ replicate (length xs) y
map_same f y is [] = refl
map_same f y is (x ∷ xs) = λ i. is x i ∷ map_same f y is xs i

module _ {Y : Type 0} (F : Bool → Mark → Y) where
  -- what is made of a mark by whether the stamps hold its own
  abbrev by_held : List ℕ → Mark → Y
  by_held held m = F (holds held m.stamp) m

  not_held : (held : List ℕ) (marks : List Mark) → ((v : ℕ) → times v (stamps marks) + times v held ≤ 1) → map (by_held held) marks ≡ map (F false) marks
  not_held held [] once = refl
  not_held held (m ∷ ms) once =
      let sum = times_own m.stamp (stamps ms) in
      let most : times m.stamp (m.stamp ∷ stamps ms) + times m.stamp held ≤ 1 = once m.stamp in
      let none : times m.stamp held ≡ 0 = omega arith in
      λ i. F (holds_none m.stamp held none i) m ∷ not_held held ms (λ v. omega (arith, once v, times-cons v m.stamp (stamps ms))) i

  are_held : (before : List ℕ) (marks : List Mark) (held : List ℕ) → before ++ stamps marks ≡ held → map (by_held held) marks ≡ map (F true) marks
  are_held before [] held e = refl
  are_held before (m ∷ ms) held e =
      let own : holds held m.stamp ≡ true = ap (λ (xs : List ℕ). holds xs m.stamp) (sym e) ∙ holds_own m.stamp before (stamps ms) in
      λ i. F (own i) m ∷ are_held (before ++ m.stamp ∷ []) ms held (append_assoc before (m.stamp ∷ []) (stamps ms) ∙ e) i

  -- of marks whose stamps are apart, those of a run alone are held by its stamps
  pub held_run : (marks : List Mark) (first count : ℕ) → ((v : ℕ) → times v (stamps marks) ≤ 1) →
      map (by_held (stamps_of marks first count)) marks
      ≡ map (F false) (take first marks) ++ (map (F true) (take count (drop first marks)) ++ map (F false) (drop (first + count) marks))
  held_run marks first count once =
      let own = take count (drop first marks) in
      let rest = drop count (drop first marks) in
      let held = stamps_of marks first count in
      let whole : take first marks ++ (own ++ rest) ≡ marks =
      ap (λ (l : List Mark). take first marks ++ l) (take-append-drop count (drop first marks)) ∙ take-append-drop first marks in
      let sum : (v : ℕ) → times v (stamps (take first marks)) + times v (stamps own) + times v (stamps rest) ≤ 1 =
      λ v. sum_of v (take first marks) own rest (subst (λ (l : List Mark). times v (stamps l) ≤ 1) (sym whole) (once v)) in
      ap (map (by_held held)) (sym whole)
      ∙ map-append (by_held held) (take first marks) (own ++ rest)
      ∙ ap (λ (l : List Y). map (by_held held) (take first marks) ++ l) (map-append (by_held held) own rest)
      ∙ (λ i. not_held held (take first marks) (λ v. omega (arith, sum v)) i
      ++ (are_held [] own held refl i ++ not_held held rest (λ v. omega (arith, sum v)) i))
      ∙ ap (λ (l : List Mark). map (F false) (take first marks) ++ (map (F true) own ++ map (F false) l)) (drop-drop count first marks)

-- after a run was sent its lines wait no more, and the others as before
pub waits_run : (s : State) (job first count : ℕ) → ((v : ℕ) → times v (stamps s.present.marks) ≤ 1) →
    map (waits (happens s (Sent job first count))) s.present.marks
    ≡ map (waits s) (take first s.present.marks)
    ++ (replicate (length (take count (drop first s.present.marks))) false ++ map (waits s) (drop (first + count) s.present.marks))
waits_run s job first count once =
    let marks = s.present.marks in
    let own = take count (drop first marks) in
    (λ i. map (λ m. waits-sent s job first count m i) marks)
    ∙ held_run (λ b m. waits s m && not b) marks first count once
    ∙ (λ i. map (λ m. and_true (waits s m) i) (take first marks)
    ++ (map_same (λ m. waits s m && not true) false (λ m. and_false (waits s m)) own i
    ++ map (λ m. and_true (waits s m) i) (drop (first + count) marks))) where
      and_true : (b : Bool) → (b && true) ≡ b
      and_true true = refl
      and_true false = refl

      and_false : (b : Bool) → (b && false) ≡ false
      and_false true = refl
      and_false false = refl
