-- The lines of two lists that differ in the middle.
use Rattle.std.proofs.Common.{◌≡◌, ℕ, ◌+◌, ◌<◌, ◌≤◌, suc, Bool, true, false, cond, List, [], ◌∷◌, ◌++◌, length, length-append, map, refl, sym, ap, ◌∙◌, subst, inl, inr, arith, append_assoc}
use mathlib.Core.Logic.{◌⊎◌}
use Rattle.std.proofs.lemmas.Bool.{false≢true, true≢false}
use Rattle.std.proofs.lemmas.List.{append-nil}
use Rattle.std.specs.List.{filter}
use Rattle.std.proofs.lemmas.List.Elements.{filter-append}
use Rattle.cell_units.specs.Cutting.{onto_line, cut_lines}
use Rattle.cell_units.proofs.CutLists.{Every, FirstIs, LastIs, Every-append, Every-left, Every-right, Every-mono, ended, ended-append, lines-cons, lines-append, upto, after, upto-after, upto-ended, Split, split, free-ended, First-lines, First-open, Last-lines, Last-open}

module _ {X : Type 0} (brk : X → Bool) where
  -- of what follows a list that ends with a break or not: the end of its last line, and the further lines
  abbrev pub closing : Bool → List X → List X
  closing true B = []
  closing false B = upto brk B

  abbrev pub further : Bool → List X → List X
  further true B = B
  further false B = after brk B

  closing-further : (e : Bool) (B : List X) → closing e B ++ further e B ≡ B
  closing-further true B = refl
  closing-further false B = upto-after brk B

  rest_ends : (A M : List X) (s : Split brk A) (e : Bool) → ended brk true (A ++ M) ≡ e → ended brk true (s.rest ++ M) ≡ e
  rest_ends A M s e h =
      (λ i. ended brk (sym s.whole_ended i) (s.rest ++ M)) ∙ sym (ended-append brk true s.whole (s.rest ++ M))
      ∙ ap (ended brk true) (sym (append_assoc s.whole s.rest M)) ∙ ap (λ (l : List X). ended brk true (l ++ M)) (sym s.is) ∙ h

  middle_ends : (Q B : List X) (e : Bool) → ended brk true Q ≡ e → (ended brk true (Q ++ closing e B) ≡ true) ⊎ (further e B ≡ [])
  middle_ends Q B true h = inl (ended-append brk true Q [] ∙ h)
  middle_ends Q [] false h = inr refl
  middle_ends Q (b ∷ bs) false h = go (upto-ended brk (ended brk true Q) b bs) where
    go : (ended brk (ended brk true Q) (upto brk (b ∷ bs)) ≡ true) ⊎ (after brk (b ∷ bs) ≡ []) → (ended brk true (Q ++ upto brk (b ∷ bs)) ≡ true) ⊎ (after brk (b ∷ bs) ≡ [])
    go (inl x) = inl (ended-append brk true Q (upto brk (b ∷ bs)) ∙ x)
    go (inr x) = inr x

  lines_parts : (Q F : List X) → (ended brk true Q ≡ true) ⊎ (F ≡ []) → cut_lines brk (Q ++ F) ≡ cut_lines brk Q ++ cut_lines brk F
  lines_parts Q F (inl h) = lines-append brk Q F h
  lines_parts Q F (inr h) = subst (λ (l : List X). cut_lines brk (Q ++ l) ≡ cut_lines brk Q ++ cut_lines brk l) (sym h) (ap (cut_lines brk) (append-nil Q) ∙ sym (append-nil (cut_lines brk Q)))

  -- the lines before, in and after the middle
  pub three : (A M B : List X) (s : Split brk A) (e : Bool) → ended brk true (A ++ M) ≡ e
      → cut_lines brk (A ++ (M ++ B)) ≡ cut_lines brk s.whole ++ (cut_lines brk ((s.rest ++ M) ++ closing e B) ++ cut_lines brk (further e B))
  three A M B s e h =
      ap (λ (l : List X). cut_lines brk (l ++ (M ++ B))) s.is
      ∙ ap (cut_lines brk) (append_assoc s.whole s.rest (M ++ B))
      ∙ lines-append brk s.whole (s.rest ++ (M ++ B)) s.whole_ended
      ∙ ap (λ (l : List X). cut_lines brk s.whole ++ cut_lines brk l)
      (sym (append_assoc s.rest M B) ∙ ap (λ (l : List X). (s.rest ++ M) ++ l) (sym (closing-further e B)) ∙ sym (append_assoc (s.rest ++ M) (closing e B) (further e B)))
      ∙ ap (λ (l : List (List X)). cut_lines brk s.whole ++ l) (lines_parts ((s.rest ++ M) ++ closing e B) (further e B) (middle_ends (s.rest ++ M) B e (rest_ends A M s e h)))

  pub middle_firsts : (P : X → Type 0) (A M B : List X) (s : Split brk A) (e : Bool) → ended brk true (A ++ M) ≡ e → Every P A → Every P M
      → Every (FirstIs P) (cut_lines brk ((s.rest ++ M) ++ closing e B))
  middle_firsts P A M B s e h a m = go e (rest_ends A M s e h) where
    both : Every P (s.rest ++ M)
    both = Every-append P s.rest M (Every-right P s.whole s.rest (subst (Every P) s.is a)) m

    go : (e : Bool) → ended brk true (s.rest ++ M) ≡ e → Every (FirstIs P) (cut_lines brk ((s.rest ++ M) ++ closing e B))
    go true h = First-lines brk P ((s.rest ++ M) ++ []) (Every-append P (s.rest ++ M) [] both tt)
    go false h = First-open brk P (s.rest ++ M) B both h

  pub middle_lasts : (P : X → Type 0) (A M B : List X) (s : Split brk A) (e : Bool) → ended brk true (A ++ M) ≡ e → Every P M → Every P B → (M ++ B ≡ [] → ⊥)
      → Every (LastIs P) (cut_lines brk ((s.rest ++ M) ++ closing e B))
  middle_lasts P A M B s e h m b some = subst (λ (l : List X). Every (LastIs P) (cut_lines brk l)) (sym (append_assoc s.rest M (closing e B))) (go s.rest M B e s.rest_free (rest_ends A M s e h) m b some) where
    close : (B : List X) → Every P B → Every P (upto brk B)
    close B b = Every-left P (upto brk B) (after brk B) (subst (Every P) (sym (upto-after brk B)) b)

    closes : (e : Bool) (B : List X) → Every P B → Every P (closing e B)
    closes true B b = tt
    closes false B b = close B b

    go : (rest M B : List X) (e : Bool) → Every (λ x. brk x ≡ false) rest → ended brk true (rest ++ M) ≡ e → Every P M → Every P B → (M ++ B ≡ [] → ⊥) → Every (LastIs P) (cut_lines brk (rest ++ (M ++ closing e B)))
    go rest (x ∷ xs) B e free h m b some = Last-open brk P rest x (xs ++ closing e B) free (m.0, Every-append P xs (closing e B) m.1 (closes e B b))
    go [] [] B true free h m b some = tt
    go (t ∷ ts) [] B true free h m b some = absurd (true≢false (sym h ∙ ap (ended brk true) (append-nil (t ∷ ts)) ∙ free-ended brk t ts true free))
    go rest [] [] false free h m b some = absurd (some refl)
    go rest [] (x ∷ xs) false free h m b some = Last-open brk P rest x (cond (brk x) [] (upto brk xs)) free (close (x ∷ xs) b)

  left_nil : (xs ys : List X) → xs ++ ys ≡ [] → xs ≡ []
  left_nil [] ys h = refl
  left_nil (x ∷ xs) ys h = absurd (cc h)

  right_nil : (xs ys : List X) → xs ++ ys ≡ [] → ys ≡ []
  right_nil [] ys h = h
  right_nil (x ∷ xs) ys h = absurd (cc h)

  lines_nil : (xs : List X) → cut_lines brk xs ≡ [] → xs ≡ []
  lines_nil [] h = refl
  lines_nil (x ∷ xs) h = let r = lines-cons brk x xs in absurd (nope r.0 r.1 (sym r.2 ∙ h)) where
    nope : (l : List X) (ls : List (List X)) → l ∷ ls ≡ [] → ⊥
    nope l ls h = cc h

  -- where the middle has a row, it has a line
  pub middle_some : (A M B : List X) (s : Split brk A) (e : Bool) → ended brk true (A ++ M) ≡ e → (e ≡ true → M ≡ [] → ⊥) → cut_lines brk ((s.rest ++ M) ++ closing e B) ≡ [] → ⊥
  middle_some A M B s e h some none = go e (rest_ends A M s e h) some (left_nil (s.rest ++ M) (closing e B) (lines_nil ((s.rest ++ M) ++ closing e B) none)) where
    go : (e : Bool) → ended brk true (s.rest ++ M) ≡ e → (e ≡ true → M ≡ [] → ⊥) → s.rest ++ M ≡ [] → ⊥
    go true h some n = some refl (right_nil s.rest M n)
    go false h some n = true≢false (sym (ap (ended brk true) n) ∙ h)

  count_free : (xs : List X) → Every (λ x. brk x ≡ false) xs → length (filter brk xs) ≡ 0
  count_free [] a = refl
  count_free (x ∷ xs) a = (λ i. length (cond (a.0 i) (x ∷ filter brk xs) (filter brk xs))) ∙ count_free xs a.1

  -- a list that ends with a break has a line for each break
  pub lines-count : (xs : List X) → ended brk true xs ≡ true → length (cut_lines brk xs) ≡ length (filter brk xs)
  lines-count [] h = refl
  lines-count (t ∷ []) h = (λ i. length (cond (h i) ((t ∷ []) ∷ []) (onto_line t []))) ∙ (λ i. length (cond (sym h i) (t ∷ []) []))
  lines-count (t ∷ u ∷ us) h = go (brk t) (cut_lines brk (u ∷ us)) (lines-cons brk u us) (lines-count (u ∷ us) h) where
    on : (r : List (List X)) (l : List X) (ls : List (List X)) → r ≡ l ∷ ls → length (onto_line t r) ≡ length r
    on [] l ls e = absurd (cc e)
    on (m ∷ ms) l ls e = refl

    go : (b : Bool) (r : List (List X)) → ((l : List X) × (ls : List (List X)) × (r ≡ l ∷ ls)) → length r ≡ length (filter brk (u ∷ us)) → length (cond b ((t ∷ []) ∷ r) (onto_line t r)) ≡ length (cond b (t ∷ filter brk (u ∷ us)) (filter brk (u ∷ us)))
    go true r c h = ap suc h
    go false r c h = on r c.0 c.1 c.2 ∙ h

  -- the number of the first line that is touched
  pub front_count : (A : List X) (s : Split brk A) → length (cut_lines brk s.whole) ≡ length (filter brk A)
  front_count A s = lines-count s.whole s.whole_ended ∙ omega (arith, ap (λ (l : List X). length (filter brk l)) s.is, ap length (filter-append brk s.whole s.rest), length-append (filter brk s.whole) (filter brk s.rest), count_free s.rest s.rest_free)

  count-append : (xs ys : List X) → length (filter brk (xs ++ ys)) ≡ length (filter brk xs) + length (filter brk ys)
  count-append xs ys = ap length (filter-append brk xs ys) ∙ length-append (filter brk xs) (filter brk ys)

  -- the first line of a list that ends with a break has one break, at its end
  upto_one : (d e : Bool) (t : X) (ts : List X) → ended brk d (t ∷ ts) ≡ true → (length (filter brk (upto brk (t ∷ ts))) ≡ 1) × (ended brk e (upto brk (t ∷ ts)) ≡ true)
  upto_one d e t [] h = go (brk t) h where
    go : (b : Bool) → b ≡ true → (length (cond b (t ∷ filter brk (cond {A = List X} b [] [])) (filter brk (cond {A = List X} b [] []))) ≡ 1) × (ended brk b (cond {A = List X} b [] []) ≡ true)
    go true h = (refl, refl)
    go false h = absurd (false≢true h)
  upto_one d e t (u ∷ us) h = go (brk t) (upto_one (brk t) true u us h) (upto_one (brk t) false u us h) where
    go : (b : Bool) → (length (filter brk (upto brk (u ∷ us))) ≡ 1) × (ended brk true (upto brk (u ∷ us)) ≡ true) → (length (filter brk (upto brk (u ∷ us))) ≡ 1) × (ended brk false (upto brk (u ∷ us)) ≡ true)
        → (length (cond b (t ∷ filter brk (cond b [] (upto brk (u ∷ us)))) (filter brk (cond b [] (upto brk (u ∷ us))))) ≡ 1) × (ended brk b (cond b [] (upto brk (u ∷ us))) ≡ true)
    go true r r' = (refl, refl)
    go false r r' = r'

  -- the lines up to the end of the run: those that end in A and M, and one more where the last isn't finished there
  pub run_count : (A M B : List X) (s : Split brk A) (e : Bool) → ended brk true (A ++ M) ≡ e → ended brk true (A ++ (M ++ B)) ≡ true
      → length (cut_lines brk s.whole) + length (cut_lines brk ((s.rest ++ M) ++ closing e B)) ≡ length (filter brk (A ++ M)) + cond e 0 1
  run_count A M B s e h all =
      sym (length-append (cut_lines brk s.whole) (cut_lines brk ((s.rest ++ M) ++ closing e B)))
      ∙ ap length (sym (lines-append brk s.whole ((s.rest ++ M) ++ closing e B) s.whole_ended))
      ∙ ap (λ (l : List X). length (cut_lines brk l)) joined
      ∙ go e B h (sym (ended-append brk true (A ++ M) B) ∙ ap (ended brk true) (append_assoc A M B) ∙ all) where
        joined : s.whole ++ ((s.rest ++ M) ++ closing e B) ≡ (A ++ M) ++ closing e B
        joined = sym (append_assoc s.whole (s.rest ++ M) (closing e B)) ∙ ap (λ (l : List X). l ++ closing e B) (sym (append_assoc s.whole s.rest M) ∙ ap (λ (l : List X). l ++ M) (sym s.is))

        go : (e : Bool) (B : List X) → ended brk true (A ++ M) ≡ e → ended brk (ended brk true (A ++ M)) B ≡ true → length (cut_lines brk ((A ++ M) ++ closing e B)) ≡ length (filter brk (A ++ M)) + cond e 0 1
        go true B h all = ap (λ (l : List X). length (cut_lines brk l)) (append-nil (A ++ M)) ∙ lines-count (A ++ M) h ∙ omega arith
        go false [] h all = absurd (false≢true (sym h ∙ all))
        go false (t ∷ ts) h all =
            let u = upto_one (ended brk true (A ++ M)) (ended brk true (A ++ M)) t ts all in
            lines-count ((A ++ M) ++ upto brk (t ∷ ts)) (ended-append brk true (A ++ M) (upto brk (t ∷ ts)) ∙ u.1) ∙ count-append (A ++ M) (upto brk (t ∷ ts)) ∙ ap (λ k. length (filter brk (A ++ M)) + k) u.0

module _ {X : Type 0} (brk : X → Bool) (shift : X → X) (same : (x : X) → brk (shift x) ≡ brk x) where
  map-onto : (t : X) (r : List (List X)) → map (map shift) (onto_line t r) ≡ onto_line (shift t) (map (map shift) r)
  map-onto t [] = refl
  map-onto t (l ∷ ls) = refl

  pub lines-map : (xs : List X) → cut_lines brk (map shift xs) ≡ map (map shift) (cut_lines brk xs)
  lines-map [] = refl
  lines-map (t ∷ ts) =
      (λ i. cond (same t i) ((shift t ∷ []) ∷ lines-map ts i) (onto_line (shift t) (lines-map ts i))) ∙ go (brk t) where
        go : (b : Bool) → cond b ((shift t ∷ []) ∷ map (map shift) (cut_lines brk ts)) (onto_line (shift t) (map (map shift) (cut_lines brk ts))) ≡ map (map shift) (cond b ((t ∷ []) ∷ cut_lines brk ts) (onto_line t (cut_lines brk ts)))
        go true = refl
        go false = sym (map-onto t (cut_lines brk ts))

  pub further-map : (e : Bool) (B : List X) → further brk e (map shift B) ≡ map shift (further brk e B)
  further-map true B = refl
  further-map false [] = refl
  further-map false (t ∷ ts) = (λ i. cond (same t i) (map shift ts) (further-map false ts i)) ∙ go (brk t) where
    go : (b : Bool) → cond b (map shift ts) (map shift (after brk ts)) ≡ map shift (cond b ts (after brk ts))
    go true = refl
    go false = refl

-- one run of touched lines before and one after; before it the same lines, after it the same lines moved
pub record Counted {X : Type 0} (brk : X → Bool) (shift : X → X) (row row' : X → ℕ) (first last last' : ℕ) (before after : List X) : Type 0 where
  pub front : List (List X)
  pub middle : List (List X)
  pub middle' : List (List X)
  pub back : List (List X)
  pub before_is : cut_lines brk before ≡ front ++ (middle ++ back)
  pub after_is : cut_lines brk after ≡ front ++ (middle' ++ map (map shift) back)
  pub middle_some : middle ≡ [] → ⊥
  pub middle_some' : middle' ≡ [] → ⊥
  pub front_still : map (map shift) front ≡ front
  pub front_above : Every (LastIs (λ x. row x < first)) front
  pub front_above' : Every (LastIs (λ x. row' x < first)) front
  pub back_below : Every (FirstIs (λ x. last < row x)) back
  pub back_below' : Every (FirstIs (λ x. last' < row' x)) (map (map shift) back)
  pub middle_from : Every (FirstIs (λ x. row x ≤ last)) middle
  pub middle_to : Every (LastIs (λ x. first ≤ row x)) middle
  pub middle_from' : Every (FirstIs (λ x. row' x ≤ last')) middle'
  pub middle_to' : Every (LastIs (λ x. first ≤ row' x)) middle'

pub record Parts {X : Type 0} (row : X → ℕ) (first last : ℕ) (A M B : List X) : Type 0 where
  pub ordered : first ≤ last
  pub above : Every (λ x. row x < first) A
  pub within_from : Every (λ x. first ≤ row x) M
  pub within_to : Every (λ x. row x ≤ last) M
  pub below : Every (λ x. last < row x) B
  pub some : M ++ B ≡ [] → ⊥

-- one list by itself: its lines above, at and below the rows, and how many there are
pub record Touching {X : Type 0} (brk : X → Bool) (row : X → ℕ) (first last : ℕ) (xs : List X) (from to : ℕ) : Type 0 where
  pub front : List (List X)
  pub middle : List (List X)
  pub back : List (List X)
  pub is : cut_lines brk xs ≡ front ++ (middle ++ back)
  pub front_above : Every (LastIs (λ x. row x < first)) front
  pub middle_from : Every (FirstIs (λ x. row x ≤ last)) middle
  pub middle_to : Every (LastIs (λ x. first ≤ row x)) middle
  pub back_below : Every (FirstIs (λ x. last < row x)) back
  pub middle_some : middle ≡ [] → ⊥
  pub front_long : length front ≡ from
  pub run_long : length front + length middle ≡ to

module _ {X : Type 0} (brk : X → Bool) (row : X → ℕ) (first last : ℕ) where
  pub touching : (A M B : List X) → Parts row first last A M B → (ended brk true (A ++ M) ≡ true → M ≡ [] → ⊥) → ended brk true (A ++ (M ++ B)) ≡ true →
      Touching brk row first last (A ++ (M ++ B)) (length (filter brk A)) (length (filter brk (A ++ M)) + cond (ended brk true (A ++ M)) 0 1)
  touching A M B p line all = go (split brk A) (ended brk true (A ++ M)) refl where
    go : (s : Split brk A) (e : Bool) → ended brk true (A ++ M) ≡ e → Touching brk row first last (A ++ (M ++ B)) (length (filter brk A)) (length (filter brk (A ++ M)) + cond e 0 1)
    go s e h = record {
      front = cut_lines brk s.whole;
      middle = cut_lines brk ((s.rest ++ M) ++ closing brk e B);
      back = cut_lines brk (further brk e B);
      is = three brk A M B s e h;
      front_above = Last-lines brk (λ x. row x < first) s.whole (Every-left (λ x. row x < first) s.whole s.rest (subst (Every (λ x. row x < first)) s.is p.above));
      middle_from = middle_firsts brk (λ x. row x ≤ last) A M B s e h (Every-mono (λ x. row x < first) (λ x. row x ≤ last) A (λ x l. omega (arith, p.ordered)) p.above) p.within_to;
      middle_to = middle_lasts brk (λ x. first ≤ row x) A M B s e h p.within_from (Every-mono (λ x. last < row x) (λ x. first ≤ row x) B (λ x l. omega (arith, p.ordered)) p.below) p.some;
      back_below = First-lines brk (λ x. last < row x) (further brk e B) (Every-right (λ x. last < row x) (closing brk e B) (further brk e B) (subst (Every (λ x. last < row x)) (sym (closing-further brk e B)) p.below));
      middle_some = λ n. middle_some brk A M B s e h (λ t. line (h ∙ t)) n;
      front_long = front_count brk A s;
      run_long = run_count brk A M B s e h all;
    }

module _ {X : Type 0} (brk : X → Bool) (shift : X → X) (same : (x : X) → brk (shift x) ≡ brk x) (row row' : X → ℕ) (first last last' : ℕ) where
  pub counted : (A M M' B : List X) → Every (λ x. shift x ≡ x) A → Parts row first last A M B → Parts row' first last' A M' (map shift B) → ended brk true (A ++ M') ≡ ended brk true (A ++ M)
      → (ended brk true (A ++ M) ≡ true → M ≡ [] → ⊥) → (ended brk true (A ++ M) ≡ true → M' ≡ [] → ⊥)
      → Counted brk shift row row' first last last' (A ++ (M ++ B)) (A ++ (M' ++ map shift B))
  counted A M M' B still p p' ends line line' = go (split brk A) (ended brk true (A ++ M)) refl where
    go : (s : Split brk A) (e : Bool) → ended brk true (A ++ M) ≡ e → Counted brk shift row row' first last last' (A ++ (M ++ B)) (A ++ (M' ++ map shift B))
    go s e h = record {
      front = cut_lines brk s.whole;
      middle = cut_lines brk ((s.rest ++ M) ++ closing brk e B);
      middle' = cut_lines brk ((s.rest ++ M') ++ closing brk e (map shift B));
      back = cut_lines brk (further brk e B);
      before_is = three brk A M B s e h;
      after_is = three brk A M' (map shift B) s e (ends ∙ h) ∙ ap (λ (l : List (List X)). cut_lines brk s.whole ++ (cut_lines brk ((s.rest ++ M') ++ closing brk e (map shift B)) ++ l)) moved;
      middle_some = λ n. middle_some brk A M B s e h (λ t. line (h ∙ t)) n;
      middle_some' = λ n. middle_some brk A M' (map shift B) s e (ends ∙ h) (λ t. line' (h ∙ t)) n;
      front_still = sym (lines-map brk shift same s.whole) ∙ ap (cut_lines brk) (fixed s.whole (Every-left (λ x. shift x ≡ x) s.whole s.rest (subst (Every (λ x. shift x ≡ x)) s.is still)));
      front_above = Last-lines brk (λ x. row x < first) s.whole (Every-left (λ x. row x < first) s.whole s.rest (subst (Every (λ x. row x < first)) s.is p.above));
      front_above' = Last-lines brk (λ x. row' x < first) s.whole (Every-left (λ x. row' x < first) s.whole s.rest (subst (Every (λ x. row' x < first)) s.is p'.above));
      back_below = First-lines brk (λ x. last < row x) (further brk e B) (Every-right (λ x. last < row x) (closing brk e B) (further brk e B) (subst (Every (λ x. last < row x)) (sym (closing-further brk e B)) p.below));
      back_below' = subst (Every (FirstIs (λ x. last' < row' x))) moved (First-lines brk (λ x. last' < row' x) (further brk e (map shift B)) (Every-right (λ x. last' < row' x) (closing brk e (map shift B)) (further brk e (map shift B)) (subst (Every (λ x. last' < row' x)) (sym (closing-further brk e (map shift B))) p'.below)));
      middle_from = middle_firsts brk (λ x. row x ≤ last) A M B s e h (Every-mono (λ x. row x < first) (λ x. row x ≤ last) A (λ x l. omega (arith, p.ordered)) p.above) p.within_to;
      middle_from' = middle_firsts brk (λ x. row' x ≤ last') A M' (map shift B) s e (ends ∙ h) (Every-mono (λ x. row' x < first) (λ x. row' x ≤ last') A (λ x l. omega (arith, p'.ordered)) p'.above) p'.within_to;
      middle_to = middle_lasts brk (λ x. first ≤ row x) A M B s e h p.within_from (Every-mono (λ x. last < row x) (λ x. first ≤ row x) B (λ x l. omega (arith, p.ordered)) p.below) p.some;
      middle_to' = middle_lasts brk (λ x. first ≤ row' x) A M' (map shift B) s e (ends ∙ h) p'.within_from (Every-mono (λ x. last' < row' x) (λ x. first ≤ row' x) (map shift B) (λ x l. omega (arith, p'.ordered)) p'.below) p'.some;
    } where
      fixed : (xs : List X) → Every (λ x. shift x ≡ x) xs → map shift xs ≡ xs
      fixed [] a = refl
      fixed (x ∷ xs) a = λ i. a.0 i ∷ fixed xs a.1 i

      moved : cut_lines brk (further brk e (map shift B)) ≡ map (map shift) (cut_lines brk (further brk e B))
      moved = ap (cut_lines brk) (further-map brk shift same e B) ∙ lines-map brk shift same (further brk e B)
