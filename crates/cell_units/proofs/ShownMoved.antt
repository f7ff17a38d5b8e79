-- What an offset away from an edit shows before and after it.
use Rattle.cell_units.specs.Sorting.{insert_by, sort_by}
use Rattle.std.proofs.Common.{◌≡◌, ℕ, ◌+◌, ◌-◌, ◌<◌, ◌≤◌, Bool, true, false, cond, eqb, ltb, leb, List, [], ◌∷◌, ◌++◌, length, map, refl, sym, ap, ◌∙◌, arith, append_assoc}
use mathlib.Core.Bool.{◌&&◌, ◌||◌}
use Rattle.std.specs.List.{list_any, filter, flat_map}
use Rattle.std.proofs.lemmas.Bool.{false≢true, lt-ltb, le-leb, ltb-true, leb-true, eqb-true, and_parts, and_from}
use Rattle.cell_units.proofs.EntryOrders.{in_order_here, in_order_rest, inlay_total, inlay_trans}
use Rattle.cell_units.specs.Anchor.{move}
use Rattle.cell_units.proofs.SortedLists.{IsSorted, filter-moved_sort}
use Rattle.std.proofs.lemmas.List.{append-nil, map-append, map-id}
use Rattle.cell_units.specs.declared.place.Bias.TheVariants.{Left, Right}
use Rattle.cell_units.specs.Text.{line_feed, clean}
use Rattle.cell_units.specs.Record.{Inlay, Fold, inlay_le, fold_le}
use Rattle.cell_units.specs.Operation.{move_inlay, move_fold, moved_inlays, moved_folds}
use Rattle.cell_units.specs.Inlaid.{Token, Byte, InlayByte, Hidden, offset_of, is_break, inlay_bytes, inlays_at, show_each}
use Rattle.cell_units.specs.Folded.{inside, covered, shown}
use Rattle.cell_units.proofs.CutLists.{Every, Every-append, ended, ended-append}
use Rattle.cell_units.proofs.Moves.{move_token, move-below, move-above, before_lt, before_gt, behind_lt, behind_gt, before_le, behind_le, before_eq, behind_eq}

-- a test that holds only of what is kept is not changed by what is dropped
any_moved : {X : Type 0} (mv : X → X) (keep p p' : X → Bool) → ((x : X) → p' (mv x) ≡ p x) → ((x : X) → p' x ≡ true → keep x ≡ true) → (xs : List X)
    → list_any p' (filter keep (map mv xs)) ≡ list_any p xs
any_moved mv keep p p' same kept [] = refl
any_moved mv keep p p' same kept (x ∷ xs) = go (keep (mv x)) refl (any_moved mv keep p p' same kept xs) where
  drop : (c d : Bool) → (c ≡ true → false ≡ true) → d ≡ (c || d)
  drop true d h = absurd (false≢true (h refl))
  drop false d h = refl

  go : (k : Bool) → keep (mv x) ≡ k → list_any p' (filter keep (map mv xs)) ≡ list_any p xs → list_any p' (cond k (mv x ∷ filter keep (map mv xs)) (filter keep (map mv xs))) ≡ (p x || list_any p xs)
  go true e rest = λ i. same x i || rest i
  go false e rest = rest ∙ drop (p x) (list_any p xs) (λ h. sym e ∙ kept (mv x) (same x ∙ h))

any-insert : {X : Type 0} (le : X → X → Bool) (p : X → Bool) (x : X) (ys : List X) → list_any p (insert_by le x ys) ≡ (p x || list_any p ys)
any-insert le p x [] = refl
any-insert le p x (y ∷ ys) = go (le x y) (any-insert le p x ys) where
  swap : (c d r : Bool) → (c || (d || r)) ≡ (d || (c || r))
  swap true true r = refl
  swap true false r = refl
  swap false true r = refl
  swap false false r = refl

  go : (b : Bool) → list_any p (insert_by le x ys) ≡ (p x || list_any p ys) → list_any p (cond b (x ∷ y ∷ ys) (y ∷ insert_by le x ys)) ≡ (p x || (p y || list_any p ys))
  go true r = refl
  go false r = ap (λ (c : Bool). p y || c) r ∙ swap (p y) (p x) (list_any p ys)

-- a sort changes no test of any
any-sort : {X : Type 0} (le : X → X → Bool) (p : X → Bool) (xs : List X) → list_any p (sort_by le xs) ≡ list_any p xs
any-sort le p [] = refl
any-sort le p (x ∷ xs) = any-insert le p x (sort_by le xs) ∙ ap (λ (c : Bool). p x || c) (any-sort le p xs)

any_moved_sorted : (mv : Fold → Fold) (keep p p' : Fold → Bool) → ((x : Fold) → p' (mv x) ≡ p x) → ((x : Fold) → p' x ≡ true → keep x ≡ true) → (xs : List Fold)
    → list_any p' (sort_by fold_le (filter keep (map mv xs))) ≡ list_any p xs
any_moved_sorted mv keep p p' same kept xs = any-sort fold_le p' (filter keep (map mv xs)) ∙ any_moved mv keep p p' same kept xs

any_mono : {X : Type 0} (p q : X → Bool) → ((x : X) → p x ≡ true → q x ≡ true) → (xs : List X) → list_any p xs ≡ true → list_any q xs ≡ true
any_mono p q f [] h = h
any_mono p q f (x ∷ xs) h = go (p x) (q x) (f x) h (any_mono p q f xs) where
  right : (d : Bool) → (d || true) ≡ true
  right true = refl
  right false = refl

  go : (c d : Bool) → (c ≡ true → d ≡ true) → (c || list_any p xs) ≡ true → (list_any p xs ≡ true → list_any q xs ≡ true) → (d || list_any q xs) ≡ true
  go true d g h rest = ap (λ (y : Bool). y || list_any q xs) (g refl)
  go false d g h rest = ap (λ (y : Bool). d || y) (rest h) ∙ right d

flat_map-moved : {X : Type 0} (p : X → Bool) (mv : X → X) (g : X → List Token) (sh : Token → Token) → ((x : X) → p x ≡ true → g (mv x) ≡ map sh (g x)) → (xs : List X) → flat_map g (map mv (filter p xs)) ≡ map sh (flat_map g (filter p xs))
flat_map-moved p mv g sh to [] = refl
flat_map-moved p mv g sh to (x ∷ xs) = go (p x) refl (flat_map-moved p mv g sh to xs) where
  go : (b : Bool) → p x ≡ b → flat_map g (map mv (filter p xs)) ≡ map sh (flat_map g (filter p xs)) → flat_map g (map mv (cond b (x ∷ filter p xs) (filter p xs))) ≡ map sh (flat_map g (cond b (x ∷ filter p xs) (filter p xs)))
  go true h rest = (λ i. to x h i ++ rest i) ∙ sym (map-append sh (g x) (flat_map g (filter p xs)))
  go false h rest = rest

parts_map : (f g : ℕ → Token) (sh : Token → Token) → ((c : ℕ) → f c ≡ sh (g c)) → (xs : List ℕ) → map f xs ≡ map sh (map g xs)
parts_map f g sh e [] = refl
parts_map f g sh e (x ∷ xs) = λ i. e x i ∷ parts_map f g sh e xs i

module _ (a b n : ℕ) (ab : a ≤ b) (folds : List Fold) (inlays : List Inlay) (sorted : IsSorted inlay_le inlays) where
  lt_kept : (o : ℕ) (f : Fold) → (ltb f.start o && ltb o f.end) ≡ true → ltb f.start f.end ≡ true
  lt_kept o f h = let p = and_parts (ltb f.start o) (ltb o f.end) h in lt-ltb f.start f.end (omega (arith, ltb-true f.start o p.0, ltb-true o f.end p.1))

  le_kept : (o : ℕ) (f : Fold) → (leb f.start o && ltb o f.end) ≡ true → ltb f.start f.end ≡ true
  le_kept o f h = let p = and_parts (leb f.start o) (ltb o f.end) h in lt-ltb f.start f.end (omega (arith, leb-true f.start o p.0, ltb-true o f.end p.1))

  pub inside_before : (o : ℕ) → o < a → inside (moved_folds a b n folds) o ≡ inside folds o
  inside_before o h = any_moved_sorted (move_fold a b n) (λ f. ltb f.start f.end) (λ f. ltb f.start o && ltb o f.end) (λ f. ltb f.start o && ltb o f.end)
      (λ f i. before_lt f.start Right a b n ab o h i && before_gt f.end Left a b n ab o h i) (lt_kept o) folds

  pub covered_before : (o : ℕ) → o < a → covered (moved_folds a b n folds) o ≡ covered folds o
  covered_before o h = any_moved_sorted (move_fold a b n) (λ f. ltb f.start f.end) (λ f. leb f.start o && ltb o f.end) (λ f. leb f.start o && ltb o f.end)
      (λ f i. before_le f.start Right a b n ab o h i && before_gt f.end Left a b n ab o h i) (le_kept o) folds

  pub inside_behind : (o : ℕ) → b < o → inside (moved_folds a b n folds) (o + n - (b - a)) ≡ inside folds o
  inside_behind o h = any_moved_sorted (move_fold a b n) (λ f. ltb f.start f.end) (λ f. ltb f.start o && ltb o f.end) (λ f. ltb f.start (o + n - (b - a)) && ltb (o + n - (b - a)) f.end)
      (λ f i. behind_lt f.start Right a b n ab o h i && behind_gt f.end Left a b n ab o (omega arith) i) (lt_kept (o + n - (b - a))) folds

  pub covered_behind : (o : ℕ) → b ≤ o → covered (moved_folds a b n folds) (o + n - (b - a)) ≡ covered folds o
  covered_behind o h = any_moved_sorted (move_fold a b n) (λ f. ltb f.start f.end) (λ f. leb f.start o && ltb o f.end) (λ f. leb f.start (o + n - (b - a)) && ltb (o + n - (b - a)) f.end)
      (λ f i. behind_le f.start Right a b n ab o h i && behind_gt f.end Left a b n ab o h i) (le_kept (o + n - (b - a))) folds

  at_one : (o : ℕ) (x y : Inlay) → ((z : Inlay) → eqb z.offset o ≡ true → eqb (move_inlay a b n z).offset (move o Right a b n) ≡ true) → eqb x.offset o ≡ true → eqb y.offset o ≡ true → inlay_le x y ≡ true → inlay_le (move_inlay a b n x) (move_inlay a b n y) ≡ true
  at_one o x y to h k l = in_order_here (move_inlay a b n x).offset (move_inlay a b n y).offset _ (omega (arith, eqb-true _ _ (to x h), eqb-true _ _ (to y k)))
      (in_order_rest x.offset y.offset _ (omega (arith, eqb-true x.offset o h, eqb-true y.offset o k)) l)

  pub inlays_before : (o : ℕ) → o < a → inlays_at (moved_inlays a b n inlays) o ≡ inlays_at inlays o
  inlays_before o h =
      ap (flat_map inlay_bytes) (filter-moved_sort inlay_le inlay_total inlay_trans (move_inlay a b n) (λ i. eqb i.offset o) (λ i. eqb i.offset o)
      (λ x. before_eq x.offset x.bias a b n ab o h)
      (λ x y. at_one o x y (λ z e. ap (eqb (move_inlay a b n z).offset) (move-below o Right a b n h) ∙ before_eq z.offset z.bias a b n ab o h ∙ e)) inlays sorted)
      ∙ flat_map-moved (λ i. eqb i.offset o) (move_inlay a b n) inlay_bytes (λ t. t) stays inlays
      ∙ map-id (inlays_at inlays o) where
        stays : (x : Inlay) → eqb x.offset o ≡ true → inlay_bytes (move_inlay a b n x) ≡ map (λ t. t) (inlay_bytes x)
        stays x e =
            parts_map (λ c. InlayByte (move x.offset x.bias a b n) x.id c) (λ c. InlayByte x.offset x.id c) (λ t. t)
            (λ c. ap (λ k. InlayByte k x.id c) (move-below x.offset x.bias a b n (omega (arith, eqb-true x.offset o e)))) (clean x.text)

  pub inlays_behind : (o : ℕ) → b < o → inlays_at (moved_inlays a b n inlays) (o + n - (b - a)) ≡ map (move_token a b n) (inlays_at inlays o)
  inlays_behind o h =
      ap (flat_map inlay_bytes) (filter-moved_sort inlay_le inlay_total inlay_trans (move_inlay a b n) (λ i. eqb i.offset o) (λ i. eqb i.offset (o + n - (b - a)))
      (λ x. behind_eq x.offset x.bias a b n ab o h)
      (λ x y. at_one o x y (λ z e. ap (eqb (move_inlay a b n z).offset) (move-above o Right a b n ab h) ∙ behind_eq z.offset z.bias a b n ab o h ∙ e)) inlays sorted)
      ∙ flat_map-moved (λ i. eqb i.offset o) (move_inlay a b n) inlay_bytes (move_token a b n) goes inlays where
        goes : (x : Inlay) → eqb x.offset o ≡ true → inlay_bytes (move_inlay a b n x) ≡ map (move_token a b n) (inlay_bytes x)
        goes x e =
            let l : b < x.offset = omega (arith, eqb-true x.offset o e) in
            parts_map (λ c. InlayByte (move x.offset x.bias a b n) x.id c) (λ c. InlayByte x.offset x.id c) (move_token a b n)
            (λ c. ap (λ k. InlayByte k x.id c) (move-above x.offset x.bias a b n ab l ∙ sym (move-above x.offset Right a b n ab l))) (clean x.text)

  pub shown_before : (o c : ℕ) → o < a → shown (moved_inlays a b n inlays) (moved_folds a b n folds) o c ≡ shown inlays folds o c
  shown_before o c h = λ i. cond (inside_before o h i) [] (inlays_before o h i ++ cond (covered_before o h i) (Hidden o) (Byte o c) ∷ [])

  pub shown_behind : (o c : ℕ) → b < o → shown (moved_inlays a b n inlays) (moved_folds a b n folds) (o + n - (b - a)) c ≡ map (move_token a b n) (shown inlays folds o c)
  shown_behind o c h =
      (λ i. cond (inside_behind o h i) [] (inlays_behind o h i ++ cond (covered_behind o (omega arith) i) (Hidden (o + n - (b - a))) (Byte (o + n - (b - a)) c) ∷ []))
      ∙ go (inside folds o) (covered folds o) where
        own : (d : Bool) → cond d (Hidden (o + n - (b - a))) (Byte (o + n - (b - a)) c) ≡ move_token a b n (cond d (Hidden o) (Byte o c))
        own true = ap Hidden (sym (move-above o Right a b n ab h))
        own false = ap (λ k. Byte k c) (sym (move-above o Right a b n ab h))

        go : (e d : Bool) → cond e [] (map (move_token a b n) (inlays_at inlays o) ++ cond d (Hidden (o + n - (b - a))) (Byte (o + n - (b - a)) c) ∷ [])
            ≡ map (move_token a b n) (cond e [] (inlays_at inlays o ++ cond d (Hidden o) (Byte o c) ∷ []))
        go true d = refl
        go false d = (λ i. map (move_token a b n) (inlays_at inlays o) ++ own d i ∷ []) ∙ sym (map-append (move_token a b n) (inlays_at inlays o) (cond d (Hidden o) (Byte o c) ∷ []))

module _ (g : ℕ → ℕ → List Token) where
  pub show_each-append : (o : ℕ) (xs ys : List ℕ) → show_each g o (xs ++ ys) ≡ show_each g o xs ++ show_each g (o + length xs) ys
  show_each-append o [] ys = ap (λ k. show_each g k ys) (omega arith)
  show_each-append o (x ∷ xs) ys =
      ap (λ (l : List Token). g o x ++ l) (show_each-append (o + 1) xs ys) ∙ sym (append_assoc (g o x) (show_each g (o + 1) xs) (show_each g (o + 1 + length xs) ys))
      ∙ ap (λ k. (g o x ++ show_each g (o + 1) xs) ++ show_each g k ys) (omega arith)

  pub Every-show_each : (P : Token → Type 0) (o : ℕ) (xs : List ℕ) → ((k c : ℕ) → o ≤ k → k < o + length xs → Every P (g k c)) → Every P (show_each g o xs)
  Every-show_each P o [] f = tt
  Every-show_each P o (x ∷ xs) f = Every-append P (g o x) (show_each g (o + 1) xs) (f o x (omega arith) (omega arith)) (Every-show_each P (o + 1) xs (λ k c h l. f k c (omega arith) (omega arith)))

  pub show_each-same : (g' : ℕ → ℕ → List Token) (o : ℕ) (xs : List ℕ) → ((k c : ℕ) → k < o + length xs → g' k c ≡ g k c) → show_each g' o xs ≡ show_each g o xs
  show_each-same g' o [] f = refl
  show_each-same g' o (x ∷ xs) f = λ i. f o x (omega arith) i ++ show_each-same g' (o + 1) xs (λ k c l. f k c (omega arith)) i

  pub show_each-moved : (g' : ℕ → ℕ → List Token) (sh : Token → Token) (n m o o' : ℕ) (xs : List ℕ) → m ≤ o → o' ≡ o + n - m → ((k c : ℕ) → o ≤ k → g' (k + n - m) c ≡ map sh (g k c)) → show_each g' o' xs ≡ map sh (show_each g o xs)
  show_each-moved g' sh n m o o' [] h e f = refl
  show_each-moved g' sh n m o o' (x ∷ xs) h e f =
      (λ i. g' (e i) x ++ show_each g' (o' + 1) xs)
      ∙ (λ i. f o x (omega arith) i ++ show_each-moved g' sh n m (o + 1) (o' + 1) xs (omega arith) (omega arith) (λ k c l. f k c (omega arith)) i)
      ∙ sym (map-append sh (g o x) (show_each g (o + 1) xs))

pub Every-shown : (inlays : List Inlay) (folds : List Fold) (o c : ℕ) → Every (λ t. offset_of t ≡ o) (shown inlays folds o c)
Every-shown inlays folds o c = go (inside folds o) (covered folds o) where
  P : Token → Type 0
  P t = offset_of t ≡ o

  parts : (k i : ℕ) → k ≡ o → (xs : List ℕ) → Every (λ t. offset_of t ≡ o) (map (λ b. InlayByte k i b) xs)
  parts k i e [] = tt
  parts k i e (x ∷ xs) = (e, parts k i e xs)

  each : (is : List Inlay) → Every (λ t. offset_of t ≡ o) (flat_map inlay_bytes (filter (λ i. eqb i.offset o) is))
  each [] = tt
  each (i ∷ is) = at (eqb i.offset o) refl (each is) where
    at : (d : Bool) → eqb i.offset o ≡ d → Every (λ t. offset_of t ≡ o) (flat_map inlay_bytes (filter (λ i. eqb i.offset o) is)) →
        Every (λ t. offset_of t ≡ o) (flat_map inlay_bytes (cond d (i ∷ filter (λ i. eqb i.offset o) is) (filter (λ i. eqb i.offset o) is)))
    at true e rest =
        Every-append (λ t. offset_of t ≡ o) (inlay_bytes i) (flat_map inlay_bytes (filter (λ i. eqb i.offset o) is))
        (parts i.offset i.id (eqb-true i.offset o e) (clean i.text)) rest
    at false e rest = rest

  own : (d : Bool) → offset_of (cond d (Hidden o) (Byte o c)) ≡ o
  own true = refl
  own false = refl

  go : (e d : Bool) → Every (λ t. offset_of t ≡ o) (cond e [] (inlays_at inlays o ++ cond d (Hidden o) (Byte o c) ∷ []))
  go true d = tt
  go false d = Every-append (λ t. offset_of t ≡ o) (inlays_at inlays o) (cond d (Hidden o) (Byte o c) ∷ [])
      (each inlays)
      (own d, tt)

module _ (inlays : List Inlay) (folds : List Fold) where
  pub inside_covered : (o : ℕ) → inside folds o ≡ true → covered folds o ≡ true
  inside_covered o = any_mono (λ f. ltb f.start o && ltb o f.end) (λ f. leb f.start o && ltb o f.end)
      (λ f h. let p = and_parts (ltb f.start o) (ltb o f.end) h in and_from (leb f.start o) (ltb o f.end) (le-leb f.start o (omega (arith, ltb-true f.start o p.0))) p.1) folds

  inside_next : (o : ℕ) → inside folds (o + 1) ≡ true → covered folds o ≡ true
  inside_next o = any_mono (λ f. ltb f.start (o + 1) && ltb (o + 1) f.end) (λ f. leb f.start o && ltb o f.end)
      (λ f h. let p = and_parts (ltb f.start (o + 1)) (ltb (o + 1) f.end) h in
      and_from (leb f.start o) (ltb o f.end) (le-leb f.start o (omega (arith, ltb-true f.start (o + 1) p.0))) (lt-ltb o f.end (omega (arith, ltb-true (o + 1) f.end p.1)))) folds

  inside_zero : inside folds 0 ≡ true → ⊥
  inside_zero h = none folds (any_mono (λ f. ltb f.start 0 && ltb 0 f.end) (λ f. false) (λ f h. absurd (omega (arith, ltb-true f.start 0 (and_parts (ltb f.start 0) (ltb 0 f.end) h).0))) folds h) where
    none : (fs : List Fold) → list_any (λ (f : Fold). false) fs ≡ true → ⊥
    none [] h = false≢true h
    none (f ∷ fs) h = none fs h

  -- the last that is shown up to an offset ends a line where the byte there is shown and is a line break
  ended-shown : (e : Bool) (o c : ℕ) → (inside folds o ≡ true → e ≡ false) → ended is_break e (shown inlays folds o c) ≡ cond (covered folds o) false (eqb c line_feed)
  ended-shown e o c h = go (inside folds o) refl where
    own : (d : Bool) → is_break (cond d (Hidden o) (Byte o c)) ≡ cond d false (eqb c line_feed)
    own true = refl
    own false = refl

    go : (i : Bool) → inside folds o ≡ i → ended is_break e (cond i [] (inlays_at inlays o ++ cond (covered folds o) (Hidden o) (Byte o c) ∷ [])) ≡ cond (covered folds o) false (eqb c line_feed)
    go true is = h is ∙ ap (λ (d : Bool). cond d false (eqb c line_feed)) (sym (inside_covered o is))
    go false is = ended-append is_break e (inlays_at inlays o) (cond (covered folds o) (Hidden o) (Byte o c) ∷ []) ∙ own (covered folds o)

  ended-from : (e : Bool) (o c : ℕ) (xs : List ℕ) → (inside folds o ≡ true → e ≡ false) → ended is_break e (show_each (shown inlays folds) o (xs ++ c ∷ [])) ≡ cond (covered folds (o + length xs)) false (eqb c line_feed)
  ended-from e o c [] h = ap (ended is_break e) (append-nil (shown inlays folds o c)) ∙ ended-shown e o c h ∙ ap (λ k. cond (covered folds k) false (eqb c line_feed)) (omega arith)
  ended-from e o c (x ∷ xs) h =
      ended-append is_break e (shown inlays folds o x) (show_each (shown inlays folds) (o + 1) (xs ++ c ∷ []))
      ∙ ended-from (ended is_break e (shown inlays folds o x)) (o + 1) c xs (λ i. ended-shown e o x h ∙ ap (λ (d : Bool). cond d false (eqb x line_feed)) (inside_next o i))
      ∙ ap (λ k. cond (covered folds k) false (eqb c line_feed)) (omega arith)

  pub ended-each : (c : ℕ) (xs : List ℕ) → ended is_break true (show_each (shown inlays folds) 0 (xs ++ c ∷ [])) ≡ cond (covered folds (length xs)) false (eqb c line_feed)
  ended-each c xs = ended-from true 0 c xs (λ i. absurd (inside_zero i)) ∙ ap (λ k. cond (covered folds k) false (eqb c line_feed)) (omega arith)

  -- what is shown up to an offset that is strictly inside ends in no break
  ended-within : (e : Bool) (o : ℕ) (xs : List ℕ) → (inside folds o ≡ true → e ≡ false) → inside folds (o + length xs) ≡ true → ended is_break e (show_each (shown inlays folds) o xs) ≡ false
  ended-within e o [] h is = h (ap (inside folds) (omega arith) ∙ is)
  ended-within e o (x ∷ xs) h is =
      ended-append is_break e (shown inlays folds o x) (show_each (shown inlays folds) (o + 1) xs)
      ∙ ended-within (ended is_break e (shown inlays folds o x)) (o + 1) xs (λ i. ended-shown e o x h ∙ ap (λ (d : Bool). cond d false (eqb x line_feed)) (inside_next o i)) (ap (inside folds) (omega arith) ∙ is)

  pub ended-inside : (xs : List ℕ) → inside folds (length xs) ≡ true → ended is_break true (show_each (shown inlays folds) 0 xs) ≡ false
  ended-inside xs is = ended-within true 0 xs (λ i. absurd (inside_zero i)) (ap (inside folds) (omega arith) ∙ is)

  -- an offset that no fold hides shows something
  pub shown-some : (o c : ℕ) → covered folds o ≡ false → shown inlays folds o c ≡ [] → ⊥
  shown-some o c free e = go (inside folds o) refl e where
    behind : (xs : List Token) (t : Token) → xs ++ t ∷ [] ≡ [] → ⊥
    behind [] t e = (cc e)
    behind (x ∷ xs) t e = (cc e)

    go : (i : Bool) → inside folds o ≡ i → cond i [] (inlays_at inlays o ++ cond (covered folds o) (Hidden o) (Byte o c) ∷ []) ≡ [] → ⊥
    go true is e = false≢true (sym free ∙ inside_covered o is)
    go false is e = behind (inlays_at inlays o) (cond (covered folds o) (Hidden o) (Byte o c)) e
