-- What the entries mean after some of them were replaced.
use Rattle.std.proofs.Common.{◌≡◌, ℕ, zero, suc, ◌+◌, ◌-◌, ◌<◌, ◌≤◌, ◌^◌, List, [], ◌∷◌, ◌++◌, length, map, take, drop, Some, Result, Ok, Err, IfOk, OnOk, OnErr, refl, sym, ap, subst, ◌∙◌, arith, add-one, append_assoc, ◌⊎◌, inl, inr}
use Rattle.std.specs.List.{All, slice_get}
use Rattle.std.proofs.lemmas.List.{length-drop}
use Rattle.std.proofs.lemmas.List.Elements.{All-head, All-tail}
use Rattle.cell_units.specs.declared.place.Shift.{Shift}
use Rattle.mark_tree.specs.declared.entry.Entry.{Entry}
use Rattle.mark_tree.specs.declared.entry.Placed.{Placed}
use Rattle.mark_tree.specs.Extents.{end_of}
use Rattle.mark_tree.specs.Entries.{extent_over, placed_from, coded, end_at, last_offset, IsSpaced, IsCodable, IsRefill, shifted, spliced}
use Rattle.mark_tree.proofs.Coding.{length-placed, placed-append, placed-take, placed-drop, placed-coded, last-append, spaced-left, spaced-right, end-placed, shifted-placed}

-- what holds of both outcomes of a call that leaves a value as it was at `Err`
pub either : {X T E : Type 0} (Q : X → Type 0) (r : Result T E) (new a b : X) → OnOk r (new ≡ a) → OnErr r (new ≡ b) → Q a → Q b → Q new
either Q (Ok t) new a b ok err p q = subst Q (sym ok) p
either Q (Err e) new a b ok err p q = subst Q (sym err) q

pub map-at_ok : {X Y T E : Type 0} (f : X → Y) (r : Result T E) (new a : X) (b : Y) → OnOk r (new ≡ a) → f a ≡ b → OnOk r (f new ≡ b)
map-at_ok f (Ok t) new a b ok is = ap f ok ∙ is
map-at_ok f (Err e) new a b ok is = tt

pub map-at_err : {X Y T E : Type 0} (f : X → Y) (r : Result T E) (new a : X) (b : Y) → OnErr r (new ≡ a) → f a ≡ b → OnErr r (f new ≡ b)
map-at_err f (Ok t) new a b err is = tt
map-at_err f (Err e) new a b err is = ap f err ∙ is

pub ok-maps : {T E : Type 0} (A B : T → Type 0) (r : Result T E) → ((x : T) → A x → B x) → IfOk r A → IfOk r B
ok-maps A B (Ok x) f a = f x a
ok-maps A B (Err e) f a = tt

pub ok-weaker : {A B : Type 0} {T E : Type 0} (r : Result T E) → (A → B) → OnOk r A → OnOk r B
ok-weaker (Ok t) f a = f a
ok-weaker (Err e) f a = tt

drop-all : {X : Type 0} (xs : List X) (n : ℕ) → length xs ≤ n → drop n xs ≡ []
drop-all xs n le = nothing (drop n xs) (omega (arith, length-drop n xs)) where
  nothing : {X : Type 0} (ys : List X) → length ys ≡ 0 → ys ≡ []
  nothing [] e = refl
  nothing (y ∷ ys) e = absurd (omega arith)

some-same : {X : Type 0} (x y : X) → Some x ≡ Some y → x ≡ y
some-same x y e = cc

pub drop-at : {X : Type 0} (xs : List X) (n : ℕ) (x : X) → slice_get xs n ≡ Some x → drop n xs ≡ x ∷ drop (n + 1) xs
drop-at xs n x e = rw (add-one) (go xs n x e) where
  go : {X : Type 0} (ys : List X) (m : ℕ) (y : X) → slice_get ys m ≡ Some y → drop m ys ≡ y ∷ drop (suc m) ys
  go [] m y f = absurd (cc)
  go (z ∷ ys) zero y f = cc
  go (z ∷ ys) (suc m) y f = go ys m y f

-- the first of those from a place on
pub head-drop : {X : Type 0} (Q : X → Type 0) (xs : List X) (n : ℕ) (x : X) → slice_get xs n ≡ Some x → All Q (drop n xs) → Q x
head-drop Q xs n x e all = All-head Q x (drop (n + 1) xs) (subst (All Q) (drop-at xs n x e) all)

pub all-right : {X : Type 0} (Q : X → Type 0) (xs ys : List X) → All Q (xs ++ ys) → All Q ys
all-right Q [] ys all = all
all-right Q (x ∷ xs) ys all = all-right Q xs ys (All-tail Q x (xs ++ ys) all)

less-or-all : (m n : ℕ) → (m < n) ⊎ (n ≤ m)
less-or-all m n = grind arith

module _ {P : Type 0} where
  placed-behind : (es : List (Entry P)) (o end : ℕ) (s : Shift) → s.start ≤ s.end → (end < length (placed_from 0 es) → (s.end ≤ last_offset 0 (take end (placed_from 0 es))) × (o ≡ last_offset 0 (take end (placed_from 0 es)) + s.count - (s.end - s.start)))
      → placed_from o (drop end es) ≡ map (shifted s) (drop end (placed_from 0 es))
  placed-behind es o end s order kept =
      elim (less-or-all end (length (placed_from 0 es))) [
        | inl more ↦
            let last = last_offset 0 (take end (placed_from 0 es)) in
            ap (λ n. placed_from n (drop end es)) (kept more).1
            ∙ sym (shifted-placed s last (drop end es) order (kept more).0)
            ∙ ap (map (shifted s)) (sym (placed-drop end 0 es))
        | inr none ↦
            let here : drop end es ≡ [] = drop-all es end (omega (arith, length-placed 0 es)) in
            let there : drop end (placed_from 0 es) ≡ [] = drop-all (placed_from 0 es) end none in
            ap (placed_from o) here ∙ ap (map (shifted s)) (sym there)
      ]

  -- the entries mean the spliced list
  pub placed-spliced : (es : List (Entry P)) (from to : ℕ) (fresh : List (Placed P)) (s : Shift) (placed : List (Placed P)) (end : ℕ) → s.start ≤ s.end → IsRefill (placed_from 0 es) to fresh s placed end
      → IsSpaced 0 (spliced from to fresh s (placed_from 0 es))
      → placed_from 0 (take from es ++ coded (last_offset 0 (take from (placed_from 0 es))) placed ++ drop end es) ≡ spliced from to fresh s (placed_from 0 es)
  placed-spliced es from to fresh s placed end order fill spaced =
      let old = placed_from 0 es in
      let base = last_offset 0 (take from old) in
      let rest = map (shifted s) (drop end old) in
      let fits : IsSpaced 0 (take from old ++ (placed ++ rest)) = subst (λ l. IsSpaced 0 (take from old ++ l)) (sym fill.same) spaced in
      let mine : IsSpaced base placed = spaced-left base placed rest (spaced-right 0 (take from old) (placed ++ rest) fits) in
      let front : placed_from 0 (take from es ++ coded base placed) ≡ take from old ++ placed =
      placed-append 0 (take from es) (coded base placed)
      ∙ ap (λ l. l ++ placed_from (last_offset 0 l) (coded base placed)) (sym (placed-take from 0 es))
      ∙ ap (λ l. take from old ++ l) (placed-coded base placed mine) in
      placed-append 0 (take from es ++ coded base placed) (drop end es)
      ∙ ap (λ l. l ++ placed_from (last_offset 0 l) (drop end es)) front
      ∙ ap (λ n. (take from old ++ placed) ++ placed_from n (drop end es)) (last-append 0 (take from old) placed)
      ∙ ap (λ l. (take from old ++ placed) ++ l) (placed-behind es (last_offset base placed) end s order (λ more. ((fill.gap_kept more).0, (fill.gap_kept more).1 base)))
      ∙ append_assoc (take from old) placed rest
      ∙ ap (λ l. take from old ++ l) fill.same

  -- the same in the words of the call
  pub refill-spaced : (old : List (Placed P)) (from to : ℕ) (fresh : List (Placed P)) (s : Shift) (placed : List (Placed P)) (end base : ℕ) → base ≡ last_offset 0 (take from old) → IsRefill old to fresh s placed end
      → IsSpaced 0 (spliced from to fresh s old) → IsSpaced base placed
  refill-spaced old from to fresh s placed end base is fill spaced =
      let rest = map (shifted s) (drop end old) in
      let fits : IsSpaced 0 (take from old ++ (placed ++ rest)) = subst (λ l. IsSpaced 0 (take from old ++ l)) (sym fill.same) spaced in
      subst (λ b. IsSpaced b placed) (sym is) (spaced-left (last_offset 0 (take from old)) placed rest (spaced-right 0 (take from old) (placed ++ rest) fits))

  pub splice-stands : (es : List (Entry P)) (old : List (Placed P)) (from to : ℕ) (fresh : List (Placed P)) (s : Shift) (placed : List (Placed P)) (end base : ℕ) → placed_from 0 es ≡ old → base ≡ last_offset 0 (take from old)
      → s.start ≤ s.end → IsRefill old to fresh s placed end → IsSpaced 0 (spliced from to fresh s old) → (ns : List (Entry P)) → ns ≡ coded base placed
      → placed_from 0 (take from es ++ ns ++ drop end es) ≡ spliced from to fresh s old
  splice-stands es old from to fresh s placed end base shown is order fill spaced ns made =
      ap (λ l. placed_from 0 (take from es ++ l ++ drop end es)) (made ∙ ap (λ b. coded b placed) (is ∙ ap (λ l. last_offset 0 (take from l)) (sym shown)))
      ∙ placed-spliced es from to fresh s placed end order (subst (λ l. IsRefill l to fresh s placed end) (sym shown) fill) (subst (λ l. IsSpaced 0 (spliced from to fresh s l)) (sym shown) spaced)
      ∙ ap (spliced from to fresh s) shown

  -- a list that can be coded is kept
  pub kept-fits : (es : List (Entry P)) (ps : List (Placed P)) → placed_from 0 es ≡ ps → IsCodable ps → end_of (extent_over es) < 2 ^ 32
  kept-fits es ps same ok = let end = end-placed (2 ^ 32) 0 es (omega arith) (subst (λ l. All (λ p. end_at p < 2 ^ 32) l) (sym same) ok.ends) in omega arith

  pub kept-small : (es : List (Entry P)) (ps : List (Placed P)) → placed_from 0 es ≡ ps → IsCodable ps → length es < 2 ^ 32
  kept-small es ps same ok = omega (arith, length-placed 0 es, ap length same, ok.small)

  pub shifted-fits : (ps : List (Placed P)) (n : ℕ) (s : Shift) (p : Placed P) → slice_get ps n ≡ Some p → All (λ q. end_at q < 2 ^ 32) (map (shifted s) (drop n ps)) → end_at (shifted s p) < 2 ^ 32
  shifted-fits ps n s p e all =
      All-head (λ q. end_at q < 2 ^ 32) (shifted s p) (map (shifted s) (drop (n + 1) ps)) (subst (λ l. All (λ q. end_at q < 2 ^ 32) (map (shifted s) l)) (drop-at ps n p e) all)

  -- the first thing after it, joined to the others
  pub refill-behind : (ps : List (Placed P)) (to : ℕ) (fresh : List (Placed P)) (s : Shift) (p : Placed P) → slice_get ps to ≡ Some p → to < length ps → s.end ≤ p.offset → IsRefill ps to fresh s (fresh ++ shifted s p ∷ []) (to + 1)
  refill-behind ps to fresh s p is lt behind =
      let open_at : drop to ps ≡ p ∷ drop (to + 1) ps = drop-at ps to p is in
      let last : last_offset 0 (take (to + 1) ps) ≡ p.offset = last-at ps to 0 p is in
      record {
        order = omega arith;
        within = omega arith;
        same = append_assoc fresh (shifted s p ∷ []) (map (shifted s) (drop (to + 1) ps)) ∙ ap (λ l. fresh ++ map (shifted s) l) (sym open_at);
        few = omega (arith, length-push fresh (shifted s p));
        gap_kept = λ more. (omega (arith, last), λ o. last-append o fresh (shifted s p ∷ []) ∙ ap (λ n. n + s.count - (s.end - s.start)) (sym last));
      } where
        last-at : (qs : List (Placed P)) (n o : ℕ) (q : Placed P) → slice_get qs n ≡ Some q → last_offset o (take (n + 1) qs) ≡ q.offset
        last-at qs n o q e = rw (add-one) (go qs n o q e) where
          go : (rs : List (Placed P)) (m b : ℕ) (r : Placed P) → slice_get rs m ≡ Some r → last_offset b (take (suc m) rs) ≡ r.offset
          go [] m b r f = absurd (cc)
          go (x ∷ rs) zero b r f = ap (λ y. y.offset) (some-same x r f)
          go (x ∷ rs) (suc m) b r f = go rs m x.offset r f

        length-push : (qs : List (Placed P)) (q : Placed P) → length (qs ++ q ∷ []) ≡ length qs + 1
        length-push [] q = omega arith
        length-push (x ∷ qs) q = omega (arith, length-push qs q)
