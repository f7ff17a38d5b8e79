-- The laws of carrying places.
use Rattle.std.proofs.Common.{◌≡◌, ℕ, zero, suc, ◌+◌, ◌-◌, ◌<◌, ◌≤◌, ◌&&◌, min, Bool, true, false, cond, nat_le, nat_lt, List, [], ◌∷◌, map, refl, sym, ap, ◌∙◌, arith}
use Rattle.std.proofs.lemmas.Bool.Decides.{nat_tests}
use Rattle.cell_units.specs.declared.place.Bias.{Bias}
use Rattle.cell_units.specs.declared.place.Bias.TheVariants.{Left, Right}
use Rattle.splice_tree.specs.Splices.{Stretch, flipped, to_upper, to_lower, is_behind, kept_or_edge}
use Rattle.splice_tree.specs.Laws.{AreShown, IsOutside}
use Rattle.splice_tree.proofs.Carrying.{begin}

-- what a test says
both_true : (g e x : ℕ) → (nat_lt g x && nat_le e x) ≡ true → (g < x) × (e ≤ x)
both_true g e x is = (grind (arith, nat_tests), grind (arith, nat_tests))

both_false : (g e x : ℕ) → (nat_lt g x && nat_le e x) ≡ false → g < x → x < e
both_false g e x is lt = grind (arith, nat_tests)

pub le_true : (m n : ℕ) → nat_le m n ≡ true → m ≤ n
le_true m n is = grind (arith, nat_tests)

pub le_false : (m n : ℕ) → nat_le m n ≡ false → n < m
le_false m n is = grind (arith, nat_tests)

pub end_reached : (bias : Bias) (s : Stretch) (x : ℕ) → is_behind bias s x ≡ true → s.gap + s.old ≤ x
end_reached Left s x is = (both_true s.gap (s.gap + s.old) x is).1
end_reached Right s x is = le_true (s.gap + s.old) x is

pub edge_at_most : (bias : Bias) (s : Stretch) (x : ℕ) → kept_or_edge bias s x ≤ s.gap + s.new
edge_at_most Left s x = omega arith
edge_at_most Right s x = go (nat_le x s.gap) refl where
  go : (b : Bool) → nat_le x s.gap ≡ b → cond b x (s.gap + s.new) ≤ s.gap + s.new
  go true is = omega (arith, le_true x s.gap is)
  go false is = omega arith

edges_dont_fall : (bias : Bias) (s : Stretch) (x y : ℕ) → x ≤ y → kept_or_edge bias s x ≤ kept_or_edge bias s y
edges_dont_fall Left s x y le = omega arith
edges_dont_fall Right s x y le = go (nat_le x s.gap) (nat_le y s.gap) refl refl where
  go : (b c : Bool) → nat_le x s.gap ≡ b → nat_le y s.gap ≡ c → cond b x (s.gap + s.new) ≤ cond c y (s.gap + s.new)
  go true true p q = le
  go true false p q = omega (arith, le_true x s.gap p)
  go false true p q = absurd (omega (arith, le_false x s.gap p, le_true y s.gap q))
  go false false p q = omega arith

behind_on : (bias : Bias) (s : Stretch) (x y : ℕ) → x ≤ y → is_behind bias s x ≡ true → is_behind bias s y ≡ false → ⊥
behind_on Left s x y le p q =
    let a = both_true s.gap (s.gap + s.old) x p in
    let b = both_false s.gap (s.gap + s.old) y q (omega (arith, a.0)) in
    omega (arith, a.1, b)
behind_on Right s x y le p q = omega (arith, le_true (s.gap + s.old) x p, le_false (s.gap + s.old) y q)

pub dont_fall : (bias : Bias) (ss : List Stretch) (x y : ℕ) → x ≤ y → to_upper bias ss x ≤ to_upper bias ss y
dont_fall bias [] x y le = le
dont_fall bias (s ∷ ss) x y le = go (dont_fall bias ss (x - (s.gap + s.old)) (y - (s.gap + s.old)) (omega arith)) (is_behind bias s x) (is_behind bias s y) refl refl where
  go : to_upper bias ss (x - (s.gap + s.old)) ≤ to_upper bias ss (y - (s.gap + s.old)) → (b c : Bool) → is_behind bias s x ≡ b → is_behind bias s y ≡ c
      → cond b (s.gap + s.new + to_upper bias ss (x - (s.gap + s.old))) (kept_or_edge bias s x) ≤ cond c (s.gap + s.new + to_upper bias ss (y - (s.gap + s.old))) (kept_or_edge bias s y)
  go rest true true p q = omega (arith, rest)
  go rest true false p q = absurd (behind_on bias s x y le p q)
  go rest false true p q = omega (arith, edge_at_most bias s x)
  go rest false false p q = edges_dont_fall bias s x y le

left_edge_at_most : (s : Stretch) (x : ℕ) → kept_or_edge Left s x ≤ kept_or_edge Right s x
left_edge_at_most s x = go (nat_le x s.gap) refl where
  go : (b : Bool) → nat_le x s.gap ≡ b → min x s.gap ≤ cond b x (s.gap + s.new)
  go true is = omega arith
  go false is = omega arith

pub left_at_most_right : (ss : List Stretch) (x : ℕ) → to_upper Left ss x ≤ to_upper Right ss x
left_at_most_right [] x = omega arith
left_at_most_right (s ∷ ss) x = go (left_at_most_right ss (x - (s.gap + s.old))) (is_behind Left s x) (is_behind Right s x) refl refl where
  go : to_upper Left ss (x - (s.gap + s.old)) ≤ to_upper Right ss (x - (s.gap + s.old)) → (b c : Bool) → is_behind Left s x ≡ b → is_behind Right s x ≡ c
      → cond b (s.gap + s.new + to_upper Left ss (x - (s.gap + s.old))) (kept_or_edge Left s x) ≤ cond c (s.gap + s.new + to_upper Right ss (x - (s.gap + s.old))) (kept_or_edge Right s x)
  go rest true true p q = omega (arith, rest)
  go rest true false p q = absurd (omega (arith, end_reached Left s x p, le_false (s.gap + s.old) x q))
  go rest false true p q = omega (arith, edge_at_most Left s x)
  go rest false false p q = left_edge_at_most s x

-- one step of a conversion, by what its test gives
step : (bias : Bias) (s : Stretch) (ss : List Stretch) (x : ℕ) (b : Bool) → is_behind bias s x ≡ b → to_upper bias (s ∷ ss) x ≡ cond b (s.gap + s.new + to_upper bias ss (x - (s.gap + s.old))) (kept_or_edge bias s x)
step bias s ss x b is = ap (λ c. cond c (s.gap + s.new + to_upper bias ss (x - (s.gap + s.old))) (kept_or_edge bias s x)) is

pub edge_kept : (bias : Bias) (s : Stretch) (x : ℕ) → x ≤ s.gap → kept_or_edge bias s x ≡ x
edge_kept Left s x le = omega arith
edge_kept Right s x le = ap (λ c. cond c x (s.gap + s.new)) (is (nat_le x s.gap) refl) where
  is : (b : Bool) → nat_le x s.gap ≡ b → nat_le x s.gap ≡ true
  is true e = e
  is false e = absurd (omega (arith, le_false x s.gap e))

zero_old : (o n : ℕ) → (0 < o → 0 < n) → n ≡ 0 → o ≡ 0
zero_old zero n f e = refl
zero_old (suc o) n f e = absurd (omega (arith, f (omega arith)))

not_old : (s : Stretch) → (0 < s.old → 0 < s.new) → s.new ≡ 0 → s.old ≡ 0
not_old s f e = zero_old s.old s.new f e

-- the begin comes back to the begin
begin_back : (bias : Bias) (ss : List Stretch) → AreShown ss → to_lower bias ss 0 ≡ 0
begin_back Left ss shown = begin (map flipped ss)
begin_back Right [] shown = refl
begin_back Right (s ∷ ss) shown = go (begin_back Right ss shown.1) (is_behind Right (flipped s) 0) refl where
  go : to_lower Right ss 0 ≡ 0 → (b : Bool) → is_behind Right (flipped s) 0 ≡ b → to_lower Right (s ∷ ss) 0 ≡ 0
  go rest true is =
      let none = le_true (s.gap + s.new) 0 is in
      let same : 0 - (s.gap + s.new) ≡ 0 = omega arith in
      let old : s.old ≡ 0 = not_old s shown.0 (omega arith) in
      step Right (flipped s) (map flipped ss) 0 true is ∙ ap (λ y. s.gap + s.old + to_upper Right (map flipped ss) y) same ∙ ap (λ y. s.gap + s.old + y) rest ∙ omega (arith, old, none)
  go rest false is = step Right (flipped s) (map flipped ss) 0 false is ∙ edge_kept Right (flipped s) 0 (omega arith)

not_past : (g e x : ℕ) → (g < x → e ≤ x) → x < e → x ≤ g
not_past g e x outside short = go (nat_lt g x) refl where
  below : (m n : ℕ) → nat_lt m n ≡ true → m < n
  below m n t = grind (arith, nat_tests)

  above : (m n : ℕ) → nat_lt m n ≡ false → n ≤ m
  above m n t = grind (arith, nat_tests)

  go : (b : Bool) → nat_lt g x ≡ b → x ≤ g
  go true t = absurd (omega (arith, outside (below g x t)))
  go false t = above g x t

pub there_and_back : (ss : List Stretch) (there back : Bias) (x : ℕ) → AreShown ss → IsOutside ss x → to_lower back ss (to_upper there ss x) ≡ x
there_and_back [] there back x shown outside = refl
there_and_back (s ∷ ss) there back x shown outside = go (there_and_back ss there back (x - (s.gap + s.old)) shown.1 outside.1) (is_behind there s x) refl where
  kept_at : (there : Bias) → is_behind there s x ≡ false → x ≤ s.gap
  kept_at Left is = elim (nat_lt s.gap x) as (λ (b : Bool). nat_lt s.gap x ≡ b → x ≤ s.gap) [
    | true ↦ (λ e. absurd (omega (arith, both_false s.gap (s.gap + s.old) x is (below s.gap x e), outside.0 (below s.gap x e))))
    | false ↦ (λ e. above s.gap x e)
  ] refl where
    below : (m n : ℕ) → nat_lt m n ≡ true → m < n
    below m n e = grind (arith, nat_tests)

    above : (m n : ℕ) → nat_lt m n ≡ false → n ≤ m
    above m n e = grind (arith, nat_tests)
  kept_at Right is = not_past s.gap (s.gap + s.old) x outside.0 (le_false (s.gap + s.old) x is)

  back_kept : (back : Bias) → x ≤ s.gap → (b : Bool) → is_behind back (flipped s) x ≡ b → to_lower back (s ∷ ss) x ≡ x
  back_kept back le false is = step back (flipped s) (map flipped ss) x false is ∙ edge_kept back (flipped s) x le
  back_kept back le true is =
      let end = end_reached back (flipped s) x is in
      let old = not_old s shown.0 (omega arith) in
      let none : x - (s.gap + s.new) ≡ 0 = omega arith in
      step back (flipped s) (map flipped ss) x true is
      ∙ ap (λ y. s.gap + s.old + to_upper back (map flipped ss) y) none
      ∙ ap (λ y. s.gap + s.old + y) (begin_back back ss shown.1)
      ∙ omega (arith, old, end)

  back_behind : (back : Bias) (y : ℕ) → to_lower back ss y ≡ x - (s.gap + s.old) → s.gap + s.old ≤ x → (b : Bool) → is_behind back (flipped s) (s.gap + s.new + y) ≡ b → to_lower back (s ∷ ss) (s.gap + s.new + y) ≡ x
  back_behind back y e le true is =
      let rest : s.gap + s.new + y - (s.gap + s.new) ≡ y = omega arith in
      step back (flipped s) (map flipped ss) (s.gap + s.new + y) true is
      ∙ ap (λ z. s.gap + s.old + to_upper back (map flipped ss) z) rest
      ∙ omega (arith, e)
  back_behind Left y e le false is =
      let none : s.new + y ≡ 0 = at_gap (nat_lt s.gap (s.gap + s.new + y)) refl in
      let old = not_old s shown.0 (omega arith) in
      let zero_y : y ≡ 0 = omega arith in
      let at : x - (s.gap + s.old) ≡ 0 = sym e ∙ ap (to_upper Left (map flipped ss)) zero_y ∙ begin (map flipped ss) in
      step Left (flipped s) (map flipped ss) (s.gap + s.new + y) false is ∙ omega (arith, at, old, none)
    where
      below : (m n : ℕ) → nat_lt m n ≡ true → m < n
      below m n t = grind (arith, nat_tests)

      above : (m n : ℕ) → nat_lt m n ≡ false → n ≤ m
      above m n t = grind (arith, nat_tests)

      at_gap : (b : Bool) → nat_lt s.gap (s.gap + s.new + y) ≡ b → s.new + y ≡ 0
      at_gap true t = absurd (omega (arith, both_false s.gap (s.gap + s.new) (s.gap + s.new + y) is (below s.gap (s.gap + s.new + y) t)))
      at_gap false t = omega (arith, above s.gap (s.gap + s.new + y) t)
  back_behind Right y e le false is = absurd (omega (arith, le_false (s.gap + s.new) (s.gap + s.new + y) is))

  go : to_lower back ss (to_upper there ss (x - (s.gap + s.old))) ≡ x - (s.gap + s.old) → (b : Bool) → is_behind there s x ≡ b → to_lower back (s ∷ ss) (to_upper there (s ∷ ss) x) ≡ x
  go rest true is =
      let y = to_upper there ss (x - (s.gap + s.old)) in
      ap (to_lower back (s ∷ ss)) (step there s ss x true is)
      ∙ back_behind back y rest (end_reached there s x is) (is_behind back (flipped s) (s.gap + s.new + y)) refl
  go rest false is =
      let le = kept_at there is in
      ap (to_lower back (s ∷ ss)) (step there s ss x false is ∙ edge_kept there s x le)
      ∙ back_kept back le (is_behind back (flipped s) x) refl
