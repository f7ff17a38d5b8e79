-- Where a place goes at one splice.
use Rattle.std.proofs.Common.{◌≡◌, ℕ, ◌+◌, ◌-◌, ◌<◌, ◌≤◌, ◌&&◌, min, true, false, cond, nat_le, nat_lt, List, [], ◌∷◌, refl, ap, ◌∙◌, arith}
use Rattle.std.proofs.lemmas.Bool.Decides.{nat_tests}
use Rattle.cell_units.specs.declared.place.Bias.{Bias}
use Rattle.cell_units.specs.declared.place.Bias.TheVariants.{Left, Right}
use Rattle.sum_tree.specs.Firsts.{IsShort, IsReaching}
use Rattle.splice_tree.specs.Splices.{Stretch, to_upper, is_behind, kept_or_edge}

left_not : (g e x : ℕ) → x ≤ g → (nat_lt g x && nat_le e x) ≡ false
left_not g e x le = grind (arith, nat_tests)

left_short : (g e x : ℕ) → x < e → (nat_lt g x && nat_le e x) ≡ false
left_short g e x lt = grind (arith, nat_tests)

left_is : (g e x : ℕ) → g < x → e ≤ x → (nat_lt g x && nat_le e x) ≡ true
left_is g e x lt le = grind (arith, nat_tests)

le_is : (m n : ℕ) → m ≤ n → nat_le m n ≡ true
le_is m n le = grind (arith, nat_tests)

le_not : (m n : ℕ) → n < m → nat_le m n ≡ false
le_not m n lt = grind (arith, nat_tests)

min_left : (m n : ℕ) → m ≤ n → min m n ≡ m
min_left m n le = omega arith

min_right : (m n : ℕ) → n ≤ m → min m n ≡ n
min_right m n le = omega arith

-- after a splice
pub behind : (bias : Bias) (s : Stretch) (x : ℕ) (n : ℕ) → IsShort bias x (s.gap + s.old + n) → is_behind bias s x ≡ true
behind Left s x n short = left_is s.gap (s.gap + s.old) x (omega arith) (omega arith)
behind Right s x n short = le_is (s.gap + s.old) x (omega arith)

pub after : (bias : Bias) (s : Stretch) (ss : List Stretch) (x : ℕ) → is_behind bias s x ≡ true → to_upper bias (s ∷ ss) x ≡ s.gap + s.new + to_upper bias ss (x - (s.gap + s.old))
after bias s ss x is = ap (λ b. cond b (s.gap + s.new + to_upper bias ss (x - (s.gap + s.old))) (kept_or_edge bias s x)) is

pub at : (bias : Bias) (s : Stretch) (ss : List Stretch) (x : ℕ) → is_behind bias s x ≡ false → to_upper bias (s ∷ ss) x ≡ kept_or_edge bias s x
at bias s ss x is = ap (λ b. cond b (s.gap + s.new + to_upper bias ss (x - (s.gap + s.old))) (kept_or_edge bias s x)) is

-- the begin stays by Left
pub begin : (ss : List Stretch) → to_upper Left ss 0 ≡ 0
begin [] = refl
begin (s ∷ ss) = at Left s ss 0 (left_not s.gap (s.gap + s.old) 0 (omega arith)) ∙ min_left 0 s.gap (omega arith)

pub kept : (bias : Bias) (s : Stretch) (ss : List Stretch) (x : ℕ) → IsReaching bias x (s.gap + s.old) → x ≤ s.gap → to_upper bias (s ∷ ss) x ≡ x
kept Left s ss x r le = at Left s ss x (left_not s.gap (s.gap + s.old) x le) ∙ min_left x s.gap le
kept Right s ss x r le = at Right s ss x (le_not (s.gap + s.old) x r) ∙ ap (λ b. cond b x (s.gap + s.new)) (le_is x s.gap le)

pub inside_left : (s : Stretch) (ss : List Stretch) (x : ℕ) → s.gap < x → x < s.gap + s.old → to_upper Left (s ∷ ss) x ≡ s.gap
inside_left s ss x lt r = at Left s ss x (left_short s.gap (s.gap + s.old) x r) ∙ min_right x s.gap (omega arith)

pub inside_right : (s : Stretch) (ss : List Stretch) (x : ℕ) → s.gap < x → x < s.gap + s.old → to_upper Right (s ∷ ss) x ≡ s.gap + s.new
inside_right s ss x lt r = at Right s ss x (le_not (s.gap + s.old) x r) ∙ ap (λ b. cond b x (s.gap + s.new)) (le_not x s.gap lt)

-- at the end of what is taken out
pub end : (bias : Bias) (s : Stretch) (ss : List Stretch) (x : ℕ) → IsReaching bias x (s.gap + s.old) → s.gap < x → s.gap + s.old ≤ x → to_upper bias (s ∷ ss) x ≡ s.gap + s.new
end Left s ss x r lt le =
    let none : x - (s.gap + s.old) ≡ 0 = omega arith in
    after Left s ss x (left_is s.gap (s.gap + s.old) x lt le) ∙ ap (λ y. s.gap + s.new + to_upper Left ss y) none ∙ ap (λ y. s.gap + s.new + y) (begin ss) ∙ omega arith
end Right s ss x r lt le = absurd (omega arith)
