-- Sums of steps, and how many inlays a replacement meets.
use Rattle.std.proofs.Common.{◌≡◌, ℕ, ◌+◌, ◌*◌, ◌^◌, ◌<◌, ◌≤◌, ◌&&◌, not, nat_le, Bool, true, false, cond, List, [], ◌∷◌, length, map, count_by, refl, sym, ap, subst, ◌∙◌, arith}
use Rattle.std.specs.List.{position_or_len}
use Rattle.std.proofs.Math.Nat.{add-mul, mul_assoc, mul_comm, one-mul}
use Rattle.std.proofs.lemmas.Bool.Decides.{nat_tests}
use Rattle.std.proofs.lemmas.List.{length-map}
use Rattle.std.proofs.lemmas.Nat.{mul-le}
use Rattle.cell_units.specs.declared.place.Shift.{Shift}
use Rattle.cell_units.specs.Layers.{Source, inlay_source}
use Rattle.cell_units.specs.Record.{Inlay}
use Rattle.cell_units.proofs.SortedLists.{count-cons}
use Rattle.mark_tree.specs.declared.mark.Mark.{Mark}
use Rattle.mark_tree.specs.Marks.{is_met}
use Rattle.edit_patch.specs.Leads.{reach_of}
use Rattle.splice_tree.specs.Bounds.{splicing}
use Rattle.inlay_map.specs.Bounds.{met}
use Rattle.inlay_map.specs.Splices.{inlay_of}
use Rattle.inlay_map.proofs.Spread.{IsSpread}

pub respliced-steps : (k h a o b c d : ℕ) → o ≤ a + (h + 1) → b ≤ o + k * (2 * (h + 1)) → c ≤ b + 2 * (h + 1) → d ≤ c + splicing k h → d ≤ a + 164 * (k + 1) * (h + 1)
respliced-steps k h a o b c d zeroth first second third =
    let x = h + 1 in
    let p = (k + 1) * x in
    let whole : 164 * (k + 1) * x ≡ 164 * p = mul_assoc 164 (k + 1) x in
    let twos : k * (2 * x) ≡ 2 * (k * x) = sym (mul_assoc k 2 x) ∙ ap (λ n. n * x) (omega arith) ∙ mul_assoc 2 k x in
    let one : p ≡ k * x + x = add-mul k 1 x ∙ ap (λ n. k * x + n) (one-mul x) in
    let long : k * 1 ≤ k * x = mul-le k 1 k x (omega arith) (omega arith) in
    omega (arith, zeroth, first, second, third, whole, twos, one, long)

-- the inlays that are met are found and moved, and their splices made anew
pub moved-steps : (k h a b c d e : ℕ) → b ≤ a + (h + 1) → c ≤ b + (h + 1) → d ≤ c + 170 * (h + 1) * (k + 1) → e ≤ d + 164 * (k + 1) * (h + 1) → e ≤ a + 336 * (k + 1) * (h + 1)
moved-steps k h a b c d e first second third fourth =
    let x = h + 1 in
    let p = (k + 1) * x in
    let whole : 336 * (k + 1) * x ≡ 336 * p = mul_assoc 336 (k + 1) x in
    let splices : 164 * (k + 1) * x ≡ 164 * p = mul_assoc 164 (k + 1) x in
    let marks : 170 * x * (k + 1) ≡ 170 * p = mul_assoc 170 x (k + 1) ∙ ap (λ n. 170 * n) (mul_comm x (k + 1)) in
    let high : 1 * x ≤ p = mul-le 1 x (k + 1) x (omega arith) (omega arith) in
    omega (arith, first, second, third, fourth, whole, splices, marks, high)

-- and then three places are looked up
pub synced-steps : (k h a b c : ℕ) → b ≤ a + 336 * (k + 1) * (h + 1) → c ≤ b + 3 * (h + 1) → c ≤ a + 339 * (k + 1) * (h + 1)
synced-steps k h a b c first second =
    let x = h + 1 in
    let p = (k + 1) * x in
    let whole : 339 * (k + 1) * x ≡ 339 * p = mul_assoc 339 (k + 1) x in
    let part : 336 * (k + 1) * x ≡ 336 * p = mul_assoc 336 (k + 1) x in
    let high : 1 * x ≤ p = mul-le 1 x (k + 1) x (omega arith) (omega arith) in
    omega (arith, first, second, whole, part, high)

-- one splice more is measured
pub more-steps : (k x a b c : ℕ) → b ≤ a + k * x → c ≤ b + x → c ≤ a + (k + 1) * x
more-steps k x a b c first second = omega (arith, first, second, add-mul k 1 x, one-mul x)

-- ---- there are as many marks as inlays

pub marks-count : (rope : List ℕ) (ms : List (Mark (List ℕ))) (s : Source) → inlay_source rope (map inlay_of ms) ≡ s → length ms ≡ length s.inlays
marks-count rope ms s e = sym (length-map ms inlay_of) ∙ ap (λ (v : Source). length v.inlays) e

pub marks-height : (rope : List ℕ) (ms : List (Mark (List ℕ))) (s : Source) (h : ℕ) → inlay_source rope (map inlay_of ms) ≡ s → length s.inlays < 2 * 6 ^ (h + 1) → length ms < 2 * 6 ^ (h + 1)
marks-height rope ms s h e lt = subst (λ (n : ℕ). n < 2 * 6 ^ (h + 1)) (sym (marks-count rope ms s e)) lt

-- ---- how many are met

head-zero : (o : ℕ) (text : List ℕ) (base : ℕ) (is : List Inlay) → IsSpread text base is → o ≤ base → position_or_len (λ i. nat_le o i.offset) is ≡ 0
head-zero o text base [] s le = refl
head-zero o text base (i ∷ is) s le = ap {B = ℕ} (λ (b : Bool). cond (not b) (1 + position_or_len (λ j. nat_le o j.offset) is) 0) (at-most o base i.offset le s.0) where
  at-most : (m n k : ℕ) → m ≤ n → n ≤ k → nat_le m k ≡ true
  at-most m n k p q = grind (arith, nat_tests)

pub met-is : (s e : ℕ) (text : List ℕ) (base : ℕ) (is : List Inlay) → s ≤ e → IsSpread text base is
    → count_by (λ i. nat_le s i.offset && nat_le i.offset e) is + position_or_len (λ i. nat_le s i.offset) is ≡ position_or_len (λ i. nat_le (e + 1) i.offset) is
met-is s e text base [] order spread = refl
met-is s e text base (i ∷ is) order spread =
    go (nat_le s i.offset) (nat_le i.offset e) (nat_le (e + 1) i.offset) refl refl (other i.offset) (count-cons (λ (j : Inlay). nat_le s j.offset && nat_le j.offset e) i is) (met-is s e text i.offset is order spread.3)
  where
    other : (m : ℕ) → nat_le (e + 1) m ≡ not (nat_le m e)
    other m = grind (arith, nat_tests)

    least : (m n : ℕ) → nat_le m n ≡ true → m ≤ n
    least m n h = grind (arith, nat_tests)

    more : (m n : ℕ) → nat_le m n ≡ false → n < m
    more m n h = grind (arith, nat_tests)

    go : (a b c : Bool) → nat_le s i.offset ≡ a → nat_le i.offset e ≡ b → c ≡ not b
        → count_by (λ (j : Inlay). nat_le s j.offset && nat_le j.offset e) (i ∷ is) ≡ cond (a && b) 1 0 + count_by (λ (j : Inlay). nat_le s j.offset && nat_le j.offset e) is
        → count_by (λ (j : Inlay). nat_le s j.offset && nat_le j.offset e) is + position_or_len (λ j. nat_le s j.offset) is ≡ position_or_len (λ j. nat_le (e + 1) j.offset) is
        → count_by (λ (j : Inlay). nat_le s j.offset && nat_le j.offset e) (i ∷ is) + cond (not a) (1 + position_or_len (λ j. nat_le s j.offset) is) 0 ≡ cond (not c) (1 + position_or_len (λ j. nat_le (e + 1) j.offset) is) 0
    go true true true p q r sum rest = absurd (cc)
    go true true false p q r sum rest = omega (arith, sum, rest, head-zero s text i.offset is spread.3 (least s i.offset p))
    go true false true p q r sum rest = omega (arith, sum, rest, head-zero (e + 1) text i.offset is spread.3 (omega (arith, more i.offset e q)))
    go true false false p q r sum rest = absurd (cc)
    go false true true p q r sum rest = absurd (cc)
    go false true false p q r sum rest = omega (arith, sum, rest)
    go false false c p q r sum rest = absurd (omega (arith, order, more s i.offset p, more i.offset e q))

-- the marks that are met are those of the inlays
pub met-marks : (s : Shift) (ms : List (Mark (List ℕ))) → count_by (is_met s) ms ≡ met (reach_of s) (map inlay_of ms)
met-marks s [] = refl
met-marks s (m ∷ ms) =
    let one = count-cons (is_met s) m ms in
    let other = count-cons (λ (i : Inlay). nat_le s.start i.offset && nat_le i.offset s.end) (inlay_of m) (map inlay_of ms) in
    omega (arith, one, other, met-marks s ms)
