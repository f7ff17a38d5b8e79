-- Numbers and their decimal digits.
use Rattle.std.proofs.Common.{◌≡◌, ◌∙◌, ◌<◌, ◌≤◌, ◌^◌, ◌==◌, ◌&&◌, ◌||◌, ℕ, Bool, cond, true, false, not, refl, sym, ap, subst, arith, true≢false, [], ◌∷◌, length, Some, None, get_or, nat_le, slice_index, eq-eqb, eqb-true}
use Rattle.std.specs.Char.{is_ascii_digit}
use Rattle.std.specs.List.{list_all}
use Rattle.std.specs.Fmt.{decimal}
use Rattle.std.specs.Str.Parse.{AllDigits, digits_value}
use Rattle.std.proofs.lemmas.Bool.{le-leb, leb-true, ne_eqb}
use Rattle.std.proofs.lemmas.Bool.Decides.{nat_tests}
use Rattle.std.proofs.lemmas.Fmt.{decimal_digit, decimal_is_IsNumeral, decimal_nonempty, decimal-digits_value, first_decimal, length-decimal-le}
use Rattle.std.proofs.lemmas.Str.Parse.{IsNumeralModel, digit_from_value, digits_value_short}
use Rattle.command_line.specs.declared.limits.TheConstants.{SEED_MOST}
use Rattle.command_line.specs.Words.{Word, is_dashes, is_decimal, number}
use Rattle.command_line.proofs.Numbers.{both, numeral}

are_digits : (v : Word) → AllDigits 10 v → list_all is_ascii_digit v ≡ true
are_digits [] h = refl
are_digits (c ∷ cs) h =
    let between = digit_from_value c h.0 in
    rw (le-leb 48 c between.0, le-leb c 57 between.1) (are_digits cs h.1)

or_true : (a : Bool) → (a || true) ≡ true
or_true true = refl
or_true false = refl

lead : (n : ℕ) → n < 2 ^ 64 → (length (decimal n) == 1 || not (slice_index (decimal n) 0 == 48)) ≡ true
lead n fits = go (n == 0) refl
  where
    go : (b : Bool) → (n == 0) ≡ b → (length (decimal n) == 1 || not (slice_index (decimal n) 0 == 48)) ≡ true
    go true e =
        let none : n ≡ 0 = eqb-true n 0 e in
        ap (λ (v : Word). length v == 1 || not (slice_index v 0 == 48)) (ap decimal none ∙ decimal_digit 0 (omega arith))
    go false e =
        let some : 0 < n = grind (arith, nat_tests) in
        let first = first_decimal n some fits in
        let other : (slice_index (decimal n) 0 == 48) ≡ false = ne_eqb (slice_index (decimal n) 0) 48 (λ same. omega arith) in
        ap (λ b. length (decimal n) == 1 || not b) other ∙ or_true (length (decimal n) == 1)

decimal_is : (n : ℕ) → n ≤ SEED_MOST → is_decimal (decimal n) ≡ true
decimal_is n most =
    let fits : n < 2 ^ 64 = omega arith in
    let short = length-decimal-le 10 n (omega arith) (omega arith) fits in
    let long = decimal_nonempty n fits in
    rw (are_digits (decimal n) (decimal_is_IsNumeral n fits).0.1, le-leb 1 (length (decimal n)) long, le-leb (length (decimal n)) 10 short) (lead n fits)

pub number_read : (least most n : ℕ) → least ≤ n → n ≤ most → most ≤ SEED_MOST → number least most (decimal n) ≡ Some n
number_read least most n low high limit =
    let value : digits_value 10 (decimal n) ≡ n = (decimal_is_IsNumeral n (omega arith)).1 in
    (λ i. cond (decimal_is n (omega arith) i && nat_le least (value i) && nat_le (value i) most) (Some (value i)) None)
    ∙ rw (le-leb least n low, le-leb n most high) refl

model : IsNumeralModel (AllDigits 10) (digits_value 10)
model = record { to = λ ds h. h; from = λ ds h. h; same = λ ds h. refl }

one_or_lead : (v : Word) → (length v == 1 || not (slice_index v 0 == 48)) ≡ true → get_or v 0 0 ≡ 48 → length v ≡ 1
one_or_lead v e zero = eqb-true (length v) 1 (first (length v == 1) (ap (λ b. length v == 1 || not b) (sym (eq-eqb (slice_index v 0) 48 zero)) ∙ e))
  where
    first : (a : Bool) → (a || false) ≡ true → a ≡ true
    first true e = refl
    first false e = e

written_so : (v : Word) → is_decimal v ≡ true → decimal (digits_value 10 v) ≡ v
written_so v e =
    let outer = both (list_all is_ascii_digit v && (nat_le 1 (length v) && nat_le (length v) 10)) (length v == 1 || not (slice_index v 0 == 48)) e in
    let inner = both (list_all is_ascii_digit v) (nat_le 1 (length v) && nat_le (length v) 10) outer.0 in
    let long = both (nat_le 1 (length v)) (nat_le (length v) 10) inner.1 in
    let is = numeral v e in
    let small = digits_value_short model v 10 is.1 (leb-true (length v) 10 long.1) in
    decimal-digits_value model v is.1 is.0 (one_or_lead v outer.1) (omega arith)

pub number_only : (least most n : ℕ) (v : Word) → number least most v ≡ Some n → v ≡ decimal n
number_only least most n v e = go (is_decimal v && nat_le least (digits_value 10 v) && nat_le (digits_value 10 v) most) refl e
  where
    go : (b : Bool) → (is_decimal v && nat_le least (digits_value 10 v) && nat_le (digits_value 10 v) most) ≡ b
        → cond b (Some (digits_value 10 v)) None ≡ Some n → v ≡ decimal n
    go false t h = cc
    go true t h =
        let outer = both (is_decimal v && nat_le least (digits_value 10 v)) (nat_le (digits_value 10 v) most) t in
        let inner = both (is_decimal v) (nat_le least (digits_value 10 v)) outer.0 in
        let value : digits_value 10 v ≡ n = cc in
        sym (written_so v inner.0) ∙ ap decimal value

-- a number is no `--`
pub decimal_no_dashes : (n : ℕ) → n ≤ SEED_MOST → is_dashes (decimal n) ≡ false
decimal_no_dashes n most = go (decimal n) (decimal_is n most)
  where
    hyphen : (rest : Word) → is_decimal (45 ∷ rest) ≡ true → is_dashes (45 ∷ rest) ≡ false
    hyphen rest e = absurd (true≢false (sym e))

    first : (a : ℕ) (rest : Word) (b : Bool) → (a == 45) ≡ b → is_decimal (a ∷ rest) ≡ true → is_dashes (a ∷ rest) ≡ false
    first a rest false h e = rw h refl
    first a rest true h e = subst (λ x. is_decimal (x ∷ rest) ≡ true → is_dashes (x ∷ rest) ≡ false) (sym (eqb-true a 45 h)) (hyphen rest) e

    go : (v : Word) → is_decimal v ≡ true → is_dashes v ≡ false
    go [] e = refl
    go (a ∷ rest) e = first a rest (a == 45) refl e
