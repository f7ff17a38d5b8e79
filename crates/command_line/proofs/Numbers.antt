-- The number that a value is.
use Rattle.std.proofs.Common.{◌≡◌, ◌∙◌, ◌<◌, ◌^◌, ◌==◌, ◌&&◌, ℕ, Bool, cond, true, false, refl, sym, ap, arith, true≢false, [], ◌∷◌, length, drop, Some, None, Result, Ok, Err, nat_le, not, ◌||◌, slice_index}
use Rattle.std.proofs.lemmas.Bool.{leb-true, ne_eqb}
use Rattle.std.proofs.lemmas.Str.{digit_value_digit}
use Rattle.std.proofs.lemmas.Str.Parse.{digit_from_value}
use Rattle.std.specs.List.{list_all}
use Rattle.std.specs.Result.{result_ok}
use Rattle.std.specs.Char.{digit_value, is_ascii_digit}
use Rattle.std.specs.Str.Parse.{AllDigits, IsNumeral, ParsesUnsigned, digits_value, without_leading_plus}
use Rattle.command_line.specs.Words.{Word, is_decimal, number}

pub both : (a b : Bool) → (a && b) ≡ true → (a ≡ true) × (b ≡ true)
both true b e = (refl, e)
both false b e = absurd (true≢false (sym e))

digit_is : (c : ℕ) → is_ascii_digit c ≡ true → digit_value c < 10
digit_is c e =
    let parts = both (nat_le 48 c) (nat_le c 57) e in
    let low = leb-true 48 c parts.0 in
    let high = leb-true c 57 parts.1 in
    let back = digit_value_digit c (low, high) in
    omega arith

and_false : (a : Bool) → (a && false) ≡ false
and_false true = refl
and_false false = refl

all_digits : (v : Word) → list_all is_ascii_digit v ≡ true → AllDigits 10 v
all_digits [] e = tt
all_digits (c ∷ cs) e =
    let parts = both (is_ascii_digit c) (list_all is_ascii_digit cs) e in
    (digit_is c parts.0, all_digits cs parts.1)

pub numeral : (v : Word) → is_decimal v ≡ true → IsNumeral 10 v
numeral v e =
    let outer = both (list_all is_ascii_digit v && (nat_le 1 (length v) && nat_le (length v) 10)) (length v == 1 || not (slice_index v 0 == 48)) e in
    let inner = both (list_all is_ascii_digit v) (nat_le 1 (length v) && nat_le (length v) 10) outer.0 in
    let long = both (nat_le 1 (length v)) (nat_le (length v) 10) inner.1 in
    let least = leb-true 1 (length v) long.0 in
    (omega arith, all_digits v inner.0)

no_plus : (ds : Word) → IsNumeral 10 ds → without_leading_plus ds ≡ ds
no_plus [] h = refl
no_plus (d ∷ ds) h =
    let plus : (d == 43) ≡ false = ne_eqb d 43 (λ e. omega (arith, digit_from_value d h.1.0)) in
    ap (λ (b : Bool). drop (cond b 1 0) (d ∷ ds)) plus

-- what `parse` doesn't read is past every range
pub unparsed : (E : Type 0) (v : Word) (r : Result ℕ E) (least most : ℕ) → most < 2 ^ 32 → is_decimal v ≡ true → ParsesUnsigned 32 10 v r → result_ok r ≡ None
    → number least most v ≡ None
unparsed E v (Ok n) least most fits e h none = cc
unparsed E v (Err error) least most fits e h none = go (nat_le (digits_value 10 v) most) refl
  where
    plain : without_leading_plus v ≡ v
    plain = no_plus v (numeral v e)

    go : (b : Bool) → nat_le (digits_value 10 v) most ≡ b → number least most v ≡ None
    go true t =
        let low = leb-true (digits_value 10 v) most t in
        let small : digits_value 10 v < 2 ^ 32 = omega arith in
        absurd (h (rw plain (numeral v e), rw plain small))
    go false t = ap (λ b. cond b (Some (digits_value 10 v)) None)
        (ap (λ b. is_decimal v && nat_le least (digits_value 10 v) && b) t ∙ and_false (is_decimal v && nat_le least (digits_value 10 v)))
