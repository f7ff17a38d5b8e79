-- What a string spells in a text that is UTF-8 is UTF-8.
use Rattle.std.proofs.Common.{◌≡◌, ℕ, ◌+◌, ◌*◌, ◌<◌, ◌≤◌, Bool, true, false, cond, ◌&&◌, ◌||◌, ◌==◌, nat_lt, leb, ltb, List, [], ◌∷◌, ◌++◌, length, take, drop, get_or, Option, Some, None, option_and_then, IfSome, IsUtf8, inl, inr, refl, sym, ap, ◌∙◌, subst, arith, append_assoc, append-nil, length-append}
use Rattle.std.proofs.lemmas.Bool.{and_parts, and_from, and_cases, cases_lt, cond-false, eqb-true, or_cases, le-leb, le-ltb, leb-false, lt-ltb, ltb-false, ltb-true}
use Rattle.std.proofs.lemmas.List.{drop_at, get_or_at, take_at}
use Rattle.std.proofs.lemmas.Option.{cond_some}
use Rattle.std.proofs.lemmas.Str.{IsCharBoundary-after_ascii, IsCharBoundary-before_ascii, IsUtf8-append, IsUtf8-drop, IsUtf8-encode, IsUtf8-take, encode_ascii}
use Rattle.std.specs.Char.{IsScalar, digit_value, encode_utf8, is_digit}
use lib.Utf8.{low_scalar}
use Rattle.json.specs.Text.{Within, after_backslash, after_high, after_u, code_unit, content, is_high_surrogate, is_low_surrogate, plain, prepend, short_escape, surrogate_pair}

-- ---- around an ASCII byte

ascii : (x : ℕ) → x < 128 → IsUtf8 (x ∷ [])
ascii x small = subst IsUtf8 (encode_ascii x small) (IsUtf8-encode x (low_scalar x (omega (arith, small))))

around : (before : List ℕ) (x : ℕ) (xs : List ℕ) → x < 128 → IsUtf8 (before ++ x ∷ xs) → IsUtf8 before × IsUtf8 xs
around before x xs small u =
    let all = before ++ x ∷ xs in
    let n = length before in
    let at : get_or all n 0 ≡ x = get_or_at before x xs 0 n refl in
    let within : n < length all = omega (arith, length-append before (x ∷ xs)) in
    let front : take n all ≡ before = take_at before (x ∷ xs) n refl in
    let parted : all ≡ (before ++ x ∷ []) ++ xs = sym (append_assoc before (x ∷ []) xs) in
    let behind : drop (n + 1) all ≡ xs = ap (drop (n + 1)) parted ∙ drop_at (before ++ x ∷ []) xs (n + 1) (length-append before (x ∷ [])) in (
      subst IsUtf8 front (IsUtf8-take all n u (IsCharBoundary-before_ascii all n within (omega (arith, at, small)))),
      subst IsUtf8 behind (IsUtf8-drop all (n + 1) u (IsCharBoundary-after_ascii all n u within (omega (arith, at, small)))),
    )

pub after_ascii : (x : ℕ) (xs : List ℕ) → x < 128 → IsUtf8 (x ∷ xs) → IsUtf8 xs
after_ascii x xs small u = (around [] x xs small u).1

pub after_byte : (before : List ℕ) (x : ℕ) (xs : List ℕ) → x < 128 → IsUtf8 (before ++ x ∷ xs) → IsUtf8 xs
after_byte before x xs small u = (around before x xs small u).1

-- ---- what an option has

pub either : {A : Type 0} (P : A → Type 0) (b : Bool) (x y : Option A) → (b ≡ true → IfSome x P) → (b ≡ false → IfSome y P) → IfSome (cond b x y) P
either P true x y f g = f refl
either P false x y f g = g refl

pub onward : {A B : Type 0} (P : B → Type 0) (f : A → Option B) (o : Option A) → ((a : A) → o ≡ Some a → IfSome (f a) P) → IfSome (option_and_then f o) P
onward P f None h = tt
onward P f (Some a) h = h a refl

-- ---- escapes

hex_small : (a : ℕ) → is_digit a 16 ≡ true → (a < 128) × (digit_value a < 16)
hex_small a e = let low = ltb-true (digit_value a) 16 e in (grind (arith, low), low)

record IsUnit (a b c d u : ℕ) : Type 0 where
  one : a < 128
  two : b < 128
  three : c < 128
  four : d < 128
  small : u < 65536

unit_small : (a b c d u : ℕ) → code_unit a b c d ≡ Some u → IsUnit a b c d u
unfolding code_unit
unit_small a b c d u e =
    let found = cond_some (is_digit a 16 && is_digit b 16 && is_digit c 16 && is_digit d 16) (digit_value a * 4096 + digit_value b * 256 + digit_value c * 16 + digit_value d) u e in
    let p = and_parts (is_digit a 16 && is_digit b 16 && is_digit c 16) (is_digit d 16) found.0 in
    let q = and_parts (is_digit a 16 && is_digit b 16) (is_digit c 16) p.0 in
    let r = and_parts (is_digit a 16) (is_digit b 16) q.0 in
    let one = hex_small a r.0 in
    let two = hex_small b r.1 in
    let three = hex_small c q.1 in
    let four = hex_small d p.1 in
    record { one = one.0; two = two.0; three = three.0; four = four.0; small = omega (arith, one.1, two.1, three.1, four.1, found.1) }

same : (x n : ℕ) → n < 128 → (x == n) ≡ true → x < 128
same x n small e = omega (arith, eqb-true x n e, small)

escape_small : (x : ℕ) → IfSome (short_escape x) (λ c. (x < 128) × (c < 128))
unfolding short_escape
escape_small x =
    let P : ℕ → Type 0 = λ c. (x < 128) × (c < 128) in
    let itself : x < 128 → P x = λ small. (small, small) in
    either P ((x == 34) || (x == 92) || (x == 47)) (Some x) _ (λ e. elim (or_cases ((x == 34) || (x == 92)) (x == 47) e) [
      | inl f ↦ elim (or_cases (x == 34) (x == 92) f) [ inl g ↦ itself (same x 34 (omega arith) g) | inr g ↦ itself (same x 92 (omega arith) g) ]
      | inr f ↦ itself (same x 47 (omega arith) f)
    ])
    (λ e. either P (x == 98) (Some 8) _ (λ f. (same x 98 (omega arith) f, omega arith))
    (λ e. either P (x == 102) (Some 12) _ (λ f. (same x 102 (omega arith) f, omega arith))
    (λ e. either P (x == 110) (Some 10) _ (λ f. (same x 110 (omega arith) f, omega arith))
    (λ e. either P (x == 114) (Some 13) _ (λ f. (same x 114 (omega arith) f, omega arith))
    (λ e. either P (x == 116) (Some 9) None (λ f. (same x 116 (omega arith) f, omega arith)) (λ e. tt))))))

beyond : (u : ℕ) → 57344 ≤ u → u < 1114112 → IsScalar u
beyond u le lt =
    cond-false (ltb u 55296) true (leb 57344 u && ltb u 1114112) (le-ltb u 55296 (omega (arith, le))) ∙ and_from (leb 57344 u) (ltb u 1114112) (le-leb 57344 u le) (lt-ltb u 1114112 lt)

-- a unit that is no surrogate is a character by itself, and two that are the halves of a pair make one
unit_scalar : (u : ℕ) → u < 65536 → is_high_surrogate u ≡ false → is_low_surrogate u ≡ false → IsScalar u
unit_scalar u small high low = elim (cases_lt u 55296) [
  | inl lt ↦ low_scalar u lt
  | inr ge ↦
      let past_high : 56320 ≤ u = elim (and_cases (leb 55296 u) (ltb u 56320) high) [
        | inl f ↦ absurd (omega (arith, leb-false 55296 u f, ge))
        | inr f ↦ ltb-false u 56320 f
      ] in
      let past_low : 57344 ≤ u = elim (and_cases (leb 56320 u) (ltb u 57344) low) [
        | inl f ↦ absurd (omega (arith, leb-false 56320 u f, past_high))
        | inr f ↦ ltb-false u 57344 f
      ] in
      beyond u past_low (omega (arith, small))
]

pair_scalar : (h l : ℕ) → is_high_surrogate h ≡ true → is_low_surrogate l ≡ true → IsScalar (surrogate_pair h l)
pair_scalar h l high low =
    let one = ltb-true h 56320 (and_parts (leb 55296 h) (ltb h 56320) high).1 in
    let two = ltb-true l 57344 (and_parts (leb 56320 l) (ltb l 57344) low).1 in
    beyond (surrogate_pair h l) (omega arith) (omega (arith, one, two))

-- ---- the content of a string

-- the bytes that were spelled before, and those that are read from here on
abbrev GoesOn : Within → List ℕ → List ℕ → Type 0
GoesOn plain before xs = IsUtf8 (before ++ xs)
GoesOn after_backslash before xs = IsUtf8 before × IsUtf8 xs
GoesOn after_u before xs = IsUtf8 before × IsUtf8 xs
GoesOn (after_high h) before xs = IsUtf8 before × IsUtf8 xs × (is_high_surrogate h ≡ true)

abbrev SpellsUtf8 : List ℕ → Option (List ℕ) → Type 0
SpellsUtf8 before o = IfSome o (λ s. IsUtf8 (before ++ s))

longer : (before a : List ℕ) (o : Option (List ℕ)) → SpellsUtf8 (before ++ a) o → SpellsUtf8 before (prepend a o)
longer before a None h = tt
longer before a (Some s) h = subst IsUtf8 (append_assoc before a s) h

joined : (before : List ℕ) (c : ℕ) (xs : List ℕ) → IsUtf8 before → IsScalar c → IsUtf8 xs → IsUtf8 ((before ++ encode_utf8 c) ++ xs)
joined before c xs u scalar v = IsUtf8-append (before ++ encode_utf8 c) xs (IsUtf8-append before (encode_utf8 c) u (IsUtf8-encode c scalar)) v

after_unit : (a b c d u : ℕ) (xs : List ℕ) → IsUnit a b c d u → IsUtf8 (a ∷ b ∷ c ∷ d ∷ xs) → IsUtf8 xs
after_unit a b c d u xs is h =
    after_ascii d xs is.four (after_ascii c (d ∷ xs) is.three (after_ascii b (c ∷ d ∷ xs) is.two (after_ascii a (b ∷ c ∷ d ∷ xs) is.one h)))

spelled : (w : Within) (before xs : List ℕ) → GoesOn w before xs → SpellsUtf8 before (content w xs)
unfolding content
spelled plain before [] u = tt
spelled plain before (x ∷ xs) u =
    let P : List ℕ → Type 0 = λ s. IsUtf8 (before ++ s) in
    either P (x == 34) (Some []) _ (λ q. subst IsUtf8 (sym (append-nil before)) (around before x xs (same x 34 (omega arith) q) u).0)
    (λ q. either P (x == 92) (content after_backslash xs) _ (λ b. spelled after_backslash before xs (around before x xs (same x 92 (omega arith) b) u))
    (λ b. either P (nat_lt x 32) None _ (λ l. tt)
    (λ l. longer before (x ∷ []) (content plain xs) (spelled plain (before ++ x ∷ []) xs (subst IsUtf8 (sym (append_assoc before (x ∷ []) xs)) u)))))
spelled after_backslash before [] u = tt
spelled after_backslash before (x ∷ xs) u =
    let P : List ℕ → Type 0 = λ s. IsUtf8 (before ++ s) in
    either P (x == 117) (content after_u xs) _ (λ e. spelled after_u before xs (u.0, after_ascii x xs (same x 117 (omega arith) e) u.1))
    (λ e. onward P (λ c. prepend (c ∷ []) (content plain xs)) (short_escape x) (λ c is.
    let I : Option ℕ → Type 0 = λ o. IfSome o (λ c. (x < 128) × (c < 128)) in
    let small = subst I is (escape_small x) in
    longer before (c ∷ []) (content plain xs)
    (spelled plain (before ++ c ∷ []) xs (IsUtf8-append (before ++ c ∷ []) xs (IsUtf8-append before (c ∷ []) u.0 (ascii c small.1)) (after_ascii x xs small.0 u.1)))))
spelled after_u before [] u = tt
spelled after_u before (a ∷ []) u = tt
spelled after_u before (a ∷ b ∷ []) u = tt
spelled after_u before (a ∷ b ∷ c ∷ []) u = tt
spelled after_u before (a ∷ b ∷ c ∷ d ∷ xs) u =
    let P : List ℕ → Type 0 = λ s. IsUtf8 (before ++ s) in
    onward P (λ n. cond (is_high_surrogate n) (content (after_high n) xs) (cond (is_low_surrogate n) None (prepend (encode_utf8 n) (content plain xs)))) (code_unit a b c d) (λ n is.
    let unit = unit_small a b c d n is in
    let rest = after_unit a b c d n xs unit u.1 in
    either P (is_high_surrogate n) (content (after_high n) xs) _ (λ high. spelled (after_high n) before xs (u.0, rest, high))
    (λ high. either P (is_low_surrogate n) None _ (λ low. tt)
    (λ low. longer before (encode_utf8 n) (content plain xs)
    (spelled plain (before ++ encode_utf8 n) xs (joined before n xs u.0 (unit_scalar n unit.small high low) rest)))))
spelled (after_high h) before [] u = tt
spelled (after_high h) before (s ∷ []) u = tt
spelled (after_high h) before (s ∷ v ∷ []) u = tt
spelled (after_high h) before (s ∷ v ∷ a ∷ []) u = tt
spelled (after_high h) before (s ∷ v ∷ a ∷ b ∷ []) u = tt
spelled (after_high h) before (s ∷ v ∷ a ∷ b ∷ c ∷ []) u = tt
spelled (after_high h) before (s ∷ v ∷ a ∷ b ∷ c ∷ d ∷ xs) u =
    let P : List ℕ → Type 0 = λ s. IsUtf8 (before ++ s) in
    either P ((s == 92) && (v == 117)) _ None (λ e.
    let both = and_parts (s == 92) (v == 117) e in
    let rest = after_ascii v (a ∷ b ∷ c ∷ d ∷ xs) (same v 117 (omega arith) both.1) (after_ascii s (v ∷ a ∷ b ∷ c ∷ d ∷ xs) (same s 92 (omega arith) both.0) u.1) in
    onward P (λ l. cond (is_low_surrogate l) (prepend (encode_utf8 (surrogate_pair h l)) (content plain xs)) None) (code_unit a b c d) (λ l is.
    either P (is_low_surrogate l) _ None (λ low.
    longer before (encode_utf8 (surrogate_pair h l)) (content plain xs)
    (spelled plain (before ++ encode_utf8 (surrogate_pair h l)) xs
    (joined before (surrogate_pair h l) xs u.0 (pair_scalar h l u.2 low) (after_unit a b c d l xs (unit_small a b c d l is) rest)))) (λ low. tt)))
    (λ e. tt)

-- the content of a string, of a text that is UTF-8 from the string's first byte on
pub content-utf8 : (xs : List ℕ) → IsUtf8 xs → IfSome (content plain xs) IsUtf8
content-utf8 xs u = spelled plain [] xs u
