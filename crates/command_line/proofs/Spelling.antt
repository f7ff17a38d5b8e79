-- How a word is spelled, as the definition and as `clap` take it.
use Rattle.std.proofs.Common.{◌≡◌, ◌∙◌, ◌+◌, ◌==◌, ℕ, Bool, cond, true, false, suc, refl, sym, ap, ap₂, subst, arith, true≢false, List, [], ◌∷◌, Option, Some, None, eqb-true, eq-eqb}
use Rattle.std.specs.List.{after_first, before_first, list_any, position_or_len}
use Rattle.clap.specs.Lexer.{long_of, short_of}
use Rattle.command_line.specs.Words.{Key, Word, is_dashes, is_decimal, is_equals, is_name, key_named, key_of, value_of}
use Rattle.command_line.proofs.Rules.{key_of_long}

-- ---- before and after the first `=`

before_here : (b : ℕ) (bs : List ℕ) → is_equals b ≡ true → before_first is_equals (b ∷ bs) ≡ []
before_here b bs e = rw e refl

before_next : (b : ℕ) (bs : List ℕ) → is_equals b ≡ false → before_first is_equals (b ∷ bs) ≡ b ∷ before_first is_equals bs
before_next b bs e =
    let next : 1 + position_or_len is_equals bs ≡ suc (position_or_len is_equals bs) = omega arith in
    rw (e, next) refl

after_next : (b : ℕ) (bs : List ℕ) → is_equals b ≡ false → after_first is_equals (b ∷ bs) ≡ after_first is_equals bs
after_next b bs e =
    let next : (1 + position_or_len is_equals bs) + 1 ≡ suc (position_or_len is_equals bs + 1) = omega arith in
    rw (e, next) refl

any_next : (b : ℕ) (bs : List ℕ) → is_equals b ≡ false → list_any is_equals (b ∷ bs) ≡ list_any is_equals bs
any_next b bs e = rw e refl

value_next : (b : ℕ) (bs : List ℕ) → is_equals b ≡ false → value_of (b ∷ bs) ≡ value_of bs
value_next b bs e = ap₂ (λ (has : Bool) (v : Word). cond has (Some v) None) (any_next b bs e) (after_next b bs e)

-- ---- the option that a word names

pub flip : (a : ℕ) → (a == 45) ≡ false → (45 == a) ≡ false
flip a e = go (45 == a) refl
  where
    go : (b : Bool) → (45 == a) ≡ b → b ≡ false
    go true h = absurd (true≢false (sym (eq-eqb a 45 (sym (eqb-true 45 a h))) ∙ e))
    go false h = refl

unnamed : (a : ℕ) (bs : List ℕ) → (45 == a) ≡ false → key_named (a ∷ bs) ≡ None
unnamed a bs e = rw e refl

unnamed_second : (a : ℕ) (bs : List ℕ) → (45 == a) ≡ false → key_named (45 ∷ a ∷ bs) ≡ None
unnamed_second a bs e = rw e refl

pub no_key : (a : ℕ) (rest : List ℕ) → (45 == a) ≡ false → key_of (a ∷ rest) ≡ None
no_key a rest e = go (is_equals a) refl
  where
    go : (b : Bool) → is_equals a ≡ b → key_of (a ∷ rest) ≡ None
    go true h = ap key_named (before_here a rest h)
    go false h = ap key_named (before_next a rest h) ∙ unnamed a (before_first is_equals rest) e

no_key_second : (a : ℕ) (rest : List ℕ) → (45 == a) ≡ false → key_of (45 ∷ a ∷ rest) ≡ None
no_key_second a rest e = ap key_named (before_next 45 (a ∷ rest) refl) ∙ go (is_equals a) refl
  where
    go : (b : Bool) → is_equals a ≡ b → key_named (45 ∷ before_first is_equals (a ∷ rest)) ≡ None
    go true h = ap (λ t. key_named (45 ∷ t)) (before_here a rest h)
    go false h = ap (λ t. key_named (45 ∷ t)) (before_next a rest h) ∙ unnamed_second a (before_first is_equals rest) e

key_of_two : (rest : List ℕ) → key_of (45 ∷ 45 ∷ rest) ≡ key_of_long (before_first is_equals rest)
key_of_two rest = ap key_named (before_next 45 (45 ∷ rest) refl ∙ ap (λ t. 45 ∷ t) (before_next 45 rest refl))

value_of_two : (rest : List ℕ) → value_of (45 ∷ 45 ∷ rest) ≡ value_of rest
value_of_two rest = value_next 45 (45 ∷ rest) refl ∙ value_next 45 rest refl

-- ---- the spellings

-- the word is neither a name nor a number
abbrev pub IsHyphened : Word → Type 0
IsHyphened w = (is_name w ≡ false) × (is_decimal w ≡ false)

pub data Spelled (w : Word) : Type 0 where
  keyed : (k : Key) (name : Word) (v : Option Word) → long_of w ≡ Some (name, v) → key_of_long name ≡ Some k → key_of w ≡ Some k → value_of w ≡ v
      → IsHyphened w → Spelled w
  unknown : (name : Word) (v : Option Word) → long_of w ≡ Some (name, v) → key_of_long name ≡ None → key_of w ≡ None → IsHyphened w → Spelled w
  short : (b : ℕ) (bs : List ℕ) → long_of w ≡ None → short_of w ≡ Some (b ∷ bs) → key_of w ≡ None → IsHyphened w → Spelled w
  plain : long_of w ≡ None → short_of w ≡ None → key_of w ≡ None → Spelled w

two_hyphens : (rest : List ℕ) → is_dashes (45 ∷ 45 ∷ rest) ≡ false → Spelled (45 ∷ 45 ∷ rest)
two_hyphens [] e = absurd (true≢false e)
two_hyphens (x ∷ xs) e = go (key_of_long (before_first is_equals (x ∷ xs))) refl
  where
    go : (o : Option Key) → key_of_long (before_first is_equals (x ∷ xs)) ≡ o → Spelled (45 ∷ 45 ∷ x ∷ xs)
    go (Some k) h = keyed k (before_first is_equals (x ∷ xs)) (value_of (x ∷ xs)) refl h (key_of_two (x ∷ xs) ∙ h) (value_of_two (x ∷ xs)) (refl, refl)
    go None h = unknown (before_first is_equals (x ∷ xs)) (value_of (x ∷ xs)) refl h (key_of_two (x ∷ xs) ∙ h) (refl, refl)

one_hyphen : (rest : List ℕ) → is_dashes (45 ∷ rest) ≡ false → Spelled (45 ∷ rest)
one_hyphen [] e = plain refl refl refl
one_hyphen (b ∷ rest) e = go (b == 45) refl
  where
    go : (c : Bool) → (b == 45) ≡ c → Spelled (45 ∷ b ∷ rest)
    go true h = subst (λ x. is_dashes (45 ∷ x ∷ rest) ≡ false → Spelled (45 ∷ x ∷ rest)) (sym (eqb-true b 45 h)) (two_hyphens rest) e
    go false h = short b rest (rw h refl) (rw h refl) (no_key_second b rest (flip b h)) (refl, refl)

pub spelled : (w : Word) → is_dashes w ≡ false → Spelled w
spelled [] e = plain refl refl refl
spelled (a ∷ rest) e = go (a == 45) refl
  where
    go : (c : Bool) → (a == 45) ≡ c → Spelled (a ∷ rest)
    go true h = subst (λ x. is_dashes (x ∷ rest) ≡ false → Spelled (x ∷ rest)) (sym (eqb-true a 45 h)) (one_hyphen rest) e
    go false h = plain (rw h refl) (rw h refl) (no_key a rest (flip a h))
