-- Lines that are written for a view, and lines that are read as such.
use Rattle.std.proofs.Common.{◌≡◌, ℕ, ◌+◌, ◌-◌, ◌<◌, ◌≤◌, Bool, true, false, List, [], ◌∷◌, length, refl, ap, ◌∙◌, subst, arith}
use Rattle.std.specs.Prelude.{◌==◌, ◌&&◌, nat_le, nat_lt, bytes_eq, codes, if◌then◌else◌}
use Rattle.std.specs.List.{list_all}
use Rattle.std.proofs.lemmas.Bool.{and_left, and_right, cond-false, cond-true, eqb-true, false_from_ne_true, le-leb, leb-true, lt-ltb, ltb-true, ne_eqb, or_from}
use Rattle.std.proofs.lemmas.Slice.Eq.{bytes_eq-Decides}
use Rattle.edit_script.specs.Verdict.{is_blank, is_blank_byte}
use Rattle.edit_script.specs.declared.blank.TheConstants.{LINE_LIMIT}
use Rattle.split_script.specs.Lines.{Astray, Own, Redo, Skipped, SplitLine, Undo, own_line, prefixed, space, split_line, view_line, zero_digit}

all-three : (a b c : Bool) → a ≡ true → b ≡ true → c ≡ true → (a && b && c) ≡ true
all-three a b c p q r = ap (λ x. x && b && c) p ∙ (ap (λ x. true && x && c) q ∙ ap (λ x. true && true && x) r)

record Three (a b c : Bool) : Type 0 where
  one : a ≡ true
  two : b ≡ true
  three : c ≡ true

three-of : (a b c : Bool) → (a && b && c) ≡ true → Three a b c
three-of true true true e = record { one = refl; two = refl; three = refl }
three-of true true false e = cc
three-of true false c e = cc
three-of false b c e = cc

-- ---- what is written

module _ (view : ℕ) (bytes : List ℕ) where
  digit-not-blank : is_blank_byte (zero_digit + view) ≡ false
  digit-not-blank =
      or_from (zero_digit + view == 32) _ (ne_eqb (zero_digit + view) 32 (λ e. omega arith))
      (or_from (zero_digit + view == 9) (zero_digit + view == 13) (ne_eqb (zero_digit + view) 9 (λ e. omega arith))
      (ne_eqb (zero_digit + view) 13 (λ e. omega arith)))

  not-blank : is_blank (prefixed view bytes) ≡ false
  not-blank =
      and_right (nat_le (length (prefixed view bytes)) LINE_LIMIT) (list_all is_blank_byte (prefixed view bytes))
      (and_left (is_blank_byte (zero_digit + view)) (list_all is_blank_byte (space ∷ bytes)) digit-not-blank)

  not-undo : bytes_eq (prefixed view bytes) (codes "undo") ≡ false
  not-undo = false_from_ne_true (bytes_eq (prefixed view bytes) (codes "undo"))
      (λ e. let same : prefixed view bytes ≡ codes "undo" = (bytes_eq-Decides (prefixed view bytes) (codes "undo")).0 e in cc)

  not-redo : bytes_eq (prefixed view bytes) (codes "redo") ≡ false
  not-redo = false_from_ne_true (bytes_eq (prefixed view bytes) (codes "redo"))
      (λ e. let same : prefixed view bytes ≡ codes "redo" = (bytes_eq-Decides (prefixed view bytes) (codes "redo")).0 e in cc)

  own-view : (views : ℕ) → view < views → view_line views (prefixed view bytes) ≡ own_line view bytes
  own-view views lt =
      let back : (zero_digit + view) - zero_digit ≡ view = omega arith in
      cond-true (nat_le zero_digit (zero_digit + view) && nat_lt ((zero_digit + view) - zero_digit) views && (space == space))
      (own_line ((zero_digit + view) - zero_digit) bytes) Astray
      (all-three (nat_le zero_digit (zero_digit + view)) (nat_lt ((zero_digit + view) - zero_digit) views) (space == space)
      (le-leb zero_digit (zero_digit + view) (omega arith)) (lt-ltb ((zero_digit + view) - zero_digit) views (omega arith)) refl)
      ∙ ap (λ v. own_line v bytes) back

  pub own-written : (views : ℕ) → view < views → split_line views (prefixed view bytes) ≡ own_line view bytes
  own-written views lt =
      let line : List ℕ = prefixed view bytes in
      cond-false (is_blank line) Skipped _ not-blank
      ∙ (cond-false (bytes_eq line (codes "undo")) Undo _ not-undo
      ∙ (cond-false (bytes_eq line (codes "redo")) Redo (view_line views line) not-redo ∙ own-view views lt))

-- ---- what is read

passed : (b : Bool) (x y z : SplitLine) → (x ≡ z → ⊥) → (if b then x else y) ≡ z → y ≡ z
passed true x y z apart e = absurd (apart e)
passed false x y z apart e = e

chosen : (b : Bool) (x y z : SplitLine) → (y ≡ z → ⊥) → (if b then x else y) ≡ z → (b ≡ true) × (x ≡ z)
chosen true x y z apart e = (refl, e)
chosen false x y z apart e = absurd (apart e)

skipped-apart : (view : ℕ) (bytes : List ℕ) → Skipped ≡ Own view bytes → ⊥
skipped-apart view bytes e = cc

astray-apart : (view : ℕ) (bytes : List ℕ) → Astray ≡ Own view bytes → ⊥
astray-apart view bytes e = cc

undo-apart : (view : ℕ) (bytes : List ℕ) → Undo ≡ Own view bytes → ⊥
undo-apart view bytes e = cc

redo-apart : (view : ℕ) (bytes : List ℕ) → Redo ≡ Own view bytes → ⊥
redo-apart view bytes e = cc

-- a line of a view is what is written for it
pub record IsWritten (views : ℕ) (line : List ℕ) (view : ℕ) (bytes : List ℕ) : Type 0 where
  pub there : view < views
  pub written : line ≡ prefixed view bytes
  pub filled : is_blank bytes ≡ false

own-parts : (n view : ℕ) (rest bytes : List ℕ) → own_line n rest ≡ Own view bytes
    → (is_blank rest ≡ false) × (n ≡ view) × (rest ≡ bytes)
own-parts n view rest bytes e = by (is_blank rest) refl e where
  by : (b : Bool) → is_blank rest ≡ b → (if b then Skipped else Own n rest) ≡ Own view bytes
      → (is_blank rest ≡ false) × (n ≡ view) × (rest ≡ bytes)
  by true is same = absurd (skipped-apart view bytes same)
  by false is same = (is, cc, cc)

own-line-written : (views : ℕ) (line : List ℕ) (view : ℕ) (bytes : List ℕ) → view_line views line ≡ Own view bytes
    → IsWritten views line view bytes
own-line-written views [] view bytes e = absurd (astray-apart view bytes e)
own-line-written views (digit ∷ []) view bytes e = absurd (astray-apart view bytes e)
own-line-written views (digit ∷ (next ∷ rest)) view bytes e =
    let test = chosen (nat_le zero_digit digit && nat_lt (digit - zero_digit) views && (next == space))
    (own_line (digit - zero_digit) rest) Astray (Own view bytes) (astray-apart view bytes) e in
    let all = three-of (nat_le zero_digit digit) (nat_lt (digit - zero_digit) views) (next == space) test.0 in
    let own = own-parts (digit - zero_digit) view rest bytes test.1 in
    let least : zero_digit ≤ digit = leb-true zero_digit digit all.one in
    let less : digit - zero_digit < views = ltb-true (digit - zero_digit) views all.two in
    let spaced : next ≡ space = eqb-true next space all.three in
    let is : digit - zero_digit ≡ view = own.1 in
    let digits : digit ≡ zero_digit + view = omega arith in
    record {
      there = subst (λ v. v < views) is less;
      written = ap (λ d. d ∷ (next ∷ rest)) digits
          ∙ (ap (λ s. (zero_digit + view) ∷ (s ∷ rest)) spaced ∙ ap (λ l. (zero_digit + view) ∷ (space ∷ l)) own.2);
      filled = subst (λ l. is_blank l ≡ false) own.2 own.0;
    }

pub own-read : (views : ℕ) (line : List ℕ) (view : ℕ) (bytes : List ℕ) → split_line views line ≡ Own view bytes
    → IsWritten views line view bytes
own-read views line view bytes e =
    own-line-written views line view bytes
    (passed (bytes_eq line (codes "redo")) Redo (view_line views line) (Own view bytes) (redo-apart view bytes)
    (passed (bytes_eq line (codes "undo")) Undo _ (Own view bytes) (undo-apart view bytes)
    (passed (is_blank line) Skipped _ (Own view bytes) (skipped-apart view bytes) e)))
