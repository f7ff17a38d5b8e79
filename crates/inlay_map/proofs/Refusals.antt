-- Why an inlay is refused.
use Rattle.std.proofs.Common.{Result, Ok, Err, IfErr, IsErrAnd, subst, ◌≡◌, ℕ, ◌<◌, ◌≤◌, ◌==◌, ◌||◌, ◌⊎◌, not, nat_le, nat_lt, Bool, true, false, cond, List, length, Option, Some, None, refl, sym, ap, inl, inr, arith}
use Rattle.std.specs.List.{list_any}
use Rattle.std.specs.Str.{IsUtf8}
use Rattle.std.proofs.lemmas.Bool.Decides.{nat_tests}
use Rattle.cell_units.specs.declared.limits.TheConstants.{ENTRY_LIMIT, INLAY_LIMIT}
use Rattle.cell_units.specs.declared.fault.Fault.{Fault}
use Rattle.cell_units.specs.declared.fault.Fault.TheVariants.{NoMemory}
use Rattle.cell_units.specs.declared.fault.Refusal.{Refusal}
use Rattle.cell_units.specs.declared.fault.Refusal.TheVariants.{BadRange, BadText, IdInUse, TooLong, UnknownId}
use Rattle.cell_units.specs.Layers.{Source}
use Rattle.cell_units.specs.Text.{IsBoundary, is_boundary}
use Rattle.cell_units.proofs.TextLaws.{tells_boundaries}
use Rattle.inlay_map.specs.Maps.{IsOwed, add_refusal, remove_refusal}

pub boundary-true : (text : List ℕ) (o : ℕ) → IsUtf8 text → IsBoundary text o → is_boundary text o ≡ true
boundary-true text o utf8 b = (tells_boundaries text utf8 o).1 b

pub boundary-false : (text : List ℕ) (o : ℕ) → IsUtf8 text → ¬ IsBoundary text o → is_boundary text o ≡ false
boundary-false text o utf8 off = go (is_boundary text o) refl where
  go : (b : Bool) → is_boundary text o ≡ b → b ≡ false
  go true e = absurd (off ((tells_boundaries text utf8 o).0 e))
  go false e = refl

module _ (s : Source) (id offset : ℕ) (text : List ℕ) where
  abbrev chain : Bool → Bool → Bool → Bool → Option Refusal
  chain a b c d = cond a (Some IdInUse) (cond (not b) (Some BadRange) (cond c (Some BadText) (cond d (Some TooLong) None)))

  chained : (a b c d : Bool) → list_any (λ i. i.id == id) s.inlays ≡ a → is_boundary s.text offset ≡ b → (length text == 0) ≡ c → (nat_lt INLAY_LIMIT (length text) || nat_le ENTRY_LIMIT (length s.inlays)) ≡ d
      → chain a b c d ≡ add_refusal s id offset text
  chained a b c d p q r t = λ i. chain (sym p i) (sym q i) (sym r i) (sym t i)

  pub refused-id : list_any (λ i. i.id == id) s.inlays ≡ true → Some IdInUse ≡ add_refusal s id offset text
  refused-id p = chained true (is_boundary s.text offset) (length text == 0) (nat_lt INLAY_LIMIT (length text) || nat_le ENTRY_LIMIT (length s.inlays)) p refl refl refl

  pub refused-range : list_any (λ i. i.id == id) s.inlays ≡ false → is_boundary s.text offset ≡ false → Some BadRange ≡ add_refusal s id offset text
  refused-range p q = chained false false (length text == 0) (nat_lt INLAY_LIMIT (length text) || nat_le ENTRY_LIMIT (length s.inlays)) p q refl refl

  empty : (n : ℕ) → n ≡ 0 → (n == 0) ≡ true
  empty n e = grind (arith, nat_tests)

  some : (n : ℕ) → 0 < n → (n == 0) ≡ false
  some n e = grind (arith, nat_tests)

  long : (n m : ℕ) → (INLAY_LIMIT < n) ⊎ (ENTRY_LIMIT ≤ m) → (nat_lt INLAY_LIMIT n || nat_le ENTRY_LIMIT m) ≡ true
  long n m (inl e) = over INLAY_LIMIT n e where
    over : (k n : ℕ) → k < n → (nat_lt k n || nat_le ENTRY_LIMIT m) ≡ true
    over k n e = grind (arith, nat_tests)
  long n m (inr e) = full ENTRY_LIMIT (nat_lt INLAY_LIMIT n) e where
    full : (k : ℕ) (b : Bool) → k ≤ m → (b || nat_le k m) ≡ true
    full k true e = refl
    full k false e = grind (arith, nat_tests)

  short : (k l n m : ℕ) → n ≤ k → m < l → (nat_lt k n || nat_le l m) ≡ false
  short k l n m e f = grind (arith, nat_tests)

  pub refused-text : list_any (λ i. i.id == id) s.inlays ≡ false → is_boundary s.text offset ≡ true → length text ≡ 0 → Some BadText ≡ add_refusal s id offset text
  refused-text p q e = chained false true true (nat_lt INLAY_LIMIT (length text) || nat_le ENTRY_LIMIT (length s.inlays)) p q (empty (length text) e) refl

  pub refused-long : list_any (λ i. i.id == id) s.inlays ≡ false → is_boundary s.text offset ≡ true → 0 < length text → (INLAY_LIMIT < length text) ⊎ (ENTRY_LIMIT ≤ length s.inlays)
      → Some TooLong ≡ add_refusal s id offset text
  refused-long p q e f = chained false true false true p q (some (length text) e) (long (length text) (length s.inlays) f)

  pub not-refused : list_any (λ i. i.id == id) s.inlays ≡ false → is_boundary s.text offset ≡ true → 0 < length text → length text ≤ INLAY_LIMIT → length s.inlays < ENTRY_LIMIT
      → None ≡ add_refusal s id offset text
  not-refused p q e f g = chained false true false false p q (some (length text) e) (short INLAY_LIMIT ENTRY_LIMIT (length text) (length s.inlays) f g)

-- ---- an inlay is only removed where its id is there

pub known-id : (s : Source) (id : ℕ) → list_any (λ i. i.id == id) s.inlays ≡ true → None ≡ remove_refusal s id
known-id s id e = ap {B = Option Refusal} (λ (b : Bool). cond b None (Some UnknownId)) (sym e)

pub unknown-id : (s : Source) (id : ℕ) → list_any (λ i. i.id == id) s.inlays ≡ false → Some UnknownId ≡ remove_refusal s id
unknown-id s id e = ap {B = Option Refusal} (λ (b : Bool). cond b None (Some UnknownId)) (sym e)

-- where nothing is refused, the error is out of memory
pub owed-memory : {A : Type 0} (refusal : Option Refusal) (r : Result A Fault) → None ≡ refusal → IsErrAnd r (λ e. e ≡ NoMemory) → IfErr r (IsOwed refusal)
owed-memory refusal (Ok x) none h = tt
owed-memory refusal (Err e) none h = subst (λ (o : Option Refusal). IsOwed o e) none h
