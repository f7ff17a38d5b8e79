-- A list that is copied one by one.
use Rattle.std.proofs.Common.{◌≡◌, ◌≤◌, ◌+◌, ◌<◌, ℕ, List, [], ◌∷◌, ◌++◌, ◌-◌, drop, get_or, length, map, take, refl, sym, subst, ◌∙◌, inl, inr, arith}
use mathlib.Core.Logic.{◌⊎◌}
use Rattle.std.specs.Prelude.{None, Result, Some, slice_get}
use Rattle.std.specs.Result.{IfOk}
use Rattle.std.specs.Str.{IsUtf8}
use Rattle.std.proofs.lemmas.List.{length-map, map-append, take_all, take_more}
use Rattle.cell_units.specs.Record.{Mark, Record}
use Rattle.cell_units.specs.Text.{IsBoundary}
use Rattle.plain_rows.specs.Plain.{marks_of}
use Rattle.display_sheet.specs.Shown.{unstamped}
use Rattle.kept_sheet.specs.Kept.{widths_of}
use Rattle.std.proofs.lemmas.Option.{get_or_from_slice_get, slice_get_cases, slice_get_within}

pub pushed-plain : {Y : Type 0} (items ys : List Y) (y : Y) (at : ℕ) → items ≡ take at ys → slice_get ys at ≡ Some y → items ++ y ∷ [] ≡ take (at + 1) ys
pushed-plain items ys y at so here =
    (λ i. so i ++ sym (get_or_from_slice_get ys at y y here) i ∷ []) ∙ sym (take_more ys at y (slice_get_within ys at y here))

pub pushed : {X Y : Type 0} (see : X → Y) (items : List X) (x : X) (ys : List Y) (at : ℕ) → map see items ≡ take at ys → slice_get ys at ≡ Some (see x) →
    map see (items ++ x ∷ []) ≡ take (at + 1) ys
pushed see items x ys at so here = map-append see items (x ∷ []) ∙ pushed-plain (map see items) ys (see x) at so here

pub none-past : {Y : Type 0} (ys : List Y) (n : ℕ) → slice_get ys n ≡ None → length ys ≤ n
none-past {Y} ys n none = go (slice_get_cases ys n).1 where
  go : ((y : Y) × (n < length ys) × (slice_get ys n ≡ Some y) × (get_or ys n y ≡ y)) ⊎ ((length ys ≤ n) × (slice_get ys n ≡ None)) → length ys ≤ n
  go (inl p) = let no : None ≡ Some p.0 = sym none ∙ p.2 in absurd (cc)
  go (inr p) = p.0

pub all-pushed : {Y : Type 0} (items ys : List Y) (at : ℕ) → items ≡ take at ys → length ys ≤ at → items ≡ ys
all-pushed items ys at so all = so ∙ take_all at ys all

-- a record whose stamps count its lines is that of its widths
pub plain-record : (r : Record) → unstamped r ≡ r → record r { marks = marks_of (widths_of r); next_stamp = length (widths_of r) } ≡ r
plain-record r plain = (λ i. record r { marks = marks_of (widths_of r); next_stamp = length-map r.marks (λ (m : Mark). m.width) i }) ∙ plain

-- ---- the whole text

pub start-boundary : (text : List ℕ) → IsBoundary text 0
start-boundary text = (omega arith, ([], (refl, refl)))

module _ (text : List ℕ) (utf8 : IsUtf8 text) (rope : List ℕ) (rope_is : rope ≡ text) (end : ℕ) (end_is : end ≡ length rope) where
  pub end-boundary : IsBoundary rope end
  end-boundary = (omega (arith, end_is), subst IsUtf8 (sym rope_is ∙ sym (take_all end rope (omega (arith, end_is)))) utf8)

module _ (text rope : List ℕ) (rope_is : rope ≡ text) (end : ℕ) (end_is : end ≡ length rope) {E : Type 0} (result : Result (List ℕ) E) where
  pub sliced-all : IfOk result (λ t. t ≡ take (end - 0) (drop 0 rope)) → IfOk result (λ t. t ≡ text)
  sliced-all is = subst (λ (whole : List ℕ). IfOk result (λ t. t ≡ whole)) (take_all (end - 0) rope (omega (arith, end_is)) ∙ rope_is) is
