-- The start and the end of an offset's row are boundaries.
use Rattle.std.proofs.Common.{◌≡◌, ℕ, zero, suc, ◌+◌, ◌-◌, ◌<◌, ◌≤◌, not, Bool, true, false, List, length, drop, get_or, refl, sym, ap, subst, ◌∙◌, arith, add-one, inl, inr, ◌⊎◌}
use Rattle.std.specs.List.{prefix_len}
use Rattle.std.specs.Str.{IsCharBoundary, IsUtf8}
use Rattle.std.proofs.lemmas.Bool.{cases_lt, eqb-true, not-false}
use Rattle.std.proofs.lemmas.List.{get_or-drop, length-drop}
use Rattle.std.proofs.lemmas.List.Sums.{prefix_len-le-length, prefix_len_stops}
use Rattle.std.proofs.lemmas.Str.{IsCharBoundary-after_ascii, IsCharBoundary-before_ascii, IsCharBoundary-end, IsCharBoundary-start, IsUtf8-take}
use Rattle.cell_units.specs.Text.{IsBoundary, is_feed, row_end, row_start}
use Rattle.plain_rows.proofs.RisingLines.{row_start-le, row_start-next}

feed-small : (b : ℕ) → is_feed b ≡ true → b < 128
feed-small b e = omega (arith, eqb-true b 10 e)

boundary-of : (text : List ℕ) (o : ℕ) → IsUtf8 text → IsCharBoundary text o → IsBoundary text o
boundary-of text o utf8 b = (b.0, IsUtf8-take text o utf8 b)

-- a row starts at the text's start or after a feed
abbrev AfterFeed : List ℕ → ℕ → Type 0
AfterFeed text o = (o ≡ 0) ⊎ ((k : ℕ) × ((o ≡ k + 1) × ((k < length text) × (is_feed (get_or text k 0) ≡ true))))

start-after : (text : List ℕ) (o : ℕ) → o ≤ length text → AfterFeed text (row_start text o)
start-after text zero le = inl (omega (arith, row_start-le text 0))
start-after text (suc o) le = go (is_feed (get_or text o 0)) refl (start-after text o (omega (arith, le))) where
  one : row_start text (suc o) ≡ row_start text (o + 1)
  one = ap (row_start text) (sym (add-one o))

  go : (b : Bool) → is_feed (get_or text o 0) ≡ b → AfterFeed text (row_start text o) → AfterFeed text (row_start text (suc o))
  go true e r = inr (o, (one ∙ row_start-next text o true (omega (arith, le)) e, (omega (arith, le), e)))
  go false e r = subst (AfterFeed text) (sym (one ∙ row_start-next text o false (omega (arith, le)) e)) r

pub start-boundary : (text : List ℕ) (o : ℕ) → IsUtf8 text → o ≤ length text → IsBoundary text (row_start text o)
start-boundary text o utf8 le = boundary-of text (row_start text o) utf8 (elim (start-after text o le) [
  | inl e ↦ subst (IsCharBoundary text) (sym e) (IsCharBoundary-start text utf8)
  | inr f ↦ subst (IsCharBoundary text) (sym f.1.0) (IsCharBoundary-after_ascii text f.0 utf8 f.1.1.0 (feed-small (get_or text f.0 0) f.1.1.1))
])

pub end-boundary : (text : List ℕ) (o : ℕ) → IsUtf8 text → o ≤ length text → IsBoundary text (row_end text o)
end-boundary text o utf8 le =
    let n = prefix_len (λ (b : ℕ). not (is_feed b)) (drop o text) in
    let long : length (drop o text) ≡ length text - o = length-drop o text in
    boundary-of text (row_end text o) utf8 (elim (cases_lt n (length (drop o text))) [
      | inl lt ↦
          let stop = prefix_len_stops (λ (b : ℕ). not (is_feed b)) (drop o text) 0 lt in
          let feed : is_feed (get_or text (o + n) 0) ≡ true = not-false (is_feed (get_or text (o + n) 0)) (ap (λ (b : ℕ). not (is_feed b)) (sym (get_or-drop o text n 0)) ∙ stop) in
          IsCharBoundary-before_ascii text (o + n) (omega (arith, lt, long)) (feed-small (get_or text (o + n) 0) feed)
      | inr ge ↦
          let whole : length text ≡ o + n = omega (arith, ge, long, le, prefix_len-le-length (λ (b : ℕ). not (is_feed b)) (drop o text)) in
          subst (IsCharBoundary text) whole (IsCharBoundary-end text)
    ])
