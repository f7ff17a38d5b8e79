-- Where an offset is among inlays: as the splices carry it, and by the definition.
use Rattle.std.proofs.Common.{◌≡◌, ℕ, suc, ◌+◌, ◌-◌, ◌*◌, ◌^◌, ◌<◌, ◌≤◌, ◌&&◌, Bool, true, false, cond, nat_le, nat_lt, List, [], ◌∷◌, map, filter, sum_by, length, refl, sym, ap, ◌∙◌, arith}
use Rattle.std.proofs.lemmas.Bool.Decides.{nat_tests}
use Rattle.std.proofs.lemmas.List.Sums.{sum_by-cons}
use Rattle.cell_units.specs.declared.place.Bias.{Bias}
use Rattle.cell_units.specs.declared.place.Bias.TheVariants.{Left, Right}
use Rattle.cell_units.specs.Text.{clean}
use Rattle.cell_units.specs.Record.{Inlay}
use Rattle.cell_units.specs.Layers.{inlay_source, place_of}
use Rattle.cell_units.specs.Laws.{inlaid_bytes}
use Rattle.cell_units.specs.Lawful.{AreInlays}
use Rattle.cell_units.specs.declared.limits.TheConstants.{INLAY_LIMIT, LAID_LIMIT}
use Rattle.cell_units.proofs.Returns.{clean-not_longer}
use Rattle.cell_units.proofs.InlaidPlaces.{left-is, right-is}
use Rattle.splice_tree.specs.Splices.{measured, to_upper, is_behind}
use Rattle.splice_tree.proofs.Carrying.{after, at}
use Rattle.splice_tree.proofs.LawProofs.{end_reached, edge_kept, le_false}
use Rattle.inlay_map.specs.Amounts.{bytes_of}
use Rattle.inlay_map.specs.Splices.{splice_of, splices_from}
use Rattle.inlay_map.proofs.Spread.{IsSpread, spread}

-- the inlay is before a place by its offset
abbrev pub stands_before : Bias → ℕ → Inlay → Bool
stands_before Left x i = nat_lt i.offset x
stands_before Right x i = nat_le i.offset x

same_test : (bias : Bias) (o x n : ℕ) (i : Inlay) → o ≤ x → o ≤ i.offset → is_behind bias (record { gap = i.offset - o; old = 0; new = n }) (x - o) ≡ stands_before bias x i
same_test Left o x n i le up = go i.offset up where
  go : (q : ℕ) → o ≤ q → (nat_lt (q - o) (x - o) && nat_le (q - o + 0) (x - o)) ≡ nat_lt q x
  go q up = grind (arith, nat_tests)
same_test Right o x n i le up = go i.offset up where
  go : (q : ℕ) → o ≤ q → nat_le (q - o + 0) (x - o) ≡ nat_le q x
  go q up = grind (arith, nat_tests)

not_before_on : (bias : Bias) (x : ℕ) (i j : Inlay) → i.offset ≤ j.offset → stands_before bias x i ≡ false → stands_before bias x j ≡ false
not_before_on Left x i j le e = go i.offset j.offset le e where
  go : (p q : ℕ) → p ≤ q → nat_lt p x ≡ false → nat_lt q x ≡ false
  go p q le t = grind (arith, nat_tests)
not_before_on Right x i j le e = go i.offset j.offset le e where
  go : (p q : ℕ) → p ≤ q → nat_le p x ≡ false → nat_le q x ≡ false
  go p q le t = grind (arith, nat_tests)

not_before : (bias : Bias) (x : ℕ) (i : Inlay) → stands_before bias x i ≡ false → x ≤ i.offset
not_before Left x i t = go i.offset t where
  go : (p : ℕ) → nat_lt p x ≡ false → x ≤ p
  go p t = grind (arith, nat_tests)
not_before Right x i t = omega (arith, le_false i.offset x t)

module _ (text : List ℕ) where
  none_further : (bias : Bias) (x : ℕ) (i : Inlay) (is : List Inlay) → IsSpread text i.offset is → stands_before bias x i ≡ false → inlaid_bytes (stands_before bias x) is ≡ 0
  none_further bias x i [] s e = refl
  none_further bias x i (j ∷ js) s e =
      let here = not_before_on bias x i j s.0 e in
      ap (λ b. sum_by (λ (k : Inlay). length (clean k.text)) (cond b (j ∷ filter (stands_before bias x) js) (filter (stands_before bias x) js))) here
      ∙ none_further bias x j js s.3 here

  pub place-is : (bias : Bias) (o x : ℕ) (is : List Inlay) → IsSpread text o is → o ≤ x → o + to_upper bias (map (measured bytes_of) (splices_from text o is)) (x - o) ≡ x + inlaid_bytes (stands_before bias x) is
  place-is bias o x [] s le = omega arith
  place-is bias o x (i ∷ is) s le = go (place-is bias i.offset x is s.3) (is_behind bias (measured bytes_of (splice_of text o i)) (x - o)) refl where
    go : (i.offset ≤ x → i.offset + to_upper bias (map (measured bytes_of) (splices_from text i.offset is)) (x - i.offset) ≡ x + inlaid_bytes (stands_before bias x) is)
        → (b : Bool) → is_behind bias (measured bytes_of (splice_of text o i)) (x - o) ≡ b
        → o + to_upper bias (measured bytes_of (splice_of text o i) ∷ map (measured bytes_of) (splices_from text i.offset is)) (x - o) ≡ x + inlaid_bytes (stands_before bias x) (i ∷ is)
    go next true e =
        let st = measured bytes_of (splice_of text o i) in
        let ss = map (measured bytes_of) (splices_from text i.offset is) in
        let test : stands_before bias x i ≡ true = sym (same_test bias o x (length (clean i.text)) i le s.0) ∙ e in
        let end : i.offset - o + 0 ≤ x - o = end_reached bias st (x - o) e in
        let there : x - o - (i.offset - o + 0) ≡ x - i.offset = omega (arith, s.0) in
        let further = next (omega (arith, end, s.0)) in
        let left : o + to_upper bias (st ∷ ss) (x - o) ≡ o + (i.offset - o + length (clean i.text) + to_upper bias ss (x - i.offset)) =
        ap (λ k. o + k) (after bias st ss (x - o) e ∙ ap (λ y. i.offset - o + length (clean i.text) + to_upper bias ss y) there) in
        let right : inlaid_bytes (stands_before bias x) (i ∷ is) ≡ length (clean i.text) + inlaid_bytes (stands_before bias x) is =
        ap (λ b. sum_by (λ (k : Inlay). length (clean k.text)) (cond b (i ∷ filter (stands_before bias x) is) (filter (stands_before bias x) is))) test
        ∙ sum_by-cons (λ (k : Inlay). length (clean k.text)) i (filter (stands_before bias x) is) in
        omega (arith, left, right, further, s.0)
    go next false e =
        let st = measured bytes_of (splice_of text o i) in
        let ss = map (measured bytes_of) (splices_from text i.offset is) in
        let test : stands_before bias x i ≡ false = sym (same_test bias o x (length (clean i.text)) i le s.0) ∙ e in
        let short : x ≤ i.offset = not_before bias x i test in
        let left : to_upper bias (st ∷ ss) (x - o) ≡ x - o = at bias st ss (x - o) e ∙ edge_kept bias st (x - o) (omega (arith, s.0)) in
        let right : inlaid_bytes (stands_before bias x) (i ∷ is) ≡ 0 =
        ap (λ b. sum_by (λ (k : Inlay). length (clean k.text)) (cond b (i ∷ filter (stands_before bias x) is) (filter (stands_before bias x) is))) test
        ∙ none_further bias x i is s.3 test in
        omega (arith, left, right, le)

  -- as the splices carry an offset, so it is by the definition
  pub carried-place : (bias : Bias) (x : ℕ) (is : List Inlay) → IsSpread text 0 is → x ≤ length text → to_upper bias (map (measured bytes_of) (splices_from text 0 is)) x ≡ place_of (inlay_source text is) x bias
  carried-place Left x is s le =
      let same : x - 0 ≡ x = omega arith in
      omega (arith, place-is Left 0 x is s (omega arith), ap (to_upper Left (map (measured bytes_of) (splices_from text 0 is))) same, left-is text is x le)
  carried-place Right x is s le =
      let same : x - 0 ≡ x = omega arith in
      omega (arith, place-is Right 0 x is s (omega arith), ap (to_upper Right (map (measured bytes_of) (splices_from text 0 is))) same, right-is text is x le)

  bytes-most : (test : Inlay → Bool) (base : ℕ) (is : List Inlay) → IsSpread text base is → inlaid_bytes test is ≤ INLAY_LIMIT * length is
  bytes-most test base [] s = omega arith
  bytes-most test base (i ∷ is) s = go (test i) (bytes-most test i.offset is s.3) where
    go : (b : Bool) → inlaid_bytes test is ≤ INLAY_LIMIT * length is → sum_by (λ (k : Inlay). length (clean k.text)) (cond b (i ∷ filter test is) (filter test is)) ≤ INLAY_LIMIT * suc (length is)
    go true r = omega (arith, r, sum_by-cons (λ (k : Inlay). length (clean k.text)) i (filter test is), clean-not_longer i.text, s.2)
    go false r = omega (arith, r)

  -- how much can be shown at most
  pub place-limit : (bias : Bias) (x : ℕ) (is : List Inlay) → AreInlays text is → length text ≤ LAID_LIMIT → x ≤ length text → place_of (inlay_source text is) x bias < 2 ^ 28
  place-limit Left x is are short le = omega (arith, left-is text is x le, bytes-most (stands_before Left x) 0 is (spread text is are), are.few)
  place-limit Right x is are short le = omega (arith, right-is text is x le, bytes-most (stands_before Right x) 0 is (spread text is are), are.few)

  -- so every place is a number of 32 bits
  pub place-small : (bias : Bias) (x : ℕ) (is : List Inlay) → AreInlays text is → length text ≤ LAID_LIMIT → x ≤ length text → place_of (inlay_source text is) x bias < 2 ^ 32
  place-small bias x is are short le = omega (arith, place-limit bias x is are short le)
