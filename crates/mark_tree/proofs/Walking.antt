-- How a walk along ranges finds those that have a byte in common with others.
use Rattle.std.proofs.Common.{◌≡◌, ℕ, zero, suc, ◌+◌, ◌-◌, ◌<◌, ◌≤◌, ◌&&◌, nat_lt, Bool, true, false, cond, List, [], ◌∷◌, ◌++◌, length, map, filter, take, drop, count_by, Some, refl, sym, ap, subst, ◌∙◌, arith}
use Rattle.std.specs.List.{All, slice_get}
use Rattle.std.proofs.lemmas.List.{drop_all, drop-drop, length-append, take-append-drop}
use Rattle.std.proofs.lemmas.List.Elements.{All-head, All-tail}
use Rattle.std.proofs.lemmas.List.Sums.{length-filter}
use Rattle.std.proofs.lemmas.Bool.Decides.{nat_tests}
use Rattle.std.proofs.lemmas.Option.{get_or_from_slice_get, slice_get_within}
use Rattle.mark_tree.specs.declared.entry.Placed.{Placed}
use Rattle.mark_tree.specs.declared.mark.RangeMark.{RangeMark}
use Rattle.mark_tree.specs.Entries.{end_at, IsSpaced}
use Rattle.mark_tree.specs.Meeting.{met_from}
use Rattle.mark_tree.specs.Ranges.{has_in_common}
use Rattle.mark_tree.specs.RangeViews.{range_of}
use Rattle.mark_tree.specs.Reaching.{IsFirstReaching}
use Rattle.mark_tree.proofs.Splicing.{drop-at}

-- what tests of both ends say
not-met_before : (s e start end : ℕ) → end < start + 1 → (nat_lt s e && nat_lt start end) ≡ false
not-met_before s e start end le = go (nat_lt s e) (nat_lt start end) (grind (arith, nat_tests)) where
  go : (b c : Bool) → c ≡ false → (b && c) ≡ false
  go true c q = q
  go false c q = refl

not-met_behind : (s e start end : ℕ) → e ≤ s → (nat_lt s e && nat_lt start end) ≡ false
not-met_behind s e start end le = ap (λ b. b && nat_lt start end) (below s e le) where
  below : (m n : ℕ) → n ≤ m → nat_lt m n ≡ false
  below m n a = grind (arith, nat_tests)

is-met : (s e start end : ℕ) → s < e → start + 1 ≤ end → (nat_lt s e && nat_lt start end) ≡ true
is-met s e start end a b = go (nat_lt s e) (nat_lt start end) (grind (arith, nat_tests)) (grind (arith, nat_tests)) where
  go : (b c : Bool) → b ≡ true → c ≡ true → (b && c) ≡ true
  go true c p q = q
  go false c p q = p

module _ {P : Type 0} (start end : ℕ) where
  abbrev met : List (Placed P) → List RangeMark
  met ps = filter (has_in_common start end) (map range_of ps)

  met-skip : (p : Placed P) (ps : List (Placed P)) → has_in_common start end (range_of p) ≡ false → met (p ∷ ps) ≡ met ps
  met-skip p ps off = ap (λ b. cond b (range_of p ∷ met ps) (met ps)) off

  met-take : (p : Placed P) (ps : List (Placed P)) → has_in_common start end (range_of p) ≡ true → met (p ∷ ps) ≡ range_of p ∷ met ps
  met-take p ps on = ap (λ b. cond b (range_of p ∷ met ps) (met ps)) on

  -- none that ends before is met
  met-short : (ps qs : List (Placed P)) → All (λ p. end_at p < start + 1) ps → met (ps ++ qs) ≡ met qs
  met-short [] qs all = refl
  met-short (p ∷ ps) qs all =
      met-skip p (ps ++ qs) (not-met_before p.offset end start (end_at p) (All-head (λ q. end_at q < start + 1) p ps all))
      ∙ met-short ps qs (All-tail (λ q. end_at q < start + 1) p ps all)

  -- nor is any that starts after it
  met-behind : (o : ℕ) (ps : List (Placed P)) → end ≤ o → IsSpaced o ps → met ps ≡ []
  met-behind o [] le s = refl
  met-behind o (p ∷ ps) le s =
      met-skip p ps (not-met_behind p.offset end start (end_at p) (omega (arith, s.0))) ∙ met-behind p.offset ps (omega (arith, s.0)) s.1

  spaced-at : (n o : ℕ) (ps : List (Placed P)) (p : Placed P) → IsSpaced o ps → slice_get ps n ≡ Some p → IsSpaced p.offset (drop n ps)
  spaced-at n o [] p s is = absurd (cc)
  spaced-at zero o (x ∷ xs) p s is = let same : x ≡ p = cc in subst (λ (q : Placed P). IsSpaced q.offset (x ∷ xs)) same (omega arith, s.1)
  spaced-at (suc n) o (x ∷ xs) p s is = spaced-at n x.offset xs p s.1 is

  -- the walk goes on at the first that reaches the start
  pub met-reaching : (at place : ℕ) (ps : List (Placed P)) → IsFirstReaching at (start + 1) ps place → met_from start end at ps ≡ met_from start end place ps
  met-reaching at place ps f =
      let skip = place - at in
      let there : at + skip ≡ place = let le = f.from in omega arith in
      ap met (sym (take-append-drop skip (drop at ps)))
      ∙ met-short (take skip (drop at ps)) (drop skip (drop at ps)) f.short
      ∙ ap met (drop-drop skip at ps)
      ∙ ap (λ n. met (drop n ps)) there

  -- where it ends
  pub met-end : (place : ℕ) (ps : List (Placed P)) → length ps ≤ place → met_from start end place ps ≡ []
  met-end place ps le = ap met (drop_all place ps le)

  pub met-past : (place : ℕ) (ps : List (Placed P)) (p : Placed P) → IsSpaced 0 ps → slice_get ps place ≡ Some p → end ≤ p.offset → met_from start end place ps ≡ []
  met-past place ps p s is le = met-behind p.offset (drop place ps) le (spaced-at place 0 ps p s is)

  -- one that is met
  pub met-next : (at place : ℕ) (ps : List (Placed P)) (p : Placed P) → IsFirstReaching at (start + 1) ps place → slice_get ps place ≡ Some p → p.offset < end → met_from start end place ps ≡ range_of p ∷ met_from start end (place + 1) ps
  met-next at place ps p f is lt =
      let open_at : drop place ps ≡ p ∷ drop (place + 1) ps = drop-at ps place p is in
      let long : start + 1 ≤ end_at p = All-head (λ q. start + 1 ≤ end_at q) p [] (subst (λ l. All (λ q. start + 1 ≤ end_at q) (take 1 l)) open_at f.long) in
      ap met open_at ∙ met-take p (drop (place + 1) ps) (is-met p.offset end start (end_at p) lt long)

  -- those that were met are no more than all
  pub met-count : (ps : List (Placed P)) (xs : List RangeMark) (at : ℕ) → met_from start end 0 ps ≡ xs ++ met_from start end at ps → length xs ≤ count_by (has_in_common start end) (map range_of ps)
  met-count ps xs at is = omega (arith, length-filter (has_in_common start end) (map range_of ps), ap length is, length-append xs (met_from start end at ps))

-- the end of one that is in a list
pub end-fits : {P : Type 0} (m place : ℕ) (ps : List (Placed P)) (p : Placed P) → slice_get ps place ≡ Some p → All (λ q. end_at q < m) ps → end_at p < m
end-fits {P = P} m place ps p is all = subst (λ (q : Placed P). end_at q < m) (get_or_from_slice_get ps place p p is) (all place p (slice_get_within ps place p is))
