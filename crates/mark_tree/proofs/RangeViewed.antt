-- Lists of ranges, as views of things that are ranges.
use Rattle.std.proofs.Common.{◌≡◌, ℕ, zero, suc, ◌+◌, ◌<◌, ◌≤◌, ◌^◌, ◌==◌, ◌&&◌, ◌||◌, nat_lt, nat_le, not, Bool, true, false, cond, List, [], ◌∷◌, length, map, filter, count_by, get_or, position, refl, sym, ap, subst, ◌∙◌, arith}
use Rattle.std.specs.List.{All, Contains, list_any}
use Rattle.std.proofs.lemmas.List.Elements.{All-nil, All-cons, All-head, All-tail}
use Rattle.std.proofs.lemmas.Bool.Decides.{nat_tests}
use Rattle.cell_units.specs.declared.place.Shift.{Shift}
use Rattle.cell_units.specs.Record.{in_order, bias_rank}
use Rattle.cell_units.specs.Sorting.{insert_by, sort_by}
use Rattle.mark_tree.specs.declared.entry.Placed.{Placed}
use Rattle.mark_tree.specs.Entries.{end_at, IsCodable}
use Rattle.mark_tree.specs.Ranges.{is_range_met, range_le, has_range_id, lacks_range_id, IsRangeList}
use Rattle.mark_tree.specs.Order.{placed_le, has_placed_id, lacks_placed_id}
use Rattle.mark_tree.specs.RangeViews.{range_of, IsRange, AreRanges, meets_extent}
use Rattle.mark_tree.proofs.Sorting.{count-cons, every-insert, insert-map, sort-map}
use Rattle.mark_tree.proofs.Changing.{every-from_all, all-from_every}
use Rattle.mark_tree.proofs.Finding.{position-map}
use Rattle.mark_tree.proofs.Moved.{length-map}

lt-add : (s a b : ℕ) → nat_lt (s + a) (s + b) ≡ nat_lt a b
lt-add s a b = grind (arith, nat_tests)

eq-add : (s a b : ℕ) → ((s + a) == (s + b)) ≡ (a == b)
eq-add s a b = grind (arith, nat_tests)

in_order-add : (s a b : ℕ) (r : Bool) → in_order (s + a) (s + b) r ≡ in_order a b r
in_order-add s a b r = λ i. lt-add s a b i || (eq-add s a b i && r)

in_order-equal : (a : ℕ) (r : Bool) → in_order a a r ≡ r
in_order-equal a r = go (nat_lt a a) (a == a) r (grind (arith, nat_tests)) (grind (arith, nat_tests)) where
  go : (c d e : Bool) → c ≡ false → d ≡ true → (c || (d && e)) ≡ e
  go true d e x y = absurd (cc)
  go false true true x y = refl
  go false true false x y = refl
  go false false e x y = absurd (cc)

in_order-cong : (a b : ℕ) (r q : Bool) → (a ≡ b → r ≡ q) → in_order a b r ≡ in_order a b q
in_order-cong a b r q same = go (a == b) refl where
  go : (d : Bool) → (a == b) ≡ d → (nat_lt a b || (d && r)) ≡ (nat_lt a b || (d && q))
  go true e = ap (λ x. nat_lt a b || (true && x)) (same (grind (arith, nat_tests)))
  go false e = refl

module _ {P : Type 0} where
  le-range : (p q : Placed P) → IsRange p → IsRange q → placed_le p q ≡ range_le (range_of p) (range_of q)
  le-range p q a b =
      in_order-cong p.offset q.offset (in_order (bias_rank p.bias) (bias_rank q.bias) (in_order p.length q.length (nat_le p.id q.id))) (in_order (p.offset + p.length) (q.offset + q.length) (nat_le p.id q.id))
      (λ e. (λ i. in_order (bias_rank (a.right i)) (bias_rank (b.right i)) (in_order p.length q.length (nat_le p.id q.id)))
      ∙ in_order-equal 1 (in_order p.length q.length (nat_le p.id q.id))
      ∙ sym (in_order-add p.offset p.length q.length (nat_le p.id q.id))
      ∙ ap (λ n. in_order (p.offset + p.length) (n + q.length) (nat_le p.id q.id)) e)

  pub insert-range : (p : Placed P) (ps : List (Placed P)) → IsRange p → All IsRange ps → map range_of (insert_by placed_le p ps) ≡ insert_by range_le (range_of p) (map range_of ps)
  insert-range p ps a b = insert-map range_of placed_le range_le IsRange le-range p ps a (every-from_all IsRange ps b)

  pub sort-range : (ps : List (Placed P)) → All IsRange ps → map range_of (sort_by placed_le ps) ≡ sort_by range_le (map range_of ps)
  sort-range ps a = sort-map range_of placed_le range_le IsRange le-range ps (every-from_all IsRange ps a)

  pub any-range : (id : ℕ) (ps : List (Placed P)) → list_any (has_placed_id id) ps ≡ list_any (has_range_id id) (map range_of ps)
  any-range id [] = refl
  any-range id (p ∷ ps) = ap (λ b. (p.id == id) || b) (any-range id ps)

  pub position-range : (id : ℕ) (ps : List (Placed P)) → position (has_placed_id id) ps ≡ position (has_range_id id) (map range_of ps)
  position-range id ps = position-map range_of (has_placed_id id) (has_range_id id) (λ p. refl) ps

  pub filter-range : (id : ℕ) (ps : List (Placed P)) → map range_of (filter (lacks_placed_id id) ps) ≡ filter (lacks_range_id id) (map range_of ps)
  filter-range id [] = refl
  filter-range id (p ∷ ps) = go (not (p.id == id)) (filter-range id ps) where
    go : (b : Bool) → map range_of (filter (lacks_placed_id id) ps) ≡ filter (lacks_range_id id) (map range_of ps)
        → map range_of (cond b (p ∷ filter (lacks_placed_id id) ps) (filter (lacks_placed_id id) ps)) ≡ cond b (range_of p ∷ filter (lacks_range_id id) (map range_of ps)) (filter (lacks_range_id id) (map range_of ps))
    go true r = ap (λ l. range_of p ∷ l) r
    go false r = r

  pub count-range : (id : ℕ) (ps : List (Placed P)) → count_by (has_placed_id id) ps ≡ count_by (has_range_id id) (map range_of ps)
  count-range id [] = refl
  count-range id (p ∷ ps) = omega (arith, count-cons (has_placed_id id) p ps, count-range id ps, count-cons (has_range_id id) (range_of p) (map range_of ps))

  pub count-met : (s : Shift) (ps : List (Placed P)) → count_by (meets_extent s) ps ≡ count_by (is_range_met s) (map range_of ps)
  count-met s [] = refl
  count-met s (p ∷ ps) = omega (arith, count-cons (meets_extent s) p ps, count-met s ps, count-cons (is_range_met s) (range_of p) (map range_of ps))

  pub contains-range : (p : Placed P) (ps : List (Placed P)) → Contains ps p → Contains (map range_of ps) (range_of p)
  contains-range p ps c = (c.0, omega (arith, c.1, length-map range_of ps), go ps c.0 c.1 ∙ ap range_of c.2) where
    go : (qs : List (Placed P)) (k : ℕ) → k < length qs → get_or (map range_of qs) k (range_of p) ≡ range_of (get_or qs k p)
    go [] k lt = refl
    go (q ∷ qs) zero lt = refl
    go (q ∷ qs) (suc k) lt = go qs k (omega arith)

  bounds-range : (ps : List (Placed P)) → All IsRange ps → All (λ p. end_at p < 2 ^ 32) ps → All (λ r. (r.start < r.end) × (r.end < 2 ^ 32)) (map range_of ps)
  bounds-range [] a e = All-nil (λ r. (r.start < r.end) × (r.end < 2 ^ 32))
  bounds-range (p ∷ ps) a e =
      let first = All-head (λ q. end_at q < 2 ^ 32) p ps e in
      let some = (All-head IsRange p ps a).some in
      All-cons (λ r. (r.start < r.end) × (r.end < 2 ^ 32)) (range_of p) (map range_of ps) (omega arith, first) (bounds-range ps (All-tail IsRange p ps a) (All-tail (λ q. end_at q < 2 ^ 32) p ps e))

  -- what a tree of ranges is seen as
  pub lawful-range : (ps : List (Placed P)) → AreRanges ps → IsCodable ps → IsRangeList (map range_of ps)
  lawful-range ps m c = record {
    sorted = sym (sort-range ps m.each) ∙ ap (map range_of) m.ordered.sorted;
    distinct = λ id. subst (λ n. n ≤ 1) (count-range id ps) (m.ordered.distinct id);
    bounds = bounds-range ps m.each c.ends;
    small = omega (arith, length-map range_of ps, c.small);
  }

  pub ranges-added : (p : Placed P) (ps : List (Placed P)) → IsRange p → All IsRange ps → All IsRange (insert_by placed_le p ps)
  ranges-added p ps a b = all-from_every IsRange (insert_by placed_le p ps) (every-insert placed_le IsRange p ps a (every-from_all IsRange ps b))
