-- The steps by which places are gathered.
use Rattle.std.proofs.Common.{◌≡◌, ℕ, zero, suc, ◌+◌, ◌-◌, ◌<◌, ◌≤◌, ◌↔◌, true, List, [], ◌∷◌, ◌++◌, Some, take, get_or, refl, sym, ap, subst, ◌∙◌, arith, inl, inr, ◌⊎◌}
use Rattle.std.specs.List.{Any, Contains, position_or_len, slice_get}
use Rattle.std.proofs.lemmas.Bool.{cases_lt, le-leb, leb-true, lt-ltb, ltb-true}
use Rattle.std.proofs.lemmas.List.Elements.{All-push, Contains-append_left, Contains-append_right, Contains-push_cases}
use Rattle.std.proofs.lemmas.Option.{same_Some}
use Rattle.cell_units.specs.declared.place.Bias.TheVariants.{Left, Right}
use Rattle.cell_units.specs.declared.place.Side.{Side}
use Rattle.cell_units.specs.Rows.{HaveRows, rows_before}
use Rattle.edit_patch.specs.declared.edit.Edit.{Edit}
use Rattle.edit_patch.specs.Came.{IsReplaced}
use Rattle.mark_tree.specs.declared.mark.Mark.{Mark}
use Rattle.mark_tree.specs.Marks.{is_not_before}
use Rattle.mark_tree.proofs.Sorting.{contains-from_member}
use Rattle.sum_core.specs.declared.load.NoLoad.{NoLoad}
use Rattle.block_map.specs.Maps.{row_at_line}
use Rattle.block_map.specs.Stops.{Stop, stands_before}
use Rattle.block_map.specs.inside.Anew.{Grows, IsAnchoredAt, IsBeside, IsEditedAt, IsIn, IsOfLine, IsTouchedAt}
use Rattle.block_map.specs.inside.Sides.{BlockMark}
use Rattle.block_map.proofs.Gathered.{edited-between, replaced-between}
use Rattle.block_map.proofs.LineStarts.{rows_before-next}
use Rattle.block_map.proofs.StopLoops.{get-lt, got, take-get}

get-snoc : {X : Type 0} (xs : List X) (y z : X) (j : ℕ) → slice_get (xs ++ y ∷ []) j ≡ Some z → (slice_get xs j ≡ Some z) ⊎ (y ≡ z)
get-snoc [] y z zero e = inr (let f : y ≡ z = cc in f)
get-snoc [] y z (suc zero) e = absurd (cc)
get-snoc [] y z (suc (suc j)) e = absurd (cc)
get-snoc (x ∷ xs) y z zero e = inl e
get-snoc (x ∷ xs) y z (suc j) e = get-snoc xs y z j e

-- ---- an anchor more

pub grows-anchored : (n : ℕ) (anchors : List (Mark NoLoad)) (ms : List BlockMark) (xs ys zs : List ℕ) (next p : ℕ) (a : Mark NoLoad) → slice_get anchors next ≡ Some a
    → p ≡ position_or_len (is_not_before a.offset Right a.id) ms → p < n → zs ≡ ys ++ p ∷ []
    → Grows n (IsAnchoredAt (take next anchors) ms) (IsAnchoredAt anchors ms) xs ys → Grows n (IsAnchoredAt (take (next + 1) anchors) ms) (IsAnchoredAt anchors ms) xs zs
grows-anchored n anchors ms xs ys zs next p a there place lt is g =
    subst (Grows n (IsAnchoredAt (take (next + 1) anchors) ms) (IsAnchoredAt anchors ms) xs) (sym is)
    (record {
      kept = λ k c. Contains-append_left ys (p ∷ []) k (g.kept k c);
      more = λ k at. turn k at (get-snoc (take next anchors) a at.1 at.0 (sym (ap (λ (l : List (Mark NoLoad)). slice_get l at.0) (take-get anchors next a there)) ∙ at.2));
      only = λ k c. split k (Contains-push_cases ys p k c);
      within = λ w. All-push (λ a. a < n) ys p (g.within w) lt;
    }) where
      turn : (k : ℕ) (at : IsAnchoredAt (take (next + 1) anchors) ms k) → (slice_get (take next anchors) at.0 ≡ Some at.1) ⊎ (a ≡ at.1) → Contains (ys ++ p ∷ []) k
      turn k at (inl e) = Contains-append_left ys (p ∷ []) k (g.more k (at.0, at.1, e, at.3))
      turn k at (inr f) =
          let same : p ≡ k = place ∙ ap (λ (a : Mark NoLoad). position_or_len (is_not_before a.offset Right a.id) ms) f ∙ sym at.3 in
          Contains-append_right ys (p ∷ []) k (contains-from_member k (p ∷ []) (inl same))

      split : (k : ℕ) → Contains ys k ⊎ (p ≡ k) → Contains xs k ⊎ IsAnchoredAt anchors ms k
      split k (inl c) = g.only k c
      split k (inr e) = inr (next, a, there, sym e ∙ place)

pub anchored-none : (n : ℕ) (anchors : List (Mark NoLoad)) (ms : List BlockMark) (xs : List ℕ) → Grows n (IsAnchoredAt (take 0 anchors) ms) (IsAnchoredAt anchors ms) xs xs
anchored-none n anchors ms xs = record { kept = λ k c. c; more = λ k at. absurd (none anchors at.0 at.1 at.2); only = λ k c. inl c; within = λ w. w } where
  none : (anchors : List (Mark NoLoad)) (j : ℕ) (a : Mark NoLoad) → slice_get (take 0 anchors) j ≡ Some a → ⊥
  none [] zero a e = cc
  none [] (suc j) a e = cc
  none (x ∷ anchors) zero a e = cc
  none (x ∷ anchors) (suc j) a e = cc

-- ---- an edit more

any-get : {X : Type 0} (P : X → Type 0) (xs : List X) → Any P xs → (k : ℕ) × ((x : X) × ((slice_get xs k ≡ Some x) × P x))
any-get P xs a = (a.0, (a.1, (got xs a.0 a.1 a.2 ∙ ap (λ x. Some x) a.3, a.4)))

any-of : {X : Type 0} (P : X → Type 0) (xs : List X) (k : ℕ) (x : X) → slice_get xs k ≡ Some x → P x → Any P xs
any-of P xs k x e p =
    let lt = get-lt xs k x e in
    (k, x, lt, same_Some (get_or xs k x) x (sym (got xs k x lt) ∙ e), p)

abbrev pub HasRow : ℕ → Edit → Type 0
HasRow q e = (e.old_start ≤ q) × (q < e.old_end)

pub one-replaced : (e : Edit) (q : ℕ) → IsReplaced (e ∷ []) q → HasRow q e
one-replaced e q r =
    let found = any-get (HasRow q) (e ∷ []) r in
    turn found.0 found.1.0 found.1.1.0 found.1.1.1 where
      turn : (k : ℕ) (x : Edit) → slice_get (e ∷ []) k ≡ Some x → HasRow q x → HasRow q e
      turn zero x f h = let g : e ≡ x = cc in subst (HasRow q) (sym g) h
      turn (suc zero) x f h = absurd (cc)
      turn (suc (suc k)) x f h = absurd (cc)

pub grows-edited : (n : ℕ) (es : List Edit) (lines : List (List (List ℕ))) (side : Side) (ss : List Stop) (xs ys zs : List ℕ) (next : ℕ) (e : Edit) → slice_get es next ≡ Some e
    → Grows n (IsEditedAt (take next es) lines side ss) (IsTouchedAt es lines side ss) xs ys → Grows n (IsEditedAt (e ∷ []) lines side ss) (IsTouchedAt (e ∷ []) lines side ss) ys zs
    → Grows n (IsEditedAt (take (next + 1) es) lines side ss) (IsTouchedAt es lines side ss) xs zs
grows-edited n es lines side ss xs ys zs next e there g h = record {
  kept = λ k c. h.kept k (g.kept k c);
  more = λ k at. turn k at (split (rows_before lines at.line + at.row) at.replaced);
  only = λ k c. old k (h.only k c);
  within = λ w. h.within (g.within w);
} where
  old : (k : ℕ) → Contains ys k ⊎ IsTouchedAt (e ∷ []) lines side ss k → Contains xs k ⊎ IsTouchedAt es lines side ss k
  old k (inl c) = g.only k c
  old k (inr t) = inr (λ s line f within stands keeps. t s line f within stands (λ row of r. keeps row of (any-of (HasRow (rows_before lines line + row)) es next e there (one-replaced e (rows_before lines line + row) r))))

  split : (q : ℕ) → IsReplaced (take (next + 1) es) q → IsReplaced (take next es) q ⊎ IsReplaced (e ∷ []) q
  split q r =
      let found = any-get (HasRow q) (take (next + 1) es) r in
      go found.0 found.1.0 found.1.1.1 (get-snoc (take next es) e found.1.0 found.0 (sym (ap (λ (l : List Edit). slice_get l found.0) (take-get es next e there)) ∙ found.1.1.0)) where
        go : (k : ℕ) (x : Edit) → HasRow q x → (slice_get (take next es) k ≡ Some x) ⊎ (e ≡ x) → IsReplaced (take next es) q ⊎ IsReplaced (e ∷ []) q
        go k x has (inl f) = inl (any-of (HasRow q) (take next es) k x f has)
        go k x has (inr f) = inr (any-of (HasRow q) (e ∷ []) 0 e refl (subst (HasRow q) (sym f) has))

  turn : (k : ℕ) (at : IsEditedAt (take (next + 1) es) lines side ss k) → IsReplaced (take next es) (rows_before lines at.line + at.row) ⊎ IsReplaced (e ∷ []) (rows_before lines at.line + at.row) → Contains zs k
  turn k at (inl r) = h.kept k (g.more k (record { stop = at.stop; line = at.line; row = at.row; there = at.there; within = at.within; stands = at.stands; of_line = at.of_line; replaced = r }))
  turn k at (inr r) = h.more k (record { stop = at.stop; line = at.line; row = at.row; there = at.there; within = at.within; stands = at.stands; of_line = at.of_line; replaced = r })

pub edited-none : (n : ℕ) (es : List Edit) (lines : List (List (List ℕ))) (side : Side) (ss : List Stop) (xs : List ℕ)
    → Grows n (IsEditedAt (take 0 es) lines side ss) (IsTouchedAt es lines side ss) xs xs
edited-none n es lines side ss xs = record { kept = λ k c. c; more = λ k at. absurd (none es (rows_before lines at.line + at.row) at.replaced); only = λ k c. inl c; within = λ w. w } where
  none : (es : List Edit) (q : ℕ) → IsReplaced (take 0 es) q → ⊥
  none [] q r = omega (arith, r.2)
  none (e ∷ es) q r = omega (arith, r.2)

-- an edit that takes no row away
pub no-row : (n : ℕ) (e : Edit) (lines : List (List (List ℕ))) (side : Side) (ss : List Stop) (xs : List ℕ) → e.old_end ≤ e.old_start
    → Grows n (IsEditedAt (e ∷ []) lines side ss) (IsTouchedAt (e ∷ []) lines side ss) xs xs
no-row n e lines side ss xs le = record {
  kept = λ k c. c;
  only = λ k c. inl c;
  more = λ k at. let r = one-replaced e (rows_before lines at.line + at.row) at.replaced in absurd (omega (arith, r.0, r.1, le));
  within = λ w. w;
}

-- what is beside the lines of its first and its last row is in order
pub rows-in_order : (lines : List (List (List ℕ))) (side : Side) (e : Edit) (low high : ℕ) → e.old_start < e.old_end → IsBeside lines side e.old_start low → IsBeside lines side (e.old_end - 1) high → low ≤ high
rows-in_order lines side e low high some a b =
    let last = b.of_line in
    let next = rows_before-next lines b.line last.there in
    let between = edited-between lines side e a.line b.line b.line (e.old_end - 1 - rows_before lines b.line) last.there (omega (arith, last.from, last.to)) (omega (arith, last.from, some)) (omega (arith, last.from, some))
    a.of_line.from (omega (arith, last.to, next, some)) in
    omega (arith, between.0, a.stands, b.stands)

-- the stops from that of its first line to that of its last one
pub edited-in : (e : Edit) (lines : List (List (List ℕ))) (side : Side) (ss : List Stop) (first last low high from to : ℕ) → e.old_start < e.old_end
    → IsOfLine lines first e.old_start → IsOfLine lines last (e.old_end - 1) → low ≡ row_at_line lines side first → high ≡ row_at_line lines side last
    → ((k : ℕ) (s : Stop) → slice_get ss k ≡ Some s → (k < from) ↔ (stands_before Left low s ≡ true)) → ((k : ℕ) (s : Stop) → slice_get ss k ≡ Some s → (k < to) ↔ (stands_before Right high s ≡ true))
    → (k : ℕ) → IsEditedAt (e ∷ []) lines side ss k → IsIn from to k
edited-in e lines side ss first last low high from to some a b low-is high-is f t k at =
    let has = one-replaced e (rows_before lines at.line + at.row) at.replaced in
    let between = edited-between lines side e first last at.line at.row at.within at.of_line has.0 has.1 a.from (omega (arith, b.to, rows_before-next lines last b.there, some)) in
    (lower (cases_lt k from) between.0, (t k at.stop at.there).1 (le-leb at.stop.row high (omega (arith, at.stands, high-is, between.1)))) where
      lower : (k < from) ⊎ (from ≤ k) → row_at_line lines side first ≤ row_at_line lines side at.line → from ≤ k
      lower (inl lt) le = absurd (omega (arith, ltb-true at.stop.row low ((f k at.stop at.there).0 lt), low-is, at.stands, le))
      lower (inr ge) le = ge

-- and at whichever line such a stop is the edit replaces a row
pub touched-in : (e : Edit) (lines : List (List (List ℕ))) (side : Side) (ss : List Stop) (first last low high from to : ℕ) → HaveRows lines → e.old_start < e.old_end
    → IsOfLine lines first e.old_start → IsOfLine lines last (e.old_end - 1) → low ≡ row_at_line lines side first → high ≡ row_at_line lines side last
    → ((k : ℕ) (s : Stop) → slice_get ss k ≡ Some s → (k < from) ↔ (stands_before Left low s ≡ true)) → ((k : ℕ) (s : Stop) → slice_get ss k ≡ Some s → (k < to) ↔ (stands_before Right high s ≡ true))
    → (k : ℕ) → IsIn from to k → IsTouchedAt (e ∷ []) lines side ss k
touched-in e lines side ss first last low high from to have some a b low-is high-is f t k p s line there within stands keeps =
    let upper : s.row ≤ high = leb-true s.row high ((t k s there).0 p.1) in
    let found = replaced-between lines side e.old_start e.old_end first last line have some a b within (omega (arith, lower (cases_lt s.row low), low-is, stands)) (omega (arith, upper, high-is, stands)) in
    keeps found.0 found.1.0 (any-of (HasRow (rows_before lines line + found.0)) (e ∷ []) 0 e refl found.1.1) where
      lower : (s.row < low) ⊎ (low ≤ s.row) → low ≤ s.row
      lower (inl lt) = absurd (omega (arith, p.0, (f k s there).1 (lt-ltb s.row low lt)))
      lower (inr le) = le
