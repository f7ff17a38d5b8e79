-- Marks with their stops, where one comes and where one goes.
use Rattle.std.proofs.Common.{◌≡◌, ℕ, zero, suc, ◌+◌, ◌<◌, ◌≤◌, ◌==◌, ◌||◌, not, Bool, true, false, cond, List, [], ◌∷◌, ◌++◌, length, take, drop, map, filter, get_or, Some, refl, sym, ap, subst, ◌∙◌, arith, eq-eqb, inr}
use Rattle.std.proofs.lemmas.List.{length-append, length-drop, length-take}
use Rattle.std.specs.List.{count_by, list_any, slice_get}
use Rattle.cell_units.specs.declared.limits.TheConstants.{ENTRY_LIMIT}
use Rattle.cell_units.specs.declared.place.Bias.{Bias}
use Rattle.cell_units.specs.declared.place.Bias.TheVariants.{Right}
use Rattle.cell_units.specs.Lawful.{AreBlockLines}
use Rattle.cell_units.specs.Sorting.{insert_by, sort_by}
use Rattle.cell_units.specs.declared.place.Side.TheVariants.{Above}
use Rattle.cell_units.proofs.EntryOrders.{block_trans, inlay_total, inlay_trans}
use Rattle.cell_units.specs.Record.{Inlay}
use Rattle.mark_tree.specs.declared.mark.Mark.{Mark}
use Rattle.mark_tree.specs.Marks.{has_id, lacks_id, mark_le, mark_with}
use Rattle.mark_tree.proofs.Changing.{filter-one}
use Rattle.mark_tree.proofs.Sorting.{Every, IsSorted, count-cons, insert-map, length-insert, sorted-from_same}
use Rattle.sum_core.specs.declared.load.NoLoad.{NoLoad}
use Rattle.block_map.specs.Maps.{Kept, block_of, fresh, kept_le, without}
use Rattle.block_map.specs.Stops.{Stop}
use Rattle.block_map.specs.inside.Sides.{ArePaired, BlockMark, IsOf, IsSide, anchor_of, is_unshown, kept, kept_of, unshown_anchors}
use Rattle.block_map.specs.inside.StopLists.{StopsFit, stop_with, with_stop}

abbrev Lines : Type 0
Lines = List (List ℕ)

-- ---- the mark of what is kept

abbrev pub mark_of_kept : Kept → BlockMark
mark_of_kept k = mark_with k.offset Right k.id k.lines

same-mark : (m : BlockMark) (s : Stop) → IsOf m s → mark_of_kept (kept m s) ≡ m
same-mark m s of = ap (λ (b : Bias). mark_with m.offset b m.id m.load) (sym of.bias)

pub marks-of : (ms : List BlockMark) (ss : List Stop) → ArePaired ms ss → map mark_of_kept (kept_of ms ss) ≡ ms
marks-of [] [] p = refl
marks-of [] (s ∷ ss) p = absurd p
marks-of (m ∷ ms) [] p = absurd p
marks-of (m ∷ ms) (s ∷ ss) p = λ i. same-mark m s p.0 i ∷ marks-of ms ss p.1 i

pub paired-length : (ms : List BlockMark) (ss : List Stop) → ArePaired ms ss → length ss ≡ length ms
paired-length [] [] p = refl
paired-length [] (s ∷ ss) p = absurd p
paired-length (m ∷ ms) [] p = absurd p
paired-length (m ∷ ms) (s ∷ ss) p = omega (arith, paired-length ms ss p.1)

pub length-kept : (ms : List BlockMark) (ss : List Stop) → ArePaired ms ss → length (kept_of ms ss) ≡ length ms
length-kept [] [] p = refl
length-kept [] (s ∷ ss) p = absurd p
length-kept (m ∷ ms) [] p = absurd p
length-kept (m ∷ ms) (s ∷ ss) p = omega (arith, length-kept ms ss p.1)

pub any-kept : (id : ℕ) (ms : List BlockMark) (ss : List Stop) → ArePaired ms ss → list_any (has_id id) ms ≡ list_any (λ k. k.id == id) (kept_of ms ss)
any-kept id [] [] p = refl
any-kept id [] (s ∷ ss) p = absurd p
any-kept id (m ∷ ms) [] p = absurd p
any-kept id (m ∷ ms) (s ∷ ss) p = ap (λ (b : Bool). (m.id == id) || b) (any-kept id ms ss p.1)

-- ---- one more

module _ (m : BlockMark) (s : Stop) (of : IsOf m s) where
  pub paired-with : (at : ℕ) (ms : List BlockMark) (ss : List Stop) → ArePaired ms ss → ArePaired (take at ms ++ m ∷ drop at ms) (with_stop at s ss)
  paired-with zero [] [] p = (of, tt)
  paired-with (suc at) [] [] p = (of, tt)
  paired-with at [] (t ∷ ss) p = absurd p
  paired-with at (n ∷ ms) [] p = absurd p
  paired-with zero (n ∷ ms) (t ∷ ss) p = (of, p)
  paired-with (suc at) (n ∷ ms) (t ∷ ss) p = (p.0, paired-with at ms ss p.1)

  pub kept-with : (at : ℕ) (ms : List BlockMark) (ss : List Stop) → ArePaired ms ss
      → kept_of (take at ms ++ m ∷ drop at ms) (with_stop at s ss) ≡ take at (kept_of ms ss) ++ kept m s ∷ drop at (kept_of ms ss)
  kept-with zero [] [] p = refl
  kept-with (suc at) [] [] p = refl
  kept-with at [] (t ∷ ss) p = absurd p
  kept-with at (n ∷ ms) [] p = absurd p
  kept-with zero (n ∷ ms) (t ∷ ss) p = refl
  kept-with (suc at) (n ∷ ms) (t ∷ ss) p = ap (λ (l : List Kept). kept n t ∷ l) (kept-with at ms ss p.1)

-- ---- one less

-- the list without the item of an index
abbrev pub without_at : {X : Type 0} → ℕ → List X → List X
without_at k xs = take k xs ++ drop (k + 1) xs

pub next-without : {X : Type 0} (at : ℕ) (x : X) (xs : List X) → without_at (suc at) (x ∷ xs) ≡ x ∷ without_at at xs
next-without at x xs = let e : suc at + 1 ≡ suc (at + 1) = omega arith in ap (λ (n : ℕ). x ∷ (take at xs ++ drop n (x ∷ xs))) e

pub none-without : {X : Type 0} (at : ℕ) → without_at {X = X} at [] ≡ []
none-without {X = X} at = ap (λ (l : List X). l ++ drop (at + 1) []) (taken at) ∙ dropped (at + 1) where
  taken : (n : ℕ) → take {A = X} n [] ≡ []
  taken zero = refl
  taken (suc n) = refl

  dropped : (n : ℕ) → drop {A = X} n [] ≡ []
  dropped zero = refl
  dropped (suc n) = refl

pub first-without : {X : Type 0} (x : X) (xs : List X) → without_at 0 (x ∷ xs) ≡ xs
first-without {X = X} x xs = all xs where
  all : (xs : List X) → take 0 xs ++ xs ≡ xs
  all [] = refl
  all (y ∷ ys) = refl

paired-without : (at : ℕ) (ms : List BlockMark) (ss : List Stop) → ArePaired ms ss → ArePaired (without_at at ms) (without_at at ss)
paired-without at [] [] p = subst (λ (l : List BlockMark). ArePaired l (without_at at [])) (sym (none-without at)) (subst (λ (l : List Stop). ArePaired [] l) (sym (none-without at)) tt)
paired-without at [] (t ∷ ss) p = absurd p
paired-without at (n ∷ ms) [] p = absurd p
paired-without zero (n ∷ ms) (t ∷ ss) p = subst (λ (l : List Stop). ArePaired (without_at 0 (n ∷ ms)) l) (sym (first-without t ss)) (subst (λ (l : List BlockMark). ArePaired l ss) (sym (first-without n ms)) p.1)
paired-without (suc at) (n ∷ ms) (t ∷ ss) p =
    let here : ArePaired (n ∷ without_at at ms) (t ∷ without_at at ss) = (p.0, paired-without at ms ss p.1) in
    subst (λ (l : List Stop). ArePaired (without_at (suc at) (n ∷ ms)) l) (sym (next-without at t ss)) (subst (λ (l : List BlockMark). ArePaired l (t ∷ without_at at ss)) (sym (next-without at n ms)) here)

kept-without : (at : ℕ) (ms : List BlockMark) (ss : List Stop) → ArePaired ms ss → kept_of (without_at at ms) (without_at at ss) ≡ without_at at (kept_of ms ss)
kept-without at [] [] p = (λ i. kept_of (none-without {X = BlockMark} at i) (none-without {X = Stop} at i)) ∙ sym (none-without at)
kept-without at [] (t ∷ ss) p = absurd p
kept-without at (n ∷ ms) [] p = absurd p
kept-without zero (n ∷ ms) (t ∷ ss) p = (λ i. kept_of (first-without n ms i) (first-without t ss i)) ∙ sym (first-without (kept n t) (kept_of ms ss))
kept-without (suc at) (n ∷ ms) (t ∷ ss) p =
    (λ i. kept_of (next-without at n ms i) (next-without at t ss i))
    ∙ ap (λ (l : List Kept). kept n t ∷ l) (kept-without at ms ss p.1)
    ∙ sym (next-without at (kept n t) (kept_of ms ss))

-- ---- in order

-- what is kept comes before another where its mark does
in-order : (k l : Kept) → Unit {0} → Unit {0} → kept_le k l ≡ mark_le (mark_of_kept k) (mark_of_kept l)
in-order k l a b = refl

sorted-kept : (ks : List Kept) → IsSorted mark_le (map mark_of_kept ks) → IsSorted kept_le ks
sorted-kept [] s = tt
sorted-kept (k ∷ ks) s = (above ks s.0, sorted-kept ks s.1) where
  above : (ls : List Kept) → Every (λ m. mark_le (mark_of_kept k) m ≡ true) (map mark_of_kept ls) → Every (λ l. kept_le k l ≡ true) ls
  above [] a = tt
  above (l ∷ ls) a = (a.0, above ls a.1)

head-id : List BlockMark → ℕ
head-id [] = 0
head-id (m ∷ ms) = m.id

tail : List BlockMark → List BlockMark
tail [] = []
tail (m ∷ ms) = ms

apart : (k l : Kept) (ks : List Kept) → ((l.id == k.id) || list_any (λ l. l.id == k.id) ks) ≡ false → l.id ≡ k.id → ⊥
apart k l ks new e = go (l.id == k.id) (eq-eqb l.id k.id e) new where
  go : (b : Bool) → b ≡ true → (b || list_any (λ l. l.id == k.id) ks) ≡ false → ⊥
  go true t f = absurd (cc)
  go false t f = absurd (cc)

rest : (k l : Kept) (ks : List Kept) → ((l.id == k.id) || list_any (λ l. l.id == k.id) ks) ≡ false → list_any (λ l. l.id == k.id) ks ≡ false
rest k l ks new = go (l.id == k.id) new where
  go : (b : Bool) → (b || list_any (λ l. l.id == k.id) ks) ≡ false → list_any (λ l. l.id == k.id) ks ≡ false
  go true f = absurd (cc)
  go false f = f

-- A list of marks with one put in at an index: the same index is that of what is kept.
insert-at : (k : Kept) (at : ℕ) (ks : List Kept) → list_any (λ l. l.id == k.id) ks ≡ false
    → insert_by mark_le (mark_of_kept k) (map mark_of_kept ks) ≡ take at (map mark_of_kept ks) ++ mark_of_kept k ∷ drop at (map mark_of_kept ks)
    → insert_by kept_le k ks ≡ take at ks ++ k ∷ drop at ks
unfolding head-id tail
insert-at k zero [] new e = refl
insert-at k (suc at) [] new e = refl
insert-at k zero (l ∷ ks) new e = go (kept_le k l) e where
  go : (b : Bool) → cond b (mark_of_kept k ∷ mark_of_kept l ∷ map mark_of_kept ks) (mark_of_kept l ∷ insert_by mark_le (mark_of_kept k) (map mark_of_kept ks)) ≡ mark_of_kept k ∷ mark_of_kept l ∷ map mark_of_kept ks
      → cond b (k ∷ l ∷ ks) (l ∷ insert_by kept_le k ks) ≡ k ∷ l ∷ ks
  go true e = refl
  go false e = absurd (apart k l ks new (ap head-id e))
insert-at k (suc at) (l ∷ ks) new e = go (kept_le k l) e (insert-at k at ks (rest k l ks new)) where
  go : (b : Bool) → cond b (mark_of_kept k ∷ mark_of_kept l ∷ map mark_of_kept ks) (mark_of_kept l ∷ insert_by mark_le (mark_of_kept k) (map mark_of_kept ks)) ≡ mark_of_kept l ∷ (take at (map mark_of_kept ks) ++ mark_of_kept k ∷ drop at (map mark_of_kept ks))
      → (insert_by mark_le (mark_of_kept k) (map mark_of_kept ks) ≡ take at (map mark_of_kept ks) ++ mark_of_kept k ∷ drop at (map mark_of_kept ks) → insert_by kept_le k ks ≡ take at ks ++ k ∷ drop at ks)
      → cond b (k ∷ l ∷ ks) (l ∷ insert_by kept_le k ks) ≡ l ∷ (take at ks ++ k ∷ drop at ks)
  go true e ih = absurd (apart k l ks new (sym (ap head-id e)))
  go false e ih = ap (λ (z : List Kept). l ∷ z) (ih (ap tail e))

as_inlay : BlockMark → Inlay
as_inlay m = record { offset = m.offset; bias = m.bias; id = m.id; text = [] }

pub mark-total : (m n : BlockMark) → mark_le m n ≡ false → mark_le n m ≡ true
unfolding as_inlay
mark-total m n = inlay_total (as_inlay m) (as_inlay n)

pub mark-trans : (m n o : BlockMark) → mark_le m n ≡ true → mark_le n o ≡ true → mark_le m o ≡ true
unfolding as_inlay
mark-trans m n o = inlay_trans (as_inlay m) (as_inlay n) (as_inlay o)

-- the order goes on
kept-trans : (k l m : Kept) → kept_le k l ≡ true → kept_le l m ≡ true → kept_le k m ≡ true
kept-trans k l m = block_trans (block_of Above k) (block_of Above l) (block_of Above m)

-- ---- the anchors of what isn't shown

anchors-insert : (k : Kept) (ks : List Kept) → is_unshown k ≡ true → IsSorted kept_le ks → insert_by mark_le (anchor_of k) (unshown_anchors ks) ≡ unshown_anchors (insert_by kept_le k ks)
anchors-insert k ks un sorted =
    sym (insert-map anchor_of kept_le mark_le (λ (l : Kept). Unit {0}) (λ x y a b. refl) k (filter is_unshown ks) tt (each (filter is_unshown ks)))
    ∙ ap (map anchor_of) (go ks sorted) where
      each : (ls : List Kept) → Every (λ (l : Kept). Unit {0}) ls
      each [] = tt
      each (l ∷ ls) = (tt, each ls)

      -- before all that it comes before
      low : (ls : List Kept) → Every (λ l. kept_le k l ≡ true) ls → insert_by kept_le k (filter is_unshown ls) ≡ k ∷ filter is_unshown ls
      low [] a = refl
      low (l ∷ ls) a = pick (is_unshown l) (low ls a.1) where
        pick : (b : Bool) → insert_by kept_le k (filter is_unshown ls) ≡ k ∷ filter is_unshown ls → insert_by kept_le k (cond b (l ∷ filter is_unshown ls) (filter is_unshown ls)) ≡ k ∷ cond b (l ∷ filter is_unshown ls) (filter is_unshown ls)
        pick true r = λ i. cond (a.0 i) (k ∷ l ∷ filter is_unshown ls) (l ∷ insert_by kept_le k (filter is_unshown ls))
        pick false r = r

      own : (ls : List Kept) → filter is_unshown (k ∷ ls) ≡ k ∷ filter is_unshown ls
      own ls = λ i. cond (un i) (k ∷ filter is_unshown ls) (filter is_unshown ls)

      go : (ls : List Kept) → IsSorted kept_le ls → insert_by kept_le k (filter is_unshown ls) ≡ filter is_unshown (insert_by kept_le k ls)
      go [] s = sym (own [])
      go (l ∷ ls) s = turn (kept_le k l) refl (go ls s.1) where
        turn : (b : Bool) → kept_le k l ≡ b → insert_by kept_le k (filter is_unshown ls) ≡ filter is_unshown (insert_by kept_le k ls)
            → insert_by kept_le k (filter is_unshown (l ∷ ls)) ≡ filter is_unshown (cond b (k ∷ l ∷ ls) (l ∷ insert_by kept_le k ls))
        turn true e r = low (l ∷ ls) (e, behind ls s.0) ∙ sym (own (l ∷ ls)) where
          behind : (zs : List Kept) → Every (λ z. kept_le l z ≡ true) zs → Every (λ z. kept_le k z ≡ true) zs
          behind [] a = tt
          behind (z ∷ zs) a = (kept-trans k l z e a.0, behind zs a.1)
        turn false e r = pick (is_unshown l) where
          pick : (b : Bool) → insert_by kept_le k (cond b (l ∷ filter is_unshown ls) (filter is_unshown ls)) ≡ cond b (l ∷ filter is_unshown (insert_by kept_le k ls)) (filter is_unshown (insert_by kept_le k ls))
          pick true = (λ i. cond (e i) (k ∷ l ∷ filter is_unshown ls) (l ∷ insert_by kept_le k (filter is_unshown ls))) ∙ ap (λ (z : List Kept). l ∷ z) r
          pick false = r

anchors-without : (id : ℕ) (ks : List Kept) → filter (lacks_id id) (unshown_anchors ks) ≡ unshown_anchors (without id ks)
anchors-without id [] = refl
anchors-without id (k ∷ ks) = go (is_unshown k) (k.id == id) refl refl (anchors-without id ks) where
  go : (b c : Bool) → is_unshown k ≡ b → (k.id == id) ≡ c → filter (lacks_id id) (unshown_anchors ks) ≡ unshown_anchors (without id ks)
      → filter (lacks_id id) (map anchor_of (cond b (k ∷ filter is_unshown ks) (filter is_unshown ks))) ≡ map anchor_of (filter is_unshown (cond (not c) (k ∷ without id ks) (without id ks)))
  go true true e f r = (λ i. cond (not (f i)) (anchor_of k ∷ filter (lacks_id id) (unshown_anchors ks)) (filter (lacks_id id) (unshown_anchors ks))) ∙ r
  go true false e f r =
      (λ i. cond (not (f i)) (anchor_of k ∷ filter (lacks_id id) (unshown_anchors ks)) (filter (lacks_id id) (unshown_anchors ks)))
      ∙ ap (λ (l : List (Mark NoLoad)). anchor_of k ∷ l) r
      ∙ (λ i. map anchor_of (cond (sym e i) (k ∷ filter is_unshown (without id ks)) (filter is_unshown (without id ks))))
  go false true e f r = r
  go false false e f r = r ∙ (λ i. map anchor_of (cond (sym e i) (k ∷ filter is_unshown (without id ks)) (filter is_unshown (without id ks))))

pub anchors-few : (ks : List Kept) → length (unshown_anchors ks) ≤ length ks
anchors-few [] = omega arith
anchors-few (k ∷ ks) = go (is_unshown k) (anchors-few ks) where
  go : (b : Bool) → length (unshown_anchors ks) ≤ length ks → length (map anchor_of (cond b (k ∷ filter is_unshown ks) (filter is_unshown ks))) ≤ suc (length ks)
  go true r = omega (arith, r)
  go false r = omega (arith, r)

pub anchors-new : (id : ℕ) (ks : List Kept) → list_any (λ k. k.id == id) ks ≡ false → list_any (has_id id) (unshown_anchors ks) ≡ false
anchors-new id [] e = refl
anchors-new id (k ∷ ks) e = go (is_unshown k) (k.id == id) refl e (anchors-new id ks) where
  go : (b c : Bool) → (k.id == id) ≡ c → (c || list_any (λ k. k.id == id) ks) ≡ false → (list_any (λ k. k.id == id) ks ≡ false → list_any (has_id id) (unshown_anchors ks) ≡ false) → list_any (has_id id) (map anchor_of (cond b (k ∷ filter is_unshown ks) (filter is_unshown ks))) ≡ false
  go b true is f r = absurd (cc)
  go true false is f r = (λ i. is i || list_any (has_id id) (unshown_anchors ks)) ∙ r f
  go false false is f r = r f

-- ---- a block that is added

-- what is put in at an index, of which nothing is shown
module _ (offset id : ℕ) (lines : Lines) (row at : ℕ) (ms : List BlockMark) (ss : List Stop) where
  abbrev new_mark : BlockMark
  new_mark = mark_with offset Right id lines

  abbrev new_stop : Stop
  new_stop = stop_with row []

  new-is : AreBlockLines lines → IsOf new_mark new_stop
  new-is lawful = record { lines = inr refl; bias = refl; lawful = lawful }

  pub kept-added : ArePaired ms ss → AreBlockLines lines → list_any (has_id id) ms ≡ false → insert_by mark_le new_mark ms ≡ take at ms ++ new_mark ∷ drop at ms
      → kept_of (insert_by mark_le new_mark ms) (with_stop at new_stop ss) ≡ insert_by kept_le (fresh id offset lines) (kept_of ms ss)
  kept-added p lawful new is =
      let same = marks-of ms ss p in
      let k : Kept = fresh id offset lines in
      ap (λ (l : List BlockMark). kept_of l (with_stop at new_stop ss)) is
      ∙ kept-with new_mark new_stop (new-is lawful) at ms ss p
      ∙ sym (insert-at k at (kept_of ms ss) (sym (any-kept id ms ss p) ∙ new) (ap (insert_by mark_le new_mark) same ∙ is ∙ (λ i. take at (sym same i) ++ new_mark ∷ drop at (sym same i))))

  pub side-added : (anchors : List (Mark NoLoad)) → IsSide ms ss anchors → AreBlockLines lines → list_any (has_id id) ms ≡ false → sort_by mark_le ms ≡ ms → length ms < ENTRY_LIMIT
      → insert_by mark_le new_mark ms ≡ take at ms ++ new_mark ∷ drop at ms → StopsFit (with_stop at new_stop ss)
      → IsSide (insert_by mark_le new_mark ms) (with_stop at new_stop ss) (insert_by mark_le (mark_with offset Right id (record {})) anchors)
  side-added anchors side lawful new sorted room is fit =
      let same = marks-of ms ss side.each in
      let k : Kept = fresh id offset lines in
      let in-order : IsSorted kept_le (kept_of ms ss) = sorted-kept (kept_of ms ss) (subst (IsSorted mark_le) (sym same) (sorted-from_same mark_le mark-total mark-trans ms sorted)) in
      record {
        each = subst (λ (l : List BlockMark). ArePaired l (with_stop at new_stop ss)) (sym is) (paired-with new_mark new_stop (new-is lawful) at ms ss side.each);
        fits = fit;
        few = omega (arith, room, length-insert mark_le new_mark ms);
        anchors =
            ap (insert_by mark_le (anchor_of k)) side.anchors
            ∙ anchors-insert k (kept_of ms ss) refl in-order
            ∙ ap unshown_anchors (sym (kept-added side.each lawful new is));
      }

-- ---- a block that is taken out

count-kept : (id : ℕ) (ms : List BlockMark) (ss : List Stop) → ArePaired ms ss → count_by (λ k. k.id == id) (kept_of ms ss) ≡ count_by (has_id id) ms
count-kept id [] [] p = refl
count-kept id [] (s ∷ ss) p = absurd p
count-kept id (m ∷ ms) [] p = absurd p
count-kept id (m ∷ ms) (s ∷ ss) p = omega (arith, count-cons (λ (k : Kept). k.id == id) (kept m s) (kept_of ms ss), count-cons (has_id id) m ms, count-kept id ms ss p.1)

id-at : (at : ℕ) (ms : List BlockMark) (ss : List Stop) → ArePaired ms ss → (m : BlockMark) → slice_get ms at ≡ Some m → (d : Kept) → (at < length (kept_of ms ss)) × ((get_or (kept_of ms ss) at d).id ≡ m.id)
id-at zero [] ss p m there d = absurd (cc)
id-at (suc at) [] ss p m there d = absurd (cc)
id-at at (n ∷ ms) [] p m there d = absurd p
id-at zero (n ∷ ms) (s ∷ ss) p m there d = let e : n ≡ m = cc in (omega arith, ap (λ (n : BlockMark). n.id) e)
id-at (suc at) (n ∷ ms) (s ∷ ss) p m there d = let r = id-at at ms ss p.1 m there d in (omega (arith, r.0), r.1)

at-most : (at : ℕ) (ms : List BlockMark) → length (without_at at ms) ≤ length ms
at-most at ms = omega (arith, length-append (take at ms) (drop (at + 1) ms), length-drop (at + 1) ms, length-take at ms)

module _ (id at : ℕ) (ms : List BlockMark) (ss : List Stop) where
  -- the index is that of the one block with the id
  pub kept-taken : ArePaired ms ss → (m : BlockMark) → slice_get ms at ≡ Some m → m.id ≡ id → ((n : ℕ) → count_by (has_id n) ms ≤ 1)
      → kept_of (without_at at ms) (without_at at ss) ≡ without id (kept_of ms ss)
  kept-taken p m there is few =
      let d : Kept = fresh 0 0 [] in
      let ks = kept_of ms ss in
      kept-without at ms ss p
      ∙ sym (filter-one (λ (k : Kept). k.id == id) ks at (id-at at ms ss p m there d).0 (λ e. eq-eqb (get_or ks at e).id id ((id-at at ms ss p m there e).1 ∙ is)) (omega (arith, few id, count-kept id ms ss p)))

  pub side-taken : (anchors : List (Mark NoLoad)) → IsSide ms ss anchors → (m : BlockMark) → slice_get ms at ≡ Some m → m.id ≡ id → ((n : ℕ) → count_by (has_id n) ms ≤ 1)
      → StopsFit (without_at at ss) → IsSide (without_at at ms) (without_at at ss) (filter (lacks_id id) anchors)
  side-taken anchors side m there is few fit = record {
    each = paired-without at ms ss side.each;
    fits = fit;
    few = omega (arith, side.few, at-most at ms);
    anchors =
        ap (filter (lacks_id id)) side.anchors
        ∙ anchors-without id (kept_of ms ss)
        ∙ ap unshown_anchors (sym (kept-taken side.each m there is few));
  }
