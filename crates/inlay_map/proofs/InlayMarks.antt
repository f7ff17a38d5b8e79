-- Marks as inlays.
use Rattle.std.proofs.Common.{◌≡◌, ℕ, ◌+◌, ◌<◌, ◌==◌, ◌||◌, not, nat_lt, Bool, true, false, cond, List, [], ◌∷◌, ◌++◌, length, map, take, drop, position, count_by, Some, None, Result, Ok, Err, IfOk, refl, ap, sym, subst, ◌∙◌, inl, inr, arith}
use Rattle.std.specs.List.{list_any, position_or_len}
use Rattle.std.proofs.lemmas.Bool.Decides.{nat_tests}
use Rattle.std.proofs.lemmas.List.{drop-map, length-map, take-map}
use Rattle.std.proofs.lemmas.Option.{get_or_from_slice_get, slice_get_cases}
use Rattle.cell_units.specs.declared.place.Shift.{Shift}
use Rattle.cell_units.specs.Lawful.{AreInlays, HasRoom, IsInlayOf}
use Rattle.cell_units.specs.Record.{Inlay, inlay_le}
use Rattle.cell_units.specs.Sorting.{insert_by, sort_by}
use Rattle.cell_units.specs.Operation.{move_inlay, moved_inlays}
use Rattle.cell_units.proofs.Entries.{entries-added, entries-kept}
use Rattle.cell_units.proofs.SortedLists.{count-cons}
use Rattle.cell_units.proofs.EntryOrders.{inlay_total, inlay_trans}
use Rattle.mark_tree.specs.declared.mark.Mark.{Mark}
use Rattle.mark_tree.specs.Marks.{has_id, mark_le, move_mark, moved_marks}
use Rattle.mark_tree.proofs.Changing.{filter-one}
use Rattle.inlay_map.specs.Splices.{inlay_of, without_at}

pub insert-inlay : (m : Mark (List ℕ)) (ms : List (Mark (List ℕ))) → map inlay_of (insert_by mark_le m ms) ≡ insert_by inlay_le (inlay_of m) (map inlay_of ms)
insert-inlay m [] = refl
insert-inlay m (n ∷ ns) = go (mark_le m n) (insert-inlay m ns) where
  go : (b : Bool) → map inlay_of (insert_by mark_le m ns) ≡ insert_by inlay_le (inlay_of m) (map inlay_of ns)
      → map inlay_of (cond b (m ∷ n ∷ ns) (n ∷ insert_by mark_le m ns)) ≡ cond b (inlay_of m ∷ inlay_of n ∷ map inlay_of ns) (inlay_of n ∷ insert_by inlay_le (inlay_of m) (map inlay_of ns))
  go true r = refl
  go false r = ap (λ l. inlay_of n ∷ l) r

pub sort-inlays : (ms : List (Mark (List ℕ))) → map inlay_of (sort_by mark_le ms) ≡ sort_by inlay_le (map inlay_of ms)
sort-inlays [] = refl
sort-inlays (m ∷ ms) = insert-inlay m (sort_by mark_le ms) ∙ ap (insert_by inlay_le (inlay_of m)) (sort-inlays ms)

pub moved-marks : (s : Shift) (ms : List (Mark (List ℕ))) → map inlay_of (moved_marks s ms) ≡ moved_inlays s.start s.end s.count (map inlay_of ms)
moved-marks s ms = sort-inlays (map (move_mark s) ms) ∙ ap (sort_by inlay_le) (each ms) where
  each : (ns : List (Mark (List ℕ))) → map inlay_of (map (move_mark s) ns) ≡ map (move_inlay s.start s.end s.count) (map inlay_of ns)
  each [] = refl
  each (n ∷ ns) = ap (λ l. move_inlay s.start s.end s.count (inlay_of n) ∷ l) (each ns)

pub has-inlay : (id : ℕ) (ms : List (Mark (List ℕ))) → list_any (has_id id) ms ≡ list_any (λ i. i.id == id) (map inlay_of ms)
has-inlay id [] = refl
has-inlay id (m ∷ ms) = ap (λ b. (m.id == id) || b) (has-inlay id ms)

pub position-inlay : (id : ℕ) (ms : List (Mark (List ℕ))) → position (has_id id) ms ≡ position (λ i. i.id == id) (map inlay_of ms)
position-inlay id ms = λ i. cond (nat_lt (go ms i) (sym (length-map ms inlay_of) i)) (Some (go ms i)) None where
  go : (ns : List (Mark (List ℕ))) → position_or_len (has_id id) ns ≡ position_or_len (λ i. i.id == id) (map inlay_of ns)
  go [] = refl
  go (n ∷ ns) = ap (λ k. cond (not (n.id == id)) (1 + k) 0) (go ns)

-- what follows from two facts on a result
pub both-ok : {T E : Type 0} (A B C : T → Type 0) (r : Result T E) → ((x : T) → A x → B x → C x) → IfOk r A → IfOk r B → IfOk r C
both-ok A B C (Ok x) f a b = f x a b
both-ok A B C (Err e) f a b = tt

-- an id that no inlay has is none of a mark
uncounted : {X : Type 0} (p : X → Bool) (xs : List X) → count_by p xs ≡ 0 → list_any p xs ≡ false
uncounted p [] none = refl
uncounted p (x ∷ xs) none = go (p x) (count-cons p x xs) (uncounted p xs) where
  go : (b : Bool) → count_by p (x ∷ xs) ≡ cond b 1 0 + count_by p xs → (count_by p xs ≡ 0 → list_any p xs ≡ false) → (b || list_any p xs) ≡ false
  go true c rest = absurd (omega (arith, c, none))
  go false c rest = rest (omega (arith, c, none))

pub fresh-mark : (id : ℕ) (ms : List (Mark (List ℕ))) → HasRoom (λ i. i.id) id (map inlay_of ms) → list_any (has_id id) ms ≡ false
fresh-mark id ms room = has-inlay id ms ∙ uncounted (λ i. i.id == id) (map inlay_of ms) room.fresh

-- ---- one mark more or less, by its index

map-both : (xs ys : List (Mark (List ℕ))) → map inlay_of (xs ++ ys) ≡ map inlay_of xs ++ map inlay_of ys
map-both [] ys = refl
map-both (x ∷ xs) ys = ap (λ l. inlay_of x ∷ l) (map-both xs ys)

pub put-at : (ms new : List (Mark (List ℕ))) (at : ℕ) (m : Mark (List ℕ)) → new ≡ take at ms ++ m ∷ drop at ms → map inlay_of new ≡ take at (map inlay_of ms) ++ inlay_of m ∷ drop at (map inlay_of ms)
put-at ms new at m e =
    ap (map inlay_of) e
    ∙ map-both (take at ms) (m ∷ drop at ms)
    ∙ (λ i. sym (take-map inlay_of at ms) i ++ inlay_of m ∷ sym (drop-map inlay_of at ms) i)

pub taken-at : (ms new : List (Mark (List ℕ))) (at : ℕ) → new ≡ take at ms ++ drop (at + 1) ms → map inlay_of new ≡ take at (map inlay_of ms) ++ drop (at + 1) (map inlay_of ms)
taken-at ms new at e =
    ap (map inlay_of) e
    ∙ map-both (take at ms) (drop (at + 1) ms)
    ∙ (λ i. sym (take-map inlay_of at ms) i ++ sym (drop-map inlay_of (at + 1) ms) i)

-- ---- what fits a text goes on to do so

pub added-are : (text : List ℕ) (m : Mark (List ℕ)) (ms : List (Mark (List ℕ))) → AreInlays text (map inlay_of ms) → IsInlayOf text (inlay_of m) → HasRoom (λ i. i.id) m.id (map inlay_of ms)
    → AreInlays text (map inlay_of (insert_by mark_le m ms))
added-are text m ms are fits room =
    subst (AreInlays text) (sym (insert-inlay m ms)) (entries-added inlay_le inlay_total inlay_trans (λ i. i.id) (IsInlayOf text) (inlay_of m) (map inlay_of ms) are fits room)

pub taken-are : (text : List ℕ) (at : ℕ) (is : List Inlay) → at < length is → AreInlays text is → AreInlays text (without_at at is)
taken-are text at is lt are = elim (slice_get_cases is at).1 [
  | inl here ↦
      let id = here.0.id in
      let same : (n : ℕ) → (n == n) ≡ true = (λ n. grind (arith, nat_tests)) in
      let one = filter-one (λ (i : Inlay). i.id == id) is at lt (λ d. ap (λ (i : Inlay). i.id == id) (get_or_from_slice_get is at here.0 d here.2) ∙ same id) (are.distinct id) in
      subst (AreInlays text) one (entries-kept inlay_le inlay_total inlay_trans (λ i. i.id) (IsInlayOf text) (λ i. not (i.id == id)) is are)
  | inr past ↦ absurd (omega (arith, lt, past.0))
]
