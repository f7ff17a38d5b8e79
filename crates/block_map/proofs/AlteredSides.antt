-- A side of blocks, as its calls see it and as they leave it.
use Rattle.std.proofs.Common.{◌≡◌, ℕ, zero, suc, ◌+◌, ◌<◌, ◌≤◌, ◌==◌, false, List, [], ◌∷◌, ◌++◌, length, min, take, drop, filter, Option, Some, None, refl, sym, ap, subst, ◌∙◌, arith}
use Rattle.std.specs.List.{count_by, list_any, slice_get}
use Rattle.std.specs.Option.{option_map}
use Rattle.std.proofs.lemmas.Option.{slice_get_within}
use Rattle.cell_units.specs.declared.limits.TheConstants.{ENTRY_LIMIT}
use Rattle.cell_units.specs.declared.place.Bias.TheVariants.{Right}
use Rattle.cell_units.specs.Lawful.{AreBlockLines}
use Rattle.cell_units.specs.Sorting.{insert_by, sort_by}
use Rattle.mark_tree.specs.declared.mark.Mark.{Mark}
use Rattle.mark_tree.specs.Marks.{has_id, lacks_id, mark_le, mark_with}
use Rattle.sum_core.specs.declared.load.NoLoad.{NoLoad}
use Rattle.block_map.specs.Maps.{Kept, fresh, kept_le, without}
use Rattle.block_map.specs.Stops.{Stop}
use Rattle.block_map.specs.inside.Sides.{BlockMark, IsSide, kept_of}
use Rattle.block_map.specs.inside.StopLists.{StopsFit, stop_with, with_stop, without_stop}
use Rattle.block_map.proofs.PairedSides.{any-kept, anchors-few, anchors-new, kept-added, kept-taken, length-kept, paired-length, side-added, side-taken}

-- an index past the end is that of the end
pub capped : {X : Type 0} (at k : ℕ) (x : X) (xs : List X) → k ≡ min at (length xs) → take at xs ++ x ∷ drop at xs ≡ take k xs ++ x ∷ drop k xs
capped zero zero x xs e = refl
capped zero (suc k) x xs e = absurd (omega (arith, e))
capped (suc at) zero x [] e = refl
capped (suc at) (suc k) x [] e = absurd (omega (arith, e))
capped (suc at) zero x (y ∷ ys) e = absurd (omega (arith, e))
capped (suc at) (suc k) x (y ∷ ys) e = ap (λ l. y ∷ l) (capped at k x ys (omega (arith, e)))

-- marks that are those of a side
module _ (ms ns : List BlockMark) (ss : List Stop) (same : ms ≡ ns) where
  pub side-as : (anchors : List (Mark NoLoad)) → IsSide ns ss anchors → IsSide ms ss anchors
  side-as anchors side = subst (λ (l : List BlockMark). IsSide l ss anchors) (sym same) side

  pub seen-as : (ks : List Kept) → kept_of ns ss ≡ ks → kept_of ms ss ≡ ks
  seen-as ks seen = ap (λ (l : List BlockMark). kept_of l ss) same ∙ seen

module _ (ms : List BlockMark) (ss : List Stop) (anchors : List (Mark NoLoad)) (ks : List Kept) (side : IsSide ms ss anchors) (seen : kept_of ms ss ≡ ks) where
  pub marks-count : length ms ≡ length ks
  marks-count = sym (length-kept ms ss side.each) ∙ ap length seen

  pub stops-count : length ss ≡ length ks
  stops-count = paired-length ms ss side.each ∙ marks-count

  pub anchors-count : length anchors ≤ length ks
  anchors-count = omega (arith, ap length side.anchors, anchors-few (kept_of ms ss), ap length seen)

  pub marks-any : (id : ℕ) → list_any (has_id id) ms ≡ list_any (λ k. k.id == id) ks
  marks-any id = any-kept id ms ss side.each ∙ ap (list_any (λ (k : Kept). k.id == id)) seen

  pub anchors-none : (id : ℕ) → list_any (λ k. k.id == id) ks ≡ false → list_any (has_id id) anchors ≡ false
  anchors-none id e = ap (list_any (has_id id)) side.anchors ∙ anchors-new id (kept_of ms ss) (ap (list_any (λ (k : Kept). k.id == id)) seen ∙ e)

  -- ---- a block that is added

  module _ (offset id : ℕ) (lines : List (List ℕ)) (row at : ℕ) (m : BlockMark) (a : Mark NoLoad) (ms' : List BlockMark) (ss' : List Stop) (anchors' : List (Mark NoLoad))
      (m-is : m ≡ mark_with offset Right id lines) (a-is : a ≡ mark_with offset Right id (record {}))
      (marks-are : ms' ≡ insert_by mark_le m ms) (place : ms' ≡ take at ms ++ m ∷ drop at ms) (stops-are : ss' ≡ with_stop at (stop_with row []) ss) (anchors-are : anchors' ≡ insert_by mark_le a anchors)
      (lawful : AreBlockLines lines) (unused : list_any (λ k. k.id == id) ks ≡ false) where
    marks-with : ms' ≡ insert_by mark_le (mark_with offset Right id lines) ms
    marks-with = marks-are ∙ ap (λ (n : BlockMark). insert_by mark_le n ms) m-is

    place-with : insert_by mark_le (mark_with offset Right id lines) ms ≡ take at ms ++ mark_with offset Right id lines ∷ drop at ms
    place-with = sym marks-with ∙ place ∙ ap (λ (n : BlockMark). take at ms ++ n ∷ drop at ms) m-is

    pub side-with : sort_by mark_le ms ≡ ms → length ks < ENTRY_LIMIT → StopsFit ss' → IsSide ms' ss' anchors'
    side-with sorted room fit =
        let made = side-added offset id lines row at ms ss anchors side lawful (marks-any id ∙ unused) sorted (omega (arith, marks-count, room)) place-with (subst StopsFit stops-are fit) in
        subst (λ (l : List BlockMark). IsSide l ss' anchors') (sym marks-with)
        (subst (λ (l : List Stop). IsSide (insert_by mark_le (mark_with offset Right id lines) ms) l anchors') (sym stops-are)
        (subst (λ (l : List (Mark NoLoad)). IsSide (insert_by mark_le (mark_with offset Right id lines) ms) (with_stop at (stop_with row []) ss) l) (sym (anchors-are ∙ ap (λ (n : Mark NoLoad). insert_by mark_le n anchors) a-is)) made))

    pub seen-with : kept_of ms' ss' ≡ insert_by kept_le (fresh id offset lines) ks
    seen-with =
        (λ i. kept_of (marks-with i) (stops-are i))
        ∙ kept-added offset id lines row at ms ss side.each lawful (marks-any id ∙ unused) place-with
        ∙ ap (insert_by kept_le (fresh id offset lines)) seen

  -- ---- a block that is taken out

  module _ (id at : ℕ) (ms' : List BlockMark) (ss' : List Stop) (anchors' : List (Mark NoLoad))
      (marks-are : ms' ≡ take at ms ++ drop (at + 1) ms) (has : option_map (λ m. m.id) (slice_get ms at) ≡ Some id) where
    found : (o : Option BlockMark) → option_map (λ m. m.id) o ≡ Some id → (m : BlockMark) × (o ≡ Some m) × (m.id ≡ id)
    found None e = absurd (cc)
    found (Some m) e = (m, refl, let f : m.id ≡ id = cc in f)

    pub at-within : at < length ss
    at-within = let m = found (slice_get ms at) has in omega (arith, slice_get_within ms at m.0 m.1, marks-count, stops-count)

    module _ (distinct : (n : ℕ) → count_by (has_id n) ms ≤ 1) (stops-are : ss' ≡ without_stop at ss) where
      pub side-without : anchors' ≡ filter (lacks_id id) anchors → StopsFit ss' → IsSide ms' ss' anchors'
      side-without anchors-are fit =
          let m = found (slice_get ms at) has in
          let made = side-taken id at ms ss anchors side m.0 m.1 m.2 distinct (subst StopsFit stops-are fit) in
          subst (λ (l : List BlockMark). IsSide l ss' anchors') (sym marks-are)
          (subst (λ (l : List Stop). IsSide (take at ms ++ drop (at + 1) ms) l anchors') (sym stops-are)
          (subst (λ (l : List (Mark NoLoad)). IsSide (take at ms ++ drop (at + 1) ms) (without_stop at ss) l) (sym anchors-are) made))

      pub seen-without : kept_of ms' ss' ≡ without id ks
      seen-without =
          let m = found (slice_get ms at) has in
          (λ i. kept_of (marks-are i) (stops-are i)) ∙ kept-taken id at ms ss side.each m.0 m.1 m.2 distinct ∙ ap (without id) seen
