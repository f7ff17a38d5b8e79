-- Which blocks are shown anew where the text and the rows stay: those of which nothing was shown yet.
use Rattle.std.proofs.Common.{◌≡◌, ℕ, zero, suc, ◌+◌, ◌≤◌, ◌==◌, not, true, List, [], ◌∷◌, ◌++◌, length, Option, None, Some, refl, sym, ap, subst, ◌∙◌, arith}
use Rattle.std.specs.List.{All, slice_get}
use Rattle.std.specs.Option.{is_some}
use Rattle.cell_units.specs.declared.place.Side.{Side}
use Rattle.cell_units.specs.declared.place.Side.TheVariants.{Above, Below}
use Rattle.cell_units.specs.Lawful.{IsWellFormed}
use Rattle.cell_units.specs.Layers.{Source}
use Rattle.cell_units.specs.Sorting.{insert_by}
use Rattle.cell_units.proofs.CutLists.{Every, Every-left, Every-right}
use Rattle.cell_units.proofs.FoundEntries.{Every-from_All, put_in}
use Rattle.mark_tree.proofs.Sorting.{length-insert}
use Rattle.edit_patch.specs.declared.edit.Edit.{Edit}
use Rattle.sum_tree.specs.Bounds.{TakesAtMost}
use Rattle.block_map.specs.Bounds.{altering, syncing}
use Rattle.block_map.specs.Carried.{HaveAnew, IsCarried, SyncsAtMost}
use Rattle.block_map.specs.Bounds.{SearchesBoth, TakesOneEach}
use Rattle.block_map.specs.Maps.{BlockState, Kept, added, fresh, kept_le, removed, row_of_kept, line_of_kept, state_of, without}
use Rattle.block_map.specs.inside.ShownStops.{AreShown}
use Rattle.unicode_segmentation.proofs.SegmentsLemmas.{length-filter-le}
use Rattle.blocked_rows.specs.Records.{Lines}
use Rattle.blocked_rows.specs.Bounds.{adding, taking}
use Rattle.blocked_rows.specs.Standing.{IsBlockOf, ArePlaced}
use Rattle.blocked_rows.proofs.BlockPlaces.{line-in}
use Rattle.blocked_rows.proofs.AlteredBlocks.{AllPlaced, shown-removed, placed-removed}

-- in a list of one kind there is none that isn't
none-other : {X : Type 0} (P : X → Type 0) (xs : List X) → Every P xs → (k : ℕ) (b : X) → slice_get xs k ≡ Some b → ¬ P b → ⊥
none-other P [] of k b at isnt = cc
none-other P (x ∷ xs) of zero b at isnt = let e : x ≡ b = cc in isnt (subst P e of.0)
none-other P (x ∷ xs) of (suc k) b at isnt = none-other P xs of.1 k b at isnt

-- in a list that all but one are of a kind, the place of one that isn't
place-of : {X : Type 0} (P : X → Type 0) (before behind : List X) (x : X) → Every P before → Every P behind
    → (k : ℕ) (b : X) → slice_get (before ++ x ∷ behind) k ≡ Some b → ¬ P b → k ≡ length before
place-of P [] behind x of on zero b at isnt = refl
place-of P [] behind x of on (suc k) b at isnt = absurd (none-other P behind on k b at isnt)
place-of P (y ∷ ys) behind x of on zero b at isnt = absurd (let e : y ≡ b = cc in isnt (subst P e of.0))
place-of P (y ∷ ys) behind x of on (suc k) b at isnt = ap suc (place-of P ys behind x of.1 on k b at isnt)

module _ (source : Source) (formed : IsWellFormed source) (s : BlockState) (placed_on : ArePlaced source s) where
  abbrev Stays : Side → Kept → Type 0
  Stays side k = IsCarried None [] s.lines side k

  -- a block that is shown stays with its line
  carried : (side : Side) (k : Kept) → IsBlockOf source s.lines side k → is_some k.row ≡ true → Stays side k
  carried side k of seen = record {
    line = line_of_kept source side k;
    within = omega (arith, line-in source side k formed of.anchor.0, placed_on.equal);
    stood = go k.row refl seen;
    kept = λ n within gone. absurd (omega (arith, gone.2));
    passed = tt;
  } where
    go : (o : Option ℕ) → k.row ≡ o → is_some o ≡ true → k.row ≡ Some (row_of_kept source s.lines side k)
    go None e f = absurd (cc)
    go (Some row) e f = e ∙ ap Some (of.shown row e)

  each-carried : (side : Side) (ks : List Kept) → All (IsBlockOf source s.lines side) ks → AreShown ks → Every (Stays side) ks
  each-carried side ks of seen = go ks (Every-from_All (IsBlockOf source s.lines side) ks of) (Every-from_All (λ k. is_some k.row ≡ true) ks seen) where
    go : (ks : List Kept) → Every (IsBlockOf source s.lines side) ks → Every (λ k. is_some k.row ≡ true) ks → Every (Stays side) ks
    go [] of seen = tt
    go (k ∷ ks) of seen = (carried side k of.0 seen.0, go ks of.1 seen.1)

  none-anew : (side : Side) (ks : List Kept) → All (IsBlockOf source s.lines side) ks → AreShown ks → HaveAnew None [] s.lines side ks []
  none-anew side ks of seen k b at isnt = absurd (none-other (Stays side) ks (each-carried side ks of seen) k b at isnt)

  -- the one that was added is shown anew
  one-anew : (side : Side) (x : Kept) (ks : List Kept) → All (IsBlockOf source s.lines side) ks → AreShown ks
      → (n : ℕ) × HaveAnew None [] s.lines side (insert_by kept_le x ks) (n ∷ [])
  one-anew side x ks of seen =
      let put = put_in kept_le x ks in
      let stay : Every (Stays side) (put.before ++ put.behind) = subst (Every (Stays side)) put.old_is (each-carried side ks of seen) in
      let left = Every-left (Stays side) put.before put.behind stay in
      let right = Every-right (Stays side) put.before put.behind stay in (
        length put.before,
        λ k b at isnt.
            let e : k ≡ length put.before =
            place-of (Stays side) put.before put.behind x left right k b (ap (λ (l : List Kept). slice_get l k) (sym put.new_is) ∙ at) isnt in
            (0, omega arith, sym e),
      )

-- ---- bounds

none-of : (lines : Lines) (side : Side) → HaveAnew None [] lines side [] []
none-of lines side k b at isnt = absurd (cc)

-- where there are no blocks and no edits
pub syncs-none : (lines : Lines) (edits : List Edit) (s : BlockState) (start old new : ℕ) → edits ≡ [] → s ≡ state_of lines → old ≡ start
    → SyncsAtMost None edits s old new → TakesAtMost (syncing 0 0) 0 start new
syncs-none lines edits s start old new none is same shown =
    subst (λ (o : ℕ). SyncsAtMost None [] (state_of lines) o new) same
    (subst (λ (b : BlockState). SyncsAtMost None [] b old new) is
    (subst (λ (es : List Edit). SyncsAtMost None es s old new) none shown)) [] [] (none-of lines Above) (none-of lines Below)

-- equal blocks are searched in as many steps
pub judged-same : (s t : BlockState) (old new : ℕ) → s ≡ t → SearchesBoth (length s.above + length s.below) old new
    → SearchesBoth (length t.above + length t.below) old new
judged-same s t old new same = subst (λ (b : BlockState). SearchesBoth (length b.above + length b.below) old new) same

module _ (source : Source) (s : BlockState) (all : AllPlaced source s) (old mid new : ℕ) where
  abbrev many : ℕ
  many = length s.above + length s.below

  pub adds-at_most : (side : Side) (id o : ℕ) (given : List (List ℕ)) → TakesOneEach altering (many + 1) old mid
      → SyncsAtMost None [] (added side (fresh id o given) s) mid new → TakesOneEach adding (many + 1) old new
  adds-at_most Above id o given put shown h few =
      let x = fresh id o given in
      let one = one-anew source all.formed s all.placed_on Above x s.above all.placed_on.above all.above in
      let none = none-anew source all.formed s all.placed_on Below s.below all.placed_on.below all.below in
      let count = length-insert kept_le x s.above in
      omega (arith, put h few, shown (one.0 ∷ []) [] one.1 none h (omega (arith, count, few)))
  adds-at_most Below id o given put shown h few =
      let x = fresh id o given in
      let one = one-anew source all.formed s all.placed_on Below x s.below all.placed_on.below all.below in
      let none = none-anew source all.formed s all.placed_on Above s.above all.placed_on.above all.above in
      let count = length-insert kept_le x s.below in
      omega (arith, put h few, shown [] (one.0 ∷ []) none one.1 h (omega (arith, count, few)))

  fewer : (id : ℕ) (ks : List Kept) → length (without id ks) ≤ length ks
  fewer id ks = length-filter-le (λ k. not (k.id == id)) ks

  pub takes-at_most : (id : ℕ) → TakesOneEach altering many old mid
      → SyncsAtMost None [] (removed id s) mid new → TakesOneEach taking many old new
  takes-at_most id out shown h few =
      let left = placed-removed source s all id in
      let above = none-anew source all.formed (removed id s) left Above (without id s.above) left.above (shown-removed source s all id s.above all.above) in
      let below = none-anew source all.formed (removed id s) left Below (without id s.below) left.below (shown-removed source s all id s.below all.below) in
      omega (arith, out h few, shown [] [] above below h (omega (arith, few, fewer id s.above, fewer id s.below)))
