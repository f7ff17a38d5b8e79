-- Blocks that are those of a layer stay so: with one more or one less, and at the rows after a change.
use Rattle.std.proofs.Common.{◌≡◌, ℕ, ◌==◌, ◌≤◌, ◌^◌, ◌&&◌, not, nat_le, nat_lt, Bool, true, false, cond, List, [], ◌∷◌, length, map, Option, None, Some, refl, sym, subst, ◌∙◌, arith}
use Rattle.std.specs.List.{All, list_any}
use Rattle.std.proofs.lemmas.Bool.{and_parts, leb-true}
use Rattle.std.proofs.lemmas.List.Elements.{All-filter, All-nil}
use Rattle.cell_units.specs.declared.fault.Refusal.{Refusal}
use Rattle.cell_units.specs.declared.fault.Refusal.TheVariants.{BadRange, IdInUse}
use Rattle.cell_units.specs.declared.limits.TheConstants.{BLOCK_LINES_LIMIT}
use Rattle.cell_units.specs.declared.place.Shift.{Shift}
use Rattle.cell_units.specs.declared.place.Side.{Side}
use Rattle.cell_units.specs.declared.place.Side.TheVariants.{Above, Below}
use Rattle.cell_units.specs.Lawful.{IsWellFormed}
use Rattle.cell_units.specs.Layers.{Source, shown_lines}
use Rattle.cell_units.specs.Rows.{all_rows}
use Rattle.cell_units.specs.Sorting.{insert_by}
use Rattle.cell_units.specs.Text.{IsBoundary, is_boundary}
use Rattle.cell_units.proofs.CutLists.{Every}
use Rattle.cell_units.proofs.FoundEntries.{All-from_Every, Every-from_All}
use Rattle.cell_units.proofs.SortedLists.{Every-insert, Every-map, Every-sort}
use Rattle.cell_units.proofs.TextLaws.{tells_boundaries}
use Rattle.mark_tree.proofs.Moved.{length-map}
use Rattle.mark_tree.proofs.Sorting.{length-insert, length-sort}
use Rattle.unicode_segmentation.proofs.SegmentsLemmas.{length-filter-le}
use Rattle.edit_patch.specs.declared.edit.Edit.{Edit}
use Rattle.block_map.specs.Follows.{IsFollowed}
use Rattle.block_map.specs.Maps.{BlockState, Kept, add_refusal, are_block_lines, fresh, has_block, is_line_end, kept_le, move_kept, moved_kept, placed, removed, state_of, synced}
use Rattle.block_map.proofs.BlockRefusals.{accepted}
use Rattle.blocked_rows.specs.Records.{Lines}
use Rattle.blocked_rows.specs.Standing.{ArePlaced, IsBlockOf, with_block}

-- none are those of any layer
pub placed-none : (source : Source) (lines : Lines) → length (shown_lines source) ≡ length lines → length (all_rows lines) ≤ 2 ^ 31 → ArePlaced source (state_of lines)
placed-none source lines equal few = record {
  equal = equal;
  above = All-nil (IsBlockOf source lines Above);
  below = All-nil (IsBlockOf source lines Below);
  few = omega arith;
  room = few;
}

-- ---- one less

pub placed-removed : (source : Source) (s : BlockState) (id : ℕ) → ArePlaced source s → ArePlaced source (removed id s)
placed-removed source s id placed_on =
    let other : Kept → Bool = λ k. not (k.id == id) in
    record {
      equal = placed_on.equal;
      above = All-filter other (IsBlockOf source s.lines Above) s.above placed_on.above;
      below = All-filter other (IsBlockOf source s.lines Below) s.below placed_on.below;
      few = omega (arith, length-filter-le other s.above, length-filter-le other s.below, placed_on.few);
      room = placed_on.room;
    }

-- ---- one more

at-boundary : (used at : Bool) (rest : Option Refusal) → cond used (Some IdInUse) (cond (not at) (Some BadRange) rest) ≡ None → at ≡ true
at-boundary true at rest e = absurd (cc)
at-boundary false false rest e = absurd (cc)
at-boundary false true rest e = refl

few-lines : (lines : List (List ℕ)) → are_block_lines lines ≡ true → length lines ≤ BLOCK_LINES_LIMIT
few-lines lines proper =
    let whole = and_parts (nat_lt 0 (length lines) && nat_le (length lines) BLOCK_LINES_LIMIT) (not (list_any (list_any is_line_end) lines)) proper in
    leb-true (length lines) BLOCK_LINES_LIMIT (and_parts (nat_lt 0 (length lines)) (nat_le (length lines) BLOCK_LINES_LIMIT) whole.0).1

module _ (source : Source) (formed : IsWellFormed source) (s : BlockState) (placed_on : ArePlaced source s) (id o : ℕ) (given : List (List ℕ))
    (none : add_refusal source s id o given ≡ None) where
  new-of : (side : Side) → IsBlockOf source s.lines side (placed source s.lines side (fresh id o given))
  new-of side = record {
    anchor = (tells_boundaries source.text formed.text.0 o).0 (at-boundary (has_block id s) (is_boundary source.text o) _ none);
    shown = λ row e. cc;
    few = few-lines given (accepted source s id o given none).proper;
  }

  side-added : (side : Side) (ks : List Kept) → All (IsBlockOf source s.lines side) ks
      → All (IsBlockOf source s.lines side) (insert_by kept_le (placed source s.lines side (fresh id o given)) ks)
  side-added side ks of =
      All-from_Every (IsBlockOf source s.lines side) (insert_by kept_le (placed source s.lines side (fresh id o given)) ks)
      (Every-insert kept_le (IsBlockOf source s.lines side) (placed source s.lines side (fresh id o given)) ks (new-of side)
      (Every-from_All (IsBlockOf source s.lines side) ks of))

  pub placed-added : (side : Side) → ArePlaced source (with_block source side id o given s)
  placed-added Above = record {
    equal = placed_on.equal;
    above = side-added Above s.above placed_on.above;
    below = placed_on.below;
    few = omega (arith, length-insert kept_le (placed source s.lines Above (fresh id o given)) s.above, (accepted source s id o given none).room);
    room = placed_on.room;
  }
  placed-added Below = record {
    equal = placed_on.equal;
    above = placed_on.above;
    below = side-added Below s.below placed_on.below;
    few = omega (arith, length-insert kept_le (placed source s.lines Below (fresh id o given)) s.below, (accepted source s id o given none).room);
    room = placed_on.room;
  }

-- the lines are as they were
pub lines-added : (source : Source) (side : Side) (id o : ℕ) (given : List (List ℕ)) (s : BlockState)
    → (with_block source side id o given s).lines ≡ s.lines
lines-added source Above id o given s = refl
lines-added source Below id o given s = refl

-- ---- after a change

-- blocks are no fewer after a replacement
length-moved : (shift : Option Shift) (ks : List Kept) → length (moved_kept shift ks) ≡ length ks
length-moved None ks = refl
length-moved (Some s) ks = length-sort kept_le (map (move_kept s) ks) ∙ length-map (move_kept s) ks

abbrev HasFew : Kept → Type 0
HasFew k = length k.lines ≤ BLOCK_LINES_LIMIT

few-moved : (shift : Option Shift) (ks : List Kept) → Every HasFew ks → Every HasFew (moved_kept shift ks)
few-moved None ks few = few
few-moved (Some s) ks few = Every-sort kept_le HasFew (map (move_kept s) ks) (Every-map (move_kept s) HasFew HasFew (λ k h. h) ks few)

module _ (source : Source) (lines : Lines) (side : Side) where
  each-placed : (ks : List Kept) → Every (λ k. IsBoundary source.text k.offset) ks → Every HasFew ks → Every (IsBlockOf source lines side) (map (placed source lines side) ks)
  each-placed [] at few = tt
  each-placed (k ∷ ks) at few = (record { anchor = at.0; shown = λ row is. cc; few = few.0 }, each-placed ks at.1 few.1)

  few-of : (old : Source) (was : Lines) (ks : List Kept) → Every (IsBlockOf old was side) ks → Every HasFew ks
  few-of old was [] of = tt
  few-of old was (k ∷ ks) of = (of.0.few, few-of old was ks of.1)

  -- the blocks of one side
  side-placed : (old : Source) (was : Lines) (shift : Option Shift) (ks : List Kept) → All (IsBlockOf old was side) ks
      → All (λ k. IsBoundary source.text k.offset) (moved_kept shift ks)
      → All (IsBlockOf source lines side) (map (placed source lines side) (moved_kept shift ks))
  side-placed old was shift ks of anchors =
      All-from_Every (IsBlockOf source lines side) (map (placed source lines side) (moved_kept shift ks))
      (each-placed (moved_kept shift ks) (Every-from_All (λ k. IsBoundary source.text k.offset) (moved_kept shift ks) anchors)
      (few-moved shift ks (few-of old was ks (Every-from_All (IsBlockOf old was side) ks of))))

  as-many : (shift : Option Shift) (ks : List Kept) → length (map (placed source lines side) (moved_kept shift ks)) ≡ length ks
  as-many shift ks = length-map (placed source lines side) (moved_kept shift ks) ∙ length-moved shift ks

pub placed-synced : (old source : Source) (lines : Lines) (shift : Option Shift) (s : BlockState) → ArePlaced old s
    → All (λ k. IsBoundary source.text k.offset) (moved_kept shift s.above) → All (λ k. IsBoundary source.text k.offset) (moved_kept shift s.below)
    → length (shown_lines source) ≡ length lines → length (all_rows lines) ≤ 2 ^ 31
    → ArePlaced source (synced source shift lines s)
placed-synced old source lines shift s placed_on above below equal few = record {
  equal = equal;
  above = side-placed source lines Above old s.lines shift s.above placed_on.above above;
  below = side-placed source lines Below old s.lines shift s.below placed_on.below below;
  few = omega (arith, as-many source lines Above shift s.above, as-many source lines Below shift s.below, placed_on.few);
  room = few;
}

-- the same of what a change of rows makes
pub placed-after : (old source : Source) (lines : Lines) (shift : Option Shift) (edits : List Edit) (s made : BlockState) → ArePlaced old s
    → IsFollowed source shift edits lines s → length (all_rows lines) ≤ 2 ^ 31 → made ≡ synced source shift lines s → ArePlaced source made
placed-after old source lines shift edits s made placed_on is few same =
    subst (ArePlaced source) (sym same) (placed-synced old source lines shift s placed_on is.anchors_above is.anchors_below is.equal few)
