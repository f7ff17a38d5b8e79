-- Blocks of a layer with one more, or with one less.
use Rattle.std.proofs.Common.{◌≡◌, ℕ, ◌==◌, ◌≤◌, ◌&&◌, not, nat_le, nat_lt, Bool, true, false, cond, List, [], ◌∷◌, length, map, Option, None, Some, refl, sym, ap, subst, ◌∙◌, arith}
use Rattle.std.specs.List.{All, list_any}
use Rattle.std.specs.Option.{is_some}
use Rattle.std.proofs.lemmas.Bool.{and_parts, leb-true}
use Rattle.std.proofs.lemmas.List.Elements.{All-filter}
use Rattle.cell_units.specs.declared.fault.Refusal.{Refusal}
use Rattle.cell_units.specs.declared.fault.Refusal.TheVariants.{BadRange, IdInUse}
use Rattle.cell_units.specs.declared.limits.TheConstants.{BLOCK_LINES_LIMIT}
use Rattle.cell_units.specs.declared.place.Shift.{Shift}
use Rattle.cell_units.specs.declared.place.Side.{Side}
use Rattle.cell_units.specs.declared.place.Side.TheVariants.{Above, Below}
use Rattle.cell_units.specs.Lawful.{IsWellFormed}
use Rattle.cell_units.specs.Layers.{Source}
use Rattle.cell_units.specs.Sorting.{insert_by}
use Rattle.cell_units.specs.Text.{is_boundary}
use Rattle.cell_units.proofs.CutLists.{Every}
use Rattle.cell_units.proofs.FoundEntries.{All-from_Every, Every-from_All}
use Rattle.cell_units.proofs.SortedLists.{Every-insert}
use Rattle.cell_units.proofs.TextLaws.{tells_boundaries}
use Rattle.mark_tree.proofs.Sorting as sorting
use Rattle.mark_tree.proofs.Sorting.{insert-map, length-insert}
use Rattle.unicode_segmentation.proofs.SegmentsLemmas.{length-filter-le}
use Rattle.block_map.specs.Between.{Between}
use Rattle.block_map.specs.Maps.{BlockState, IsShown, Kept, add_refusal, added, are_block_lines, between_of, fresh, has_block, is_line_end, kept_le, moved, moved_kept, placed, removed, row_of_kept, synced, without}
use Rattle.block_map.specs.inside.ShownStops.{AreShown, shown_between}
use Rattle.block_map.proofs.BlockRefusals.{accepted}
use Rattle.block_map.proofs.ShownStops.{placed-shown, placed-stops}
use Rattle.blocked_rows.specs.Records.{Lines}
use Rattle.blocked_rows.specs.Standing.{IsBlockOf, ShowsAll, ArePlaced, with_block}

-- The blocks of a lawful layer, all of them shown.
pub record AllPlaced (source : Source) (s : BlockState) : Type 0 where
  pub formed : IsWellFormed source
  pub placed_on : ArePlaced source s
  pub above : AreShown s.above
  pub below : AreShown s.below

pub all-placed : (source : Source) (lines : Lines) (inside now : BlockState) (shown : Between) → inside ≡ now → ShowsAll lines inside shown
    → IsWellFormed source → ArePlaced source now → AllPlaced source now
all-placed source lines inside now shown same is formed placed_on = record {
  formed = formed;
  placed_on = placed_on;
  above = subst (λ (s : BlockState). AreShown s.above) same is.above;
  below = subst (λ (s : BlockState). AreShown s.below) same is.below;
}

-- ---- all blocks are shown after a `sync`

pub shows-all : (source : Source) (shift : Option Shift) (given lines : Lines) (old made : BlockState) (shown : Between) → given ≡ lines
    → made ≡ synced source shift given old → IsShown source shift given old shown → ShowsAll lines made shown
shows-all source shift given lines old made shown same is seen = record {
  lines_are = ap (λ (s : BlockState). s.lines) is ∙ same;
  above = subst (λ (s : BlockState). AreShown s.above) (sym is) (placed-shown source given Above (moved_kept shift old.above));
  below = subst (λ (s : BlockState). AreShown s.below) (sym is) (placed-shown source given Below (moved_kept shift old.below));
  shown_is = seen.stops ∙ sym stops ∙ ap shown_between (sym is);
} where
  stops : shown_between (synced source shift given old) ≡ between_of source given (moved shift old)
  stops = λ i. record {
    lines = given;
    above = placed-stops source given Above (moved_kept shift old.above) i;
    below = placed-stops source given Below (moved_kept shift old.below) i;
  }

-- ---- blocks that stay where they are

module _ (source : Source) (lines : Lines) (side : Side) where
  placed-one : (k : Kept) → IsBlockOf source lines side k → is_some k.row ≡ true → placed source lines side k ≡ k
  placed-one k of seen = go k.row refl seen where
    go : (o : Option ℕ) → k.row ≡ o → is_some o ≡ true → placed source lines side k ≡ k
    go None e f = absurd (cc)
    go (Some row) e f =
        let at : Some (row_of_kept source lines side k) ≡ k.row = ap Some (sym (of.shown row e)) ∙ sym e in
        λ i. record k { row = at i }

  placed-each : (ks : List Kept) → Every (IsBlockOf source lines side) ks → Every (λ k. is_some k.row ≡ true) ks → map (placed source lines side) ks ≡ ks
  placed-each [] of seen = refl
  placed-each (k ∷ ks) of seen = λ i. placed-one k of.0 seen.0 i ∷ placed-each ks of.1 seen.1 i

  placed-same : (ks : List Kept) → All (IsBlockOf source lines side) ks → AreShown ks → map (placed source lines side) ks ≡ ks
  placed-same ks of seen =
      placed-each ks (Every-from_All (IsBlockOf source lines side) ks of) (Every-from_All (λ k. is_some k.row ≡ true) ks seen)

  any : (ks : List Kept) → sorting.Every (λ k. Unit {0}) ks
  any [] = tt
  any (k ∷ ks) = (tt, any ks)

  -- one more among them
  placed-put : (k : Kept) (ks : List Kept) → All (IsBlockOf source lines side) ks → AreShown ks
      → map (placed source lines side) (insert_by kept_le k ks) ≡ insert_by kept_le (placed source lines side k) ks
  placed-put k ks of seen =
      insert-map (placed source lines side) kept_le kept_le (λ k. Unit {0}) (λ x y p q. refl) k ks tt (any ks)
      ∙ ap (insert_by kept_le (placed source lines side k)) (placed-same ks of seen)

module _ (source : Source) (s : BlockState) (all : AllPlaced source s) where
  pub synced-added : (side : Side) (id o : ℕ) (given : List (List ℕ))
      → synced source None s.lines (added side (fresh id o given) s) ≡ with_block source side id o given s
  synced-added Above id o given = λ i. record {
    lines = s.lines;
    above = placed-put source s.lines Above (fresh id o given) s.above all.placed_on.above all.above i;
    below = placed-same source s.lines Below s.below all.placed_on.below all.below i;
  }
  synced-added Below id o given = λ i. record {
    lines = s.lines;
    above = placed-same source s.lines Above s.above all.placed_on.above all.above i;
    below = placed-put source s.lines Below (fresh id o given) s.below all.placed_on.below all.below i;
  }

  pub shown-removed : (id : ℕ) (ks : List Kept) → AreShown ks → AreShown (without id ks)
  shown-removed id ks seen = All-filter (λ k. not (k.id == id)) (λ k. is_some k.row ≡ true) ks seen

  placed-without : (id : ℕ) (side : Side) (ks : List Kept) → All (IsBlockOf source s.lines side) ks → All (IsBlockOf source s.lines side) (without id ks)
  placed-without id side ks of = All-filter (λ k. not (k.id == id)) (IsBlockOf source s.lines side) ks of

  pub synced-removed : (id : ℕ) → synced source None s.lines (removed id s) ≡ removed id s
  synced-removed id = λ i. record {
    lines = s.lines;
    above = placed-same source s.lines Above (without id s.above) (placed-without id Above s.above all.placed_on.above) (shown-removed id s.above all.above) i;
    below = placed-same source s.lines Below (without id s.below) (placed-without id Below s.below all.placed_on.below) (shown-removed id s.below all.below) i;
  }

  pub placed-removed : (id : ℕ) → ArePlaced source (removed id s)
  placed-removed id =
      let other : Kept → Bool = λ k. not (k.id == id) in
      record {
        equal = all.placed_on.equal;
        above = placed-without id Above s.above all.placed_on.above;
        below = placed-without id Below s.below all.placed_on.below;
        few = omega (arith, length-filter-le other s.above, length-filter-le other s.below, all.placed_on.few);
        room = all.placed_on.room;
      }

-- ---- one that is added is one of the layer

at-boundary : (used at : Bool) (rest : Option Refusal) → cond used (Some IdInUse) (cond (not at) (Some BadRange) rest) ≡ None → at ≡ true
at-boundary true at rest e = absurd (cc)
at-boundary false false rest e = absurd (cc)
at-boundary false true rest e = refl

few-lines : (lines : List (List ℕ)) → are_block_lines lines ≡ true → length lines ≤ BLOCK_LINES_LIMIT
few-lines lines proper =
    let whole = and_parts (nat_lt 0 (length lines) && nat_le (length lines) BLOCK_LINES_LIMIT) (not (list_any (list_any is_line_end) lines)) proper in
    leb-true (length lines) BLOCK_LINES_LIMIT (and_parts (nat_lt 0 (length lines)) (nat_le (length lines) BLOCK_LINES_LIMIT) whole.0).1

module _ (source : Source) (s : BlockState) (all : AllPlaced source s) (id o : ℕ) (given : List (List ℕ))
    (none : add_refusal source s id o given ≡ None) where
  fresh-of : (side : Side) → IsBlockOf source s.lines side (fresh id o given)
  fresh-of side = record {
    anchor = (tells_boundaries source.text all.formed.text.0 o).0 (at-boundary (has_block id s) (is_boundary source.text o) _ none);
    shown = λ row e. absurd (cc);
    few = few-lines given (accepted source s id o given none).proper;
  }

  side-added : (side : Side) (ks : List Kept) → All (IsBlockOf source s.lines side) ks → All (IsBlockOf source s.lines side) (insert_by kept_le (fresh id o given) ks)
  side-added side ks of =
      All-from_Every (IsBlockOf source s.lines side) (insert_by kept_le (fresh id o given) ks)
      (Every-insert kept_le (IsBlockOf source s.lines side) (fresh id o given) ks (fresh-of side) (Every-from_All (IsBlockOf source s.lines side) ks of))

  pub placed-added : (side : Side) → ArePlaced source (added side (fresh id o given) s)
  placed-added Above = record {
    equal = all.placed_on.equal;
    above = side-added Above s.above all.placed_on.above;
    below = all.placed_on.below;
    few = omega (arith, length-insert kept_le (fresh id o given) s.above, (accepted source s id o given none).room);
    room = all.placed_on.room;
  }
  placed-added Below = record {
    equal = all.placed_on.equal;
    above = all.placed_on.above;
    below = side-added Below s.below all.placed_on.below;
    few = omega (arith, length-insert kept_le (fresh id o given) s.below, (accepted source s id o given none).room);
    room = all.placed_on.room;
  }
