-- The place of a block by its id.
use Rattle.std.proofs.Common.{◌≡◌, ℕ, false, List, [], get_or, position, Option, Some, None, refl, sym, ap, ◌∙◌, eqb-true}
use Rattle.std.specs.Prelude.{MatchOption, option_map}
use Rattle.std.specs.List.{list_any, slice_get}
use Rattle.std.specs.Option.{is_some}
use Rattle.std.proofs.lemmas.Option.{slice_get-get_or}
use Rattle.cell_units.specs.declared.place.Bias.TheVariants.{Right}
use Rattle.cell_units.specs.declared.place.Shift.{Shift}
use Rattle.mark_tree.specs.declared.mark.Mark.{Mark}
use Rattle.mark_tree.specs.Marks.{IsMarkList, has_id}
use Rattle.mark_tree.proofs.Finding.{position-any, position-some}
use Rattle.sum_core.specs.declared.load.NoLoad.{NoLoad}
use Rattle.block_map.specs.Maps.{IsPlaceOf, Kept}
use Rattle.block_map.specs.Stops.{Stop}
use Rattle.block_map.specs.inside.SideMoves.{MayFollow, marks_after}
use Rattle.block_map.specs.inside.Sides.{BlockMark, IsSide, kept_of}
use Rattle.block_map.proofs.AlteredSides.{marks-any}
use Rattle.block_map.proofs.BlocksGot.{after-at, block-at}
use Rattle.block_map.proofs.MarksAfter.{any-after}

-- the mark of an id is at this place among these, if there is one
abbrev pub IsMarkOf : List BlockMark → ℕ → Option ℕ → Type 0
IsMarkOf ms id found = MatchOption found (list_any (has_id id) ms ≡ false) (λ at. option_map (λ m. m.id) (slice_get ms at) ≡ Some id)

mark-at : (ms : List BlockMark) (id at : ℕ) → position (has_id id) ms ≡ Some at → (m : BlockMark) × (slice_get ms at ≡ Some m) × (m.id ≡ id)
mark-at ms id at e =
    let none : BlockMark = record { offset = 0; bias = Right; id = 0; load = [] } in
    let found = position-some (has_id id) ms at e in
    (get_or ms at none, slice_get-get_or ms at none found.0, eqb-true (get_or ms at none).id id (found.1 none))

pub mark-found : (shift : Option Shift) (ms : List BlockMark) (id : ℕ) (found : Option ℕ) → IsMarkList ms → MayFollow shift ms → found ≡ position (has_id id) ms → IsMarkOf (marks_after shift ms) id found
mark-found shift ms id None list follow e = any-after id shift ms ∙ sym (position-any (has_id id) ms) ∙ ap is_some (sym e)
mark-found None ms id (Some at) list follow e =
    let m = mark-at ms id at (sym e) in
    ap (option_map (λ (m : BlockMark). m.id)) m.1 ∙ ap Some m.2
mark-found (Some s) ms id (Some at) list follow e =
    let m = mark-at ms id at (sym e) in
    ap (option_map (λ (m : BlockMark). m.id)) (after-at s ms at m.0 list follow m.1) ∙ ap Some m.2

-- ... and so is its block
pub block-found : (ms : List BlockMark) (ss : List Stop) (anchors : List (Mark NoLoad)) (ks : List Kept) → IsSide ms ss anchors → kept_of ms ss ≡ ks
    → (id : ℕ) (found : Option ℕ) → IsMarkOf ms id found → IsPlaceOf ks id found
block-found ms ss anchors ks side seen id None none = sym (marks-any ms ss anchors ks side seen id) ∙ none
block-found ms ss anchors ks side seen id (Some at) there = go (slice_get ms at) there (λ m e. e) where
  go : (o : Option BlockMark) → option_map (λ m. m.id) o ≡ Some id → ((m : BlockMark) → o ≡ Some m → slice_get ms at ≡ Some m) → IsPlaceOf ks id (Some at)
  go None e is = absurd (cc)
  go (Some m) e is =
      let b = block-at ms ss anchors ks side seen at m (is m refl) in
      ap (option_map (λ (k : Kept). k.id)) b.1 ∙ ap Some b.3 ∙ e
