-- A block more or less, as the map of blocks has it and as the record has it.
use Rattle.std.proofs.Common.{◌≡◌, ◌≤◌, ◌+◌, ◌<◌, ℕ, true, false, List, [], ◌∷◌, length, sym, ap, subst, ◌∙◌, inl, inr, arith}
use mathlib.Core.Logic.{◌⊎◌}
use Rattle.std.specs.Prelude.{◌==◌, Option, None, not}
use Rattle.std.specs.List.{All, list_any}
use Rattle.std.specs.Str.{IsUtf8}
use Rattle.std.proofs.lemmas.Bool.{cases_Bool}
use Rattle.cell_units.specs.declared.fault.Fault.{Fault}
use Rattle.cell_units.specs.declared.fault.Refusal.{Refusal}
use Rattle.cell_units.specs.declared.fault.Refusal.TheVariants.{UnknownId}
use Rattle.cell_units.specs.declared.limits.TheConstants.{LAID_LIMIT}
use Rattle.cell_units.specs.declared.place.Side.{Side}
use Rattle.cell_units.specs.BufferLines.{line_start}
use Rattle.cell_units.specs.Lawful.{IsAllowed, IsLawful, source_of}
use Rattle.cell_units.specs.Layers.{Source}
use Rattle.cell_units.specs.Operation.{AddBlock, RemoveBlock}
use Rattle.cell_units.specs.Record.{Record, line_count}
use Rattle.cell_units.specs.Text.{is_boundary}
use Rattle.cell_units.proofs.Boundaries.{test_from_boundary}
use Rattle.cell_units.proofs.BufferLines.{boundary_at_start}
use Rattle.cell_units.proofs.TextLaws.{tells_boundaries}
use Rattle.display_sheet.specs.Changes.{block_refusal, first_of}
use Rattle.display_sheet.specs.Faults.{IsRefusedAs}
use Rattle.display_sheet.proofs.Refused.{block-allowed}
use Rattle.block_map.specs.Maps as blocks
use Rattle.block_map.specs.Maps.{BlockState, removed}
use Rattle.blocked_rows.specs.Laws.{AddsToRecord, AreAsMany, HaveIds, PlacesBlocks, TakesFromRecord}
use Rattle.blocked_rows.specs.Records.{kept_blocks, row_texts}
use Rattle.blocked_rows.specs.Standing.{ArePlaced, with_block}
use Rattle.map_sheet.specs.Changes.{IsReblocked}
use Rattle.map_sheet.proofs.Refusals.{StandsForRow, block-same, owed-as, unblock-same}
use Rattle.map_sheet.proofs.Rooms.{rows-each, rows-room}

-- the offset that is handed over for a row
pub stands-for : (text : List ℕ) (row offset : ℕ) → IsUtf8 text → (row < line_count text → offset ≡ line_start text row) → (line_count text ≤ row → offset ≡ length text + 1) →
    StandsForRow text row offset
stands-for text row offset utf8 start past = record {
  there = λ lt. ap (is_boundary text) (start lt) ∙ test_from_boundary text (line_start text row) (boundary_at_start text row utf8 lt);
  past = λ ge. go ge (cases_Bool (is_boundary text offset));
} where
  go : line_count text ≤ row → (is_boundary text offset ≡ true) ⊎ (is_boundary text offset ≡ false) → is_boundary text offset ≡ false
  go ge (inr f) = f
  go ge (inl t) = let within = ((tells_boundaries text utf8 offset).0 t).0 in absurd (omega (arith, within, past ge))

module _ (r : Record) (is : IsLawful r) (small : length r.text ≤ LAID_LIMIT) (b : BlockState) (b_is : b ≡ kept_blocks r (row_texts r)) (layer : Source) (layer_is : layer ≡ source_of r) where
  pub blocks-stand : PlacesBlocks → ArePlaced layer b
  blocks-stand stand =
      subst (λ (x : BlockState). ArePlaced layer x) (sym b_is)
      (subst (λ (y : Source). ArePlaced y (kept_blocks r (row_texts r))) (sym layer_is)
      (stand r is.entries (row_texts r) (rows-each r is small) (rows-room r is small)))

  module _ (ids : HaveIds) (many : AreAsMany) (row id offset : ℕ) (side : Side) (given : List (List ℕ))
      (start : row < line_count r.text → offset ≡ line_start r.text row) (past : line_count r.text ≤ row → offset ≡ length r.text + 1) where
    same : blocks.add_refusal layer b id offset given ≡ block_refusal r row id given
    same =
        (λ i. blocks.add_refusal (layer_is i) (b_is i) id offset given)
        ∙ block-same ids many r (row_texts r) row id offset given (stands-for r.text row offset is.entries.source.text.0 start past)

    pub block-refused : (fault : Fault) → blocks.IsOwed (blocks.add_refusal layer b id offset given) fault → IsRefusedAs (block_refusal r row id given) fault
    block-refused fault owed = owed-as (block_refusal r row id given) fault (subst (λ (o : Option Refusal). blocks.IsOwed o fault) same owed)

    pub block-accepted : blocks.add_refusal layer b id offset given ≡ None → block_refusal r row id given ≡ None
    block-accepted none = sym same ∙ none

    pub block-made : AddsToRecord → All IsUtf8 given → blocks.add_refusal layer b id offset given ≡ None → (made : BlockState) → made ≡ with_block layer side id offset given b →
        IsReblocked (AddBlock row id side given) r made
    block-made adds utf8 none made are =
        let allowed : IsAllowed (AddBlock row id side given) r = block-allowed r row id given side utf8 (block-accepted none) in
        record {
          changes = tt;
          allowed = allowed;
          blocks_are = are ∙ (λ i. with_block (layer_is i) side id (start allowed.0 i) given (b_is i)) ∙ adds r is.entries (row_texts r) row id side given;
        }

  module _ (ids : HaveIds) (id : ℕ) where
    gone : blocks.remove_refusal b id ≡ first_of ((not (list_any (λ k. k.id == id) r.blocks), UnknownId) ∷ [])
    gone = ap (λ (x : BlockState). blocks.remove_refusal x id) b_is ∙ unblock-same ids r (row_texts r) id

    pub unblock-refused : (fault : Fault) → blocks.IsOwed (blocks.remove_refusal b id) fault →
        IsRefusedAs (first_of ((not (list_any (λ k. k.id == id) r.blocks), UnknownId) ∷ [])) fault
    unblock-refused fault owed = owed-as (first_of ((not (list_any (λ k. k.id == id) r.blocks), UnknownId) ∷ [])) fault (subst (λ (o : Option Refusal). blocks.IsOwed o fault) gone owed)

    pub unblock-accepted : blocks.remove_refusal b id ≡ None → first_of ((not (list_any (λ k. k.id == id) r.blocks), UnknownId) ∷ []) ≡ None
    unblock-accepted none = sym gone ∙ none

    pub unblock-made : TakesFromRecord → (made : BlockState) → made ≡ removed id b → IsReblocked (RemoveBlock id) r made
    unblock-made takes made are = record {
      changes = tt;
      allowed = tt;
      blocks_are = are ∙ ap (removed id) b_is ∙ takes r (row_texts r) id;
    }
