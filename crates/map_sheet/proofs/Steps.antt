-- What the calls of an operation give each other.
use Rattle.std.proofs.Common.{◌≡◌, ◌≤◌, ℕ, List, length, sym, ap, subst, ◌∙◌}
use Rattle.std.specs.Prelude.{Option, None, Some}
use Rattle.cell_units.specs.declared.limits.TheConstants.{LAID_LIMIT}
use Rattle.cell_units.specs.declared.place.Shift.{Shift}
use Rattle.cell_units.specs.Lawful.{IsLawful, IsTab, IsWidth, source_of}
use Rattle.cell_units.specs.Layers.{Source}
use Rattle.cell_units.specs.Operation.{Operation, SetTab, SetWidth}
use Rattle.cell_units.specs.Record.{Record}
use Rattle.edit_patch.specs.declared.edit.Edit.{Edit}
use Rattle.tab_map.specs.TabLines.{AreAll, AreMet, LinesFollow, lines_at}
use Rattle.display_sheet.specs.declared.sheet.LineSplice.{LineSplice}
use Rattle.display_sheet.specs.Sheets.{IsOperated}
use Rattle.display_sheet.specs.Shown.{unstamped}
use Rattle.plain_rows.specs.Reach.{blocks_at_lines}
use Rattle.kept_sheet.specs.Kept.{placed_lines}
use Rattle.block_map.specs.Carried.{SyncsAtMost}
use Rattle.block_map.specs.Follows.{IsFollowed}
use Rattle.block_map.specs.Maps.{BlockState, synced}
use Rattle.wrapped_lines.specs.Changed.{IsLandedAt, IsRewrapped}
use Rattle.wrapped_lines.specs.WrappedSource as wrapped
use Rattle.wrapped_lines.specs.WrappedSource.{HaveRoom, WrappedSource}
use Rattle.blocked_rows.specs.Laws.{AreAsMany, FollowsOperations, FollowsRows, MovesWithRecord, PlacesBlocks}
use Rattle.blocked_rows.specs.Records.{kept_blocks, row_texts}
use Rattle.map_sheet.specs.Bounds.{ShowsAtMost, touched_blocks}
use Rattle.map_sheet.specs.Changes.{IsReblocked, IsRelaid, IsTurned, WasReblocked, WasRelaid, WasTurned}
use Rattle.map_sheet.specs.Kept.{KeepSome, Keeps, lines_in}
use Rattle.map_sheet.proofs.Landed as landed
use Rattle.map_sheet.proofs.Landed.{landed-followed, landed-keeps}
use Rattle.map_sheet.proofs.LandedBlocks.{landed-shows}
use Rattle.map_sheet.proofs.Relaid as relaid
use Rattle.map_sheet.proofs.Relaid.{is-followed, is-operated, is-shown, relaid-keeps}
use Rattle.map_sheet.proofs.Tabbed.{tabbed-relaid}
use Rattle.map_sheet.proofs.Turned.{follow, room-after, turned-relaid, turned-room}
use Rattle.map_sheet.proofs.Unmoved.{reblocked, reblocked-keeps, reblocked-operated, widened, widened-keeps, widened-operated}

abbrev Lines : Type 0
Lines = List (List (List ℕ))

module _ (r : Record) (is : IsLawful r) where
  -- ---- the lines over a text that was changed

  module _ (w : WrappedSource) (w_is : w ≡ lines_in r) (source layer : Source) (layer_is : layer ≡ source) (shown : Shift) (shift : Option Shift) where
    pub step-follow : WasTurned r source shown shift → LinesFollow w.source layer (Some shown)
    step-follow was =
        subst (λ (x : WrappedSource). LinesFollow x.source layer (Some shown)) (sym w_is)
        (subst (λ (y : Source). LinesFollow (source_of r) y (Some shown)) (sym layer_is) (follow was.0 r is source shown shift was.1))

    pub step-room : WasTurned r source shown shift → HaveRoom (lines_at layer w.tab)
    step-room was =
        subst (λ (x : WrappedSource). HaveRoom (lines_at layer x.tab)) (sym w_is)
        (subst (λ (y : Source). HaveRoom (lines_at y r.tab)) (sym layer_is) (turned-room was.0 r is source shown shift was.1))

    module _ (text : Source) (text_is : text ≡ source) (lines : WrappedSource) (run : Shift) (rows : List Edit)
        (met : AreMet w.source layer (Some shown) (Some run)) (laid : IsRewrapped w layer w.tab lines run rows) where
      pub step-relaid : (operation : Operation) → IsTurned operation r source shown shift → IsRelaid operation r text lines run rows shift
      step-relaid operation turned =
          subst (λ (x : Source). IsRelaid operation r x lines run rows shift) (sym text_is)
          (turned-relaid operation r is source shown shift turned lines run rows
          (subst (λ (y : Source). AreMet (source_of r) y (Some shown) (Some run)) layer_is
          (subst (λ (x : WrappedSource). AreMet x.source layer (Some shown) (Some run)) w_is met))
          (subst (λ (y : Source). IsRewrapped (lines_in r) y r.tab lines run rows) layer_is
          (subst (λ (x : WrappedSource). IsRewrapped x layer x.tab lines run rows) w_is laid)))

  -- ---- the blocks over lines that were changed

  module _ (small : length r.text ≤ LAID_LIMIT) (plain : unstamped r ≡ r) where
    module _ (text : Source) (lines : WrappedSource) (run : Shift) (rows : List Edit) (shift : Option Shift)
        (b : BlockState) (b_is : b ≡ kept_blocks r (row_texts r)) (layer : Source) (layer_is : layer ≡ text) (texts : Lines) (texts_are : texts ≡ wrapped.row_texts lines) where
      pub step-followed : FollowsOperations → PlacesBlocks → WasRelaid r text lines run rows shift → IsFollowed layer shift rows texts b
      step-followed follows stand was =
          subst (λ (x : BlockState). IsFollowed layer shift rows texts x) (sym b_is)
          (subst (λ (t : Lines). IsFollowed layer shift rows t (kept_blocks r (row_texts r))) (sym texts_are)
          (subst (λ (y : Source). IsFollowed y shift rows (wrapped.row_texts lines) (kept_blocks r (row_texts r))) (sym layer_is)
          (is-followed was.0 r is small plain text lines run rows shift was.1 follows stand)))

      pub step-shows : PlacesBlocks → AreAsMany → (start end : ℕ) → SyncsAtMost shift rows b start end → (operation : Operation) → IsRelaid operation r text lines run rows shift →
          ShowsAtMost (touched_blocks operation r) 1 r start end
      step-shows stand many start end syncs operation re =
          is-shown operation r is small plain text lines run rows shift re stand many start end
          (subst (λ (x : BlockState). SyncsAtMost shift rows x start end) b_is syncs)

      module _ (moves : MovesWithRecord) (blocks : BlockState) (blocks_are : blocks ≡ synced layer shift texts b) where
        blocks-moved : blocks ≡ synced text shift (wrapped.row_texts lines) (kept_blocks r (row_texts r))
        blocks-moved = blocks_are ∙ (λ i. synced (layer_is i) shift (texts_are i) (b_is i))

        pub step-keeps : (operation : Operation) → (re : IsRelaid operation r text lines run rows shift) →
            Keeps (relaid.after operation r is small plain text lines run rows shift re) text lines blocks
        step-keeps operation re = relaid-keeps operation r is small plain text lines run rows shift re moves blocks blocks-moved

        pub step-some : WasRelaid r text lines run rows shift → KeepSome text lines blocks
        step-some was = (relaid.after was.0 r is small plain text lines run rows shift was.1, step-keeps was.0 was.1)

        pub step-operated : (sheet : Record) → ((q : Record) → Keeps q text lines blocks → sheet ≡ q) → (splice : LineSplice) →
            splice.first ≡ run.start → splice.end ≡ run.end → splice.count ≡ run.count →
            (operation : Operation) → IsRelaid operation r text lines run rows shift → IsOperated operation r sheet splice
        step-operated sheet made splice first end count operation re =
            let q = relaid.after operation r is small plain text lines run rows shift re in
            subst (λ (x : Record). IsOperated operation r x splice) (sym (made q (step-keeps operation re)))
            (is-operated operation r is small plain text lines run rows shift re splice first end count)

    -- ---- the blocks over lines of which some landed

    module _ (places : List (Option ℕ)) (lines : WrappedSource) (rows : List Edit) (at : IsLandedAt (lines_in r) places lines rows)
        (b : BlockState) (b_is : b ≡ kept_blocks r (row_texts r)) (layer : Source) (layer_is : layer ≡ source_of r) (texts : Lines) (texts_are : texts ≡ wrapped.row_texts lines) where
      pub land-followed : FollowsRows → PlacesBlocks → IsFollowed layer None rows texts b
      land-followed follows stand =
          subst (λ (x : BlockState). IsFollowed layer None rows texts x) (sym b_is)
          (subst (λ (t : Lines). IsFollowed layer None rows t (kept_blocks r (row_texts r))) (sym texts_are)
          (subst (λ (y : Source). IsFollowed y None rows (wrapped.row_texts lines) (kept_blocks r (row_texts r))) (sym layer_is)
          (landed-followed r is small places lines rows at follows stand)))

      pub land-shows : PlacesBlocks → AreAsMany → (start end : ℕ) → SyncsAtMost None rows b start end →
          ShowsAtMost (blocks_at_lines (placed_lines places r) r) (length places) r start end
      land-shows stand many start end syncs =
          landed-shows r is small places lines rows at stand many start end
          (subst (λ (x : BlockState). SyncsAtMost None rows x start end) b_is syncs)

      pub land-keeps : MovesWithRecord → (text : Source) → text ≡ source_of r → (blocks : BlockState) → blocks ≡ synced layer None texts b →
          Keeps (landed.after r is small places lines rows at) text lines blocks
      land-keeps moves text text_is blocks blocks_are =
          landed-keeps r is small places lines rows at moves text text_is blocks
          (blocks_are ∙ (λ i. synced ((layer_is ∙ sym text_is) i) None (texts_are i) (b_is i)))

    -- ---- another tab size, another width, other blocks

    module _ (w : WrappedSource) (w_is : w ≡ lines_in r) where
      pub tab-room : (tab : ℕ) → IsTab tab → HaveRoom (lines_at w.source tab)
      tab-room tab allowed =
          subst (λ (x : WrappedSource). HaveRoom (lines_at x.source tab)) (sym w_is) (room-after (SetTab tab) r is allowed small)

      pub tab-relaid : (tab : ℕ) → IsTab tab → (text : Source) → text ≡ source_of r → (lines : WrappedSource) (run : Shift) (rows : List Edit) →
          AreAll w.source w.source (Some run) → IsRewrapped w w.source tab lines run rows → IsRelaid (SetTab tab) r text lines run rows None
      tab-relaid tab allowed text text_is lines run rows all laid =
          subst (λ (x : Source). IsRelaid (SetTab tab) r x lines run rows None) (sym text_is)
          (tabbed-relaid tab r is small allowed lines run rows
          (subst (λ (x : WrappedSource). AreAll x.source x.source (Some run)) w_is all)
          (subst (λ (x : WrappedSource). IsRewrapped x x.source tab lines run rows) w_is laid))

      pub width-keeps : (cells : ℕ) → (allowed : IsWidth cells) → (lines : WrappedSource) → lines ≡ record w { width = cells } →
          Keeps (widened cells r is small plain allowed) (source_of r) lines (kept_blocks r (row_texts r))
      width-keeps cells allowed lines are =
          widened-keeps cells r is small plain allowed lines (are ∙ ap (λ (x : WrappedSource). record x { width = cells }) w_is)

      pub width-operated : (cells : ℕ) → (allowed : IsWidth cells) → (lines : WrappedSource) → lines ≡ record w { width = cells } → (sheet : Record) →
          ((q : Record) → Keeps q (source_of r) lines (kept_blocks r (row_texts r)) → sheet ≡ q) → (splice : LineSplice) →
          splice.first ≡ 0 → splice.end ≡ 0 → splice.count ≡ 0 → IsOperated (SetWidth cells) r sheet splice
      width-operated cells allowed lines are sheet made splice first end count =
          subst (λ (q : Record). IsOperated (SetWidth cells) r q splice) (sym (made (widened cells r is small plain allowed) (width-keeps cells allowed lines are)))
          (widened-operated cells r is small plain allowed splice first end count)

    module _ (text : Source) (text_is : text ≡ source_of r) (lines : WrappedSource) (lines_are : lines ≡ lines_in r) (blocks : BlockState) where
      pub block-keeps : (operation : Operation) → (re : IsReblocked operation r blocks) → Keeps (reblocked operation r is small plain blocks re) text lines blocks
      block-keeps operation re =
          subst (λ (x : Source). Keeps (reblocked operation r is small plain blocks re) x lines blocks) (sym text_is)
          (subst (λ (w : WrappedSource). Keeps (reblocked operation r is small plain blocks re) (source_of r) w blocks) (sym lines_are)
          (reblocked-keeps operation r is small plain blocks re))

      pub block-some : WasReblocked r blocks → KeepSome text lines blocks
      block-some was = (reblocked was.0 r is small plain blocks was.1, block-keeps was.0 was.1)

      pub block-operated : (sheet : Record) → ((q : Record) → Keeps q text lines blocks → sheet ≡ q) → (splice : LineSplice) →
          splice.first ≡ 0 → splice.end ≡ 0 → splice.count ≡ 0 → (operation : Operation) → IsReblocked operation r blocks → IsOperated operation r sheet splice
      block-operated sheet made splice first end count operation re =
          subst (λ (q : Record). IsOperated operation r q splice) (sym (made (reblocked operation r is small plain blocks re) (block-keeps operation re)))
          (reblocked-operated operation r is small plain blocks re splice first end count)
