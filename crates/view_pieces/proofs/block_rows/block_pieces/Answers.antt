-- The block that was found is there, and its line is the row's piece.
use Rattle.std.proofs.Common.{◌≡◌, ◌<◌, ◌≤◌, ℕ, List, [], ◌∷◌, ◌++◌, length, get_or, sym, ap, subst, ◌∙◌, arith, rules}
use Rattle.std.specs.Prelude.{Some}
use Rattle.std.proofs.lemmas.Option.{same_Some, slice_get-get_or, slice_get_within}
use Rattle.cell_units.specs.declared.limits.TheConstants.{BLOCK_LINE_LIMIT}
use Rattle.cell_units.specs.Record.{Block}
use Rattle.cell_units.specs.Worked.{block}
use Rattle.wrapped_lines.specs.WrappedSource.{WrappedSource}
use Rattle.map_sheet.specs.Listed.{side_blocks}
use Rattle.map_sheet.proofs.ListedBlocks.{block-there, here}
use Rattle.map_sheet.proofs.Sent.{sheet_sent}
use Rattle.row_pieces.specs.declared.row_piece.RowPiece.{RowPiece}
use Rattle.row_pieces.specs.Pieces.{block_piece}
use Rattle.view_pieces.proofs.SideBlocks.{block-lawful}
use Rattle.view_pieces.proofs.block_rows.block_pieces.Goals as goal

-- an element of a list, whatever is taken past its end
any-default : {X : Type 0} (xs : List X) (k : ℕ) (d e : X) → k < length xs → get_or xs k d ≡ get_or xs k e
any-default xs k d e lt = same_Some (get_or xs k d) (get_or xs k e) (sym (slice_get-get_or xs k d lt) ∙ slice_get-get_or xs k e lt)

pub unreachable-requires : goal.unreachable-requires
unreachable-requires c =
    let r = c.args.sheet.now in
    let f = c.in-Some.ensures.found in
    block-there r c.blocked.result.now c.blocked.ensures c.args.side c.in-Some.number (slice_get_within (side_blocks r c.args.side) c.in-Some.number f.block f.there) c.in_default-block.ensures.block

pub bounds-lines-at : goal.bounds-lines-at
bounds-lines-at c =
    let r = c.args.sheet.now in
    let f = c.in-Some.ensures.found in
    let lines = c.in-Some-block.lines.now in
    let b = block c.in-Some-block.offset c.in-Some-block.id c.args.side lines in
    let there = here r c.blocked.result.now c.blocked.ensures c.args.side c.in-Some.number c.in-Some-block.offset c.in-Some-block.id lines c.in-Some-block.ensures.block in
    let same : f.block ≡ b = same_Some f.block b (sym f.there ∙ there) in
    omega (arith, f.within, ap (λ (b : Block). length b.lines) same)

pub offset_bounds-lines-at : goal.offset_bounds-lines-at
offset_bounds-lines-at c =
    let r = c.args.sheet.now in
    let f = c.in-Some.ensures.found in
    let lines = c.in-Some-block.lines.now in
    let b = block c.in-Some-block.offset c.in-Some-block.id c.args.side lines in
    let there = here r c.blocked.result.now c.blocked.ensures c.args.side c.in-Some.number c.in-Some-block.offset c.in-Some-block.id lines c.in-Some-block.ensures.block in
    let same : f.block ≡ b = same_Some f.block b (sym f.there ∙ there) in
    let lt : c.in-Some.at < length c.in-Some-block.lines.now = omega (arith, f.within, ap (λ (b : Block). length b.lines) same) in
    search rules

pub block_line_piece-requires-clause-short : goal.block_line_piece-requires-clause-short
block_line_piece-requires-clause-short c =
    let r = c.args.sheet.now in
    let f = c.in-Some.ensures.found in
    let lines = c.in-Some-block.lines.now in
    let b = block c.in-Some-block.offset c.in-Some-block.id c.args.side lines in
    let there = here r c.blocked.result.now c.blocked.ensures c.args.side c.in-Some.number c.in-Some-block.offset c.in-Some-block.id lines c.in-Some-block.ensures.block in
    let same : f.block ≡ b = same_Some f.block b (sym f.there ∙ there) in
    let lt : c.in-Some.at < length lines = omega (arith, f.within, ap (λ (b : Block). length b.lines) same) in
    let lawful = block-lawful r c.lawful.ensures.lawful c.args.side c.in-Some.number b there in
    let line = lawful.0.lines.each c.in-Some.at c.index-lines-at.result lt in
    let is : c.as_str.result.now ≡ get_or lines c.in-Some.at c.index-lines-at.result = c.as_str.ensures ∙ c.index-lines-at.is in
    subst (λ (l : List ℕ). length l ≤ BLOCK_LINE_LIMIT) (sym is) line.short

pub returns-clause-pieces : goal.returns-clause-pieces
returns-clause-pieces c =
    let r = c.args.sheet.now in
    let f = c.in-Some.ensures.found in
    let k = c.in-Some.at in
    let lines = c.in-Some-block.lines.now in
    let b = block c.in-Some-block.offset c.in-Some-block.id c.args.side lines in
    let there = here r c.blocked.result.now c.blocked.ensures c.args.side c.in-Some.number c.in-Some-block.offset c.in-Some-block.id lines c.in-Some-block.ensures.block in
    let same : f.block ≡ b = same_Some f.block b (sym f.there ∙ there) in
    let lt : k < length lines = omega (arith, f.within, ap (λ (b : Block). length b.lines) same) in
    let line : c.as_str.result.now ≡ get_or f.block.lines k [] =
    c.as_str.ensures ∙ c.index-lines-at.is ∙ any-default lines k c.index-lines-at.result [] lt ∙ ap (λ (x : Block). get_or x.lines k []) (sym same) in
    let tab : c.tab-tab.result ≡ r.tab = c.tab-tab.ensures ∙ ap (λ (w : WrappedSource). w.tab) c.wrapped.ensures in
    let made : c.in_ok-piece.piece ≡ block_piece c.tab-tab.result f.block c.as_str.result.now =
    c.in_ok-piece.ensures f.block (ap (λ (x : Block). x.id) same) (ap (λ (x : Block). x.offset) same) in
    let piece : c.in_ok-piece.piece ≡ block_piece r.tab f.block (get_or f.block.lines k []) = made ∙ (λ i. block_piece (tab i) f.block (line i)) in
    let row : c.push.new.self.items ≡ c.in_ok-piece.piece ∷ [] =
    c.in_ok-push.ensures.items ∙ ap (λ (l : List RowPiece). l ++ c.in_ok-piece.piece ∷ []) c.new-row.ensures.items in
    ap Some (row ∙ ap (λ (p : RowPiece). p ∷ []) piece) ∙ sym f.pieces_are

pub block-requires-send-R : goal.block-requires-send-R
block-requires-send-R c κs = search sheet_sent depth 12 fits 4000

pub block-requires-sync-R : goal.block-requires-sync-R
block-requires-sync-R c κs = search sheet_sent depth 12 fits 4000

pub tab-tab-requires-send-L : goal.tab-tab-requires-send-L
tab-tab-requires-send-L c κs = search sheet_sent depth 12 fits 4000

pub tab-tab-requires-sync-L : goal.tab-tab-requires-sync-L
tab-tab-requires-sync-L c κs = search sheet_sent depth 12 fits 4000
