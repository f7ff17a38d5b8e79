-- Plain lists of a lawful record.
use Rattle.std.proofs.Common.{◌≡◌, ℕ, ◌≤◌, nat_le, List, length, map, get_or, ap, arith}
use Rattle.std.specs.List.{All}
use Rattle.std.proofs.Math.ListN.{get_or-map}
use Rattle.std.proofs.lemmas.List.{length-map}
use Rattle.cell_units.specs.Record.{Block, block_le}
use Rattle.cell_units.specs.Lawful.{IsBlockOf, IsLawful}
use Rattle.cell_units.proofs.Entries.{entries-pairs}
use Rattle.cell_units.proofs.EntryOrders.{block_total, block_trans}
use Rattle.plain_rows.specs.declared.plain.Plain.{Plain}
use Rattle.plain_rows.specs.declared.plain.PlainBlock.{PlainBlock}
use Rattle.plain_rows.specs.FoldedLines.{AreInOrder}
use Rattle.plain_rows.specs.Plain.{block_of, record_of}
use Rattle.plain_rows.proofs.LawfulSources.{order-le}

block-read : (blocks : List PlainBlock) (k : ℕ) (d : PlainBlock) → get_or (map block_of blocks) k (block_of d) ≡ block_of (get_or blocks k d)
block-read blocks k d = get_or-map block_of blocks k d

pub plain-blocks_rise : (p : Plain) → IsLawful (record_of p) → AreInOrder (λ (b : PlainBlock). b.offset) p.blocks.items
plain-blocks_rise p lawful i j d lt within =
    let blocks = p.blocks.items in
    let pair = entries-pairs block_le block_total block_trans (λ (b : Block). b.id) (IsBlockOf p.text) (map block_of blocks) lawful.entries.blocks i j (block_of d) lt (omega (arith, within, length-map blocks block_of)) in
    let x = get_or (map block_of blocks) i (block_of d) in
    let y = get_or (map block_of blocks) j (block_of d) in
    let le = order-le x.offset y.offset (nat_le x.id y.id) pair.0 in
    omega (arith, le, ap (λ (b : Block). b.offset) (block-read blocks i d), ap (λ (b : Block). b.offset) (block-read blocks j d))

pub plain-blocks_within : (p : Plain) → IsLawful (record_of p) → All (λ (b : PlainBlock). b.offset ≤ length p.text) p.blocks.items
plain-blocks_within p lawful k d lt =
    let blocks = p.blocks.items in
    let h = (lawful.entries.blocks.each k (block_of d) (omega (arith, lt, length-map blocks block_of))).boundary.0 in
    omega (arith, h, ap (λ (b : Block). b.offset) (block-read blocks k d))
