use Rattle.std.proofs.Common.{◌≡◌, ◌<◌, ◌≤◌, ℕ, length, map, take, get_or}
use Rattle.cell_units.specs.Lawful.{source_of}
use Rattle.cell_units.specs.Record.{Record}
use Rattle.plain_rows.specs.declared.plain.PlainBlock.{PlainBlock}
use Rattle.plain_rows.specs.FoldedLines.{AreLinesOf}
use Rattle.plain_rows.specs.Plain.{block_of}
use Rattle.plain_rows.specs.Rows.{line_of_block}
use Rattle.plain_rows.specs.inside.BlockRows.{IsRow}
use Rattle.plain_rows.proofs.folded_lines.FoldedLines.block_lines.Given as goal

abbrev pub invariant-loop-block : goal.invariant-loop-block
invariant-loop-block l = record {
  row : IsRow l.bytes l.row.start l.row.end;
  behind : (k : ℕ) (d : PlainBlock) → l.block-index ≤ k → k < length l.blocks → l.row.start ≤ (get_or l.blocks k d).offset;
  lines : (r : Record) → AreLinesOf (source_of r) l.self → r.text ≡ l.text → l.lines.items ≡ map (λ b. line_of_block r (block_of b)) (take l.block-index l.blocks);
}
