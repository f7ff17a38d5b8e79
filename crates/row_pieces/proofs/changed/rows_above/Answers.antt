use Rattle.std.proofs.Common.{◌≡◌, ◌+◌, ◌<◌, ◌&&◌, ℕ, cond, eqb, length, sym, ◌∙◌, arith}
use Rattle.std.proofs.lemmas.List.{length-map}
use Rattle.cell_units.specs.declared.place.Side.TheVariants.{Above}
use Rattle.plain_rows.specs.Plain.{block_of, record_of}
use Rattle.plain_rows.specs.Rows.{is_on}
use Rattle.plain_rows.specs.inside.BuiltRows.{block_at}
use Rattle.plain_rows.proofs.SpotBlocks.{height_at, line-read, plain-block, plain-few, stood-all, stood-few, stood-more}
use Rattle.row_pieces.proofs.changed.rows_above.Goals as goal

pub rows_if_above-rows-requires : goal.rows_if_above-rows-requires
rows_if_above-rows-requires c =
    plain-few c.args.plain.now c.requires.lawful c.loop-number.number c.index.result.now (omega (arith, c.loop-number-test.true, c.len-number-end.ensures)) c.index.ensures

pub overflow_add-rows : goal.overflow_add-rows
overflow_add-rows c =
    let p = c.args.plain.now in
    let r = record_of p in
    let n : ℕ = c.loop-number.number in
    let line : ℕ = c.args.line in
    let lt : n < length p.blocks.items = omega (arith, c.loop-number-test.true, c.len-number-end.ensures) in
    let own = plain-block p n c.index.result.now lt c.index.ensures in
    let at = line-read p c.args.lines.now n c.requires.lines lt in
    let height : c.rows_if_above-rows.result ≡ height_at r Above line (block_at r n) =
    c.rows_if_above-rows.ensures ∙ (λ i. cond (is_on Above (sym own i).side && eqb (at i) line) (length (sym own i).lines) 0) in
    omega (arith, c.loop-number.invariant, height, stood-more r Above line n (omega (arith, lt, length-map p.blocks.items block_of)), stood-few r c.requires.lawful Above line (n + 1))

pub loop-number-preserved : goal.loop-number-preserved
loop-number-preserved c =
    let p = c.args.plain.now in
    let r = record_of p in
    let n : ℕ = c.loop-number.number in
    let line : ℕ = c.args.line in
    let lt : n < length p.blocks.items = omega (arith, c.loop-number-test.true, c.len-number-end.ensures) in
    let own = plain-block p n c.index.result.now lt c.index.ensures in
    let at = line-read p c.args.lines.now n c.requires.lines lt in
    let height : c.rows_if_above-rows.result ≡ height_at r Above line (block_at r n) =
    c.rows_if_above-rows.ensures ∙ (λ i. cond (is_on Above (sym own i).side && eqb (at i) line) (length (sym own i).lines) 0) in
    (λ i. c.loop-number.invariant i + height i) ∙ sym (stood-more r Above line n (omega (arith, lt, length-map p.blocks.items block_of)))

pub returns : goal.returns
returns c =
    c.loop-number.invariant
    ∙ stood-all (record_of c.args.plain.now) Above c.args.line c.loop-number.number (omega (arith, c.loop-number-test.false, c.len-number-end.ensures, length-map c.args.plain.now.blocks.items block_of))
