use Rattle.std.proofs.Common.{ℕ, ◌+◌, ◌<◌, length, get_or, arith, ap, sym, ◌∙◌, subst, List}
use Rattle.std.proofs.lemmas.List.{get_or-replicate, get_or_read, length-map}
use Rattle.cell_units.specs.Record.{Block}
use Rattle.plain_rows.specs.Plain.{block_of, record_of}
use Rattle.plain_rows.specs.Rows.{is_on}
use Rattle.plain_rows.proofs.RowsOfLines.{length-marks}
use Rattle.plain_rows.proofs.SpotBlocks.{HasStood, block-line, line-read, plain-block, plain-few, row-added, row-kept, stood-all, stood-few}
use Rattle.plain_rows.proofs.spots.row_counts.block_rows.Goals as goal
use Rattle.plain_rows.proofs.spots.row_counts.block_rows.Goals.{then-stands_on, else-stands_on}

pub loop-number-init : goal.loop-number-init
loop-number-init c =
    let size = length-marks c.args.plain.now.marks.items in
    (omega (arith, size, c.in_ok-rows.ensures.len, c.len.ensures), λ line lt. ap (λ (l : List ℕ). get_or l line 0) (c.in_ok-rows.ensures.items_if_clones_equal (λ y h. h)) ∙ get_or-replicate c.len.result line 0 0 (omega (arith, lt, size, c.len.ensures)))

pub overflow_cast-len : goal.overflow_cast-len
overflow_cast-len c =
    let lt : c.loop-number.number < length c.args.plain.now.blocks.items = omega (arith, c.loop-number-test.true, c.len-number-end.ensures) in
    omega (arith, c.len-then-stands_on.ensures, plain-few c.args.plain.now c.requires.lawful c.loop-number.number c.index-block.result.now lt c.index-block.ensures)

pub index_mut-requires : goal.index_mut-requires
index_mut-requires c =
    let r = record_of c.args.plain.now in
    let lt : c.loop-number.number < length c.args.plain.now.blocks.items = omega (arith, c.loop-number-test.true, c.len-number-end.ensures) in
    omega (
      arith,
      line-read c.args.plain.now c.args.lines.now c.loop-number.number c.requires.lines lt,
      block-line r c.requires.lawful c.loop-number.number (omega (arith, lt, length-map c.args.plain.now.blocks.items block_of)),
      c.loop-number.invariant.0,
    )

pub overflow_add-index_mut : goal.overflow_add-index_mut
overflow_add-index_mut c =
    let r = record_of c.args.plain.now in
    let lt : c.loop-number.number < length c.args.plain.now.blocks.items = omega (arith, c.loop-number-test.true, c.len-number-end.ensures) in
    let line = get_or c.args.lines.now c.loop-number.number 0 in
    let at : line < length r.marks = omega (
      arith,
      line-read c.args.plain.now c.args.lines.now c.loop-number.number c.requires.lines lt,
      block-line r c.requires.lawful c.loop-number.number (omega (arith, lt, length-map c.args.plain.now.blocks.items block_of)),
    ) in
    omega (
      arith,
      get_or_read c.loop-number.rows.items line _ (omega (arith, at, c.loop-number.invariant.0)) c.index_mut.ensures.value 0,
      c.loop-number.invariant.1 line at,
      stood-few r c.requires.lawful c.args.side line c.loop-number.number,
      c.len-then-stands_on.ensures,
      plain-few c.args.plain.now c.requires.lawful c.loop-number.number c.index-block.result.now lt c.index-block.ensures,
    )

pub loop-number-preserved : goal.loop-number-preserved
loop-number-preserved c =
    let p = c.args.plain.now in
    let r = record_of p in
    let n = c.loop-number.number in
    let lt : n < length p.blocks.items = omega (arith, c.loop-number-test.true, c.len-number-end.ensures) in
    let lt' : n < length r.blocks = omega (arith, lt, length-map p.blocks.items block_of) in
    let own = plain-block p n c.index-block.result.now lt c.index-block.ensures in
    elim c.if-stands_on.branch [
      | then-stands_on w ↦
          let on = ap (λ (b : Block). is_on c.args.side b.side) own ∙ sym c.stands_on.ensures ∙ w.if-stands_on.true in
          subst (λ (rows : List ℕ). HasStood r c.args.side (n + 1) rows) (sym (ap (λ v. v.items) w.rows-is))
          (row-added r c.args.side n c.loop-number.rows.items (get_or c.args.lines.now n 0) (w.index_mut.result.now + w.len-then-stands_on.result) c.requires.lawful lt' c.loop-number.invariant on
          (line-read p c.args.lines.now n c.requires.lines lt)
          (let at : get_or c.args.lines.now n 0 < length c.loop-number.rows.items = omega (arith, line-read p c.args.lines.now n c.requires.lines lt, block-line r c.requires.lawful n lt', c.loop-number.invariant.0) in
          omega (arith, get_or_read c.loop-number.rows.items (get_or c.args.lines.now n 0) _ at w.index_mut.ensures.value 0, w.len-then-stands_on.ensures, ap (λ (b : Block). length b.lines) own)))
      | else-stands_on w ↦
          let off = ap (λ (b : Block). is_on c.args.side b.side) own ∙ sym c.stands_on.ensures ∙ w.if-stands_on.false in
          subst (λ (rows : List ℕ). HasStood r c.args.side (n + 1) rows) (sym (ap (λ v. v.items) w.rows-is)) (row-kept r c.args.side n c.loop-number.rows.items lt' c.loop-number.invariant off)
    ]

pub returns : goal.returns
returns c = record {
  each = λ line lt. c.loop-number.invariant.1 line lt ∙ stood-all (record_of c.args.plain.now) c.args.side line c.loop-number.number (omega (arith, c.loop-number-test.false, c.len-number-end.ensures, length-map c.args.plain.now.blocks.items block_of));
  count = c.loop-number.invariant.0;
}
