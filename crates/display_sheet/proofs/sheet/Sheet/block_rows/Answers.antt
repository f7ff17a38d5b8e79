use Rattle.std.proofs.Common.{◌≡◌, ℕ, ◌+◌, ◌<◌, ◌≤◌, List, length, get_or, ap, sym, ◌∙◌, subst, arith}
use Rattle.std.proofs.lemmas.List.{get_or_read}
use Rattle.cell_units.specs.Record.{Block}
use Rattle.plain_rows.specs.Rows.{is_on}
use Rattle.plain_rows.specs.inside.BuiltRows.{block_at}
use Rattle.plain_rows.proofs.SpotBlocks.{HasStood, block-line, row-added, row-kept, stood-all, stood-few}
use Rattle.display_sheet.proofs.SpotCounts.{own-block, own-few, same-long, stand-read}
use Rattle.display_sheet.proofs.sheet.Sheet.block_rows.Goals.{then-stands_on, else-stands_on}
use Rattle.display_sheet.proofs.sheet.Sheet.block_rows.Goals as goal

pub overflow_cast-len : goal.overflow_cast-len
overflow_cast-len c =
    let few = own-few c.args.self.now c.blocks-blocks.result.now c.blocks-blocks.ensures c.lawful.ensures c.loop-number.number c.index-blocks-number.result in
    omega (arith, c.len.ensures, few c.loop-number-test.true c.index-blocks-number.is)

pub index_mut-requires : goal.index_mut-requires
index_mut-requires c =
    let r = c.args.self.now in
    let n : ℕ = c.loop-number.number in
    let lt : n < length r.blocks = omega (arith, c.loop-number-test.true, same-long r c.blocks-blocks.result.now c.blocks-blocks.ensures) in
    omega (arith, stand-read r c.args.stands.now n c.requires lt, block-line r c.lawful.ensures n lt, c.loop-number.invariant.0)

pub overflow_add-index_mut : goal.overflow_add-index_mut
overflow_add-index_mut c =
    let r = c.args.self.now in
    let n : ℕ = c.loop-number.number in
    let lt : n < length r.blocks = omega (arith, c.loop-number-test.true, same-long r c.blocks-blocks.result.now c.blocks-blocks.ensures) in
    let line = get_or c.args.stands.now n 0 in
    let at : line < length r.marks = omega (arith, stand-read r c.args.stands.now n c.requires lt, block-line r c.lawful.ensures n lt) in
    let few = own-few r c.blocks-blocks.result.now c.blocks-blocks.ensures c.lawful.ensures n c.index-blocks-number.result c.loop-number-test.true c.index-blocks-number.is in
    omega (
      arith,
      get_or_read c.loop-number.rows.items line _ (omega (arith, at, c.loop-number.invariant.0)) c.index_mut.ensures.value 0,
      c.loop-number.invariant.1 line at,
      stood-few r c.lawful.ensures c.args.side line n,
      c.len.ensures,
      few,
    )

pub loop-number-preserved : goal.loop-number-preserved
loop-number-preserved c =
    let r = c.args.self.now in
    let n : ℕ = c.loop-number.number in
    let side = c.args.side in
    let rows = c.loop-number.rows.items in
    let stands = c.args.stands.now in
    let line = get_or stands n 0 in
    let lt : n < length r.blocks = omega (arith, c.loop-number-test.true, same-long r c.blocks-blocks.result.now c.blocks-blocks.ensures) in
    let own = own-block r c.blocks-blocks.result.now c.blocks-blocks.ensures n c.index-blocks-number.result c.loop-number-test.true c.index-blocks-number.is in
    let found = stand-read r stands n c.requires lt in
    let at : line < length rows = omega (arith, found, block-line r c.lawful.ensures n lt, c.loop-number.invariant.0) in
    let is = ap (λ (b : Block). is_on side b.side) own ∙ sym c.stands_on.ensures in
    elim c.if-stands_on.branch [
      | then-stands_on w ↦
          let value : w.index_mut.result.now + w.len.result ≡ get_or rows line 0 + length (block_at r n).lines = omega (arith, get_or_read rows line _ at w.index_mut.ensures.value 0, w.len.ensures, ap (λ (b : Block). length b.lines) own) in
          subst (λ (l : List ℕ). HasStood r side (n + 1) l) (sym (ap (λ v. v.items) w.rows-is))
          (row-added r side n rows line (w.index_mut.result.now + w.len.result) c.lawful.ensures lt c.loop-number.invariant (is ∙ w.if-stands_on.true) found value)
      | else-stands_on w ↦
          subst (λ (l : List ℕ). HasStood r side (n + 1) l) (sym (ap (λ v. v.items) w.rows-is))
          (row-kept r side n rows lt c.loop-number.invariant (is ∙ w.if-stands_on.false))
    ]

pub returns : goal.returns
returns c =
    let r = c.args.self.now in
    let all : length r.blocks ≤ c.loop-number.number = omega (arith, c.loop-number-test.false, same-long r c.blocks-blocks.result.now c.blocks-blocks.ensures) in
    record {
      each = λ line lt. c.loop-number.invariant.1 line lt ∙ stood-all r c.args.side line c.loop-number.number all;
      count = c.loop-number.invariant.0;
    }
