use Rattle.std.proofs.Common.{◌≡◌, ◌++◌, ℕ, sym, ap, ◌∙◌, inl, inr, arith, append-nil, append_assoc}
use Rattle.std.proofs.lemmas.Bool.{cases_lt}
use Rattle.std.proofs.lemmas.List.{length-map}
use Rattle.cell_units.specs.Record.{Block}
use Rattle.plain_rows.specs.Plain.{block_of, record_of}
use Rattle.plain_rows.specs.Rows.{line_of_block}
use Rattle.plain_rows.specs.inside.BuiltRows.{block_at}
use Rattle.plain_rows.proofs.BuiltRows.{past-here, upto-true}
use Rattle.plain_rows.proofs.SpotBlocks.{plain-block}
use Rattle.row_pieces.specs.Listed.{lists_of}
use Rattle.row_pieces.proofs.BuiltPieces.{Rows, pieces_on, walked, walked-all, walked-next, walked-none}
use Rattle.row_pieces.proofs.rows.Blocks.push_at.Goals as goal

pub walk-init : goal.walk-init
walk-init c =
    let r = record_of c.args.self.now.plain.now in
    let b = c.requires.before in
    record {
      rows = sym (append-nil (lists_of c.args.rows.now.items)) ∙ ap (λ (l : Rows). lists_of c.args.rows.now.items ++ l) (sym (walked-none r c.args.side c.args.from c.args.line b));
      before = λ k lt own. omega (arith, b.before k lt own);
      behind = b.behind;
      within = b.within;
    }

pub walk-preserved : goal.walk-preserved
walk-preserved c =
    let plain = c.args.self.now.plain.now in
    let r = record_of plain in
    let side = c.args.side in
    let line : ℕ = c.args.line in
    let n : ℕ = c.walk.next in
    let i = c.walk.invariant in
    let old = lists_of c.args.rows.now.items in
    let on = upto-true r side n line (sym c.walk-test.ensures) in
    let b = c.index-block.result.now in
    let same = plain-block plain n b (omega (arith, on.0, length-map plain.blocks.items block_of)) c.index-block.ensures in
    let here : (block_at r n).side ≡ side → line_of_block r (block_at r n) ≡ line = λ own. omega (arith, on.1 own, i.behind n (omega arith) on.0 own) in
    record {
      rows =
          c.in_ok-push_block_on.ensures
          ∙ ap (λ (l : Rows). l ++ pieces_on side r.tab (block_of b)) i.rows
          ∙ append_assoc old (walked r side line n) (pieces_on side r.tab (block_of b))
          ∙ ap (λ (l : Rows). old ++ l) (ap (λ (k : Block). walked r side line n ++ pieces_on side r.tab k) (sym same) ∙ sym (walked-next r side n line on.0 here));
      before = λ k lt own. elim (cases_lt k n) [
        | inl less ↦ i.before k less own
        | inr ge ↦ let same : k ≡ n = omega (arith, lt, ge) in omega (arith, ap (λ (j : ℕ). line_of_block r (block_at r j)) same, on.1 (sym (ap (λ (j : ℕ). (block_at r j).side) same) ∙ own))
      ];
      behind = λ k le within own. i.behind k (omega (arith, le)) within own;
      within = omega (arith, on.0);
    }

pub returns-clause-rows : goal.returns-clause-rows
returns-clause-rows c =
    let r = record_of c.args.self.now.plain.now in
    let i = c.walk.invariant in
    i.rows ∙ ap (λ (l : Rows). lists_of c.args.rows.now.items ++ l)
    (walked-all r c.args.side c.walk.next c.args.line i.within (past-here r c.requires.lawful c.args.side c.walk.next c.args.line (sym c.walk-test.ensures)))

pub returns-clause-before : goal.returns-clause-before
returns-clause-before c =
    let r = record_of c.args.self.now.plain.now in
    let i = c.walk.invariant in
    record {
      before = λ k lt own. omega (arith, i.before k lt own);
      behind = λ k le within own. omega (arith, past-here r c.requires.lawful c.args.side c.walk.next c.args.line (sym c.walk-test.ensures) k le within own);
      within = i.within;
    }
