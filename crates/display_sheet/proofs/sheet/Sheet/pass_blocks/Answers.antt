use Rattle.std.proofs.Common.{◌≡◌, ◌++◌, ◌+◌, ℕ, List, [], cond, length, get_or, ap, sym, subst, ◌∙◌, inl, inr, arith}
use Rattle.std.proofs.lemmas.Bool.{cases_lt}
use Rattle.std.proofs.lemmas.List.{get_or-map, length-map}
use Rattle.cell_units.specs.Record.{Block}
use Rattle.plain_rows.specs.Plain.{block_of, row_pairs}
use Rattle.plain_rows.specs.Rows.{block_rows, is_on, line_of_block}
use Rattle.plain_rows.specs.inside.BuiltRows.{block_at, no_block}
use Rattle.plain_rows.proofs.BuiltRows.{past-here, upto-true, walked, walked-all, walked-next, walked-none}
use Rattle.display_sheet.specs.Windows.{HasPassed}
use Rattle.display_sheet.proofs.Windows.{Pairs, passed-append, passed-nil}
use Rattle.display_sheet.proofs.sheet.Sheet.pass_blocks.Goals as goal

pub walk-init : goal.walk-init
walk-init c =
    let r = c.args.self.now in
    let b = c.requires.before in
    record {
      rows = subst (λ (ps : Pairs). HasPassed ps c.args.window.now c.args.window.now) (sym (walked-none r c.args.side c.args.from c.args.line b)) (passed-nil c.args.window.now);
      before = λ k lt own. omega (arith, b.before k lt own);
      behind = b.behind;
      within = b.within;
    }

pub bounds-blocks-next : goal.bounds-blocks-next
bounds-blocks-next c =
    let on = upto-true c.args.self.now c.args.side c.walk.next c.args.line (sym c.walk-test.ensures) in
    omega (arith, on.0, ap length c.blocks-blocks.ensures, length-map c.blocks-blocks.result.now block_of)

pub walk-preserved : goal.walk-preserved
walk-preserved c =
    let r = c.args.self.now in
    let side = c.args.side in
    let line : ℕ = c.args.line in
    let n : ℕ = c.walk.next in
    let i = c.walk.invariant in
    let on = upto-true r side n line (sym c.walk-test.ensures) in
    let items = c.blocks-blocks.result.now in
    let b = c.index-blocks-next.result in
    let same : block_at r n ≡ block_of b =
    ap (λ (l : List Block). get_or l n no_block) (sym c.blocks-blocks.ensures)
    ∙ get_or-map block_of items n b no_block (omega (arith, on.0, ap length c.blocks-blocks.ensures, length-map items block_of))
    ∙ ap block_of (sym c.index-blocks-next.is) in
    let added : Block → Pairs = λ block. cond (is_on side block.side) (row_pairs (block_rows block)) [] in
    let here : (block_at r n).side ≡ side → line_of_block r (block_at r n) ≡ line = λ own. omega (arith, on.1 own, i.behind n (omega arith) on.0 own) in
    let more : walked r side line n ++ added (block_of b) ≡ walked r side line (n + 1) =
    ap (λ (k : Block). walked r side line n ++ added k) (sym same) ∙ sym (walked-next r side n line on.0 here) in
    record {
      rows =
          subst (λ (ps : Pairs). HasPassed ps c.args.window.now c.pass_block_on.new.self) more
          (passed-append (walked r side line n) (added (block_of b)) c.args.window.now c.walk.window c.pass_block_on.new.self i.rows c.in_ok-pass_block_on.ensures);
      before = λ k lt own. elim (cases_lt k n) [
        | inl less ↦ i.before k less own
        | inr ge ↦ let same : k ≡ n = omega (arith, lt, ge) in omega (arith, ap (λ (j : ℕ). line_of_block r (block_at r j)) same, on.1 (sym (ap (λ (j : ℕ). (block_at r j).side) same) ∙ own))
      ];
      behind = λ k le within own. i.behind k (omega (arith, le)) within own;
      within = omega (arith, on.0);
    }

pub returns-clause-rows : goal.returns-clause-rows
returns-clause-rows c =
    let r = c.args.self.now in
    let i = c.walk.invariant in
    subst (λ (ps : Pairs). HasPassed ps c.args.window.now c.walk.window)
    (walked-all r c.args.side c.walk.next c.args.line i.within (past-here r c.requires.lawful c.args.side c.walk.next c.args.line (sym c.walk-test.ensures))) i.rows

pub returns-clause-before : goal.returns-clause-before
returns-clause-before c =
    let r = c.args.self.now in
    let i = c.walk.invariant in
    record {
      before = λ k lt own. omega (arith, i.before k lt own);
      behind = λ k le within own. omega (arith, past-here r c.requires.lawful c.args.side c.walk.next c.args.line (sym c.walk-test.ensures) k le within own);
      within = i.within;
    }
