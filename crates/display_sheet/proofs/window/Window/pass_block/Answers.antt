use Rattle.std.proofs.Common.{◌≡◌, ◌+◌, ◌++◌, ◌∷◌, [], ℕ, List, map, take, get_or, ap, sym, subst, ◌∙◌, arith}
use Rattle.std.proofs.lemmas.List.{map-append, take_all, take_more}
use Rattle.plain_rows.specs.Plain.{block_of}
use Rattle.plain_rows.proofs.BuiltRows.{pairs-block}
use Rattle.display_sheet.specs.Windows.{HasPassed}
use Rattle.display_sheet.proofs.Windows.{Pairs, passed-append, passed-nil}
use Rattle.display_sheet.proofs.window.Window.pass_block.Goals as goal

pub loop-line-init : goal.loop-line-init
loop-line-init c = passed-nil c.args.self.now

pub loop-line-preserved : goal.loop-line-preserved
loop-line-preserved c =
    let lines = c.args.block.now.lines.items in
    let k : ℕ = c.loop-line.line-index in
    let f : List ℕ → ℕ × List ℕ = λ line. (98, line) in
    let d = c.line-item.result in
    let item = c.as_str.ensures ∙ c.line-item.is ∙ ap (λ (l : List (List ℕ)). get_or l k d) c.deref-line-items.ensures.value in
    let more : map f (take (k + 1) lines) ≡ map f (take k lines) ++ f c.as_str.result.now ∷ [] =
    ap (map f) (take_more lines k d (omega (arith, c.loop-line-test.true)))
    ∙ map-append f (take k lines) (get_or lines k d ∷ [])
    ∙ ap (λ (l : List ℕ). map f (take k lines) ++ f l ∷ []) (sym item) in
    subst (λ (rows : Pairs). HasPassed rows c.args.self.now c.pass_block_row.new.self) (sym more)
    (passed-append (map f (take k lines)) (f c.as_str.result.now ∷ []) c.args.self.now c.loop-line.self c.pass_block_row.new.self c.loop-line.invariant c.in_ok-pass_block_row.ensures)

pub returns : goal.returns
returns c =
    let lines = c.args.block.now.lines.items in
    let all = ap (map (λ (line : List ℕ). (98, line))) (take_all c.loop-line.line-index lines (omega arith)) ∙ sym (pairs-block (block_of c.args.block.now)) in
    subst (λ (rows : Pairs). HasPassed rows c.args.self.now c.loop-line.self) all c.loop-line.invariant
