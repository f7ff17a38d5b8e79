use Rattle.std.proofs.Common.{◌≡◌, ℕ, ◌+◌, ◌<◌, Bool, true, false, cond, List, [], ◌∷◌, ◌++◌, length, take, get_or, ap, sym, ◌∙◌, arith, append-nil}
use Rattle.std.proofs.lemmas.Bool.Decides.{nat_tests}
use Rattle.cell_units.specs.Text.{is_feed}
use Rattle.cell_units.specs.BufferLines.{line_starts}
use Rattle.cell_units.proofs.BufferLines.{line_starts_more}
use Rattle.display_sheet.proofs.buffer.line_starts.Goals as goal
use Rattle.display_sheet.proofs.buffer.line_starts.Goals.{then-byte-eq10+in_ok-push-2, else-byte-eq10}

-- one more byte, which is a feed or isn't
one_more : (text : List ℕ) (i : ℕ) (b : Bool) (starts : List ℕ) → i < length text → is_feed (get_or text i 0) ≡ b →
    starts ≡ line_starts (take i text) → starts ++ cond b ((i + 1) ∷ []) [] ≡ line_starts (take (i + 1) text)
one_more text i b starts lt e is =
    (λ k. is k ++ cond (sym e k) ((i + 1) ∷ []) []) ∙ sym (line_starts_more text i lt)

pub loop-i-preserved : goal.loop-i-preserved
loop-i-preserved c =
    let text = c.args.text.now in
    elim c.if-byte-eq10.branch [
      | then-byte-eq10+in_ok-push-2 w ↦
          let feed : is_feed (get_or text c.loop-i.i 0) ≡ true = grind (arith, nat_tests) in
          let e = one_more text c.loop-i.i true c.loop-i.starts.items (omega arith) feed c.loop-i.invariant in
          ap (λ v. v.items) w.starts-is ∙ w.in_ok-push-2.ensures.items ∙ e
      | else-byte-eq10 w ↦
          let feed : is_feed (get_or text c.loop-i.i 0) ≡ false = grind (arith, nat_tests) in
          let e = one_more text c.loop-i.i false c.loop-i.starts.items (omega arith) feed c.loop-i.invariant in
          ap (λ v. v.items) w.starts-is ∙ sym (append-nil c.loop-i.starts.items) ∙ e
    ]
