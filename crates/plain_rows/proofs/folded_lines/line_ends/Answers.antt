use Rattle.std.proofs.Common.{◌≡◌, ℕ, ◌+◌, ◌<◌, Bool, true, false, cond, List, [], ◌∷◌, ◌++◌, length, take, get_or, ap, sym, ◌∙◌, arith, append-nil}
use Rattle.std.proofs.lemmas.List.{length-take-le, take_more}
use Rattle.plain_rows.specs.declared.folded_lines.LineEnd.{LineEnd}
use Rattle.plain_rows.specs.declared.folded_lines.Part.{Part}
use Rattle.plain_rows.specs.declared.folded_lines.Part.TheVariants.{Buffer}
use Rattle.plain_rows.specs.FoldedLines.{is_end}
use Rattle.plain_rows.specs.inside.PartPieces.{ends_from}
use Rattle.plain_rows.proofs.EndsOfLines.{end_at, ends-push}
use Rattle.plain_rows.proofs.folded_lines.line_ends.Goals as goal
use Rattle.plain_rows.proofs.folded_lines.line_ends.Goals.{then-is_end+in_ok-push, else-is_end}

-- one more part, which is an end or isn't
one_more : (parts : List Part) (i : ℕ) (b : Bool) (ends : List LineEnd) → i < length parts → is_end (get_or parts i (Buffer 0 0)) ≡ b →
    ends ≡ ends_from 0 (take i parts) → ends ++ cond b (end_at (i + 1) (get_or parts i (Buffer 0 0)) ∷ []) [] ≡ ends_from 0 (take (i + 1) parts)
one_more parts i b ends lt e is =
    let p = get_or parts i (Buffer 0 0) in
    let at : 0 + length (take i parts) + 1 ≡ i + 1 = omega (arith, length-take-le i parts (omega arith)) in
    (λ k. is k ++ cond (sym e k) (end_at (sym at k) p ∷ []) [])
    ∙ sym (ends-push 0 (take i parts) p)
    ∙ ap (ends_from 0) (sym (take_more parts i (Buffer 0 0) lt))

pub loop-i-preserved : goal.loop-i-preserved
loop-i-preserved c =
    let parts = c.args.parts.now in
    elim c.if-is_end.branch [
      | then-is_end+in_ok-push w ↦
          let e = one_more parts c.loop-i.i true c.loop-i.ends.items (omega arith) (sym c.is_end.ensures ∙ w.if-is_end.true) c.loop-i.invariant in
          ap (λ v. v.items) w.ends-is ∙ w.in_ok-push.ensures.items ∙ e
      | else-is_end w ↦
          let e = one_more parts c.loop-i.i false c.loop-i.ends.items (omega arith) (sym c.is_end.ensures ∙ w.if-is_end.false) c.loop-i.invariant in
          ap (λ v. v.items) w.ends-is ∙ sym (append-nil c.loop-i.ends.items) ∙ e
    ]
