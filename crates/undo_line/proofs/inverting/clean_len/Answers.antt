use Rattle.std.proofs.Common.{◌≡◌, ℕ, ◌+◌, eqb, Bool, true, false, cond, List, [], ◌∷◌, length, drop, sym, ap, ◌∙◌, arith}
use Rattle.std.specs.List.{starts_with}
use Rattle.std.proofs.lemmas.List.{take_rest}
use Rattle.cell_units.specs.Text.{without_returns_before_feeds}
use Rattle.undo_line.proofs.CleanLengths.{kept-more}
use Rattle.undo_line.proofs.inverting.clean_len.Goals as goal
use Rattle.undo_line.proofs.inverting.clean_len.Goals.{then-not-starts_with, else-not-starts_with}

pub loop-i-preserved : goal.loop-i-preserved
loop-i-preserved c =
    let bytes = c.as_bytes-bytes.result.now in
    let i = c.loop-i.i in
    let rest = length (without_returns_before_feeds (drop (i + 1) bytes)) in
    let by_test = λ (t : Bool) (e : starts_with eqb (drop i bytes) (13 ∷ 10 ∷ []) ≡ t). kept-more bytes i c.loop-i-test.true ∙ ap (λ (b : Bool). cond b 0 1 + rest) e in
    elim c.if-not-starts_with.branch [
      | then-not-starts_with w ↦
          let kept = by_test false (ap (λ (l : List ℕ). starts_with eqb l (13 ∷ 10 ∷ [])) (sym (take_rest bytes i)) ∙ sym c.starts_with.ensures.value ∙ w.if-not-starts_with.true) in
          record { told = omega (arith, kept, w.len-is, c.loop-i.invariant.told); short = omega (arith, w.len-is, c.loop-i.invariant.short) }
      | else-not-starts_with w ↦
          let kept = by_test true (ap (λ (l : List ℕ). starts_with eqb l (13 ∷ 10 ∷ [])) (sym (take_rest bytes i)) ∙ sym c.starts_with.ensures.value ∙ w.if-not-starts_with.false) in
          record { told = omega (arith, kept, w.len-is, c.loop-i.invariant.told); short = omega (arith, w.len-is, c.loop-i.invariant.short) }
    ]
