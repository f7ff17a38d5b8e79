use Rattle.std.proofs.Common.{◌≡◌, ◌+◌, ◌-◌, ◌<◌, ℕ, length, ap, sym, ◌∙◌, arith, set}
use Rattle.std.proofs.lemmas.List.{get_or_default}
use Rattle.wrap_map.specs.Stood.{are_alike}
use Rattle.wrap_map.specs.inside.Stretches.{Stretched}
use Rattle.wrap_map.proofs.Gathers.{with_last-apart, with_last-first, with_last-grown}
use Rattle.wrap_map.proofs.gathering.add.Goals as goal
use Rattle.wrap_map.proofs.gathering.add.Goals.{else-count-gt0-via-then-count-gt0+else-is_alike, else-count-gt0-via-else-count-gt0}

pub returns-then-is_alike-clause-added : goal.returns-then-is_alike-clause-added
returns-then-is_alike-clause-added c =
    let ss = c.args.stretches.now.items in
    let s = c.args.stretch in
    let at = c.len-count.result - 1 in
    let seen = c.index.result.now in
    let last = c.index_mut.result.now in
    let within : at < length ss = omega arith in
    let same : last ≡ seen = c.index_mut.ensures.value ∙ get_or_default ss at last seen within ∙ sym c.index.ensures in
    let alike = ap (λ (t : Stretched). are_alike t.stood s.stood) same ∙ sym c.if-is_alike.ensures in
    let grown = c.grow.ensures ∙ ap (λ (n : ℕ). record { stood = last.stood; lines = last.lines + n }) c.lines-lines.ensures.value in
    ap (λ (t : Stretched). set ss at t) grown ∙ with_last-grown ss s last at (omega arith) c.index_mut.ensures.value alike

pub returns-clause-added : goal.returns-clause-added
returns-clause-added c =
    let ss = c.args.stretches.now.items in
    let s = c.args.stretch in
    elim c.else-count-gt0.branch [
      | else-count-gt0-via-then-count-gt0+else-is_alike w ↦
          c.in_ok-push.ensures.items
          ∙ with_last-apart ss s w.index.result.now (c.len-count.result - 1) (omega arith) w.index.ensures (sym w.if-is_alike.ensures)
      | else-count-gt0-via-else-count-gt0 w ↦ c.in_ok-push.ensures.items ∙ with_last-first ss s (omega arith)
    ]
