use Rattle.std.proofs.Common.{[], ◌∷◌, ◌++◌, List, Vec, Global, ap, ◌∙◌, arith}
use Rattle.wrap_map.specs.inside.Stretches.{Stretched}
use Rattle.wrap_map.proofs.Puts.{none-are, one-are}
use Rattle.wrap_map.proofs.stretches.Stretches.new.Goals as goal
use Rattle.wrap_map.proofs.stretches.Stretches.new.Goals.{then-count-gt0+in_ok-push, else-count-gt0}

pub invariant_of-result : goal.invariant_of-result
invariant_of-result c = (
  elim c.if-count-gt0.branch [
    | then-count-gt0+in_ok-push w ↦
        one-are c.in_ok-from_vec.field-0 c.args.count (omega arith) (omega arith)
        (c.in_ok-from_vec.ensures.ok
        ∙ ap (λ (v : Vec Stretched Global). v.items) w.stretches-is
        ∙ w.in_ok-push.ensures.items
        ∙ ap (λ (l : List Stretched). l ++ (w.uncut.result ∷ [])) c.new-stretches.ensures.items
        ∙ ap (λ (s : Stretched). s ∷ []) w.uncut.ensures)
    | else-count-gt0 w ↦
        none-are c.in_ok-from_vec.field-0
        (c.in_ok-from_vec.ensures.ok ∙ ap (λ (v : Vec Stretched Global). v.items) w.stretches-is ∙ c.new-stretches.ensures.items)
  ],
  rw c.in_ok-none.ensures.ok c.new.ensures.items,
)
