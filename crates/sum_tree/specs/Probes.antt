-- What a test of items may learn from a sum.
use Rattle.std.specs.Prelude.{◌≡◌, Bool, false, List}
use Rattle.std.specs.List.{list_any}
use Rattle.sum_core.specs.Sums.{total}

-- Where no item of a list may pass by their sum, none passes.
abbrev pub MaySkip : {Q T S : Type 0} → S → (S → S → S) → (T → S) → (Q → T → Bool) → (Q → S → Bool) → Type 0
MaySkip {Q = Q} {T = T} empty joined summary is_passed may_pass =
    (probe : Q) (items : List T) → may_pass probe (total empty joined summary items) ≡ false → list_any (is_passed probe) items ≡ false
