-- What a patch means: of each new position, the old position that it came from.
use Rattle.std.specs.Prelude.{◌≡◌, ℕ, ◌+◌, ◌-◌, ◌<◌, ◌≤◌, ◌↔◌, List, [], ◌∷◌, Option, Some, None, Any, nat_lt, if◌then◌else◌, map}
use Rattle.edit_patch.specs.declared.edit.Edit.{Edit}

-- the edit that puts the new positions c up to d in the place of the old ones a up to b
abbrev pub edit_of : ℕ → ℕ → ℕ → ℕ → Edit
edit_of a b c d = record { old_start = a; old_end = b; new_start = c; new_end = d }

-- where the new position i came from, after what ends at `old` and `new`. Before the next edit it came from as far
-- after `old` as it is after `new`. Inside that edit it came from nowhere, and after it from where the other edits say
abbrev pub origin_from : ℕ → ℕ → List Edit → ℕ → Option ℕ
origin_from old new [] i = Some (old + (i - new))
origin_from old new (e ∷ es) i =
    if nat_lt i e.new_start then Some (old + (i - new))
    else (if nat_lt i e.new_end then None else origin_from e.old_end e.new_end es i)

-- where the new position i came from
abbrev pub origin_of : List Edit → ℕ → Option ℕ
origin_of es i = origin_from 0 0 es i

-- the new position i came from the old position j
abbrev pub Came : List Edit → ℕ → ℕ → Type 0
Came es i j = origin_of es i ≡ Some j

-- i is inside an edit's new range
abbrev pub IsNew : List Edit → ℕ → Type 0
IsNew es i = Any (λ e. (e.new_start ≤ i) × (i < e.new_end)) es

-- j is inside an edit's old range
abbrev pub IsReplaced : List Edit → ℕ → Type 0
IsReplaced es j = Any (λ e. (e.old_start ≤ j) × (j < e.old_end)) es

-- f gives none inside the new ranges, and makes the other positions correspond, in order, to those that stay
pub record CorrespondsInOrder (es : List Edit) (f : ℕ → Option ℕ) : Type 0 where
  pub new : (i : ℕ) → IsNew es i ↔ (f i ≡ None)
  pub stays : (j : ℕ) → ((i : ℕ) × (f i ≡ Some j)) ↔ (¬ IsReplaced es j)
  pub order : (h i j k : ℕ) → h < i → f h ≡ Some j → f i ≡ Some k → j < k

-- an edit with its sides changed over
abbrev pub flipped : Edit → Edit
flipped e = record { old_start = e.new_start; old_end = e.new_end; new_start = e.old_start; new_end = e.old_end }

-- the patch that leads back
abbrev pub inverted : List Edit → List Edit
inverted es = map flipped es

-- where the old position j went; none where it was replaced
abbrev pub carry_of : List Edit → ℕ → Option ℕ
carry_of es j = origin_of (inverted es) j
