-- Which lists of edits are patches, and which patch composes two.
use Rattle.std.specs.Prelude.{◌≡◌, ℕ, ◌+◌, ◌^◌, ◌<◌, ◌≤◌, List, [], ◌∷◌, All, option_and_then}
use Rattle.edit_patch.specs.declared.edit.Edit.{Edit}
use Rattle.edit_patch.specs.Came.{origin_of}

-- e may follow what ends at `old` and `new`: after at least `gap` kept positions, as many on both sides
pub record IsNext (gap old new : ℕ) (e : Edit) : Type 0 where
  pub kept : old + gap ≤ e.old_start
  pub even : e.old_start + new ≡ e.new_start + old
  pub old_order : e.old_start ≤ e.old_end
  pub new_order : e.new_start ≤ e.new_end
  -- not empty on both sides
  pub some : e.old_start + e.new_start < e.old_end + e.new_end

-- the edits follow, in order, what ends at `old` and `new`, with a kept position between neighbours
abbrev pub IsPatchFrom : ℕ → ℕ → ℕ → List Edit → Type 0
IsPatchFrom gap old new [] = Unit {0}
IsPatchFrom gap old new (e ∷ es) = IsNext gap old new e × IsPatchFrom 1 e.old_end e.new_end es

-- the edits are those of a patch; before the first no position need be kept
abbrev pub IsPatch : List Edit → Type 0
IsPatch es = IsPatchFrom 0 0 0 es

-- c is the patch by which a position came from where b and then a say, and is new where either says so
pub record IsComposed (a b c : List Edit) : Type 0 where
  pub normal : IsPatch c
  pub came : (i : ℕ) → origin_of c i ≡ option_and_then (origin_of a) (origin_of b i)

-- every position of the edits is a u32; the starts are no greater than the ends
abbrev pub AllFit : List Edit → Type 0
AllFit es = All (λ e. (e.old_end < 2 ^ 32) × (e.new_end < 2 ^ 32)) es
