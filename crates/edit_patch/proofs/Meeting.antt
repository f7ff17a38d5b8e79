-- Ranges with a place in common.
use Rattle.std.proofs.Common.{ℕ, ◌≤◌, max, List, arith, ◌↔◌}
use Rattle.edit_patch.specs.declared.edit.Edit.{Edit}
use Rattle.edit_patch.specs.Came.{inverted}
use Rattle.edit_patch.specs.Fits.{HaveCommon, MeetsOld, MeetsNew}
use Rattle.edit_patch.proofs.Correspondence.{any-map, any-unmap}

pub common-order : (start end first last : ℕ) → start ≤ end → first ≤ last → HaveCommon start end first last ↔ ((start ≤ last) × (first ≤ end))
common-order start end first last h k = (
  (λ (c : HaveCommon start end first last). (let a = c.1 in let b = c.4 in omega arith, let a = c.2 in let b = c.3 in omega arith)),
  (λ (c : (start ≤ last) × (first ≤ end)). (max start first, omega arith, omega arith, omega arith, omega arith)),
)

pub meets-inverted : (a : List Edit) (first last : ℕ) → MeetsNew (inverted a) first last ↔ MeetsOld a first last
meets-inverted a first last =
    (any-unmap (λ e. HaveCommon e.new_start e.new_end first last) a, any-map (λ e. HaveCommon e.new_start e.new_end first last) a)
