-- Which lines wait, by their flags.
use Rattle.std.proofs.Common.{◌≡◌, ℕ, ◌≤◌, ◌⊎◌, inl, inr, not, Bool, true, false, List, length, get_or, sym, ap}
use Rattle.std.specs.List.{prefix_len}
use Rattle.display_map.specs.Displays.{NoneWaits}
use Rattle.display_map.proofs.WaitingLines.{prefix_at}

pub first_flag-at : (flags : List Bool) (n : ℕ) → n ≤ length flags → NoneWaits flags n → (n ≡ length flags) ⊎ (get_or flags n false ≡ true) → n ≡ prefix_len not flags
first_flag-at flags n le none here =
    sym (prefix_at not flags n false le (λ k lt. ap not (none k lt)) (opposite here)) where
      opposite : (n ≡ length flags) ⊎ (get_or flags n false ≡ true) → (n ≡ length flags) ⊎ (not (get_or flags n false) ≡ false)
      opposite (inl e) = inl e
      opposite (inr e) = inr (ap not e)
