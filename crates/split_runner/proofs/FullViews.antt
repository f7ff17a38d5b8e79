-- A journal that has too little room.
use Rattle.std.proofs.Common.{◌≡◌, ◌⊎◌, inl, inr, ℕ, suc, ◌+◌, ◌≤◌, Bool, true, false, List, [], ◌∷◌, All, length, refl, arith}
use Rattle.std.specs.Prelude.{nat_le}
use Rattle.std.proofs.lemmas.Bool.{leb-false, leb-true}
use Rattle.std.proofs.lemmas.List.Elements.{All-cons, All-nil}
use Rattle.display_map.specs.Events.{event_limit}
use Rattle.display_map.specs.Replay.{History}
use Rattle.split_views.specs.Whole.{IsOneFull}

abbrev HasRoom : ℕ → History → Type 0
HasRoom n h = n + length h.events ≤ event_limit

sought : (n : ℕ) (hs : List History) → All (HasRoom n) hs ⊎ IsOneFull n hs
sought n [] = inl (All-nil (HasRoom n))
sought n (h ∷ hs) = by (nat_le (n + length h.events) event_limit) refl (sought n hs)
  where
    by : (b : Bool) → nat_le (n + length h.events) event_limit ≡ b → All (HasRoom n) hs ⊎ IsOneFull n hs
        → All (HasRoom n) (h ∷ hs) ⊎ IsOneFull n (h ∷ hs)
    by false is others = inr (0, omega arith, (let over = leb-false (n + length h.events) event_limit is in omega (arith, over)))
    by true is (inl all) = inl (All-cons (HasRoom n) h hs (leb-true (n + length h.events) event_limit is) all)
    by true is (inr full) = inr (suc full.0, (let lt = full.1 in omega (arith, lt)), full.2)

-- where not every journal has room for so many events, there is one that has not
pub one-full : (n : ℕ) (hs : List History) → (All (λ h. n + length h.events ≤ event_limit) hs → ⊥) → IsOneFull n hs
one-full n hs none = by (sought n hs)
  where
    by : All (HasRoom n) hs ⊎ IsOneFull n hs → IsOneFull n hs
    by (inl all) = absurd (none all)
    by (inr full) = full
