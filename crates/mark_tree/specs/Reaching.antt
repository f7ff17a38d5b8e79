-- Which things reach an offset.
use Rattle.std.specs.Prelude.{ℕ, ◌-◌, ◌≤◌, ◌<◌, List, take, drop, length}
use Rattle.std.specs.List.{All}
use Rattle.mark_tree.specs.declared.entry.Placed.{Placed}
use Rattle.mark_tree.specs.Entries.{end_at}

module _ {P : Type 0} where
  -- The first place from `at` on of a thing that ends at or after the offset, or the end of the list.
  pub record IsFirstReaching (at offset : ℕ) (ps : List (Placed P)) (place : ℕ) : Type 0 where
    pub from : at ≤ place
    pub within : place ≤ length ps
    pub short : All (λ p. end_at p < offset) (take (place - at) (drop at ps))
    pub long : All (λ p. offset ≤ end_at p) (take 1 (drop place ps))
