-- What a contract sees of an undo line.
use Rattle.std.specs.Prelude.{ℕ, ◌-◌, min, List, map, reverse}
use Rattle.std.specs.declared.vec.Vec.{Vec}
use Rattle.std.specs.Vec.{vec_capacity, vec_len}
use Rattle.display_sheet.specs.declared.change.Splice.{Splice}

-- what takes the edits back that are done, and what does those again that were taken back, each from the latest on.
-- Both lists have room for so many more
pub record UndoParts : Type 0 where
  pub past : List (List Splice)
  pub future : List (List Splice)
  pub spare : ℕ

-- batches that are kept from the first on
abbrev pub latest_first : {Z : Type 0} → List (Vec Splice Z) → List (List Splice)
latest_first batches = reverse (map (λ batch. batch.items) batches)

-- how many more a list takes
abbrev pub room_in : {X Z : Type 0} → Vec X Z → ℕ
room_in list = vec_capacity list - vec_len list

-- an undo line that keeps these lists
abbrev pub seen : {Z : Type 0} → Vec (Vec Splice Z) Z → Vec (Vec Splice Z) Z → UndoParts
seen past future =
    record {
      past = latest_first past.items;
      future = latest_first future.items;
      spare = min (room_in past) (room_in future);
    }
