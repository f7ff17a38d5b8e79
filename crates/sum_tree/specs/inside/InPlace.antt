-- What a write in place asks of a list and of the nodes that hold it, and what it leaves. `items` and `sums` are what
-- the bounds on items and on their sums say.
use Rattle.std.specs.Prelude.{◌≡◌, ℕ, ◌+◌, ◌^◌, ◌<◌, ◌≤◌, List, length, Result, MatchResult, Ok, Err}
use Rattle.std.specs.List.{splice}
use Rattle.std.specs.declared.alloc.Global.{Global}
use Rattle.std.specs.declared.vec.Vec.{Vec}
use Rattle.sum_core.specs.Nodes.{IsLawful, width, contents}
use Rattle.sum_core.specs.declared.node.Entries.{Entries}
use Rattle.sum_core.specs.declared.summary.Item.{Ghosts as Items}
use Rattle.sum_core.specs.declared.summary.Summary.{Ghosts as Sums}
use Rattle.sum_tree.specs.declared.in_place.PutError.{PutError}
use Rattle.sum_tree.specs.declared.in_place.PutError.TheVariants.{NoRoom, NoMemory}
use Rattle.sum_tree.specs.declared.in_place.Span.{Span}
use Rattle.sum_tree.specs.inside.Nodes.{SumFits, sum_of}

-- the list with `new` in the place of the items in the span
abbrev pub refilled : {T : Type 0} → List T → Span → List T → List T
refilled held span new = splice held span.from span.to new

-- A write opens one node at each level of a tree of this height. It makes two leaves of one that would be too full.
abbrev pub placing : ℕ → ℕ
placing height = height + 3

-- where there is no room
abbrev pub IfNoRoom : {V : Type 0} → Result V PutError → Type 0 → Type 0
IfNoRoom (Ok _) P = Unit {0}
IfNoRoom (Err NoRoom) P = P
IfNoRoom (Err NoMemory) P = Unit {0}

module _ {T : Type 0} where
  -- without room, what was given is left
  abbrev pub IsLeft : Vec T Global → Vec T Global → PutError → Type 0
  IsLeft given left NoRoom = left ≡ given
  IsLeft given left NoMemory = Unit {0}

  -- `held` became `after`, or stayed as it was.
  abbrev pub IsRefilledAlone : List T → Span → Vec T Global → Vec T Global → List T → Result (Unit {0}) PutError → Type 0
  IsRefilledAlone held span given left after result =
      MatchResult result (λ _. after ≡ refilled held span given.items) (λ error. (after ≡ held) × IsLeft given left error)

module _ {T S : Type 0} (items : Items T S) (sums : Sums S) where
  -- The span lies in the list, and `new` may take its place.
  pub record CanRefill (held : List T) (span : Span) (new : List T) : Type 0 where
    pub order : span.from ≤ span.to
    pub within : span.to ≤ length held
    pub small : length held < 2 ^ 32
    pub still_small : length (refilled held span new) < 2 ^ 32
    pub fits : SumFits items sums (refilled held span new)

  -- A lawful node of this height with at least `least` entries, which is one or more where it is no leaf.
  pub record IsNode (height least : ℕ) (e : Entries T S) : Type 0 where
    pub lawful : IsLawful sums.empty sums.joined items.summary height e
    pub wide : least ≤ width (contents e)
    pub some : 0 < height → 1 ≤ least

  -- A sum and a number are those of these items.
  pub record IsSumOf (held : List T) (s : S × ℕ) : Type 0 where
    pub sum_is : s.0 ≡ sum_of items sums held
    pub count_is : s.1 ≡ length held

  -- the same with the sum and the number of the items that are there then
  abbrev pub IsRefilled : List T → Span → Vec T Global → Vec T Global → List T → Result (S × ℕ) PutError → Type 0
  IsRefilled held span given left after result =
      MatchResult result (λ s. (after ≡ refilled held span given.items) × IsSumOf after s) (λ error. (after ≡ held) × IsLeft given left error)
