-- How far a name was read.
use Rattle.std.specs.Prelude.{ℕ, ◌≡◌, ◌<◌, ◌≤◌, ◌+◌, ◌++◌, List, [], ◌∷◌, length, take, Option, Result, IfSome, IfOk}
use Rattle.display_cli.specs.declared.read.Unread.{Unread}
use Rattle.display_cli.specs.declared.read.Unread.TheVariants as ends
use Rattle.script_runner.specs.declared.outside.Part.{Part}
use Rattle.script_runner.specs.Outside.{Faults, Read, InputState, HasPartRisen, AreTold}
use Rattle.display_cli.specs.Ended.{AreReadsOf}

-- where bytes are given, these are their first
abbrev pub HasFront : Option (List ℕ) → List ℕ → Type 0
HasFront told read = IfSome told (λ bytes. (length read ≤ length bytes) × (read ≡ take (length read) bytes))

-- where bytes are given, these are all of them, and they are within the limit
abbrev pub IsWholeWithin : Option (List ℕ) → ℕ → List ℕ → Type 0
IsWholeWithin told limit read = AreTold told read × (length read ≤ limit)

-- why a name of a part wasn't read to its end: the counts of faults are those before and after
abbrev pub IsUnread : Part → Option (List ℕ) → ℕ → Faults → Faults → Unread → Type 0
IsUnread part told limit old new ends.Failed = HasPartRisen part old new
IsUnread part told limit old new ends.TooLong = (new ≡ old) × IfSome told (λ bytes. limit < length bytes)
IsUnread part told limit old new ends.NoMemory = new ≡ old

-- one read of a part under a name, from a byte on and up to one byte over the limit, and what is given stays
pub record ReadsOnce (part : Part) (name : List ℕ) (limit at : ℕ) (result : Result ℕ Unread) (old new : InputState) : Type 0 where
  pub tells : (any : List ℕ) → new.told any ≡ old.told any
  pub count : ℕ
  pub made : new.reads ≡ old.reads ++ record { part = part; name = name; at = at; count = count } ∷ []
  pub counted : IfOk result (λ n. n ≡ count)
  pub within : at + count ≤ limit + 1

-- reads of a part under a name from its first byte on, each from where the one before it ended and up to one byte over the
-- limit, and what is given stays
pub record ReadsName (part : Part) (name : List ℕ) (limit : ℕ) (old new : InputState) : Type 0 where
  pub tells : (any : List ℕ) → new.told any ≡ old.told any
  pub reads : List Read
  pub made : new.reads ≡ old.reads ++ reads
  pub in_order : AreReadsOf part name limit 0 reads
