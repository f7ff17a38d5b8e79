-- What is known of the inputs and of a sink.
use Rattle.std.specs.Prelude.{ℕ, ◌≡◌, ◌<◌, ◌≤◌, ◌-◌, ◌^◌, ◌⊎◌, Bool, true, false, if◌then◌else◌, sum_by, List, [], ◌∷◌, ◌++◌, length, take, drop, Result, Ok, Err, Option, Some, IfSome, OnOk, OnErr}
use Rattle.script_runner.specs.declared.outside.Failed.{Failed}
use Rattle.script_runner.specs.declared.outside.Part.{Part}
use Rattle.script_runner.specs.declared.outside.Part.TheVariants.{Text, Script}

-- how many reads of each part failed so far
pub record Faults : Type 0 where
  pub text : ℕ
  pub script : ℕ

-- no read failed
abbrev pub no_faults : Faults
no_faults = record { text = 0; script = 0 }

abbrev pub faults_of : Faults → Part → ℕ
faults_of faults Text = faults.text
faults_of faults Script = faults.script

-- the part that isn't the given one
abbrev pub other : Part → Part
other Text = Script
other Script = Text

-- a read: of which part and name, from which byte on, and how many bytes it gave
pub record Read : Type 0 where
  pub part : Part
  pub name : List ℕ
  pub at : ℕ
  pub count : ℕ

-- both are the text, or both the script
abbrev pub is_part : Part → Part → Bool
is_part Text Text = true
is_part Script Script = true
is_part _ _ = false

-- how many bytes of a part these reads gave
abbrev pub count_read : Part → List Read → ℕ
count_read part reads = sum_by (λ read. if is_part part read.part then read.count else 0) reads

-- what is known of the inputs: the bytes of each name, where they are given, the counts of faults, and the reads so far
pub record InputState : Type 0 where
  pub told : List ℕ → Option (List ℕ)
  pub faults : Faults
  pub reads : List Read

-- how many bytes of a part were read from one state to the other
abbrev pub count_between : Part → InputState → InputState → ℕ
count_between part old new = count_read part (drop (length old.reads) new.reads)

-- what is known of a sink: the bytes that it took, where it gives them, and how many writes failed
pub record SinkState : Type 0 where
  pub taken : Option (List ℕ)
  pub faults : ℕ

-- a sink that gives these as the bytes that it took, and of which no write failed
abbrev pub nowhere : List ℕ → SinkState
nowhere taken = record { taken = Some taken; faults = 0 }

-- a count rose. One that is the greatest u64 also passes for one that rose
abbrev pub HasRisen : ℕ → ℕ → Type 0
HasRisen old new = (old < new) ⊎ ((old ≡ 2 ^ 64 - 1) × (new ≡ old))

-- the part's count rose, and the other one stayed
pub record HasPartRisen (part : Part) (old new : Faults) : Type 0 where
  pub risen : HasRisen (faults_of old part) (faults_of new part)
  pub other_stays : faults_of new (other part) ≡ faults_of old (other part)

-- where bytes are given, these are they
abbrev pub AreTold : Option (List ℕ) → List ℕ → Type 0
AreTold told bytes = IfSome told (λ b. b ≡ bytes)

-- what a read gave of the bytes that are given for its name, from a byte on: they are the first of the room, and there are
-- none only at the end
pub record IsGiven (at : ℕ) (old new : List ℕ) (count : ℕ) (bytes : List ℕ) : Type 0 where
  pub same : take count new ≡ take count (drop at bytes)
  pub there : count ≤ length (drop at bytes)
  pub some : at < length bytes → 0 < length old → 1 ≤ count

-- how many bytes a read gave
abbrev pub count_of : Result ℕ Failed → ℕ
count_of (Ok count) = count
count_of (Err failed) = 0

-- what a read makes of the inputs: they give what they gave, the read is one more, and where it failed the count of its
-- part rose
pub record Reads (part : Part) (name : List ℕ) (at : ℕ) (result : Result ℕ Failed) (old new : InputState) : Type 0 where
  pub tells : (any : List ℕ) → new.told any ≡ old.told any
  pub made : new.reads ≡ old.reads ++ record { part = part; name = name; at = at; count = count_of result } ∷ []
  pub passed : OnOk result (new.faults ≡ old.faults)
  pub failed : OnErr result (HasPartRisen part old.faults new.faults)

-- where the taken bytes are given, these were appended to them
abbrev pub Appends : Option (List ℕ) → Option (List ℕ) → List ℕ → Type 0
Appends old new bytes = IfSome old (λ taken. new ≡ Some (taken ++ bytes))

-- a sink took these bytes, and no write failed
pub record Takes (bytes : List ℕ) (old new : SinkState) : Type 0 where
  pub taken : Appends old.taken new.taken bytes
  pub passed : new.faults ≡ old.faults

-- a sink took nothing, and counted a fault
pub record Refuses (old new : SinkState) : Type 0 where
  pub taken : new.taken ≡ old.taken
  pub failed : HasRisen old.faults new.faults

-- the sink took a prefix of the bytes, where it gives what it took
pub record TakesFront (bytes : List ℕ) (old new : SinkState) : Type 0 where
  pub front : List ℕ
  pub rest : List ℕ
  pub is_front : front ++ rest ≡ bytes
  pub taken : Appends old.taken new.taken front
