-- Refusals: their numbers, and why bytes are no text.
use Rattle.std.specs.Prelude.{ℕ, ◌≡◌, ◌<◌, ◌≤◌, List, length}
use Rattle.std.specs.Str.{IsUtf8}
use Rattle.std.specs.Str.Lossy.{utf8_valid_len}
use Rattle.cell_units.specs.declared.limits.TheConstants.{TEXT_LIMIT}
use Rattle.cell_units.specs.declared.fault.Refusal.{Refusal}
use Rattle.cell_units.specs.declared.fault.Refusal.TheVariants as refusals
use Rattle.cell_units.specs.declared.fault.Refusal.TheVariants.{NotCommand, BadRange, IdInUse, UnknownId, BadNumber, BadText, NothingThere}
use Rattle.cell_units.specs.declared.fault.TextFault.{TextFault}
use Rattle.cell_units.specs.declared.fault.TextFault.TheVariants.{NotUtf8, TooLong, NoMemory}

abbrev pub number_of : Refusal → ℕ
number_of NotCommand = 1
number_of BadRange = 2
number_of IdInUse = 3
number_of UnknownId = 4
number_of refusals.TooLong = 5
number_of BadNumber = 6
number_of BadText = 7
number_of NothingThere = 8

-- bytes that a text is made of
abbrev pub IsAccepted : List ℕ → Type 0
IsAccepted bytes = (length bytes ≤ TEXT_LIMIT) × IsUtf8 bytes

-- the fault that is owed. The limit is judged first, and memory is wanted only for bytes that a text is made of
abbrev pub IsTextRefused : List ℕ → TextFault → Type 0
IsTextRefused bytes TooLong = TEXT_LIMIT < length bytes
IsTextRefused bytes (NotUtf8 at) = (length bytes ≤ TEXT_LIMIT) × (¬ (IsUtf8 bytes)) × (at ≡ utf8_valid_len bytes)
IsTextRefused bytes NoMemory = IsAccepted bytes
