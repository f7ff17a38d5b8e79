-- Answers in words.
use Rattle.std.specs.Prelude.{ℕ, List, ◌++◌, flat_map, codes, decimal, Option, Some, None, Result, Ok, Err}
use Rattle.cell_units.specs.declared.fault.Fault.{Fault}
use Rattle.cell_units.specs.declared.fault.Fault.TheVariants as faults
use Rattle.cell_units.specs.declared.fault.Refusal.{Refusal}
use Rattle.cell_units.specs.declared.fault.Refusal.TheVariants as refusals
use Rattle.cell_units.specs.declared.piece.Piece.{Piece}

abbrev pub number_told : Option ℕ → List ℕ
number_told None = codes "none"
number_told (Some number) = decimal number

abbrev pub pair_told : Option (ℕ × ℕ) → List ℕ
pair_told None = codes "none"
pair_told (Some pair) = decimal pair.0 ++ (codes " " ++ decimal pair.1)

-- the start and the end of what is replaced, and how many come for it
abbrev pub replaced_told : Option (ℕ × ℕ × ℕ) → List ℕ
replaced_told None = codes "none"
replaced_told (Some r) = decimal r.0 ++ (codes ".." ++ (decimal r.1 ++ (codes " by " ++ decimal r.2)))

abbrev pub refusal_told : Refusal → List ℕ
refusal_told refusals.NotCommand = codes "NotCommand"
refusal_told refusals.BadRange = codes "BadRange"
refusal_told refusals.IdInUse = codes "IdInUse"
refusal_told refusals.UnknownId = codes "UnknownId"
refusal_told refusals.TooLong = codes "TooLong"
refusal_told refusals.BadNumber = codes "BadNumber"
refusal_told refusals.BadText = codes "BadText"
refusal_told refusals.NothingThere = codes "NothingThere"

abbrev pub refused_told : Result (Unit {0}) Refusal → List ℕ
refused_told (Ok _) = codes "ok"
refused_told (Err refusal) = refusal_told refusal

-- out of memory is no answer
abbrev pub fault_told : Fault → Option (List ℕ)
fault_told (faults.Refused refusal) = Some (refusal_told refusal)
fault_told faults.NoMemory = None

abbrev pub accepted_told : Result (Unit {0}) Fault → Option (List ℕ)
accepted_told (Ok _) = Some (codes "ok")
accepted_told (Err fault) = fault_told fault

abbrev pub edited_told : Result (Option (ℕ × ℕ × ℕ)) Fault → Option (List ℕ)
edited_told (Ok stretch) = Some (replaced_told stretch)
edited_told (Err fault) = fault_told fault

-- ---- lines

-- pieces with a bar after each
abbrev pub barred_told : List Piece → List ℕ
barred_told pieces = flat_map (λ piece. piece.text ++ codes "|") pieces

-- a line, where there is one
abbrev pub line_told : Option (List Piece) → List ℕ
line_told None = codes "?"
line_told (Some pieces) = barred_told pieces
