-- Bytes under names, and counts of faults.
use Rattle.std.specs.Prelude.{ℕ, ◌≡◌, min, length, drop, List, [], Option, Some, find, unwrap_or}
use Rattle.std.specs.Option.{option_map}
use Rattle.std.specs.Str.{bytes_eq}
use Rattle.display_cli.specs.declared.inputs.NamedBytes.{NamedBytes}
use Rattle.display_cli.specs.declared.inputs.FaultCounts.{FaultCounts}
use Rattle.display_cli.specs.declared.inputs.MapInputs.{MapInputs}
use Rattle.display_cli.specs.declared.sinks.ListSink.{ListSink}
use Rattle.script_runner.specs.Outside.{Faults, InputState, SinkState}
use Rattle.display_cli.specs.Telling.{reads_told}

-- the bytes of a name, if the list has it
abbrev pub bytes_named : List NamedBytes → List ℕ → Option (List ℕ)
bytes_named files name = option_map (λ f. f.bytes.items) (find (λ f. bytes_eq f.name name) files)

-- the bytes that the inputs have of a name
abbrev pub told_by : MapInputs → List ℕ → Option (List ℕ)
told_by s name = bytes_named s.files.items name

-- a read gives all the bytes that there are from a byte on and that fit the room
abbrev pub IsMost : (at : ℕ) (room : List ℕ) (count : ℕ) (bytes : List ℕ) → Type 0
IsMost at room count bytes = count ≡ min (length room) (length (drop at bytes))

-- the bytes of a name; one that isn't there is empty
abbrev pub bytes_or_none : List NamedBytes → List ℕ → List ℕ
bytes_or_none files name = unwrap_or (bytes_named files name) []

abbrev pub faults_in : FaultCounts → Faults
faults_in counts = record { text = counts.text; script = counts.script }

-- what is known of inputs that give the bytes of their names
abbrev pub map_state : MapInputs → InputState
map_state s = record { told = bytes_named s.files.items; faults = faults_in s.faults; reads = reads_told s.reads }

-- what is known of a sink that gives its bytes
abbrev pub list_state : ListSink → SinkState
list_state s = record { taken = Some s.taken.items; faults = s.faults }
