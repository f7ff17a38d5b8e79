-- Why a run stops where its owner halts.
use Rattle.live_display.specs.declared.halt.Halt.{Halt}
use Rattle.live_display.specs.declared.halt.Halt.TheVariants.{Full, Memory}
use Rattle.script_runner.specs.declared.stop.Stop.{Stop}
use Rattle.script_runner.specs.declared.stop.Stop.TheVariants as stops

abbrev pub stop_of : Halt → Stop
stop_of Full = stops.JournalFull
stop_of Memory = stops.Memory
