-- What was written where a run stops.
use Rattle.std.specs.Prelude.{ℕ, ◌≡◌, List}
use Rattle.script_runner.specs.declared.stop.Stop.{Stop}
use Rattle.script_runner.specs.declared.stop.Stop.TheVariants as stops
use Rattle.script_runner.specs.Outside.{SinkState, HasRisen, TakesFront}

-- why a prefix of these bytes was written and no more
abbrev pub IsUnwritten : List ℕ → SinkState → SinkState → Stop → Type 0
IsUnwritten bytes old new stops.Write = TakesFront bytes old new × HasRisen old.faults new.faults
IsUnwritten bytes old new stops.JournalFull = ⊥
IsUnwritten bytes old new stops.Memory = TakesFront bytes old new × (new.faults ≡ old.faults)
