-- Calls that are counted.
use Rattle.std.specs.Prelude.{ℕ, ◌==◌, Bool, List}
use Rattle.std.specs.List.{list_any}
use Rattle.cell_units.specs.Steps.{ticked}
use Rattle.display_cli.specs.declared.calls.Calls.{Calls}

-- the number is one of these
abbrev pub is_one_of : List ℕ → ℕ → Bool
is_one_of numbers number = list_any (λ n. n == number) numbers

-- the call that was counted last is one of those that fail
abbrev pub is_failing : Calls → Calls → Bool
is_failing old new = is_one_of old.failing.items new.made

-- the calls with one more
abbrev pub one_more : Calls → Calls
one_more calls = record calls { made = ticked calls.made }
