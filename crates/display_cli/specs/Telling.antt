-- Bytes and reads that contracts see and nothing stores.
use Rattle.std.specs.Prelude.{ℕ, List, [], ◌∷◌, ◌++◌}
use Rattle.display_cli.specs.declared.told.Told.{Told, Nothing, Then'}
use Rattle.display_cli.specs.declared.told.ReadsTold.{ReadsTold}
use Rattle.display_cli.specs.declared.told.ReadsTold as told
use Rattle.script_runner.specs.Outside.{Read}

-- the bytes in the order in which they came
abbrev pub bytes_told : Told → List ℕ
bytes_told Nothing = []
bytes_told (Then' marker before last) = bytes_told before ++ last ∷ []

-- the reads in the order in which they were made
abbrev pub reads_told : ReadsTold → List Read
reads_told told.Nothing = []
reads_told (told.Then' marker before name part at count) =
    reads_told before ++ record { part = part; name = bytes_told name.value; at = at; count = count } ∷ []
