-- What is said of all texts and scripts that are made.
use Rattle.std.specs.Prelude.{ℕ, List}
use Rattle.std.specs.Str.{IsAscii}
use Rattle.cell_units.specs.Laws.{HasNoReturn}

-- ASCII without carriage returns: UTF-8 that is clean already
pub record IsPlain (bytes : List ℕ) : Type 0 where
  pub ascii : IsAscii bytes
  pub no_return : HasNoReturn bytes

-- the most bytes in a script
abbrev pub script_limit : ℕ
script_limit = 16777216
