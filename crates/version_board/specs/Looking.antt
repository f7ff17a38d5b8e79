-- What a look leaves of the reader.
use Rattle.std.specs.Prelude.{◌≡◌}
use Rattle.std.specs.Borrow.{Fml, MutBor}
use Rattle.std.specs.Io.BufRead.{Rests}
use Rattle.display_map.specs.Versions.{Version}
use Rattle.version_board.specs.Known.{Known, GoesOn}
use Rattle.version_board.specs.contracts.reader.Reader.{the_row}

-- once the version is let go, the reader knows so much as before, or more, and that version is its newest
abbrev pub Sees : MutBor Known → Version → Fml
Sees reader shown = Rests the_row reader (λ known. GoesOn reader.now known × (known.newest ≡ shown))
