-- What is published.
use Rattle.display_map.specs.Replay.{History}

-- a version of any display is seen as its history
abbrev pub Version : Type 0
Version = History
