-- How a stretch is kept.
use Rattle.std.specs.Prelude.{[]}
use Rattle.std.specs.Arc.{arc_value}
use Rattle.wrap_map.specs.declared.stretch.Kept.{Kept}
use Rattle.wrap_map.specs.declared.stretch.Kept.TheVariants.{Few, Many, Uncut}
use Rattle.wrap_map.specs.inside.Stretches.{Stretched, stretched}

-- the lines that are kept so
abbrev pub kept_stretch : Kept → Stretched
kept_stretch (Uncut mark lines) = stretched mark lines []
kept_stretch (Few mark cuts) = stretched mark 1 cuts.items
kept_stretch (Many mark cuts) = stretched mark 1 (arc_value cuts).items
