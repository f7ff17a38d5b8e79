-- A bias, as a call of C has it.
use Rattle.std.specs.Prelude.{Bool, true, false}
use Rattle.cell_units.specs.declared.place.Bias.{Bias}
use Rattle.cell_units.specs.declared.place.Bias.TheVariants.{Left, Right}

abbrev pub bias_of : Bool → Bias
bias_of true = Right
bias_of false = Left
