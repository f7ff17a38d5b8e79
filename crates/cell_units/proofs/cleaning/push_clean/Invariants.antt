use Rattle.std.proofs.Common.{◌≡◌, ◌++◌, length, string_bytes}
use denote.Text.{Utf8}
use denote.Shadow.{shadow}
use Rattle.cell_units.specs.Text.{clean}
use Rattle.cell_units.proofs.cleaning.push_clean.Given as goal

-- what was appended so far, and then the rest when cleaned, is the piece when cleaned
abbrev pub invariant-loop-line : goal.invariant-loop-line
invariant-loop-line l =
    shadow (Utf8 l.rest) × (string_bytes l.text ++ clean l.rest ≡ string_bytes l.initial.text ++ clean l.piece)

abbrev pub decreases-loop-line : goal.decreases-loop-line
decreases-loop-line l = length l.rest
