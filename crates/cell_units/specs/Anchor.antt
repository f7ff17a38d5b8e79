-- Where an anchor goes.
use Rattle.std.specs.Prelude.{ℕ, ◌+◌, ◌-◌, ◌==◌, ◌&&◌, nat_lt, nat_le, Bool, true, false, if◌then◌else◌}
use Rattle.cell_units.specs.declared.place.Bias.{Bias}
use Rattle.cell_units.specs.declared.place.Bias.TheVariants.{Left, Right}

abbrev pub is_left : Bias → Bool
is_left Left = true
is_left Right = false

-- where the anchor `p` is after `n` bytes took the place of `[a, b)`
abbrev pub move : ℕ → Bias → ℕ → ℕ → ℕ → ℕ
move p bias a b n =
    if nat_lt p a then p
    else if (p == a) && is_left bias then p
    else if nat_le p b then a + n
    else p + n - (b - a)
