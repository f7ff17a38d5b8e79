-- How stretches are put in the place of others.
use Rattle.std.specs.Prelude.{ℕ, ◌≡◌, ◌⊎◌, ◌+◌, ◌≤◌, false, if◌then◌else◌, List, [], ◌∷◌, ◌++◌, All, length, take, drop, Option, Some, None}
use Rattle.wrap_map.specs.Stood.{Stood, are_alike}
use Rattle.wrap_map.specs.inside.Stretches.{IsStretch, Stretched, spread}

-- one more after stretches: where it is alike the last one, that one grows
abbrev pub with_last : List Stretched → Stretched → List Stretched
with_last [] s = s ∷ []
with_last (t ∷ []) s =
    if are_alike t.stood s.stood
    then (record { stood = t.stood; lines = t.lines + s.lines } ∷ [])
    else (t ∷ s ∷ [])
with_last (t ∷ u ∷ us) s = t ∷ with_last (u ∷ us) s

-- more after stretches, one after the other
abbrev pub gathered : List Stretched → List Stretched → List Stretched
gathered ss [] = ss
gathered ss (f ∷ fs) = gathered (with_last ss f) fs

-- how the first and the last of some stretches are wrapped
abbrev pub first_of : List Stretched → Option Stood
first_of [] = None
first_of (s ∷ ss) = Some s.stood

abbrev pub last_of : List Stretched → Option Stood
last_of [] = None
last_of (s ∷ []) = Some s.stood
last_of (s ∷ t ∷ ts) = last_of (t ∷ ts)

-- two that meet couldn't be one
abbrev pub AreSeparate : Option Stood → Option Stood → Type 0
AreSeparate None b = Unit {0}
AreSeparate (Some a) None = Unit {0}
AreSeparate (Some a) (Some b) = are_alike a b ≡ false

-- The part of a stretch that lies before the line n, after the stretches before that one.
pub record IsHead (ss : List Stretched) (n : ℕ) (part : List Stretched) (at : ℕ) : Type 0 where
  pub within : at ≤ length ss
  pub spread_is : spread (take at ss) ++ spread part ≡ take n (spread ss)
  pub each : All IsStretch part
  pub few : length part ≤ 1
  pub some : (at ≡ 0) ⊎ (1 ≤ length part)
  pub apart : AreSeparate (last_of (take at ss)) (first_of part)

-- The part of a stretch that lies from the line n on, before the stretches after that one.
pub record IsTail (ss : List Stretched) (n : ℕ) (part : List Stretched) (at : ℕ) : Type 0 where
  pub within : at ≤ length ss
  pub spread_is : spread part ++ spread (drop at ss) ≡ drop n (spread ss)
  pub each : All IsStretch part
  pub few : length part ≤ 1
  pub some : (drop at ss ≡ []) ⊎ (1 ≤ length part)
  pub apart : AreSeparate (last_of part) (first_of (drop at ss))
