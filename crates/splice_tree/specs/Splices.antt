-- Lists of splices, and where they carry a place.
use Rattle.std.specs.Prelude.{◌≡◌, ℕ, ◌+◌, ◌-◌, ◌≤◌, ◌&&◌, ◌++◌, length, take, drop, Bool, nat_le, nat_lt, min, slice_get, Some, List, [], ◌∷◌, map, if◌then◌else◌}
use Rattle.cell_units.specs.declared.place.Bias.{Bias}
use Rattle.cell_units.specs.declared.place.Bias.TheVariants.{Left, Right}
use Rattle.sum_core.specs.Sums.{total}
use Rattle.sum_tree.specs.Firsts.{IsFirst, IsReaching}
use Rattle.splice_tree.specs.declared.sides.Sides.{Sides}
use Rattle.splice_tree.specs.Sides.{none, both, BothFit}

-- What a splice is seen as: how much is kept before it, how much it takes out, how much it puts there, and its load.
pub record Piece (S P : Type 0) : Type 0 where
  pub gap : S
  pub old : S
  pub new : S
  pub load : P

abbrev pub piece_sum : {S P : Type 0} → (S → S → S) → Piece S P → Sides S
piece_sum joined p = record { lower = joined p.gap p.old; upper = joined p.gap p.new }

-- a splice in one measure
pub record Stretch : Type 0 where
  pub gap : ℕ
  pub old : ℕ
  pub new : ℕ

abbrev pub measured : {S P : Type 0} → (S → ℕ) → Piece S P → Stretch
measured number p = record { gap = number p.gap; old = number p.old; new = number p.new }

abbrev pub stretch : ℕ → ℕ → ℕ → Stretch
stretch gap old new = record { gap = gap; old = old; new = new }

-- the splice the other way round
abbrev pub flipped : Stretch → Stretch
flipped s = record { gap = s.gap; old = s.new; new = s.old }

-- A place lies after a splice where it lies at its end or further on. At one that takes out nothing, a place is before
-- it by Left and after it by Right.
abbrev pub is_behind : Bias → Stretch → ℕ → Bool
is_behind Left s x = nat_lt s.gap x && nat_le (s.gap + s.old) x
is_behind Right s x = nat_le (s.gap + s.old) x

-- A place that isn't after a splice is kept where it is in the gap. Else it goes to the edge of what is put there.
abbrev pub kept_or_edge : Bias → Stretch → ℕ → ℕ
kept_or_edge Left s x = min x s.gap
kept_or_edge Right s x = if nat_le x s.gap then x else s.gap + s.new

-- where a place of the lower sequence is in the upper one
abbrev pub to_upper : Bias → List Stretch → ℕ → ℕ
to_upper bias [] x = x
to_upper bias (s ∷ ss) x = if is_behind bias s x then s.gap + s.new + to_upper bias ss (x - (s.gap + s.old)) else kept_or_edge bias s x

-- a place that lies in a splice goes to this one, whatever comes after the splice
abbrev pub IsCarried : Bias → Stretch → ℕ → ℕ → Type 0
IsCarried bias s x place = (ss : List Stretch) → IsReaching bias x (s.gap + s.old) → place ≡ to_upper bias (s ∷ ss) x

-- where a place of the upper sequence is in the lower one
abbrev pub to_lower : Bias → List Stretch → ℕ → ℕ
to_lower bias ss y = to_upper bias (map flipped ss) y

module _ {S P : Type 0} (empty : S) (joined : S → S → S) where
  -- what splices cover, with the gaps before them
  abbrev pub covered : List (Piece S P) → Sides S
  covered ps = total (none empty) (both joined) (piece_sum joined) ps

  -- the index of the first splice whose end on the lower side reaches the target, or the end of all
  abbrev pub IsFirstLower : (S → ℕ) → List (Piece S P) → ℕ → Bias → ℕ → Type 0
  IsFirstLower number ps target bias index =
      IsFirst (none empty) (both joined) (piece_sum joined) (λ s. number s.lower) ps target bias index

  -- the same of the upper side
  abbrev pub IsFirstUpper : (S → ℕ) → List (Piece S P) → ℕ → Bias → ℕ → Type 0
  IsFirstUpper number ps target bias index =
      IsFirst (none empty) (both joined) (piece_sum joined) (λ s. number s.upper) ps target bias index

module _ {S P : Type 0} where
  -- the same splice after another gap
  abbrev pub regapped : S → Piece S P → Piece S P
  regapped gap p = record { gap = gap; old = p.old; new = p.new; load = p.load }

  -- with this gap, the splice at the place covers no more than fits, if there is one
  abbrev pub GapFits : (S → S → S) → (S → Type 0) → S → ℕ → List (Piece S P) → Type 0
  GapFits joined fits gap at ps = (p : Piece S P) → slice_get ps at ≡ Some p → BothFit fits (piece_sum joined (regapped gap p))

  -- the same list with another gap before its first splice, if it has one
  abbrev pub with_first_gap : S → List (Piece S P) → List (Piece S P)
  with_first_gap gap [] = []
  with_first_gap gap (p ∷ ps) = regapped gap p ∷ ps

  -- others in the place of the splices from place `from` to place `to`, and another gap before the one after them
  abbrev pub replaced : ℕ → ℕ → List (Piece S P) → S → List (Piece S P) → List (Piece S P)
  replaced from to fresh gap ps = take from ps ++ (fresh ++ with_first_gap gap (drop to ps))

  -- What takes the place of all up to place `end`. It is others for those up to place `to`, and the one after them with
  -- its new gap.
  pub record IsRefill (ps : List (Piece S P)) (to : ℕ) (fresh : List (Piece S P)) (gap : S) (splices : List (Piece S P)) (end : ℕ) : Type 0 where
    pub order : to ≤ end
    pub within : end ≤ length ps
    pub same : splices ++ drop end ps ≡ fresh ++ with_first_gap gap (drop to ps)
    pub few : length splices ≤ length fresh + 1
