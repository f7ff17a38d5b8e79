-- Where carets go.
use Rattle.std.proofs.Common.{◌≡◌, ◌<◌, ◌≤◌, ℕ, ◌==◌, ◌⊎◌, inl, inr, Bool, true, false, not, List, filter, nat_lt, nat_le, unwrap_or, Option, Some, None, refl, ap, sym, ◌∙◌, subst, arith}
use Rattle.std.specs.List.{Contains}
use Rattle.std.specs.Option.{option_or}
use Rattle.std.proofs.lemmas.Bool.{cases_Bool, cases_lt, false≢true}
use Rattle.std.proofs.lemmas.Bool.Decides.{nat_tests}
use Rattle.cell_units.specs.declared.place.Bias.TheVariants as bias
use Rattle.cell_units.specs.declared.place.Motion.{Motion}
use Rattle.cell_units.specs.declared.place.Motion.TheVariants.{Left, Right, Up, Down, Start, End}
use Rattle.cell_units.specs.declared.place.Spot.{Spot}
use Rattle.cell_units.specs.Record.{Record}
use Rattle.plain_rows.specs.Spots.{clip, greatest, least, spot_le, valid_spots}
use Rattle.plain_rows.specs.Laws.{IsValidSpot}
use Rattle.plain_rows.proofs.Lists.{IsFirst, all-contained, contains-filtered, contains-none, contains-unfiltered}
use Rattle.plain_rows.proofs.Clips.{clip-own, clip-valid, greatest-first, least-first, spot_ge, spot_le-antisym}
use Rattle.view_moves.specs.Moves.{above, after, at_goal, before, below, caret, in_row, in_row_of, is_before, moved, target}

pub row_test : (s : Spot) (row : ℕ) → s.row ≡ row → (s.row == row) ≡ true
row_test s row e = grind (arith, nat_tests, e)

pub row_of_test : (s : Spot) (row : ℕ) → (s.row == row) ≡ true → s.row ≡ row
row_of_test s row e = grind (arith, nat_tests, e)

pub not_false : (b : Bool) → b ≡ false → not b ≡ true
not_false b e = ap not e

pub from_not : (b : Bool) → not b ≡ true → b ≡ false
from_not true e = absurd (false≢true e)
from_not false e = refl

-- a spot that was found is one of the list
abbrev pub IsOf : List Spot → Option Spot → Type 0
IsOf spots None = Unit {0}
IsOf spots (Some s) = Contains spots s

pub least-of : (spots : List Spot) → IsOf spots (least spots)
least-of spots = go (least spots) (least-first spots) where
  go : (o : Option Spot) → IsFirst spot_le spots o → IsOf spots o
  go None h = tt
  go (Some s) h = h.0

pub greatest-of : (spots : List Spot) → IsOf spots (greatest spots)
greatest-of spots = go (greatest spots) (greatest-first spots) where
  go : (o : Option Spot) → IsFirst spot_ge spots o → IsOf spots o
  go None h = tt
  go (Some s) h = h.0

pub of-filtered : (p : Spot → Bool) (spots : List Spot) (o : Option Spot) → IsOf (filter p spots) o → IsOf spots o
of-filtered p spots None h = tt
of-filtered p spots (Some s) h = (contains-unfiltered p spots s h).0

of-either : (spots : List Spot) (o o' : Option Spot) → IsOf spots o → IsOf spots o' → IsOf spots (option_or o o')
of-either spots None o' h k = k
of-either spots (Some s) o' h k = h

pub at_goal-of : (goal : ℕ) (row : List Spot) → IsOf row (at_goal goal row)
at_goal-of goal row =
    of-either row (greatest (filter (λ s. nat_le s.col goal) row)) (least row)
    (of-filtered (λ s. nat_le s.col goal) row (greatest (filter (λ s. nat_le s.col goal) row)) (greatest-of (filter (λ s. nat_le s.col goal) row)))
    (least-of row)

in_row_of-of : (spots : List Spot) (goal : ℕ) (o other : Option Spot) → IsOf spots other → IsOf spots (in_row_of spots goal o other)
in_row_of-of spots goal None other h = h
in_row_of-of spots goal (Some s) other h = of-filtered (λ t. t.row == s.row) spots (at_goal goal (in_row s.row spots)) (at_goal-of goal (in_row s.row spots))

target-of : (spots : List Spot) (c : Spot) (goal : ℕ) (motion : Motion) → IsOf spots (target spots c goal motion)
target-of spots c goal Left = of-filtered (λ s. is_before s c) spots (greatest (before c spots)) (greatest-of (before c spots))
target-of spots c goal Right = of-filtered (λ s. is_before c s) spots (least (after c spots)) (least-of (after c spots))
target-of spots c goal Up = in_row_of-of spots goal (greatest (above c spots)) (least spots) (least-of spots)
target-of spots c goal Down = in_row_of-of spots goal (least (below c spots)) (greatest spots) (greatest-of spots)
target-of spots c goal Start = of-filtered (λ s. s.row == c.row) spots (least (in_row c.row spots)) (least-of (in_row c.row spots))
target-of spots c goal End = of-filtered (λ s. s.row == c.row) spots (greatest (in_row c.row spots)) (greatest-of (in_row c.row spots))

of-unwrapped : (spots : List Spot) (c : Spot) (o : Option Spot) → Contains spots c → IsOf spots o → Contains spots (unwrap_or o c)
of-unwrapped spots c None m h = m
of-unwrapped spots c (Some s) m h = h

pub moved-valid : (spots : List Spot) (c : Spot) (goal : ℕ) (motion : Motion) → Contains spots c → Contains spots (moved spots c goal motion)
moved-valid spots c goal motion m = of-unwrapped spots c (target spots c goal motion) m (target-of spots c goal motion)

pub caret-valid : (r : Record) (d : Spot) (goal : ℕ) (motion : Motion) → IsValidSpot r (caret r d goal motion).spot
unfolding caret
caret-valid r d goal motion = moved-valid (valid_spots r) (clip r d bias.Left) goal motion (clip-valid r d bias.Left)

-- a motion from a valid spot
pub caret-of_valid : (r : Record) (s : Spot) (goal : ℕ) (motion : Motion) → IsValidSpot r s → (caret r s goal motion).spot ≡ moved (valid_spots r) s goal motion
unfolding caret
caret-of_valid r s goal motion m = ap (λ (c : Spot). moved (valid_spots r) c goal motion) (clip-own r s bias.Left m)

-- a second motion begins where the first one led
pub caret-twice : (r : Record) (s : Spot) (goal later : ℕ) (one two : Motion) → IsValidSpot r s →
    (caret r (caret r s goal one).spot later two).spot ≡ moved (valid_spots r) (moved (valid_spots r) s goal one) later two
caret-twice r s goal later one two m =
    caret-of_valid r (caret r s goal one).spot later two (caret-valid r s goal one)
    ∙ ap (λ (c : Spot). moved (valid_spots r) c later two) (caret-of_valid r s goal one m)

-- what is found where a spot is there
pub found-least : (xs : List Spot) (w : Spot) → Contains xs w → (u : Spot) × (least xs ≡ Some u) × Contains xs u × ((x : Spot) → Contains xs x → spot_le u x ≡ true)
found-least xs w m = go (least xs) refl (least-first xs) where
  go : (o : Option Spot) → least xs ≡ o → IsFirst spot_le xs o → (u : Spot) × (least xs ≡ Some u) × Contains xs u × ((x : Spot) → Contains xs x → spot_le u x ≡ true)
  go None e h = absurd (contains-none w (subst (λ (l : List Spot). Contains l w) h m))
  go (Some u) e h = (u, e, h.0, λ x k. all-contained (λ y. spot_le u y ≡ true) xs x h.1 k)

pub found-greatest : (xs : List Spot) (w : Spot) → Contains xs w → (u : Spot) × (greatest xs ≡ Some u) × Contains xs u × ((x : Spot) → Contains xs x → spot_le x u ≡ true)
found-greatest xs w m = go (greatest xs) refl (greatest-first xs) where
  go : (o : Option Spot) → greatest xs ≡ o → IsFirst spot_ge xs o → (u : Spot) × (greatest xs ≡ Some u) × Contains xs u × ((x : Spot) → Contains xs x → spot_le x u ≡ true)
  go None e h = absurd (contains-none w (subst (λ (l : List Spot). Contains l w) h m))
  go (Some u) e h = (u, e, h.0, λ x k. all-contained (λ y. spot_le y u ≡ true) xs x h.1 k)

pub before-either : (s t : Spot) → spot_le s t ≡ true → (s ≡ t) ⊎ (is_before s t ≡ true)
before-either s t h = elim (cases_Bool (spot_le t s)) [
  | inl k ↦ inl (spot_le-antisym s t h k)
  | inr k ↦ inr (not_false (spot_le t s) k)
]

-- Left after Right, where a spot is after
pub back_again : (spots : List Spot) (s t : Spot) (goal later : ℕ) → Contains spots s → Contains spots t → is_before s t ≡ true → moved spots (moved spots s goal Right) later Left ≡ s
back_again spots s t goal later m n h =
    ap (λ (c : Spot). moved spots c later Left) (ap (λ (o : Option Spot). unwrap_or o s) right.1)
    ∙ ap (λ (o : Option Spot). unwrap_or o u) left.1
    ∙ same where
      right : (u : Spot) × (least (after s spots) ≡ Some u) × Contains (after s spots) u × ((x : Spot) → Contains (after s spots) x → spot_le u x ≡ true)
      right = found-least (after s spots) t (contains-filtered (λ x. is_before s x) spots t n h)

      u : Spot
      u = right.0

      of : Contains spots u × (is_before s u ≡ true)
      of = contains-unfiltered (λ x. is_before s x) spots u right.2

      here : Contains (before u spots) s
      here = contains-filtered (λ x. is_before x u) spots s m of.1

      left : (v : Spot) × (greatest (before u spots) ≡ Some v) × Contains (before u spots) v × ((x : Spot) → Contains (before u spots) x → spot_le x v ≡ true)
      left = found-greatest (before u spots) s here

      v : Spot
      v = left.0

      of' : Contains spots v × (is_before v u ≡ true)
      of' = contains-unfiltered (λ x. is_before x u) spots v left.2

      same : v ≡ s
      same = elim (before-either s v (left.3 s here)) [
        | inl e ↦ sym e
        | inr l ↦ absurd (false≢true (sym (from_not (spot_le u v) of'.1) ∙ right.3 v (contains-filtered (λ x. is_before s x) spots v of'.0 l)))
      ]

-- Right after Left, where a spot is before
pub forth_again : (spots : List Spot) (s t : Spot) (goal later : ℕ) → Contains spots s → Contains spots t → is_before t s ≡ true → moved spots (moved spots s goal Left) later Right ≡ s
forth_again spots s t goal later m n h =
    ap (λ (c : Spot). moved spots c later Right) (ap (λ (o : Option Spot). unwrap_or o s) left.1)
    ∙ ap (λ (o : Option Spot). unwrap_or o u) right.1
    ∙ same where
      left : (u : Spot) × (greatest (before s spots) ≡ Some u) × Contains (before s spots) u × ((x : Spot) → Contains (before s spots) x → spot_le x u ≡ true)
      left = found-greatest (before s spots) t (contains-filtered (λ x. is_before x s) spots t n h)

      u : Spot
      u = left.0

      of : Contains spots u × (is_before u s ≡ true)
      of = contains-unfiltered (λ x. is_before x s) spots u left.2

      here : Contains (after u spots) s
      here = contains-filtered (λ x. is_before u x) spots s m of.1

      right : (v : Spot) × (least (after u spots) ≡ Some v) × Contains (after u spots) v × ((x : Spot) → Contains (after u spots) x → spot_le v x ≡ true)
      right = found-least (after u spots) s here

      v : Spot
      v = right.0

      of' : Contains spots v × (is_before u v ≡ true)
      of' = contains-unfiltered (λ x. is_before u x) spots v right.2

      same : v ≡ s
      same = elim (before-either v s (right.3 s here)) [
        | inl e ↦ e
        | inr l ↦ absurd (false≢true (sym (from_not (spot_le v u) of'.1) ∙ left.3 v (contains-filtered (λ x. is_before x s) spots v of'.0 l)))
      ]

-- in a row that has a spot there is one at each goal
pub found-at_goal : (spots : List Spot) (goal row : ℕ) (w : Spot) → Contains spots w → w.row ≡ row → (u : Spot) × (at_goal goal (in_row row spots) ≡ Some u) × Contains spots u × (u.row ≡ row)
found-at_goal spots goal row w m e = go (greatest (filter (λ s. nat_le s.col goal) (in_row row spots))) refl where
  here : Contains (in_row row spots) w
  here = contains-filtered (λ s. s.row == row) spots w m (row_test w row e)

  some : (o : Option Spot) → IsOf (in_row row spots) o → (u : Spot) → o ≡ Some u → Contains spots u × (u.row ≡ row)
  some o h u k =
      let of = contains-unfiltered (λ s. s.row == row) spots u (subst (λ (x : Option Spot). IsOf (in_row row spots) x) k h) in
      (of.0, row_of_test u row of.1)

  first : (u : Spot) × (least (in_row row spots) ≡ Some u) × Contains (in_row row spots) u × ((x : Spot) → Contains (in_row row spots) x → spot_le u x ≡ true)
  first = found-least (in_row row spots) w here

  go : (o : Option Spot) → greatest (filter (λ s. nat_le s.col goal) (in_row row spots)) ≡ o → (u : Spot) × (at_goal goal (in_row row spots) ≡ Some u) × Contains spots u × (u.row ≡ row)
  go None k =
      let is : at_goal goal (in_row row spots) ≡ Some first.0 = ap (λ (o : Option Spot). option_or o (least (in_row row spots))) k ∙ first.1 in
      let of = some (at_goal goal (in_row row spots)) (at_goal-of goal (in_row row spots)) first.0 is in
      (first.0, is, of.0, of.1)
  go (Some u) k =
      let is : at_goal goal (in_row row spots) ≡ Some u = ap (λ (o : Option Spot). option_or o (least (in_row row spots))) k in
      let of = some (at_goal goal (in_row row spots)) (at_goal-of goal (in_row row spots)) u is in
      (u, is, of.0, of.1)

rows-of_le : (s t : Spot) → spot_le s t ≡ true → s.row ≤ t.row
rows-of_le s t h = grind (arith, nat_tests, h)

row_lt : (a b : ℕ) → a < b → nat_lt a b ≡ true
row_lt a b l = grind (arith, nat_tests, l)

lt_row : (a b : ℕ) → nat_lt a b ≡ true → a < b
lt_row a b l = grind (arith, nat_tests, l)

-- Up leads to the nearest row above that has a spot
pub up-row : (spots : List Spot) (c t : Spot) (goal : ℕ) → Contains spots t → t.row < c.row →
    (w : Spot) × Contains spots w × (w.row < c.row) × ((x : Spot) → Contains spots x → x.row < c.row → x.row ≤ w.row) × ((moved spots c goal Up).row ≡ w.row)
up-row spots c t goal n l = (w, of.0, lt_row w.row c.row of.1, nearest, ap (λ (s : Spot). s.row) (ap (λ (o : Option Spot). unwrap_or (in_row_of spots goal o (least spots)) c) last.1 ∙ ap (λ (o : Option Spot). unwrap_or o c) there.1) ∙ there.3) where
  last : (u : Spot) × (greatest (above c spots) ≡ Some u) × Contains (above c spots) u × ((x : Spot) → Contains (above c spots) x → spot_le x u ≡ true)
  last = found-greatest (above c spots) t (contains-filtered (λ s. nat_lt s.row c.row) spots t n (row_lt t.row c.row l))

  w : Spot
  w = last.0

  of : Contains spots w × (nat_lt w.row c.row ≡ true)
  of = contains-unfiltered (λ s. nat_lt s.row c.row) spots w last.2

  nearest : (x : Spot) → Contains spots x → x.row < c.row → x.row ≤ w.row
  nearest x k b = rows-of_le x w (last.3 x (contains-filtered (λ s. nat_lt s.row c.row) spots x k (row_lt x.row c.row b)))

  there : (u : Spot) × (at_goal goal (in_row w.row spots) ≡ Some u) × Contains spots u × (u.row ≡ w.row)
  there = found-at_goal spots goal w.row w of.0 refl

-- Down leads to the nearest row below that has a spot
pub down-row : (spots : List Spot) (c t : Spot) (goal : ℕ) → Contains spots t → c.row < t.row →
    (w : Spot) × Contains spots w × (c.row < w.row) × ((x : Spot) → Contains spots x → c.row < x.row → w.row ≤ x.row) × ((moved spots c goal Down).row ≡ w.row)
down-row spots c t goal n l = (w, of.0, lt_row c.row w.row of.1, nearest, ap (λ (s : Spot). s.row) (ap (λ (o : Option Spot). unwrap_or (in_row_of spots goal o (greatest spots)) c) first.1 ∙ ap (λ (o : Option Spot). unwrap_or o c) there.1) ∙ there.3) where
  first : (u : Spot) × (least (below c spots) ≡ Some u) × Contains (below c spots) u × ((x : Spot) → Contains (below c spots) x → spot_le u x ≡ true)
  first = found-least (below c spots) t (contains-filtered (λ s. nat_lt c.row s.row) spots t n (row_lt c.row t.row l))

  w : Spot
  w = first.0

  of : Contains spots w × (nat_lt c.row w.row ≡ true)
  of = contains-unfiltered (λ s. nat_lt c.row s.row) spots w first.2

  nearest : (x : Spot) → Contains spots x → c.row < x.row → w.row ≤ x.row
  nearest x k b = rows-of_le w x (first.3 x (contains-filtered (λ s. nat_lt c.row s.row) spots x k (row_lt c.row x.row b)))

  there : (u : Spot) × (at_goal goal (in_row w.row spots) ≡ Some u) × Contains spots u × (u.row ≡ w.row)
  there = found-at_goal spots goal w.row w of.0 refl

pub down_after_up : (spots : List Spot) (s t : Spot) (goal later : ℕ) → Contains spots s → Contains spots t → t.row < s.row → (moved spots (moved spots s goal Up) later Down).row ≡ s.row
down_after_up spots s t goal later m n l =
    let up = up-row spots s t goal n l in
    let u : Spot = moved spots s goal Up in
    let under : u.row < s.row = omega (arith, up.2, up.4) in
    let down = down-row spots u s later m under in
    let low : down.0.row ≤ s.row = down.3 s m under in
    elim (cases_lt down.0.row s.row) [
      | inl b ↦ let no = up.3 down.0 down.1 b in absurd (omega (arith, no, down.2, up.4))
      | inr b ↦ let same : down.0.row ≡ s.row = omega (arith, low, b) in down.4 ∙ same
    ]

pub up_after_down : (spots : List Spot) (s t : Spot) (goal later : ℕ) → Contains spots s → Contains spots t → s.row < t.row → (moved spots (moved spots s goal Down) later Up).row ≡ s.row
up_after_down spots s t goal later m n l =
    let down = down-row spots s t goal n l in
    let u : Spot = moved spots s goal Down in
    let over : s.row < u.row = omega (arith, down.2, down.4) in
    let up = up-row spots u s later m over in
    let high : s.row ≤ up.0.row = up.3 s m over in
    elim (cases_lt s.row up.0.row) [
      | inl b ↦ let no = down.3 up.0 up.1 b in absurd (omega (arith, no, up.2, down.4))
      | inr b ↦ let same : up.0.row ≡ s.row = omega (arith, high, b) in up.4 ∙ same
    ]

-- Start leads to the least spot of the row
pub start-is : (spots : List Spot) (c : Spot) (goal : ℕ) → Contains spots c →
    (u : Spot) × (moved spots c goal Start ≡ u) × (least (in_row c.row spots) ≡ Some u) × Contains spots u × (u.row ≡ c.row) × ((x : Spot) → Contains spots x → x.row ≡ c.row → spot_le u x ≡ true)
start-is spots c goal m = (u, ap (λ (o : Option Spot). unwrap_or o c) first.1, first.1, of.0, row_of_test u c.row of.1, λ x k e. first.3 x (contains-filtered (λ s. s.row == c.row) spots x k (row_test x c.row e))) where
  first : (u : Spot) × (least (in_row c.row spots) ≡ Some u) × Contains (in_row c.row spots) u × ((x : Spot) → Contains (in_row c.row spots) x → spot_le u x ≡ true)
  first = found-least (in_row c.row spots) c (contains-filtered (λ s. s.row == c.row) spots c m (row_test c c.row refl))

  u : Spot
  u = first.0

  of : Contains spots u × ((u.row == c.row) ≡ true)
  of = contains-unfiltered (λ s. s.row == c.row) spots u first.2

-- End leads to the greatest
pub end-is : (spots : List Spot) (c : Spot) (goal : ℕ) → Contains spots c →
    (u : Spot) × (moved spots c goal End ≡ u) × (greatest (in_row c.row spots) ≡ Some u) × Contains spots u × (u.row ≡ c.row) × ((x : Spot) → Contains spots x → x.row ≡ c.row → spot_le x u ≡ true)
end-is spots c goal m = (u, ap (λ (o : Option Spot). unwrap_or o c) last.1, last.1, of.0, row_of_test u c.row of.1, λ x k e. last.3 x (contains-filtered (λ s. s.row == c.row) spots x k (row_test x c.row e))) where
  last : (u : Spot) × (greatest (in_row c.row spots) ≡ Some u) × Contains (in_row c.row spots) u × ((x : Spot) → Contains (in_row c.row spots) x → spot_le x u ≡ true)
  last = found-greatest (in_row c.row spots) c (contains-filtered (λ s. s.row == c.row) spots c m (row_test c c.row refl))

  u : Spot
  u = last.0

  of : Contains spots u × ((u.row == c.row) ≡ true)
  of = contains-unfiltered (λ s. s.row == c.row) spots u last.2

-- what two motions along one row give depends on the second alone
pub start-again : (spots : List Spot) (c u : Spot) (goal later : ℕ) → Contains spots c → u.row ≡ c.row → moved spots u later Start ≡ moved spots c goal Start
start-again spots c u goal later m e =
    let s = start-is spots c goal m in
    ap (λ (row : ℕ). unwrap_or (least (in_row row spots)) u) e ∙ ap (λ (o : Option Spot). unwrap_or o u) s.2 ∙ sym s.1

pub end-again : (spots : List Spot) (c u : Spot) (goal later : ℕ) → Contains spots c → u.row ≡ c.row → moved spots u later End ≡ moved spots c goal End
end-again spots c u goal later m e =
    let s = end-is spots c goal m in
    ap (λ (row : ℕ). unwrap_or (greatest (in_row row spots)) u) e ∙ ap (λ (o : Option Spot). unwrap_or o u) s.2 ∙ sym s.1

pub caret-again : (r : Record) (d : Spot) (goal later : ℕ) (one two : Motion) →
    (caret r (caret r d goal one).spot later two).spot ≡ moved (valid_spots r) (moved (valid_spots r) (clip r d bias.Left) goal one) later two
unfolding caret
caret-again r d goal later one two = caret-of_valid r (caret r d goal one).spot later two (caret-valid r d goal one)

pub start-twice : (r : Record) (d : Spot) (goal later : ℕ) → (caret r (caret r d goal Start).spot later Start).spot ≡ (caret r d goal Start).spot
unfolding caret
start-twice r d goal later =
    let c = clip r d bias.Left in
    let m = clip-valid r d bias.Left in
    let s = start-is (valid_spots r) c goal m in
    caret-again r d goal later Start Start ∙ start-again (valid_spots r) c (moved (valid_spots r) c goal Start) goal later m (ap (λ (x : Spot). x.row) s.1 ∙ s.4)

pub end-twice : (r : Record) (d : Spot) (goal later : ℕ) → (caret r (caret r d goal End).spot later End).spot ≡ (caret r d goal End).spot
unfolding caret
end-twice r d goal later =
    let c = clip r d bias.Left in
    let m = clip-valid r d bias.Left in
    let s = end-is (valid_spots r) c goal m in
    caret-again r d goal later End End ∙ end-again (valid_spots r) c (moved (valid_spots r) c goal End) goal later m (ap (λ (x : Spot). x.row) s.1 ∙ s.4)
