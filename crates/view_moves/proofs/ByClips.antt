-- What each motion is in the calls of `clip` that `step` makes.
use Rattle.std.proofs.Common.{◌≡◌, ◌≢◌, ◌<◌, ◌≤◌, ◌+◌, ◌-◌, ℕ, true, false, nat_lt, unwrap_or, Option, Some, refl, ap, sym, ◌∙◌, subst, arith}
use Rattle.std.specs.List.{Contains}
use Rattle.std.proofs.lemmas.Bool.{false≢true}
use Rattle.std.proofs.lemmas.Bool.Decides.{nat_tests}
use Rattle.cell_units.specs.declared.place.Bias.TheVariants as bias
use Rattle.cell_units.specs.declared.place.Motion.{Motion}
use Rattle.cell_units.specs.declared.place.Motion.TheVariants.{Left, Right, Up, Down, Start, End}
use Rattle.cell_units.specs.declared.place.Spot.{Spot}
use Rattle.cell_units.specs.Record.{Record}
use Rattle.plain_rows.specs.Spots.{clip, greatest, least, spot_le, valid_spots}
use Rattle.plain_rows.specs.Laws.{GreatestOfAll, IsNearestAfter, IsNearestBefore, IsValidSpot, LastOfRow, LeastAfter}
use Rattle.plain_rows.proofs.Clips.{clip-nearest_before, clip-valid, spot_le-antisym}
use Rattle.plain_rows.proofs.NearestAfter.{clip-nearest_after}
use Rattle.view_moves.specs.declared.caret.Caret.{Caret}
use Rattle.view_moves.specs.Laws.{IsNarrow, at}
use Rattle.view_moves.specs.Moves.{at_goal, caret, in_row, in_row_of, is_before, moved, next_goal}
use Rattle.view_moves.proofs.Carets.{found-least}
use Rattle.view_moves.proofs.Clipped.{above-clipped, above-none, before_col, before_row, below-clipped, below-none, end-clipped, goal-clipped, goal-clipped_start, left-clipped, none-greatest, right-clipped, right-clipped_below, start-clipped}

pub near_before : (r : Record) (d w : Spot) → w ≡ clip r d bias.Left → IsNearestBefore (valid_spots r) d w
near_before r d w e = subst (λ (s : Spot). IsNearestBefore (valid_spots r) d s) (sym e) (clip-nearest_before r d)

pub near_after : (r : Record) (d w : Spot) → w ≡ clip r d bias.Right → IsNearestAfter (valid_spots r) d w
near_after r d w e = subst (λ (s : Spot). IsNearestAfter (valid_spots r) d s) (sym e) (clip-nearest_after r d)

pub cols : (r : Record) → IsNarrow r → (x : Spot) → Contains (valid_spots r) x → x.col ≤ 4294967295
cols r narrow x m = omega (arith, (narrow x m).1)

pub start-by : (r : Record) (c w : Spot) (goal : ℕ) → IsValidSpot r c → w ≡ clip r (at c.row 0) bias.Right → w ≡ moved (valid_spots r) c goal Start
start-by r c w goal m e = sym (start-clipped (valid_spots r) c w goal m (near_after r (at c.row 0) w e))

pub end-by : (r : Record) (c w : Spot) (goal : ℕ) → IsNarrow r → IsValidSpot r c → w ≡ clip r (at c.row 4294967295) bias.Left → w ≡ moved (valid_spots r) c goal End
end-by r c w goal narrow m e = sym (end-clipped (valid_spots r) c w goal 4294967295 (cols r narrow) m (near_before r (at c.row 4294967295) w e))

pub left-by_col : (r : Record) (c w : Spot) (goal : ℕ) → IsValidSpot r c → 0 < c.col → w ≡ clip r (at c.row (c.col - 1)) bias.Left → w ≡ moved (valid_spots r) c goal Left
left-by_col r c w goal m l e =
    sym (left-clipped (valid_spots r) c (at c.row (c.col - 1)) w goal m (λ x k. before_col c x (c.col - 1) (omega (arith, l))) (near_before r (at c.row (c.col - 1)) w e))

pub left-by_row : (r : Record) (c w : Spot) (goal : ℕ) → IsNarrow r → IsValidSpot r c → c.col ≡ 0 → 0 < c.row → w ≡ clip r (at (c.row - 1) 4294967295) bias.Left → w ≡ moved (valid_spots r) c goal Left
left-by_row r c w goal narrow m z l e =
    sym (left-clipped (valid_spots r) c (at (c.row - 1) 4294967295) w goal m (λ x k. before_row c x (c.row - 1) 4294967295 z (omega (arith, l)) (cols r narrow x k)) (near_before r (at (c.row - 1) 4294967295) w e))

pub left-first : (r : Record) (c : Spot) (goal : ℕ) → c.col ≡ 0 → c.row ≡ 0 → c ≡ moved (valid_spots r) c goal Left
left-first r c goal e f = sym (ap (λ (o : Option Spot). unwrap_or o c) (none-greatest (λ x. is_before x c) (valid_spots r) (λ x k. none x))) where
  none : (x : Spot) → is_before x c ≡ false
  none x = grind (arith, nat_tests, e, f)

pub right-by : (r : Record) (c w : Spot) (goal : ℕ) → IsValidSpot r c → w ≡ clip r (at c.row (c.col + 1)) bias.Right → is_before c w ≡ true → w ≡ moved (valid_spots r) c goal Right
right-by r c w goal m e h = sym (right-clipped (valid_spots r) c w goal m (near_after r (at c.row (c.col + 1)) w e) h)

pub right-by_row : (r : Record) (c w v : Spot) (goal : ℕ) → IsValidSpot r c → w ≡ clip r (at c.row (c.col + 1)) bias.Right → is_before c w ≡ false → v ≡ clip r (at (c.row + 1) 0) bias.Right → v ≡ moved (valid_spots r) c goal Right
right-by_row r c w v goal m e h f = sym (right-clipped_below (valid_spots r) c w v goal m (near_after r (at c.row (c.col + 1)) w e) h (near_after r (at (c.row + 1) 0) v f))

-- the spot at the goal of the row of a valid spot
pub goal-by : (r : Record) (e w : Spot) (goal : ℕ) → w ≡ clip r (at e.row goal) bias.Left → w.row ≡ e.row → at_goal goal (in_row e.row (valid_spots r)) ≡ Some w
goal-by r e w goal is same = goal-clipped (valid_spots r) goal e.row w (near_before r (at e.row goal) w is) same

pub goal-by_start : (r : Record) (e w v : Spot) (goal : ℕ) → IsValidSpot r e → w ≡ clip r (at e.row goal) bias.Left → w.row ≢ e.row → v ≡ clip r (at e.row 0) bias.Right → at_goal goal (in_row e.row (valid_spots r)) ≡ Some v
goal-by_start r e w v goal m is ne first = goal-clipped_start (valid_spots r) goal e.row e w v m refl (near_before r (at e.row goal) w is) ne (near_after r (at e.row 0) v first)

pub up-by : (r : Record) (c e w : Spot) (goal : ℕ) → IsNarrow r → 0 < c.row → e ≡ clip r (at (c.row - 1) 4294967295) bias.Left → e.row < c.row → at_goal goal (in_row e.row (valid_spots r)) ≡ Some w → w ≡ moved (valid_spots r) c goal Up
up-by r c e w goal narrow l is up there =
    sym (ap (λ (o : Option Spot). unwrap_or (in_row_of (valid_spots r) goal o (least (valid_spots r))) c)
    (above-clipped (valid_spots r) c e (c.row - 1) 4294967295 (cols r narrow) (omega (arith, l)) (near_before r (at (c.row - 1) 4294967295) e is) up)
    ∙ ap (λ (o : Option Spot). unwrap_or o c) there)

pub up-by_none : (r : Record) (c e : Spot) (goal : ℕ) → IsNarrow r → 0 < c.row → e ≡ clip r (at (c.row - 1) 4294967295) bias.Left → c.row ≤ e.row → e ≡ moved (valid_spots r) c goal Up
up-by_none r c e goal narrow l is up =
    sym (above-none (valid_spots r) c e (c.row - 1) 4294967295 goal (cols r narrow) (omega (arith, l)) (near_before r (at (c.row - 1) 4294967295) e is) up)

all-from_origin : (x : Spot) → spot_le (at 0 0) x ≡ true
all-from_origin x = grind (arith, nat_tests)

pub up-first : (r : Record) (c w : Spot) (goal : ℕ) → IsValidSpot r c → c.row ≡ 0 → w ≡ clip r (at 0 0) bias.Right → w ≡ moved (valid_spots r) c goal Up
up-first r c w goal m e is = sym (go (near_after r (at 0 0) w is)) where
  nothing : (x : Spot) → nat_lt x.row c.row ≡ false
  nothing x = grind (arith, nat_tests, e)

  at_least : Contains (valid_spots r) w → ((x : Spot) → Contains (valid_spots r) x → spot_le w x ≡ true) → moved (valid_spots r) c goal Up ≡ w
  at_least k all =
      let u = found-least (valid_spots r) w k in
      ap (λ (o : Option Spot). unwrap_or (in_row_of (valid_spots r) goal o (least (valid_spots r))) c)
      (none-greatest (λ x. nat_lt x.row c.row) (valid_spots r) (λ x k. nothing x))
      ∙ ap (λ (o : Option Spot). unwrap_or o c) (u.1 ∙ ap (λ (s : Spot). Some s) (spot_le-antisym u.0 w (u.3 w k) (all u.0 u.2)))

  go : IsNearestAfter (valid_spots r) (at 0 0) w → moved (valid_spots r) c goal Up ≡ w
  go (LastOfRow v n same past last) = absurd (false≢true (sym (past c m e) ∙ all-from_origin c))
  go (LeastAfter v n le all within) = at_least n (λ x k. all x k (all-from_origin x))
  go (GreatestOfAll v all none empty) = absurd (false≢true (sym (none c m) ∙ all-from_origin c))

pub down-by : (r : Record) (c e w : Spot) (goal : ℕ) → e ≡ clip r (at (c.row + 1) 0) bias.Right → c.row < e.row → at_goal goal (in_row e.row (valid_spots r)) ≡ Some w → w ≡ moved (valid_spots r) c goal Down
down-by r c e w goal is low there =
    sym (ap (λ (o : Option Spot). unwrap_or (in_row_of (valid_spots r) goal o (greatest (valid_spots r))) c)
    (below-clipped (valid_spots r) c e (near_after r (at (c.row + 1) 0) e is) low)
    ∙ ap (λ (o : Option Spot). unwrap_or o c) there)

pub down-by_none : (r : Record) (c e : Spot) (goal : ℕ) → e ≡ clip r (at (c.row + 1) 0) bias.Right → e.row ≤ c.row → e ≡ moved (valid_spots r) c goal Down
down-by_none r c e goal is low = sym (below-none (valid_spots r) c e goal (near_after r (at (c.row + 1) 0) e is) low)

pub clipped-valid_left : (r : Record) (d w : Spot) → w ≡ clip r d bias.Left → IsValidSpot r w
clipped-valid_left r d w e = subst (λ (s : Spot). IsValidSpot r s) (sym e) (clip-valid r d bias.Left)

pub clipped-valid_right : (r : Record) (d w : Spot) → w ≡ clip r d bias.Right → IsValidSpot r w
clipped-valid_right r d w e = subst (λ (s : Spot). IsValidSpot r s) (sym e) (clip-valid r d bias.Right)

-- the caret at a spot to which a motion leads
abbrev pub caret_at : ℕ → Motion → Spot → Caret
caret_at goal motion s = record { spot = s; goal = next_goal goal s motion }

pub caret-by : (r : Record) (d c s : Spot) (goal : ℕ) (motion : Motion) → c ≡ clip r d bias.Left → s ≡ moved (valid_spots r) c goal motion → caret_at goal motion s ≡ caret r d goal motion
unfolding caret
caret-by r d c s goal motion e f = ap (λ (t : Spot). caret_at goal motion t) (f ∙ ap (λ (u : Spot). moved (valid_spots r) u goal motion) e)
