-- What each motion is in clips of a few spots: no walk over the list of valid spots.
use Rattle.std.proofs.Common.{◌≡◌, ◌≢◌, ◌<◌, ◌≤◌, ◌+◌, ◌⊎◌, ℕ, ◌==◌, inl, inr, Bool, true, false, filter, nat_lt, nat_le, unwrap_or, List, Option, Some, None, refl, ap, sym, ◌∙◌, subst, arith}
use Rattle.std.specs.List.{Contains}
use Rattle.std.specs.Option.{option_or}
use Rattle.std.proofs.lemmas.Bool.{cases_Bool, cases_lt, false≢true}
use Rattle.std.proofs.lemmas.Bool.Decides.{nat_tests}
use Rattle.cell_units.specs.declared.place.Motion.TheVariants.{Left, Right, Up, Down, Start, End}
use Rattle.cell_units.specs.declared.place.Spot.{Spot}
use Rattle.plain_rows.specs.Spots.{greatest, least, spot_le}
use Rattle.plain_rows.specs.Laws.{GreatestBefore, GreatestOfAll, IsNearestAfter, IsNearestBefore, LastOfRow, LeastAfter, LeastOfAll}
use Rattle.plain_rows.proofs.Lists.{IsFirst, all-contained, contains-filtered, contains-unfiltered}
use Rattle.plain_rows.proofs.Clips.{greatest-first, least-first, spot_ge, spot_le-antisym}
use Rattle.view_moves.specs.Laws.{at}
use Rattle.view_moves.specs.Moves.{above, at_goal, before, below, in_row, in_row_of, is_before, moved}
use Rattle.view_moves.proofs.Carets.{found-greatest, found-least, from_not, not_false, row_of_test, row_test, start-is}

after_from : (c x : Spot) → is_before c x ≡ true → spot_le x c ≡ false
after_from c x h = from_not (spot_le x c) h

-- a list of which nothing passes leaves nothing
pub none-greatest : (p : Spot → Bool) (spots : List Spot) → ((x : Spot) → Contains spots x → p x ≡ false) → greatest (filter p spots) ≡ None
none-greatest p spots none = go (greatest (filter p spots)) (greatest-first (filter p spots)) where
  go : (o : Option Spot) → IsFirst spot_ge (filter p spots) o → o ≡ None
  go None h = refl
  go (Some u) h = let of = contains-unfiltered p spots u h.0 in absurd (false≢true (sym (none u of.0) ∙ of.1))

pub none-least : (p : Spot → Bool) (spots : List Spot) → ((x : Spot) → Contains spots x → p x ≡ false) → least (filter p spots) ≡ None
none-least p spots none = go (least (filter p spots)) (least-first (filter p spots)) where
  go : (o : Option Spot) → IsFirst spot_le (filter p spots) o → o ≡ None
  go None h = refl
  go (Some u) h = let of = contains-unfiltered p spots u h.0 in absurd (false≢true (sym (none u of.0) ∙ of.1))

-- the greatest of those that pass is the one that is at or after each of them
greatest-is : (p : Spot → Bool) (spots : List Spot) (w : Spot) → Contains spots w → p w ≡ true → ((x : Spot) → Contains spots x → p x ≡ true → spot_le x w ≡ true) → greatest (filter p spots) ≡ Some w
greatest-is p spots w m h all =
    let u = found-greatest (filter p spots) w (contains-filtered p spots w m h) in
    let of = contains-unfiltered p spots u.0 u.2 in
    u.1 ∙ ap (λ (s : Spot). Some s) (spot_le-antisym u.0 w (all u.0 of.0 of.1) (u.3 w (contains-filtered p spots w m h)))

least-is : (p : Spot → Bool) (spots : List Spot) (w : Spot) → Contains spots w → p w ≡ true → ((x : Spot) → Contains spots x → p x ≡ true → spot_le w x ≡ true) → least (filter p spots) ≡ Some w
least-is p spots w m h all =
    let u = found-least (filter p spots) w (contains-filtered p spots w m h) in
    let of = contains-unfiltered p spots u.0 u.2 in
    u.1 ∙ ap (λ (s : Spot). Some s) (spot_le-antisym u.0 w (u.3 w (contains-filtered p spots w m h)) (all u.0 of.0 of.1))

flip : (b c : Bool) → b ≡ c → c ≡ false → b ≡ false
flip b c e h = e ∙ h

-- Left: the clip of a spot d such that the valid spots before c are those at or before d
pub left-clipped : (spots : List Spot) (c d w : Spot) (goal : ℕ) → Contains spots c → ((x : Spot) → Contains spots x → is_before x c ≡ spot_le x d) → IsNearestBefore spots d w → moved spots c goal Left ≡ w
left-clipped spots c d w goal m same (GreatestBefore v n le all) =
    ap (λ (o : Option Spot). unwrap_or o c)
    (greatest-is (λ x. is_before x c) spots w n (same w n ∙ le) (λ x k h. all x k (sym (same x k) ∙ h)))
left-clipped spots c d w goal m same (LeastOfAll v least none) =
    let nothing : greatest (before c spots) ≡ None = none-greatest (λ x. is_before x c) spots (λ x k. same x k ∙ none x k) in
    let first : spot_le w c ≡ true = all-contained (λ u. spot_le w u ≡ true) spots c least.1 m in
    ap (λ (o : Option Spot). unwrap_or o c) nothing ∙ elim (cases_Bool (spot_le c w)) [
      | inl le ↦ spot_le-antisym c w le first
      | inr gt ↦ absurd (false≢true (sym (same w least.0 ∙ none w least.0) ∙ not_false (spot_le c w) gt))
    ]

pub before_col : (c x : Spot) (col : ℕ) → c.col ≡ col + 1 → is_before x c ≡ spot_le x (at c.row col)
before_col c x col e = grind (arith, nat_tests, e)

pub before_row : (c x : Spot) (row wide : ℕ) → c.col ≡ 0 → c.row ≡ row + 1 → x.col ≤ wide → is_before x c ≡ spot_le x (at row wide)
before_row c x row wide e f l = grind (arith, nat_tests, e, f, l)

after_col : (c x : Spot) → is_before c x ≡ spot_le (at c.row (c.col + 1)) x
after_col c x = grind (arith, nat_tests)

after_row : (c x : Spot) → spot_le (at (c.row + 1) 0) x ≡ true → c.row < x.row
after_row c x h = grind (arith, nat_tests, h)

row_after : (c x : Spot) → c.row < x.row → (spot_le (at (c.row + 1) 0) x ≡ true) × (is_before c x ≡ true)
row_after c x l = (grind (arith, nat_tests, l), grind (arith, nat_tests, l))

not_after : (c x : Spot) → x.row ≡ c.row → spot_le (at c.row (c.col + 1)) x ≡ false → spot_le x c ≡ true
not_after c x e h = grind (arith, nat_tests, e, h)

-- Right: the clip for Right of the column after c, where that is after c
pub right-clipped : (spots : List Spot) (c w : Spot) (goal : ℕ) → Contains spots c → IsNearestAfter spots (at c.row (c.col + 1)) w → is_before c w ≡ true → moved spots c goal Right ≡ w
right-clipped spots c w goal m (LastOfRow v n same past last) h =
    absurd (false≢true (sym (after_from c w h) ∙ not_after c w same (past w n same)))
right-clipped spots c w goal m (LeastAfter v n le all within) h =
    ap (λ (o : Option Spot). unwrap_or o c)
    (least-is (λ x. is_before c x) spots w n h (λ x k b. all x k (sym (after_col c x) ∙ b)))
right-clipped spots c w goal m (GreatestOfAll v all none empty) h = absurd (empty c m refl)

-- otherwise that of the next row's start, or c itself where that isn't after c either
row_first : (c x : Spot) → x.row ≡ c.row + 1 → spot_le (at (c.row + 1) 0) x ≡ true
row_first c x e = grind (arith, nat_tests, e)

later_or_row : (c x : Spot) → is_before c x ≡ true → (x.row ≡ c.row) ⊎ (c.row < x.row)
later_or_row c x h = elim (cases_lt c.row x.row) [
  | inl l ↦ inr l
  | inr l ↦ inl (grind (arith, nat_tests, h, l))
]

-- c is the last valid spot of its row
last-of : (spots : List Spot) (c w : Spot) → Contains spots c → IsNearestAfter spots (at c.row (c.col + 1)) w → is_before c w ≡ false → (x : Spot) → Contains spots x → is_before c x ≡ true → c.row < x.row
last-of spots c w m (LastOfRow v n same past last) h x k b = elim (later_or_row c x b) [
  | inl e ↦ absurd (false≢true (sym (past x k e) ∙ (sym (after_col c x) ∙ b)))
  | inr l ↦ l
]
last-of spots c w m (LeastAfter v n le all within) h x k b = absurd (false≢true (sym h ∙ (after_col c w ∙ le)))
last-of spots c w m (GreatestOfAll v all none empty) h x k b = absurd (empty c m refl)

pub right-clipped_below : (spots : List Spot) (c w v : Spot) (goal : ℕ) → Contains spots c → IsNearestAfter spots (at c.row (c.col + 1)) w → is_before c w ≡ false → IsNearestAfter spots (at (c.row + 1) 0) v → moved spots c goal Right ≡ v
right-clipped_below spots c w v goal m near h (LastOfRow u n same past last) =
    absurd (false≢true (sym (past v n same) ∙ row_first c v same))
right-clipped_below spots c w v goal m near h (LeastAfter u n le all within) =
    ap (λ (o : Option Spot). unwrap_or o c)
    (least-is (λ x. is_before c x) spots v n (row_after c v (after_row c v le)).1
    (λ x k b. all x k (row_after c x (last-of spots c w m near h x k b)).0))
right-clipped_below spots c w v goal m near h (GreatestOfAll u all none empty) =
    ap (λ (o : Option Spot). unwrap_or o c)
    (none-least (λ x. is_before c x) spots (λ x k. elim (cases_Bool (is_before c x)) [
      | inl b ↦ absurd (false≢true (sym (none x k) ∙ (row_after c x (last-of spots c w m near h x k b)).0))
      | inr b ↦ b
    ]))
    ∙ spot_le-antisym c v (all-contained (λ u. spot_le u v ≡ true) spots c all.1 m) (elim (cases_Bool (spot_le v c)) [
      | inl le ↦ le
      | inr gt ↦ absurd (false≢true (sym (none v all.0) ∙ (row_after c v (last-of spots c w m near h v all.0 (not_false (spot_le v c) gt))).0))
    ])

-- Start and End: the clip of the row's first column for Right, and of its last for Left
from_start : (c x : Spot) → x.row ≡ c.row → spot_le (at c.row 0) x ≡ true
from_start c x e = grind (arith, nat_tests, e)

pub between_rows : (row : ℕ) (w c : Spot) → spot_le (at row 0) w ≡ true → spot_le w c ≡ true → c.row ≡ row → w.row ≡ row
between_rows row w c h k e =
    let low : row ≤ w.row = grind (arith, nat_tests, h) in
    let high : w.row ≤ c.row = grind (arith, nat_tests, k) in
    omega (arith, low, high, e)

pub start-clipped : (spots : List Spot) (c w : Spot) (goal : ℕ) → Contains spots c → IsNearestAfter spots (at c.row 0) w → moved spots c goal Start ≡ w
start-clipped spots c w goal m (LastOfRow v n same past last) = absurd (false≢true (sym (past c m refl) ∙ from_start c c refl))
start-clipped spots c w goal m (LeastAfter v n le all within) =
    let row : w.row ≡ c.row = between_rows c.row w c le (all c m (from_start c c refl)) refl in
    ap (λ (o : Option Spot). unwrap_or o c)
    (least-is (λ x. x.row == c.row) spots w n (row_test w c.row row) (λ x k h. all x k (from_start c x (row_of_test x c.row h))))
start-clipped spots c w goal m (GreatestOfAll v all none empty) = absurd (empty c m refl)

to_end : (c x : Spot) (wide : ℕ) → x.row ≡ c.row → x.col ≤ wide → spot_le x (at c.row wide) ≡ true
to_end c x wide e l = grind (arith, nat_tests, e, l)

rows_between : (row wide : ℕ) (w c : Spot) → spot_le w (at row wide) ≡ true → spot_le c w ≡ true → c.row ≡ row → w.row ≡ row
rows_between row wide w c h k e =
    let high : w.row ≤ row = grind (arith, nat_tests, h) in
    let low : c.row ≤ w.row = grind (arith, nat_tests, k) in
    omega (arith, low, high, e)

pub end-clipped : (spots : List Spot) (c w : Spot) (goal wide : ℕ) → ((x : Spot) → Contains spots x → x.col ≤ wide) → Contains spots c → IsNearestBefore spots (at c.row wide) w → moved spots c goal End ≡ w
end-clipped spots c w goal wide cols m (GreatestBefore v n le all) =
    let row : w.row ≡ c.row = rows_between c.row wide w c le (all c m (to_end c c wide refl (cols c m))) refl in
    ap (λ (o : Option Spot). unwrap_or o c)
    (greatest-is (λ x. x.row == c.row) spots w n (row_test w c.row row) (λ x k h. all x k (to_end c x wide (row_of_test x c.row h) (cols x k))))
end-clipped spots c w goal wide cols m (LeastOfAll v first none) = absurd (false≢true (sym (none c m) ∙ to_end c c wide refl (cols c m)))

-- at the goal of a row that has a spot: the clip of the goal where that is in the row. Else it is the clip of the row's
-- first column
goal_le : (row goal : ℕ) (x : Spot) → x.row ≡ row → nat_le x.col goal ≡ true → spot_le x (at row goal) ≡ true
goal_le row goal x e h = grind (arith, nat_tests, e, h)

le_goal : (row goal : ℕ) (x : Spot) → x.row ≡ row → spot_le x (at row goal) ≡ true → nat_le x.col goal ≡ true
le_goal row goal x e h = grind (arith, nat_tests, e, h)

pub goal-clipped : (spots : List Spot) (goal row : ℕ) (w : Spot) → IsNearestBefore spots (at row goal) w → w.row ≡ row → at_goal goal (in_row row spots) ≡ Some w
goal-clipped spots goal row w (GreatestBefore v n le all) e =
    ap (λ (o : Option Spot). option_or o (least (in_row row spots)))
    (greatest-is (λ s. nat_le s.col goal) (in_row row spots) w (contains-filtered (λ s. s.row == row) spots w n (row_test w row e)) (le_goal row goal w e le)
    (λ x k h. let of = contains-unfiltered (λ s. s.row == row) spots x k in all x of.0 (goal_le row goal x (row_of_test x row of.1) h)))
goal-clipped spots goal row w (LeastOfAll v first none) e =
    ap (λ (o : Option Spot). option_or o (least (in_row row spots)))
    (none-greatest (λ s. nat_le s.col goal) (in_row row spots) (λ x k. elim (cases_Bool (nat_le x.col goal)) [
      | inl h ↦
          let of = contains-unfiltered (λ s. s.row == row) spots x k in
          absurd (false≢true (sym (none x of.0) ∙ goal_le row goal x (row_of_test x row of.1) h))
      | inr h ↦ h
    ]))
    ∙ least-is (λ s. s.row == row) spots w first.0 (row_test w row e) (λ x k h. all-contained (λ u. spot_le w u ≡ true) spots x first.1 k)

earlier_row : (row goal : ℕ) (w x : Spot) → spot_le w (at row goal) ≡ true → w.row ≢ row → x.row ≡ row → spot_le x w ≡ false
earlier_row row goal w x h ne e = elim (cases_lt w.row row) [
  | inl l ↦ grind (arith, nat_tests, l, e)
  | inr l ↦ let up : w.row ≤ row = grind (arith, nat_tests, h) in absurd (ne (omega (arith, l, up)))
]

-- what at_goal is where the clip of the goal isn't in the row
pub goal-clipped_start : (spots : List Spot) (goal row : ℕ) (e w v : Spot) → Contains spots e → e.row ≡ row → IsNearestBefore spots (at row goal) w → w.row ≢ row → IsNearestAfter spots (at row 0) v → at_goal goal (in_row row spots) ≡ Some v
goal-clipped_start spots goal row e w v m here near ne first =
    ap (λ (o : Option Spot). option_or o (least (in_row row spots)))
    (none-greatest (λ s. nat_le s.col goal) (in_row row spots) (λ x k. past x k near (cases_Bool (nat_le x.col goal))))
    ∙ start where
      past : (x : Spot) → Contains (in_row row spots) x → IsNearestBefore spots (at row goal) w → (nat_le x.col goal ≡ true) ⊎ (nat_le x.col goal ≡ false) → nat_le x.col goal ≡ false
      past x k near (inr h) = h
      past x k (GreatestBefore u n le all) (inl h) =
          let of = contains-unfiltered (λ s. s.row == row) spots x k in
          let is = row_of_test x row of.1 in
          absurd (false≢true (sym (earlier_row row goal w x le ne is) ∙ all x of.0 (goal_le row goal x is h)))
      past x k (LeastOfAll u least none) (inl h) =
          let of = contains-unfiltered (λ s. s.row == row) spots x k in
          absurd (false≢true (sym (none x of.0) ∙ goal_le row goal x (row_of_test x row of.1) h))

      first' : IsNearestAfter spots (at e.row 0) v
      first' = subst (λ (n : ℕ). IsNearestAfter spots (at n 0) v) (sym here) first

      is : (u : Spot) × (moved spots e goal Start ≡ u) × (least (in_row e.row spots) ≡ Some u) × Contains spots u × (u.row ≡ e.row) × ((x : Spot) → Contains spots x → x.row ≡ e.row → spot_le u x ≡ true)
      is = start-is spots e goal m

      start : least (in_row row spots) ≡ Some v
      start =
          ap (λ (n : ℕ). least (in_row n spots)) (sym here) ∙ is.2
          ∙ ap (λ (s : Spot). Some s) (sym is.1 ∙ start-clipped spots e v goal m first')

-- the nearest row above: that of the clip of the last column of the row before
above_row : (c x : Spot) (row wide : ℕ) → c.row ≡ row + 1 → x.col ≤ wide → nat_lt x.row c.row ≡ spot_le x (at row wide)
above_row c x row wide e l = grind (arith, nat_tests, e, l)

pub above-clipped : (spots : List Spot) (c w : Spot) (row wide : ℕ) → ((x : Spot) → Contains spots x → x.col ≤ wide) → c.row ≡ row + 1 → IsNearestBefore spots (at row wide) w → w.row < c.row → greatest (above c spots) ≡ Some w
above-clipped spots c w row wide cols e (GreatestBefore v n le all) l =
    greatest-is (λ s. nat_lt s.row c.row) spots w n (above_row c w row wide e (cols w n) ∙ le) (λ x k h. all x k (sym (above_row c x row wide e (cols x k)) ∙ h))
above-clipped spots c w row wide cols e (LeastOfAll v first none) l =
    absurd (false≢true (sym (none w first.0) ∙ (sym (above_row c w row wide e (cols w first.0)) ∙ test w.row c.row l))) where
      test : (a b : ℕ) → a < b → nat_lt a b ≡ true
      test a b l = grind (arith, nat_tests, l)

-- where that clip isn't above, no spot is, and the clip is the first of all
pub above-none : (spots : List Spot) (c w : Spot) (row wide goal : ℕ) → ((x : Spot) → Contains spots x → x.col ≤ wide) → c.row ≡ row + 1 → IsNearestBefore spots (at row wide) w → c.row ≤ w.row → moved spots c goal Up ≡ w
above-none spots c w row wide goal cols e (GreatestBefore v n le all) l =
    absurd (false≢true (sym (no w.row c.row l) ∙ (above_row c w row wide e (cols w n) ∙ le))) where
      no : (a b : ℕ) → b ≤ a → nat_lt a b ≡ false
      no a b l = grind (arith, nat_tests, l)
above-none spots c w row wide goal cols e (LeastOfAll v first none) l =
    ap (λ (o : Option Spot). unwrap_or (in_row_of spots goal o (least spots)) c)
    (none-greatest (λ s. nat_lt s.row c.row) spots (λ x k. above_row c x row wide e (cols x k) ∙ none x k))
    ∙ ap (λ (o : Option Spot). unwrap_or o c) (all-least spots w first.0 (λ x k. all-contained (λ u. spot_le w u ≡ true) spots x first.1 k)) where
      all-least : (xs : List Spot) (w : Spot) → Contains xs w → ((x : Spot) → Contains xs x → spot_le w x ≡ true) → least xs ≡ Some w
      all-least xs w m all =
          let u = found-least xs w m in
          u.1 ∙ ap (λ (s : Spot). Some s) (spot_le-antisym u.0 w (u.3 w m) (all u.0 u.2))

-- the nearest row below: that of the clip for Right of the next row's first column
below_row : (c x : Spot) → nat_lt c.row x.row ≡ spot_le (at (c.row + 1) 0) x
below_row c x = grind (arith, nat_tests)

pub below-clipped : (spots : List Spot) (c w : Spot) → IsNearestAfter spots (at (c.row + 1) 0) w → c.row < w.row → least (below c spots) ≡ Some w
below-clipped spots c w (LastOfRow v n same past last) l = absurd (false≢true (sym (past w n same) ∙ row_first c w same))
below-clipped spots c w (LeastAfter v n le all within) l =
    least-is (λ s. nat_lt c.row s.row) spots w n (below_row c w ∙ le) (λ x k h. all x k (sym (below_row c x) ∙ h))
below-clipped spots c w (GreatestOfAll v all none empty) l =
    absurd (false≢true (sym (none w all.0) ∙ (row_after c w l).0))

pub below-none : (spots : List Spot) (c w : Spot) (goal : ℕ) → IsNearestAfter spots (at (c.row + 1) 0) w → w.row ≤ c.row → moved spots c goal Down ≡ w
below-none spots c w goal (LastOfRow v n same past last) l = absurd (false≢true (sym (past w n same) ∙ row_first c w same))
below-none spots c w goal (LeastAfter v n le all within) l = let low = after_row c w le in absurd (omega (arith, low, l))
below-none spots c w goal (GreatestOfAll v all none empty) l =
    ap (λ (o : Option Spot). unwrap_or (in_row_of spots goal o (greatest spots)) c)
    (none-least (λ s. nat_lt c.row s.row) spots (λ x k. below_row c x ∙ none x k))
    ∙ ap (λ (o : Option Spot). unwrap_or o c) (all-greatest spots w all.0 (λ x k. all-contained (λ u. spot_le u w ≡ true) spots x all.1 k)) where
      all-greatest : (xs : List Spot) (w : Spot) → Contains xs w → ((x : Spot) → Contains xs x → spot_le x w ≡ true) → greatest xs ≡ Some w
      all-greatest xs w m all =
          let u = found-greatest xs w m in
          u.1 ∙ ap (λ (s : Spot). Some s) (spot_le-antisym u.0 w (all u.0 u.2) (u.3 w m))
