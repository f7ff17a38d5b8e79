-- The stops of one side after a `sync`: those that edits carry are where those made anew would be.
use Rattle.std.proofs.Common.{◌≡◌, ℕ, zero, suc, ◌+◌, ◌-◌, ◌^◌, ◌<◌, ◌≤◌, Bool, true, false, cond, List, [], ◌∷◌, Option, Some, None, length, map, take, get_or, sum_by, refl, sym, ap, subst, ◌∙◌, arith, inl, inr, ◌⊎◌}
use Rattle.std.specs.List.{All, Contains, slice_get}
use Rattle.std.proofs.lemmas.Bool.{ne_eqb}
use Rattle.std.proofs.lemmas.List.{length-append, length-map}
use Rattle.std.proofs.lemmas.List.Sums.{sum_by-cons}
use Rattle.std.proofs.lemmas.Option.{same_Some}
use Rattle.cell_units.specs.declared.place.Bias.{Bias}
use Rattle.cell_units.specs.declared.place.Bias.TheVariants.{Left, Right}
use Rattle.cell_units.specs.declared.place.Shift.{Shift}
use Rattle.cell_units.specs.declared.place.Side.{Side}
use Rattle.cell_units.specs.declared.place.Side.TheVariants.{Above, Below}
use Rattle.cell_units.specs.Layers.{Source}
use Rattle.cell_units.specs.Rows.{HaveRows, all_rows, line_rows, rows_before}
use Rattle.cell_units.specs.Anchor.{move}
use Rattle.cell_units.specs.Sorting.{insert_by, sort_by}
use Rattle.cell_units.specs.Text.{row_end, row_start}
use Rattle.edit_patch.specs.declared.edit.Edit.{Edit}
use Rattle.edit_patch.specs.Came.{carry_of}
use Rattle.edit_patch.specs.Patch.{IsPatch}
use Rattle.edit_patch.proofs.Inverse.{back}
use Rattle.plain_rows.proofs.RisingLines.{line_of-rises, row_end-rises, row_end-within, row_start-le, row_start-rises}
use Rattle.mark_tree.specs.Marks.{mark_le, move_mark, moved_marks}
use Rattle.mark_tree.proofs.Changing.{all-from_every}
use Rattle.mark_tree.proofs.Order.{in_order-cases}
use Rattle.mark_tree.proofs.Sorting.{Every, IsSorted, Member, length-sort, member-from_contains, sort-map}
use Rattle.block_map.specs.Follows.{Follows, GoesTo, block_height, moved_one}
use Rattle.block_map.specs.Maps.{Kept, fresh, kept_le, line_of_kept, moved_kept, move_kept, row_at_line, row_of_kept}
use Rattle.block_map.specs.Stops.{Stop, all_stop_rows}
use Rattle.block_map.specs.inside.RowMoves.{IsKeptStop, carried, own}
use Rattle.block_map.specs.inside.SideMoves.{IsSideFollowed, IsUnmet, LeaveCarried, MayBeCarried, bias_of, mark_after, marks_after, stop_of_mark, stops_of_marks}
use Rattle.block_map.specs.inside.Sides.{ArePaired, BlockMark, IsOf, kept, kept_of, shown_at}
use Rattle.block_map.specs.inside.StopLists.{AreRising, StopsFit}
use Rattle.block_map.specs.inside.TwoSides.{WasAtLine}
use Rattle.block_map.specs.inside.Without.{IsRising, without}
use Rattle.block_map.proofs.EditMoves.{stop_at}
use Rattle.block_map.proofs.LeftOut.{every-other, map-other}
use Rattle.block_map.proofs.LineStarts.{rows_before-next, rows_before-rises}
use Rattle.block_map.proofs.MovedMarks.{moved-at}
use Rattle.block_map.proofs.PairedSides.{mark_of_kept, marks-of, paired-length}
use Rattle.block_map.proofs.StopCarries.{carried-stop}
use Rattle.block_map.proofs.StopLoops.{get-lt, got}
use Rattle.block_map.proofs.StopSizes.{IsUpto, fit-upto}

Lines : Type 0
Lines = List (List (List ℕ))

module _ {X : Type 0} where
  pub all-at : (P : X → Type 0) (xs : List X) (k : ℕ) (x : X) → All P xs → slice_get xs k ≡ Some x → P x
  all-at P xs k x all e =
      let lt = get-lt xs k x e in
      subst P (same_Some (get_or xs k x) x (sym (got xs k x lt) ∙ e)) (all k x lt)

pub get-map : {X Y : Type 0} (f : X → Y) (xs : List X) (k : ℕ) (x : X) → slice_get xs k ≡ Some x → slice_get (map f xs) k ≡ Some (f x)
get-map f [] zero x e = absurd (cc)
get-map f [] (suc k) x e = absurd (cc)
get-map f (y ∷ ys) zero x e = let g : y ≡ x = cc in ap (λ z. Some (f z)) g
get-map f (y ∷ ys) (suc k) x e = get-map f ys k x e

-- ---- marks with their stops

kept-at : (ms : List BlockMark) (ss : List Stop) (k : ℕ) (m : BlockMark) (s : Stop) → slice_get ms k ≡ Some m → slice_get ss k ≡ Some s → slice_get (kept_of ms ss) k ≡ Some (kept m s)
kept-at [] ss zero m s e f = absurd (cc)
kept-at [] ss (suc k) m s e f = absurd (cc)
kept-at (n ∷ ms) [] zero m s e f = absurd (cc)
kept-at (n ∷ ms) [] (suc k) m s e f = absurd (cc)
kept-at (n ∷ ms) (t ∷ ss) zero m s e f = let x : n ≡ m = cc in let y : t ≡ s = cc in λ i. Some (kept (x i) (y i))
kept-at (n ∷ ms) (t ∷ ss) (suc k) m s e f = kept-at ms ss k m s e f

pub pair-at : (ms : List BlockMark) (ss : List Stop) (k : ℕ) (m : BlockMark) (s : Stop) → ArePaired ms ss → slice_get ms k ≡ Some m → slice_get ss k ≡ Some s → IsOf m s
pair-at [] ss zero m s p e f = absurd (cc)
pair-at [] ss (suc k) m s p e f = absurd (cc)
pair-at (n ∷ ms) [] k m s p e f = absurd p
pair-at (n ∷ ms) (t ∷ ss) zero m s p e f = let x : n ≡ m = cc in let y : t ≡ s = cc in subst (λ (n : BlockMark). IsOf n s) x (subst (λ (t : Stop). IsOf n t) y p.0)
pair-at (n ∷ ms) (t ∷ ss) (suc k) m s p e f = pair-at ms ss k m s p.1 e f

pub shown-row : (s : Stop) → 0 < length s.lines → shown_at s ≡ Some s.row
shown-row s lt = ap (λ (b : Bool). cond b None (Some s.row)) (ne_eqb (length s.lines) 0 (λ e. omega (arith, lt, e)))

-- ---- a stop that may be carried

module _ (source : Source) (shift : Option Shift) (es : List Edit) (old new : List (List (List ℕ))) where
  -- where its own row is, and where that goes
  pub record Carried (side : Side) (m : BlockMark) (s : Stop) : Type 0 where
    pub row : ℕ
    pub j : ℕ
    pub at : s.row ≡ row + own (bias_of side)
    pub goes : carry_of es row ≡ Some j
    pub there : row_of_kept source new side (moved_one shift (kept m s)) ≡ j + own (bias_of side)

  pub carried-own : (side : Side) (m : BlockMark) (s : Stop) → IsPatch es → HaveRows old → (line : ℕ) → line < length old → s.row ≡ row_at_line old side line
      → GoesTo es old new line (line_of_kept source side (moved_one shift (kept m s))) → Carried side m s
  carried-own Above m s p have line lt at to =
      let other = line_of_kept source Above (moved_one shift (kept m s)) in
      let some : 0 < length (line_rows old line) = have line [] lt in
      record {
        row = rows_before old line + 0;
        j = rows_before new other + 0;
        at = omega (arith, at);
        goes = back es (rows_before new other + 0) (rows_before old line + 0) p (to.rows 0 some);
        there = omega arith;
      }
  carried-own Below m s p have line lt at to =
      let other = line_of_kept source Below (moved_one shift (kept m s)) in
      let some : 0 < length (line_rows old line) = have line [] lt in
      let last : ℕ = length (line_rows old line) - 1 in
      record {
        row = rows_before old line + last;
        j = rows_before new other + last;
        at = omega (arith, at, rows_before-next old line lt, some);
        goes = back es (rows_before new other + last) (rows_before old line + last) p (to.rows last (omega (arith, some)));
        there = omega (arith, rows_before-next new other to.there, to.size, some);
      }

  same-row : (side : Side) (m : BlockMark) (s : Stop) → m.bias ≡ Right → row_of_kept source new side (moved_one shift (kept m s)) ≡ (stop_of_mark source new side (mark_after shift m)).row
  same-row side m s right = go shift where
    go : (shift : Option Shift) → row_of_kept source new side (moved_one shift (kept m s)) ≡ (stop_of_mark source new side (mark_after shift m)).row
    go None = refl
    go (Some sh) = ap (λ (b : Bias). row_of_kept source new side (fresh m.id (move m.offset b sh.start sh.end sh.count) m.load)) (sym right)

module _ (source : Source) (shift : Option Shift) (es : List Edit) (old new : List (List (List ℕ))) (side : Side) (ms : List BlockMark) (ss : List Stop)
    (p : IsPatch es) (have : HaveRows old) (pairs : ArePaired ms ss) (sorted : IsSorted mark_le ms) (followed : IsSideFollowed source shift es old new side (kept_of ms ss)) where
  own-row : (k : ℕ) (m : BlockMark) (s : Stop) → slice_get ms k ≡ Some m → slice_get ss k ≡ Some s → MayBeCarried shift es old side m s → Carried source shift es old new side m s
  own-row k m s em es' may =
      let of = pair-at ms ss k m s pairs em es' in
      let there = kept-at ms ss k m s em es' in
      let some : 0 < length s.lines = omega (arith, of.lawful.some, ap length may.shown) in
      let row = shown-row s some in
      let stood = all-at (WasAtLine old side) (kept_of ms ss) k (kept m s) followed.stood there s.row row in
      let follows = all-at (Follows source shift es old new side) (kept_of ms ss) k (kept m s) followed.follows there in
      let line = stood.0 in
      carried-own source shift es old new side m s p have line stood.1 stood.2
      (follows line stood.1 (row ∙ ap (λ (r : ℕ). Some r) stood.2) (may.kept line stood.1 stood.2))

  mark-there : (k : ℕ) (m : BlockMark) → slice_get ms k ≡ Some m → IsUnmet shift m → slice_get (marks_after shift ms) k ≡ Some (mark_after shift m)
  mark-there k m e un = go shift un where
    go : (shift : Option Shift) → IsUnmet shift m → slice_get (marks_after shift ms) k ≡ Some (mark_after shift m)
    go None un = e
    go (Some s) un = moved-at s ms k m sorted e un

  same-load : (m : BlockMark) → (mark_after shift m).load ≡ m.load
  same-load m = go shift where
    go : (shift : Option Shift) → (mark_after shift m).load ≡ m.load
    go None = refl
    go (Some s) = refl

  -- it goes to where its block is then
  carried-there : (k : ℕ) (m : BlockMark) (s : Stop) → slice_get ms k ≡ Some m → slice_get ss k ≡ Some s → MayBeCarried shift es old side m s
      → carried (bias_of side) es s ≡ stop_of_mark source new side (mark_after shift m)
  carried-there k m s em es' may =
      let c = own-row k m s em es' may in
      let from : s ≡ stop_at (c.row + own (bias_of side)) s.lines = ap (λ (r : ℕ). stop_at r s.lines) c.at in
      let to : stop_at (c.j + own (bias_of side)) s.lines ≡ stop_of_mark source new side (mark_after shift m) =
      (λ i. stop_at ((sym c.there ∙ same-row source shift es old new side m s (pair-at ms ss k m s pairs em es').bias) i) ((may.shown ∙ sym (same-load m)) i)) in
      ap (carried (bias_of side) es) from ∙ carried-stop (bias_of side) es c.row c.j s.lines p c.goes ∙ to

  module _ (places : List ℕ) (rising : IsRising 0 places) (leave : LeaveCarried shift es old side ms ss places) where
    either-at : (k : ℕ) (s : Stop) → slice_get ss k ≡ Some s → (m : BlockMark) × ((slice_get ms k ≡ Some m) × (Member (0 + k) places ⊎ MayBeCarried shift es old side m s))
    either-at k s e =
        let d : BlockMark = record { offset = 0; bias = Right; id = 0; load = [] } in
        let lt : k < length ms = omega (arith, get-lt ss k s e, paired-length ms ss pairs) in
        let m = get_or ms k d in
        let there = got ms k d lt in
        (m, (there, turn k m s (leave k m s there e))) where
          turn : (k : ℕ) (m : BlockMark) (s : Stop) → Contains places k ⊎ MayBeCarried shift es old side m s → Member (0 + k) places ⊎ MayBeCarried shift es old side m s
          turn k m s o = elim o [
            | inl c ↦ inl (let z : k ≡ 0 + k = omega arith in subst (λ (n : ℕ). Member n places) z (member-from_contains k places c))
            | inr may ↦ inr may
          ]

    pub all-kept : All (IsKeptStop (bias_of side) es) (without places 0 ss)
    all-kept = all-from_every (IsKeptStop (bias_of side) es) (without places 0 ss) (every-other (IsKeptStop (bias_of side) es) places 0 ss rising each) where
      each : (k : ℕ) (s : Stop) → slice_get ss k ≡ Some s → Member (0 + k) places ⊎ IsKeptStop (bias_of side) es s
      each k s e =
          let found = either-at k s e in
          elim found.1.1 [
            | inl m ↦ inl m
            | inr may ↦ let c = own-row k found.0 s found.1.0 e may in inr (c.row, c.j, (c.at, c.goes))
          ]

    pub all-carried : map (carried (bias_of side) es) (without places 0 ss) ≡ without places 0 (stops_of_marks source new side (marks_after shift ms))
    all-carried = map-other (carried (bias_of side) es) places 0 ss (stops_of_marks source new side (marks_after shift ms)) rising long each where
      long : length ss ≡ length (stops_of_marks source new side (marks_after shift ms))
      long = omega (arith, paired-length ms ss pairs, length-map (marks_after shift ms) (stop_of_mark source new side), same-length shift) where
        same-length : (shift : Option Shift) → length (marks_after shift ms) ≡ length ms
        same-length None = refl
        same-length (Some s) = length-sort mark_le (map (move_mark s) ms) ∙ length-map ms (move_mark s)

      each : (k : ℕ) (s t : Stop) → slice_get ss k ≡ Some s → slice_get (stops_of_marks source new side (marks_after shift ms)) k ≡ Some t → Member (0 + k) places ⊎ (carried (bias_of side) es s ≡ t)
      each k s t e f =
          let found = either-at k s e in
          elim found.1.1 [
            | inl m ↦ inl m
            | inr may ↦
                let m = found.0 in
                let there = get-map (stop_of_mark source new side) (marks_after shift ms) k (mark_after shift m) (mark-there k m found.1.0 may.unmet) in
                inr (carried-there k m s found.1.0 e may ∙ same_Some (stop_of_mark source new side (mark_after shift m)) t (sym there ∙ f))
          ]

-- ---- all stops at their lines

module _ (source : Source) (lines : List (List (List ℕ))) where
  row-rises : (side : Side) (m n : BlockMark) → m.offset ≤ n.offset → n.offset ≤ length source.text → (stop_of_mark source lines side m).row ≤ (stop_of_mark source lines side n).row
  row-rises Above m n le within =
      let text = source.text in
      rows_before-rises lines (line_of_kept source Above (fresh m.id m.offset m.load)) (line_of_kept source Above (fresh n.id n.offset n.load))
      (line_of-rises text source.inlays source.folds (row_start text m.offset) (row_start text n.offset) Left (row_start-rises text m.offset n.offset le within) (omega (arith, row_start-le text n.offset, within)))
  row-rises Below m n le within =
      let text = source.text in
      rows_before-rises lines (line_of_kept source Below (fresh m.id m.offset m.load) + 1) (line_of_kept source Below (fresh n.id n.offset n.load) + 1)
      (let r = line_of-rises text source.inlays source.folds (row_end text m.offset) (row_end text n.offset) Right (row_end-rises text m.offset n.offset le within) (row_end-within text n.offset within) in omega (arith, r))

  offset-le : (m n : BlockMark) → mark_le m n ≡ true → m.offset ≤ n.offset
  offset-le m n e = go (in_order-cases m.offset n.offset _ e) where
    go : {A : Type 0} → (m.offset < n.offset) ⊎ ((m.offset ≡ n.offset) × A) → m.offset ≤ n.offset
    go (inl lt) = omega (arith, lt)
    go (inr e) = omega (arith, e.0)

  rising-from : (side : Side) (from : ℕ) (ms : List BlockMark) → IsSorted mark_le ms → Every (λ (m : BlockMark). m.offset ≤ length source.text) ms → Every (λ (m : BlockMark). from ≤ (stop_of_mark source lines side m).row) ms
      → AreRising from (stops_of_marks source lines side ms)
  rising-from side from [] s w low = tt
  rising-from side from (m ∷ ms) s w low = (low.0, rising-from side (stop_of_mark source lines side m).row ms s.1 w.1 (behind ms s.0 w.1)) where
    behind : (ns : List BlockMark) → Every (λ (n : BlockMark). mark_le m n ≡ true) ns → Every (λ (n : BlockMark). n.offset ≤ length source.text) ns → Every (λ (n : BlockMark). (stop_of_mark source lines side m).row ≤ (stop_of_mark source lines side n).row) ns
    behind [] a b = tt
    behind (n ∷ ns) a b = (row-rises side m n (offset-le m n a.0) b.0, behind ns a.1 b.1)

  pub stops-rise : (side : Side) (ms : List BlockMark) → IsSorted mark_le ms → Every (λ (m : BlockMark). m.offset ≤ length source.text) ms → AreRising 0 (stops_of_marks source lines side ms)
  stops-rise side ms s w = rising-from side 0 ms s w (low ms) where
    low : (ns : List BlockMark) → Every (λ (n : BlockMark). 0 ≤ (stop_of_mark source lines side n).row) ns
    low [] = tt
    low (n ∷ ns) = (omega arith, low ns)

  before-most : (ls : List (List (List ℕ))) (l : ℕ) → rows_before ls l ≤ length (all_rows ls)
  before-most [] zero = omega arith
  before-most [] (suc l) = omega arith
  before-most (x ∷ xs) zero = omega arith
  before-most (x ∷ xs) (suc l) = omega (arith, length-append x (all_rows (take l xs)), length-append x (all_rows xs), before-most xs l)

  upto-all : (side : Side) (ms : List BlockMark) → Every (IsUpto (length (all_rows lines))) (stops_of_marks source lines side ms)
  upto-all side [] = tt
  upto-all Above (m ∷ ms) = (before-most lines (line_of_kept source Above (fresh m.id m.offset m.load)), upto-all Above ms)
  upto-all Below (m ∷ ms) = (before-most lines (line_of_kept source Below (fresh m.id m.offset m.load) + 1), upto-all Below ms)

  heights-of : (side : Side) (ms : List BlockMark) → all_stop_rows (stops_of_marks source lines side ms) ≡ sum_by (λ (m : BlockMark). length m.load) ms
  heights-of side [] = refl
  heights-of side (m ∷ ms) =
      omega (arith, sum_by-cons (λ (s : Stop). length s.lines) (stop_of_mark source lines side m) (stops_of_marks source lines side ms), sum_by-cons (λ (m : BlockMark). length m.load) m ms, heights-of side ms)

  pub stops-fit : (side : Side) (ms : List BlockMark) → length (all_rows lines) + sum_by (λ (m : BlockMark). length m.load) ms < 2 ^ 32 → length ms < 2 ^ 32 → StopsFit (stops_of_marks source lines side ms)
  stops-fit side ms fits few =
      fit-upto (length (all_rows lines)) (stops_of_marks source lines side ms) (upto-all side ms) (omega (arith, heights-of side ms, fits)) (omega (arith, length-map ms (stop_of_mark source lines side), few))

-- ---- the marks after the replacement

sum-insert : (m : BlockMark) (ms : List BlockMark) → sum_by (λ (m : BlockMark). length m.load) (insert_by mark_le m ms) ≡ length m.load + sum_by (λ (m : BlockMark). length m.load) ms
sum-insert m [] = omega (arith, sum_by-cons (λ (m : BlockMark). length m.load) m [])
sum-insert m (n ∷ ms) = go (mark_le m n) (sum-insert m ms) where
  h : BlockMark → ℕ
  h m = length m.load

  go : (b : Bool) → sum_by (λ (m : BlockMark). length m.load) (insert_by mark_le m ms) ≡ length m.load + sum_by (λ (m : BlockMark). length m.load) ms
      → sum_by (λ (m : BlockMark). length m.load) (cond b (m ∷ n ∷ ms) (n ∷ insert_by mark_le m ms)) ≡ length m.load + sum_by (λ (m : BlockMark). length m.load) (n ∷ ms)
  go true r = sum_by-cons (λ (m : BlockMark). length m.load) m (n ∷ ms)
  go false r = omega (arith, r, sum_by-cons (λ (m : BlockMark). length m.load) n (insert_by mark_le m ms), sum_by-cons (λ (m : BlockMark). length m.load) n ms)

sum-moved : (s : Shift) (ms : List BlockMark) → sum_by (λ (m : BlockMark). length m.load) (moved_marks s ms) ≡ sum_by (λ (m : BlockMark). length m.load) ms
sum-moved s [] = refl
sum-moved s (m ∷ ms) = omega (arith, sum-insert (move_mark s m) (sort_by mark_le (map (move_mark s) ms)), sum-moved s ms, sum_by-cons (λ (m : BlockMark). length m.load) m ms)

pub heights-after : (shift : Option Shift) (ms : List BlockMark) → sum_by (λ (m : BlockMark). length m.load) (marks_after shift ms) ≡ sum_by (λ (m : BlockMark). length m.load) ms
heights-after None ms = refl
heights-after (Some s) ms = sum-moved s ms

pub heights-kept : (ms : List BlockMark) (ss : List Stop) → ArePaired ms ss → sum_by (λ (m : BlockMark). length m.load) ms ≡ block_height (kept_of ms ss)
heights-kept [] [] p = refl
heights-kept [] (s ∷ ss) p = absurd p
heights-kept (m ∷ ms) [] p = absurd p
heights-kept (m ∷ ms) (s ∷ ss) p = omega (arith, sum_by-cons (λ (m : BlockMark). length m.load) m ms, sum_by-cons (λ (k : Kept). length k.lines) (kept m s) (kept_of ms ss), heights-kept ms ss p.1)

-- what is kept moves as the marks do
pub marks-kept : (shift : Option Shift) (ms : List BlockMark) (ss : List Stop) → ArePaired ms ss → map mark_of_kept (moved_kept shift (kept_of ms ss)) ≡ marks_after shift ms
marks-kept None ms ss p = marks-of ms ss p
marks-kept (Some s) ms ss p =
    sort-map mark_of_kept kept_le mark_le (λ (k : Kept). Unit {0}) (λ x y a b. refl) (map (move_kept s) (kept_of ms ss)) (each (map (move_kept s) (kept_of ms ss)))
    ∙ ap (sort_by mark_le) (over (kept_of ms ss) ∙ ap (map (move_mark s)) (marks-of ms ss p)) where
      each : (ks : List Kept) → Every (λ (k : Kept). Unit {0}) ks
      each [] = tt
      each (k ∷ ks) = (tt, each ks)

      over : (ks : List Kept) → map mark_of_kept (map (move_kept s) ks) ≡ map (move_mark s) (map mark_of_kept ks)
      over [] = refl
      over (k ∷ ks) = ap (λ (l : List BlockMark). move_mark s (mark_of_kept k) ∷ l) (over ks)
