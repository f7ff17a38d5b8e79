-- How many rows the stops before a place have, one stop more at a time. And what splices cover of the text with the
-- rows of stops.
use Rattle.std.proofs.Common.{◌≡◌, ℕ, suc, ◌+◌, Bool, true, false, cond, nat_le, nat_lt, List, [], ◌∷◌, filter, sum_by, length, refl, ap, ◌∙◌, arith}
use Rattle.std.proofs.lemmas.Bool.Decides.{nat_tests}
use Rattle.std.proofs.lemmas.List.Sums.{sum_by-cons}
use Rattle.cell_units.specs.declared.place.Bias.{Bias}
use Rattle.cell_units.specs.declared.place.Bias.TheVariants.{Left, Right}
use Rattle.sum_core.specs.Sums.{total}
use Rattle.splice_tree.specs.Sides.{none, both}
use Rattle.splice_tree.specs.Splices.{piece_sum}
use Rattle.block_map.specs.RowCounts.{more_rows, no_rows}
use Rattle.block_map.specs.Stops.{Stop, all_stop_rows, rows_upto, stands_before}
use Rattle.block_map.specs.inside.StopLists.{AreStopPieces, StopPiece, stops_from}

not_before_on : (bias : Bias) (x o g : ℕ) (ls ms : List (List ℕ)) → stands_before bias x (record { row = o; lines = ls }) ≡ false → stands_before bias x (record { row = o + g; lines = ms }) ≡ false
not_before_on Left x o g ls ms e = go e where
  go : nat_lt o x ≡ false → nat_lt (o + g) x ≡ false
  go t = grind (arith, nat_tests)
not_before_on Right x o g ls ms e = go e where
  go : nat_le o x ≡ false → nat_le (o + g) x ≡ false
  go t = grind (arith, nat_tests)

abbrev pub height : Stop → ℕ
height s = length s.lines

-- one stop more
pub upto-cons : (bias : Bias) (x : ℕ) (s : Stop) (ss : List Stop) → rows_upto bias x (s ∷ ss) ≡ cond (stands_before bias x s) (length s.lines) 0 + rows_upto bias x ss
upto-cons bias x s ss = go (stands_before bias x s) where
  go : (b : Bool) → sum_by height (cond b (s ∷ filter (stands_before bias x) ss) (filter (stands_before bias x) ss)) ≡ cond b (length s.lines) 0 + rows_upto bias x ss
  go true = sum_by-cons height s (filter (stands_before bias x) ss)
  go false = omega arith

pub upto-skip : (bias : Bias) (x : ℕ) (s : Stop) (ss : List Stop) → stands_before bias x s ≡ false → rows_upto bias x (s ∷ ss) ≡ rows_upto bias x ss
upto-skip bias x s ss e =
    let test = ap (λ b. cond b (length s.lines) 0 + rows_upto bias x ss) e in
    omega (arith, upto-cons bias x s ss, test)

pub upto-take : (bias : Bias) (x : ℕ) (s : Stop) (ss : List Stop) → stands_before bias x s ≡ true → rows_upto bias x (s ∷ ss) ≡ length s.lines + rows_upto bias x ss
upto-take bias x s ss e = upto-cons bias x s ss ∙ ap (λ b. cond b (length s.lines) 0 + rows_upto bias x ss) e

pub none_further : (bias : Bias) (x o : ℕ) (ls : List (List ℕ)) (ps : List StopPiece) → stands_before bias x (record { row = o; lines = ls }) ≡ false → rows_upto bias x (stops_from o ps) ≡ 0
none_further bias x o ls [] e = refl
none_further bias x o ls (p ∷ ps) e =
    let here = not_before_on bias x o p.gap.rows ls p.load e in
    upto-skip bias x (record { row = o + p.gap.rows; lines = p.load }) (stops_from (o + p.gap.rows) ps) here
    ∙ none_further bias x (o + p.gap.rows) p.load ps here

pub length-stops : (o : ℕ) (ps : List StopPiece) → length (stops_from o ps) ≡ length ps
length-stops o [] = refl
length-stops o (p ∷ ps) = ap (λ n. suc n) (length-stops (o + p.gap.rows) ps)

-- what all splices cover of the text, and of the text with the rows of stops
pub sums-are : (o : ℕ) (ps : List StopPiece) → AreStopPieces ps → let sum = total (none no_rows) (both more_rows) (piece_sum more_rows) ps in sum.upper.rows ≡ sum.lower.rows + all_stop_rows (stops_from o ps)
sums-are o [] are = refl
sums-are o (p ∷ ps) are =
    let next = sums-are (o + p.gap.rows) ps are.1 in
    let all = sum_by-cons height (record { row = o + p.gap.rows; lines = p.load }) (stops_from (o + p.gap.rows) ps) in
    omega (arith, next, all, are.0.0, are.0.1)
