-- The lines of a source with folds, by those of its layer.
use Rattle.std.proofs.Common.{◌≡◌, ℕ, suc, zero, ◌+◌, ◌-◌, ◌<◌, ◌≤◌, ◌^◌, List, [], ◌∷◌, length, take, refl, sym, ap, ◌∙◌, subst, arith, take_all}
use Rattle.std.specs.List.{count_by}
use Rattle.std.proofs.lemmas.List.{drop_all}
use Rattle.std.proofs.lemmas.Option.{slice_get_past}
use Rattle.cell_units.specs.Folded.{span_end}
use Rattle.cell_units.specs.Inlaid.{is_break}
use Rattle.cell_units.specs.Layers.{Source, line_tokens, shown_lines, shown_text, unfolded}
use Rattle.cell_units.specs.Record.{line_count}
use Rattle.cell_units.proofs.BufferLines.{line_count-is}
use Rattle.cell_units.proofs.ShownText.{length-shown_lines}
use Rattle.joined_folds.specs.declared.joined_fold.JoinedFold.{JoinedFold}
use Rattle.joined_folds.proofs.JoinedLists.{covered_past}
use Rattle.sum_core.specs.declared.load.NoLoad.{NoLoad}
use Rattle.splice_tree.specs.Splices.{IsFirstUpper, Piece, covered}
use Rattle.cell_units.specs.declared.place.Bias.TheVariants.{Left}
use Rattle.fold_map.specs.Amounts.{feeds_of, nothing, together}
use Rattle.fold_map.specs.declared.amount.Amount.{Amount}
use Rattle.fold_map.specs.declared.lines.LineStart.{LineStart}
use Rattle.fold_map.specs.Lines.{CoverLines, IsLineStart, LineFits, lines_of}
use Rattle.fold_map.specs.Splices.{AreSplices, splices_from}
use Rattle.fold_map.specs.Spots.{CoverBytes, shown_bytes}
use Rattle.fold_map.proofs.LinesFound.{StartsAt, breaks-above, breaks-below, last-row, last-rows, starts-at}
use Rattle.fold_map.proofs.ShownSplices.{AreSpliced, in-splices, sums}
use Rattle.fold_map.proofs.Sums.{breaks-append}
use Rattle.fold_map.proofs.SpotsShown.{all-spliced, in-spot, long-above, long-below, out-at_end, tokens}

-- where a seek by line feeds finds a line
pub start-is : (ps : List (Piece Amount NoLoad)) (line : ℕ) (at : LineStart) → IsFirstUpper nothing together feeds_of ps line Left at.index → at.before ≡ covered nothing together (take at.index ps)
    → at.below ≡ at.before.lower.feeds + (line - at.before.upper.feeds) → IsLineStart ps line at
start-is ps line at first before below = record { first = first; before = before; behind = omega (arith, ap (λ x. x.upper.feeds) before, behind at.index first.short); below = below } where
  behind : (n : ℕ) → (0 < n → (sums (take n ps)).upper.feeds < line) → (sums (take n ps)).upper.feeds ≤ line
  behind zero h = omega arith
  behind (suc n) h = omega (arith, h (omega arith))

module _ (s : Source) (ps : List (Piece Amount NoLoad)) (are : AreSplices s ps) where
  pub lines-above : length (shown_lines s) ≡ line_count (shown_text s)
  lines-above = length-shown_lines s (out-at_end s ps are, covered_past s.folds (length s.text) (length s.text) are.all.0 (omega arith))

  pub lines-below : length (shown_lines (unfolded s)) ≡ line_count (shown_text (unfolded s))
  lines-below = length-shown_lines (unfolded s) (refl, refl)

  -- ---- how many there are

  -- How many lines splices cover, on either side.
  pub record CoveredLines : Type 0 where
    pub below : (sums ps).lower.feeds < length (shown_lines (unfolded s))
    pub order : (sums ps).upper.feeds ≤ (sums ps).lower.feeds
    pub same : length (shown_lines s) + (sums ps).lower.feeds ≡ length (shown_lines (unfolded s)) + (sums ps).upper.feeds

  fewer : (base : ℕ) (js : List JoinedFold) → (sums (splices_from (unfolded s) base js)).upper.feeds ≤ (sums (splices_from (unfolded s) base js)).lower.feeds
  fewer base [] = omega arith
  fewer base (j ∷ js) = omega (arith, fewer j.end js)

  pub cover-lines : CoveredLines
  cover-lines =
      let all_below = tokens s ps are [] in
      let all_above = tokens s ps are s.folds in
      let i = in-splices s 0 ps all_below all_above (length ps) (all-spliced s ps are) in
      let rest : i.rest_below ≡ i.rest_above = subst (λ (qs : List (Piece Amount NoLoad)). AreSpliced s i.offset qs i.rest_below i.rest_above) (drop_all (length ps) ps (omega arith)) i.rest in
      let whole : take (length ps) ps ≡ ps = take_all (length ps) ps (omega arith) in
      let lower : (sums (take (length ps) ps)).lower.feeds ≡ (sums ps).lower.feeds = ap (λ (qs : List (Piece Amount NoLoad)). (sums qs).lower.feeds) whole in
      let upper : (sums (take (length ps) ps)).upper.feeds ≡ (sums ps).upper.feeds = ap (λ (qs : List (Piece Amount NoLoad)). (sums qs).upper.feeds) whole in
      let below = ap (count_by is_break) i.below_is ∙ breaks-append i.front_below i.rest_below in
      let above = ap (count_by is_break) i.above_is ∙ breaks-append i.front_above i.rest_above in
      let same = ap (count_by is_break) rest in
      record {
        below = omega (arith, lines-below, line_count-is (shown_text (unfolded s)), breaks-below s ps are, below, i.lower.feeds, lower);
        order = subst (λ (qs : List (Piece Amount NoLoad)). (sums qs).upper.feeds ≤ (sums qs).lower.feeds) (sym are.spliced) (fewer 0 are.joined);
        same = omega (
          arith,
          lines-below,
          lines-above,
          line_count-is (shown_text (unfolded s)),
          line_count-is (shown_text s),
          breaks-below s ps are,
          breaks-above s ps are,
          below,
          above,
          same,
          i.lower.feeds,
          i.upper.feeds,
          lower,
          upper,
        );
      }

  -- as the contracts say it
  pub lines-covered : CoverLines ps (length (shown_lines (unfolded s)))
  lines-covered = let l = cover-lines in record { within = omega (arith, l.below); fewer = l.order }

  pub lines-are : lines_of ps (length (shown_lines (unfolded s))) ≡ length (shown_lines s)
  lines-are = let l = cover-lines in omega (arith, l.below, l.same)

  pub lines-fewer : length (shown_lines s) ≤ length (shown_lines (unfolded s))
  lines-fewer = let l = cover-lines in omega (arith, l.order, l.same)

  -- How many bytes splices cover, on either side.
  pub record CoveredBytes : Type 0 where
    pub below : (sums ps).lower.bytes ≤ length (shown_text (unfolded s))
    pub same : length (shown_text s) + (sums ps).lower.bytes ≡ length (shown_text (unfolded s)) + (sums ps).upper.bytes

  pub cover-bytes : CoveredBytes
  cover-bytes =
      let all = in-spot s ps are (length ps) in
      let behind = all.none (slice_get_past ps (length ps) (omega arith)) in
      let whole : take (length ps) ps ≡ ps = take_all (length ps) ps (omega arith) in
      let lower : (sums (take (length ps) ps)).lower.bytes ≡ (sums ps).lower.bytes = ap (λ (qs : List (Piece Amount NoLoad)). (sums qs).lower.bytes) whole in
      let upper : (sums (take (length ps) ps)).upper.bytes ≡ (sums ps).upper.bytes = ap (λ (qs : List (Piece Amount NoLoad)). (sums qs).upper.bytes) whole in
      let below = long-below (shown_text (unfolded s)) (shown_text s) (sums (take (length ps) ps)) all.mid all.alike in
      let above = long-above (shown_text (unfolded s)) (shown_text s) (sums (take (length ps) ps)) all.mid all.alike in
      let none_below = ap (λ (l : List ℕ). length l) behind.0 in
      let none_above = ap (λ (l : List ℕ). length l) behind.1 in
      record {
        below = omega (arith, below, lower);
        same = omega (arith, below, above, none_below, none_above, lower, upper);
      }

  pub bytes-covered : length (shown_text s) < 2 ^ 32 → CoverBytes ps (length (shown_text (unfolded s)))
  bytes-covered small = let b = cover-bytes in record { within = omega (arith, b.below); fits = omega (arith, b.below, b.same, small) }

  pub bytes-are : shown_bytes ps (length (shown_text (unfolded s))) ≡ length (shown_text s)
  bytes-are = let b = cover-bytes in omega (arith, b.below, b.same)

  -- ---- where one starts

  module _ (line : ℕ) (at : LineStart) (start : IsLineStart ps line at) (lt : line < length (shown_lines s)) where
    pub line-lt : line < line_count (shown_text s)
    line-lt = omega (arith, lt, lines-above)

    pub place-at : StartsAt s ps are line at start line-lt
    place-at = starts-at s ps are line at start line-lt

    pub there-at : at.below < length (shown_lines (unfolded s))
    there-at = omega (arith, lines-below, place-at.there)

  pub line-fits : (line : ℕ) → line < length (shown_lines s) → length (shown_lines (unfolded s)) < 2 ^ 32 → LineFits ps line
  line-fits line lt small at start = omega (arith, there-at line at start lt, small)

  -- ---- where one ends

  -- The lower layer's line ends in the row in which the display line ends.
  pub record IsLastBelow (line below : ℕ) : Type 0 where
    pub there : below < length (shown_lines (unfolded s))
    pub row : span_end s.text (line_tokens s line) ≡ span_end s.text (line_tokens (unfolded s) below)

  pub ends-before : (line : ℕ) (at : LineStart) (start : IsLineStart ps (line + 1) at) → line + 1 < length (shown_lines s) → (1 ≤ at.below) × IsLastBelow line (at.below - 1)
  ends-before line at start lt =
      let next = line-lt (line + 1) at start lt in
      let one : line + 1 ≡ suc line = omega arith in
      let r = last-row s ps are (line + 1) at start next line one in
      let m : r.0 ≡ at.below - 1 = omega (arith, r.1) in (
        omega (arith, r.1),
        record {
          there = omega (arith, there-at (line + 1) at start lt);
          row = r.2 ∙ ap (λ (k : ℕ). span_end s.text (line_tokens (unfolded s) k)) m;
        },
      )

  pub ends-last : (line : ℕ) → line < length (shown_lines s) → length (shown_lines s) ≤ line + 1 → (1 ≤ length (shown_lines (unfolded s))) × IsLastBelow line (length (shown_lines (unfolded s)) - 1)
  ends-last line lt le =
      let m = length (shown_lines (unfolded s)) - 1 in
      let some : length (shown_lines (unfolded s)) ≡ suc m = omega (arith, lines-below, line_count-is (shown_text (unfolded s))) in (
        omega (arith, some),
        record {
          there = omega (arith, some);
          row = last-rows s ps are line m (omega (arith, lt, le, lines-above)) (omega (arith, some, lines-below));
        },
      )
