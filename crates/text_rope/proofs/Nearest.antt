-- What is found in the chunk of an offset: the nearest boundaries, and the row.
use Rattle.std.proofs.Common.{◌≡◌, ℕ, ◌+◌, ◌-◌, ◌<◌, ◌≤◌, List, [], length, length-take, count_by, take, get_or, ap, sym, ◌∙◌, subst, arith}
use Rattle.std.specs.List.{concat}
use Rattle.std.specs.Str.{IsCharBoundary}
use Rattle.cell_units.specs.Text.{is_feed, row_of}
use Rattle.cell_units.proofs.BufferLines.{feeds-append}
use Rattle.text_rope.specs.Chunks.{AreChunks}
use Rattle.text_rope.specs.Finds.{IsBefore}
use Rattle.cell_units.specs.Points.{IsFirstBoundary, IsLastBoundary}
use Rattle.cell_units.specs.declared.limits.TheConstants.{LAID_LIMIT}
use Rattle.text_rope.specs.Ropes.{IsRope}
use Rattle.text_rope.specs.declared.chunk.TextSize.{TextSize}
use Rattle.text_rope.proofs.Chunks.{feeds_within, total_feeds}
use Rattle.text_rope.proofs.Places.{boundary_into, boundary_out, take_found, within_chunk}

-- m is the text of the offset's chunk
module _ (chunks : List (List ℕ)) (offset : ℕ) (r : TextSize) (m : List ℕ) (are : AreChunks chunks) (found : IsBefore chunks offset r) (e : m ≡ get_or chunks r.chunks []) where
  out : (k : ℕ) → IsCharBoundary m k → IsCharBoundary (get_or chunks r.chunks []) k
  out k b = subst (λ (t : List ℕ). IsCharBoundary t k) e b

  pub near_left : (k : ℕ) → k ≤ offset - r.bytes → IsCharBoundary m k → ((j : ℕ) → k < j → j ≤ offset - r.bytes → ¬ (IsCharBoundary m j)) → IsLastBoundary (concat chunks) offset (r.bytes + k)
  near_left k before boundary nearest = record {
    boundary = boundary_out chunks r k are found.size (out k boundary);
    order = omega (arith, before, found.start);
    nearest = λ j past upto b. nearest (j - r.bytes) (omega (arith, past)) (omega (arith, upto))
        (subst (λ (t : List ℕ). IsCharBoundary t (j - r.bytes)) (sym e) (boundary_into chunks offset j r are found (omega (arith, past)) (omega (arith, upto, within_chunk chunks offset r found)) b));
  }

  pub near_right : (k : ℕ) → (offset - r.bytes ≤ length m → offset - r.bytes ≤ k) → IsCharBoundary m k → ((j : ℕ) → offset - r.bytes ≤ j → j < k → ¬ (IsCharBoundary m j)) → IsFirstBoundary (concat chunks) offset (r.bytes + k)
  near_right k behind boundary nearest =
      let within : offset - r.bytes ≤ length m = omega (arith, within_chunk chunks offset r found, ap length e) in
      record {
        boundary = boundary_out chunks r k are found.size (out k boundary);
        order = omega (arith, behind within, found.start);
        nearest = λ j from before b. nearest (j - r.bytes) (omega (arith, from)) (omega (arith, before, from, found.start))
            (subst (λ (t : List ℕ). IsCharBoundary t (j - r.bytes)) (sym e) (boundary_into chunks offset j r are found (omega (arith, from, found.start)) (omega (arith, before, (out k boundary).0)) b));
      }

-- the row of the offset, by the line feeds of the chunks before and of the chunk's prefix
pub row_here : (chunks : List (List ℕ)) (offset : ℕ) (r : TextSize) (front : List ℕ) → IsBefore chunks offset r → front ≡ take (offset - r.bytes) (get_or chunks r.chunks []) → r.feeds + count_by is_feed front ≡ row_of (concat chunks) offset
row_here chunks offset r front found e =
    let before : r.feeds ≡ count_by is_feed (concat (take r.chunks chunks)) = ap (λ (t : TextSize). t.feeds) found.size ∙ total_feeds (take r.chunks chunks) in
    omega (
      arith,
      before,
      ap (λ (t : List ℕ). count_by is_feed t) e,
      ap (λ (t : List ℕ). count_by is_feed t) (take_found chunks offset r found),
      feeds-append (concat (take r.chunks chunks)) (take (offset - r.bytes) (get_or chunks r.chunks [])),
    )

-- no row is past the limit of what is kept
pub row_small : (chunks : List (List ℕ)) (offset : ℕ) → IsRope chunks → row_of (concat chunks) offset ≤ LAID_LIMIT
row_small chunks offset rope = omega (arith, feeds_within (take offset (concat chunks)), length-take offset (concat chunks), rope.small)
