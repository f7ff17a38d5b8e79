-- What a rope within the limit keeps.
use Rattle.std.proofs.Common.{◌≡◌, ◌≢◌, ℕ, ◌*◌, ◌<◌, ◌≤◌, ◌^◌, max, List, length, ap, sym, subst, arith}
use Rattle.std.specs.List.{All, concat}
use Rattle.cell_units.specs.Text.{carriage_return, clean}
use Rattle.cell_units.proofs.TextLaws.{clean-no_return}
use Rattle.text_rope.specs.Chunks.{AreChunks}
use Rattle.text_rope.specs.Ropes.{IsRope}
use Rattle.text_rope.specs.Sizes.{SizeFits, total_size}
use Rattle.text_rope.proofs.Chunks.{feeds_within, no_more_chunks, total_bytes, total_chunks, total_feeds}
use Rattle.text_rope.proofs.Fullness.{AreFilled, filled_full, full_few}
use Rattle.cell_units.proofs.Returns.{clean-not_longer}

-- the chunks of bytes that were cleaned are those of a rope
pub cleaned_rope : (chunks : List (List ℕ)) (bytes : List ℕ) → AreChunks chunks → AreFilled chunks (length (clean bytes)) → concat chunks ≡ clean bytes → length bytes ≤ 33554432 → IsRope chunks
cleaned_rope chunks bytes cut filled e few = record {
  cut = cut;
  full = filled_full chunks cut (subst (λ (t : List ℕ). AreFilled chunks (length t)) (sym e) filled);
  clean = subst (λ (t : List ℕ). All (λ b. b ≢ carriage_return) t) (sym e) (clean-no_return bytes);
  small = omega (arith, ap length e, clean-not_longer bytes, few);
}

pub rope_fits : (chunks : List (List ℕ)) → IsRope chunks → SizeFits (total_size chunks)
rope_fits chunks rope = (
  omega (arith, total_bytes chunks, rope.small),
  omega (arith, total_feeds chunks, feeds_within (concat chunks), rope.small),
  omega (arith, total_chunks chunks, no_more_chunks chunks rope.cut, rope.small),
)

pub rope_few : (chunks : List (List ℕ)) → IsRope chunks → length chunks < 2 ^ 32
rope_few chunks rope = omega (arith, no_more_chunks chunks rope.cut, rope.small)

-- few chunks are made of bytes
pub chunks_of_bytes : (chunks : List (List ℕ)) (bytes : List ℕ) → IsRope chunks → concat chunks ≡ clean bytes → 60 * length chunks ≤ max 60 (length bytes)
chunks_of_bytes chunks bytes rope e = omega (arith, full_few chunks rope.full, ap length e, clean-not_longer bytes)

-- a rope has no more chunks than bytes
pub rope_chunks : (chunks : List (List ℕ)) → IsRope chunks → length chunks ≤ 67108864
rope_chunks chunks rope = omega (arith, no_more_chunks chunks rope.cut, rope.small)
