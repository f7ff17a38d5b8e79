-- Where a text is cut into chunks, so that none of them is short.
use Rattle.std.proofs.Common.{◌≡◌, ℕ, ◌+◌, ◌<◌, ◌≤◌, min, List, length, take, subst, inl, inr, arith}
use Rattle.std.specs.Str.{IsCharBoundary, IsUtf8}
use Rattle.std.proofs.lemmas.Bool.{cases_lt}
use Rattle.std.proofs.lemmas.List.{length-take-le}
use Rattle.std.proofs.lemmas.Str.{IsUtf8-take}
use Rattle.text_rope.specs.Chunks.{IsChunk, least}
use Rattle.text_rope.proofs.Boundaries.{floor_close, floor_end}

-- how many of the bytes may go into a chunk
pub record IsShare (len index : ℕ) : Type 0 where
  pub most : index ≤ 128
  pub all : len ≤ 128 → index ≡ len
  pub some : 128 < len → 64 ≤ index
  pub rest : 128 < len → index + 64 ≤ len

-- the bytes before k are a chunk, and neither they nor the rest are short
pub record IsCut (text : List ℕ) (k : ℕ) : Type 0 where
  pub chunk : IsChunk (take k text)
  pub past : 0 < k
  pub front : min least (length text) ≤ k
  pub rest : k < length text → least + k ≤ length text

cut_at : (text : List ℕ) (k : ℕ) → IsUtf8 text → IsCharBoundary text k → 0 < k → k ≤ 128 → min least (length text) ≤ k → (k < length text → least + k ≤ length text) → IsCut text k
cut_at text k utf8 boundary past small front rest =
    let long = length-take-le k text boundary.0 in
    record {
      chunk = record { utf8 = IsUtf8-take text k utf8 boundary; some = omega (arith, long, past); small = omega (arith, long, small) };
      past = past;
      front = front;
      rest = rest;
    }

pub floor_cuts : (text : List ℕ) (k index : ℕ) → IsUtf8 text → 0 < length text → IsShare (length text) index → k ≤ index → IsCharBoundary text k → ((i : ℕ) → k < i → i ≤ index → ¬ (IsCharBoundary text i)) → IsCut text k
floor_cuts text k index utf8 some share before boundary nearest = elim (cases_lt 128 (length text)) [
  | inl long ↦
      let close = floor_close text k index utf8 (omega (arith, share.rest long)) nearest in
      cut_at text k utf8 boundary (omega (arith, close, share.some long)) (omega (arith, before, share.most)) (omega (arith, close, share.some long)) (λ _. omega (arith, before, share.rest long))
  | inr short ↦
      let whole : index ≡ length text = share.all short in
      let end : k ≡ length text = floor_end text k boundary.0 (subst (λ (n : ℕ). (i : ℕ) → k < i → i ≤ n → ¬ (IsCharBoundary text i)) whole nearest) in
      cut_at text k utf8 boundary (omega (arith, end, some)) (omega (arith, end, short)) (omega (arith, end)) (λ lt. absurd (omega (arith, end, lt)))
]
