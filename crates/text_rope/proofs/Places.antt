-- The chunk in which an offset lies: what it is of the text.
use Rattle.std.proofs.Common.{◌≡◌, Bool, IsTrue, ℕ, ◌+◌, ◌-◌, ◌≤◌, ◌↔◌, ◌++◌, List, [], ◌∷◌, length, length-append, take, drop, get_or, ap, sym, ◌∙◌, subst, inl, inr, arith}
use Rattle.std.specs.List.{concat}
use Rattle.std.specs.Str.{IsCharBoundary, IsUtf8}
use Rattle.std.proofs.lemmas.Bool.{cases_lt}
use Rattle.std.proofs.lemmas.List.{append-nil, drop-append-le, drop_all, drop_more, get_or_past, take-append-le, take_all, take_more}
use Rattle.std.proofs.lemmas.List.Elements.{All-get_or, All-take}
use Rattle.std.proofs.lemmas.List.Folds.{concat-append}
use Rattle.std.proofs.lemmas.Str.{IsUtf8-append, IsUtf8-nil, IsUtf8-take}
use Rattle.std.proofs.Math.Seq.{drop-append-add, take-append-add}
use Rattle.cell_units.specs.Text.{IsBoundary}
use Rattle.text_rope.specs.Chunks.{AreChunks, IsChunk}
use Rattle.text_rope.specs.Finds.{IsBefore}
use Rattle.text_rope.specs.Sizes.{total_size}
use Rattle.text_rope.specs.declared.chunk.TextSize.{TextSize}
use Rattle.text_rope.proofs.Parts.{IsPartAt, boundary_in, bytes_before, chunks_utf8, in_two}

-- a chunk and what comes after it, also past the last one
pub next_chunk : (chunks : List (List ℕ)) (k : ℕ) → get_or chunks k [] ++ concat (drop (k + 1) chunks) ≡ concat (drop k chunks)
next_chunk chunks k = elim (cases_lt k (length chunks)) [
  | inl within ↦ ap concat (sym (drop_more chunks k [] within))
  | inr past ↦ ap (λ (c : List ℕ). c ++ concat (drop (k + 1) chunks)) (get_or_past chunks k [] past) ∙ ap concat (drop_all (k + 1) chunks (omega (arith, past)) ∙ sym (drop_all k chunks past))
]

-- a chunk and what is before it
pub last_chunk : (chunks : List (List ℕ)) (k : ℕ) → concat (take k chunks) ++ get_or chunks k [] ≡ concat (take (k + 1) chunks)
last_chunk chunks k = elim (cases_lt k (length chunks)) [
  | inl within ↦ ap (λ (c : List ℕ). concat (take k chunks) ++ c) (sym (append-nil (get_or chunks k []))) ∙ sym (concat-append (take k chunks) (get_or chunks k [] ∷ [])) ∙ ap concat (sym (take_more chunks k [] within))
  | inr past ↦ ap (λ (c : List ℕ). concat (take k chunks) ++ c) (get_or_past chunks k [] past) ∙ append-nil (concat (take k chunks)) ∙ ap concat (take_all k chunks past ∙ sym (take_all (k + 1) chunks (omega (arith, past))))
]

pub chunk_utf8 : (chunks : List (List ℕ)) (k : ℕ) → AreChunks chunks → IsUtf8 (get_or chunks k [])
chunk_utf8 chunks k are = elim (cases_lt k (length chunks)) [
  | inl within ↦ (All-get_or IsChunk chunks k [] within are).utf8
  | inr past ↦ subst IsUtf8 (sym (get_or_past chunks k [] past)) IsUtf8-nil
]

pub chunk_small : (chunks : List (List ℕ)) (k : ℕ) → AreChunks chunks → length (get_or chunks k []) ≤ 128
chunk_small chunks k are = elim (cases_lt k (length chunks)) [
  | inl within ↦ (All-get_or IsChunk chunks k [] within are).small
  | inr past ↦ omega (arith, ap length (get_or_past chunks k [] past))
]

-- the text is the chunks before, the chunk, and the chunks after
pub in_three : (chunks : List (List ℕ)) (k : ℕ) → concat (take k chunks) ++ (get_or chunks k [] ++ concat (drop (k + 1) chunks)) ≡ concat chunks
in_three chunks k = ap (λ (t : List ℕ). concat (take k chunks) ++ t) (next_chunk chunks k) ∙ in_two chunks k

-- how far the offset lies in its chunk
pub within_chunk : (chunks : List (List ℕ)) (offset : ℕ) (r : TextSize) → IsBefore chunks offset r → offset - r.bytes ≤ length (get_or chunks r.chunks [])
within_chunk chunks offset r found =
    omega (arith, found.end, ap length (last_chunk chunks r.chunks), length-append (concat (take r.chunks chunks)) (get_or chunks r.chunks []), bytes_before chunks r found.size)

-- its chunk is a part of the text
pub chunk_part : (chunks : List (List ℕ)) (offset : ℕ) (r : TextSize) → IsBefore chunks offset r → IsPartAt (concat chunks) r.bytes (get_or chunks r.chunks [])
chunk_part chunks offset r found = record {
  front = concat (take r.chunks chunks);
  rest = concat (drop (r.chunks + 1) chunks);
  all = in_three chunks r.chunks;
  long = bytes_before chunks r found.size;
}

-- up to a place of the second of three parts, and from it on
pub take_at : (text front m rest : List ℕ) (i o : ℕ) → front ++ (m ++ rest) ≡ text → length front + i ≡ o → i ≤ length m → take o text ≡ front ++ take i m
take_at text front m rest i o e place within =
    ap (λ (k : ℕ). take k text) (sym place) ∙ ap (λ (t : List ℕ). take (length front + i) t) (sym e) ∙ take-append-add front (m ++ rest) i
    ∙ ap (λ (t : List ℕ). front ++ t) (take-append-le i m rest within)

pub drop_at : (text front m rest : List ℕ) (i o : ℕ) → front ++ (m ++ rest) ≡ text → length front + i ≡ o → i ≤ length m → drop o text ≡ drop i m ++ rest
drop_at text front m rest i o e place within =
    ap (λ (k : ℕ). drop k text) (sym place) ∙ ap (λ (t : List ℕ). drop (length front + i) t) (sym e) ∙ drop-append-add front (m ++ rest) i
    ∙ drop-append-le i m rest within

-- what is before a place of the chunk, and after it
pub take_in_chunk : (chunks : List (List ℕ)) (r : TextSize) (i : ℕ) → r ≡ total_size (take r.chunks chunks) → i ≤ length (get_or chunks r.chunks []) →
    take (r.bytes + i) (concat chunks) ≡ concat (take r.chunks chunks) ++ take i (get_or chunks r.chunks [])
take_in_chunk chunks r i size within =
    take_at (concat chunks) (concat (take r.chunks chunks)) (get_or chunks r.chunks []) (concat (drop (r.chunks + 1) chunks)) i (r.bytes + i)
    (in_three chunks r.chunks) (omega (arith, bytes_before chunks r size)) within

pub drop_in_chunk : (chunks : List (List ℕ)) (r : TextSize) (i : ℕ) → r ≡ total_size (take r.chunks chunks) → i ≤ length (get_or chunks r.chunks []) →
    drop (r.bytes + i) (concat chunks) ≡ drop i (get_or chunks r.chunks []) ++ concat (drop (r.chunks + 1) chunks)
drop_in_chunk chunks r i size within =
    drop_at (concat chunks) (concat (take r.chunks chunks)) (get_or chunks r.chunks []) (concat (drop (r.chunks + 1) chunks)) i (r.bytes + i)
    (in_three chunks r.chunks) (omega (arith, bytes_before chunks r size)) within

pub take_found : (chunks : List (List ℕ)) (offset : ℕ) (r : TextSize) → IsBefore chunks offset r →
    take offset (concat chunks) ≡ concat (take r.chunks chunks) ++ take (offset - r.bytes) (get_or chunks r.chunks [])
take_found chunks offset r found =
    let place : offset ≡ r.bytes + (offset - r.bytes) = omega (arith, found.start) in
    ap (λ (k : ℕ). take k (concat chunks)) place ∙ take_in_chunk chunks r (offset - r.bytes) found.size (within_chunk chunks offset r found)

pub drop_found : (chunks : List (List ℕ)) (offset : ℕ) (r : TextSize) → IsBefore chunks offset r →
    drop offset (concat chunks) ≡ drop (offset - r.bytes) (get_or chunks r.chunks []) ++ concat (drop (r.chunks + 1) chunks)
drop_found chunks offset r found =
    let place : offset ≡ r.bytes + (offset - r.bytes) = omega (arith, found.start) in
    ap (λ (k : ℕ). drop k (concat chunks)) place ∙ drop_in_chunk chunks r (offset - r.bytes) found.size (within_chunk chunks offset r found)

-- a boundary of the chunk is one of the text
pub boundary_out : (chunks : List (List ℕ)) (r : TextSize) (i : ℕ) → AreChunks chunks → r ≡ total_size (take r.chunks chunks) →
    IsCharBoundary (get_or chunks r.chunks []) i → IsBoundary (concat chunks) (r.bytes + i)
boundary_out chunks r i are size boundary =
    let m = get_or chunks r.chunks [] in
    let utf8 : IsUtf8 (concat (take r.chunks chunks) ++ take i m) =
    IsUtf8-append (concat (take r.chunks chunks)) (take i m) (chunks_utf8 (take r.chunks chunks) (All-take IsChunk r.chunks chunks are)) (IsUtf8-take m i (chunk_utf8 chunks r.chunks are) boundary) in (
      omega (arith, ap length (in_three chunks r.chunks), length-append (concat (take r.chunks chunks)) (m ++ concat (drop (r.chunks + 1) chunks)), length-append m (concat (drop (r.chunks + 1) chunks)), bytes_before chunks r size, boundary.0),
      subst IsUtf8 (sym (take_in_chunk chunks r i size boundary.0)) utf8,
    )

-- and a boundary of the text in the chunk is one of the chunk
pub boundary_into : (chunks : List (List ℕ)) (offset o : ℕ) (r : TextSize) → AreChunks chunks → IsBefore chunks offset r → r.bytes ≤ o → o - r.bytes ≤ length (get_or chunks r.chunks []) →
    IsBoundary (concat chunks) o → IsCharBoundary (get_or chunks r.chunks []) (o - r.bytes)
boundary_into chunks offset o r are found from within boundary =
    boundary_in (concat chunks) (get_or chunks r.chunks []) r.bytes o (chunks_utf8 chunks are) (chunk_part chunks offset r found) from within boundary

-- the offset itself is a boundary of the text where it is one of its chunk
pub boundary_here : (chunks : List (List ℕ)) (offset : ℕ) (r : TextSize) → AreChunks chunks → IsBefore chunks offset r → IsCharBoundary (get_or chunks r.chunks []) (offset - r.bytes) ↔ IsBoundary (concat chunks) offset
boundary_here chunks offset r are found =
    let place : r.bytes + (offset - r.bytes) ≡ offset = omega (arith, found.start) in (
      λ b. subst (IsBoundary (concat chunks)) place (boundary_out chunks r (offset - r.bytes) are found.size b),
      λ b. boundary_into chunks offset offset r are found found.start (within_chunk chunks offset r found) b,
    )

-- a test in the chunk of an offset says whether that is a boundary of the text
pub tested_here : (chunks : List (List ℕ)) (offset : ℕ) (r : TextSize) (m : List ℕ) (t : Bool) → AreChunks chunks → IsBefore chunks offset r → m ≡ get_or chunks r.chunks [] → (IsTrue t ↔ IsCharBoundary m (offset - r.bytes)) → IsTrue t ↔ IsBoundary (concat chunks) offset
tested_here chunks offset r m t are found e test =
    let here = boundary_here chunks offset r are found in (
      λ yes. here.0 (subst (λ (l : List ℕ). IsCharBoundary l (offset - r.bytes)) e (test.0 yes)),
      λ b. test.1 (subst (λ (l : List ℕ). IsCharBoundary l (offset - r.bytes)) (sym e) (here.1 b)),
    )
