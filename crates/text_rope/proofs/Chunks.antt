-- What the chunks of a text add up to.
use Rattle.std.proofs.Common.{◌≡◌, ℕ, ◌+◌, ◌<◌, ◌≤◌, List, [], ◌∷◌, ◌++◌, length, length-append, count_by, refl, ap, sym, ◌∙◌, arith, append_assoc}
use Rattle.std.specs.List.{concat}
use Rattle.std.proofs.lemmas.List.Elements.{All-head, All-tail}
use Rattle.std.proofs.lemmas.List.{append-nil}
use Rattle.std.proofs.lemmas.List.Folds.{concat-append}
use Rattle.std.proofs.lemmas.List.Sums.{count_by-le-length}
use Rattle.cell_units.specs.Text.{is_feed}
use Rattle.cell_units.proofs.BufferLines.{feeds-append}
use Rattle.text_rope.specs.Chunks.{AreChunks, IsChunk}
use Rattle.text_rope.specs.Sizes.{total_size}

pub total_bytes : (chunks : List (List ℕ)) → (total_size chunks).bytes ≡ length (concat chunks)
total_bytes [] = refl
total_bytes (c ∷ cs) = ap (λ (n : ℕ). length c + n) (total_bytes cs) ∙ sym (length-append c (concat cs))

pub total_feeds : (chunks : List (List ℕ)) → (total_size chunks).feeds ≡ count_by is_feed (concat chunks)
total_feeds [] = refl
total_feeds (c ∷ cs) = ap (λ (n : ℕ). count_by is_feed c + n) (total_feeds cs) ∙ sym (feeds-append c (concat cs))

pub total_chunks : (chunks : List (List ℕ)) → (total_size chunks).chunks ≡ length chunks
total_chunks [] = refl
total_chunks (c ∷ cs) = omega (arith, total_chunks cs)

pub feeds_within : (text : List ℕ) → count_by is_feed text ≤ length text
feeds_within text = count_by-le-length is_feed text

-- no chunk is empty
pub no_more_chunks : (chunks : List (List ℕ)) → AreChunks chunks → length chunks ≤ length (concat chunks)
no_more_chunks [] are = omega arith
no_more_chunks (c ∷ cs) are =
    let some : 0 < length c = (All-head IsChunk c cs are).some in
    let rest : length cs ≤ length (concat cs) = no_more_chunks cs (All-tail IsChunk c cs are) in
    omega (arith, length-append c (concat cs), some, rest)

-- one chunk more
pub one_more : (chunks more : List (List ℕ)) (chunk head tail rest text : List ℕ) → more ≡ chunks ++ (chunk ∷ []) → chunk ≡ head → head ++ tail ≡ rest → concat chunks ++ rest ≡ text → concat more ++ tail ≡ text
one_more chunks more chunk head tail rest text e h whole all =
    ap (λ (l : List (List ℕ)). concat l ++ tail) e
    ∙ ap (λ (t : List ℕ). t ++ tail) (concat-append chunks (chunk ∷ []))
    ∙ append_assoc (concat chunks) (chunk ++ []) tail
    ∙ ap (λ (t : List ℕ). concat chunks ++ t) (ap (λ (t : List ℕ). t ++ tail) (append-nil chunk ∙ h) ∙ whole)
    ∙ all
