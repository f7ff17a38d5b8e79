-- Parts of a text that lie within some of its chunks.
use Rattle.std.proofs.Common.{◌≡◌, ℕ, ◌+◌, ◌-◌, ◌<◌, ◌≤◌, List, [], ◌∷◌, ◌++◌, Some, None, inl, inr, length, length-append, take, drop, get_or, append_assoc, length-drop, ap, sym, ◌∙◌, subst, arith}
use Rattle.std.specs.List.{concat, slice_get}
use Rattle.std.specs.Str.{IsCharBoundary, IsUtf8}
use Rattle.std.proofs.lemmas.List.{drop_more, take-append-drop, take-append-le, drop-append-le, get_or-append-add, get_or_append_left}
use Rattle.std.proofs.Math.Seq.{drop-append-add}
use Rattle.std.proofs.lemmas.List.Elements.{All-head, All-tail}
use Rattle.std.proofs.lemmas.List.Folds.{concat-append}
use Rattle.std.proofs.lemmas.Bool.{cases_lt}
use Rattle.std.proofs.lemmas.List.{drop_all}
use Rattle.std.proofs.lemmas.Option.{get_or_from_slice_get, slice_get-get_or, slice_get_within}
use Rattle.std.proofs.lemmas.Str.{IsCharBoundary-from_take, IsUtf8-append, IsUtf8-nil}
use Rattle.cell_units.specs.Text.{IsBoundary}
use Rattle.text_rope.specs.Chunks.{AreChunks, IsChunk}
use Rattle.text_rope.specs.Sizes.{total_size}
use Rattle.text_rope.specs.declared.chunk.TextSize.{TextSize}
use Rattle.text_rope.proofs.Chunks.{total_bytes}

-- one chunk more is gathered
pub one_gathered : (chunks : List (List ℕ)) (at : ℕ) (chunk text more whole : List ℕ) → slice_get chunks at ≡ Some chunk → more ≡ text ++ chunk → text ++ concat (drop at chunks) ≡ whole → more ++ concat (drop (at + 1) chunks) ≡ whole
one_gathered chunks at chunk text more whole e m w =
    let behind = drop (at + 1) chunks in
    let next : drop at chunks ≡ chunk ∷ behind = drop_more chunks at [] (slice_get_within chunks at chunk e) ∙ ap (λ (c : List ℕ). c ∷ behind) (get_or_from_slice_get chunks at chunk [] e) in
    ap (λ (t : List ℕ). t ++ concat behind) m
    ∙ append_assoc text chunk (concat behind)
    ∙ ap (λ (l : List (List ℕ)). text ++ concat l) (sym next)
    ∙ w

-- where no chunk is left, all is gathered
pub all_gathered : (chunks : List (List ℕ)) (at count : ℕ) (text whole : List ℕ) → slice_get chunks at ≡ None → text ++ concat (drop at chunks) ≡ whole → count ≤ length whole → count ≤ length text
all_gathered chunks at count text whole none w enough =
    elim (cases_lt at (length chunks)) [
      | inl inside ↦ let some = slice_get-get_or chunks at [] inside in cc
      | inr past ↦
          let rest = drop_all at chunks past in
          omega (arith, ap length w, length-append text (concat (drop at chunks)), ap (λ (l : List (List ℕ)). length (concat l)) rest, enough)
    ]

pub chunks_utf8 : (chunks : List (List ℕ)) → AreChunks chunks → IsUtf8 (concat chunks)
chunks_utf8 [] are = IsUtf8-nil
chunks_utf8 (c ∷ cs) are = IsUtf8-append c (concat cs) (All-head IsChunk c cs are).utf8 (chunks_utf8 cs (All-tail IsChunk c cs are))

-- a place within the chunks: they are the text, and n bytes of it are in the first k of them
pub in_two : (chunks : List (List ℕ)) (k : ℕ) → concat (take k chunks) ++ concat (drop k chunks) ≡ concat chunks
in_two chunks k = sym (concat-append (take k chunks) (drop k chunks)) ∙ ap concat (take-append-drop k chunks)

pub bytes_before : (chunks : List (List ℕ)) (r : TextSize) → r ≡ total_size (take r.chunks chunks) → r.bytes ≡ length (concat (take r.chunks chunks))
bytes_before chunks r size = ap (λ (t : TextSize). t.bytes) size ∙ total_bytes (take r.chunks chunks)

-- the text is a prefix, the part m, and a rest
pub record IsPartAt (text : List ℕ) (n : ℕ) (m : List ℕ) : Type 0 where
  pub front : List ℕ
  pub rest : List ℕ
  pub all : front ++ (m ++ rest) ≡ text
  pub long : n ≡ length front

pub part_at : (chunks : List (List ℕ)) (r : TextSize) (m rest text : List ℕ) → concat chunks ≡ text → r ≡ total_size (take r.chunks chunks) → m ++ rest ≡ concat (drop r.chunks chunks) → IsPartAt text r.bytes m
part_at chunks r m rest text e size is = record {
  front = concat (take r.chunks chunks);
  rest = rest;
  all = ap (λ (t : List ℕ). concat (take r.chunks chunks) ++ t) is ∙ in_two chunks r.chunks ∙ e;
  long = bytes_before chunks r size;
}

-- a boundary of the text in the part is one of the part
pub boundary_in : (text m : List ℕ) (n o : ℕ) → IsUtf8 text → IsPartAt text n m → n ≤ o → o - n ≤ length m → IsBoundary text o → IsCharBoundary m (o - n)
boundary_in text m n o utf8 part from within boundary = (
  within,
  λ below high.
      let i = o - n in
      let cut = IsCharBoundary-from_take text o utf8 boundary.0 boundary.1 in
      let place : length part.front + i ≡ o = omega (arith, part.long, from) in
      let e : get_or m i 0 ≡ get_or text o 0 = sym (get_or_append_left m part.rest 0 i below) ∙ sym (get_or-append-add part.front (m ++ part.rest) i 0) ∙ ap (λ (t : List ℕ). get_or t (length part.front + i) 0) part.all ∙ ap (λ (k : ℕ). get_or text k 0) place in
      let inside : o < length text = omega (arith, ap length part.all, length-append part.front (m ++ part.rest), length-append m part.rest, place, below) in
      subst (λ (b : ℕ). 192 ≤ b) (sym e) (cut.1 inside (subst (λ (b : ℕ). 128 ≤ b) e high)),
)

-- what lies between two places of the text lies between those of the part
pub between_in : (text m : List ℕ) (n start end : ℕ) → IsPartAt text n m → n ≤ start → start ≤ end → end - n ≤ length m → take (end - n - (start - n)) (drop (start - n) m) ≡ take (end - start) (drop start text)
between_in text m n start end part from order within =
    let i = start - n in
    let low : i ≤ length m = omega (arith, order, within) in
    let place : length part.front + i ≡ start = omega (arith, part.long, from) in
    let count : end - n - i ≡ end - start = omega (arith, from, order) in
    let behind : drop start text ≡ drop i m ++ part.rest =
    ap (λ (k : ℕ). drop k text) (sym place) ∙ ap (λ (t : List ℕ). drop (length part.front + i) t) (sym part.all) ∙ drop-append-add part.front (m ++ part.rest) i ∙ drop-append-le i m part.rest low in
    let room : end - start ≤ length (drop i m) = omega (arith, length-drop i m, from, order, within) in
    ap (λ (k : ℕ). take k (drop i m)) count ∙ sym (take-append-le (end - start) (drop i m) part.rest room) ∙ ap (λ (t : List ℕ). take (end - start) t) (sym behind)
