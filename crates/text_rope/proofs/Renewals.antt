-- Chunks made anew in the place of those that a range meets.
use Rattle.std.proofs.Common.{◌≡◌, ◌≢◌, ℕ, zero, suc, ◌+◌, ◌-◌, ◌<◌, ◌≤◌, ◌++◌, min, List, [], ◌∷◌, length, length-append, length-drop, take, drop, get_or, ap, sym, ◌∙◌, subst, inl, inr, arith, append_assoc}
use Rattle.std.specs.List.{All, concat}
use Rattle.std.proofs.lemmas.Bool.{cases_lt}
use Rattle.std.proofs.lemmas.List.{append-nil, length-take-le}
use Rattle.std.proofs.lemmas.List.Elements.{All-append, All-cons, All-drop, All-get_or, All-head, All-nil, All-tail, All-take}
use Rattle.std.proofs.lemmas.List.Folds.{concat-append}
use Rattle.cell_units.specs.Text.{carriage_return}
use Rattle.cell_units.specs.Operation.{replaced_text}
use Rattle.text_rope.specs.Chunks.{AreChunks, AreFull, IsChunk, least}
use Rattle.text_rope.specs.Edits.{IsNeighbourBefore, IsNeighbourBehind, IsPartBefore, IsPartBehind, IsRange, IsRenewed}
use Rattle.text_rope.specs.Finds.{IsBefore}
use Rattle.cell_units.specs.declared.limits.TheConstants.{LAID_LIMIT}
use Rattle.text_rope.specs.Ropes.{IsRope}
use Rattle.text_rope.specs.declared.chunk.TextSize.{TextSize}
use Rattle.text_rope.proofs.Fullness.{AreFilled, filled_full, full_few, renewed_full}
use Rattle.text_rope.proofs.Parts.{in_two}
use Rattle.text_rope.proofs.Places.{chunk_small, drop_found, last_chunk, take_found, within_chunk}

-- ---- the neighbours

full_chunk : (chunks : List (List ℕ)) (k : ℕ) → IsRope chunks → k < length chunks → 1 < length chunks → (1 < length chunks) × (least ≤ length (get_or chunks k []))
full_chunk chunks k rope within more = (more, All-get_or (λ (c : List ℕ). least ≤ length c) chunks k [] within (rope.full more))

pub some_before : (chunks : List (List ℕ)) (place : ℕ) → IsRope chunks → 0 < place → place ≤ length chunks → IsNeighbourBefore chunks place (place - 1) (get_or chunks (place - 1) [])
some_before chunks place rope some within = record {
  whole = last_chunk chunks (place - 1) ∙ ap (λ (k : ℕ). concat (take k chunks)) (omega (arith, some));
  within = omega (arith, within);
  full = λ lt. full_chunk chunks (place - 1) rope (omega (arith, some, within)) (omega (arith, lt, within));
  small = chunk_small chunks (place - 1) rope.cut;
}

-- ---- the text up to an offset and from it on

pub part_of_before : (chunks : List (List ℕ)) (offset at : ℕ) (r : TextSize) (neighbour front text : List ℕ) → IsRope chunks → IsBefore chunks offset r → IsNeighbourBefore chunks r.chunks at neighbour →
    front ≡ take (offset - r.bytes) (get_or chunks r.chunks []) → text ≡ neighbour ++ front → IsPartBefore chunks offset at text
part_of_before chunks offset at r neighbour front text rope found next f e =
    let long : length text ≡ length neighbour + length front = ap length e ∙ length-append neighbour front in
    let small : length front ≤ 128 = omega (arith, ap length f, length-take-le (offset - r.bytes) (get_or chunks r.chunks []) (within_chunk chunks offset r found), within_chunk chunks offset r found, chunk_small chunks r.chunks rope.cut) in
    record {
      whole = ap (λ (t : List ℕ). concat (take at chunks) ++ t) e ∙ sym (append_assoc (concat (take at chunks)) neighbour front)
          ∙ ap (λ (t : List ℕ). t ++ front) next.whole ∙ ap (λ (t : List ℕ). concat (take r.chunks chunks) ++ t) f ∙ sym (take_found chunks offset r found);
      within = next.within;
      full = λ lt. let h = next.full lt in (h.0, omega (arith, long, h.1));
      small = omega (arith, long, small, next.small);
    }

pub part_of_behind : (chunks : List (List ℕ)) (offset at : ℕ) (r : TextSize) (neighbour back text : List ℕ) → IsRope chunks → IsBefore chunks offset r → IsNeighbourBehind chunks (r.chunks + 1) at neighbour →
    back ≡ drop (offset - r.bytes) (get_or chunks r.chunks []) → text ≡ back ++ neighbour → IsPartBehind chunks offset at text
part_of_behind chunks offset at r neighbour back text rope found next f e =
    let long : length text ≡ length back + length neighbour = ap length e ∙ length-append back neighbour in
    let small : length back ≤ 128 = omega (arith, ap length f, length-drop (offset - r.bytes) (get_or chunks r.chunks []), chunk_small chunks r.chunks rope.cut) in
    record {
      whole = ap (λ (t : List ℕ). t ++ concat (drop at chunks)) e ∙ append_assoc back neighbour (concat (drop at chunks))
          ∙ ap (λ (t : List ℕ). back ++ t) next.whole ∙ ap (λ (t : List ℕ). t ++ concat (drop (r.chunks + 1) chunks)) f ∙ sym (drop_found chunks offset r found);
      within = next.within;
      full = λ lt. let h = next.full lt in (h.0, omega (arith, long, h.1));
      small = omega (arith, long, small, next.small);
    }

-- ---- the chunks made anew

more_is_longer : (chunks : List (List ℕ)) (m n : ℕ) → AreChunks chunks → m < n → n ≤ length chunks → length (concat (take m chunks)) < length (concat (take n chunks))
more_is_longer [] m n are lt within = absurd (omega (arith, lt, within))
more_is_longer (c ∷ cs) m zero are lt within = absurd (omega (arith, lt))
more_is_longer (c ∷ cs) zero (suc n) are lt within = omega (arith, (All-head IsChunk c cs are).some, length-append c (concat (take n cs)))
more_is_longer (c ∷ cs) (suc m) (suc n) are lt within =
    omega (arith, more_is_longer cs m n (All-tail IsChunk c cs are) (omega (arith, lt)) (omega (arith, within)), length-append c (concat (take m cs)), length-append c (concat (take n cs)))

regroup : (left front s back right : List ℕ) → (left ++ ((front ++ s) ++ back)) ++ right ≡ (left ++ front) ++ (s ++ (back ++ right))
regroup left front s back right = simp append_assoc

-- a text and what lies between two places of the chunks, up to the range and from it on
record IsAround (chunks : List (List ℕ)) (start end from to : ℕ) (front back : List ℕ) : Type 0 where
  order : from ≤ to
  within : to ≤ length chunks
  before : concat (take from chunks) ++ front ≡ take start (concat chunks)
  behind : back ++ concat (drop to chunks) ≡ drop end (concat chunks)
  small : length front + length back ≤ 512

-- chunks of that text with s between its parts take the place of those, where they are not short beside others
renewed_among : (chunks : List (List ℕ)) (start end : ℕ) (s : List ℕ) (from to : ℕ) (front back : List ℕ) → IsRope chunks → IsAround chunks start end from to front back →
    (made : List (List ℕ)) (whole : List ℕ) → whole ≡ (front ++ s) ++ back → concat made ≡ whole → AreChunks made → AreFilled made (length whole) →
    (0 < from → (1 < length chunks) × (least ≤ length whole)) → (to < length chunks → (1 < length chunks) × (least ≤ length whole)) → IsRenewed chunks start end s from to made
renewed_among chunks start end s from to front back rope around made whole e m cut filled some_before some_behind =
    let all : concat made ≡ (front ++ s) ++ back = m ∙ e in
    let long : length whole ≡ length front + length s + length back = omega (arith, ap length e, length-append (front ++ s) back, length-append front s) in
    let own = filled_full made cut (subst (λ (n : ℕ). AreFilled made n) (sym (ap length m)) filled) in
    let left = concat (take from chunks) in
    let right = concat (drop to chunks) in
    record {
      order = around.order;
      within = around.within;
      cut = All-append IsChunk (take from chunks ++ made) (drop to chunks) (All-append IsChunk (take from chunks) made (All-take IsChunk from chunks rope.cut) cut) (All-drop IsChunk to chunks rope.cut);
      full = subst AreFull (sym (append_assoc (take from chunks) made (drop to chunks)))
          (renewed_full chunks made from to (length whole) rope.full own filled around.within some_before some_behind);
      text = concat-append (take from chunks ++ made) (drop to chunks) ∙ ap (λ (t : List ℕ). t ++ right) (concat-append (take from chunks) made)
          ∙ ap (λ (t : List ℕ). (left ++ t) ++ right) all
          ∙ regroup left front s back right
          ∙ ap (λ (t : List ℕ). t ++ (s ++ (back ++ right))) around.before
          ∙ ap (λ (t : List ℕ). take start (concat chunks) ++ (s ++ t)) around.behind;
      few = omega (arith, full_few made own, ap length m, long, around.small);
    }

module _ (chunks : List (List ℕ)) (start end : ℕ) (s : List ℕ) (from to : ℕ) (front back : List ℕ) (rope : IsRope chunks) (range : IsRange (concat chunks) start end)
    (before : IsPartBefore chunks start from front) (behind : IsPartBehind chunks end to back) where
  in_order : from ≤ to
  in_order =
      let text = concat chunks in
      let first : length (concat (take from chunks)) ≤ start = omega (arith, ap length before.whole, length-append (concat (take from chunks)) front, length-take-le start text range.1.0) in
      let last : end ≤ length (concat (take to chunks)) =
      omega (arith, ap length behind.whole, length-append back (concat (drop to chunks)), length-drop end text, ap length (in_two chunks to), length-append (concat (take to chunks)) (concat (drop to chunks)), range.2.0) in
      elim (cases_lt to from) [
        | inl lt ↦ absurd (omega (arith, more_is_longer chunks to from rope.cut lt before.within, first, last, range.0))
        | inr le ↦ le
      ]

  pub renewed_by : (made : List (List ℕ)) (whole : List ℕ) → whole ≡ (front ++ s) ++ back → concat made ≡ whole → AreChunks made → AreFilled made (length whole) →
      IsRenewed chunks start end s from to made
  renewed_by made whole e m cut filled =
      let long : length whole ≡ length front + length s + length back = omega (arith, ap length e, length-append (front ++ s) back, length-append front s) in
      renewed_among chunks start end s from to front back rope (record {
        order = in_order;
        within = behind.within;
        before = before.whole;
        behind = behind.whole;
        small = omega (arith, before.small, behind.small);
      }) made whole e m cut filled (λ lt. let h = before.full lt in (h.0, omega (arith, long, h.1))) (λ lt. let h = behind.full lt in (h.0, omega (arith, long, h.1)))

-- ---- one chunk made anew by itself

-- the chunk at the end of a range is that at its start too, where it begins before it
pub begins_there : (chunks : List (List ℕ)) (start end : ℕ) (r : TextSize) → IsBefore chunks end r → r.bytes ≤ start → start ≤ end → IsBefore chunks start r
begins_there chunks start end r found from order = record {
  size = found.size;
  within = found.within;
  start = from;
  end = omega (arith, found.end, order);
}

pub renewed_within : (chunks : List (List ℕ)) (start end : ℕ) (s : List ℕ) (r : TextSize) (front back chunk : List ℕ) → IsRope chunks → IsRange (concat chunks) start end →
    IsBefore chunks end r → r.bytes ≤ start → r.chunks < length chunks →
    front ≡ take (start - r.bytes) (get_or chunks r.chunks []) → back ≡ drop (end - r.bytes) (get_or chunks r.chunks []) →
    chunk ≡ (front ++ s) ++ back → IsChunk chunk → (1 < length chunks → least ≤ length chunk) → IsRenewed chunks start end s r.chunks (r.chunks + 1) (chunk ∷ [])
renewed_within chunks start end s r front back chunk rope range found from within f b e cut full =
    let here = get_or chunks r.chunks [] in
    let fits : end - r.bytes ≤ length here = within_chunk chunks end r found in
    let around : IsAround chunks start end r.chunks (r.chunks + 1) front back = record {
      order = omega arith;
      within = omega (arith, within);
      before = ap (λ (t : List ℕ). concat (take r.chunks chunks) ++ t) f ∙ sym (take_found chunks start r (begins_there chunks start end r found from range.0));
      behind = ap (λ (t : List ℕ). t ++ concat (drop (r.chunks + 1) chunks)) b ∙ sym (drop_found chunks end r found);
      small = omega (arith, ap length f, ap length b, length-take-le (start - r.bytes) here (omega (arith, fits, range.0)), length-drop (end - r.bytes) here, fits, chunk_small chunks r.chunks rope.cut, range.0);
    } in
    let filled : AreFilled (chunk ∷ []) (length chunk) = All-cons (λ (c : List ℕ). min least (length chunk) ≤ length c) chunk [] (omega arith) (All-nil (λ (c : List ℕ). min least (length chunk) ≤ length c)) in
    renewed_among chunks start end s r.chunks (r.chunks + 1) front back rope around (chunk ∷ []) chunk e (append-nil chunk) (All-cons IsChunk chunk [] cut (All-nil IsChunk)) filled
    (λ lt. let more : 1 < length chunks = omega (arith, lt, within) in (more, full more)) (λ lt. let more : 1 < length chunks = omega (arith, lt) in (more, full more))

-- and they make the chunks of a rope, where the new text is within the limit of what is kept
pub renewed_rope : (chunks : List (List ℕ)) (start end : ℕ) (s : List ℕ) (from to : ℕ) (made : List (List ℕ)) → IsRope chunks → IsRenewed chunks start end s from to made →
    All (λ b. b ≢ carriage_return) s → length (replaced_text (concat chunks) start end s) ≤ LAID_LIMIT → IsRope (take from chunks ++ made ++ drop to chunks)
renewed_rope chunks start end s from to made rope new clean small =
    let text = concat chunks in
    let none : All (λ b. b ≢ carriage_return) (take start text ++ (s ++ drop end text)) =
    All-append (λ (b : ℕ). b ≢ carriage_return) (take start text) (s ++ drop end text) (All-take (λ (b : ℕ). b ≢ carriage_return) start text rope.clean)
    (All-append (λ (b : ℕ). b ≢ carriage_return) s (drop end text) clean (All-drop (λ (b : ℕ). b ≢ carriage_return) end text rope.clean)) in
    record {
      cut = new.cut;
      full = new.full;
      clean = subst (λ (t : List ℕ). All (λ b. b ≢ carriage_return) t) (sym new.text) none;
      small = omega (arith, ap length new.text, small);
    }

-- how long the new text is
pub replaced_long : (text : List ℕ) (start end : ℕ) (s : List ℕ) → IsRange text start end → length (replaced_text text start end s) ≡ length text - (end - start) + length s
replaced_long text start end s range =
    omega (arith, length-append (take start text) (s ++ drop end text), length-append s (drop end text), length-take-le start text range.1.0, length-drop end text, range.0, range.2.0)
