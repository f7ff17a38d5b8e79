-- What the inverse of a batch makes of the text after it.
use Rattle.std.proofs.Common.{◌≡◌, ◌≢◌, ℕ, ◌+◌, ◌-◌, ◌≤◌, true, List, [], ◌∷◌, ◌++◌, length, map, take, drop, slice_range, refl, sym, ap, subst, ◌∙◌, arith, append_assoc, length-append, length-drop}
use Rattle.std.specs.Str.{IsCharBoundary, IsUtf8}
use Rattle.std.proofs.lemmas.List.{drop-drop, drop_at, length-take-le, take-append-drop, take_at}
use Rattle.std.proofs.lemmas.List.Elements.{All-drop, All-take}
use Rattle.std.proofs.lemmas.List.Sums.{fold_push}
use Rattle.std.proofs.lemmas.Str.{IsCharBoundary-from_take, IsUtf8-append, IsUtf8-between, IsUtf8-drop}
use Rattle.cell_units.specs.Text.{IsBoundary, IsText, carriage_return, clean, is_boundary}
use Rattle.cell_units.proofs.Characters.{clean-utf8}
use Rattle.cell_units.proofs.CutLists.{Every}
use Rattle.cell_units.proofs.TextLaws.{clean-same, tells_boundaries}
use Rattle.display_sheet.specs.declared.change.Splice.{Splice}
use Rattle.display_sheet.specs.Changes.{are_ranges}
use Rattle.display_map.specs.Splicing.{spliced_text}
use Rattle.display_map.proofs.Batches.{AreOrdered, ordered-le}
use Rattle.display_map.proofs.FittingBatches.{AreAtBoundaries}
use Rattle.undo_line.specs.Inverse.{entries, entry, put_in, taken_out}
use Rattle.undo_line.proofs.Operations.{whole}

-- two stretches of a text in a row
range_more : (text : List ℕ) (a b : ℕ) → a ≤ b → slice_range text a b ++ drop b text ≡ drop a text
range_more text a b le =
    let back : a + (b - a) ≡ b = omega (arith, le) in
    ap (λ (k : ℕ). slice_range text a b ++ drop k text) (sym back)
    ∙ ap (λ (l : List ℕ). slice_range text a b ++ l) (sym (drop-drop (b - a) a text))
    ∙ take-append-drop (b - a) (drop a text)

-- where a splice and what it puts in lie after a batch, of which some splices are before it. The text after the batch
-- begins with that before the splice
record IsPassed (text after front : List ℕ) (before : List Splice) (from : ℕ) (s : Splice) (splices : List Splice) : Type 0 where
  start : length (front ++ slice_range text from s.start) ≡ s.start + put_in before - taken_out before
  end : length ((front ++ slice_range text from s.start) ++ clean s.text) ≡ s.start + put_in before - taken_out before + length (clean s.text)
  kept : length (slice_range text from s.start) ≡ s.start - from
  parted : after ≡ (front ++ slice_range text from s.start) ++ (clean s.text ++ spliced_text text s.end splices)
  whole : after ≡ ((front ++ slice_range text from s.start) ++ clean s.text) ++ spliced_text text s.end splices
  balance : length ((front ++ slice_range text from s.start) ++ clean s.text) + taken_out (before ++ s ∷ []) ≡ s.end + put_in (before ++ s ∷ [])

passed : (text after front : List ℕ) (before : List Splice) (from : ℕ) (s : Splice) (splices : List Splice) →
    AreOrdered (length text) from (s ∷ splices) → after ≡ front ++ spliced_text text from (s ∷ splices) → length front + taken_out before ≡ from + put_in before →
    IsPassed text after front before from s splices
passed text after front before from s splices h e balance =
    let k = slice_range text from s.start in
    let c = clean s.text in
    let rest = spliced_text text s.end splices in
    let kept : length k ≡ s.start - from =
    length-take-le (s.start - from) (drop from text) (omega (arith, length-drop from text, h.0, h.1, ordered-le (length text) s.end splices h.2)) in
    let start : length (front ++ k) ≡ s.start + put_in before - taken_out before = omega (arith, length-append front k, kept, h.0, balance) in
    let end : length ((front ++ k) ++ c) ≡ s.start + put_in before - taken_out before + length c = omega (arith, length-append (front ++ k) c, start) in
    let parted : after ≡ (front ++ k) ++ (c ++ rest) = e ∙ sym (append_assoc front k (c ++ rest)) in
    record {
      start = start;
      end = end;
      kept = kept;
      parted = parted;
      whole = parted ∙ sym (append_assoc (front ++ k) c rest);
      balance =
          omega (
            arith,
            length-append (front ++ k) c,
            length-append front k,
            kept,
            h.0,
            h.1,
            balance,
            fold_push (λ (n : ℕ) (x : Splice). n + length (clean x.text)) 0 before s,
            fold_push (λ (n : ℕ) (x : Splice). n + (x.end - x.start)) 0 before s,
          );
    }

-- a stretch of a list that is known from its start to its end
middle : (before part behind list : List ℕ) (a b : ℕ) → list ≡ (before ++ part) ++ behind → length before ≡ a → length (before ++ part) ≡ b → slice_range list a b ≡ part
middle before part behind list a b e start end =
    ap (λ (l : List ℕ). take (b - a) (drop a l)) (e ∙ append_assoc before part behind)
    ∙ ap (take (b - a)) (drop_at before (part ++ behind) a start)
    ∙ take_at part behind (b - a) (omega (arith, length-append before part, start, end))

-- the end of what is UTF-8 by itself is a boundary
boundary_behind : (before behind list : List ℕ) (at : ℕ) → list ≡ before ++ behind → length before ≡ at → IsUtf8 list → IsUtf8 before → is_boundary list at ≡ true
boundary_behind before behind list at e long utf8 spelled =
    (tells_boundaries list utf8 at).1 (
      omega (arith, ap length e, length-append before behind, long),
      subst IsUtf8 (sym (ap (take at) e ∙ take_at before behind at long)) spelled,
    )

module _ (text : List ℕ) (is : IsText text) where
  at : (o : ℕ) → IsBoundary text o → IsCharBoundary text o
  at o h = IsCharBoundary-from_take text o is.0 h.0 h.1

  -- the text after a batch is UTF-8, from any of its splices on
  pub spliced-utf8 : (from : ℕ) (splices : List Splice) → IsBoundary text from → AreOrdered (length text) from splices → AreAtBoundaries text splices → Every (λ s. IsUtf8 s.text) splices →
      IsUtf8 (spliced_text text from splices)
  spliced-utf8 from [] b h bs us = IsUtf8-drop text from is.0 (at from b)
  spliced-utf8 from (s ∷ splices) b h bs us =
      IsUtf8-append (slice_range text from s.start) (clean s.text ++ spliced_text text s.end splices)
      (IsUtf8-between text from s.start is.0 h.0 (at from b) (at s.start bs.0.0))
      (IsUtf8-append (clean s.text) (spliced_text text s.end splices) (clean-utf8 s.text us.0) (spliced-utf8 s.end splices bs.0.1 h.2 bs.1 us.1))

  module _ (after : List ℕ) where
    -- what a batch took out comes back, from any of its splices on
    pub back_again : (front : List ℕ) (before : List Splice) (from : ℕ) (splices : List Splice) → AreOrdered (length text) from splices →
        after ≡ front ++ spliced_text text from splices → length front + taken_out before ≡ from + put_in before →
        spliced_text after (length front) (entries text before splices) ≡ drop from text
    back_again front before from [] h e balance = ap (drop (length front)) e ∙ drop_at front (drop from text) (length front) refl
    back_again front before from (s ∷ splices) h e balance =
        let p = passed text after front before from s splices h e balance in
        let k = slice_range text from s.start in
        let c = clean s.text in
        let tail = spliced_text text s.end splices in
        let start = s.start + put_in before - taken_out before in
        let later = entries text (before ++ s ∷ []) splices in
        let old = slice_range text s.start s.end in
        let unchanged : slice_range after (length front) start ≡ k = middle front k (c ++ tail) after (length front) start p.parted refl p.start in
        let returned : clean old ≡ old =
        clean-same old (All-take (λ b. b ≢ carriage_return) (s.end - s.start) (drop s.start text) (All-drop (λ b. b ≢ carriage_return) s.start text is.1)) in
        let rest : spliced_text after (start + length c) later ≡ drop s.end text =
        ap (λ (n : ℕ). spliced_text after n later) (sym p.end) ∙ back_again ((front ++ k) ++ c) (before ++ s ∷ []) s.end splices h.2 p.whole p.balance in
        (λ i. unchanged i ++ (returned i ++ rest i))
        ∙ ap (λ (l : List ℕ). k ++ l) (range_more text s.start s.end h.1)
        ∙ range_more text from s.start h.0

    -- each entry has the range of what its splice put in
    pub puts_again : (front : List ℕ) (before : List Splice) (from : ℕ) (splices : List Splice) → AreOrdered (length text) from splices →
        after ≡ front ++ spliced_text text from splices → length front + taken_out before ≡ from + put_in before →
        map (λ (s : Splice). slice_range after s.start s.end) (entries text before splices) ≡ map (λ (s : Splice). clean s.text) splices
    puts_again front before from [] h e balance = refl
    puts_again front before from (s ∷ splices) h e balance =
        let p = passed text after front before from s splices h e balance in
        let k = slice_range text from s.start in
        let c = clean s.text in
        let start = s.start + put_in before - taken_out before in
        λ i. middle (front ++ k) c (spliced_text text s.end splices) after start (start + length c) p.whole p.start p.end i
        ∷ puts_again ((front ++ k) ++ c) (before ++ s ∷ []) s.end splices h.2 p.whole p.balance i

    -- the ranges of the inverse lie in order between boundaries, from any splice of the batch on
    pub ranges_again : IsUtf8 after → (front : List ℕ) (before : List Splice) (from : ℕ) (splices : List Splice) → AreOrdered (length text) from splices →
        after ≡ front ++ spliced_text text from splices → length front + taken_out before ≡ from + put_in before →
        IsUtf8 front → IsBoundary text from → AreAtBoundaries text splices → Every (λ s. IsUtf8 s.text) splices →
        are_ranges after (length front) (entries text before splices) ≡ true
    ranges_again utf8 front before from [] h e balance spelled b bs us = refl
    ranges_again utf8 front before from (s ∷ splices) h e balance spelled b bs us =
        let p = passed text after front before from s splices h e balance in
        let k = slice_range text from s.start in
        let c = clean s.text in
        let tail = spliced_text text s.end splices in
        let start = s.start + put_in before - taken_out before in
        let spelled' : IsUtf8 (front ++ k) = IsUtf8-append front k spelled (IsUtf8-between text from s.start is.0 h.0 (at from b) (at s.start bs.0.0)) in
        let spelled'' : IsUtf8 ((front ++ k) ++ c) = IsUtf8-append (front ++ k) c spelled' (clean-utf8 s.text us.0) in
        let later = entries text (before ++ s ∷ []) splices in
        let rest = ranges_again utf8 ((front ++ k) ++ c) (before ++ s ∷ []) s.end splices h.2 p.whole p.balance spelled'' bs.0.1 bs.1 us.1 in
        whole after (length front) (entry text before s) later (record {
          order = omega (arith, p.start, length-append front k);
          forth = omega arith;
          start = boundary_behind (front ++ k) (c ++ tail) after start p.parted p.start utf8 spelled';
          end = boundary_behind ((front ++ k) ++ c) tail after (start + length c) p.whole p.end utf8 spelled'';
          rest = subst (λ (n : ℕ). are_ranges after n later ≡ true) p.end rest;
        })
