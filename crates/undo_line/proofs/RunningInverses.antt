-- The inverse of a batch, as one pass finds it.
use Rattle.std.proofs.Common.{◌≡◌, ℕ, ◌+◌, ◌-◌, ◌<◌, ◌≤◌, eqb, ◌&&◌, Bool, true, false, cond, List, [], ◌∷◌, ◌++◌, length, drop, get_or, slice_range, refl, sym, ap, subst, ◌∙◌, arith, append_assoc}
use Rattle.std.specs.List.{filter}
use Rattle.std.proofs.lemmas.Bool.{and_parts, eqb-true, not-false}
use Rattle.std.proofs.lemmas.List.{append-nil, drop_all, drop_more, nil_from_length}
use Rattle.std.proofs.lemmas.List.Sums.{fold_push}
use Rattle.cell_units.specs.Text.{clean}
use Rattle.cell_units.proofs.CutLists.{Every}
use Rattle.display_sheet.specs.declared.change.Splice.{Splice}
use Rattle.display_sheet.specs.Changes.{is_operation, splice_of}
use Rattle.display_map.proofs.Batches.{AreOrdered}
use Rattle.undo_line.specs.Inverse.{entries, inverse, put_in, taken_out}

-- the entries for splices from an offset of the text before the batch on, where that lies after it
abbrev pub running : List ℕ → ℕ → ℕ → List Splice → List Splice
running text from at [] = []
running text from at (s ∷ splices) =
    cond (is_operation s)
    (splice_of (at + (s.start - from)) (at + (s.start - from) + length (clean s.text)) (slice_range text s.start s.end)
    ∷ running text s.end (at + (s.start - from) + length (clean s.text)) splices)
    (running text s.end (at + (s.start - from) + length (clean s.text)) splices)

-- what is no operation puts nothing in, and takes nothing out
no_operation : (s : Splice) → is_operation s ≡ false → (s.start ≡ s.end) × (length (clean s.text) ≡ 0)
no_operation s h =
    let both = and_parts (eqb s.start s.end) (eqb (length s.text) 0) (not-false (eqb s.start s.end && eqb (length s.text) 0) h) in
    (eqb-true s.start s.end both.0, ap (λ (t : List ℕ). length (clean t)) (nil_from_length s.text (eqb-true (length s.text) 0 both.1)))

pub running-is : (text : List ℕ) (size : ℕ) (before : List Splice) (from at : ℕ) (splices : List Splice) → AreOrdered size from splices → at + taken_out before ≡ from + put_in before →
    running text from at splices ≡ entries text before (filter is_operation splices)
running-is text size before from at [] h balance = refl
running-is text size before from at (s ∷ splices) h balance = go (is_operation s) refl (λ op. running-is text size (before ++ s ∷ []) s.end (at + (s.start - from) + length (clean s.text)) splices h.2
    (omega (
      arith,
      balance,
      h.0,
      h.1,
      fold_push (λ (n : ℕ) (x : Splice). n + length (clean x.text)) 0 before s,
      fold_push (λ (n : ℕ) (x : Splice). n + (x.end - x.start)) 0 before s,
    ))) (λ op. running-is text size before s.end (at + (s.start - from) + length (clean s.text)) splices h.2
    (omega (arith, balance, h.0, (no_operation s op).0, (no_operation s op).1))) where
      go : (b : Bool) → is_operation s ≡ b →
          (is_operation s ≡ true → running text s.end (at + (s.start - from) + length (clean s.text)) splices ≡ entries text (before ++ s ∷ []) (filter is_operation splices)) →
          (is_operation s ≡ false → running text s.end (at + (s.start - from) + length (clean s.text)) splices ≡ entries text before (filter is_operation splices)) →
          cond b
          (splice_of (at + (s.start - from)) (at + (s.start - from) + length (clean s.text)) (slice_range text s.start s.end)
          ∷ running text s.end (at + (s.start - from) + length (clean s.text)) splices)
          (running text s.end (at + (s.start - from) + length (clean s.text)) splices)
          ≡ entries text before (cond b (s ∷ filter is_operation splices) (filter is_operation splices))
      go true op put passed =
          let same : at + (s.start - from) ≡ s.start + put_in before - taken_out before = omega (arith, balance, h.0) in
          λ i. splice_of (same i) (same i + length (clean s.text)) (slice_range text s.start s.end) ∷ put op i
      go false op put passed = passed op

module _ (text : List ℕ) (splices : List Splice) (from at i : ℕ) (s : Splice) (there : i < length splices) (is : s ≡ get_or splices i s) where
  next : drop i splices ≡ s ∷ drop (i + 1) splices
  next = drop_more splices i s there ∙ ap (λ (x : Splice). x ∷ drop (i + 1) splices) (sym is)

  abbrev start : ℕ
  start = at + (s.start - from)

  abbrev end : ℕ
  end = start + length (clean s.text)

  abbrev later : List Splice
  later = running text s.end end (drop (i + 1) splices)

  by_test : (b : Bool) → is_operation s ≡ b → running text from at (drop i splices) ≡ cond b (splice_of start end (slice_range text s.start s.end) ∷ later) later
  by_test b op = ap (running text from at) next ∙ ap (λ (t : Bool). cond t (splice_of start end (slice_range text s.start s.end) ∷ later) later) op

  -- an operation has its entry
  pub running-put : is_operation s ≡ true → (whole old new : List Splice) → old ++ running text from at (drop i splices) ≡ whole →
      new ≡ old ++ splice_of start end (slice_range text s.start s.end) ∷ [] → new ++ later ≡ whole
  running-put op whole old new told pushed =
      ap (λ (l : List Splice). l ++ later) pushed
      ∙ append_assoc old (splice_of start end (slice_range text s.start s.end) ∷ []) later
      ∙ ap (λ (l : List Splice). old ++ l) (sym (by_test true op))
      ∙ told

  -- what is no operation has none
  pub running-passed : is_operation s ≡ false → (whole old : List Splice) → old ++ running text from at (drop i splices) ≡ whole → old ++ later ≡ whole
  running-passed op whole old told = ap (λ (l : List Splice). old ++ l) (sym (by_test false op)) ∙ told

  pub each-next : (P : Splice → Type 0) → Every P (drop i splices) → P s × Every P (drop (i + 1) splices)
  each-next P h = subst (Every P) next h

  -- what holds of this one and of each after it does so from this one on
  pub each-more : (P : Splice → Type 0) → P s → Every P (drop (i + 1) splices) → Every P (drop i splices)
  each-more P h hs = subst (Every P) (sym next) (h, hs)

-- at the end of the pass
module _ (text : List ℕ) (splices : List Splice) (from at i : ℕ) (past : length splices ≤ i) where
  pub running-end : (old : List Splice) → AreOrdered (length text) 0 splices → old ++ running text from at (drop i splices) ≡ running text 0 0 splices → old ≡ inverse text splices
  running-end old ordered told =
      sym (append-nil old)
      ∙ ap (λ (l : List Splice). old ++ running text from at l) (sym (drop_all i splices past))
      ∙ told
      ∙ running-is text (length text) [] 0 0 splices ordered refl

  pub each-end : (P : Splice → Type 0) → Every P (drop i splices)
  each-end P = subst (Every P) (sym (drop_all i splices past)) tt
