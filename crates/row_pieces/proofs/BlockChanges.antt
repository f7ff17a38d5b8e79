-- An operation on a block replaces the line of that block truly.
use Rattle.std.proofs.Common.{◌≡◌, ◌⊎◌, ℕ, ◌+◌, ◌-◌, ◌<◌, ◌≤◌, not, suc, Bool, true, false, cond, eqb, List, [], ◌∷◌, length, filter, get_or, refl, sym, ap, subst, ◌∙◌, inl, inr, arith}
use Rattle.std.proofs.lemmas.Bool.{and_right, cases_lt, eqb-true, ne_eqb}
use Rattle.cell_units.specs.declared.place.Side.{Side}
use Rattle.cell_units.specs.Sorting.{insert_by}
use Rattle.cell_units.specs.Record.{Block, Record, block_le}
use Rattle.cell_units.specs.Lawful.{IsAllowed, IsLawful}
use Rattle.cell_units.specs.LineCounts.{TouchesOneRun}
use Rattle.cell_units.specs.Operation.{AddBlock, AddFold, AddInlay, Operation, RemoveBlock, RemoveFold, RemoveInlay, Replace, SetTab, SetWidth, block_at_row, operated}
use Rattle.cell_units.specs.Touched.{NoLine, touched}
use Rattle.cell_units.proofs.OperatedLines.{keeps_lines}
use Rattle.plain_rows.specs.Rows.{is_on, line_of_block}
use Rattle.plain_rows.specs.inside.BuiltRows.{no_block}
use Rattle.display_sheet.specs.LineStep.{line_step}
use Rattle.display_sheet.proofs.StepLaws.{IsLawful-step}
use Rattle.row_pieces.specs.Changed.{IsTrue, change, looks_by_line}
use Rattle.row_pieces.specs.Laws.{IsBlockLine, KeepsBlocks, KeepsLooks, line_looks}
use Rattle.row_pieces.proofs.BlockLines.{none-touched}
use Rattle.row_pieces.proofs.BlockLooks.{seen_blocks}
use Rattle.row_pieces.proofs.OperatedBlocks.{on}
use Rattle.row_pieces.proofs.OperatedLooks.{looks-kept, marks-long, marks-stepped, step-is}
use Rattle.row_pieces.proofs.TrueLines.{true-lines}

-- ---- one more that fails the test, or fewer that do

filter-skip : (q : Block → Bool) (x : Block) (ys : List Block) → q x ≡ false → filter q (insert_by block_le x ys) ≡ filter q ys
filter-skip q x [] h = ap (λ (b : Bool). cond b (x ∷ []) []) h
filter-skip q x (y ∷ ys) h = go (block_le x y) (filter-skip q x ys h) where
  go : (b : Bool) → filter q (insert_by block_le x ys) ≡ filter q ys → filter q (cond b (x ∷ y ∷ ys) (y ∷ insert_by block_le x ys)) ≡ filter q (y ∷ ys)
  go true rest = ap (λ (b : Bool). cond b (x ∷ filter q (y ∷ ys)) (filter q (y ∷ ys))) h
  go false rest = ap (λ (l : List Block). cond (q y) (y ∷ l) l) rest

filter-twice : (p q : Block → Bool) (xs : List Block) → ((k : ℕ) → k < length xs → p (get_or xs k no_block) ≡ false → q (get_or xs k no_block) ≡ false) → filter q (filter p xs) ≡ filter q xs
filter-twice p q [] h = refl
filter-twice p q (x ∷ xs) h = go (p x) refl (filter-twice p q xs (λ k lt. h (suc k) (omega (arith, lt)))) where
  go : (b : Bool) → p x ≡ b → filter q (filter p xs) ≡ filter q xs → filter q (cond b (x ∷ filter p xs) (filter p xs)) ≡ filter q (x ∷ xs)
  go true e rest = ap (λ (l : List Block). cond (q x) (x ∷ l) l) rest
  go false e rest = rest ∙ sym (ap (λ (b : Bool). cond b (x ∷ filter q xs) (filter q xs)) (h 0 (omega arith) e))

off-line : (r : Record) (side : Side) (m line : ℕ) (b : Block) → line_of_block r b ≡ line → (m ≡ line → ⊥) → on r side m b ≡ false
off-line r side m line b e h = and_right (is_on side b.side) (eqb (line_of_block r b) m) (ne_eqb (line_of_block r b) m (λ k. h (sym k ∙ e)))

-- ---- an operation that touches no line, and leaves the blocks of all lines but one

module _ (operation : Operation) (r : Record) (is : IsLawful r) (ok : IsAllowed operation r) (none : touched operation r ≡ NoLine) (tab : (operated operation r).tab ≡ r.tab) (line : ℕ) (lt : line < length r.marks)
    (same : (side : Side) (m : ℕ) → (m ≡ line → ⊥) → filter (on (operated operation r) side m) (operated operation r).blocks ≡ filter (on r side m) r.blocks) where
  run : TouchesOneRun (touched operation r) r (operated operation r)
  run = let k = keeps_lines r is.entries operation ok in k.run

  looks-same : (m : ℕ) → m < length r.marks → line_looks (line_step operation r) m ≡ line_looks r m
  looks-same m within = go (cases_lt m run.front) where
    go : (m < run.front) ⊎ (run.front ≤ m) → line_looks (line_step operation r) m ≡ line_looks r m
    go (inl less) = let k = looks-kept operation r is ok run in k.above m less
    go (inr from) =
        let k = looks-kept operation r is ok run in
        let zeros = none-touched operation r is ok run none in
        let j = m - run.front in
        let old : run.front + run.before + j ≡ m = omega (arith, zeros.0, from) in
        let new : run.front + run.after + j ≡ m = omega (arith, zeros.1, from) in
        ap (line_looks (line_step operation r)) (sym new) ∙ k.below j (omega (arith, old, within)) ∙ ap (line_looks r) old

  keeps-looks : KeepsLooks line 1 1 r (line_step operation r)
  keeps-looks = record {
    above = λ m less. looks-same m (omega (arith, less, lt));
    below = λ j within. looks-same (line + 1 + j) within;
  }

  keeps-blocks : KeepsBlocks line 1 1 r (line_step operation r)
  keeps-blocks = subst (KeepsBlocks line 1 1 r) (sym (step-is operation r is ok run)) (record {
    above = λ side m less. (λ i. seen_blocks (tab i) (same side m (λ e. omega (arith, e, less)) i));
    below = λ side j within. (λ i. seen_blocks (tab i) (same side (line + 1 + j) (λ e. omega (arith, e)) i));
  })

  line-true : IsTrue (change line (line + 1) 1) (looks_by_line r) (looks_by_line (line_step operation r))
  line-true =
      let zeros = none-touched operation r is ok run none in
      let back = length r.marks - (line + 1) in
      let long : length r.marks ≡ line + (1 + back) = omega (arith, lt) in
      let long' : length (line_step operation r).marks ≡ line + (1 + back) = omega (arith, lt, marks-stepped operation r is ok run, marks-long operation r is ok run, zeros.0, zeros.1) in
      true-lines r (line_step operation r) is (IsLawful-step operation r is ok) line 1 1 back long long' keeps-looks keeps-blocks

pub block-line-true : (operation : Operation) (r : Record) (line : ℕ) (is : IsLawful r) (ok : IsAllowed operation r) → line < length r.marks → IsBlockLine operation r line →
    IsTrue (change line (line + 1) 1) (looks_by_line r) (looks_by_line (line_step operation r))
block-line-true (AddBlock row id side lines) r line is ok lt at =
    line-true (AddBlock row id side lines) r is ok refl refl line lt
    (λ s m h. filter-skip (on r s m) (block_at_row r.text row id side lines) r.blocks (off-line r s m line (block_at_row r.text row id side lines) at h))
block-line-true (RemoveBlock id) r line is ok lt at =
    line-true (RemoveBlock id) r is ok refl refl line lt
    (λ s m h. filter-twice (λ k. not (eqb k.id id)) (on r s m) r.blocks
    (λ k within gone. off-line r s m line (get_or r.blocks k no_block) (at k within (own (eqb (get_or r.blocks k no_block).id id) gone (eqb-true (get_or r.blocks k no_block).id id))) h)) where
      own : {P : Type 0} (b : Bool) → not b ≡ false → (b ≡ true → P) → P
      own true e f = f refl
      own false e f = absurd (cc e)
block-line-true (Replace a b s) r line is ok lt at = absurd at
block-line-true (AddInlay i) r line is ok lt at = absurd at
block-line-true (RemoveInlay id) r line is ok lt at = absurd at
block-line-true (AddFold f) r line is ok lt at = absurd at
block-line-true (RemoveFold id) r line is ok lt at = absurd at
block-line-true (SetTab tab) r line is ok lt at = absurd at
block-line-true (SetWidth width) r line is ok lt at = absurd at
