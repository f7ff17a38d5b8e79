-- After an operation that isn't on blocks those of an untouched line are the ones that it had.
use Rattle.std.proofs.Common.{◌≡◌, ◌⊎◌, ℕ, ◌+◌, ◌-◌, ◌<◌, ◌≤◌, ◌&&◌, ◌||◌, suc, Bool, true, cond, eqb, leb, ltb, List, [], ◌∷◌, length, map, filter, get_or, refl, sym, ap, subst, ◌∙◌, inl, inr, arith}
use Rattle.std.proofs.lemmas.Bool.{and_parts, cases_eq, cases_lt, eq-eqb, eqb-true, le-leb, le-ltb, leb-true, lt-leb, lt-ltb, ne_eqb}
use Rattle.cell_units.specs.declared.place.Bias.TheVariants.{Right}
use Rattle.cell_units.specs.declared.place.Side.{Side}
use Rattle.cell_units.specs.Text.{clean}
use Rattle.cell_units.specs.Record.{Block, Record, block_le, in_order}
use Rattle.cell_units.specs.Lawful.{IsAllowed, IsLawful}
use Rattle.cell_units.specs.LineCounts.{TouchesOneRun, operated_offset}
use Rattle.cell_units.specs.Operation.{AddBlock, AddFold, AddInlay, Operation, RemoveBlock, RemoveFold, RemoveInlay, Replace, SetTab, SetWidth, move_block, operated}
use Rattle.cell_units.specs.Touched.{touched}
use Rattle.cell_units.proofs.Entries.{sorted_entries}
use Rattle.cell_units.proofs.EntryOrders.{block_total, block_trans}
use Rattle.cell_units.proofs.LawfulOperations.{lawful-operated}
use Rattle.cell_units.proofs.Moves.{move-above, move-below}
use Rattle.cell_units.proofs.SortedLists.{filter-moved_sort}
use Rattle.plain_rows.specs.Rows.{is_on, line_of_block}
use Rattle.plain_rows.specs.inside.BuiltRows.{no_block}
use Rattle.display_sheet.specs.LineStep.{line_step}
use Rattle.row_pieces.specs.Laws.{KeepsBlocks, LeavesBlocks}
use Rattle.row_pieces.proofs.BlockLines.{after-long, after-range, after-reaches, before-range, goes, moved-within, replaced, side_line}
use Rattle.row_pieces.proofs.BlockLooks.{Shape, seen-shapes, seen_blocks, shape}
use Rattle.row_pieces.proofs.OperatedLooks.{marks-long, step-is, tab-stays}
use Rattle.row_pieces.proofs.BlockLines as lines

-- ---- tests of numbers

apart : (x y m n : ℕ) → (x ≡ m → ⊥) → (y ≡ n → ⊥) → eqb x m ≡ eqb y n
apart x y m n h k = ne_eqb x m h ∙ sym (ne_eqb y n k)

alike : (x y m n : ℕ) → (x ≡ m → y ≡ n) → (y ≡ n → x ≡ m) → eqb x m ≡ eqb y n
alike x y m n f g = go (cases_eq x m) where
  go : (x ≡ m) ⊎ (x ≡ m → ⊥) → eqb x m ≡ eqb y n
  go (inl e) = eq-eqb x m e ∙ sym (eq-eqb y n (f e))
  go (inr e) = apart x y m n e (λ k. e (g k))

-- ---- lists that are filtered

pub filter-same : (p q : Block → Bool) (xs : List Block) → ((k : ℕ) → k < length xs → p (get_or xs k no_block) ≡ q (get_or xs k no_block)) → filter p xs ≡ filter q xs
filter-same p q [] h = refl
filter-same p q (x ∷ xs) h = λ i. cond (h 0 (omega arith) i) (x ∷ filter-same p q xs (λ k lt. h (suc k) (omega (arith, lt))) i) (filter-same p q xs (λ k lt. h (suc k) (omega (arith, lt))) i)

shapes-moved : (a b n : ℕ) (bs : List Block) → map shape (map (move_block a b n) bs) ≡ map shape bs
shapes-moved a b n [] = refl
shapes-moved a b n (x ∷ xs) = ap (λ (l : List Shape). shape x ∷ l) (shapes-moved a b n xs)

abbrev pub on : Record → Side → ℕ → Block → Bool
on q side line b = is_on side b.side && eqb (line_of_block q b) line

-- ---- an operation

-- a line and the one that it is afterwards
abbrev GoTogether : Operation → Record → ℕ → ℕ → Type 0
GoTogether operation r m n =
    (side : Side) (o : ℕ) → o ≤ length r.text → eqb (side_line (operated operation r) side (operated_offset operation o)) m ≡ eqb (side_line r side o) n

module _ (operation : Operation) (r : Record) (is : IsLawful r) (ok : IsAllowed operation r) (run : TouchesOneRun (touched operation r) r (operated operation r)) where
  abbrev r' : Record
  r' = operated operation r

  abbrev at : ℕ → ℕ
  at o = operated_offset operation o

  together-above : (n : ℕ) → n < run.front → GoTogether operation r n n
  together-above n lt side o le = go (cases_lt (side_line r side o) run.front) where
    go : (side_line r side o < run.front) ⊎ (run.front ≤ side_line r side o) → eqb (side_line r' side (at o)) n ≡ eqb (side_line r side o) n
    go (inl less) = ap (λ (k : ℕ). eqb k n) ((goes operation r is ok run side o le).in_front less)
    go (inr from) =
        let s = lines.stays operation r is ok run in
        let there = s.low side o le from in
        apart (side_line r' side (at o)) (side_line r side o) n n (λ e. omega (arith, e, there, lt)) (λ e. omega (arith, e, from, lt))

  together-below : (j : ℕ) → GoTogether operation r (run.front + run.after + j) (run.front + run.before + j)
  together-below j side o le = go (cases_lt (side_line r side o) (run.front + run.before)) where
    go : (side_line r side o < run.front + run.before) ⊎ (run.front + run.before ≤ side_line r side o) →
        eqb (side_line r' side (at o)) (run.front + run.after + j) ≡ eqb (side_line r side o) (run.front + run.before + j)
    go (inl less) =
        let s = lines.stays operation r is ok run in
        let there = s.high side o le less in
        apart (side_line r' side (at o)) (side_line r side o) (run.front + run.after + j) (run.front + run.before + j) (λ e. omega (arith, e, there)) (λ e. omega (arith, e, less))
    go (inr from) =
        let moved = (goes operation r is ok run side o le).behind from in
        alike (side_line r' side (at o)) (side_line r side o) (run.front + run.after + j) (run.front + run.before + j) (λ e. omega (arith, e, moved)) (λ e. omega (arith, e, moved))

-- the blocks stay as they are
module _ (operation : Operation) (r : Record) (is : IsLawful r) (blocks : (operated operation r).blocks ≡ r.blocks) (still : (o : ℕ) → operated_offset operation o ≡ o) where
  shapes-still : (m n : ℕ) → GoTogether operation r m n → (side : Side) → map shape (filter (on (operated operation r) side m) (operated operation r).blocks) ≡ map shape (filter (on r side n) r.blocks)
  shapes-still m n h side =
      ap (λ (bs : List Block). map shape (filter (on (operated operation r) side m) bs)) blocks
      ∙ ap (map shape) (filter-same (on (operated operation r) side m) (on r side n) r.blocks (λ k lt.
      let b = get_or r.blocks k no_block in
      let within : b.offset ≤ length r.text = (is.entries.blocks.each k no_block lt).boundary.0 in
      ap (λ (c : Bool). is_on side b.side && c) (ap (λ (o : ℕ). eqb (side_line (operated operation r) b.side o) m) (sym (still b.offset)) ∙ h b.side b.offset within)))

-- ---- a replacement moves blocks, and puts them in order again

alike-lt : (x y m n : ℕ) → (x < m → y < n) → (y < n → x < m) → ltb x m ≡ ltb y n
alike-lt x y m n f g = go (cases_lt x m) where
  go : (x < m) ⊎ (m ≤ x) → ltb x m ≡ ltb y n
  go (inl l) = lt-ltb x m l ∙ sym (lt-ltb y n (f l))
  go (inr l) = le-ltb x m l ∙ sym (le-ltb y n (at (cases_lt y n))) where
    at : (y < n) ⊎ (n ≤ y) → n ≤ y
    at (inl k) = absurd (omega (arith, g k, l))
    at (inr k) = k

module _ (a b : ℕ) (s : List ℕ) (r : Record) (is : IsLawful r) (ok : IsAllowed (Replace a b s) r) where
  abbrev n : ℕ
  n = length (clean s)

  abbrev mv : Block → Block
  mv x = move_block a b n x

  abbrev made : Record
  made = operated (Replace a b s) r

  abbrev p : Side → ℕ → Block → Bool
  p side m x = leb x.offset (length r.text) && on r side m x

  abbrev p' : Side → ℕ → Block → Bool
  p' side m x = leb x.offset (length made.text) && on made side m x

  same-test : (m m0 : ℕ) → GoTogether (Replace a b s) r m m0 → (side : Side) (x : Block) → p' side m (mv x) ≡ p side m0 x
  same-test m m0 h side x = go (cases_lt (length r.text) x.offset) where
    go : (length r.text < x.offset) ⊎ (x.offset ≤ length r.text) → p' side m (mv x) ≡ p side m0 x
    go (inl far) =
        let past : b < x.offset = omega (arith, far, ok.1.0) in
        let there : (mv x).offset ≡ x.offset + n - (b - a) = move-above x.offset Right a b n ok.2 past in
        let out : length made.text < (mv x).offset = omega (arith, there, far, ok.2, ok.1.0, after-reaches r a b s ok.2 ok.1.0, after-long r a b s ok.2 ok.1.0) in
        ap (λ (c : Bool). c && on made side m (mv x)) (lt-leb (mv x).offset (length made.text) out)
        ∙ sym (ap (λ (c : Bool). c && on r side m0 x) (lt-leb x.offset (length r.text) far))
    go (inr near) =
        let within : (mv x).offset ≤ length made.text = moved-within r a b s ok.2 ok.1.0 x.offset near in
        ap (λ (c : Bool). c && on made side m (mv x)) (le-leb (mv x).offset (length made.text) within)
        ∙ ap (λ (c : Bool). is_on side x.side && c) (h x.side x.offset near)
        ∙ sym (ap (λ (c : Bool). c && on r side m0 x) (le-leb x.offset (length r.text) near))

  -- all blocks of a line are before the range, or all after it
  abbrev Clear : ℕ → Type 0
  Clear m0 = ((side : Side) (o : ℕ) → o ≤ length r.text → side_line r side o ≡ m0 → o < a) ⊎ ((side : Side) (o : ℕ) → o ≤ length r.text → side_line r side o ≡ m0 → b < o)

  of-line : (side : Side) (m0 : ℕ) (x : Block) → p side m0 x ≡ true → (x.offset ≤ length r.text) × (side_line r x.side x.offset ≡ m0)
  of-line side m0 x e =
      let both = and_parts (leb x.offset (length r.text)) (on r side m0 x) e in
      let own = and_parts (is_on side x.side) (eqb (line_of_block r x) m0) both.1 in
      (leb-true x.offset (length r.text) both.0, eqb-true (line_of_block r x) m0 own.1)

  order-kept : (m0 : ℕ) → Clear m0 → (side : Side) (x y : Block) → p side m0 x ≡ true → p side m0 y ≡ true → block_le x y ≡ true → block_le (mv x) (mv y) ≡ true
  order-kept m0 (inl under) side x y px py le =
      let fx = of-line side m0 x px in
      let fy = of-line side m0 y py in
      (λ i. in_order (move-below x.offset Right a b n (under x.side x.offset fx.0 fx.1) i) (move-below y.offset Right a b n (under y.side y.offset fy.0 fy.1) i) (leb x.id y.id)) ∙ le
  order-kept m0 (inr over) side x y px py le =
      let fx = of-line side m0 x px in
      let fy = of-line side m0 y py in
      let ox = over x.side x.offset fx.0 fx.1 in
      let oy = over y.side y.offset fy.0 fy.1 in
      let ab = ok.2 in
      let tx = x.offset + n - (b - a) in
      let ty = y.offset + n - (b - a) in
      let less : ltb tx ty ≡ ltb x.offset y.offset = alike-lt tx x.offset ty y.offset (λ k. omega (arith, k, ox, oy, ab)) (λ k. omega (arith, k, ox, oy, ab)) in
      let equal : eqb tx ty ≡ eqb x.offset y.offset = alike tx x.offset ty y.offset (λ k. omega (arith, k, ox, oy, ab)) (λ k. omega (arith, k, ox, oy, ab)) in
      (λ i. in_order (move-above x.offset Right a b n ab ox i) (move-above y.offset Right a b n ab oy i) (leb x.id y.id))
      ∙ (λ i. less i || (equal i && leb x.id y.id))
      ∙ le

  shapes-replaced : (m m0 : ℕ) → GoTogether (Replace a b s) r m m0 → Clear m0 → (side : Side) → map shape (filter (on made side m) made.blocks) ≡ map shape (filter (on r side m0) r.blocks)
  shapes-replaced m m0 h clear side =
      let entries = lawful-operated r is.entries (Replace a b s) ok in
      let sorted = sorted_entries block_le block_total block_trans (λ (k : Block). k.id) r.blocks is.entries.blocks.in_order in
      let inside' : filter (on made side m) made.blocks ≡ filter (p' side m) made.blocks =
      filter-same (on made side m) (p' side m) made.blocks (λ k lt.
      let x = get_or made.blocks k no_block in
      let within : x.offset ≤ length made.text = (entries.blocks.each k no_block lt).boundary.0 in
      sym (ap (λ (c : Bool). c && on made side m x) (le-leb x.offset (length made.text) within))) in
      let inside : filter (p side m0) r.blocks ≡ filter (on r side m0) r.blocks =
      filter-same (p side m0) (on r side m0) r.blocks (λ k lt.
      let x = get_or r.blocks k no_block in
      let within : x.offset ≤ length r.text = (is.entries.blocks.each k no_block lt).boundary.0 in
      ap (λ (c : Bool). c && on r side m0 x) (le-leb x.offset (length r.text) within)) in
      ap (map shape) inside'
      ∙ ap (map shape) (filter-moved_sort block_le block_total block_trans (λ (x : Block). mv x) (p side m0) (p' side m) (same-test m m0 h side) (order-kept m0 clear side) r.blocks sorted)
      ∙ shapes-moved a b n (filter (p side m0) r.blocks)
      ∙ ap (map shape) inside

-- ---- blocks of untouched lines

module _ (operation : Operation) (r : Record) (is : IsLawful r) (ok : IsAllowed operation r) (run : TouchesOneRun (touched operation r) r (operated operation r)) where
  abbrev KeepShapes : ℕ → ℕ → Type 0
  KeepShapes m m0 = (side : Side) → map shape (filter (on (operated operation r) side m) (operated operation r).blocks) ≡ map shape (filter (on r side m0) r.blocks)

  from-shapes : ((line : ℕ) → line < run.front → KeepShapes line line) →
      ((j : ℕ) → run.front + run.before + j < length r.marks → KeepShapes (run.front + run.after + j) (run.front + run.before + j)) →
      KeepsBlocks run.front run.before run.after r (line_step operation r)
  from-shapes over under = subst (KeepsBlocks run.front run.before run.after r) (sym (step-is operation r is ok run)) (record {
    above = λ side line lt.
        let tab = tab-stays operation r is ok run line (inl lt) in
        ap (λ (t : ℕ). seen_blocks t (filter (on (operated operation r) side line) (operated operation r).blocks)) tab
        ∙ seen-shapes r.tab (filter (on (operated operation r) side line) (operated operation r).blocks) (filter (on r side line) r.blocks) (over line lt side);
    below = λ side j lt.
        let back : 0 < run.back = omega (arith, lt, marks-long operation r is ok run) in
        let line = run.front + run.before + j in
        let line' = run.front + run.after + j in
        let tab = tab-stays operation r is ok run line (inr back) in
        ap (λ (t : ℕ). seen_blocks t (filter (on (operated operation r) side line') (operated operation r).blocks)) tab
        ∙ seen-shapes r.tab (filter (on (operated operation r) side line') (operated operation r).blocks) (filter (on r side line) r.blocks) (under j lt side);
  })

  still-blocks : (operated operation r).blocks ≡ r.blocks → ((o : ℕ) → operated_offset operation o ≡ o) → KeepsBlocks run.front run.before run.after r (line_step operation r)
  still-blocks blocks still = from-shapes
      (λ line lt. shapes-still operation r is blocks still line line (together-above operation r is ok run line lt))
      (λ j lt. shapes-still operation r is blocks still (run.front + run.after + j) (run.front + run.before + j) (together-below operation r is ok run j))

pub blocks-kept : (operation : Operation) (r : Record) (is : IsLawful r) (ok : IsAllowed operation r) (run : TouchesOneRun (touched operation r) r (operated operation r)) → LeavesBlocks operation →
    KeepsBlocks run.front run.before run.after r (line_step operation r)
blocks-kept (Replace a b s) r is ok run leaves =
    let w = replaced r a b s ok.2 ok.1.0 in
    let operation = Replace a b s in
    from-shapes operation r is ok run
    (λ line lt. shapes-replaced a b s r is ok line line (together-above operation r is ok run line lt)
    (inl (λ side o le e. before-range operation r is ok run w side o le (omega (arith, e, lt)))))
    (λ j lt. shapes-replaced a b s r is ok (run.front + run.after + j) (run.front + run.before + j) (together-below operation r is ok run j)
    (inr (λ side o le e. after-range operation r is ok run w side o le (omega (arith, e)))))
blocks-kept (AddInlay i) r is ok run leaves = still-blocks (AddInlay i) r is ok run refl (λ o. refl)
blocks-kept (RemoveInlay id) r is ok run leaves = still-blocks (RemoveInlay id) r is ok run refl (λ o. refl)
blocks-kept (AddFold f) r is ok run leaves = still-blocks (AddFold f) r is ok run refl (λ o. refl)
blocks-kept (RemoveFold id) r is ok run leaves = still-blocks (RemoveFold id) r is ok run refl (λ o. refl)
blocks-kept (AddBlock row id side lines) r is ok run leaves = absurd leaves
blocks-kept (RemoveBlock id) r is ok run leaves = absurd leaves
blocks-kept (SetTab tab) r is ok run leaves = still-blocks (SetTab tab) r is ok run refl (λ o. refl)
blocks-kept (SetWidth width) r is ok run leaves = still-blocks (SetWidth width) r is ok run refl (λ o. refl)
