-- Rows built line by line, and the blocks at a line.
use Rattle.std.proofs.Common.{◌≡◌, ℕ, ◌+◌, ◌<◌, ◌≤◌, ◌&&◌, ◌||◌, not, suc, Bool, true, false, cond, eqb, leb, nat_le, ltb, List, [], ◌∷◌, ◌++◌, length, map, take, drop, get_or, filter, flat_map, refl, sym, ap, ◌∙◌, subst, inl, inr, arith, append-nil}
use Rattle.std.proofs.lemmas.Bool.{and_cases, and_from, and_left, and_parts, and_right, cases_lt, eq-eqb, false≢true, leb-false, leb-true, ltb-false, ltb-true, ne_eqb, not-false, not-true, or_cases, or_parts}
use Rattle.std.proofs.lemmas.List.{get_or-drop, get_or-take, length-drop, length-take-le, map-append, take-append-drop}
use Rattle.std.proofs.lemmas.List.Concat.{flat_map-append}
use Rattle.std.proofs.lemmas.List.Elements.{filter-append, filter_more}
use Rattle.cell_units.specs.declared.place.Side.{Side}
use Rattle.cell_units.specs.declared.place.Side.TheVariants.{Above, Below}
use Rattle.cell_units.specs.declared.place.Bias.TheVariants.{Left, Right}
use Rattle.cell_units.specs.Folded.{line_of}
use Rattle.cell_units.specs.Record.{Block, Record, block_le}
use Rattle.cell_units.specs.Lawful.{IsBlockOf, IsLawful}
use Rattle.cell_units.specs.Text.{row_end, row_start}
use Rattle.cell_units.proofs.Entries.{entries-pairs}
use Rattle.cell_units.proofs.EntryOrders.{block_total, block_trans}
use Rattle.plain_rows.specs.Plain.{row_pairs}
use Rattle.plain_rows.specs.Rows.{Row, block_rows, blocks_at, head_and_more, is_above, is_on, line_of_block, more_row}
use Rattle.plain_rows.specs.inside.BuiltRows.{AreBefore, block_at, is_upto, no_block}
use Rattle.plain_rows.proofs.LawfulSources.{order-le}
use Rattle.plain_rows.proofs.RisingLines.{line_of-rises, row_end-rises, row_end-within, row_start-le, row_start-rises}

abbrev pub Pairs : Type 0
Pairs = List (ℕ × List ℕ)

pub pairs-append : (xs ys : List Row) → row_pairs (xs ++ ys) ≡ row_pairs xs ++ row_pairs ys
pairs-append xs ys = map-append (λ row. (row.kind, row.text)) xs ys

-- ---- blocks at a line

abbrev stands : Record → Side → ℕ → Block → Bool
stands r side line b = is_on side b.side && eqb (line_of_block r b) line

on-own : (side other : Side) → is_on side other ≡ true → other ≡ side
on-own Above Above e = refl
on-own Above Below e = absurd (false≢true e)
on-own Below Above e = absurd (false≢true e)
on-own Below Below e = refl

on-same : (side : Side) → is_on side side ≡ true
on-same Above = refl
on-same Below = refl

-- no block of the side is at the line
none-stands : (r : Record) (side : Side) (line : ℕ) (bs : List Block) → ((k : ℕ) → k < length bs → (get_or bs k no_block).side ≡ side → line_of_block r (get_or bs k no_block) ≡ line → ⊥) →
    filter (stands r side line) bs ≡ []
none-stands r side line [] none = refl
none-stands r side line (b ∷ bs) none =
    ap (λ (c : Bool). cond c (b ∷ filter (stands r side line) bs) (filter (stands r side line) bs)) (off (is_on side b.side) refl)
    ∙ none-stands r side line bs (λ k lt. none (suc k) (omega (arith, lt))) where
      off : (c : Bool) → is_on side b.side ≡ c → stands r side line b ≡ false
      off false e = and_left (is_on side b.side) (eqb (line_of_block r b) line) e
      off true e = and_right (is_on side b.side) (eqb (line_of_block r b) line) (ne_eqb (line_of_block r b) line (none 0 (omega arith) (on-own side b.side e)))

pub none-before : (r : Record) (side : Side) (n line : ℕ) → AreBefore r side n line → filter (stands r side line) (take n r.blocks) ≡ []
none-before r side n line are =
    let long = length-take-le n r.blocks are.within in
    none-stands r side line (take n r.blocks) (λ k lt of at.
    let small : k < n = omega (arith, lt, long) in
    let same : get_or (take n r.blocks) k no_block ≡ block_at r k = get_or-take n r.blocks k no_block small in
    let own = sym (ap (λ (b : Block). b.side) same) ∙ of in
    absurd (omega (arith, are.before k small own, sym (ap (line_of_block r) same) ∙ at)))

-- the line of a block, by its side and its offset
abbrev line_by : Record → Side → ℕ → ℕ
line_by r side o = cond (is_above side) (line_of r.text r.inlays r.folds (row_start r.text o) Left) (line_of r.text r.inlays r.folds (row_end r.text o) Right)

-- the lines of the blocks of one side don't fall
pub lines-rise : (r : Record) → IsLawful r → (i j : ℕ) → i < j → j < length r.blocks → (block_at r i).side ≡ (block_at r j).side → line_of_block r (block_at r i) ≤ line_of_block r (block_at r j)
lines-rise r lawful i j lt within same =
    let blocks = lawful.entries.blocks in
    let pair = entries-pairs block_le block_total block_trans (λ (b : Block). b.id) (IsBlockOf r.text) r.blocks blocks i j no_block lt within in
    let le = order-le (block_at r i).offset (block_at r j).offset (nat_le (block_at r i).id (block_at r j).id) pair.0 in
    let end : (block_at r j).offset ≤ length r.text = (blocks.each j no_block within).boundary.0 in
    by (block_at r i).side (block_at r j).side same le end where
      by : (s t : Side) → s ≡ t → (block_at r i).offset ≤ (block_at r j).offset → (block_at r j).offset ≤ length r.text →
          line_by r s (block_at r i).offset ≤ line_by r t (block_at r j).offset
      by Above Above e le end =
          line_of-rises r.text r.inlays r.folds (row_start r.text (block_at r i).offset) (row_start r.text (block_at r j).offset) Left (row_start-rises r.text (block_at r i).offset (block_at r j).offset le end) (omega (arith, row_start-le r.text (block_at r j).offset, end))
      by Below Below e le end =
          line_of-rises r.text r.inlays r.folds (row_end r.text (block_at r i).offset) (row_end r.text (block_at r j).offset) Right (row_end-rises r.text (block_at r i).offset (block_at r j).offset le end) (row_end-within r.text (block_at r j).offset end)
      by Above Below e le end = absurd (false≢true (sym (ap is_above e)))
      by Below Above e le end = absurd (false≢true (ap is_above e))

-- ---- the walk over the blocks for one line

-- a block that is elsewhere or on the other side
pub walk-other : (r : Record) (side : Side) (n line : ℕ) → n < length r.blocks → ((block_at r n).side ≡ side → line_of_block r (block_at r n) ≡ line → ⊥) →
    filter (stands r side line) (take (n + 1) r.blocks) ≡ filter (stands r side line) (take n r.blocks)
walk-other r side n line lt none =
    filter_more (stands r side line) r.blocks n no_block lt
    ∙ ap (λ (c : Bool). filter (stands r side line) (take n r.blocks) ++ cond c (block_at r n ∷ []) []) (off (is_on side (block_at r n).side) refl)
    ∙ append-nil (filter (stands r side line) (take n r.blocks)) where
      off : (c : Bool) → is_on side (block_at r n).side ≡ c → stands r side line (block_at r n) ≡ false
      off false e = and_left (is_on side (block_at r n).side) (eqb (line_of_block r (block_at r n)) line) e
      off true e = and_right (is_on side (block_at r n).side) (eqb (line_of_block r (block_at r n)) line) (ne_eqb (line_of_block r (block_at r n)) line (none (on-own side (block_at r n).side e)))

pub walk-here : (r : Record) (side : Side) (n line : ℕ) → n < length r.blocks → (block_at r n).side ≡ side → line_of_block r (block_at r n) ≡ line →
    filter (stands r side line) (take (n + 1) r.blocks) ≡ filter (stands r side line) (take n r.blocks) ++ block_at r n ∷ []
walk-here r side n line lt own here =
    let on : stands r side line (block_at r n) ≡ true = and_from (is_on side (block_at r n).side) (eqb (line_of_block r (block_at r n)) line) (ap (is_on side) own ∙ on-same side) (eq-eqb (line_of_block r (block_at r n)) line here) in
    filter_more (stands r side line) r.blocks n no_block lt
    ∙ ap (λ (c : Bool). filter (stands r side line) (take n r.blocks) ++ cond c (block_at r n ∷ []) []) on

-- the rows of the blocks of one side before a number that are at the line
abbrev pub walked : Record → Side → ℕ → ℕ → Pairs
walked r side line n = row_pairs (flat_map block_rows (filter (stands r side line) (take n r.blocks)))

pub walked-none : (r : Record) (side : Side) (n line : ℕ) → AreBefore r side n line → walked r side line n ≡ []
walked-none r side n line are = ap (λ (bs : List Block). row_pairs (flat_map block_rows bs)) (none-before r side n line are)

pub walked-other : (r : Record) (side : Side) (n line : ℕ) → n < length r.blocks → ((block_at r n).side ≡ side → line_of_block r (block_at r n) ≡ line → ⊥) → walked r side line (n + 1) ≡ walked r side line n
walked-other r side n line lt none = ap (λ (bs : List Block). row_pairs (flat_map block_rows bs)) (walk-other r side n line lt none)

pub walked-here : (r : Record) (side : Side) (n line : ℕ) → n < length r.blocks → (block_at r n).side ≡ side → line_of_block r (block_at r n) ≡ line →
    walked r side line (n + 1) ≡ walked r side line n ++ row_pairs (block_rows (block_at r n))
walked-here r side n line lt own here =
    let before = filter (stands r side line) (take n r.blocks) in
    ap (λ (bs : List Block). row_pairs (flat_map block_rows bs)) (walk-here r side n line lt own here)
    ∙ ap row_pairs (flat_map-append block_rows before (block_at r n ∷ []) ∙ ap (λ (l : List Row). flat_map block_rows before ++ l) (append-nil (block_rows (block_at r n))))
    ∙ pairs-append (flat_map block_rows before) (block_rows (block_at r n))

-- at the end those of the whole record
pub walked-all : (r : Record) (side : Side) (n line : ℕ) → n ≤ length r.blocks → ((k : ℕ) → n ≤ k → k < length r.blocks → (block_at r k).side ≡ side → line < line_of_block r (block_at r k)) →
    walked r side line n ≡ row_pairs (blocks_at r side line)
walked-all r side n line le past =
    let none : filter (stands r side line) (drop n r.blocks) ≡ [] = none-stands r side line (drop n r.blocks) (λ k lt own at.
    let there : n + k < length r.blocks = omega (arith, lt, length-drop n r.blocks) in
    let same : get_or (drop n r.blocks) k no_block ≡ block_at r (n + k) = get_or-drop n r.blocks k no_block in
    absurd (omega (arith, past (n + k) (omega arith) there (sym (ap (λ (b : Block). b.side) same) ∙ own), sym (ap (line_of_block r) same) ∙ at))) in
    ap (λ (bs : List Block). row_pairs (flat_map block_rows bs))
    (sym (append-nil (filter (stands r side line) (take n r.blocks)))
    ∙ ap (λ (l : List Block). filter (stands r side line) (take n r.blocks) ++ l) (sym none)
    ∙ sym (filter-append (stands r side line) (take n r.blocks) (drop n r.blocks))
    ∙ ap (filter (stands r side line)) (take-append-drop n r.blocks))

-- ---- rows as pairs

pub pairs-block : (b : Block) → row_pairs (block_rows b) ≡ map (λ line. (98, line)) b.lines
pairs-block b = go b.lines where
  go : (lines : List (List ℕ)) → row_pairs (map (λ line. record { kind = 98; text = line }) lines) ≡ map (λ line. (98, line)) lines
  go [] = refl
  go (l ∷ ls) = ap (λ (ps : Pairs). (98, l) ∷ ps) (go ls)

-- the kind of the row after these texts of a line
abbrev pub kind_after : List (List ℕ) → ℕ
kind_after [] = 116
kind_after (t ∷ ts) = 119

pub pairs-more : (texts : List (List ℕ)) (text : List ℕ) → row_pairs (head_and_more (texts ++ text ∷ [])) ≡ row_pairs (head_and_more texts) ++ (kind_after texts, text) ∷ []
pairs-more [] text = refl
pairs-more (t ∷ ts) text = ap (λ (ps : Pairs). (116, t) ∷ ps) (go ts) where
  go : (ts : List (List ℕ)) → row_pairs (map more_row (ts ++ text ∷ [])) ≡ row_pairs (map more_row ts) ++ (119, text) ∷ []
  go [] = refl
  go (x ∷ xs) = ap (λ (ps : Pairs). (119, x) ∷ ps) (go xs)

pub kind-more : (texts : List (List ℕ)) (text : List ℕ) → kind_after (texts ++ text ∷ []) ≡ 119
kind-more [] text = refl
kind-more (t ∷ ts) text = refl

-- ---- one step of the walk

pub upto-true : (r : Record) (side : Side) (n line : ℕ) → is_upto r side n line ≡ true → (n < length r.blocks) × ((block_at r n).side ≡ side → line_of_block r (block_at r n) ≤ line)
upto-true r side n line is =
    let on = is_on side (block_at r n).side in
    let low = leb (line_of_block r (block_at r n)) line in
    let both = and_parts (ltb n (length r.blocks)) (not on || low) is in (
      ltb-true n (length r.blocks) both.0,
      λ own. elim (or_cases (not on) low both.1) [
        | inl other ↦ absurd (false≢true (sym (not-true on other) ∙ ap (is_on side) own ∙ on-same side))
        | inr le ↦ leb-true (line_of_block r (block_at r n)) line le
      ],
    )

pub upto-false : (r : Record) (side : Side) (n line : ℕ) → is_upto r side n line ≡ false → n < length r.blocks → ((block_at r n).side ≡ side) × (line < line_of_block r (block_at r n))
upto-false r side n line is lt =
    let on = is_on side (block_at r n).side in
    let low = leb (line_of_block r (block_at r n)) line in
    elim (and_cases (ltb n (length r.blocks)) (not on || low) is) [
      | inl none ↦ absurd (omega (arith, ltb-false n (length r.blocks) none, lt))
      | inr far ↦ let parts = or_parts (not on) low far in (on-own side (block_at r n).side (not-false on parts.0), leb-false (line_of_block r (block_at r n)) line parts.1)
    ]

pub walked-next : (r : Record) (side : Side) (n line : ℕ) → n < length r.blocks → ((block_at r n).side ≡ side → line_of_block r (block_at r n) ≡ line) →
    walked r side line (n + 1) ≡ walked r side line n ++ cond (is_on side (block_at r n).side) (row_pairs (block_rows (block_at r n))) []
walked-next r side n line lt here = go (is_on side (block_at r n).side) refl where
  go : (c : Bool) → is_on side (block_at r n).side ≡ c → walked r side line (n + 1) ≡ walked r side line n ++ cond c (row_pairs (block_rows (block_at r n))) []
  go true e = let own = on-own side (block_at r n).side e in walked-here r side n line lt own (here own)
  go false e = walked-other r side n line lt (λ own _. false≢true (sym e ∙ ap (is_on side) own ∙ on-same side)) ∙ sym (append-nil (walked r side line n))

pub past-here : (r : Record) → IsLawful r → (side : Side) (n line : ℕ) → is_upto r side n line ≡ false → (k : ℕ) → n ≤ k → k < length r.blocks → (block_at r k).side ≡ side → line < line_of_block r (block_at r k)
past-here r lawful side n line is k le within own =
    let here = upto-false r side n line is (omega (arith, le, within)) in
    elim (cases_lt n k) [
      | inl lt ↦ omega (arith, here.1, lines-rise r lawful n k lt within (here.0 ∙ sym own))
      | inr ge ↦ let same : n ≡ k = omega (arith, le, ge) in subst (λ (j : ℕ). line < line_of_block r (block_at r j)) same here.1
    ]
