-- The display lines of blocks of one side don't fall.
use Rattle.std.proofs.Common.{◌≡◌, ℕ, ◌+◌, ◌-◌, ◌<◌, ◌≤◌, not, suc, zero, Bool, true, false, cond, List, [], ◌∷◌, length, take, drop, get_or, refl, sym, ap, ◌∙◌, subst, arith}
use Rattle.std.specs.List.{prefix_len, suffix_len}
use Rattle.std.proofs.lemmas.Bool.{not-false}
use Rattle.std.proofs.lemmas.List.{drop_more, get_or-drop, length-drop, reverse-append, take_more}
use Rattle.std.proofs.lemmas.List.Sums.{prefix_len-le-length, prefix_len_stops}
use Rattle.cell_units.specs.declared.place.Bias.{Bias}
use Rattle.cell_units.specs.declared.place.Bias.TheVariants.{Left, Right}
use Rattle.cell_units.specs.Text.{is_feed, row_end, row_start}
use Rattle.cell_units.specs.declared.place.Side.{Side}
use Rattle.cell_units.specs.declared.place.Side.TheVariants.{Above, Below}
use Rattle.cell_units.specs.Lawful.{source_of}
use Rattle.cell_units.specs.Record.{Block, Fold, Inlay, Record}
use Rattle.cell_units.specs.Inlaid.{is_break}
use Rattle.cell_units.specs.Folded.{folded_to, line_of}
use Rattle.plain_rows.specs.Rows.{is_above, line_of_block}
use Rattle.plain_rows.specs.inside.BlockRows.{line_of_row}
use Rattle.plain_rows.proofs.FoldedFronts.{to-rises}
use Rattle.plain_rows.proofs.Fronts.{count_by-front}

pub line_of-rises : (text : List ℕ) (inlays : List Inlay) (folds : List Fold) (o p : ℕ) (bias : Bias) → o ≤ p → p ≤ length text →
    line_of text inlays folds o bias ≤ line_of text inlays folds p bias
line_of-rises text inlays folds o p bias le within =
    count_by-front is_break (folded_to text inlays folds o bias) (folded_to text inlays folds p bias) (to-rises text inlays folds o p bias le within)

abbrev goes : ℕ → Bool
goes b = not (is_feed b)

-- one byte on, a row's start stays or is after the byte
pub row_start-next : (text : List ℕ) (o : ℕ) (c : Bool) → o < length text → is_feed (get_or text o 0) ≡ c → row_start text (o + 1) ≡ cond c (o + 1) (row_start text o)
row_start-next text o c lt e =
    let more : suffix_len goes (take (o + 1) text) ≡ cond (not c) (1 + suffix_len goes (take o text)) 0 =
    ap (suffix_len goes) (take_more text o 0 lt)
    ∙ ap (prefix_len goes) (reverse-append (take o text) (get_or text o 0 ∷ []))
    ∙ ap (λ (b : Bool). cond (not b) (1 + suffix_len goes (take o text)) 0) e in
    by c more where
      by : (c : Bool) → suffix_len goes (take (o + 1) text) ≡ cond (not c) (1 + suffix_len goes (take o text)) 0 → row_start text (o + 1) ≡ cond c (o + 1) (row_start text o)
      by true more = omega (arith, more)
      by false more = omega (arith, more)

pub row_start-le : (text : List ℕ) (o : ℕ) → row_start text o ≤ o
row_start-le text o = omega arith

-- one byte on, a row's end stays unless the byte is the feed
pub row_end-feed : (text : List ℕ) (o : ℕ) → o < length text → is_feed (get_or text o 0) ≡ true → row_end text o ≡ o
row_end-feed text o lt e =
    let none : prefix_len goes (drop o text) ≡ 0 = ap (prefix_len goes) (drop_more text o 0 lt) ∙ ap (λ (b : Bool). cond (not b) (1 + prefix_len goes (drop (o + 1) text)) 0) e in
    omega (arith, none)

pub row_end-other : (text : List ℕ) (o : ℕ) → o < length text → is_feed (get_or text o 0) ≡ false → row_end text o ≡ row_end text (o + 1)
row_end-other text o lt e =
    let some : prefix_len goes (drop o text) ≡ 1 + prefix_len goes (drop (o + 1) text) = ap (prefix_len goes) (drop_more text o 0 lt) ∙ ap (λ (b : Bool). cond (not b) (1 + prefix_len goes (drop (o + 1) text)) 0) e in
    omega (arith, some)

pub row_end-within : (text : List ℕ) (o : ℕ) → o ≤ length text → row_end text o ≤ length text
row_end-within text o le = omega (arith, prefix_len-le-length goes (drop o text), length-drop o text)

start-more : (text : List ℕ) (o n : ℕ) → o + n ≤ length text → row_start text o ≤ row_start text (o + n)
start-more text o zero le = let e : o ≡ o + 0 = omega arith in subst (λ (p : ℕ). row_start text o ≤ row_start text p) e (omega arith)
start-more text o (suc n) le =
    let e : o + n + 1 ≡ o + suc n = omega arith in
    let rest = start-more text o n (omega (arith, le)) in
    subst (λ (p : ℕ). row_start text o ≤ row_start text p) e (by (is_feed (get_or text (o + n) 0)) refl rest) where
      by : (c : Bool) → is_feed (get_or text (o + n) 0) ≡ c → row_start text o ≤ row_start text (o + n) → row_start text o ≤ row_start text (o + n + 1)
      by true f rest = omega (arith, row_start-next text (o + n) true (omega (arith, le)) f, row_start-le text o)
      by false f rest = omega (arith, row_start-next text (o + n) false (omega (arith, le)) f, rest)

pub row_start-rises : (text : List ℕ) (o p : ℕ) → o ≤ p → p ≤ length text → row_start text o ≤ row_start text p
row_start-rises text o p le within = let e : o + (p - o) ≡ p = omega arith in subst (λ (q : ℕ). row_start text o ≤ row_start text q) e (start-more text o (p - o) (omega (arith, within)))

end-more : (text : List ℕ) (o n : ℕ) → o + n ≤ length text → row_end text o ≤ row_end text (o + n)
end-more text o zero le = let e : o ≡ o + 0 = omega arith in subst (λ (p : ℕ). row_end text o ≤ row_end text p) e (omega arith)
end-more text o (suc n) le =
    let e : o + 1 + n ≡ o + suc n = omega arith in
    let rest = end-more text (o + 1) n (omega (arith, le)) in
    subst (λ (p : ℕ). row_end text o ≤ row_end text p) e (by (is_feed (get_or text o 0)) refl rest) where
      by : (c : Bool) → is_feed (get_or text o 0) ≡ c → row_end text (o + 1) ≤ row_end text (o + 1 + n) → row_end text o ≤ row_end text (o + 1 + n)
      by true f rest = omega (arith, row_end-feed text o (omega (arith, le)) f, rest)
      by false f rest = omega (arith, row_end-other text o (omega (arith, le)) f, rest)

pub row_end-rises : (text : List ℕ) (o p : ℕ) → o ≤ p → p ≤ length text → row_end text o ≤ row_end text p
row_end-rises text o p le within = let e : o + (p - o) ≡ p = omega arith in subst (λ (q : ℕ). row_end text o ≤ row_end text q) e (end-more text o (p - o) (omega (arith, within)))

-- ---- the offsets of a row

same-row-from : (text : List ℕ) (o n : ℕ) → o + n ≤ row_end text o → o + n ≤ length text → (row_start text (o + n) ≡ row_start text o) × (row_end text (o + n) ≡ row_end text o)
same-row-from text o zero le within = let e : o + 0 ≡ o = omega arith in (ap (row_start text) e, ap (row_end text) e)
same-row-from text o (suc n) le within =
    let e : o + n + 1 ≡ o + suc n = omega arith in
    let rest = same-row-from text o n (omega (arith, le)) (omega (arith, within)) in
    let lt : o + n < length text = omega (arith, within) in
    by (is_feed (get_or text (o + n) 0)) refl lt e rest where
      by : (c : Bool) → is_feed (get_or text (o + n) 0) ≡ c → o + n < length text → o + n + 1 ≡ o + suc n → (row_start text (o + n) ≡ row_start text o) × (row_end text (o + n) ≡ row_end text o) →
          (row_start text (o + suc n) ≡ row_start text o) × (row_end text (o + suc n) ≡ row_end text o)
      by true f lt e rest = absurd (omega (arith, row_end-feed text (o + n) lt f, rest.1, le))
      by false f lt e rest = (ap (row_start text) (sym e) ∙ row_start-next text (o + n) false lt f ∙ rest.0, ap (row_end text) (sym e) ∙ sym (row_end-other text (o + n) lt f) ∙ rest.1)

-- each offset from a row's start to its end is of the row
pub same-row : (text : List ℕ) (start o : ℕ) → start ≤ o → o ≤ row_end text start → o ≤ length text → (row_start text o ≡ row_start text start) × (row_end text o ≡ row_end text start)
same-row text start o le hi within =
    let e : start + (o - start) ≡ o = omega arith in
    let r = same-row-from text start (o - start) (omega (arith, hi)) (omega (arith, within)) in
    (ap (row_start text) (sym e) ∙ r.0, ap (row_end text) (sym e) ∙ r.1)

-- after a row's end, if the text goes on, is its feed, and then the next row starts
pub next-row : (text : List ℕ) (o : ℕ) → row_end text o < length text → row_start text (row_end text o + 1) ≡ row_end text o + 1
next-row text o lt =
    let n : ℕ = prefix_len goes (drop o text) in
    let feed : goes (get_or (drop o text) n 0) ≡ false = prefix_len_stops goes (drop o text) 0 (omega (arith, lt, length-drop o text)) in
    let there : get_or (drop o text) n 0 ≡ get_or text (o + n) 0 = get_or-drop o text n 0 in
    row_start-next text (row_end text o) true lt (not-false (is_feed (get_or text (o + n) 0)) (sym (ap goes there) ∙ feed))

-- the line of a block is that of its row
pub block-row : (r : Record) (b : Block) → line_of_block r b ≡ line_of_row (source_of r) b.side (row_start r.text b.offset) (row_end r.text b.offset)
block-row r b = go b.side where
  go : (side : Side) → cond (is_above side) (line_of r.text r.inlays r.folds (row_start r.text b.offset) Left) (line_of r.text r.inlays r.folds (row_end r.text b.offset) Right)
      ≡ line_of_row (source_of r) side (row_start r.text b.offset) (row_end r.text b.offset)
  go Above = refl
  go Below = refl
