-- The rows of stops at the lines of blocks are the rows of these blocks in a record.
use Rattle.std.proofs.Common.{◌≡◌, ℕ, suc, ◌+◌, ◌<◌, ◌≤◌, ◌&&◌, Bool, true, false, cond, eqb, List, [], ◌∷◌, ◌++◌, filter, flat_map, length, map, get_or, refl, sym, ap, ◌∙◌, inl, inr, arith, append-nil}
use Rattle.std.specs.List.{enumerate_from}
use Rattle.std.proofs.lemmas.Bool.{cases_order, eq-eqb, ne_eqb}
use Rattle.std.proofs.lemmas.List.{length-map, map-append}
use Rattle.std.proofs.lemmas.List.Elements.{filter-append}
use Rattle.cell_units.specs.declared.place.Side.{Side}
use Rattle.cell_units.specs.declared.place.Side.TheVariants.{Above, Below}
use Rattle.cell_units.specs.Layers.{Source}
use Rattle.cell_units.specs.Record.{Block}
use Rattle.cell_units.specs.Rows.{HaveRows, rows_before}
use Rattle.plain_rows.specs.Rows.{Row, block_rows, blocks_at, head_and_more, is_on, line_of_block}
use Rattle.block_map.specs.Between.{block_row, rows_above, rows_below}
use Rattle.block_map.specs.Maps.{BlocksAgree, Kept, RowsAgree, between_of, block_of, blocks_of, line_of_kept, record_with, row_of_kept, stop_of}
use Rattle.block_map.specs.Stops.{texts_at}
use Rattle.block_map.proofs.FoundTexts.{texts-cons}
use Rattle.block_map.proofs.LineStarts.{rows_before-next, rows_before-rises}

-- ---- lists

-- what is above and below is asked of the lines alone
with-same : (f g f' g' : ℕ → List Row) (n : ℕ) (ls : List (List Row)) → ((l : ℕ) → n ≤ l → l < n + length ls → (f l ≡ f' l) × (g l ≡ g' l))
    → map (λ (m : ℕ × List Row). f m.0 ++ (m.1 ++ g m.0)) (enumerate_from n ls) ≡ map (λ (m : ℕ × List Row). f' m.0 ++ (m.1 ++ g' m.0)) (enumerate_from n ls)
with-same f g f' g' n [] same = refl
with-same f g f' g' n (l ∷ ls) same =
    let here = same n (omega arith) (omega arith) in
    ap (λ (r : List Row). (r ++ (l ++ g n)) ∷ map (λ (m : ℕ × List Row). f m.0 ++ (m.1 ++ g m.0)) (enumerate_from (n + 1) ls)) here.0
    ∙ ap (λ (r : List Row). (f' n ++ (l ++ r)) ∷ map (λ (m : ℕ × List Row). f m.0 ++ (m.1 ++ g m.0)) (enumerate_from (n + 1) ls)) here.1
    ∙ ap (λ (r : List (List Row)). (f' n ++ (l ++ g' n)) ∷ r) (with-same f g f' g' (n + 1) ls (λ k le lt. same k (omega (arith, le)) (omega (arith, lt))))

-- ---- line starts

-- each line has a row, so that no two lines begin at one place
pub starts-apart : (lines : List (List (List ℕ))) → HaveRows lines → (l m : ℕ) → l < m → m ≤ length lines → rows_before lines l < rows_before lines m
starts-apart lines have l m lt le =
    omega (arith, rows_before-next lines l (omega (arith, lt, le)), have l [] (omega (arith, lt, le)), rows_before-rises lines (l + 1) m (omega (arith, lt)))

pub same-start : (lines : List (List (List ℕ))) → HaveRows lines → (l m : ℕ) → l ≤ length lines → m ≤ length lines → eqb (rows_before lines l) (rows_before lines m) ≡ eqb l m
same-start lines have l m lle mle = elim (cases_order l m) [
  | inl e ↦ eq-eqb (rows_before lines l) (rows_before lines m) (ap (rows_before lines) e) ∙ sym (eq-eqb l m e)
  | inr (inl lt) ↦ ne_eqb (rows_before lines l) (rows_before lines m) (λ e. absurd (omega (arith, e, starts-apart lines have l m lt mle))) ∙ sym (ne_eqb l m (λ e. absurd (omega (arith, e, lt))))
  | inr (inr gt) ↦ ne_eqb (rows_before lines l) (rows_before lines m) (λ e. absurd (omega (arith, e, starts-apart lines have m l gt lle))) ∙ sym (ne_eqb l m (λ e. absurd (omega (arith, e, gt))))
]

next-same : (l m : ℕ) → eqb (l + 1) (m + 1) ≡ eqb l m
next-same l m = elim (cases_order l m) [
  | inl e ↦ eq-eqb (l + 1) (m + 1) (omega (arith, e)) ∙ sym (eq-eqb l m e)
  | inr (inl lt) ↦ ne_eqb (l + 1) (m + 1) (λ e. absurd (omega (arith, e, lt))) ∙ sym (ne_eqb l m (λ e. absurd (omega (arith, e, lt))))
  | inr (inr gt) ↦ ne_eqb (l + 1) (m + 1) (λ e. absurd (omega (arith, e, gt))) ∙ sym (ne_eqb l m (λ e. absurd (omega (arith, e, gt))))
]

-- ---- one side

-- the blocks of one side at a line
abbrev at_line : Source → Side → ℕ → Block → Bool
at_line source side line b = is_on side b.side && eqb (line_of_block (record_with source []) b) line

on-same : (side : Side) → is_on side side ≡ true
on-same Above = refl
on-same Below = refl

block-cons : (source : Source) (side : Side) (line : ℕ) (b : Block) (bs : List Block) → flat_map block_rows (filter (at_line source side line) (b ∷ bs)) ≡ cond (at_line source side line b) (block_rows b) [] ++ flat_map block_rows (filter (at_line source side line) bs)
block-cons source side line b bs = go (at_line source side line b) where
  go : (c : Bool) → flat_map block_rows (cond c (b ∷ filter (at_line source side line) bs) (filter (at_line source side line) bs)) ≡ cond c (block_rows b) [] ++ flat_map block_rows (filter (at_line source side line) bs)
  go true = refl
  go false = refl

map-cond : (c : Bool) (xs : List (List ℕ)) → map block_row (cond c xs []) ≡ cond c (map block_row xs) []
map-cond true xs = refl
map-cond false xs = refl

-- the rows of the stops at the place before a line are those of its blocks
pub side-rows : (source : Source) (lines : List (List (List ℕ))) (side : Side) (place line : ℕ) (ks : List Kept)
    → ((k : ℕ) (d : Kept) → k < length ks → eqb (row_of_kept source lines side (get_or ks k d)) place ≡ eqb (line_of_kept source side (get_or ks k d)) line)
    → map block_row (texts_at place (map (stop_of source lines side) ks)) ≡ flat_map block_rows (filter (at_line source side line) (map (block_of side) ks))
side-rows source lines side place line [] same = refl
side-rows source lines side place line (k ∷ ks) same =
    let test : eqb (row_of_kept source lines side k) place ≡ at_line source side line (block_of side k) =
    same 0 k (omega arith) ∙ sym (ap (λ (c : Bool). c && eqb (line_of_kept source side k) line) (on-same side)) in
    ap (map block_row) (texts-cons place (stop_of source lines side k) (map (stop_of source lines side) ks))
    ∙ map-append block_row (cond (eqb (row_of_kept source lines side k) place) k.lines []) (texts_at place (map (stop_of source lines side) ks))
    ∙ ap (λ (r : List Row). r ++ map block_row (texts_at place (map (stop_of source lines side) ks))) (map-cond (eqb (row_of_kept source lines side k) place) k.lines)
    ∙ ap (λ (c : Bool). cond c (map block_row k.lines) [] ++ map block_row (texts_at place (map (stop_of source lines side) ks))) test
    ∙ ap (λ (r : List Row). cond (at_line source side line (block_of side k)) (map block_row k.lines) [] ++ r) (side-rows source lines side place line ks (λ i d lt. same (suc i) d (omega (arith, lt))))
    ∙ sym (block-cons source side line (block_of side k) (map (block_of side) ks))

-- the other side's blocks have no row there
none-above : (source : Source) (line : ℕ) (ks : List Kept) → filter (at_line source Above line) (map (block_of Below) ks) ≡ []
none-above source line [] = refl
none-above source line (k ∷ ks) = none-above source line ks

none-below : (source : Source) (line : ℕ) (ks : List Kept) → filter (at_line source Below line) (map (block_of Above) ks) ≡ []
none-below source line [] = refl
none-below source line (k ∷ ks) = none-below source line ks

-- ---- both sides

pub at-above : (source : Source) (line : ℕ) (above below : List Kept) → flat_map block_rows (filter (at_line source Above line) (map (block_of Above) above ++ map (block_of Below) below)) ≡ flat_map block_rows (filter (at_line source Above line) (map (block_of Above) above))
at-above source line above below =
    ap (flat_map block_rows)
    (filter-append (at_line source Above line) (map (block_of Above) above) (map (block_of Below) below)
    ∙ ap (λ (bs : List Block). filter (at_line source Above line) (map (block_of Above) above) ++ bs) (none-above source line below)
    ∙ append-nil (filter (at_line source Above line) (map (block_of Above) above)))

pub at-below : (source : Source) (line : ℕ) (above below : List Kept) → flat_map block_rows (filter (at_line source Below line) (map (block_of Above) above ++ map (block_of Below) below)) ≡ flat_map block_rows (filter (at_line source Below line) (map (block_of Below) below))
at-below source line above below =
    ap (flat_map block_rows)
    (filter-append (at_line source Below line) (map (block_of Above) above) (map (block_of Below) below)
    ∙ ap (λ (bs : List Block). bs ++ filter (at_line source Below line) (map (block_of Below) below)) (none-below source line above))

pub blocks-agree : BlocksAgree
blocks-agree source s lines have above below l within = (
  side-rows source lines Above (rows_before lines l) l s.above
      (λ k d kt. same-start lines have (line_of_kept source Above (get_or s.above k d)) l (omega (arith, above k d kt)) (omega (arith, within)))
      ∙ sym (at-above source l s.above s.below),
  side-rows source lines Below (rows_before lines (l + 1)) l s.below
      (λ k d kt. same-start lines have (line_of_kept source Below (get_or s.below k d) + 1) (l + 1) (omega (arith, below k d kt)) (omega (arith, within)) ∙ next-same (line_of_kept source Below (get_or s.below k d)) l)
      ∙ sym (at-below source l s.above s.below),
)

pub rows-agree : RowsAgree
rows-agree source s lines have above below =
    with-same (rows_above (between_of source lines s)) (rows_below (between_of source lines s)) (blocks_at (record_with source (blocks_of s)) Above) (blocks_at (record_with source (blocks_of s)) Below) 0 (map head_and_more lines)
    (λ l le lt. blocks-agree source s lines have above below l (omega (arith, lt, length-map lines head_and_more)))
