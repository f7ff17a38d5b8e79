-- Which blocks are shown anew: those at lines of which rows are replaced, and no others.
use Rattle.std.proofs.Common.{◌≡◌, ℕ, zero, suc, ◌+◌, ◌<◌, ◌≤◌, Bool, true, false, cond, Contains, List, [], ◌∷◌, count_by, filter, get_or, length, map, Option, Some, if◌then◌else◌, refl, sym, subst, ◌∙◌, arith}
use Rattle.std.specs.List.{All, slice_get}
use Rattle.std.proofs.lemmas.List.Sums.{sum_by-cons}
use Rattle.cell_units.specs.declared.place.Bias.TheVariants.{Left, Right}
use Rattle.cell_units.specs.declared.place.Side.{Side}
use Rattle.cell_units.specs.declared.place.Side.TheVariants.{Above, Below}
use Rattle.cell_units.specs.declared.place.Shift.{Shift}
use Rattle.cell_units.specs.Folded.{line_of}
use Rattle.cell_units.specs.Lawful.{HasLawfulEntries, source_of}
use Rattle.cell_units.specs.LineCounts.{lines_of}
use Rattle.cell_units.specs.Record.{Block, Record}
use Rattle.cell_units.specs.Text.{row_end, row_start}
use Rattle.edit_patch.specs.declared.edit.Edit.{Edit}
use Rattle.plain_rows.specs.Reach.{blocks_at_lines}
use Rattle.plain_rows.specs.Rows.{is_above, is_on, line_of_block}
use Rattle.block_map.specs.Carried.{HaveAnew, IsCarried, IsPassed, SyncsAtMost}
use Rattle.block_map.specs.Follows.{KeepsLine}
use Rattle.block_map.specs.Maps.{Kept, line_of_kept, row_of_kept}
use Rattle.block_map.proofs.SideStops.{all-at}
use Rattle.blocked_rows.specs.Laws.{AreAsMany}
use Rattle.blocked_rows.specs.Records.{Lines, kept_block, kept_blocks, kept_on}
use Rattle.blocked_rows.specs.Standing.{ArePlaced, IsBlockOf}
use Rattle.blocked_rows.proofs.BlockPlaces.{line-in}
use Rattle.map_sheet.specs.Bounds.{ShowsAtMost}
use Rattle.map_sheet.proofs.ListPlaces.{has-place, length-places, places_from}
use Rattle.map_sheet.proofs.StepSums.{shown-steps}

module _ (r : Record) (is : HasLawfulEntries r) (lines : Lines) (flags : List Bool) (shift : Option Shift) (edits : List Edit) where
  -- whether the line of a block has `true`
  abbrev flag : Side → Kept → Bool
  flag side k = get_or flags (line_of_kept (source_of r) side k) false

  -- of each side the places of such blocks
  abbrev places : Side → List ℕ
  places side = places_from (flag side) 0 (kept_on r lines side)

  -- ---- they are as many as the blocks at these lines

  abbrev many : Side → List Block → ℕ
  many side bs = count_by (flag side) (map (kept_block r lines side) (filter (λ b. is_on side b.side) bs))

  counted : (side : Side) (k : Kept) (ks : List Kept) → count_by (flag side) (k ∷ ks) ≡ cond (flag side k) 1 0 + count_by (flag side) ks
  counted side k ks = sum_by-cons (λ (k : Kept). cond (flag side k) 1 0) k ks

  abbrev here : Block → Bool
  here b = get_or flags (line_of_block r b) false

  abbrev on : Side → List Block → List Block
  on side bs = filter (λ b. is_on side b.side) bs

  -- the line of a block, were it on that side
  abbrev line : Block → Side → ℕ
  line b side =
      if is_above side then line_of r.text r.inlays r.folds (row_start r.text b.offset) Left
      else line_of r.text r.inlays r.folds (row_end r.text b.offset) Right

  both-sides : (bs : List Block) → many Above bs + many Below bs ≡ count_by here bs
  both-sides [] = refl
  both-sides (b ∷ bs) = go b.side (both-sides bs) ∙ sym (sum_by-cons (λ (b : Block). cond (here b) 1 0) b bs) where
    go : (side : Side) → many Above bs + many Below bs ≡ count_by here bs
        → count_by (flag Above) (map (kept_block r lines Above) (cond (is_on Above side) (b ∷ on Above bs) (on Above bs)))
        + count_by (flag Below) (map (kept_block r lines Below) (cond (is_on Below side) (b ∷ on Below bs) (on Below bs)))
        ≡ cond (get_or flags (line b side) false) 1 0 + count_by here bs
    go Above others = omega (arith, others, counted Above (kept_block r lines Above b) (map (kept_block r lines Above) (on Above bs)))
    go Below others = omega (arith, others, counted Below (kept_block r lines Below b) (map (kept_block r lines Below) (on Below bs)))

  as-many : length (places Above) + length (places Below) ≡ blocks_at_lines flags r
  as-many = omega (
    arith,
    length-places (flag Above) 0 (kept_on r lines Above),
    length-places (flag Below) 0 (kept_on r lines Below),
    both-sides r.blocks,
  )

  -- ---- each other one is carried

  abbrev IsShownAt : Side → Kept → Type 0
  IsShownAt side k = k.row ≡ Some (row_of_kept (source_of r) lines side k)

  shown-at : (side : Side) (bs : List Block) (k : ℕ) (x : Kept) → slice_get (map (kept_block r lines side) bs) k ≡ Some x → IsShownAt side x
  shown-at side [] k x at = absurd (cc)
  shown-at side (b ∷ bs) zero x at = let same : kept_block r lines side b ≡ x = cc in subst (IsShownAt side) same refl
  shown-at side (b ∷ bs) (suc k) x at = shown-at side bs k x at

  module _ (equal : length (lines_of r) ≡ length lines)
      (keeps : (line : ℕ) → line < length lines → get_or flags line false ≡ false → KeepsLine edits lines line)
      (passes : (side : Side) (k : Kept) → k.offset ≤ length r.text → flag side k ≡ false → IsPassed shift k) where
    carried : (side : Side) (k : Kept) → IsBlockOf (source_of r) lines side k → IsShownAt side k → flag side k ≡ false → IsCarried shift edits lines side k
    carried side k of row off =
        let line = line_of_kept (source_of r) side k in
        let within : line < length lines = omega (arith, line-in (source_of r) side k is.source of.anchor.0, equal) in
        record {
          line = line;
          within = within;
          stood = row;
          kept = keeps line within off;
          passed = passes side k of.anchor.0 off;
        }

    have-anew : (side : Side) → All (IsBlockOf (source_of r) lines side) (kept_on r lines side) → HaveAnew shift edits lines side (kept_on r lines side) (places side)
    have-anew side of k b at isnt = go (flag side b) refl where
      go : (c : Bool) → flag side b ≡ c → Contains (places side) k
      go true on = subst (Contains (places side)) (omega arith) (has-place (flag side) 0 (kept_on r lines side) k b at on)
      go false off =
          absurd (isnt (carried side b (all-at (IsBlockOf (source_of r) lines side) (kept_on r lines side) k b of at)
          (shown-at side (filter (λ b. is_on side b.side) r.blocks) k b at) off))

    pub shows-at_most : ArePlaced (source_of r) (kept_blocks r lines) → AreAsMany → (most old new : ℕ) → length edits ≤ most
        → SyncsAtMost shift edits (kept_blocks r lines) old new → ShowsAtMost (blocks_at_lines flags r) most r old new
    shows-at_most placed as_many most old new few syncs h high =
        let took = syncs (places Above) (places Below) (have-anew Above placed.above) (have-anew Below placed.below) h (omega (arith, as_many r lines, high.blocks)) in
        shown-steps h (blocks_at_lines flags r) (length (places Above) + length (places Below)) (length edits) most old new as-many few took
