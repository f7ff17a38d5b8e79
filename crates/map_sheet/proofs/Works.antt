-- How many steps the parts of a change take together.
use Rattle.std.proofs.Common.{◌≡◌, ℕ, ◌+◌, ◌*◌, ◌≤◌, ◌-◌, Bool, List, Option, drop, length, refl, sym, ap, subst, ◌∙◌, arith}
use Rattle.std.proofs.lemmas.List.{length-map, length-take}
use Rattle.cell_units.specs.declared.place.Shift.{Shift}
use Rattle.cell_units.specs.Lawful.{source_of}
use Rattle.cell_units.specs.Layers.{Source, shown_lines}
use Rattle.cell_units.specs.Operation.{Operation, Replace, SetTab, operated}
use Rattle.cell_units.specs.Record.{Record}
use Rattle.cell_line.specs.declared.element.Element.{Element}
use Rattle.cell_line.specs.declared.lines.Run.{Run}
use Rattle.cell_line.specs.Elements.{elements_of}
use Rattle.sum_tree.specs.Bounds.{ChangesAtMost, TakesAtMost}
use Rattle.plain_rows.specs.Reach.{HasHeight, LandsAtMost, WorksAtMost, blocks_at_lines, reach_of_operation, sought_in}
use Rattle.tab_map.specs.TabLines.{lines_at}
use Rattle.kept_sheet.specs.Bounds.{ReplacesAtMost}
use Rattle.kept_sheet.specs.Kept as kept
use Rattle.kept_sheet.specs.Kept.{AreLinesAt}
use Rattle.wrap_map.specs.Bounds as wraps
use Rattle.wrapped_lines.specs.WrappedSource.{WrappedSource, lines_of}
use Rattle.wrapped_lines.proofs.Placed.{one-each}
use Rattle.layered_text.specs.Bounds.{LaysAtMost, reach_in_text}
use Rattle.layered_text.specs.Layered.{record_of}
use Rattle.layered_text.proofs.Records.{source-operated}
use Rattle.map_sheet.specs.Bounds.{RelaysAtMost, ShowsAtMost, touched_blocks}
use Rattle.map_sheet.specs.Changes.{IsTurned}
use Rattle.map_sheet.specs.Kept.{lines_in}
use Rattle.map_sheet.proofs.Reached.{blocks-within, levels, levels-after, lines-high, text-within}
use Rattle.map_sheet.proofs.StepSums.{laid-steps, landed-lines, landed-steps, line-steps, lines-steps, put-steps, relaid-steps, splice-steps, tab-steps, text-steps}

-- a source has as many lines at each tab size
lines-at : (s : Source) (tab : ℕ) → length (lines_at s tab) ≡ length (shown_lines s)
lines-at s tab = length-map (shown_lines s) (λ pieces. elements_of pieces tab)

-- no step is more than there may be
pub none-takes : (operation : Operation) (r : Record) (old : ℕ) → WorksAtMost operation r old old
none-takes operation r old h before after = omega arith

-- ---- lines over a text that was changed

module _ (operation : Operation) (r : Record) (source layer : Source) (layer_is : layer ≡ source) (shown : Shift) (shift : Option Shift)
    (turned : IsTurned operation r source shown shift) (w : WrappedSource) (w_is : w ≡ lines_in r) (old mid : ℕ)
    (took : ChangesAtMost wraps.syncing (length (lines_of w)) (length (lines_at layer w.tab)) old mid) where
  lines-take : (h : ℕ) → HasHeight h r → HasHeight h (operated operation r) → mid ≤ old + 170 * (h + 1)
  lines-take h before after =
      let was = lines-high h r w.source (ap (λ (x : WrappedSource). x.source) w_is) before in
      let is = lines-high h (operated operation r) layer (layer_is ∙ turned.changed.made ∙ sym (source-operated operation r)) after in
      took h (omega (arith, lines-at w.source w.tab, was)) (omega (arith, lines-at layer w.tab, is))

  pub relaid-lines : RelaysAtMost operation r old mid
  relaid-lines h before after = lines-steps h (touched_blocks operation r) old mid (lines-take h before after)

  pub relaid-blocks : (new : ℕ) → ShowsAtMost (touched_blocks operation r) 1 r mid new → RelaysAtMost operation r old new
  relaid-blocks new blocks h before after = relaid-steps h (touched_blocks operation r) old mid new (lines-take h before after) (blocks h before)

-- ---- a text that is changed, and the lines over it

module _ (operation : Operation) (r : Record) (sought : sought_in operation (record_of (source_of r)) ≡ sought_in operation r) (s : Source) (s_is : s ≡ source_of r)
    (old mid : ℕ) (laid : LaysAtMost operation s old mid) where
  abbrev text : ℕ
  text = reach_in_text operation (source_of r)

  abbrev reach : ℕ
  reach = reach_of_operation operation r

  pub text-takes : (h : ℕ) → HasHeight h r → HasHeight h (operated operation r) → mid ≤ old + (sought_in operation r + 1400 * (text + 1) * (h + 1))
  text-takes h before after =
      let here = subst (λ (x : Source). LaysAtMost operation x old mid) s_is laid in
      subst (λ (n : ℕ). mid ≤ old + (n + 1400 * (text + 1) * (h + 1))) sought (here h (levels h r before) (levels-after h operation r after))

  pub text-works : WorksAtMost operation r old mid
  text-works h before after = laid-steps h (sought_in operation r) text reach old mid (text-within operation r) (text-takes h before after)

  pub change-works : (new : ℕ) → RelaysAtMost operation r mid new → WorksAtMost operation r old new
  change-works new relaid h before after =
      text-steps h (sought_in operation r) text (touched_blocks operation r) reach old mid new (text-within operation r) (blocks-within operation r)
      (text-takes h before after) (relaid h before after)

-- ---- a replacement

module _ (a b : ℕ) (put : List ℕ) (r : Record) (s : Source) (s_is : s ≡ source_of r) (old mid : ℕ) (laid : LaysAtMost (Replace a b put) s old mid) where
  abbrev splice : Operation
  splice = Replace a b put

  abbrev spliced : ℕ
  spliced = reach_in_text splice (source_of r)

  pub put-works : ReplacesAtMost splice r old mid
  put-works h before after =
      put-steps h spliced (reach_of_operation splice r) old mid (text-within splice r)
      (text-takes splice r refl s s_is old mid laid h before after)

  pub splice-works : (new : ℕ) → RelaysAtMost splice r mid new → ReplacesAtMost splice r old new
  splice-works new relaid h before after =
      splice-steps h spliced (touched_blocks splice r) (reach_of_operation splice r) old mid new (text-within splice r) (blocks-within splice r)
      (text-takes splice r refl s s_is old mid laid h before after) (relaid h before after)

-- ---- another tab size

module _ (tab : ℕ) (r : Record) (w : WrappedSource) (w_is : w ≡ lines_in r) (old mid : ℕ)
    (took : ChangesAtMost wraps.syncing (length (lines_of w)) (length (lines_at w.source tab)) old mid) where
  tab-takes : (h : ℕ) → HasHeight h r → mid ≤ old + 170 * (h + 1)
  tab-takes h before =
      let was = lines-high h r w.source (ap (λ (x : WrappedSource). x.source) w_is) before in
      took h (omega (arith, lines-at w.source w.tab, was)) (omega (arith, lines-at w.source tab, was))

  pub tab-lines : WorksAtMost (SetTab tab) r old mid
  tab-lines h before after = line-steps h (reach_of_operation (SetTab tab) r) old mid (tab-takes h before)

  pub tab-works : (new : ℕ) → ShowsAtMost (touched_blocks (SetTab tab) r) 1 r mid new → WorksAtMost (SetTab tab) r old new
  tab-works new blocks h before after =
      tab-steps h (touched_blocks (SetTab tab) r) (reach_of_operation (SetTab tab) r) old mid new (blocks-within (SetTab tab) r)
      (tab-takes h before) (blocks h before)

-- ---- lines that land

-- no run has more places than lines
pub run-places : (now : List (List Element)) (places : List (Option ℕ)) (old : List (List Element)) (run : Run) → AreLinesAt now places (kept.lines_in old run) →
    length places ≤ run.count
run-places now places old run at =
    omega (arith, one-each now places (kept.lines_in old run) at, length-take (run.first + run.count - run.first) (drop run.first old))

module _ (count : ℕ) (flags : List Bool) (r : Record) (w : WrappedSource) (w_is : w ≡ lines_in r) (old mid : ℕ)
    (took : TakesAtMost (wraps.landing count) (length (lines_of w)) old mid) where
  land-takes : (h : ℕ) → HasHeight h r → mid ≤ old + 340 * (count + 1) * (h + 1)
  land-takes h before =
      took h (omega (arith, lines-at w.source w.tab, lines-high h r w.source (ap (λ (x : WrappedSource). x.source) w_is) before))

  pub land-lines : LandsAtMost count flags r old mid
  land-lines h before = landed-lines h count (blocks_at_lines flags r) old mid (land-takes h before)

  pub land-works : (edits : ℕ) → edits ≤ count → (new : ℕ) → ShowsAtMost (blocks_at_lines flags r) edits r mid new → LandsAtMost count flags r old new
  land-works edits few new blocks h before =
      landed-steps h count (blocks_at_lines flags r) edits old mid new few (land-takes h before) (blocks h before)
