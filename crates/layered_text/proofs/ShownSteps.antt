-- How many steps both maps take to show an operation that they were given.
use Rattle.std.proofs.Common.{◌≡◌, ◌==◌, ℕ, ◌+◌, ◌*◌, ◌^◌, ◌<◌, ◌≤◌, find, filter, not, Bool, List, length, Option, option_map, Some, None, subst, ◌∙◌, arith}
use Rattle.std.proofs.lemmas.List.Sums.{count_by-le-length, length-filter}
use Rattle.cell_units.specs.declared.limits.TheConstants.{LAID_LIMIT}
use Rattle.cell_units.specs.declared.place.Shift.{Shift}
use Rattle.cell_units.specs.Lawful.{IsWellFormed}
use Rattle.cell_units.specs.Layers.{Source, inlay_source}
use Rattle.cell_units.specs.Operation.{AddBlock, AddFold, AddInlay, Operation, RemoveBlock, RemoveFold, RemoveInlay, Replace, SetTab, SetWidth, operated}
use Rattle.cell_units.specs.Record.{Fold, Inlay, Record}
use Rattle.cell_units.specs.Touched.{row_range}
use Rattle.sum_tree.specs.Bounds.{TakesAtMost}
use Rattle.edit_patch.specs.Leads.{Reach, reach_of}
use Rattle.inlay_map.specs.Bounds as inlaying
use Rattle.inlay_map.specs.Bounds.{TakesInlaid, met_by}
use Rattle.inlay_map.specs.Maps.{InlayState, IsSynced}
use Rattle.inlay_map.specs.Met.{AddedTouches, RemovedTouches, ReplacedTouches}
use Rattle.fold_map.specs.Bounds as folding
use Rattle.fold_map.specs.Bounds.{folds_met}
use Rattle.fold_map.specs.Maps.{FoldState}
use Rattle.folded_text.specs.Answered.{AnswersSuffice, folds_told, folds_without, inlays_told, inlays_without, text_shift}
use Rattle.layered_text.specs.Bounds.{HasLevels}
use Rattle.layered_text.specs.Layered.{record_of, source_after}
use Rattle.layered_text.specs.inside.Kept.{AreTold}
use Rattle.layered_text.specs.inside.Showing.{ShowsAtMost, shown_anew}
use Rattle.layered_text.proofs.MetEntries.{inlays-on}
use Rattle.layered_text.proofs.Records.{lawful-record}
use Rattle.layered_text.proofs.ShownEntries.{met-shown}
use Rattle.layered_text.proofs.StepSums.{shown-steps}
use Rattle.layered_text.proofs.ToldMaps.{laid, laid-follows}

filtered : {X : Type 0} (p : X → Bool) (xs : List X) → length (filter p xs) ≤ length xs
filtered p xs = omega (arith, length-filter p xs, count_by-le-length p xs)

-- ---- both maps have no more entries than there are before the operation or after it

inlays-few : (operation : Operation) (s : Source) (n : ℕ) → length s.inlays < n → length (source_after operation s).inlays < n
    → length (inlays_told operation (record_of s)).current.inlays < n
inlays-few (AddInlay i) s n before after = after
inlays-few (RemoveInlay id) s n before after = go (find (λ i. i.id == id) s.inlays) where
  go : (found : Option Inlay) → length (inlays_without (record_of s) found).current.inlays < n
  go None = before
  go (Some i) = omega (arith, before, filtered (λ (j : Inlay). not (j.id == i.id)) s.inlays)
inlays-few (Replace a b t) s n before after = before
inlays-few (AddFold f) s n before after = before
inlays-few (RemoveFold id) s n before after = before
inlays-few (AddBlock row id side lines) s n before after = before
inlays-few (RemoveBlock id) s n before after = before
inlays-few (SetTab tab) s n before after = before
inlays-few (SetWidth width) s n before after = before

folds-few : (operation : Operation) (s : Source) (n : ℕ) → length s.folds < n → length (source_after operation s).folds < n
    → length (folds_told operation (record_of s)).current.folds < n
folds-few (AddFold f) s n before after = after
folds-few (RemoveFold id) s n before after = go (find (λ f. f.id == id) s.folds) where
  go : (found : Option Fold) → length (folds_without (record_of s) found).current.folds < n
  go None = before
  go (Some f) = omega (arith, before, filtered (λ (g : Fold). not (g.id == f.id)) s.folds)
folds-few (Replace a b t) s n before after = before
folds-few (AddInlay i) s n before after = before
folds-few (RemoveInlay id) s n before after = before
folds-few (AddBlock row id side lines) s n before after = before
folds-few (RemoveBlock id) s n before after = before
folds-few (SetTab tab) s n before after = before
folds-few (SetWidth width) s n before after = before

-- the inlays that are met are on touched rows
inlays-shown : (operation : Operation) (s : Source) → met_by (text_shift operation) (inlays_told operation (record_of s)).current.inlays ≤ shown_anew operation s
inlays-shown (Replace a b t) s = omega (arith, inlays-on s.text (row_range s.text a b) a b (omega arith) (omega arith) s.inlays)
inlays-shown (AddInlay i) s = omega arith
inlays-shown (RemoveInlay id) s = omega arith
inlays-shown (AddFold f) s = omega arith
inlays-shown (RemoveFold id) s = omega arith
inlays-shown (AddBlock row id side lines) s = omega arith
inlays-shown (RemoveBlock id) s = omega arith
inlays-shown (SetTab tab) s = omega arith
inlays-shown (SetWidth width) s = omega arith

-- ---- a layered text, whose maps were given an operation

pub shows-none : (operation : Operation) (s : Source) (a : ℕ) → ShowsAtMost operation s a a
shows-none operation s a h levels levels' = omega arith

module _ (operation : Operation) (s : Source) (rope : List ℕ) (inlays : InlayState) (folds : FoldState) (shift : Option Shift)
    (told : AreTold operation s rope inlays folds shift) (next : List ℕ) (same : next ≡ rope) where
  abbrev r : Record
  r = record_of s

  abbrev moved : Option Reach
  moved = option_map reach_of shift

  -- the map of inlays shows it
  abbrev SyncsInlays : ℕ → ℕ → Type 0
  SyncsInlays a b = TakesInlaid (inlaying.syncing (met_by moved inlays.current.inlays)) (inlay_source next inlays.current.inlays) a b

  abbrev inlays_met : ℕ
  inlays_met = met_by (text_shift operation) (inlays_told operation r).current.inlays

  inlays-steps : (a b h : ℕ) → HasLevels h s → HasLevels h (source_after operation s) → SyncsInlays a b → b ≤ a + 339 * (inlays_met + 1) * (h + 1)
  inlays-steps a b h levels levels' takes =
      let takes' : TakesInlaid (inlaying.syncing inlays_met) (inlay_source (operated operation r).text (inlays_told operation r).current.inlays) a b =
      subst (λ (p : InlayState × List ℕ × Option Reach). TakesInlaid (inlaying.syncing (met_by p.2 p.0.current.inlays)) (inlay_source p.1 p.0.current.inlays) a b)
      (λ i. (told.inlays_are i, (same ∙ told.rope_is) i, told.shift_is i)) takes in
      takes' h (levels'.text, inlays-few operation s (2 * 6 ^ (h + 1)) levels.inlays levels'.inlays)

  pub shows-inlays : (a b : ℕ) → SyncsInlays a b → ShowsAtMost operation s a b
  shows-inlays a b takes h levels levels' =
      shown-steps inlays_met 0 (shown_anew operation s) h a b b (omega (arith, inlays-shown operation s)) (inlays-steps a b h levels levels' takes) (omega arith)

  -- and then that of folds
  module _ (is : IsWellFormed s) (short : length rope ≤ LAID_LIMIT) (inlaid : Source) (below : Option Shift)
      (synced : IsSynced next moved inlays inlaid (option_map reach_of below)) (suffice : AnswersSuffice) (lower : Source) (same' : lower ≡ inlaid) where
    abbrev SyncsFolds : ℕ → ℕ → Type 0
    SyncsFolds a b = TakesAtMost (folding.syncing (folds_met moved (option_map reach_of below) folds.current)) (length folds.current.folds) a b

    abbrev met_folds : ℕ
    met_folds = folds_met (text_shift operation) (option_map reach_of below) (folds_told operation r).current

    folds-steps : (a b h : ℕ) → HasLevels h s → HasLevels h (source_after operation s) → SyncsFolds a b → b ≤ a + 504 * (met_folds + 1) * (h + 1)
    folds-steps a b h levels levels' takes =
        let takes' : TakesAtMost (folding.syncing met_folds) (length (folds_told operation r).current.folds) a b =
        subst (λ (p : FoldState × Option Reach). TakesAtMost (folding.syncing (folds_met p.1 (option_map reach_of below) p.0.current)) (length p.0.current.folds) a b)
        (λ i. (told.folds_are i, told.shift_is i)) takes in
        takes' h (folds-few operation s (2 * 6 ^ (h + 1)) levels.folds levels'.folds)

    pub shows-both : AddedTouches → RemovedTouches → ReplacedTouches → (a b c : ℕ) → SyncsInlays a b → SyncsFolds b c → ShowsAtMost operation s a c
    shows-both added removed replaced a b c first second h levels levels' =
        let few = met-shown added removed replaced operation s shift below (lawful-record s is) told.allowed told.rows
        (laid operation s rope inlays folds shift told is next same short inlaid below synced)
        (laid-follows operation s rope inlays folds shift told is next same short inlaid below synced suffice lower same') in
        shown-steps inlays_met met_folds (shown_anew operation s) h a b c few (inlays-steps a b h levels levels' first) (folds-steps b c h levels levels' second)
