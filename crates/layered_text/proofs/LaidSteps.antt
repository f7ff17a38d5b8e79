-- How many steps an operation on a layered text takes.
use Rattle.std.proofs.Common.{◌≡◌, ◌==◌, ℕ, ◌+◌, ◌/◌, true, length, List, Option, ap, max, arith}
use Rattle.std.specs.List.{Contains, list_any}
use Rattle.cell_units.specs.Layers.{Source}
use Rattle.cell_units.specs.Operation.{AddFold, AddInlay, RemoveFold, RemoveInlay, Replace, operated, replaced_text}
use Rattle.cell_units.specs.Record.{Fold, Inlay, inlay_le, fold_le}
use Rattle.cell_units.specs.Text.{clean}
use Rattle.cell_units.specs.Touched.{row_range, rows_of_fold, touched}
use Rattle.plain_rows.specs.Reach.{chunks_of, entries_after, entries_before, entries_on}
use Rattle.joined_folds.specs.Sweeps.{count_met}
use Rattle.sum_tree.specs.Bounds.{Searches}
use Rattle.mark_tree.proofs.Sorting.{length-insert}
use Rattle.text_rope.specs.Bounds.{ChangesText, replacing, ways}
use Rattle.inlay_map.specs.Bounds.{SearchesOnce, changing}
use Rattle.fold_map.specs.Bounds.{SearchesTwice, folding}
use Rattle.fold_map.specs.Maps.{with_fold, without}
use Rattle.folded_text.proofs.AnsweredLines.{found-there}
use Rattle.layered_text.specs.Bounds.{LaysAtMost, reach_in_text}
use Rattle.layered_text.specs.Layered.{record_of}
use Rattle.layered_text.specs.inside.Showing.{ShowsAtMost, shown_anew}
use Rattle.layered_text.proofs.MetEntries.{folds-met_on}
use Rattle.layered_text.proofs.StepSums.{both-most, fold-steps, inlay-steps, judged-steps, replaced-steps}
use Rattle.layered_text.proofs.Tellings.{finds}

-- the text is replaced, and then it is shown
pub lays-replaced : (s : Source) (a b : ℕ) (t : List ℕ) (w x y : ℕ) → ChangesText (replacing (length (clean t))) s.text (replaced_text s.text a b (clean t)) w x
    → ShowsAtMost (Replace a b t) s x y → LaysAtMost (Replace a b t) s w y
lays-replaced s a b t w x y first second h levels levels' =
    let op = Replace a b t in
    let r = record_of s in
    let n = length (clean t) in
    let rows = touched op r in
    replaced-steps (n / 64) (chunks_of op) (shown_anew op s) (max (entries_before rows r) (entries_after rows (operated op r))) h w x y
    (omega arith) (both-most (entries_before rows r) (entries_after rows (operated op r))) (first h levels.text levels'.text) (second h levels levels')

-- ---- inlays

-- it is judged whether an inlay is added
pub lays-judged_inlay : (s : Source) (i : Inlay) (w x : ℕ) → SearchesOnce (ways 2) s.text (length s.inlays) w x → LaysAtMost (AddInlay i) s w x
lays-judged_inlay s i w x first h levels levels' =
    judged-steps (length s.inlays + 1) (reach_in_text (AddInlay i) s) h w x (omega (arith, first h (levels.text, levels.inlays)))

-- and then it is added and shown
pub lays-added : (s : Source) (i : Inlay) (w x y z : ℕ) → SearchesOnce (ways 2) s.text (length s.inlays) w x
    → SearchesOnce changing s.text (length s.inlays + 1) x y → ShowsAtMost (AddInlay i) s y z → LaysAtMost (AddInlay i) s w z
lays-added s i w x y z first second third h levels levels' =
    let op = AddInlay i in
    let r = record_of s in
    let rows = touched op r in
    let more = levels'.inlays in
    inlay-steps (length s.inlays + 1) (shown_anew op s) (reach_in_text op s) h w x y z
    (omega (arith, both-most (entries_before rows r) (entries_after rows (operated op r)))) (omega (arith, first h (levels.text, levels.inlays)))
    (second h (levels.text, omega (arith, more, length-insert inlay_le i s.inlays))) (third h levels levels')

pub lays-sought_inlay : (s : Source) (id w x : ℕ) → Searches (length s.inlays) w x → LaysAtMost (RemoveInlay id) s w x
lays-sought_inlay s id w x first h levels levels' =
    judged-steps (length s.inlays) (reach_in_text (RemoveInlay id) s) h w x (omega (arith, first))

pub lays-removed : (s : Source) (id w x y z : ℕ) → Searches (length s.inlays) w x
    → SearchesOnce changing s.text (length s.inlays) x y → ShowsAtMost (RemoveInlay id) s y z → LaysAtMost (RemoveInlay id) s w z
lays-removed s id w x y z first second third h levels levels' =
    let op = RemoveInlay id in
    let r = record_of s in
    let rows = touched op r in
    inlay-steps (length s.inlays) (shown_anew op s) (reach_in_text op s) h w x y z
    (omega (arith, both-most (entries_before rows r) (entries_after rows (operated op r)))) (omega (arith, first))
    (second h (levels.text, levels.inlays)) (third h levels levels')

-- ---- folds

pub lays-judged_fold : (s : Source) (f : Fold) (w x : ℕ) → Searches (length s.folds) w x → LaysAtMost (AddFold f) s w x
lays-judged_fold s f w x first h levels levels' =
    judged-steps (length s.folds + 1) (reach_in_text (AddFold f) s) h w x (omega (arith, first))

pub lays-folded : (s : Source) (f : Fold) (w x y z : ℕ) → Searches (length s.folds) w x
    → SearchesTwice (folding (count_met f.start f.end (with_fold f s).folds)) (length (with_fold f s).folds) x y
    → ShowsAtMost (AddFold f) s y z → LaysAtMost (AddFold f) s w z
lays-folded s f w x y z first second third h levels levels' =
    let op = AddFold f in
    let after = (with_fold f s).folds in
    let k = count_met f.start f.end after in
    let count = length-insert fold_le f s.folds in
    let met = folds-met_on s.text (row_range s.text f.start f.end) f.start f.end (omega arith) (omega arith) after in
    fold-steps (length s.folds + 1) k (reach_in_text op s) h w x y z (omega (arith, met)) (omega (arith, first))
    (let t = second h levels'.folds in omega (arith, t, count)) (third h levels levels')

pub lays-sought_fold : (s : Source) (id w x : ℕ) → Searches (length s.folds) w x → LaysAtMost (RemoveFold id) s w x
lays-sought_fold s id w x first h levels levels' =
    judged-steps (length s.folds) (reach_in_text (RemoveFold id) s) h w x (omega (arith, first))

pub lays-opened : (s : Source) (id w x y z : ℕ) → list_any (λ f. f.id == id) s.folds ≡ true → Searches (length s.folds) w x
    → ((f : Fold) → Contains s.folds f → f.id ≡ id → SearchesTwice (folding (count_met f.start f.end (without id s).folds)) (length s.folds) x y)
    → ShowsAtMost (RemoveFold id) s y z → LaysAtMost (RemoveFold id) s w z
lays-opened s id w x y z any first second third h levels levels' =
    let op = RemoveFold id in
    let r = record_of s in
    let found = finds (λ (f : Fold). f.id == id) s.folds any in
    let f = found.one in
    let there = found-there (λ (g : Fold). g.id) id s.folds f found.is in
    let after = (without id s).folds in
    let k = count_met f.start f.end after in
    let met = folds-met_on s.text (row_range s.text f.start f.end) f.start f.end (omega arith) (omega arith) after in
    let rows : entries_after (touched op r) (operated op r) ≡ entries_on (row_range s.text f.start f.end) (operated op r) =
    ap (λ (o : Option Fold). entries_after (rows_of_fold s.text o) (operated op r)) found.is in
    fold-steps (length s.folds) k (reach_in_text op s) h w x y z (omega (arith, met, rows)) (omega (arith, first))
    (second f there.there there.same h levels.folds) (third h levels levels')
