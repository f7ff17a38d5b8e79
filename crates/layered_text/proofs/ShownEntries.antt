-- The inlays and folds that both maps meet where they show an operation are on touched rows.
use Rattle.std.proofs.Common.{◌≡◌, ◌==◌, ℕ, ◌+◌, ◌-◌, ◌<◌, ◌≤◌, count_by, find, List, [], length, Option, option_map, Some, None, refl, sym, ap, ◌∙◌, subst, arith}
use Rattle.cell_units.specs.declared.place.Bias.TheVariants.{Right}
use Rattle.cell_units.specs.declared.place.Shift.{Shift}
use Rattle.cell_units.specs.Folded.{folded_to}
use Rattle.cell_units.specs.Lawful.{HasLawfulEntries, IsAllowed, IsFoldOf, IsWellFormed, source_of}
use Rattle.cell_units.specs.Layers.{Source, inlay_source, line_tokens, shown_lines, shown_text, span_of}
use Rattle.cell_units.specs.Operation.{AddBlock, AddFold, AddInlay, Operation, RemoveBlock, RemoveFold, RemoveInlay, Replace, SetTab, SetWidth, operated, without_inlay}
use Rattle.cell_units.specs.Record.{Fold, Inlay, Record, fold_le}
use Rattle.cell_units.specs.Text.{clean, row_of}
use Rattle.cell_units.specs.Touched.{RowRange, row_range, rows_of_inlay, touched}
use Rattle.cell_units.proofs.BufferLines.{row_of_end, row_of_start}
use Rattle.cell_units.proofs.FoundEntries.{some_is}
use Rattle.cell_units.proofs.LawfulOperations.{lawful-operated}
use Rattle.cell_units.proofs.PlainLayers.{no_entries}
use Rattle.cell_units.proofs.ReplacedRows.{row_of-le}
use Rattle.cell_units.proofs.Sources.{row-lt}
use Rattle.plain_rows.specs.Reach.{entries_after, entries_before, entries_on, meets_rows}
use Rattle.edit_patch.specs.LayerLeads.{LayerLeads}
use Rattle.edit_patch.specs.Leads.{Reach, reach_of}
use Rattle.edit_patch.proofs.TokenPlaces.{length-at_places}
use Rattle.inlay_map.specs.Bounds.{met_by}
use Rattle.inlay_map.specs.InlaidShifts.{inlaid_shift, inlay_shift}
use Rattle.inlay_map.specs.Maps as inlaid
use Rattle.inlay_map.specs.Maps.{added}
use Rattle.inlay_map.specs.Met as inlays
use Rattle.inlay_map.specs.Met.{AddedTouches, RemovedTouches, ReplacedTouches, TouchesRowOf, TouchesRows}
use Rattle.fold_map.specs.Bounds.{folds_met}
use Rattle.fold_map.specs.Synced.{Follows, row_end_at, row_start_at}
use Rattle.fold_map.proofs.MapRows.{end-row, one-row, start-row}
use Rattle.fold_map.proofs.MetSpans.{between-met}
use Rattle.folded_text.specs.Answered.{FollowsLaid, IsLaid, folds_told, inlaid_of, inlays_settled, inlays_told, inlays_without, text_shift}
use Rattle.folded_text.specs.Shown.{put_at}
use Rattle.folded_text.proofs.AnsweredLines.{found-there}
use Rattle.layered_text.specs.Layered.{record_of}
use Rattle.layered_text.specs.inside.Kept.{AreRows}
use Rattle.layered_text.specs.inside.Showing.{shown_anew}
use Rattle.layered_text.proofs.MetEntries.{folds-met_on, folds-on, inlays-on, row-before, row-behind}

some-same : (x y : Reach) → Some x ≡ Some y → x ≡ y
some-same x y e = some_is x y e

-- ---- the rows of the lines that a replacement of the text with its inlays meets

module _ (text : List ℕ) (is : List Inlay) (formed : IsWellFormed (inlay_source text is)) (y : Shift) (within : y.end ≤ length (shown_text (inlay_source text is)))
    (rows : RowRange) (meets : inlays.MeetsRows (inlay_source text is) y.start y.end rows) where
  abbrev v : Source
  v = inlay_source text is

  -- a line from that of its start to that of its end has its row among them
  met-row : (line : ℕ) → line < length (shown_lines v) → row_of (shown_text v) y.start ≤ line → line ≤ row_of (shown_text v) y.end
      → (rows.first ≤ (span_of v line).0) × ((span_of v line).0 ≤ rows.last)
  met-row line is-there low high =
      let m = between-met v formed y.start y.end line (let o = y.ordered in omega (arith, within, o)) within is-there low high in
      let row = (span_of v line).0 in
      (meets row).0 (line, record { there = m.there; start = m.start; end = m.end }, (omega arith, omega (arith, one-row text is formed line is-there)))

  rises : row_of (shown_text v) y.start ≤ row_of (shown_text v) y.end
  rises = row_of-le (shown_text v) y.start y.end y.ordered

  pub first-row : rows.first ≤ row_of text (row_start_at v y.start)
  first-row =
      let line = row_of (shown_text v) y.start in
      let m = met-row line (row-lt v formed y.start) (omega arith) rises in
      omega (arith, m.0, row_of_start text (span_of v line).0 (start-row text (line_tokens v line)))

  pub last-row : row_of text (row_end_at v y.end) ≤ rows.last
  last-row =
      let line = row_of (shown_text v) y.end in
      let lt = row-lt v formed y.end in
      let m = met-row line lt rises (omega arith) in
      omega (arith, m.1, one-row text is formed line lt, row_of_end text (span_of v line).1 (end-row text (line_tokens v line)))

-- ---- a record

low-formed : (r : Record) → HasLawfulEntries r → IsWellFormed (inlaid_of r)
low-formed r is = record { text = is.source.text; inlays = is.source.inlays; folds = no_entries fold_le (λ g. g.id) (IsFoldOf r.text) }

ends-in : (shift : Option Reach) (r : Record) (new : Source) (s : Reach) → LayerLeads shift (inlaid_of r) new (Some s) → s.end ≤ length (shown_text (inlaid_of r))
ends-in shift r new s leads = let w = leads.within in omega (arith, w, length-at_places (folded_to r.text r.inlays [] (length r.text) Right))

-- a replacement of the text: what it meets of the inlays and folds, and the folds that are met after it
module _ (a b : ℕ) (t : List ℕ) (r : Record) (is : HasLawfulEntries r) (ok : IsAllowed (Replace a b t) r) where
  abbrev r' : Record
  r' = operated (Replace a b t) r

  abbrev put : Reach
  put = put_at a b (clean t)

  abbrev before : RowRange
  before = row_range r.text a b

  abbrev after : RowRange
  after = row_range r'.text a (a + length (clean t))

  replaced-entries : ReplacedTouches → (y : Shift) → inlaid_shift (inlaid_of r) (inlaid_of r') put ≡ reach_of y
      → Follows (source_of r) (inlaid_of r') (Some put) (Some (reach_of y))
      → met_by (Some put) r.inlays + folds_met (Some put) (Some (reach_of y)) (source_of r) ≤ entries_on before r + entries_on after r'
  replaced-entries touches y change follows =
      let new = (lawful-operated r is (Replace a b t) ok).source in
      let formed' : IsWellFormed (inlaid_of r') = record { text = new.text; inlays = new.inlays; folds = no_entries fold_le (λ g. g.id) (IsFoldOf r'.text) } in
      let meets : TouchesRows (inlaid_of r) (inlaid_of r') (reach_of y) before after =
      subst (λ (x : Reach). TouchesRows (inlaid_of r) (inlaid_of r') x before after) change
      (touches (inlaid_of r) r'.text put (low-formed r is, refl) formed' ok.2 follows.text) in
      let within = ends-in (Some put) r (inlaid_of r') (reach_of y) follows.leads in
      let first = first-row r.text r.inlays (low-formed r is) y within before meets.before_it in
      let last = last-row r.text r.inlays (low-formed r is) y within before meets.before_it in
      let start = row_start_at (inlaid_of r) y.start in
      let end = row_end_at (inlaid_of r) y.end in
      let order = ok.2 in
      let upto = ok.1.0 in
      let first' = row-before r.text a b (clean t) order upto start follows.meets.first first in
      let last' = row-behind r.text a b (clean t) order upto end follows.meets.last last in
      omega (
        arith,
        inlays-on r.text before a b (omega arith) (omega arith) r.inlays,
        folds-on r.text before a b (omega arith) (omega arith) r.folds,
        folds-met_on r'.text after start (end - b + (a + length (clean t))) first' last' r'.folds,
      )

-- other inlays at one offset: the folds that are met
turned-entries : (r : Record) → HasLawfulEntries r → (layer : Source) (row : RowRange) (below : Option Shift) (change : Reach) → option_map reach_of below ≡ Some change
    → TouchesRows (inlaid_of r) layer change row row → Follows (source_of r) layer None (option_map reach_of below)
    → folds_met None (option_map reach_of below) (source_of r) ≤ count_by (λ f. meets_rows r.text row f.start f.end) r.folds
turned-entries r is layer row None change e touches follows = absurd (cc e)
turned-entries r is layer row (Some y) change e touches follows =
    let meets : TouchesRows (inlaid_of r) layer (reach_of y) row row =
    subst (λ (x : Reach). TouchesRows (inlaid_of r) layer x row row) (sym (some-same (reach_of y) change e)) touches in
    let within = ends-in None r layer (reach_of y) follows.leads in
    let first = first-row r.text r.inlays (low-formed r is) y within row meets.before_it in
    let last = last-row r.text r.inlays (low-formed r is) y within row meets.before_it in
    omega (arith, folds-met_on r.text row (row_start_at (inlaid_of r) y.start) (row_end_at (inlaid_of r) y.end) first last r.folds)

-- none are met where the text with its inlays stays
still-entries : (shift : Option Reach) (below : Option Reach) (s : Source) → below ≡ None → folds_met shift below s ≡ 0
still-entries shift below s e = ap (λ (q : Option Reach). folds_met shift q s) e

-- ---- each operation

abbrev met : Operation → Record → Option Shift → ℕ
met operation r below =
    met_by (text_shift operation) (inlays_told operation r).current.inlays
    + folds_met (text_shift operation) (option_map reach_of below) (folds_told operation r).current

module _ (added-touches : AddedTouches) (removed-touches : RemovedTouches) (replaced-touches : ReplacedTouches) where
  replaced-shown : (a b : ℕ) (t : List ℕ) (s : Source) (shift below : Option Shift) → HasLawfulEntries (record_of s) → IsAllowed (Replace a b t) (record_of s)
      → IsLaid (Replace a b t) (record_of s) shift below → FollowsLaid (Replace a b t) (record_of s) shift below → met (Replace a b t) (record_of s) below ≤ shown_anew (Replace a b t) s
  replaced-shown a b t s None below is ok laid follows = let e = laid.shift_is in absurd (cc e)
  replaced-shown a b t s (Some x) None is ok laid follows = let e = laid.synced.answered in absurd (cc e)
  replaced-shown a b t s (Some x) (Some y) is ok laid follows =
      let r = record_of s in
      let r' = operated (Replace a b t) r in
      let put = put_at a b (clean t) in
      let is-put : reach_of x ≡ put = some-same (reach_of x) put laid.shift_is in
      let change : reach_of y ≡ inlaid_shift (inlaid_of r) (inlaid_of r') put =
      some-same (reach_of y) (inlaid_shift (inlaid_of r) (inlaid_of r') put) (laid.synced.answered ∙ ap (λ (q : Option Reach). inlaid.answer_of r'.text q (inlays_settled r)) laid.shift_is) in
      replaced-entries a b t r is ok replaced-touches y (sym change)
      (subst (λ (q : Reach). Follows (source_of r) (inlaid_of r') (Some q) (Some (reach_of y))) is-put follows)

  added-shown : (i : Inlay) (s : Source) (shift below : Option Shift) → HasLawfulEntries (record_of s) → IsAllowed (AddInlay i) (record_of s)
      → IsLaid (AddInlay i) (record_of s) shift below → FollowsLaid (AddInlay i) (record_of s) shift below → met (AddInlay i) (record_of s) below ≤ shown_anew (AddInlay i) s
  added-shown i s shift below is ok laid follows =
      let r = record_of s in
      let r' = operated (AddInlay i) r in
      let row = row_range r.text i.offset i.offset in
      let k = turned-entries r is (inlaid_of r') row below (inlay_shift (inlaid_of r) (inlaid_of r') i.offset)
      (laid.synced.answered ∙ ap (λ (q : Option Reach). inlaid.answer_of r.text q (added i (inlays_settled r))) laid.shift_is)
      (added-touches (inlaid_of r) i (low-formed r is, refl) ok.0 ok.1)
      (subst (λ (q : Option Reach). Follows (source_of r) (inlaid_of r') q (option_map reach_of below)) laid.shift_is follows) in
      omega (arith, k)

  removed-shown : (id : ℕ) (s : Source) (shift below : Option Shift) → HasLawfulEntries (record_of s) → AreRows (touched (RemoveInlay id) (record_of s))
      → IsLaid (RemoveInlay id) (record_of s) shift below → FollowsLaid (RemoveInlay id) (record_of s) shift below → met (RemoveInlay id) (record_of s) below ≤ shown_anew (RemoveInlay id) s
  removed-shown id s shift below is rows laid follows = go (find (λ i. i.id == id) (record_of s).inlays) refl where
    r : Record
    r = record_of s

    r' : Record
    r' = operated (RemoveInlay id) r

    go : (found : Option Inlay) → find (λ i. i.id == id) r.inlays ≡ found → met (RemoveInlay id) r below ≤ shown_anew (RemoveInlay id) s
    go None e = absurd (subst (λ (o : Option Inlay). AreRows (rows_of_inlay r.text o)) e rows)
    go (Some i) e =
        let there = found-there (λ (x : Inlay). x.id) id r.inlays i e in
        let row = row_range r.text i.offset i.offset in
        let touches : TouchesRows (inlaid_of r) (inlaid_of r') (inlay_shift (inlaid_of r) (inlaid_of r') i.offset) row row =
        subst (λ (k : ℕ). find (λ j. j.id == k) r.inlays ≡ Some i → TouchesRowOf i.offset (inlaid_of r) (without_inlay k r.inlays)) there.same
        (removed-touches (inlaid_of r) i (low-formed r is, refl)) e in
        let some : option_map reach_of below ≡ Some (inlay_shift (inlaid_of r) (inlaid_of r') i.offset) =
        laid.synced.answered
        ∙ (λ j. inlaid.answer_of r.text (laid.shift_is j) (inlays_without r (e j)))
        ∙ ap (λ (k : ℕ). Some (inlay_shift (inlaid_of r) (inlay_source r.text (without_inlay k r.inlays)) i.offset)) there.same in
        let k = turned-entries r is (inlaid_of r') row below (inlay_shift (inlaid_of r) (inlaid_of r') i.offset) some touches
        (subst (λ (q : Option Reach). Follows (source_of r) (inlaid_of r') q (option_map reach_of below)) laid.shift_is follows) in
        let all : shown_anew (RemoveInlay id) s ≡ entries_on row r + entries_on row r' =
        ap (λ (o : Option Inlay). entries_before (rows_of_inlay r.text o) r + entries_after (rows_of_inlay r.text o) r') e in
        omega (arith, k, all)

  folded-shown : (f : Fold) (s : Source) (shift below : Option Shift)
      → IsLaid (AddFold f) (record_of s) shift below → met (AddFold f) (record_of s) below ≤ shown_anew (AddFold f) s
  folded-shown f s shift below laid =
      let r = record_of s in
      let none : option_map reach_of below ≡ None = laid.synced.answered ∙ ap (λ (q : Option Reach). inlaid.answer_of r.text q (inlays_settled r)) laid.shift_is in
      omega (arith, still-entries None (option_map reach_of below) (folds_told (AddFold f) r).current none)

  opened-shown : (id : ℕ) (s : Source) (shift below : Option Shift)
      → IsLaid (RemoveFold id) (record_of s) shift below → met (RemoveFold id) (record_of s) below ≤ shown_anew (RemoveFold id) s
  opened-shown id s shift below laid =
      let r = record_of s in
      let none : option_map reach_of below ≡ None = laid.synced.answered ∙ ap (λ (q : Option Reach). inlaid.answer_of r.text q (inlays_settled r)) laid.shift_is in
      omega (arith, still-entries None (option_map reach_of below) (folds_told (RemoveFold id) r).current none)

  pub met-shown : (operation : Operation) (s : Source) (shift below : Option Shift) → HasLawfulEntries (record_of s) → IsAllowed operation (record_of s)
      → AreRows (touched operation (record_of s)) → IsLaid operation (record_of s) shift below → FollowsLaid operation (record_of s) shift below
      → met operation (record_of s) below ≤ shown_anew operation s
  met-shown (Replace a b t) s shift below is ok rows laid follows = replaced-shown a b t s shift below is ok laid follows
  met-shown (AddInlay i) s shift below is ok rows laid follows = added-shown i s shift below is ok laid follows
  met-shown (RemoveInlay id) s shift below is ok rows laid follows = removed-shown id s shift below is rows laid follows
  met-shown (AddFold f) s shift below is ok rows laid follows = folded-shown f s shift below laid
  met-shown (RemoveFold id) s shift below is ok rows laid follows = opened-shown id s shift below laid
  met-shown (AddBlock row id side lines) s shift below is ok rows laid follows = absurd rows
  met-shown (RemoveBlock id) s shift below is ok rows laid follows = absurd rows
  met-shown (SetTab tab) s shift below is ok rows laid follows = absurd rows
  met-shown (SetWidth width) s shift below is ok rows laid follows = absurd rows
