-- A source and the records of it.
use Rattle.std.proofs.Common.{◌≡◌, ◌+◌, Bool, List, map, Some, refl, sym, ap, ◌∙◌, subst}
use Rattle.cell_units.specs.declared.place.Shift.{Shift}
use Rattle.cell_units.specs.Folded.{display_lines}
use Rattle.cell_units.specs.Lawful.{HasLawfulEntries, IsWellFormed, source_of}
use Rattle.cell_units.specs.Layers.{Source}
use Rattle.cell_units.specs.LineCounts.{TouchesOneRun}
use Rattle.cell_units.specs.Operation.{AddBlock, AddFold, AddInlay, Operation, RemoveBlock, RemoveFold, RemoveInlay, Replace, SetTab, SetWidth, operated}
use Rattle.cell_units.specs.Record.{Record}
use Rattle.cell_units.specs.Touched.{EachLine, NoLine, RowRange, Rows, Touched, is_touched, one_run, touched}
use Rattle.cell_units.proofs.LawfulOperations.{opened-lawful}
use Rattle.tab_map.specs.TabLines.{first_met, new_reach, old_reach}
use Rattle.folded_text.specs.Answered.{MeetsTouched}
use Rattle.layered_text.specs.Layered.{record_of, source_after}

-- the record of a source is lawful but for its marks
pub lawful-record : (s : Source) → IsWellFormed s → HasLawfulEntries (record_of s)
lawful-record s is =
    let blank = (opened-lawful s.text is.text).entries in
    record { source = is; blocks = blank.blocks; tab = blank.tab; width = blank.width }

-- what an operation makes of a record's source and touches of it, the other parts of the record have no say in
pub source-operated : (operation : Operation) (r : Record) → source_of (operated operation r) ≡ source_after operation (source_of r)
source-operated (Replace a b t) r = refl
source-operated (AddInlay i) r = refl
source-operated (RemoveInlay id) r = refl
source-operated (AddFold f) r = refl
source-operated (RemoveFold id) r = refl
source-operated (AddBlock row id side lines) r = refl
source-operated (RemoveBlock id) r = refl
source-operated (SetTab tab) r = refl
source-operated (SetWidth width) r = refl

touched-alike : (operation : Operation) (r : Record) → touched operation r ≡ touched operation (record_of (source_of r))
touched-alike (Replace a b t) r = refl
touched-alike (AddInlay i) r = refl
touched-alike (RemoveInlay id) r = refl
touched-alike (AddFold f) r = refl
touched-alike (RemoveFold id) r = refl
touched-alike (AddBlock row id side lines) r = refl
touched-alike (RemoveBlock id) r = refl
touched-alike (SetTab tab) r = refl
touched-alike (SetWidth width) r = refl

-- ---- records of the same sources are met alike

abbrev touched_of : RowRange → Source → List Bool
touched_of rows s = map (is_touched s.text rows) (display_lines s.text s.inlays s.folds)

module _ (q q' r r' : Record) (e : source_of q ≡ source_of r) (e' : source_of q' ≡ source_of r') where
  abbrev run-alike : (before after : RowRange) → TouchesOneRun (Rows before after) q q' → TouchesOneRun (Rows before after) r r'
  run-alike before after run = record {
    front = run.front;
    before = run.before;
    after = run.after;
    back = run.back;
    before_are = subst (λ (s : Source). touched_of before s ≡ one_run run.front run.before run.back) e run.before_are;
    after_are = subst (λ (s : Source). touched_of after s ≡ one_run run.front run.after run.back) e' run.after_are;
  }

  pub meets-alike : (t : Touched) (shown : Shift) → MeetsTouched t q q' (Some shown) → MeetsTouched t r r' (Some shown)
  meets-alike NoLine shown m = m
  meets-alike EachLine shown m = m
  meets-alike (Rows before after) shown m =
      let run = m.run in
      record {
        run = run-alike before after run;
        first = subst (λ (s : Source). first_met s shown ≡ run.front) e m.first;
        last = subst (λ (s : Source). old_reach s shown ≡ run.front + run.before) e m.last;
        last_after = subst (λ (s : Source). new_reach s shown ≡ run.front + run.after) e' m.last_after;
      }

-- so it is enough to look at the record of a source
pub meets-each : (operation : Operation) (s : Source) (shown : Shift)
    → MeetsTouched (touched operation (record_of s)) (record_of s) (operated operation (record_of s)) (Some shown)
    → (r : Record) → source_of r ≡ s → MeetsTouched (touched operation r) r (operated operation r) (Some shown)
meets-each operation s shown m r e =
    subst (λ (t : Touched). MeetsTouched t r (operated operation r) (Some shown))
    (sym (touched-alike operation r ∙ ap (λ (v : Source). touched operation (record_of v)) e))
    (meets-alike (record_of s) (operated operation (record_of s)) r (operated operation r) (sym e)
    (sym (source-operated operation r ∙ ap (source_after operation) e)) (touched operation (record_of s)) shown m)
