-- The stamps and marks of a record have no say in how many steps an operation on it takes.
use Rattle.std.proofs.Common.{◌≡◌, ℕ, ◌+◌, ◌≤◌, max, List, refl, sym, subst, ◌∙◌}
use Rattle.cell_units.specs.Operation.{AddBlock, AddFold, AddInlay, Operation, RemoveBlock, RemoveFold, RemoveInlay, Replace, SetTab, SetWidth, operated}
use Rattle.cell_units.specs.Record.{Mark, Record}
use Rattle.cell_units.specs.Touched.{EachLine, NoLine, Rows, Touched, touched, touched_after, touched_before}
use Rattle.plain_rows.specs.Reach.{HasHeight, WorksAtMost, chunks_of, count_lines, met_after, met_before, reach_of_operation, sought_in, working}
use Rattle.display_sheet.specs.Shown.{unstamped}

abbrev marked : Record → List Mark → ℕ → Record
marked r marks next = record r { marks = marks; next_stamp = next }

high-marked : (h : ℕ) (r : Record) (marks : List Mark) (next : ℕ) → HasHeight h r → HasHeight h (marked r marks next)
high-marked h r marks next high = record { text = high.text; lines = high.lines; inlays = high.inlays; folds = high.folds; blocks = high.blocks }

module _ (r : Record) (marks : List Mark) (next : ℕ) where
  operated-marked : (operation : Operation) → operated operation (marked r marks next) ≡ marked (operated operation r) marks next
  operated-marked (Replace a b t) = refl
  operated-marked (AddInlay i) = refl
  operated-marked (RemoveInlay id) = refl
  operated-marked (AddFold f) = refl
  operated-marked (RemoveFold id) = refl
  operated-marked (AddBlock row id side lines) = refl
  operated-marked (RemoveBlock id) = refl
  operated-marked (SetTab tab) = refl
  operated-marked (SetWidth width) = refl

  touched-marked : (operation : Operation) → touched operation (marked r marks next) ≡ touched operation r
  touched-marked (Replace a b t) = refl
  touched-marked (AddInlay i) = refl
  touched-marked (RemoveInlay id) = refl
  touched-marked (AddFold f) = refl
  touched-marked (RemoveFold id) = refl
  touched-marked (AddBlock row id side lines) = refl
  touched-marked (RemoveBlock id) = refl
  touched-marked (SetTab tab) = refl
  touched-marked (SetWidth width) = refl

  sought-marked : (operation : Operation) → sought_in operation (marked r marks next) ≡ sought_in operation r
  sought-marked (Replace a b t) = refl
  sought-marked (AddInlay i) = refl
  sought-marked (RemoveInlay id) = refl
  sought-marked (AddFold f) = refl
  sought-marked (RemoveFold id) = refl
  sought-marked (AddBlock row id side lines) = refl
  sought-marked (RemoveBlock id) = refl
  sought-marked (SetTab tab) = refl
  sought-marked (SetWidth width) = refl

  abbrev reached : ℕ → Touched → Record → Record → ℕ
  reached chunks rows before after =
      count_lines (touched_before rows before) + count_lines (touched_after rows after)
      + (chunks + max (met_before rows before) (met_after rows after))

  reached-marked : (chunks : ℕ) (rows : Touched) (after : Record) → reached chunks rows (marked r marks next) (marked after marks next) ≡ reached chunks rows r after
  reached-marked chunks NoLine after = refl
  reached-marked chunks EachLine after = refl
  reached-marked chunks (Rows before behind) after = refl

  reach-marked : (operation : Operation) → reach_of_operation operation (marked r marks next) ≡ reach_of_operation operation r
  reach-marked operation =
      (λ i. reached (chunks_of operation) (touched-marked operation i) (marked r marks next) (operated-marked operation i))
      ∙ reached-marked (chunks_of operation) (touched operation r) (operated operation r)

  works-marked : (operation : Operation) (old new : ℕ) → WorksAtMost operation (marked r marks next) old new → WorksAtMost operation r old new
  works-marked operation old new works h before after =
      let took = works h (high-marked h r marks next before)
      (subst (HasHeight h) (sym (operated-marked operation)) (high-marked h (operated operation r) marks next after)) in
      subst (λ (n : ℕ). new ≤ old + (n + working (reach_of_operation operation r) h)) (sought-marked operation)
      (subst (λ (n : ℕ). new ≤ old + (sought_in operation (marked r marks next) + working n h)) (reach-marked operation) took)

-- what a record takes that is another's without its stamps
pub works-stamped : (operation : Operation) (r sheet : Record) (old new : ℕ) → unstamped r ≡ sheet → WorksAtMost operation sheet old new → WorksAtMost operation r old new
works-stamped operation r sheet old new is works =
    works-marked r (unstamped r).marks (unstamped r).next_stamp operation old new
    (subst (λ (q : Record). WorksAtMost operation q old new) (sym is) works)
