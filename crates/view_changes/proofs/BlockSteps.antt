-- An operation on blocks leaves all of a record but the blocks.
use Rattle.std.proofs.Common.{◌≡◌, ℕ, ◌+◌, ◌==◌, Bool, List, ◌++◌, filter, take, drop, refl, ap, ◌∙◌, arith, eq-eqb}
use Rattle.std.specs.Prelude.{None}
use Rattle.std.specs.List.{find}
use Rattle.std.proofs.lemmas.List.{nil_from_length, take-append-drop}
use Rattle.std.proofs.lemmas.List.Sums.{length-filter}
use Rattle.cell_units.specs.declared.place.Side.{Side}
use Rattle.cell_units.specs.Lawful.{IsAllowed, IsLawful}
use Rattle.cell_units.specs.LineCounts.{TouchesOneRun}
use Rattle.cell_units.specs.Operation.{AddBlock, Operation, RemoveBlock, block_at_row, operated, without_block}
use Rattle.cell_units.specs.Record.{Block, Record, block_le, plain_marks}
use Rattle.cell_units.specs.Sorting.{insert_by}
use Rattle.cell_units.specs.Touched.{NoLine, touched}
use Rattle.cell_units.proofs.OperatedLines.{keeps_lines}
use Rattle.display_sheet.specs.LineStep.{line_step}
use Rattle.row_pieces.proofs.BlockLines.{none-touched}
use Rattle.row_pieces.proofs.OperatedLooks.{marks', step-is}
use Rattle.view_changes.proofs.Unique.{find-none, inserted-out, others-all}

module _ (operation : Operation) (r : Record) (is : IsLawful r) (ok : IsAllowed operation r) (none : touched operation r ≡ NoLine) (bs : List Block) (made : operated operation r ≡ record r { blocks = bs }) where
  run : TouchesOneRun (touched operation r) r (operated operation r)
  run = let k = keeps_lines r is.entries operation ok in k.run

  marks-stay : marks' operation r is ok run ≡ r.marks
  marks-stay =
      let zeros = none-touched operation r is ok run none in
      let at : run.front + 0 ≡ run.front = omega arith in
      (λ i. take run.front r.marks ++ (plain_marks r.next_stamp (zeros.1 i) ++ drop (run.front + zeros.0 i) r.marks))
      ∙ ap (λ (n : ℕ). take run.front r.marks ++ drop n r.marks) at
      ∙ take-append-drop run.front r.marks

  next-stays : r.next_stamp + run.after ≡ r.next_stamp
  next-stays = let zeros = none-touched operation r is ok run none in omega (arith, zeros.1)

  pub step-blocks : line_step operation r ≡ record r { blocks = bs }
  step-blocks =
      step-is operation r is ok run
      ∙ (λ i. record (operated operation r) { marks = marks-stay i; next_stamp = next-stays i })
      ∙ ap (λ (q : Record). record q { marks = r.marks; next_stamp = r.next_stamp }) made

-- the record with a block more, and without one
pub added : (r : Record) → IsLawful r → (row id : ℕ) (side : Side) (lines : List (List ℕ)) → IsAllowed (AddBlock row id side lines) r →
    line_step (AddBlock row id side lines) r ≡ record r { blocks = insert_by block_le (block_at_row r.text row id side lines) r.blocks }
added r is row id side lines ok = step-blocks (AddBlock row id side lines) r is ok refl (insert_by block_le (block_at_row r.text row id side lines) r.blocks) refl

pub removed : (r : Record) → IsLawful r → (id : ℕ) → line_step (RemoveBlock id) r ≡ record r { blocks = without_block id r.blocks }
removed r is id = step-blocks (RemoveBlock id) r is tt refl (without_block id r.blocks) refl

-- nothing goes where there is none of the id
pub removed-none : (r : Record) → IsLawful r → (id : ℕ) → find (λ b. b.id == id) r.blocks ≡ None → line_step (RemoveBlock id) r ≡ r
removed-none r is id none =
    removed r is id
    ∙ ap (λ (bs : List Block). record r { blocks = bs }) (others-all (λ (b : Block). b.id == id) r.blocks (find-none (λ (b : Block). b.id == id) r.blocks none))

-- a block that was added is the one that is removed again
pub added-removed : (r : Record) → IsLawful r → (row id : ℕ) (side : Side) (lines : List (List ℕ)) → IsAllowed (AddBlock row id side lines) r →
    without_block id (insert_by block_le (block_at_row r.text row id side lines) r.blocks) ≡ r.blocks
added-removed r is row id side lines ok =
    let own : Block → Bool = λ (b : Block). b.id == id in
    let fresh = nil_from_length (filter own r.blocks) (length-filter own r.blocks ∙ ok.2.fresh) in
    inserted-out block_le own (block_at_row r.text row id side lines) r.blocks (eq-eqb id id refl)
    ∙ others-all own r.blocks fresh
