-- Blocks of lines that stay follow these.
use Rattle.std.proofs.Common.{◌≡◌, ℕ, ◌+◌, ◌-◌, ◌<◌, ◌≤◌, List, [], length, Option, None, Some, refl, sym, ap, subst, arith, inl, inr}
use Rattle.std.proofs.lemmas.Bool.{cases_lt}
use Rattle.cell_units.specs.declared.place.Bias.TheVariants.{Right}
use Rattle.cell_units.specs.declared.place.Shift.{Shift}
use Rattle.cell_units.specs.declared.place.Side.{Side}
use Rattle.cell_units.specs.declared.place.Side.TheVariants.{Above, Below}
use Rattle.cell_units.specs.Anchor.{move}
use Rattle.cell_units.specs.Lawful.{HasLawfulEntries, IsAllowed, IsWellFormed, source_of}
use Rattle.cell_units.specs.Layers.{Source, shown_lines}
use Rattle.cell_units.specs.LineCounts.{IsLineThen, TouchesOneRun, line_of_row_end, line_of_row_start, lines_of, operated_offset}
use Rattle.cell_units.specs.Operation.{AddBlock, AddFold, AddInlay, Operation, RemoveBlock, RemoveFold, RemoveInlay, Replace, SetTab, SetWidth, operated}
use Rattle.cell_units.specs.Record.{Record}
use Rattle.cell_units.specs.Rows.{HaveRows, line_rows, rows_before}
use Rattle.cell_units.specs.Touched.{touched}
use Rattle.cell_units.proofs.RowsWithLines.{go_with_lines}
use Rattle.edit_patch.specs.declared.edit.Edit.{Edit}
use Rattle.edit_patch.specs.Came.{Came}
use Rattle.edit_patch.specs.Fits.{replacement}
use Rattle.edit_patch.specs.Leads.{LeadsAt}
use Rattle.block_map.specs.Follows.{Follows, GoesTo, KeepsLine, moved_one}
use Rattle.block_map.specs.Maps.{Kept, line_of_kept}
use Rattle.block_map.proofs.LineStarts.{rows_before-next, rows_before-rises}
use Rattle.blocked_rows.specs.Records.{IsRowSplice, IsShiftOf, Lines}
use Rattle.blocked_rows.specs.Standing.{IsBlockOf}
use Rattle.blocked_rows.proofs.BlockPlaces.{shown-at}
use Rattle.blocked_rows.proofs.ReplacedLines.{came-before, came-behind, is-replaced, line-before, line-behind, start-before, start-behind, there-behind}

-- ---- a replacement of lines

module _ (old new : Lines) (a b n : ℕ) (order : a ≤ b) (leads : LeadsAt old new a b n) (have : HaveRows old)
    (count : rows_before new (a + n) ≡ rows_before old a + n) where
  abbrev edits : List Edit
  edits = replacement (rows_before old a) (rows_before old b) n

  -- a line of which every row is kept isn't one of those that were replaced
  kept-apart : (line : ℕ) → line < length old → a ≤ line → line < b → ¬ KeepsLine edits old line
  kept-apart line lt from to keeps =
      let some : 0 < length (line_rows old line) = have line [] lt in
      let low = rows_before-rises old a line from in
      let next = rows_before-next old line lt in
      let high = rows_before-rises old (line + 1) b (omega (arith, to)) in
      keeps 0 some (is-replaced (rows_before old a) (rows_before old b) n (rows_before old line + 0)
      (omega (arith, low)) (omega (arith, next, high, some)))

  -- one before them stays where it is
  goes-before : (line : ℕ) → line < length old → line < a → GoesTo edits old new line line
  goes-before line lt before = record {
    there = omega (arith, leads.reaches, before);
    size = ap length (line-before old new a b n order leads line before);
    rows = λ k within.
        let at = start-before old new a b n order leads line (omega (arith, before)) in
        let next = rows_before-next old line lt in
        let high = rows_before-rises old (line + 1) a (omega (arith, before)) in
        subst (λ (i : ℕ). Came edits (i + k) (rows_before old line + k)) (sym at)
        (came-before (rows_before old a) (rows_before old b) n (rows_before old line + k) (omega (arith, next, high, within)));
  }

  -- and one after them goes as far after what came for them
  goes-behind : (line : ℕ) → line < length old → b ≤ line → GoesTo edits old new line (a + n + (line - b))
  goes-behind line lt behind =
      let to = a + n + (line - b) in
      record {
        there = there-behind old new a b n order leads line behind lt;
        size = ap length (line-behind old new a b n order leads line behind);
        rows = λ k within.
            let at = start-behind old new a b n order leads line behind in
            let past = rows_before-rises old b line behind in
            let rise = rows_before-rises old a b order in
            let from : rows_before old b + (rows_before new to + k - (rows_before old a + n)) ≡ rows_before old line + k = omega (arith, at, past, count) in
            subst (λ (j : ℕ). Came edits (rows_before new to + k) j) from
            (came-behind (rows_before old a) (rows_before old b) n (rows_before new to + k) rise (omega (arith, at, past, count)));
      }

  goes-then : (before line line' : ℕ) → b ≡ a + before → line < length old → IsLineThen a before n line line' → KeepsLine edits old line → GoesTo edits old new line line'
  goes-then before line line' to lt is keeps = elim (cases_lt line a) [
    | inl front ↦ subst (λ (l : ℕ). GoesTo edits old new line l) (sym (is.in_front front)) (goes-before line lt front)
    | inr from ↦ elim (cases_lt line b) [
      | inl met ↦ absurd (kept-apart line lt from met keeps)
      | inr past ↦
          let moved = is.behind (omega (arith, past, to)) in
          let there : a + n + (line - b) ≡ line' = omega (arith, moved, past, to) in
          subst (λ (l : ℕ). GoesTo edits old new line l) there (goes-behind line lt past)
    ]
  ]

-- ---- blocks

-- a block moves as the operation moves offsets
pub moves : (operation : Operation) (shift : Option Shift) → IsShiftOf operation shift → (k : Kept) → (moved_one shift k).offset ≡ operated_offset operation k.offset
moves (Replace a b s) None is k = absurd is
moves (Replace a b s) (Some shift) is k = λ i. move k.offset Right (is.0 i) (is.1 i) (is.2 i)
moves (AddInlay inlay) None is k = refl
moves (AddInlay inlay) (Some shift) is k = absurd is
moves (RemoveInlay id) None is k = refl
moves (RemoveInlay id) (Some shift) is k = absurd is
moves (AddFold fold) None is k = refl
moves (AddFold fold) (Some shift) is k = absurd is
moves (RemoveFold id) None is k = refl
moves (RemoveFold id) (Some shift) is k = absurd is
moves (AddBlock row id side lines) None is k = refl
moves (AddBlock row id side lines) (Some shift) is k = absurd is
moves (RemoveBlock id) None is k = refl
moves (RemoveBlock id) (Some shift) is k = absurd is
moves (SetTab tab) None is k = refl
moves (SetTab tab) (Some shift) is k = absurd is
moves (SetWidth width) None is k = refl
moves (SetWidth width) (Some shift) is k = absurd is

-- its line goes with the row of its offset
line-then : (operation : Operation) (r : Record) → HasLawfulEntries r → IsAllowed operation r → (run : TouchesOneRun (touched operation r) r (operated operation r))
    → (side : Side) (k j : Kept) → k.offset ≤ length r.text → j.offset ≡ operated_offset operation k.offset
    → IsLineThen run.front run.before run.after (line_of_kept (source_of r) side k) (line_of_kept (source_of (operated operation r)) side j)
line-then operation r is ok run Above k j le at =
    let go = go_with_lines r is operation ok run in
    subst (λ (o : ℕ). IsLineThen run.front run.before run.after (line_of_row_start r k.offset) (line_of_row_start (operated operation r) o)) (sym at) (go.start k.offset le)
line-then operation r is ok run Below k j le at =
    let go = go_with_lines r is operation ok run in
    subst (λ (o : ℕ). IsLineThen run.front run.before run.after (line_of_row_end r k.offset) (line_of_row_end (operated operation r) o)) (sym at) (go.end k.offset le)

pub follows : (operation : Operation) (r : Record) → HasLawfulEntries r → IsAllowed operation r → (run : TouchesOneRun (touched operation r) r (operated operation r))
    → (shift : Option Shift) → IsShiftOf operation shift → (old new : Lines) (edits : List Edit) → length (lines_of r) ≡ length old
    → IsRowSplice old new edits run.front run.before run.after
    → (side : Side) (k : Kept) → IsBlockOf (source_of r) old side k → Follows (source_of (operated operation r)) shift edits old new side k
follows operation r is ok run shift by old new edits equal splice side k of =
    let l' = line_of_kept (source_of (operated operation r)) side (moved_one shift k) in
    subst (λ (es : List Edit). Follows (source_of (operated operation r)) shift es old new side k) (sym splice.edits_are)
    (λ line lt at keeps.
    let here : line ≡ line_of_kept (source_of r) side k = shown-at (source_of r) old side k is.source splice.have equal of line lt at in
    goes-then old new run.front (run.front + run.before) run.after (omega arith) splice.leads splice.have splice.single run.before line l' refl lt
    (subst (λ (m : ℕ). IsLineThen run.front run.before run.after m l') (sym here) (line-then operation r is ok run side k (moved_one shift k) of.anchor.0 (moves operation shift by k)))
    keeps)

-- where each line that is kept stays where it is, each block of one does
pub stays : (source : Source) → IsWellFormed source → (edits : List Edit) (old new : Lines) → length (shown_lines source) ≡ length old → HaveRows old
    → ((line : ℕ) → line < length old → KeepsLine edits old line → GoesTo edits old new line line)
    → (side : Side) (k : Kept) → IsBlockOf source old side k → Follows source None edits old new side k
stays source formed edits old new equal have stay side k of line lt at keeps =
    subst (λ (m : ℕ). GoesTo edits old new line m) (shown-at source old side k formed have equal of line lt at) (stay line lt keeps)
