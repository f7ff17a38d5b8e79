-- What a change asks, when it is refused, and the operations that it is.
use Rattle.std.specs.Prelude.{ℕ, ◌==◌, ◌&&◌, ◌||◌, not, Bool, true, false, if◌then◌else◌, nat_lt, nat_le, List, [], ◌∷◌, length, map, filter, fold, reverse, Option, Some, None}
use Rattle.std.specs.List.{list_any}
use Rattle.cell_units.specs.declared.fault.Refusal.{Refusal}
use Rattle.cell_units.specs.declared.fault.Refusal.TheVariants.{BadNumber, BadRange, BadText, IdInUse, TooLong, UnknownId}
use Rattle.cell_units.specs.declared.place.Bias.{Bias}
use Rattle.cell_units.specs.declared.limits.TheConstants.{BLOCK_LINES_LIMIT, BLOCK_LINE_LIMIT, ENTRY_LIMIT, INLAY_LIMIT, LEAST_WIDTH, TAB_LIMIT, TEXT_LIMIT, WIDTH_LIMIT}
use Rattle.cell_units.specs.Text.{carriage_return, is_boundary, is_feed}
use Rattle.cell_units.specs.Record as records
use Rattle.cell_units.specs.Record.{Record, line_count}
use Rattle.cell_units.specs.Operation as operations
use Rattle.cell_units.specs.Operation.{Operation, AddBlock, AddFold, AddInlay, RemoveBlock, RemoveFold, RemoveInlay, SetTab, SetWidth, operated}
use Rattle.display_sheet.specs.declared.change.Splice.{Splice}
use Rattle.display_sheet.specs.declared.change.Op.{Op}
use Rattle.display_sheet.specs.declared.change.Op.TheVariants.{Block, Fold, Inlay, Replace, Tab, Unblock, Unfold, Uninlay, Width}
use Rattle.display_sheet.specs.declared.change.Change as declared
use Rattle.display_sheet.specs.declared.change.Change.TheVariants as changes

-- ---- what a change asks

abbrev pub inlay_of : ℕ → ℕ → Bias → List ℕ → records.Inlay
inlay_of id offset bias text = record { offset = offset; bias = bias; id = id; text = text }

abbrev pub fold_of : ℕ → ℕ → ℕ → records.Fold
fold_of id start end = record { start = start; end = end; id = id }

abbrev pub operation_of : Op → Operation
operation_of (Replace s) = operations.Replace s.start s.end s.text
operation_of (Inlay id offset bias text) = AddInlay (inlay_of id offset bias text)
operation_of (Uninlay id) = RemoveInlay id
operation_of (Fold id start end) = AddFold (fold_of id start end)
operation_of (Unfold id) = RemoveFold id
operation_of (Block id side row lines) = AddBlock row id side lines.items
operation_of (Unblock id) = RemoveBlock id
operation_of (Tab size) = SetTab size
operation_of (Width cells) = SetWidth cells

abbrev pub is_replacement : Op → Bool
is_replacement (Replace s) = true
is_replacement _ = false

-- what a contract sees of a change: a batch of replacements, or one operation
pub data ChangeParts : Type 0 where
  Edit : List Splice → ChangeParts
  One : Operation → ChangeParts

abbrev pub parts_of : declared.Change → ChangeParts
parts_of (changes.Edit splices) = Edit splices.items
parts_of (changes.One op) = One (operation_of op)

abbrev pub splice_of : ℕ → ℕ → List ℕ → Splice
splice_of start end text = record { start = start; end = end; text = text }

-- an entry that replaces nothing by nothing is no operation
abbrev pub is_operation : Splice → Bool
is_operation s = not ((s.start == s.end) && (length s.text == 0))

abbrev pub replacement : Splice → Operation
replacement s = operations.Replace s.start s.end s.text

-- the operations of a batch: its entries from the last to the first
abbrev pub batch : List Splice → List Operation
batch splices = map replacement (reverse (filter is_operation splices))

-- the operations of a change, in order. One replacement means a batch of it alone
abbrev pub operations_in : ChangeParts → List Operation
operations_in (Edit splices) = batch splices
operations_in (One (operations.Replace start end text)) = batch (splice_of start end text ∷ [])
operations_in (One operation) = operation ∷ []

abbrev pub ops_of : declared.Change → List Operation
ops_of change = operations_in (parts_of change)

-- how many operations a change asks for, those that replace nothing by nothing with them
abbrev pub entries_in : ChangeParts → ℕ
entries_in (Edit splices) = length splices
entries_in (One operation) = 1

-- ---- when it is refused

-- the record after operations, but for its marks
abbrev pub operated_all : List Operation → Record → Record
operated_all ops r = fold (λ r op. operated op r) r ops

-- the ranges lie in the text between boundaries, in order and disjoint, from an offset on. Two may touch
abbrev pub are_ranges : List ℕ → ℕ → List Splice → Bool
are_ranges text from [] = true
are_ranges text from (s ∷ splices) =
    nat_le from s.start && nat_le s.start s.end
    && is_boundary text s.start && is_boundary text s.end
    && are_ranges text s.end splices

-- the first refusal that fits, of pairs of a test and a refusal
abbrev pub first_of : List (Bool × Refusal) → Option Refusal
first_of [] = None
first_of (p ∷ ps) = if p.0 then Some p.1 else first_of ps

-- an edit: its ranges are judged first, and then the length of the text that it leaves
abbrev pub edit_refusal : Record → List Splice → Option Refusal
edit_refusal r splices = first_of (
    (not (are_ranges r.text 0 splices), BadRange)
    ∷ (nat_lt TEXT_LIMIT (length (operated_all (batch splices) r).text), TooLong)
    ∷ [])

abbrev pub has_inlay : ℕ → Record → Bool
has_inlay id r = list_any (λ i. i.id == id) r.inlays

abbrev pub has_fold : ℕ → Record → Bool
has_fold id r = list_any (λ f. f.id == id) r.folds

abbrev pub has_block : ℕ → Record → Bool
has_block id r = list_any (λ b. b.id == id) r.blocks

-- so many of a kind are there that none may be added
abbrev pub is_full : {X : Type 0} → List X → Bool
is_full entries = nat_le ENTRY_LIMIT (length entries)

abbrev pub inlay_refusal : Record → records.Inlay → Option Refusal
inlay_refusal r i = first_of (
    (has_inlay i.id r, IdInUse)
    ∷ (not (is_boundary r.text i.offset), BadRange)
    ∷ (length i.text == 0, BadText)
    ∷ (nat_lt INLAY_LIMIT (length i.text) || is_full r.inlays, TooLong)
    ∷ [])

-- the fold is of a range between boundaries that isn't empty
abbrev pub is_fold_range : List ℕ → records.Fold → Bool
is_fold_range text f = nat_lt f.start f.end && is_boundary text f.start && is_boundary text f.end

abbrev pub fold_refusal : Record → records.Fold → Option Refusal
fold_refusal r f = first_of (
    (has_fold f.id r, IdInUse)
    ∷ (not (is_fold_range r.text f), BadRange)
    ∷ (is_full r.folds, TooLong)
    ∷ [])

abbrev pub is_line_end : ℕ → Bool
is_line_end b = is_feed b || (b == carriage_return)

-- the lines of a block: at least one, at most so many, and none with a line end
abbrev pub are_block_lines : List (List ℕ) → Bool
are_block_lines lines =
    nat_lt 0 (length lines) && nat_le (length lines) BLOCK_LINES_LIMIT
    && not (list_any (list_any is_line_end) lines)

abbrev pub is_long_line : List ℕ → Bool
is_long_line line = nat_lt BLOCK_LINE_LIMIT (length line)

abbrev pub block_refusal : Record → (row id : ℕ) → List (List ℕ) → Option Refusal
block_refusal r row id lines = first_of (
    (has_block id r, IdInUse)
    ∷ (nat_le (line_count r.text) row, BadRange)
    ∷ (not (are_block_lines lines), BadText)
    ∷ (list_any is_long_line lines || is_full r.blocks, TooLong)
    ∷ [])

abbrev pub is_tab_size : ℕ → Bool
is_tab_size size = nat_le 1 size && nat_le size TAB_LIMIT

abbrev pub is_width : ℕ → Bool
is_width cells = (cells == 0) || (nat_le LEAST_WIDTH cells && nat_le cells WIDTH_LIMIT)

abbrev pub operation_refusal : Record → Operation → Option Refusal
operation_refusal r (operations.Replace start end text) =
    edit_refusal r (splice_of start end text ∷ [])
operation_refusal r (AddInlay inlay) = inlay_refusal r inlay
operation_refusal r (RemoveInlay id) = first_of ((not (has_inlay id r), UnknownId) ∷ [])
operation_refusal r (AddFold fold) = fold_refusal r fold
operation_refusal r (RemoveFold id) = first_of ((not (has_fold id r), UnknownId) ∷ [])
operation_refusal r (AddBlock row id side lines) = block_refusal r row id lines
operation_refusal r (RemoveBlock id) = first_of ((not (has_block id r), UnknownId) ∷ [])
operation_refusal r (SetTab size) = first_of ((not (is_tab_size size), BadNumber) ∷ [])
operation_refusal r (SetWidth cells) = first_of ((not (is_width cells), BadNumber) ∷ [])

-- why a change of a record is refused, if it is
abbrev pub refusal_of : Record → ChangeParts → Option Refusal
refusal_of r (Edit splices) = edit_refusal r splices
refusal_of r (One operation) = operation_refusal r operation

abbrev pub change_refusal : Record → declared.Change → Option Refusal
change_refusal r change = refusal_of r (parts_of change)
