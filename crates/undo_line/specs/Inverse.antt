-- What takes a batch of replacements back.
use Rattle.std.specs.Prelude.{ℕ, ◌≡◌, ◌+◌, ◌-◌, true, List, [], ◌∷◌, ◌++◌, length, filter, slice_range, None}
use Rattle.std.specs.List.{All, sum_by}
use Rattle.std.specs.Str.{IsUtf8}
use Rattle.cell_units.specs.Record.{opened}
use Rattle.cell_units.specs.Text.{IsText, clean}
use Rattle.display_sheet.specs.declared.change.Splice.{Splice}
use Rattle.display_sheet.specs.Changes.{are_ranges, batch, edit_refusal, is_operation, operated_all, splice_of}

-- the text after a batch
abbrev pub text_after : List ℕ → List Splice → List ℕ
text_after text splices = (operated_all (batch splices) (opened text)).text

-- how many bytes splices put in, and how many they take out
abbrev pub put_in : List Splice → ℕ
put_in splices = sum_by (λ s. length (clean s.text)) splices

abbrev pub taken_out : List Splice → ℕ
taken_out splices = sum_by (λ s. s.end - s.start) splices

-- what takes a splice back, given those before it in its batch: the range of its cleaned text after the batch, and what
-- it replaced
abbrev pub entry : List ℕ → List Splice → Splice → Splice
entry text before s =
    let start = s.start + put_in before - taken_out before in
    splice_of start (start + length (clean s.text)) (slice_range text s.start s.end)

-- what takes each of the splices back, given those before them
abbrev pub entries : List ℕ → List Splice → List Splice → List Splice
entries text before [] = []
entries text before (s ∷ splices) = entry text before s ∷ entries text (before ++ s ∷ []) splices

-- what takes a batch back: an entry for each that doesn't replace nothing by nothing, in order
abbrev pub inverse : List ℕ → List Splice → List Splice
inverse text splices = entries text [] (filter is_operation splices)

-- replacements by UTF-8 at ranges of a text
pub record IsBatchOn (text : List ℕ) (splices : List Splice) : Type 0 where
  pub is_text : IsText text
  pub ranges : are_ranges text 0 splices ≡ true
  pub utf8 : All (λ s. IsUtf8 s.text) splices

-- a batch that isn't refused on a text, and makes the other one of it
pub record Leads (text : List ℕ) (splices : List Splice) (other : List ℕ) : Type 0 where
  pub accepted : edit_refusal (opened text) splices ≡ None
  pub gives : text_after text splices ≡ other
