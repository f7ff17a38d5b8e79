-- How commands are written, for the laws that what is written is read as that command.
use Rattle.std.specs.Prelude.{ℕ, ◌≤◌, List, [], ◌∷◌, codes}
use Rattle.std.specs.Str.{IsUtf8}
use Rattle.serde_json.specs.Data.{Data, unsigned, number, string, array, object, Items, no_items, item, no_members, member}
use Rattle.serde_json.specs.Written.{compact_text}
use Rattle.display_sheet.specs.declared.change.Splice.{Splice}
use Rattle.edit_script.specs.Commands.{greatest_number}

-- {key: value}
abbrev pub keyed : List ℕ → Items → Data
keyed key values = object (member key (array values) no_members)

abbrev pub splice_data : Splice → Data
splice_data s = array (item (number (unsigned s.start)) (item (number (unsigned s.end)) (item (string s.text) no_items)))

abbrev pub splices_data : List Splice → Items
splices_data [] = no_items
splices_data (s ∷ ss) = item (splice_data s) (splices_data ss)

-- the line of a batch of replacements, as compact JSON
abbrev pub written_edit : List Splice → List ℕ
written_edit splices = compact_text (keyed (codes "edit") (splices_data splices))

-- the line of a question for rows
abbrev pub written_rows : (first count : ℕ) → List ℕ
written_rows first count =
    compact_text (keyed (codes "rows") (item (number (unsigned first)) (item (number (unsigned count)) no_items)))

-- the numbers are none over the greatest, and the text is UTF-8
abbrev pub IsWritable : Splice → Type 0
IsWritable s = (s.start ≤ greatest_number) × (s.end ≤ greatest_number) × IsUtf8 s.text

-- two rows, the first with a letter of two bytes: its offsets are 0 to 6 without 2, those of the second 7 and 8
abbrev pub two_rows : List ℕ
two_rows = 104 ∷ 195 ∷ 169 ∷ codes "llo\nx"
