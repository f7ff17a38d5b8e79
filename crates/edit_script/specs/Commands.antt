-- The commands that a line can be, as JSON texts.
use Rattle.std.specs.Prelude.{ℕ, min, List, [], ◌∷◌, codes, bytes_eq, if◌then◌else◌, Option, Some, None, option_map, option_and_then}
use Rattle.std.specs.Option.{option_or}
use Rattle.std.specs.Str.{is_utf8}
use Rattle.serde_json.specs.Data.{Data, array, Items, no_items, item, Members, no_members, member}
use Rattle.serde_json.specs.Find.{as_number, as_u64, as_bool, as_str, as_array, as_object}
use Rattle.serde_json.specs.Read.{read}
use Rattle.cell_units.specs.declared.place.Bias.{Bias}
use Rattle.cell_units.specs.declared.place.Bias.TheVariants.{Left, Right}
use Rattle.cell_units.specs.declared.place.Motion.{Motion}
use Rattle.cell_units.specs.declared.place.Motion.TheVariants as motions
use Rattle.cell_units.specs.declared.place.Point.{Point}
use Rattle.cell_units.specs.declared.place.Spot.{Spot}
use Rattle.cell_units.specs.declared.place.Side.{Side}
use Rattle.cell_units.specs.declared.place.Side.TheVariants.{Above, Below}
use Rattle.cell_units.specs.Points.{offset_at}
use Rattle.cell_units.specs.Operation.{Operation, AddInlay, RemoveInlay, AddFold, RemoveFold, AddBlock, RemoveBlock, SetTab, SetWidth}
use Rattle.display_sheet.specs.declared.change.Splice.{Splice}
use Rattle.display_sheet.specs.Changes.{ChangeParts, Edit, One, parts_of, inlay_of, fold_of}
use Rattle.edit_script.specs.declared.asked.Form.{Form}
use Rattle.edit_script.specs.declared.asked.Form.TheVariants.{First, Second}
use Rattle.edit_script.specs.declared.asked.CaretQuery.{CaretQuery}
use Rattle.edit_script.specs.declared.asked.CaretQuery.TheVariants as carets
use Rattle.edit_script.specs.declared.asked.Query.{Query}
use Rattle.edit_script.specs.declared.asked.Query.TheVariants as queries
use Rattle.edit_script.specs.declared.asked.Asked.{Asked}
use Rattle.edit_script.specs.declared.asked.Asked.TheVariants as asks
use Rattle.edit_script.specs.declared.key.Key.{Key}
use Rattle.edit_script.specs.declared.key.Key.TheVariants as keys

-- a change, a question, one about a caret, or the wish that every display line is wrapped at the width
pub data Command : Type 0 where
  Apply : ChangeParts → Command
  Ask : Query → Command
  AskCaret : CaretQuery → Command
  Settle : Command

-- the command of a value of the program
abbrev pub meaning : Asked → Command
meaning (asks.Change change) = Apply (parts_of change)
meaning (asks.Query query) = Ask query
meaning (asks.Caret query) = AskCaret query
meaning asks.Settle = Settle

-- ---- values

-- a number is a value that is one of 64 bits. An id is one of these as it is
abbrev pub number_of : Data → Option ℕ
number_of value = option_and_then as_u64 (as_number value)

abbrev pub greatest_number : ℕ
greatest_number = 4294967295

-- a number that is no id: one over the greatest counts as the greatest
abbrev pub number_in : Data → Option ℕ
number_in value = option_map (λ n. min n greatest_number) (number_of value)

abbrev pub bias_of : List ℕ → Option Bias
bias_of name =
    if bytes_eq name (codes "left") then Some Left
    else if bytes_eq name (codes "right") then Some Right
    else None

abbrev pub bias_in : Data → Option Bias
bias_in value = option_and_then bias_of (as_str value)

abbrev pub side_of : List ℕ → Option Side
side_of name =
    if bytes_eq name (codes "above") then Some Above
    else if bytes_eq name (codes "below") then Some Below
    else None

abbrev pub side_in : Data → Option Side
side_in value = option_and_then side_of (as_str value)

abbrev pub motion_of : List ℕ → Option Motion
motion_of name =
    if bytes_eq name (codes "left") then Some motions.Left
    else if bytes_eq name (codes "right") then Some motions.Right
    else if bytes_eq name (codes "up") then Some motions.Up
    else if bytes_eq name (codes "down") then Some motions.Down
    else if bytes_eq name (codes "start") then Some motions.Start
    else if bytes_eq name (codes "end") then Some motions.End
    else None

abbrev pub motion_in : Data → Option Motion
motion_in value = option_and_then motion_of (as_str value)

-- a spot of the display, by its row and its column
abbrev pub spot_of : Data → Data → Option Spot
spot_of row col =
    option_and_then (λ r. option_map (λ c. record { row = r; col = c }) (number_in col)) (number_in row)

-- a list of texts, of any length
abbrev pub texts_of_items : Items → Option (List (List ℕ))
texts_of_items no_items = Some []
texts_of_items (item value values) =
    option_and_then (λ t. option_map (λ ts. t ∷ ts) (texts_of_items values)) (as_str value)

abbrev pub texts_in : Data → Option (List (List ℕ))
texts_in value = option_and_then texts_of_items (as_array value)

-- a list of so many values
abbrev pub two_in : Data → Option (Data × Data)
two_in (array (item a (item b no_items))) = Some (a, b)
two_in _ = None

abbrev pub three_in : Data → Option (Data × Data × Data)
three_in (array (item a (item b (item c no_items)))) = Some (a, b, c)
three_in _ = None

abbrev pub four_in : Data → Option (Data × Data × Data × Data)
four_in (array (item a (item b (item c (item d no_items))))) = Some (a, b, c, d)
four_in _ = None

-- [row, column, bias]: a point of the text, and the side of a character that it may fall in
abbrev pub point_in : Data → Option (Point × Bias)
point_in value =
    option_and_then (λ v.
    option_and_then (λ row.
    option_and_then (λ column.
    option_map (λ bias. (record { row = row; column = column }, bias))
    (bias_in v.2)) (number_in v.1)) (number_in v.0)) (three_in value)

-- the offset that a point names
abbrev pub offset_in : List ℕ → Data → Option ℕ
offset_in text value = option_map (λ p. offset_at text p.0 p.1) (point_in value)

-- an offset of the text: a number, or in the second form also a point
abbrev pub place_in : Form → List ℕ → Data → Option ℕ
place_in First text value = number_in value
place_in Second text value = option_or (number_in value) (offset_in text value)

-- ---- the value of each key

-- [start, end, text]
abbrev pub splice_of : Form → List ℕ → Data → Option Splice
splice_of form text value =
    option_and_then (λ v.
    option_and_then (λ s.
    option_and_then (λ e.
    option_map (λ t. record { start = s; end = e; text = t })
    (as_str v.2)) (place_in form text v.1)) (place_in form text v.0)) (three_in value)

-- a list of replacements, of any length
abbrev pub splices_of_items : Form → List ℕ → Items → Option (List Splice)
splices_of_items form text no_items = Some []
splices_of_items form text (item value values) =
    option_and_then (λ s. option_map (λ ss. s ∷ ss) (splices_of_items form text values)) (splice_of form text value)

abbrev pub edit_in : Form → List ℕ → Data → Option Command
edit_in form text value = option_map (λ ss. Apply (Edit ss)) (option_and_then (splices_of_items form text) (as_array value))

-- one operation
abbrev pub one : Operation → Command
one operation = Apply (One operation)

-- [id, offset, bias, text]
abbrev pub inlay_in : Form → List ℕ → Data → Option Command
inlay_in form text value =
    option_and_then (λ v.
    option_and_then (λ id.
    option_and_then (λ offset.
    option_and_then (λ bias.
    option_map (λ t. one (AddInlay (inlay_of id offset bias t)))
    (as_str v.3)) (bias_in v.2)) (place_in form text v.1)) (number_of v.0)) (four_in value)

-- [id, start, end]
abbrev pub fold_in : Form → List ℕ → Data → Option Command
fold_in form text value =
    option_and_then (λ v.
    option_and_then (λ id.
    option_and_then (λ s.
    option_map (λ e. one (AddFold (fold_of id s e)))
    (place_in form text v.2)) (place_in form text v.1)) (number_of v.0)) (three_in value)

-- [id, side, row, lines]
abbrev pub block_in : Data → Option Command
block_in value =
    option_and_then (λ v.
    option_and_then (λ id.
    option_and_then (λ side.
    option_and_then (λ row.
    option_map (λ lines. one (AddBlock row id side lines))
    (texts_in v.3)) (number_in v.2)) (side_in v.1)) (number_of v.0)) (four_in value)

-- an id: of what is removed
abbrev pub remove_in : (ℕ → Operation) → Data → Option Command
remove_in remove value = option_map (λ id. one (remove id)) (number_of value)

-- a number: a tab size or a width
abbrev pub set_in : (ℕ → Operation) → Data → Option Command
set_in set value = option_map (λ n. one (set n)) (number_in value)

-- [first, count]
abbrev pub numbers_in : Data → Option (ℕ × ℕ)
numbers_in value =
    option_and_then (λ v.
    option_and_then (λ first.
    option_map (λ count. (first, count))
    (number_in v.1)) (number_in v.0)) (two_in value)

abbrev pub rows_in : (ℕ → ℕ → Query) → Data → Option Command
rows_in query value = option_map (λ n. Ask (query n.0 n.1)) (numbers_in value)

-- [offset, bias]
abbrev pub show_in : Form → List ℕ → Data → Option Command
show_in form text value =
    option_and_then (λ v.
    option_and_then (λ offset.
    option_map (λ bias. Ask (queries.Show offset bias))
    (bias_in v.1)) (place_in form text v.0)) (two_in value)

-- [row, col, bias]
abbrev pub aim_in : Data → Option (Spot × Bias)
aim_in value =
    option_and_then (λ v.
    option_and_then (λ spot.
    option_map (λ bias. (spot, bias))
    (bias_in v.2)) (spot_of v.0 v.1)) (three_in value)

abbrev pub spot_in : (Spot → Bias → Query) → Data → Option Command
spot_in query value = option_map (λ a. Ask (query a.0 a.1)) (aim_in value)

-- [row, col, goal, motion]
abbrev pub move_in : Data → Option CaretQuery
move_in value =
    option_and_then (λ v.
    option_and_then (λ from.
    option_and_then (λ goal.
    option_map (λ motion. carets.Move from goal motion)
    (motion_in v.3)) (number_in v.2)) (spot_of v.0 v.1)) (four_in value)

-- [row, col, row, col]
abbrev pub select_in : Data → Option CaretQuery
select_in value =
    option_and_then (λ v.
    option_and_then (λ one.
    option_map (λ other. carets.Select one other)
    (spot_of v.2 v.3)) (spot_of v.0 v.1)) (four_in value)

-- true
abbrev pub settle_in : Data → Option Command
settle_in value = option_and_then (λ b. if b then Some Settle else None) (as_bool value)

-- ---- commands

-- the key of a name
abbrev pub key_of : List ℕ → Option Key
key_of name =
    if bytes_eq name (codes "edit") then Some keys.Edit
    else if bytes_eq name (codes "inlay") then Some keys.Inlay
    else if bytes_eq name (codes "uninlay") then Some keys.Uninlay
    else if bytes_eq name (codes "fold") then Some keys.Fold
    else if bytes_eq name (codes "unfold") then Some keys.Unfold
    else if bytes_eq name (codes "block") then Some keys.Block
    else if bytes_eq name (codes "unblock") then Some keys.Unblock
    else if bytes_eq name (codes "tab") then Some keys.Tab
    else if bytes_eq name (codes "width") then Some keys.Width
    else if bytes_eq name (codes "settle") then Some keys.Settle
    else if bytes_eq name (codes "rows") then Some keys.Rows
    else if bytes_eq name (codes "peek") then Some keys.Peek
    else if bytes_eq name (codes "display") then Some keys.Display
    else if bytes_eq name (codes "buffer") then Some keys.Buffer
    else if bytes_eq name (codes "clip") then Some keys.Clip
    else if bytes_eq name (codes "move") then Some keys.Move
    else if bytes_eq name (codes "select") then Some keys.Select
    else None

-- the command of a key and its value
abbrev pub command_at : Form → List ℕ → Key → Data → Option Command
command_at form text keys.Edit value = edit_in form text value
command_at form text keys.Inlay value = inlay_in form text value
command_at form text keys.Uninlay value = remove_in RemoveInlay value
command_at form text keys.Fold value = fold_in form text value
command_at form text keys.Unfold value = remove_in RemoveFold value
command_at form text keys.Block value = block_in value
command_at form text keys.Unblock value = remove_in RemoveBlock value
command_at form text keys.Tab value = set_in SetTab value
command_at form text keys.Width value = set_in SetWidth value
command_at form text keys.Settle value = settle_in value
command_at form text keys.Rows value = rows_in queries.Rows value
command_at form text keys.Peek value = rows_in queries.Peek value
command_at form text keys.Display value = show_in form text value
command_at form text keys.Buffer value = spot_in queries.Back value
command_at form text keys.Clip value = spot_in queries.Clip value
command_at form text keys.Move value = option_map AskCaret (move_in value)
command_at form text keys.Select value = option_map AskCaret (select_in value)

-- the command of a key's name and its value
abbrev pub command_named : Form → List ℕ → List ℕ → Data → Option Command
command_named form text name value = option_and_then (λ key. command_at form text key value) (key_of name)

-- an object that has exactly one key, as that key and its value. Of equal keys the last counts
abbrev pub only_member : Members → Option (List ℕ × Data)
only_member (member name value no_members) = Some (name, value)
only_member _ = None

abbrev pub member_in : Data → Option (List ℕ × Data)
member_in value = option_and_then only_member (as_object value)

abbrev pub command_of_value : Form → List ℕ → Data → Option Command
command_of_value form text value = option_and_then (λ m. command_named form text m.0 m.1) (member_in value)

-- the value that the bytes of a line are, if they are UTF-8 that is one JSON text
abbrev pub value_of : List ℕ → Option Data
value_of line = if is_utf8 line then read line else None

-- the command that the bytes of a line are, on a text, if they are one: one JSON text of a command's form
abbrev pub command_of : Form → List ℕ → List ℕ → Option Command
command_of form text line = option_and_then (command_of_value form text) (value_of line)
