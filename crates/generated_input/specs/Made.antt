-- Made: the text and the script that are made from a number.
use Rattle.std.specs.Prelude.{ℕ, ◌+◌, ◌-◌, ◌==◌, nat_le, min, zero, suc, List, [], ◌∷◌, ◌++◌, length, replicate, codes, decimal, if◌then◌else◌}
use Rattle.std.specs.List.{concat, join_with_byte}
use Rattle.generated_input.specs.Drawing.{Drawing, draw, times, give, ◌>>=◌}

-- a letter of a to z
unfoldable pub letter : Drawing ℕ
letter = do
  number ← draw 26
  give (97 + number)

-- 1 to 9 letters
unfoldable pub word : Drawing (List ℕ)
word = do
  more ← draw 9
  times (1 + more) letter

-- tabs, then words with one space between neighbours, then a line feed
unfoldable pub line : Drawing (List ℕ)
line = do
  tabs ← draw 4
  count ← draw 20
  words ← times count word
  give (replicate tabs 9 ++ (join_with_byte 32 words ++ (10 ∷ [])))

-- so many lines of the text
unfoldable pub text_lines : ℕ → Drawing (List ℕ)
text_lines count = do
  lines ← times count line
  give (concat lines)

-- a line of the script, and how long the text is after it
pub record ScriptLine : Type 0 where
  pub bytes : List ℕ
  pub text_length : ℕ

-- a word in place of a range
unfoldable pub edit_line : ℕ → Drawing ScriptLine
edit_line text_length = do
  start ← draw (text_length + 1)
  more ← draw 40
  text ← word
  let end = min text_length (start + more)
  give (record {
    bytes = codes "{\"edit\":[[" ++ (decimal start ++ (codes "," ++ (decimal end ++ (codes ",\"" ++ (text ++ codes "\"]]}")))));
    text_length = text_length + length text - (end - start);
  })

-- an inlay
unfoldable pub inlay_line : (id text_length : ℕ) → Drawing (List ℕ)
inlay_line id text_length = do
  offset ← draw (text_length + 1)
  text ← word
  give (codes "{\"inlay\":[" ++ (decimal id ++ (codes "," ++ (decimal offset ++ (codes ",\"right\",\": " ++ (text ++ codes "\"]}"))))))

-- a fold
unfoldable pub fold_line : (id text_length : ℕ) → Drawing (List ℕ)
fold_line id text_length = do
  start ← draw (text_length + 1)
  more ← draw 200
  let end = min text_length (start + 1 + more)
  give (codes "{\"fold\":[" ++ (decimal id ++ (codes "," ++ (decimal start ++ (codes "," ++ (decimal end ++ codes "]}"))))))

-- a block of one line
unfoldable pub block_line : (id : ℕ) → Drawing (List ℕ)
block_line id = do
  row ← draw 20000
  text ← word
  give (codes "{\"block\":[" ++ (decimal id ++ (codes ",\"above\"," ++ (decimal row ++ (codes ",[\"" ++ (text ++ codes "\"]]}"))))))

-- a width
unfoldable pub width_line : Drawing (List ℕ)
width_line = do
  more ← draw 100
  give (codes "{\"width\":" ++ (decimal (20 + more) ++ codes "}"))

-- a question for five rows
unfoldable pub rows_line : Drawing (List ℕ)
rows_line = do
  first ← draw 20000
  give (codes "{\"rows\":[" ++ (decimal first ++ codes ",5]}"))

-- a question where an offset is shown
unfoldable pub display_line : (text_length : ℕ) → Drawing (List ℕ)
display_line text_length = do
  offset ← draw (text_length + 1)
  give (codes "{\"display\":[" ++ (decimal offset ++ codes ",\"left\"]}"))

-- the line of a choice from 4 on, which leaves the text as it is
abbrev pub other_line : (choice number text_length : ℕ) → Drawing (List ℕ)
other_line choice number text_length =
    if choice == 4 then inlay_line number text_length
    else if choice == 5 then fold_line number text_length
    else if choice == 6 then block_line number
    else if choice == 7 then width_line
    else if choice == 8 then rows_line
    else display_line text_length

-- the line of a choice, of which 0 to 3 are edits
abbrev pub chosen_line : (choice number text_length : ℕ) → Drawing ScriptLine
chosen_line choice number text_length =
    if nat_le choice 3 then edit_line text_length
    else do
      bytes ← other_line choice number text_length
      give (record { bytes = bytes; text_length = text_length })

-- the script's line of a number
unfoldable pub script_line : (number text_length : ℕ) → Drawing ScriptLine
script_line number text_length = do
  choice ← draw 10
  chosen_line choice number text_length

-- so many lines of the script from a number on, each of the text as the one before it left it
unfoldable pub script_lines : (count number text_length : ℕ) → Drawing (List ℕ)
script_lines zero number text_length = give []
script_lines (suc count) number text_length = do
  line ← script_line number text_length
  rest ← script_lines count (number + 1) line.text_length
  give (line.bytes ++ (10 ∷ rest))

pub record TextAndScript : Type 0 where
  pub text : List ℕ
  pub script : List ℕ

-- 20,000 lines of a text and then 400 of a script
unfoldable pub drawn_input : Drawing TextAndScript
drawn_input = do
  text ← text_lines 20000
  script ← script_lines 400 1 (length text)
  give (record { text = text; script = script })

-- the text and the script that are made from a number
unfoldable pub made_of : ℕ → TextAndScript
made_of number = (drawn_input number).value
