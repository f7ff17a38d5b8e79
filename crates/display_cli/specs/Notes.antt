-- The line that is written of a note.
use Rattle.std.specs.Prelude.{ℕ, ◌≡◌, List, [], ◌∷◌, ◌++◌, codes, decimal}
use Rattle.cell_units.specs.Text.{line_feed}
use Rattle.display_cli.specs.declared.ended.Note.{Note}
use Rattle.display_cli.specs.declared.ended.Note.TheVariants.{Fine, Usage, ReadText, ReadScript, Write, TextNotUtf8, TextTooLong, ScriptTooLong, JournalFull, Memory}

-- what is said of a note that isn't fine
abbrev pub message : Note → List ℕ
message Fine = []
message Usage = codes "displaymap: usage: displaymap TEXT SCRIPT [--workers N] [--watch R]"
message ReadText = codes "displaymap: cannot read the text"
message ReadScript = codes "displaymap: cannot read the script"
message Write = codes "displaymap: cannot write"
message (TextNotUtf8 at) = codes "displaymap: the text is not UTF-8 at byte " ++ decimal at
message TextTooLong = codes "displaymap: the text is longer than 33554432 bytes"
message ScriptTooLong = codes "displaymap: the script is longer than 16777216 bytes"
message JournalFull = codes "displaymap: the journal is full"
message Memory = codes "displaymap: out of memory"

-- the line of a note, with its line feed; of a fine end nothing is said
abbrev pub note_line : Note → List ℕ
note_line Fine = []
note_line note = message note ++ line_feed ∷ []

-- the number in a note's line, if it has one
abbrev pub number_in : Note → List ℕ
number_in (TextNotUtf8 at) = decimal at
number_in _ = []

-- the line of the note is these two parts, with its number between them
abbrev pub IsParted : Note → List ℕ → List ℕ → Type 0
IsParted note front end = front ++ (number_in note ++ end) ≡ note_line note
