-- The form of a script, and which of its lines are skipped.
use Rattle.std.specs.Prelude.{ℕ, ◌==◌, ◌&&◌, Bool, false, not, nat_le, bytes_eq, codes, if◌then◌else◌, List, [], ◌∷◌, length, filter, option_and_then}
use Rattle.std.specs.Option.{option_map_or}
use Rattle.std.specs.List.{enumerate_from}
use Rattle.serde_json.specs.Data.{Data}
use Rattle.edit_script.specs.declared.asked.Form.{Form}
use Rattle.edit_script.specs.declared.asked.Form.TheVariants.{First, Second}
use Rattle.edit_script.specs.Commands.{number_of, member_in, value_of}
use Rattle.edit_script.specs.declared.blank.TheConstants.{LINE_LIMIT}
use Rattle.edit_script.specs.Verdict.{is_blank}

-- "script", and the number 2
abbrev pub is_form_two : List ℕ × Data → Bool
is_form_two m = bytes_eq m.0 (codes "script") && option_map_or (λ n. n == 2) (number_of m.1) false

-- a line that says that its script has the second form: one object with that key alone
abbrev pub is_header : List ℕ → Bool
is_header line = nat_le (length line) LINE_LIMIT && option_map_or is_form_two (option_and_then member_in (value_of line)) false

-- the lines that aren't blank, each with its number. The first line of all has the given one
abbrev pub filled_from : ℕ → List (List ℕ) → List (ℕ × List ℕ)
filled_from number lines = filter (λ l. not (is_blank l.1)) (enumerate_from number lines)

-- the first of them is a header
abbrev pub is_headed : List (ℕ × List ℕ) → Bool
is_headed [] = false
is_headed (l ∷ ls) = is_header l.1

-- without the header that they may begin with
abbrev pub behind_header : List (ℕ × List ℕ) → List (ℕ × List ℕ)
behind_header [] = []
behind_header (l ∷ ls) = if is_header l.1 then ls else l ∷ ls

-- the form of a script's lines
abbrev pub form_of : List (List ℕ) → Form
form_of lines = if is_headed (filled_from 1 lines) then Second else First

-- the lines that are not skipped, each with its number: neither the blank ones nor the header
abbrev pub asking_from : ℕ → List (List ℕ) → List (ℕ × List ℕ)
asking_from number lines = behind_header (filled_from number lines)
