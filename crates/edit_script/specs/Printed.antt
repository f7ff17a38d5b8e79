-- How answers and refusals print.
use Rattle.std.specs.Prelude.{ℕ, ◌-◌, List, [], ◌∷◌, ◌++◌, map, flat_map, take, drop, codes}
use Rattle.std.specs.List.{enumerate_from}
use Rattle.std.specs.Fmt.{decimal}
use Rattle.cell_units.specs.declared.fault.Refusal.{Refusal}
use Rattle.cell_units.specs.declared.place.Spot.{Spot}
use Rattle.cell_units.specs.Refusal.{number_of}
use Rattle.cell_units.specs.Record.{Record}
use Rattle.plain_rows.specs.Rows.{Row, rows_of}
use Rattle.plain_rows.specs.Spots.{show, clip, back}
use Rattle.cell_line.specs.declared.lines.MarkRun.{MarkRun}
use Rattle.display_sheet.specs.Shown.{mark_runs}
use Rattle.edit_script.specs.declared.asked.Query.{Query}
use Rattle.edit_script.specs.declared.asked.Query.TheVariants as queries

-- <row> <kind>|<text>
abbrev pub row_line : ℕ → Row → List ℕ
row_line n row = decimal n ++ (codes " " ++ (row.kind ∷ (codes "|" ++ row.text)))

-- rows, numbered from a first one on
abbrev pub row_lines : ℕ → List Row → List (List ℕ)
row_lines first rows = map (λ n. row_line n.0 n.1) (enumerate_from first rows)

-- the rows of a record from a first one on, as many as there are up to a count
abbrev pub rows_from : Record → (first count : ℕ) → List (List ℕ)
rows_from r first count = row_lines first (take count (drop first (rows_of r)))

--  <first>-<last>@<width>, with the space before it
abbrev pub mark_text : MarkRun → List ℕ
mark_text run =
    codes " " ++ (decimal run.first ++ (codes "-" ++ (decimal run.last ++ (codes "@" ++ decimal run.width))))

-- version <n> marks, and then each run of marks. The number is that of the newest of so many versions
abbrev pub version_line : ℕ → List MarkRun → List ℕ
version_line versions runs = codes "version " ++ (decimal (versions - 1) ++ (codes " marks" ++ flat_map mark_text runs))

-- <row> <col>
abbrev pub spot_line : Spot → List ℕ
spot_line spot = decimal spot.row ++ (codes " " ++ decimal spot.col)

-- the lines that answer a question on a record, where so many versions were published
abbrev pub query_lines : Record → ℕ → Query → List (List ℕ)
query_lines r versions (queries.Rows first count) = rows_from r first count
query_lines r versions (queries.Peek first count) = version_line versions (mark_runs r) ∷ rows_from r first count
query_lines r versions (queries.Show offset bias) = spot_line (show r offset bias) ∷ []
query_lines r versions (queries.Back spot bias) = decimal (back r spot bias) ∷ []
query_lines r versions (queries.Clip spot bias) = spot_line (clip r spot bias) ∷ []

-- the line of a refusal
abbrev pub refusal_text : Refusal → List ℕ
refusal_text refusal = codes "! " ++ decimal (number_of refusal)
