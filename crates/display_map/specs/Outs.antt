-- Where the lines of a job that is out are now.
use Rattle.std.specs.Prelude.{ℕ, ◌≡◌, ◌+◌, ◌-◌, ◌<◌, ◌==◌, nat_lt, if◌then◌else◌, not, Bool, false, List, [], ◌∷◌, length, map, count_by, slice_index, slice_set, Option, Some, None}
use Rattle.std.specs.List.{All, range_with_len}
use Rattle.cell_units.specs.Record.{Record}
use Rattle.kept_sheet.specs.Kept.{IsRising, standing}
use Rattle.display_map.specs.Replay.{SentJob}

-- the place of the line of a stamp, or none where no line has it
abbrev pub IsAt : List ℕ → ℕ → Option ℕ → Type 0
IsAt stamps stamp None = count_by (λ x. x == stamp) stamps ≡ 0
IsAt stamps stamp (Some line) = (line < length stamps) × (slice_index stamps line ≡ stamp)

-- the places of the lines of several stamps
abbrev pub AreAt : List ℕ → List ℕ → List (Option ℕ) → Type 0
AreAt stamps [] [] = Unit {0}
AreAt stamps (v ∷ vs) (p ∷ ps) = IsAt stamps v p × AreAt stamps vs ps
AreAt stamps _ _ = ⊥

-- where a line goes when the lines from `first` up to `end` make place for `count` others
abbrev pub carried : (first end count : ℕ) → Option ℕ → Option ℕ
carried first end count None = None
carried first end count (Some line) =
    if nat_lt line first then Some line
    else if nat_lt line end then None
    else Some (line - end + (first + count))

-- what is kept of a job that is out: its number, its width, and where each line of its run is now
pub record OutParts : Type 0 where
  pub number : ℕ
  pub width : ℕ
  pub lines : List (Option ℕ)

abbrev pub carried_out : (first end count : ℕ) → OutParts → OutParts
carried_out first end count out = record out { lines = map (carried first end count) out.lines }

pub record IsOut (stamps : List ℕ) (job : SentJob) (out : OutParts) : Type 0 where
  pub number : out.number ≡ job.number
  pub width : out.width ≡ job.width
  pub lines : AreAt stamps job.stamps out.lines

-- so is kept of each job
abbrev pub AreOut : List ℕ → List SentJob → List OutParts → Type 0
AreOut stamps [] [] = Unit {0}
AreOut stamps (job ∷ jobs) (out ∷ outs) = IsOut stamps job out × AreOut stamps jobs outs
AreOut stamps _ _ = ⊥

-- the lines of each job that are still there are in the order in which they were sent
abbrev pub StandInOrder : List OutParts → Type 0
StandInOrder outs = All (λ out. IsRising 0 (standing out.lines)) outs

-- the places of the lines of a run
abbrev pub some_places : ℕ → ℕ → List (Option ℕ)
some_places first count = map (λ line. Some line) (range_with_len first count)

-- each place is below a number of lines
abbrev pub AreBelow : ℕ → List (Option ℕ) → Type 0
AreBelow n [] = Unit {0}
AreBelow n (None ∷ places) = AreBelow n places
AreBelow n (Some line ∷ places) = (line < n) × AreBelow n places

-- the flags of the lines at the places are taken down
abbrev pub lowered : List (Option ℕ) → List Bool → List Bool
lowered [] flags = flags
lowered (None ∷ places) flags = lowered places flags
lowered (Some line ∷ places) flags = lowered places (slice_set flags line false)

-- so are those of the lines of each job of this width
abbrev pub lowered_by : ℕ → List OutParts → List Bool → List Bool
lowered_by width [] flags = flags
lowered_by width (out ∷ outs) flags =
    lowered_by width outs (if out.width == width then lowered out.lines flags else flags)

-- which lines of these widths wait: those of another width than the present one, but for the lines of jobs of that
-- width
abbrev pub waiting : ℕ → List ℕ → List OutParts → List Bool
waiting width ws outs = lowered_by width outs (map (λ w. not (w == width)) ws)

abbrev pub waiting_in : Record → List OutParts → List Bool
waiting_in r outs = waiting r.width (map (λ m. m.width) r.marks) outs
