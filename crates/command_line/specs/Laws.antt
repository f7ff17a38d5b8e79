-- Words that say a plan, for the laws of the reading.
use Rattle.std.specs.Prelude.{◌==◌, if◌then◌else◌, ℕ, List, [], ◌∷◌, ◌++◌, Some, None, codes}
use Rattle.std.specs.Fmt.{decimal}
use Rattle.command_line.specs.Words.{Key, Word, make, watch, workers}
use Rattle.command_line.specs.declared.plan.Plan.{Plan}

abbrev pub option_name : Key → Word
option_name workers = codes "--workers"
option_name watch = codes "--watch"
option_name make = codes "--make"

-- the name, `=` and the value, in one word
abbrev pub attached : Key → Word → Word
attached k value = option_name k ++ codes "=" ++ value

-- the plan of a text and a script
abbrev pub of_names : Word → Word → ℕ → ℕ → Plan
of_names text script crew watchers =
    record { text = text; script = script; make = None; workers = crew; watchers = watchers }

-- the plan of a text and a script that are made
abbrev pub of_seed : ℕ → ℕ → ℕ → Plan
of_seed seed crew watchers =
    record { text = []; script = []; make = Some seed; workers = crew; watchers = watchers }

-- the words that say the threads, one option in each form
abbrev pub written_threads : ℕ → ℕ → List Word
written_threads crew watchers = option_name workers ∷ decimal crew ∷ attached watch (decimal watchers) ∷ []

-- the words that say a plan
abbrev pub written_names : Word → Word → ℕ → ℕ → List Word
written_names text script crew watchers = text ∷ written_threads crew watchers ++ script ∷ []

abbrev pub written_seed : ℕ → ℕ → ℕ → List Word
written_seed seed crew watchers = written_threads crew watchers ++ option_name make ∷ decimal seed ∷ []

-- ---- words that are written out

abbrev pub with_letter : ℕ → List Word → List Word
with_letter b [] = (b ∷ []) ∷ []
with_letter b (word ∷ words) = (b ∷ word) ∷ words

-- the words of a line, with one space between neighbours
abbrev pub spaced : List ℕ → List Word
spaced [] = [] ∷ []
spaced (b ∷ bs) = if b == 32 then [] ∷ spaced bs else with_letter b (spaced bs)
