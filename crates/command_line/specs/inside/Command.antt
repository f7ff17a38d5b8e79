-- The command line as `clap` has it.
use Rattle.std.specs.Prelude.{Option, Some, true, codes, List, [], ℕ}
use Rattle.std.specs.List.{cons_option}
use Rattle.clap.specs.Matches.{first_value}
use Rattle.clap.specs.declared.parser.matches.Found.{Found}
use Rattle.command_line.specs.Words.{judged}
use Rattle.command_line.specs.declared.plan.Plan.{Plan}
use Rattle.clap.specs.Walk.{Rule}
use Rattle.clap.specs.Simple.{App, new_app, new_rule, on_top, with_rule}

-- an option of this name
abbrev pub option_rule : List ℕ → Rule
option_rule name = record (new_rule name) { long = Some name }

-- no help, no version, and no program's name among the words
abbrev pub bare_app : App
bare_app = on_top (λ s. record s { no_binary_name = true; disable_help_flag = true; disable_version_flag = true })
    (new_app (codes "displaymap"))

-- three options and two positionals
abbrev pub words_app : App
words_app = with_rule (with_rule (with_rule (with_rule (with_rule bare_app
    (option_rule (codes "workers"))) (option_rule (codes "watch"))) (option_rule (codes "make")))
    (new_rule (codes "text"))) (new_rule (codes "script"))

-- the plan of the values that a parse found
abbrev pub plan_of_found : Found → Option Plan
plan_of_found found = judged (cons_option (first_value found (codes "workers")) [])
    (cons_option (first_value found (codes "watch")) []) (cons_option (first_value found (codes "make")) [])
    (cons_option (first_value found (codes "text")) (cons_option (first_value found (codes "script")) []))
