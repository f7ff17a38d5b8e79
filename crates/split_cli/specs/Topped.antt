-- What words come to: a run on one display, or a session on several views.
use Rattle.std.specs.Prelude.{ℕ, ◌≡◌, true, false, List, map, string_bytes, String}
use Rattle.std.specs.declared.alloc.Global.{Global}
use Rattle.command_line.specs.ViewWords.{asks_for_views, view_plan_of}
use Rattle.command_line.specs.Words.{plan_of}
use Rattle.script_runner.specs.Outside.{InputState, SinkState}
use Rattle.display_cli.specs.declared.ended.Note.{Note}
use Rattle.display_cli.specs.Ended.{IsRunOfWords, Says, run_of}
use Rattle.split_cli.specs.Closed.{IsSessionOfWords, session_of}
use Rattle.split_cli.specs.declared.closed.Topped.{Topped}
use Rattle.split_cli.specs.declared.closed.Topped.TheVariants as ends

-- why it ended
abbrev pub note_in : Topped → Note
note_in (ends.Plain ended) = ended.note
note_in (ends.Session closed) = closed.note

abbrev pub status_in : Topped → ℕ
status_in (ends.Plain ended) = ended.status
status_in (ends.Session closed) = closed.status

-- an end of words: of their session where they ask for views, and else of their run
abbrev pub IsEndOfWords : List (String Global) → (inputs inputs_after : InputState) (sink sink_after : SinkState) → Topped → Type 0
IsEndOfWords words inputs inputs_after sink sink_after (ends.Plain ended) =
    (asks_for_views (map string_bytes words) ≡ false)
    × IsRunOfWords (plan_of words) (run_of inputs inputs_after sink sink_after ended)
IsEndOfWords words inputs inputs_after sink sink_after (ends.Session closed) =
    (asks_for_views (map string_bytes words) ≡ true)
    × IsSessionOfWords (view_plan_of words) (session_of inputs inputs_after sink sink_after closed)

-- the program: its end is one of its words, it says the note of that, and its status is that of the end
pub record IsProgram (words : List (String Global)) (inputs inputs_after : InputState)
    (sink sink_after err err_after : SinkState) (status : ℕ) : Type 0 where
  pub topped : Topped
  pub end : IsEndOfWords words inputs inputs_after sink sink_after topped
  pub said : Says (note_in topped) err err_after
  pub status_is : status ≡ status_in topped
