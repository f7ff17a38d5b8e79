-- What a run writes.
use Rattle.std.specs.Prelude.{ℕ, ◌+◌, ◌-◌, List, [], ◌∷◌, ◌++◌, length, codes, Option, Some, None, map, flat_map}
use Rattle.std.specs.Fmt.{decimal}
use Rattle.cell_units.specs.Text.{line_feed}
use Rattle.cell_units.specs.Record.{Record, line_count}
use Rattle.plain_rows.specs.Rows.{rows_of}
use Rattle.display_map.specs.Events.{Event}
use Rattle.display_map.specs.Events.{Line}
use Rattle.display_map.specs.Replay.{History, present_of, versions_of}
use Rattle.board_watch.specs.declared.seen.Seen.{Seen}
use Rattle.board_watch.specs.declared.seen.Watched.{Watched}
use Rattle.edit_script.specs.Verdict.{Verdict, Refused, Accepted}
use Rattle.edit_script.specs.Commands.{Command, Apply, Ask, AskCaret, Settle}
use Rattle.edit_script.specs.Printed.{query_lines, refusal_text}
use Rattle.script_runner.specs.CaretLines.{caret_lines}
use Rattle.script_runner.specs.declared.summary.Summary.{Summary}
use Rattle.script_runner.specs.declared.tally.Tally.{Tally}
use Rattle.script_runner.specs.Entries.{Entry}
use Rattle.script_runner.specs.Legal.{history_of, lines_in, next_verdict}

-- lines, each with its line feed, and with the same bytes before it
abbrev pub printed_with : List ℕ → List (List ℕ) → List ℕ
printed_with prefix lines = flat_map (λ line. prefix ++ (line ++ line_feed ∷ [])) lines

abbrev pub printed : List (List ℕ) → List ℕ
printed lines = printed_with [] lines

-- the lines that answer an accepted command, where so many versions were published
abbrev pub command_lines : Record → ℕ → Command → List (List ℕ)
command_lines r versions (Apply change) = []
command_lines r versions (Ask query) = query_lines r versions query
command_lines r versions (AskCaret query) = caret_lines r query
command_lines r versions Settle = []

-- the lines that a verdict is answered with, on the record that it was given on
abbrev pub verdict_lines : History → Verdict → List (List ℕ)
verdict_lines h (Refused refusal) = refusal_text refusal ∷ []
verdict_lines h (Accepted command) = command_lines (present_of h) (versions_of h.events) command

-- ... after some events, if there is a verdict
abbrev pub answer : List ℕ → List (ℕ × Entry) → List Event → Option Verdict → List (List ℕ)
answer text entries past None = []
answer text entries past (Some verdict) = verdict_lines (history_of text past) verdict

-- the lines that an event is answered with: for the line of a script what becomes of it
abbrev pub answer_at : List ℕ → List (ℕ × Entry) → List Event → Event → List (List ℕ)
answer_at text entries past (Line number) = answer text entries past (next_verdict text entries past)
answer_at text entries past _ = []

-- the answers to the events after those of the past, in order
abbrev pub answers_from : List ℕ → List (ℕ × Entry) → List Event → List Event → List (List ℕ)
answers_from text entries past [] = []
answers_from text entries past (e ∷ events) =
    answer_at text entries past e ++ answers_from text entries (past ++ e ∷ []) events

-- the bytes of the answers
abbrev pub answered : List ℕ → List (ℕ × Entry) → List Event → List ℕ
answered text entries history = printed (answers_from text entries [] history)

-- watch <reader> <version> <rows>
abbrev pub watch_line : ℕ → Seen → List ℕ
watch_line reader seen =
    codes "watch " ++ (decimal reader ++ (codes " " ++ (decimal seen.version ++ (codes " " ++ decimal seen.rows))))

-- what each watcher saw, in the order of the watchers, counted from a first one
abbrev pub watch_lines : ℕ → List (List Seen) → List (List ℕ)
watch_lines reader [] = []
watch_lines reader (seen ∷ watched) = map (watch_line reader) seen ++ watch_lines (reader + 1) watched

-- the lines of what watchers saw
abbrev pub watched_lines : List Watched → List (List ℕ)
watched_lines watched = watch_lines 0 (map (λ w. w.seen.items) watched)

-- ---- what is counted

abbrev pub refusals_in : Option Verdict → ℕ
refusals_in (Some (Refused refusal)) = 1
refusals_in _ = 0

abbrev pub refusals_at : List ℕ → List (ℕ × Entry) → List Event → Event → ℕ
refusals_at text entries past (Line number) = refusals_in (next_verdict text entries past)
refusals_at text entries past _ = 0

-- how many lines among the events after those of the past are refused
abbrev pub refusals_from : List ℕ → List (ℕ × Entry) → List Event → List Event → ℕ
refusals_from text entries past [] = 0
refusals_from text entries past (e ∷ events) =
    refusals_at text entries past e + refusals_from text entries (past ++ e ∷ []) events

-- how many lines of the history are refused
abbrev pub refusals : List ℕ → List (ℕ × Entry) → List Event → ℕ
refusals text entries history = refusals_from text entries [] history

-- no line was handled
abbrev pub no_lines : Tally
no_lines = record { handled = 0; refused = 0; answers = 0 }

-- how many lines of a history were handled and how many are refused, and how many lines the answers have
abbrev pub tally_of : List ℕ → List (ℕ × Entry) → List Event → Tally
tally_of text entries history =
    record {
      handled = lines_in history;
      refused = refusals text entries history;
      answers = length (answers_from text entries [] history);
    }

-- the summary of a record after a script, of which this was counted
abbrev pub summary_at : Record → Tally → Summary
summary_at r tally =
    record {
      lines = line_count r.text;
      bytes = length r.text;
      accepted = tally.handled - tally.refused;
      refused = tally.refused;
      answers = tally.answers;
      rows = length (rows_of r);
    }

-- the summary of a history, on the record that it ends with
abbrev pub summary_of : List ℕ → List (ℕ × Entry) → List Event → Summary
summary_of text entries history = summary_at (present_of (history_of text history)) (tally_of text entries history)

-- made lines <lines> bytes <bytes> accepted <accepted> refused <refused> answers <answers> rows <rows>
abbrev pub summary_line : Summary → List ℕ
summary_line s =
    codes "made lines " ++ (decimal s.lines ++ (codes " bytes " ++ (decimal s.bytes
    ++ (codes " accepted " ++ (decimal s.accepted ++ (codes " refused " ++ (decimal s.refused
    ++ (codes " answers " ++ (decimal s.answers ++ (codes " rows " ++ decimal s.rows))))))))))

-- ---- all that a run writes

-- what is written of a history before the watch lines: the answers, or with a make one line in their place
abbrev pub reported : Option ℕ → List ℕ → List (ℕ × Entry) → List Event → List ℕ
reported None text entries history = answered text entries history
reported (Some number) text entries history = printed (summary_line (summary_of text entries history) ∷ [])

-- the bytes that a run of this history writes, whose watchers saw these versions
abbrev pub output : Option ℕ → List ℕ → List (ℕ × Entry) → List Event → List (List Seen) → List ℕ
output make text entries history watched = reported make text entries history ++ printed (watch_lines 0 watched)
