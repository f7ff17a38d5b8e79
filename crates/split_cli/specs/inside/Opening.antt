-- How the views of a text are opened, and how a session is closed.
use Rattle.std.specs.Prelude.{ℕ, ◌≡◌, ◌↔◌, Bool, true, List, Option, Result, Ok, Err, replicate}
use Rattle.display_map.specs.Replay.{History}
use Rattle.script_runner.specs.declared.stop.Stop.{Stop}
use Rattle.display_cli.specs.declared.ended.Note.{Note}
use Rattle.display_cli.specs.declared.ended.Note.TheVariants.{Fine}
use Rattle.display_cli.specs.inside.Opening.{IsOpenedOn, note_of}

-- so many views were started on accepted bytes, each as a display is
abbrev pub AreOpenedOn : Option (List ℕ) → ℕ → ℕ → List History → Type 0
AreOpenedOn told count views histories = (first : History) × IsOpenedOn told count first × (histories ≡ replicate views first)

-- the note and the status of a session that came to its end, with or without a refused line, or that stopped
abbrev pub IsCloseOf : Result Bool Stop → ℕ → Note → Type 0
IsCloseOf (Ok refused) status note = (note ≡ Fine) × ((status ≡ 1) ↔ (refused ≡ true))
IsCloseOf (Err stop) status note = note ≡ note_of stop
