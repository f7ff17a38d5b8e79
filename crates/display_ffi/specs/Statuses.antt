-- The statuses of calls, as numbers.
use Rattle.std.specs.Prelude.{ℕ}
use Rattle.cell_units.specs.declared.fault.TextFault.{TextFault}
use Rattle.cell_units.specs.declared.fault.TextFault.TheVariants as faults
use Rattle.cell_units.specs.declared.fault.Refusal.TheVariants as refusals
use Rattle.cell_units.specs.Refusal.{number_of}
use Rattle.edit_script.specs.Verdict.{Verdict, Refused, Accepted}
use Rattle.display_session.specs.declared.trouble.Trouble.{Trouble}
use Rattle.display_session.specs.declared.trouble.Trouble.TheVariants as troubles
use Rattle.display_ffi.specs.declared.status.TheConstants.{JOURNAL_FULL, NOT_UTF8, NO_MEMORY, OK}

abbrev pub status_of : Trouble → ℕ
status_of (troubles.Refused refusal) = number_of refusal
status_of troubles.NoMemory = NO_MEMORY
status_of troubles.JournalFull = JOURNAL_FULL
status_of troubles.NotUtf8 = NOT_UTF8

abbrev pub text_status_of : TextFault → ℕ
text_status_of (faults.NotUtf8 at) = NOT_UTF8
text_status_of faults.TooLong = number_of refusals.TooLong
text_status_of faults.NoMemory = NO_MEMORY

-- the status that a verdict asks for
abbrev pub verdict_status : Verdict → ℕ
verdict_status (Refused refusal) = number_of refusal
verdict_status (Accepted command) = OK
