-- Each record of a replay is lawful, where its operations are allowed.
use Rattle.std.proofs.Common.{◌≡◌, ℕ, Bool, true, false, cond, eqb, if◌then◌else◌, List, [], ◌∷◌, refl, sym, ◌∙◌, subst}
use Rattle.std.specs.Prelude.{Option, Some, None}
use Rattle.std.proofs.lemmas.Bool.{eqb-true}
use Rattle.std.proofs.lemmas.List.{length-map}
use Rattle.cell_units.specs.Text.{IsText}
use Rattle.cell_units.specs.Record.{Mark, Record}
use Rattle.cell_units.specs.Lawful.{IsLawful, IsWidth}
use Rattle.cell_units.proofs.CutLists.{Every}
use Rattle.cell_units.proofs.FoundEntries.{All-from_Every, Every-from_All}
use Rattle.cell_units.proofs.LawfulOperations.{opened-lawful}
use Rattle.display_map.specs.Events.{Event, Line, Did, Sent, Landed, Published}
use Rattle.display_map.specs.Replay.{SentJob, State, begun, happens, holds, job_numbered, landed_on, replayed, wrapped_at}
use Rattle.display_map.specs.LawfulStates.{EventFits, EventsFit}
use Rattle.display_sheet.proofs.StepLaws.{IsLawful-step}

abbrev HasWidth : Mark → Type 0
HasWidth m = IsWidth m.width

widths-wrapped : (width : ℕ) (stamps : List ℕ) (marks : List Mark) → IsWidth width → Every HasWidth marks → Every HasWidth (wrapped_at width stamps marks)
widths-wrapped width stamps [] is h = tt
widths-wrapped width stamps (m ∷ marks) is h = (go (holds stamps m.stamp), widths-wrapped width stamps marks is h.1) where
  go : (b : Bool) → IsWidth (cond b (record { stamp = m.stamp; width = width }) m).width
  go true = is
  go false = h.0

landed_lawful : (r : Record) (job : Option SentJob) → IsLawful r → IsLawful (landed_on r job)
landed_lawful r None s = s
landed_lawful r (Some job) s = go (eqb job.width r.width) refl where
  go : (b : Bool) → eqb job.width r.width ≡ b → IsLawful (cond b (record r { marks = wrapped_at job.width job.stamps r.marks }) r)
  go false e = s
  go true e = record {
    entries = record { source = s.entries.source; blocks = s.entries.blocks; tab = s.entries.tab; width = s.entries.width };
    marked = length-map r.marks (λ (m : Mark). if holds job.stamps m.stamp then record { stamp = m.stamp; width = job.width } else m) ∙ s.marked;
    widths = All-from_Every HasWidth (wrapped_at job.width job.stamps r.marks)
        (widths-wrapped job.width job.stamps r.marks (subst IsWidth (sym (eqb-true job.width r.width e)) s.entries.width) (Every-from_All HasWidth r.marks s.widths));
  }

pub lawful-happens : (s : State) (e : Event) → EventFits s e → IsLawful s.present → IsLawful (happens s e).present
lawful-happens s (Line number) fits is = is
lawful-happens s (Did op) fits is = IsLawful-step op s.present is fits
lawful-happens s (Sent job first count) fits is = is
lawful-happens s (Landed job) fits is = landed_lawful s.present (job_numbered job s.jobs) is
lawful-happens s (Published last) fits is = is

lawful-events : (s : State) (events : List Event) → EventsFit s events → IsLawful s.present → IsLawful (replayed s events).present
unfolding replayed
lawful-events s [] fits is = is
lawful-events s (e ∷ events) fits is = lawful-events (happens s e) events fits.1 (lawful-happens s e fits.0 is)

pub lawful-replayed : (text : List ℕ) (events : List Event) → IsText text → EventsFit (begun text) events → IsLawful (replayed (begun text) events).present
lawful-replayed text events is fits = lawful-events (begun text) events fits (opened-lawful text is)
