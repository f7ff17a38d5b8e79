-- What a change makes of a record and of the jobs that are out.
use Rattle.std.proofs.Common.{◌≡◌, ℕ, ◌+◌, ◌-◌, ◌≤◌, List, [], ◌∷◌, length, map, sym, ap, subst, ◌∙◌, arith}
use Rattle.std.specs.Prelude.{Option, Some, None}
use Rattle.std.specs.List.{All}
use Rattle.std.proofs.lemmas.List.{length-map}
use Rattle.std.proofs.lemmas.List.Elements.{All-cons, All-nil}
use Rattle.cell_units.specs.Folded.{display_lines}
use Rattle.cell_units.specs.Lawful.{IsLawful}
use Rattle.cell_units.specs.Operation.{Operation, operated}
use Rattle.cell_units.specs.Record.{Record}
use Rattle.plain_rows.specs.Rows.{line_elements}
use Rattle.display_sheet.specs.LineSplices.{IsLineSplice}
use Rattle.display_sheet.specs.Sheets.{IsOperated}
use Rattle.display_sheet.specs.declared.sheet.LineSplice.{LineSplice}
use Rattle.display_sheet.proofs.ElementLines.{elements_long}
use Rattle.display_sheet.proofs.Sheets.{length-marks_of}
use Rattle.display_map.specs.Displays.{KeepsDisplay, unlanded}
use Rattle.display_map.specs.Identity.{stamps_in}
use Rattle.display_map.specs.Outs.{AreAt, AreBelow, AreOut, OutParts, waiting_in}
use Rattle.display_map.specs.Replay.{History, SentJob, present_of, state_of, waits}
use Rattle.display_map.specs.Works.{KeepsWork}
use Rattle.display_map.proofs.LawfulReplays.{lawful-replayed}
use Rattle.display_map.proofs.Lowered.{flags-of}

-- places of lines are below their number
places-below : (stamps vs : List ℕ) (places : List (Option ℕ)) → AreAt stamps vs places → AreBelow (length stamps) places
places-below stamps [] [] at = tt
places-below stamps [] (p ∷ places) at = absurd at
places-below stamps (v ∷ vs) [] at = absurd at
places-below stamps (v ∷ vs) (None ∷ places) at = places-below stamps vs places at.1
places-below stamps (v ∷ vs) (Some line ∷ places) at = (at.0.0, places-below stamps vs places at.1)

abbrev IsBelow : ℕ → OutParts → Type 0
IsBelow n out = AreBelow n out.lines

jobs-below : (stamps : List ℕ) (jobs : List SentJob) (outs : List OutParts) → AreOut stamps jobs outs → All (IsBelow (length stamps)) outs
jobs-below stamps [] [] out = All-nil (IsBelow (length stamps))
jobs-below stamps [] (o ∷ outs) out = absurd out
jobs-below stamps (job ∷ jobs) [] out = absurd out
jobs-below stamps (job ∷ jobs) (o ∷ outs) out =
    All-cons (IsBelow (length stamps)) o outs (places-below stamps job.stamps o.lines out.0.lines) (jobs-below stamps jobs outs out.1)

module _ (h : History) (sheet : Record) (outs : List OutParts) (versions jobs first : ℕ) (k : KeepsDisplay h sheet outs versions jobs first) where
  abbrev r : Record
  r = present_of h

  pub kept-lawful : IsLawful r
  kept-lawful = lawful-replayed h.opening h.events k.opening k.fits

  marks-kept : length r.marks ≡ length sheet.marks
  marks-kept =
      sym (length-marks_of (map (λ m. m.width) r.marks) ∙ length-map r.marks (λ m. m.width)) ∙ ap (λ (q : Record). length q.marks) k.sheet_is

  -- the record has a mark for each display line
  pub marked-sheet : length sheet.marks ≡ length (display_lines sheet.text sheet.inlays sheet.folds)
  marked-sheet = sym marks-kept ∙ kept-lawful.marked ∙ ap (λ (q : Record). length (display_lines q.text q.inlays q.folds)) k.sheet_is

  -- the lines of the jobs that are out are among its lines
  pub below-sheet : All (λ out. AreBelow (length sheet.marks) out.lines) outs
  below-sheet =
      subst (λ (n : ℕ). All (λ (out : OutParts). AreBelow n out.lines) outs) (length-map r.marks (λ m. m.stamp) ∙ marks-kept)
      (jobs-below (stamps_in r) (unlanded (state_of h).jobs) outs k.outs_are)

  -- which lines wait
  pub flags-are : map (waits (state_of h)) r.marks ≡ waiting_in sheet outs
  flags-are = flags-of (state_of h) outs k.stamped.once k.outs_are ∙ ap (λ (q : Record). waiting_in q outs) k.sheet_is

  pub kept-work : KeepsWork h sheet outs versions jobs
  kept-work = record {
    opening = k.opening;
    fits = k.fits;
    sheet_is = k.sheet_is;
    stamped = k.stamped;
    outs_are = k.outs_are;
    in_order = k.in_order;
    versions_are = k.versions_are;
    jobs_are = k.jobs_are;
    jobs_few = k.jobs_few;
    none_before = λ j lt. absurd (omega (arith, lt));
  }

-- ---- where an operation carries lines

module _ (h : History) (sheet : Record) (outs : List OutParts) (versions jobs : ℕ) (k : KeepsWork h sheet outs versions jobs)
    (operation : Operation) (sheet' : Record) (splice : LineSplice) (done : IsOperated operation sheet sheet' splice) where
  abbrev now : Record
  now = present_of h

  line_splice : IsLineSplice operation now splice.first splice.end splice.count
  line_splice = (done now k.sheet_is).0

  lines-before : length (line_elements now) ≡ length (display_lines sheet.text sheet.inlays sheet.folds)
  lines-before = elements_long now ∙ ap (λ (q : Record). length (display_lines q.text q.inlays q.folds)) k.sheet_is

  lines-after : length (line_elements (operated operation now)) ≡ length (display_lines sheet'.text sheet'.inlays sheet'.folds)
  lines-after =
      elements_long (operated operation now)
      ∙ ap (λ (q : Record). length (display_lines q.text q.inlays q.folds)) (sym line_splice.step)
      ∙ ap (λ (q : Record). length (display_lines q.text q.inlays q.folds)) (done now k.sheet_is).1

  pub splice-order : splice.first ≤ splice.end
  splice-order = line_splice.order

  pub splice-within : splice.end ≤ length (display_lines sheet.text sheet.inlays sheet.folds)
  splice-within = omega (arith, line_splice.within, lines-before)

  pub splice-after : length (display_lines sheet'.text sheet'.inlays sheet'.folds)
      ≡ splice.first + (splice.count + (length (display_lines sheet.text sheet.inlays sheet.folds) - splice.end))
  splice-after = sym lines-after ∙ line_splice.long ∙ ap (λ (n : ℕ). splice.first + (splice.count + (n - splice.end))) lines-before
