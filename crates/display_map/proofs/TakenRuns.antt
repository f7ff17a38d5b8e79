-- The run that is sent next, by the flags of the lines.
use Rattle.std.proofs.Common.{◌≡◌, ℕ, ◌+◌, ◌<◌, ◌≤◌, not, suc, min, cond, Bool, true, false, List, [], ◌∷◌, ◌++◌, length, map, drop, refl, sym, ap, subst, ◌∙◌, arith, length-drop}
use Rattle.std.specs.Prelude.{Some, None}
use Rattle.std.specs.List.{prefix_len}
use Rattle.std.proofs.lemmas.List.{length-map}
use Rattle.std.proofs.lemmas.List.Sums.{prefix_len-le-length}
use Rattle.cell_units.specs.declared.limits.TheConstants.{RUN_LIMIT}
use Rattle.cell_units.specs.Record.{Mark, Record}
use Rattle.cell_line.specs.declared.element.Element.{Element}
use Rattle.cell_line.specs.declared.lines.Run.{Run}
use Rattle.plain_rows.specs.Rows.{line_elements}
use Rattle.plain_rows.proofs.SpotSizes.{few-lines}
use Rattle.wrap_workers.specs.Jobs.{IsLawful, IsRunIn, JobParts}
use Rattle.display_sheet.proofs.ElementLines.{elements_long}
use Rattle.display_map.specs.Displays.{IsNextRun, KeepsShortDisplay, first_flag}
use Rattle.display_map.specs.Events.{Event, Sent}
use Rattle.display_map.specs.Outs.{OutParts, some_places, waiting_in}
use Rattle.display_map.specs.Replay.{History, State, appended, next_run, state_of, waits}
use Rattle.display_map.specs.Sending.{IsSent}
use Rattle.display_map.proofs.HeldSizes.{fits-lines}
use Rattle.display_map.proofs.Jobs.{next_run-none, next_run-some, same_prefix}
use Rattle.display_map.proofs.SentDisplays.{kept-sent}
use Rattle.display_map.proofs.Works.{flags-are, kept-lawful}

-- the next run has a line, and lies in the lines
some_waits : (flags : List Bool) (first : ℕ) → first ≡ first_flag flags → first < length flags → 1 ≤ prefix_len (λ w. w) (drop first flags)
some_waits [] first is lt = absurd (omega (arith, lt))
some_waits (w ∷ ws) first is lt = go (λ first is lt. some_waits ws first is lt) w refl is where
  go : ((first : ℕ) → first ≡ first_flag ws → first < length ws → 1 ≤ prefix_len (λ w. w) (drop first ws)) → (b : Bool) → w ≡ b → first ≡ cond (not b) (1 + first_flag ws) 0 → 1 ≤ prefix_len (λ w. w) (drop first (w ∷ ws))
  go later true e at =
      subst (λ (n : ℕ). 1 ≤ prefix_len (λ (w : Bool). w) (drop n (w ∷ ws))) (sym at)
      (omega (arith, ap {B = ℕ} (λ (b : Bool). cond b (1 + prefix_len (λ (w : Bool). w) ws) 0) e))
  go later false e at =
      let rest : first ≡ suc (first_flag ws) = omega (arith, at) in
      subst (λ (n : ℕ). 1 ≤ prefix_len (λ (w : Bool). w) (drop n (w ∷ ws))) (sym rest)
      (later (first_flag ws) refl (omega (arith, rest, lt)))

pub run-within : (flags : List Bool) (run : Run) → IsNextRun flags (Some run) → IsRunIn (length flags) run
run-within flags run h =
    let some = some_waits flags run.first h.0 h.1 in
    let most = prefix_len-le-length (λ (w : Bool). w) (drop run.first flags) in
    let left = length-drop run.first flags in
    (omega (arith, h.2, some), omega (arith, h.2), omega (arith, h.1, h.2, most, left))

module _ (h : History) (sheet : Record) (outs : List OutParts) (versions jobs first : ℕ) (k : KeepsShortDisplay h sheet outs versions jobs first) where
  abbrev s : State
  s = state_of h

  abbrev r : Record
  r = s.present

  -- which lines wait
  abbrev flags : List Bool
  flags = waiting_in sheet outs

  flags_are : map (waits s) r.marks ≡ flags
  flags_are = flags-are h sheet outs versions jobs first k.kept

  long : length r.marks ≡ length flags
  long = sym (length-map r.marks (waits s)) ∙ ap length flags_are

  same_first : prefix_len (λ m. not (waits s m)) r.marks ≡ first_flag flags
  same_first =
      same_prefix (λ (m : Mark). not (waits s m)) not r.marks flags 0
      (not-map r.marks ∙ ap (map not) flags_are) where
        not-map : (marks : List Mark) → map (λ m. not (waits s m)) marks ≡ map not (map (waits s) marks)
        not-map [] = refl
        not-map (m ∷ marks) = ap (λ (l : List Bool). not (waits s m) ∷ l) (not-map marks)

  pub no-run : IsNextRun flags None → next_run s ≡ None
  no-run e = next_run-none s (same_first ∙ e ∙ sym long)

  -- few enough for u32
  pub few-flags : length flags ≤ 134348801
  few-flags =
      let lawful = kept-lawful h sheet outs versions jobs first k.kept in
      omega (arith, long, few-lines r lawful (omega (arith, k.short, ap (λ (q : Record). length q.text) k.kept.sheet_is)))

  lines-long : length (line_elements r) ≡ length flags
  lines-long = elements_long r ∙ sym (kept-lawful h sheet outs versions jobs first k.kept).marked ∙ long

  module _ (run : Run) (next : IsNextRun flags (Some run)) where
    pub some-run : next_run s ≡ Some run
    some-run =
        next_run-some s run.first (same_first ∙ sym next.0) (omega (arith, long, next.1))
        ∙ ap (λ (n : ℕ). Some (record { first = run.first; count = min RUN_LIMIT n }))
        (same_prefix (waits s) (λ (w : Bool). w) r.marks flags run.first (flags_are ∙ sym (map-same flags)))
        ∙ ap (λ (n : ℕ). Some (record { first = run.first; count = n })) (sym next.2) where
          map-same : (flags : List Bool) → map (λ w. w) flags ≡ flags
          map-same [] = refl
          map-same (w ∷ ws) = ap (λ (l : List Bool). w ∷ l) (map-same ws)

    pub lawful-run : (lines : List (List Element)) (width : ℕ) → lines ≡ line_elements sheet → width ≡ sheet.width → IsLawful lines run width
    lawful-run lines width same is =
        let lawful = kept-lawful h sheet outs versions jobs first k.kept in
        let short : length r.text ≤ 67108864 = omega (arith, k.short, ap (λ (q : Record). length q.text) k.kept.sheet_is) in
        let within = run-within flags run next in
        subst (λ (es : List (List Element)). IsLawful es run width) (ap line_elements k.kept.sheet_is ∙ sym same)
        (subst (IsLawful (line_elements r) run) (ap (λ (q : Record). q.width) k.kept.sheet_is ∙ sym is)
        (fits-lines r lawful short, (within.0, within.1, omega (arith, within.2, lines-long)), lawful.entries.width))

    pub is-sent : (after : History) (job : JobParts (List (List Element))) → job.run ≡ run → job.number ≡ jobs + 1 → job.width ≡ sheet.width → job.lines ≡ line_elements sheet →
        after ≡ appended h (Sent (jobs + 1) run.first run.count ∷ []) → IsSent h after job
    is-sent after job same number width lines event = record {
      run_is = some-run ∙ ap (λ (r : Run). Some r) (sym same);
      number_is = number ∙ ap (λ (n : ℕ). n + 1) (sym k.kept.jobs_are);
      width_is = width ∙ ap (λ (q : Record). q.width) (sym k.kept.sheet_is);
      lines_are = lines ∙ ap line_elements (sym k.kept.sheet_is);
      event_is = event ∙ (λ i. appended h (Sent (sym number i) (sym same i).first (sym same i).count ∷ []));
    }

    pub kept-taken : (events : List Event) (outs' : List OutParts) (width : ℕ) → width ≡ sheet.width →
        events ≡ h.events ++ Sent (jobs + 1) run.first run.count ∷ [] →
        outs' ≡ outs ++ record { number = jobs + 1; width = width; lines = some_places run.first run.count } ∷ [] →
        KeepsShortDisplay (record { opening = h.opening; events = events }) sheet outs' versions (jobs + 1) (run.first + run.count)
    kept-taken events outs' width is pushed added =
        let same : width ≡ r.width = is ∙ ap (λ (q : Record). q.width) (sym k.kept.sheet_is) in
        let within = run-within flags run next in
        subst (λ (es : List Event). KeepsShortDisplay (record { opening = h.opening; events = es }) sheet outs' versions (jobs + 1) (run.first + run.count)) (sym pushed)
        (subst (λ (os : List OutParts). KeepsShortDisplay (appended h (Sent (jobs + 1) run.first run.count ∷ [])) sheet os versions (jobs + 1) (run.first + run.count))
        (sym (added ∙ (λ i. outs ++ record { number = jobs + 1; width = same i; lines = some_places run.first run.count } ∷ [])))
        (record {
          kept = kept-sent h sheet outs versions jobs first k.kept (jobs + 1) run.first run.count refl within.2 next.3;
          short = k.short;
        }))
