-- Over the events of a history a line came from the one of an earlier record that has its stamp.
use Rattle.std.proofs.Common.{◌≡◌, ℕ, ◌+◌, ◌-◌, ◌<◌, ◌≤◌, ◌↔◌, eqb, cond, Bool, true, false, List, [], ◌∷◌, ◌++◌, length, take, drop, get_or, refl, sym, ap, subst, ◌∙◌, inl, inr, arith, length-append, length-drop}
use Rattle.std.specs.Prelude.{Option, Some, None, option_and_then, slice_get}
use Rattle.std.specs.List.{range_with_len}
use Rattle.std.proofs.lemmas.Bool.{cases_lt}
use Rattle.std.proofs.lemmas.List.{length-map, length-take-le, get_or_append_left, get_or-append_right, get_or-take, get_or-drop}
use Rattle.std.proofs.lemmas.List.FromFn.{get_or-range_with_len, length-range_with_len}
use Rattle.std.proofs.lemmas.Option.{get_or_from_slice_get, none-some, option_and_then_some, same_Some, slice_get-get_or, slice_get_within}
use Rattle.cell_units.specs.Text.{IsText}
use Rattle.cell_units.specs.Record.{Record}
use Rattle.cell_units.specs.Operation.{Operation, operated}
use Rattle.cell_units.specs.Touched.{one_run, touched}
use Rattle.cell_units.specs.Lawful.{IsAllowed, IsLawful}
use Rattle.cell_units.proofs.OperatedLines.{keeps_lines}
use Rattle.edit_patch.specs.declared.edit.Edit.{Edit}
use Rattle.edit_patch.specs.Came.{Came, origin_of}
use Rattle.edit_patch.specs.Patch.{IsComposed, IsPatch}
use Rattle.edit_patch.proofs.Composition.{composable}
use Rattle.display_sheet.specs.LineStep.{flags_after, flags_before, line_step}
use Rattle.display_sheet.proofs.StepLaws.{length-before, length-run}
use Rattle.display_sheet.proofs.StepRuns.{stepped_run}
use Rattle.display_map.specs.Events.{Event, Line, Did, Sent, Landed, Published}
use Rattle.display_map.specs.Identity.{stamps_in}
use Rattle.display_map.specs.LawfulStates.{EventFits, EventsFit}
use Rattle.display_map.specs.LinePatches.{CameByStamp, IsLinePatch, IsPatchOf, IsPatchOver}
use Rattle.display_map.specs.Replay.{SentJob, State, begun, happens, job_numbered, landed_on, replayed, wrapped_at}
use Rattle.display_map.proofs.Identity.{one_place}
use Rattle.display_map.proofs.LawfulReplays.{lawful-happens, lawful-replayed}
use Rattle.display_map.proofs.LinePatches.{Stays, kept-stays, some-patch, stays-kept}
use Rattle.display_map.proofs.Outstanding.{fits-behind, fits-front, tied-later}
use Rattle.display_map.proofs.Replays.{replayed-append}
use Rattle.display_map.proofs.Stamps.{AreStamps, stamps, stamps-replaced, stamps-wrapped_at}

-- a line that came from another has its stamp, and a new line has one that wasn't given yet
pub record IsCarried (patch : List Edit) (S : List ℕ) (next : ℕ) (S' : List ℕ) (next' : ℕ) : Type 0 where
  pub came : (i j : ℕ) → i < length S' → Came patch i j → (j < length S) × (get_or S' i 0 ≡ get_or S j 0)
  pub new : (i : ℕ) → i < length S' → origin_of patch i ≡ None → next ≤ get_or S' i 0
  pub rises : next ≤ next'

-- where some lines make place for others with fresh stamps
module _ (S : List ℕ) (next f n n' k : ℕ) (long : length S ≡ f + (n + k)) where
  abbrev S' : List ℕ
  S' = take f S ++ (range_with_len next n' ++ drop (f + n) S)

  above_long : length (take f S) ≡ f
  above_long = length-take-le f S (omega (arith, long))

  fresh_long : length (range_with_len next n') ≡ n'
  fresh_long = length-range_with_len next n'

  all_long : length S' ≡ f + (n' + k)
  all_long =
      omega (
        arith,
        length-append (take f S) (range_with_len next n' ++ drop (f + n) S),
        length-append (range_with_len next n') (drop (f + n) S),
        above_long,
        fresh_long,
        length-drop (f + n) S,
        long,
      )

  stays-stamp : (i j : ℕ) → i < length S' → Stays f n n' i j → (j < length S) × (get_or S' i 0 ≡ get_or S j 0)
  stays-stamp i j lt s = elim s [
    | inl a ↦ (
      omega (arith, a.0, a.1, long),
      get_or_append_left (take f S) (range_with_len next n' ++ drop (f + n) S) 0 i (omega (arith, above_long, a.0))
          ∙ get_or-take f S i 0 a.0
          ∙ ap (λ (m : ℕ). get_or S m 0) (sym a.1),
    )
    | inr b ↦
        let at : f + n + (i - f - n') ≡ j = omega (arith, b.0, b.1) in (
          omega (arith, b.0, b.1, lt, all_long, long),
          get_or-append_right (take f S) (range_with_len next n' ++ drop (f + n) S) f i 0 above_long (omega (arith, b.0))
              ∙ get_or-append_right (range_with_len next n') (drop (f + n) S) n' (i - f) 0 fresh_long (omega (arith, b.0))
              ∙ get_or-drop (f + n) S (i - f - n') 0
              ∙ ap (λ (m : ℕ). get_or S m 0) at,
        )
  ]

  fresh-stamp : (i : ℕ) → f ≤ i → i < f + n' → next ≤ get_or S' i 0
  fresh-stamp i le lt =
      let at : get_or S' i 0 ≡ next + (i - f) =
      get_or-append_right (take f S) (range_with_len next n' ++ drop (f + n) S) f i 0 above_long le
      ∙ get_or_append_left (range_with_len next n') (drop (f + n) S) 0 (i - f) (omega (arith, fresh_long, le, lt))
      ∙ get_or-range_with_len next n' (i - f) 0 (omega (arith, le, lt)) in
      omega (arith, at)

-- the stamps after an operation, where it touches one run of lines
step-stamps : (operation : Operation) (r : Record) (f n n' k : ℕ) → flags_before operation r ≡ one_run f n k → flags_after operation r (operated operation r) ≡ one_run f n' k →
    length r.marks ≡ f + (n + k) →
    ◌≡◌ {A = List ℕ} (stamps (line_step operation r).marks) (take f (stamps r.marks) ++ (range_with_len r.next_stamp n' ++ drop (f + n) (stamps r.marks)))
    × ◌≡◌ {A = ℕ} (line_step operation r).next_stamp (r.next_stamp + n')
unfolding line_step
step-stamps operation r f n n' k before_are after_are marked =
    let step = stepped_run operation r (operated operation r) f n n' k before_are after_are marked in
    (ap (λ (q : Record). stamps q.marks) step ∙ stamps-replaced r.marks r.next_stamp f (f + n) n', ap (λ (q : Record). q.next_stamp) step)

module _ (operation : Operation) (r : Record) (is : IsLawful r) (patch : List Edit) (p : IsLinePatch operation r patch) (f n n' k : ℕ)
    (before_are : flags_before operation r ≡ one_run f n k) (after_are : flags_after operation r (operated operation r) ≡ one_run f n' k) where
  marked : length r.marks ≡ f + (n + k)
  marked = is.marked ∙ sym (length-before (touched operation r) r) ∙ ap length before_are ∙ length-run f n k

  long : length (stamps r.marks) ≡ f + (n + k)
  long = length-map r.marks (λ m. m.stamp) ∙ marked

  abbrev now : List ℕ
  now = take f (stamps r.marks) ++ (range_with_len r.next_stamp n' ++ drop (f + n) (stamps r.marks))

  whole : length now ≡ f + (n' + k)
  whole = all_long (stamps r.marks) r.next_stamp f n n' k long

  flags : length (flags_after operation r (operated operation r)) ≡ f + (n' + k)
  flags = ap length after_are ∙ length-run f n' k

  stays : (i j : ℕ) → i < length now → Came patch i j → Stays f n n' i j
  stays i j lt c = kept-stays operation r f n n' k before_are after_are i j ((p.came i j (omega (arith, lt, whole, flags))).0 c)

  came : (i j : ℕ) → i < length now → Stays f n n' i j → Came patch i j
  came i j lt s = (p.came i j (omega (arith, lt, whole, flags))).1 (stays-kept operation r f n n' k before_are after_are i j (omega (arith, lt, whole)) s)

  new : (i : ℕ) → i < length now → origin_of patch i ≡ None → r.next_stamp ≤ get_or now i 0
  new i lt e = elim (cases_lt i f) [
    | inl above ↦ absurd (none-some i (sym e ∙ came i i lt (inl (above, refl))))
    | inr le ↦ elim (cases_lt i (f + n')) [
      | inl within ↦ fresh-stamp (stamps r.marks) r.next_stamp f n n' k long i le within
      | inr past ↦ absurd (none-some (i - n' + n) (sym e ∙ came i (i - n' + n) lt (inr (past, omega (arith, past)))))
    ]
  ]

  carried-run : IsCarried patch (stamps r.marks) r.next_stamp (stamps (line_step operation r).marks) (line_step operation r).next_stamp
  carried-run =
      let S = stamps r.marks in
      let step = step-stamps operation r f n n' k before_are after_are marked in
      subst (λ (l : List ℕ). IsCarried patch S r.next_stamp l (line_step operation r).next_stamp) (sym step.0)
      (subst (λ (m : ℕ). IsCarried patch S r.next_stamp now m) (sym step.1) (record {
        came = λ i j lt c. stays-stamp S r.next_stamp f n n' k long i j lt (stays i j lt c);
        new = new;
        rises = omega arith;
      }))

pub carried-step : (operation : Operation) (r : Record) → IsLawful r → IsAllowed operation r → (patch : List Edit) → IsLinePatch operation r patch →
    IsCarried patch (stamps r.marks) r.next_stamp (stamps (line_step operation r).marks) (line_step operation r).next_stamp
carried-step operation r is allowed patch p =
    let k = keeps_lines r is.entries operation allowed in
    let run = k.run in
    carried-run operation r is patch p run.front run.before run.after run.back run.before_are run.after_are

-- where nothing is changed
pub carried-same : (S : List ℕ) (next : ℕ) → IsCarried [] S next S next
carried-same S next = record {
  came = λ i j lt c. let same : 0 + (i - 0) ≡ j = same_Some _ _ c in let at : i ≡ j = omega (arith, same) in (omega (arith, lt, at), ap (λ (m : ℕ). get_or S m 0) at);
  new = λ i lt e. absurd (none-some (0 + (i - 0)) (sym e));
  rises = omega arith;
}

-- one after the other
pub carried-composed : (a b c : List Edit) (S : List ℕ) (next : ℕ) (S1 : List ℕ) (next1 : ℕ) (S2 : List ℕ) (next2 : ℕ) → IsComposed a b c →
    IsCarried a S next S1 next1 → IsCarried b S1 next1 S2 next2 → IsCarried c S next S2 next2
carried-composed a b c S next S1 next1 S2 next2 both x y = record { came = came_through; new = new_through; rises = omega (arith, x.rises, y.rises) } where
  came_through : (i j : ℕ) → i < length S2 → Came c i j → (j < length S) × (get_or S2 i 0 ≡ get_or S j 0)
  came_through i j lt e =
      option_and_then_some (origin_of a) (origin_of b i) j (sym (both.came i) ∙ e)
      (λ k later earlier. let q = y.came i k lt later in let p = x.came k j q.0 earlier in (p.0, q.1 ∙ p.1))

  new_through : (i : ℕ) → i < length S2 → origin_of c i ≡ None → next ≤ get_or S2 i 0
  new_through i lt e = go (origin_of b i) refl where
    go : (o : Option ℕ) → origin_of b i ≡ o → next ≤ get_or S2 i 0
    go None is = omega (arith, x.rises, y.new i lt is)
    go (Some k) is =
        let q = y.came i k lt is in
        let first : origin_of a k ≡ None = sym (ap (option_and_then (origin_of a)) is) ∙ sym (both.came i) ∙ e in
        omega (arith, x.new k q.0 first, q.1)

-- where the earlier stamps are apart, a line came from another exactly where both have one stamp
pub by-stamp : (patch : List Edit) (S : List ℕ) (next : ℕ) (S' : List ℕ) (next' : ℕ) → AreStamps S next → IsCarried patch S next S' next' →
    (i j : ℕ) → i < length S' → Came patch i j ↔ (slice_get S' i ≡ slice_get S j)
by-stamp patch S next S' next' apart carried i j lt = (forth, back) where
  here : slice_get S' i ≡ Some (get_or S' i 0)
  here = slice_get-get_or S' i 0 lt

  forth : Came patch i j → slice_get S' i ≡ slice_get S j
  forth c = let q = carried.came i j lt c in here ∙ ap Some q.1 ∙ sym (slice_get-get_or S j 0 q.0)

  back : slice_get S' i ≡ slice_get S j → Came patch i j
  back e = go (origin_of patch i) refl where
    there : slice_get S j ≡ Some (get_or S' i 0)
    there = sym e ∙ here

    within : j < length S
    within = slice_get_within S j (get_or S' i 0) there

    same : get_or S j 0 ≡ get_or S' i 0
    same = get_or_from_slice_get S j (get_or S' i 0) 0 there

    go : (o : Option ℕ) → origin_of patch i ≡ o → Came patch i j
    go None is = absurd (omega (arith, carried.new i lt is, apart.below j 0 within, same))
    go (Some m) is =
        let q = carried.came i m lt is in
        is ∙ ap Some (one_place S m j apart.once q.0 within (sym q.1 ∙ sym same))

-- ---- over the events of a history

abbrev landed_if : Record → SentJob → Bool → Record
landed_if r job same = cond same (record r { marks = wrapped_at job.width job.stamps r.marks }) r

landed-stamps : (r : Record) (job : Option SentJob) → ◌≡◌ {A = List ℕ} (stamps (landed_on r job).marks) (stamps r.marks) × ◌≡◌ {A = ℕ} (landed_on r job).next_stamp r.next_stamp
landed-stamps r None = (refl, refl)
landed-stamps r (Some job) = go (eqb job.width r.width) where
  go : (b : Bool) → ◌≡◌ {A = List ℕ} (stamps (landed_if r job b).marks) (stamps r.marks) × ◌≡◌ {A = ℕ} (landed_if r job b).next_stamp r.next_stamp
  go false = (refl, refl)
  go true = (stamps-wrapped_at job.width job.stamps r.marks, refl)

carried-none : (patch : List Edit) (S : List ℕ) (next : ℕ) (S' : List ℕ) (next' : ℕ) → patch ≡ [] → S' ≡ S → next' ≡ next → IsCarried patch S next S' next'
carried-none patch S next S' next' none same still =
    subst (λ (es : List Edit). IsCarried es S next S' next') (sym none)
    (subst (λ (l : List ℕ). IsCarried [] S next l next') (sym same) (subst (λ (m : ℕ). IsCarried [] S next S m) (sym still) (carried-same S next)))

carried-event : (s : State) (e : Event) (patch : List Edit) → EventFits s e → IsLawful s.present → IsPatchOf s e patch →
    IsCarried patch (stamps_in s.present) s.present.next_stamp (stamps_in (happens s e).present) (happens s e).present.next_stamp
carried-event s (Line number) patch fits is p = carried-none patch (stamps_in s.present) s.present.next_stamp (stamps_in s.present) s.present.next_stamp p refl refl
carried-event s (Did op) patch fits is p = carried-step op s.present is fits patch p
carried-event s (Sent job first count) patch fits is p = carried-none patch (stamps_in s.present) s.present.next_stamp (stamps_in s.present) s.present.next_stamp p refl refl
carried-event s (Landed job) patch fits is p =
    let after = landed_on s.present (job_numbered job s.jobs) in
    let same = landed-stamps s.present (job_numbered job s.jobs) in
    carried-none patch (stamps_in s.present) s.present.next_stamp (stamps_in after) after.next_stamp p same.0 same.1
carried-event s (Published last) patch fits is p = carried-none patch (stamps_in s.present) s.present.next_stamp (stamps_in s.present) s.present.next_stamp p refl refl

carried-over : (s : State) (events : List Event) (patch : List Edit) → EventsFit s events → IsLawful s.present → IsPatchOver s events patch →
    IsCarried patch (stamps_in s.present) s.present.next_stamp (stamps_in (replayed s events).present) (replayed s events).present.next_stamp
unfolding replayed
carried-over s [] patch fits is p = carried-none patch (stamps_in s.present) s.present.next_stamp (stamps_in s.present) s.present.next_stamp p refl refl
carried-over s (e ∷ events) patch fits is p =
    let next = happens s e in
    let last = (replayed next events).present in
    carried-composed p.0 p.1 patch (stamps_in s.present) s.present.next_stamp (stamps_in next.present) next.present.next_stamp (stamps_in last) last.next_stamp p.4
    (carried-event s e p.0 fits.0 is p.2)
    (carried-over next events p.1 fits.1 (lawful-happens s e fits.0 is) p.3)

-- there is a patch, and it is one
some-event : (s : State) (e : Event) → EventFits s e → IsLawful s.present → (patch : List Edit) × IsPatchOf s e patch
some-event s (Line number) fits is = ([], refl)
some-event s (Did op) fits is = some-patch op s.present is fits
some-event s (Sent job first count) fits is = ([], refl)
some-event s (Landed job) fits is = ([], refl)
some-event s (Published last) fits is = ([], refl)

none-patch : (patch : List Edit) → patch ≡ [] → IsPatch patch
none-patch patch e = subst IsPatch (sym e) tt

event-patch : (s : State) (e : Event) (patch : List Edit) → IsPatchOf s e patch → IsPatch patch
event-patch s (Line number) patch p = none-patch patch p
event-patch s (Did op) patch p = p.normal
event-patch s (Sent job first count) patch p = none-patch patch p
event-patch s (Landed job) patch p = none-patch patch p
event-patch s (Published last) patch p = none-patch patch p

over-patch : (s : State) (events : List Event) (patch : List Edit) → IsPatchOver s events patch → IsPatch patch
over-patch s [] patch p = none-patch patch p
over-patch s (e ∷ events) patch p = let composed = p.4 in composed.normal

some-over : (s : State) (events : List Event) → EventsFit s events → IsLawful s.present → (patch : List Edit) × IsPatchOver s events patch
some-over s [] fits is = ([], refl)
some-over s (e ∷ events) fits is =
    let a = some-event s e fits.0 is in
    let b = some-over (happens s e) events fits.1 (lawful-happens s e fits.0 is) in
    let c = composable a.0 b.0 (event-patch s e a.0 a.1) (over-patch (happens s e) events b.0 b.1) in
    (c.0, (a.0, b.0, a.1, b.1, c.1))

-- ---- of two records of one history

front : (text : List ℕ) (before after : List Event) → EventsFit (begun text) (before ++ after) → EventsFit (begun text) before
front text before after fits = fits-front (begun text) before after fits

pub some-line_patch : (text : List ℕ) (before after : List Event) → IsText text → EventsFit (begun text) (before ++ after) →
    (patch : List Edit) × IsPatchOver (replayed (begun text) before) after patch
some-line_patch text before after is fits =
    some-over (replayed (begun text) before) after (fits-behind (begun text) before after fits) (lawful-replayed text before is (front text before after fits))

pub came-by_stamp : (text : List ℕ) (before after : List Event) (patch : List Edit) → IsText text → EventsFit (begun text) (before ++ after) →
    IsPatchOver (replayed (begun text) before) after patch →
    CameByStamp patch (replayed (begun text) before).present (replayed (begun text) (before ++ after)).present
came-by_stamp text before after patch is fits p =
    let s = replayed (begun text) before in
    let last = (replayed s after).present in
    let apart = (tied-later text [] before is (front text before after fits)).stamped in
    let carried = carried-over s after patch (fits-behind (begun text) before after fits) (lawful-replayed text before is (front text before after fits)) p in
    subst (λ (t : State). CameByStamp patch s.present t.present) (sym (replayed-append (begun text) before after))
    (λ i j lt. by-stamp patch (stamps_in s.present) s.present.next_stamp (stamps_in last) last.next_stamp apart carried i j (omega (arith, lt, length-map last.marks (λ m. m.stamp))))
