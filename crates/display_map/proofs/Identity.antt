-- Lines of one stamp have equal elements.
use Rattle.std.proofs.Common.{◌≡◌, ℕ, ◌+◌, ◌-◌, ◌<◌, ◌≤◌, eqb, zero, suc, cond, Bool, true, false, List, [], ◌∷◌, ◌++◌, length, take, drop, get_or, sym, ap, subst, ◌∙◌, inl, inr, arith, length-append, length-drop}
use Rattle.std.specs.Prelude.{Option, Some, None}
use Rattle.std.specs.List.{range_with_len}
use Rattle.std.proofs.lemmas.Bool.{cases_lt}
use Rattle.std.proofs.lemmas.List.{length-map, length-take-le, get_or_append_left, get_or-append_right, get_or-take, get_or-drop, take-append-drop}
use Rattle.std.proofs.lemmas.List.FromFn.{length-range_with_len}
use Rattle.cell_units.specs.Record.{Record, plain_marks}
use Rattle.cell_units.specs.Operation.{Operation, operated}
use Rattle.cell_units.specs.Lawful.{IsAllowed, IsLawful}
use Rattle.cell_line.specs.declared.element.Element.{Element}
use Rattle.plain_rows.specs.Rows.{line_elements}
use Rattle.display_map.specs.Events.{Event, Line, Did, Sent, Landed, Published}
use Rattle.display_map.specs.Identity.{AreSameLines}
use Rattle.display_map.specs.LawfulStates.{EventFits, EventsFit}
use Rattle.display_sheet.specs.LineSplices.{IsLineSplice}
use Rattle.display_sheet.specs.LineStep.{line_step}
use Rattle.display_map.specs.Replay.{SentJob, State, happens, job_numbered, landed_on, replayed, wrapped_at}
use Rattle.display_map.proofs.LawfulReplays.{lawful-happens}
use Rattle.display_sheet.proofs.StepLaws.{IsLawful-step}
use Rattle.display_sheet.proofs.LineSplices.{some_splice}
use Rattle.display_sheet.proofs.ElementLines.{elements_long}
use Rattle.display_map.proofs.Places.{stands}
use Rattle.display_map.proofs.Stamps.{AreStamps, AreStamps-replaced, stamps, stamps-replaced, stamps-wrapped_at, times, times-append}

-- a stamp that is there once is at one place
one_before : (S : List ℕ) (j k : ℕ) → ((v : ℕ) → times v S ≤ 1) → j < k → k < length S → get_or S j 0 ≡ get_or S k 0 → ⊥
one_before S j k once lt within e =
    let v = get_or S j 0 in
    let front = take (j + 1) S in
    let back = drop (j + 1) S in
    let first : 1 ≤ times v front = stands v front j (omega (arith, length-take-le (j + 1) S (omega (arith, lt, within)))) (get_or-take (j + 1) S j 0 (omega arith)) in
    let at : j + 1 + (k - (j + 1)) ≡ k = omega (arith, lt) in
    let second : 1 ≤ times v back =
    stands v back (k - (j + 1)) (omega (arith, length-drop (j + 1) S, lt, within)) (get_or-drop (j + 1) S (k - (j + 1)) 0 ∙ ap (λ (n : ℕ). get_or S n 0) at ∙ sym e) in
    let both : times v S ≡ times v front + times v back = ap (times v) (sym (take-append-drop (j + 1) S)) ∙ times-append v front back in
    omega (arith, once v, both, first, second)

pub one_place : (S : List ℕ) (j k : ℕ) → ((v : ℕ) → times v S ≤ 1) → j < length S → k < length S → get_or S j 0 ≡ get_or S k 0 → j ≡ k
one_place S j k once lj lk e = elim (cases_lt j k) [
  | inl lt ↦ absurd (one_before S j k once lt lk e)
  | inr le ↦ elim (cases_lt k j) [
    | inl lt ↦ absurd (one_before S k j once lt lj (sym e))
    | inr ge ↦ omega (arith, le, ge)
  ]
]

pub same-begun : (S : List ℕ) (E : List (List Element)) → ((v : ℕ) → times v S ≤ 1) → AreSameLines S E S E
same-begun S E once j k lj lk e = ap (λ (n : ℕ). get_or E n []) (one_place S j k once lj lk e)

range_at : (a n i : ℕ) → i < n → get_or (range_with_len a n) i 0 ≡ a + i
range_at a zero i lt = absurd (omega (arith, lt))
range_at a (suc n) zero lt = omega arith
range_at a (suc n) (suc i) lt = range_at (a + 1) n i (omega (arith, lt)) ∙ omega arith

-- stamps that were given stay those of their lines, over a splice
module _ (S0 : List ℕ) (E0 : List (List Element)) (S : List ℕ) (E E' : List (List Element)) (next f g n : ℕ)
    (given : (j : ℕ) → j < length S0 → get_or S0 j 0 < next) (fg : f ≤ g) (gl : g ≤ length S) (long : length S ≡ length E)
    (above : take f E' ≡ take f E) (below : drop (f + n) E' ≡ drop g E) (same : AreSameLines S0 E0 S E) where
  abbrev after : List ℕ
  after = take f S ++ (range_with_len next n ++ drop g S)

  front : length (take f S) ≡ f
  front = length-take-le f S (omega (arith, fg, gl))

  fresh : length (range_with_len next n) ≡ n
  fresh = length-range_with_len next n

  in_front : (j k : ℕ) → j < length S0 → k < f → get_or S0 j 0 ≡ get_or after k 0 → get_or E0 j [] ≡ get_or E' k []
  in_front j k lj lt e =
      let at : get_or after k 0 ≡ get_or S k 0 = get_or_append_left (take f S) (range_with_len next n ++ drop g S) 0 k (omega (arith, front, lt)) ∙ get_or-take f S k 0 lt in
      same j k lj (omega (arith, lt, fg, gl)) (e ∙ at)
      ∙ sym (get_or-take f E k [] lt)
      ∙ ap (λ (l : List (List Element)). get_or l k []) (sym above)
      ∙ get_or-take f E' k [] lt

  in_fresh : (j k : ℕ) → j < length S0 → f ≤ k → k < f + n → get_or S0 j 0 ≡ get_or after k 0 → ⊥
  in_fresh j k lj le lt e =
      let at : get_or after k 0 ≡ next + (k - f) =
      get_or-append_right (take f S) (range_with_len next n ++ drop g S) f k 0 front le
      ∙ get_or_append_left (range_with_len next n) (drop g S) 0 (k - f) (omega (arith, fresh, le, lt))
      ∙ range_at next n (k - f) (omega (arith, le, lt)) in
      omega (arith, given j lj, e, at)

  behind : (j k : ℕ) → j < length S0 → f + n ≤ k → k < length after → get_or S0 j 0 ≡ get_or after k 0 → get_or E0 j [] ≡ get_or E' k []
  behind j k lj le lt e =
      let total : length after ≡ f + (n + (length S - g)) = omega (arith, length-append (take f S) (range_with_len next n ++ drop g S), length-append (range_with_len next n) (drop g S), front, fresh, length-drop g S) in
      let rest : k - f - n ≡ k - (f + n) = omega arith in
      let at : get_or after k 0 ≡ get_or S (g + (k - (f + n))) 0 =
      get_or-append_right (take f S) (range_with_len next n ++ drop g S) f k 0 front (omega (arith, le))
      ∙ get_or-append_right (range_with_len next n) (drop g S) n (k - f) 0 fresh (omega (arith, le))
      ∙ ap (λ (i : ℕ). get_or (drop g S) i 0) rest
      ∙ get_or-drop g S (k - (f + n)) 0 in
      let back : f + n + (k - (f + n)) ≡ k = omega (arith, le) in
      same j (g + (k - (f + n))) lj (omega (arith, total, lt, gl, le)) (e ∙ at)
      ∙ sym (get_or-drop g E (k - (f + n)) [])
      ∙ ap (λ (l : List (List Element)). get_or l (k - (f + n)) []) (sym below)
      ∙ get_or-drop (f + n) E' (k - (f + n)) []
      ∙ ap (λ (i : ℕ). get_or E' i []) back

  pub same-spliced : AreSameLines S0 E0 after E'
  same-spliced j k lj lk e = elim (cases_lt k f) [
    | inl lt ↦ in_front j k lj lt e
    | inr le ↦ elim (cases_lt k (f + n)) [
      | inl lt ↦ absurd (in_fresh j k lj le lt e)
      | inr past ↦ behind j k lj past lk e
    ]
  ]

-- ---- over the events of a history

-- what holds of a later record, where lines had these stamps and elements
pub record IsTied (S0 : List ℕ) (E0 : List (List Element)) (r : Record) : Type 0 where
  pub lawful : IsLawful r
  pub stamped : AreStamps (stamps r.marks) r.next_stamp
  pub given : (j : ℕ) → j < length S0 → get_or S0 j 0 < r.next_stamp
  pub same : AreSameLines S0 E0 (stamps r.marks) (line_elements r)

module _ (S0 : List ℕ) (E0 : List (List Element)) where
  tied_did : (r : Record) (operation : Operation) → IsAllowed operation r → IsTied S0 E0 r → IsTied S0 E0 (line_step operation r)
  tied_did r operation allowed t =
      let s = some_splice r t.lawful.entries t.lawful.marked operation allowed in
      let f = s.0 in
      let g = s.1 in
      let n = s.2 in
      let splice : IsLineSplice operation r f g n = s.3 in
      let S = stamps r.marks in
      let E' = line_elements (operated operation r) in
      let marks' = take f r.marks ++ (plain_marks r.next_stamp n ++ drop g r.marks) in
      let long : length S ≡ length (line_elements r) = length-map r.marks (λ m. m.stamp) ∙ t.lawful.marked ∙ sym (elements_long r) in
      let stamps_are : stamps marks' ≡ take f S ++ (range_with_len r.next_stamp n ++ drop g S) = stamps-replaced r.marks r.next_stamp f g n in
      let after : Record = record (operated operation r) { marks = marks'; next_stamp = r.next_stamp + n } in
      let P : Record → Type 0 = λ q. AreStamps (stamps q.marks) q.next_stamp × ((j : ℕ) → j < length S0 → get_or S0 j 0 < q.next_stamp) × AreSameLines S0 E0 (stamps q.marks) (line_elements q) in
      let new : P after = (
        subst (λ (l : List ℕ). AreStamps l (r.next_stamp + n)) (sym stamps_are) (AreStamps-replaced S r.next_stamp f g n t.stamped splice.order),
        λ j lt. omega (arith, t.given j lt),
        subst (λ (l : List ℕ). AreSameLines S0 E0 l E') (sym stamps_are)
            (same-spliced S0 E0 S (line_elements r) E' r.next_stamp f g n t.given splice.order (omega (arith, splice.within, long)) long splice.above splice.below t.same),
      ) in
      let all : P (line_step operation r) = subst P (sym splice.step) new in
      record { lawful = IsLawful-step operation r t.lawful allowed; stamped = all.0; given = all.1; same = all.2 }

  tied_landed : (r : Record) (job : Option SentJob) → IsLawful (landed_on r job) → IsTied S0 E0 r → IsTied S0 E0 (landed_on r job)
  tied_landed r None is t = t
  tied_landed r (Some job) is t = go (eqb job.width r.width) is where
    new : Record
    new = record r { marks = wrapped_at job.width job.stamps r.marks }

    go : (b : Bool) → IsLawful (cond b (record r { marks = wrapped_at job.width job.stamps r.marks }) r) → IsTied S0 E0 (cond b (record r { marks = wrapped_at job.width job.stamps r.marks }) r)
    go false h = t
    go true h =
        let same = stamps-wrapped_at job.width job.stamps r.marks in
        record {
          lawful = h;
          stamped = subst (λ (l : List ℕ). AreStamps l r.next_stamp) (sym same) t.stamped;
          given = t.given;
          same = subst (λ (l : List ℕ). AreSameLines S0 E0 l (line_elements r)) (sym same) t.same;
        }

  tied_happens : (s : State) (e : Event) → EventFits s e → IsTied S0 E0 s.present → IsTied S0 E0 (happens s e).present
  tied_happens s (Line number) fits t = t
  tied_happens s (Did op) fits t = tied_did s.present op fits t
  tied_happens s (Sent job first count) fits t = t
  tied_happens s (Landed job) fits t = tied_landed s.present (job_numbered job s.jobs) (lawful-happens s (Landed job) fits t.lawful) t
  tied_happens s (Published last) fits t = t

  pub tied-replayed : (s : State) (events : List Event) → EventsFit s events → IsTied S0 E0 s.present → IsTied S0 E0 (replayed s events).present
  unfolding replayed
  tied-replayed s [] fits t = t
  tied-replayed s (e ∷ events) fits t = tied-replayed (happens s e) events fits.1 (tied_happens s e fits.0 t)
