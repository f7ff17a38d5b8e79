-- The lines and the operations of a legal history are those of its script, in order.
use Rattle.std.proofs.Common.{◌≡◌, ℕ, zero, suc, ◌+◌, ◌≤◌, ◌⊎◌, inl, inr, true, false, List, [], ◌∷◌, ◌++◌, length, map, take, Option, Some, None, option_map, refl, sym, ap, ◌∙◌, subst, arith, add-zero, append_assoc, append-nil, true≢false}
use Rattle.std.specs.Prelude.{slice_get}
use Rattle.std.specs.List.{last_or}
use Rattle.std.proofs.lemmas.Grind.{flat_map-append}
use Rattle.std.proofs.lemmas.List.{length-map, take_all, take_at}
use Rattle.std.proofs.lemmas.Option.{same_Some, slice_get-map}
use Rattle.cell_units.specs.Operation.{Operation}
use Rattle.display_map.specs.Events.{Event, Did, Landed, Line, Published, Sent}
use Rattle.edit_script.specs.Verdict.{Accepted, Refused, Verdict, ops_of}
use Rattle.script_runner.specs.Entries.{Entry}
use Rattle.script_runner.specs.Legal.{AtEach, DoesChanges, IsChanging, IsDone, IsLegal, IsLegalSoFar, TakesNextLine, lines_in, next_entry, next_verdict}
use Rattle.script_runner.proofs.LastLine.{append-same, dids, dids-more, end-changes, end-not-empty, is_change, same-end}
use Rattle.script_runner.proofs.Snoc.{lines-append}
use Rattle.display_cli.specs.RunLaws.{EndsScript, FollowsScript, asked_at, asked_from, number_at, numbers_in, operation_at, operations_asked, operations_by, operations_done}
use Rattle.display_cli.proofs.LawfulRuns.{take-snoc, whole}

-- ---- the numbers of lines

numbers-snoc : (h : List Event) (e : Event) → numbers_in (h ++ e ∷ []) ≡ numbers_in h ++ number_at e
numbers-snoc h e = flat_map-append number_at h (e ∷ []) ∙ ap (λ l. numbers_in h ++ l) (append-nil (number_at e))

module _ (entries : List (ℕ × Entry)) where
  abbrev all : List ℕ
  all = map (λ (l : ℕ × Entry). l.0) entries

  abbrev AreFirst : List Event → Type 0
  AreFirst h = numbers_in h ≡ take (lines_in h) all

  -- an event that is no line
  same-lines : (h : List Event) (e : Event) → number_at e ≡ [] → lines_in (e ∷ []) ≡ 0 → AreFirst h → AreFirst (h ++ e ∷ [])
  same-lines h e none uncounted are =
      let still : lines_in h ≡ lines_in (h ++ e ∷ []) = sym (lines-append h (e ∷ []) ∙ ap (λ n. lines_in h + n) uncounted ∙ add-zero (lines_in h)) in
      numbers-snoc h e ∙ ap (λ l. numbers_in h ++ l) none ∙ append-nil (numbers_in h) ∙ are ∙ ap (λ n. take n all) still

  one-line : (h : List Event) (number : ℕ) → option_map (λ l. l.0) (next_entry entries h) ≡ Some number → AreFirst h → AreFirst (h ++ Line number ∷ [])
  one-line h number next are =
      let more : suc (lines_in h) ≡ lines_in (h ++ Line number ∷ []) = omega (arith, lines-append h (Line number ∷ [])) in
      let at : slice_get all (lines_in h) ≡ Some number = slice_get-map (λ (l : ℕ × Entry). l.0) entries (lines_in h) ∙ next in
      numbers-snoc h (Line number) ∙ ap (λ l. l ++ number ∷ []) are ∙ sym (take-snoc all (lines_in h) number at) ∙ ap (λ n. take n all) more

  next-line : (h : List Event) (e : Event) → TakesNextLine entries h e → AreFirst h → AreFirst (h ++ e ∷ [])
  next-line h (Line number) takes are = one-line h number (takes number refl) are
  next-line h (Did op) takes are = same-lines h (Did op) refl refl are
  next-line h (Sent job first count) takes are = same-lines h (Sent job first count) refl refl are
  next-line h (Landed job) takes are = same-lines h (Landed job) refl refl are
  next-line h (Published last) takes are = same-lines h (Published last) refl refl are

  pub first-lines : (history : List Event) → AtEach (TakesNextLine entries) history → numbers_in history ≡ take (lines_in history) (map (λ l. l.0) entries)
  first-lines history takes = whole AreFirst history refl (λ k e at are. next-line (take k history) e (takes k e at) are)

-- ---- the operations

done-snoc : (h : List Event) (e : Event) → operations_done (h ++ e ∷ []) ≡ operations_done h ++ operation_at e
done-snoc h e = flat_map-append operation_at h (e ∷ []) ∙ ap (λ l. operations_done h ++ l) (append-nil (operation_at e))

module _ (text : List ℕ) (entries : List (ℕ × Entry)) where
  asked_from-snoc : (past events : List Event) (e : Event) → asked_from text entries past (events ++ e ∷ []) ≡ asked_from text entries past events ++ asked_at text entries (past ++ events) e
  asked_from-snoc past [] e = append-nil (asked_at text entries past e) ∙ ap (λ p. asked_at text entries p e) (sym (append-nil past))
  asked_from-snoc past (x ∷ events) e =
      let here = asked_at text entries past x in
      let rest = asked_from text entries (past ++ x ∷ []) events in
      ap (λ l. here ++ l) (asked_from-snoc (past ++ x ∷ []) events e)
      ∙ sym (append_assoc here rest (asked_at text entries ((past ++ x ∷ []) ++ events) e))
      ∙ ap (λ p. (here ++ rest) ++ asked_at text entries p e) (append_assoc past (x ∷ []) events)

  asked-snoc : (h : List Event) (e : Event) → operations_asked text entries (h ++ e ∷ []) ≡ operations_asked text entries h ++ asked_at text entries h e
  asked-snoc h e = asked_from-snoc [] h e

  -- a history has done what was asked for, but for the rest of a change
  pub record IsOwing (h : List Event) (rest : List Operation) : Type 0 where
    pub are : operations_done h ++ rest ≡ operations_asked text entries h
    pub next : (done ops : List Operation) (op : Operation) → IsChanging text entries h done (op ∷ ops) → op ∷ ops ≡ rest
    pub left : (rest ≡ []) ⊎ ((done : List Operation) × IsChanging text entries h done rest)

  abbrev Owes : List Event → Type 0
  Owes h = (rest : List Operation) × IsOwing h rest

  owes-none : Owes []
  owes-none = (
    [],
    record {
      are = refl;
      next = λ done ops op changing. absurd (end-not-empty changing.past (Line changing.number) (dids done) (sym changing.ends));
      left = inl refl;
    },
  )

  -- where the next event is no operation, none is left
  none-left : (h : List Event) (rest : List Operation) (e : Event) → IsOwing h rest → DoesChanges text entries h e → ((op : Operation) → e ≡ Did op → ⊥) → rest ≡ []
  none-left h [] e owing changes never = refl
  none-left h (op ∷ ops) e owing changes never = elim owing.left [
    | inl none ↦ none
    | inr it ↦ absurd (never op (changes.goes_on it.0 ops op it.1))
  ]

  done-all : (h : List Event) (rest : List Operation) → IsOwing h rest → rest ≡ [] → operations_done h ≡ operations_asked text entries h
  done-all h rest owing none =
      sym (append-nil (operations_done h)) ∙ ap (λ l. operations_done h ++ l) (sym none) ∙ owing.are

  -- the command of the line with which a history may end is that of the entry that comes next
  same-command : (h past : List Event) (o : Option Verdict) → h ≡ past → next_verdict text entries past ≡ o → operations_by (next_verdict text entries h) ≡ operations_by o
  same-command h past o same is = ap (λ l. operations_by (next_verdict text entries l)) same ∙ ap operations_by is

  owes-line : (h : List Event) (rest : List Operation) (number : ℕ) → IsOwing h rest → rest ≡ [] → Owes (h ++ Line number ∷ [])
  owes-line h rest number owing none =
      let asked = operations_by (next_verdict text entries h) in (
        asked,
        record {
          are = ap (λ l. l ++ asked) (done-snoc h (Line number) ∙ append-nil (operations_done h) ∙ done-all h rest owing none) ∙ sym (asked-snoc h (Line number));
          next = λ done ops op changing.
              let end = same-end h changing.past number changing.number [] done changing.ends in
              sym (same-command h changing.past (Some (Accepted changing.command)) end.past changing.accepted
              ∙ changing.operations
              ∙ ap (λ (l : List Operation). l ++ op ∷ ops) (sym end.done));
          left = go (next_verdict text entries h) refl;
        },
      )
    where
      go : (o : Option Verdict) → next_verdict text entries h ≡ o
          → (operations_by (next_verdict text entries h) ≡ [])
          ⊎ ((done : List Operation) × IsChanging text entries (h ++ Line number ∷ []) done (operations_by (next_verdict text entries h)))
      go None e = inl (ap operations_by e)
      go (Some (Refused refusal)) e = inl (ap operations_by e)
      go (Some (Accepted command)) e =
          inr ([], record { past = h; number = number; command = command; ends = refl; accepted = e; operations = sym (ap operations_by e) })

  owes-operation : (h : List Event) (rest done ops : List Operation) (op : Operation) → IsOwing h rest → IsChanging text entries h done (op ∷ ops) → Owes (h ++ Did op ∷ [])
  owes-operation h rest done ops op owing changing =
      let ends : h ++ Did op ∷ [] ≡ changing.past ++ (Line changing.number ∷ dids (done ++ op ∷ [])) =
      ap (λ l. l ++ Did op ∷ []) changing.ends ∙ dids-more changing.past changing.number done op in
      let parted : ops_of changing.command ≡ (done ++ op ∷ []) ++ ops = changing.operations ∙ sym (append_assoc done (op ∷ []) ops) in (
        ops,
        record {
          are = ap (λ l. l ++ ops) (done-snoc h (Did op))
              ∙ append_assoc (operations_done h) (op ∷ []) ops
              ∙ ap (λ l. operations_done h ++ l) (owing.next done ops op changing)
              ∙ owing.are
              ∙ sym (asked-snoc h (Did op) ∙ append-nil (operations_asked text entries h));
          next = λ done' ops' op' changing'.
              let end = same-end changing.past changing'.past changing.number changing'.number (done ++ op ∷ []) done' (sym ends ∙ changing'.ends) in
              let same : ops_of changing.command ≡ ops_of changing'.command =
              sym (ap operations_by changing.accepted) ∙ same-command changing.past changing'.past (Some (Accepted changing'.command)) end.past changing'.accepted in
              sym (append-same (done ++ op ∷ []) ops (op' ∷ ops')
              (sym parted ∙ same ∙ changing'.operations ∙ ap (λ (l : List Operation). l ++ op' ∷ ops') (sym end.done)));
          left = inr (
            done ++ op ∷ [],
            record {
              past = changing.past;
              number = changing.number;
              command = changing.command;
              ends = ends;
              accepted = changing.accepted;
              operations = parted;
            },
          );
        },
      )

  -- an event that is neither a line nor an operation
  owes-other : (h : List Event) (rest : List Operation) (e : Event) → operation_at e ≡ [] → asked_at text entries h e ≡ [] → is_change e ≡ false → IsOwing h rest → rest ≡ [] → Owes (h ++ e ∷ [])
  owes-other h rest e does asks other owing none = (
    [],
    record {
      are = append-nil (operations_done (h ++ e ∷ []))
          ∙ done-snoc h e
          ∙ ap (λ l. operations_done h ++ l) does
          ∙ append-nil (operations_done h)
          ∙ done-all h rest owing none
          ∙ sym (asked-snoc h e ∙ ap (λ l. operations_asked text entries h ++ l) asks ∙ append-nil (operations_asked text entries h));
      next = λ done ops op changing. absurd (true≢false (sym (end-changes h e changing.past changing.number done changing.ends) ∙ other));
      left = inl refl;
    },
  )

  owes-more : (h : List Event) (e : Event) → DoesChanges text entries h e → Owes h → Owes (h ++ e ∷ [])
  owes-more h (Line number) changes owes = owes-line h owes.0 number owes.1 (none-left h owes.0 (Line number) owes.1 changes (λ op e. absurd (cc)))
  owes-more h (Did op) changes owes = let it = changes.only op refl in owes-operation h owes.0 it.0 it.1 op owes.1 it.2
  owes-more h (Sent job first count) changes owes =
      owes-other h owes.0 (Sent job first count) refl refl refl owes.1 (none-left h owes.0 (Sent job first count) owes.1 changes (λ op e. absurd (cc)))
  owes-more h (Landed job) changes owes = owes-other h owes.0 (Landed job) refl refl refl owes.1 (none-left h owes.0 (Landed job) owes.1 changes (λ op e. absurd (cc)))
  owes-more h (Published last) changes owes =
      owes-other h owes.0 (Published last) refl refl refl owes.1 (none-left h owes.0 (Published last) owes.1 changes (λ op e. absurd (cc)))

  owing : (history : List Event) → AtEach (DoesChanges text entries) history → Owes history
  owing history changes = whole Owes history owes-none (λ k e at owes. owes-more (take k history) e (changes k e at) owes)

  pub follows-script : (workers : ℕ) (history : List Event) → IsLegalSoFar text entries workers history → FollowsScript text entries history
  follows-script workers history legal =
      let owes = owing history legal.orderly.changes in
      let it = owes.1 in
      record { lines = first-lines entries history legal.orderly.lines_in_order; operations = (owes.0, it.are) }

  -- ---- the end

  -- a history that ends with an event
  pub record EndsWith (history : List Event) (e : Event) : Type 0 where
    pub front : List Event
    pub parted : history ≡ front ++ e ∷ []

  last-of : (x : Event) (h : List Event) (e : Event) → last_or (Some x) h ≡ Some e → EndsWith (x ∷ h) e
  last-of x [] e is = record { front = []; parted = ap (λ y. y ∷ []) (same_Some x e is) }
  last-of x (y ∷ h) e is = let rest = last-of y h e is in record { front = x ∷ rest.front; parted = ap (λ l. x ∷ l) rest.parted }

  ends-with : (history : List Event) (e : Event) → last_or None history ≡ Some e → EndsWith history e
  ends-with [] e is = absurd (cc)
  ends-with (x ∷ h) e is = last-of x h e is

  at_end : (front : List Event) (e : Event) → slice_get (front ++ e ∷ []) (length front) ≡ Some e
  at_end [] e = refl
  at_end (x ∷ front) e = at_end front e

  none_past : {X : Type 0} (xs : List X) (n : ℕ) → slice_get xs n ≡ None → length xs ≤ n
  none_past [] n e = omega arith
  none_past (x ∷ xs) zero e = absurd (cc)
  none_past (x ∷ xs) (suc n) e = omega (arith, none_past xs n e)

  pub ends-script : (workers : ℕ) (history : List Event) → IsLegal text entries workers history → EndsScript text entries history
  ends-script workers history legal =
      let end = ends-with history (Published true) legal.ends in
      let front = end.front in
      let at : slice_get history (length front) ≡ Some (Published true) = ap (λ l. slice_get l (length front)) end.parted ∙ at_end front (Published true) in
      let past : take (length front) history ≡ front = ap (take (length front)) end.parted ∙ take_at front (Published true ∷ []) (length front) refl in
      let ending = legal.so_far.orderly.ending (length front) (Published true) at in
      let all_done = subst (IsDone text entries) past (ending.is_done refl) in
      let few : length entries ≤ lines_in front = none_past entries (lines_in front) all_done.lines in
      let same : lines_in history ≡ lines_in front + 0 = ap lines_in end.parted ∙ lines-append front (Published true ∷ []) in
      let owes = owing history legal.so_far.orderly.changes in
      let it = owes.1 in
      let none : owes.0 ≡ [] = elim it.left [
        | inl none ↦ none
        | inr c ↦
            let changing = c.1 in
            absurd (true≢false (sym (end-changes front (Published true) changing.past changing.number c.0 (sym end.parted ∙ changing.ends))))
      ] in
      record {
        lines = first-lines entries history legal.so_far.orderly.lines_in_order
            ∙ take_all (lines_in history) (map (λ l. l.0) entries) (omega (arith, few, same, length-map entries (λ (l : ℕ × Entry). l.0)));
        operations = done-all history owes.0 it none;
      }
