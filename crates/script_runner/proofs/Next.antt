-- Which event may come next in a legal history.
use Rattle.std.proofs.Common.{◌≡◌, ℕ, ◌*◌, ◌⊎◌, inl, inr, true, false, List, [], ◌∷◌, ◌++◌, Option, Some, None, refl, sym, ap, ◌∙◌, subst, append_assoc, true≢false}
use Rattle.std.specs.Option.{option_map}
use Rattle.std.specs.List.{last_or, list_any}
use Rattle.std.proofs.lemmas.List.{append-nil}
use Rattle.cell_units.specs.Operation.{Operation}
use Rattle.display_map.specs.Events.{Event}
use Rattle.display_map.specs.Events.{Line, Did, Sent, Landed, Published}
use Rattle.display_map.specs.Replay.{State, state_of, waits, is_settled, job_numbered}
use Rattle.edit_script.specs.Commands.{Command}
use Rattle.edit_script.specs.Verdict.{Accepted, ops_of}
use Rattle.script_runner.specs.Entries.{Entry}
use Rattle.live_display.specs.Beside.{outstanding}
use Rattle.script_runner.specs.Legal.{AtEach, needs_settled, Opens, TakesNextLine, IsChanging, IsChanged, DoesChanges, PublishesLandings, IsSend, Sends, LandsOnce, AnswersSettled, GoesUnsettled, KeepsBusy, IsDone, Ends, IsLegalSoFar, IsOrderlySoFar, history_of, next_entry, next_verdict, is_landed, is_line, is_end}
use Rattle.script_runner.specs.Going.{IsFree}
use Rattle.script_runner.proofs.Snoc.{AtEach-snoc, last-snoc, any-snoc, or-left, or-right}
use Rattle.script_runner.proofs.LastLine.{dids, is_change, same-end, end-changes, end-not-empty, append-same}

-- all that an orderly history asks of its next event
pub record IsNext (text : List ℕ) (entries : List (ℕ × Entry)) (workers : ℕ) (past : List Event) (e : Event) : Type 0 where
  pub opening : Opens past e
  pub lines_in_order : TakesNextLine entries past e
  pub changes : DoesChanges text entries past e
  pub landings : PublishesLandings text entries past e
  pub sends : Sends text workers past e
  pub once : LandsOnce text past e
  pub settled : AnswersSettled text entries past e
  pub busy : KeepsBusy text workers past e
  pub ending : Ends text entries past e

pub none-each : (P : List Event → Event → Type 0) → AtEach P []
none-each P k e at = cc

-- nothing happened yet
pub none-orderly : (text : List ℕ) (entries : List (ℕ × Entry)) (workers : ℕ) → IsOrderlySoFar text entries workers []
none-orderly text entries workers =
    record {
      opening = none-each Opens;
      lines_in_order = none-each (TakesNextLine entries);
      changes = none-each (DoesChanges text entries);
      landings = none-each (PublishesLandings text entries);
      sends = none-each (Sends text workers);
      once = none-each (LandsOnce text);
      settled = none-each (AnswersSettled text entries);
      busy = none-each (KeepsBusy text workers);
      ending = none-each (Ends text entries);
    }

pub orderly-snoc :
    (text : List ℕ) (entries : List (ℕ × Entry)) (workers : ℕ) (h : List Event) (e : Event)
    → IsOrderlySoFar text entries workers h → IsNext text entries workers h e → IsOrderlySoFar text entries workers (h ++ e ∷ [])
orderly-snoc text entries workers h e orderly next =
    record {
      opening = AtEach-snoc Opens h e orderly.opening next.opening;
      lines_in_order = AtEach-snoc (TakesNextLine entries) h e orderly.lines_in_order next.lines_in_order;
      changes = AtEach-snoc (DoesChanges text entries) h e orderly.changes next.changes;
      landings = AtEach-snoc (PublishesLandings text entries) h e orderly.landings next.landings;
      sends = AtEach-snoc (Sends text workers) h e orderly.sends next.sends;
      once = AtEach-snoc (LandsOnce text) h e orderly.once next.once;
      settled = AtEach-snoc (AnswersSettled text entries) h e orderly.settled next.settled;
      busy = AtEach-snoc (KeepsBusy text workers) h e orderly.busy next.busy;
      ending = AtEach-snoc (Ends text entries) h e orderly.ending next.ending;
    }

pub legal-snoc :
    (text : List ℕ) (entries : List (ℕ × Entry)) (workers : ℕ) (h : List Event) (e : Event)
    → IsLegalSoFar text entries workers h → IsNext text entries workers h e → GoesUnsettled text entries h e
    → IsLegalSoFar text entries workers (h ++ e ∷ [])
legal-snoc text entries workers h e legal next unsettled =
    record {
      orderly = orderly-snoc text entries workers h e legal.orderly next;
      unsettled = AtEach-snoc (GoesUnsettled text entries) h e legal.unsettled unsettled;
    }

-- ... where the event is no line
pub legal-quiet :
    (text : List ℕ) (entries : List (ℕ × Entry)) (workers : ℕ) (h : List Event) (e : Event)
    → IsLegalSoFar text entries workers h → IsNext text entries workers h e → is_line e ≡ false
    → IsLegalSoFar text entries workers (h ++ e ∷ [])
legal-quiet text entries workers h e legal next quiet =
    legal-snoc text entries workers h e legal next (λ number it q. absurd (true≢false (sym (ap is_line it) ∙ quiet)))

-- ... and where events are no lines no job is waited for
pub still-unsettled :
    (text : List ℕ) (entries : List (ℕ × Entry)) (h more : List Event) → list_any is_line more ≡ false
    → AtEach (GoesUnsettled text entries) h → AtEach (GoesUnsettled text entries) (h ++ more)
still-unsettled text entries h [] quiet each =
    let P : List Event → Type 0 = λ l. AtEach (GoesUnsettled text entries) l in subst P (sym (append-nil h)) each
still-unsettled text entries h (e ∷ more) quiet each =
    let P : List Event → Type 0 = λ l. AtEach (GoesUnsettled text entries) l in
    let one = or-left (is_line e) (list_any is_line more) quiet in
    subst P (append_assoc h (e ∷ []) more)
    (still-unsettled text entries (h ++ e ∷ []) more (or-right (is_line e) (list_any is_line more) quiet)
    (AtEach-snoc (GoesUnsettled text entries) h e each (λ number it q. absurd (true≢false (sym (ap is_line it) ∙ one)))))

-- behind an event that is neither a line nor an operation no change is under way
pub not-changing :
    (text : List ℕ) (entries : List (ℕ × Entry)) (h : List Event) (e : Event) → is_change e ≡ false
    → (done rest : List Operation) → IsChanging text entries (h ++ e ∷ []) done rest → ⊥
not-changing text entries h e plain done rest c =
    true≢false (sym (end-changes h e c.past c.number done c.ends) ∙ plain)

pub free-snoc :
    (text : List ℕ) (entries : List (ℕ × Entry)) (h : List Event) (e : Event)
    → is_change e ≡ false → is_landed (Some e) ≡ false → is_end e ≡ false → list_any is_end h ≡ false
    → IsFree text entries (h ++ e ∷ [])
free-snoc text entries h e plain unlanded goes_on before =
    record {
      begun = end-not-empty h e [];
      unchanging = λ done rest op c. not-changing text entries h e plain done (op ∷ rest) c;
      unchanged = λ c. not-changing text entries h e plain (c.0 ∷ c.1) [] c.2;
      unlanded = ap is_landed (last-snoc None h e) ∙ unlanded;
      goes_on = any-snoc is_end h e ∙ (cc);
    }

line-same : (a b : ℕ) → Line a ≡ Line b → a ≡ b
line-same a b e = cc

did-same : (a b : Operation) → Did a ≡ Did b → a ≡ b
did-same a b e = cc

accepted-same : (a b : Command) → Some (Accepted a) ≡ Some (Accepted b) → a ≡ b
accepted-same a b e = cc

-- the first event publishes version 0
pub next-opening : (text : List ℕ) (entries : List (ℕ × Entry)) (workers : ℕ) → IsNext text entries workers [] (Published false)
next-opening text entries workers =
    record {
      opening = λ _. refl;
      lines_in_order = λ number e. cc;
      changes = record {
        goes_on = λ done rest op c. absurd (end-not-empty c.past (Line c.number) (dids done) (sym c.ends));
        publishes = λ c. refl;
        only = λ op e. cc;
      };
      landings = record { publishes = λ e. refl; only = λ e. inl refl };
      sends = λ job first count e. cc;
      once = λ job e. cc;
      settled = λ number e q. cc;
      busy = λ number e. cc;
      ending = record { is_done = λ e. cc; none_behind = refl };
    }

-- the parts of a send, as a fact about an event
IsSendAt : ℕ → State → Event → Type 0
IsSendAt workers s (Sent job first count) = IsSend workers s job first count
IsSendAt workers s _ = Unit {0}

-- where no event is owed, a run that waits may be sent
pub next-sent :
    (text : List ℕ) (entries : List (ℕ × Entry)) (workers : ℕ) (h : List Event) (job first count : ℕ)
    → IsFree text entries h → IsSend workers (state_of (history_of text h)) job first count → IsNext text entries workers h (Sent job first count)
unfolding IsSendAt
next-sent text entries workers h job first count free send =
    record {
      opening = λ e. absurd (free.begun e);
      lines_in_order = λ number e. cc;
      changes = record {
        goes_on = λ done rest op c. absurd (free.unchanging done rest op c);
        publishes = λ c. absurd (free.unchanged c);
        only = λ op e. cc;
      };
      landings = record {
        publishes = λ e. absurd (true≢false (sym e ∙ free.unlanded));
        only = λ e. cc;
      };
      sends = λ j f c e. let P : Event → Type 0 = IsSendAt workers (state_of (history_of text h)) in subst P e send;
      once = λ j e. cc;
      settled = λ number e q. cc;
      busy = λ number e. cc;
      ending = record { is_done = λ e. cc; none_behind = free.goes_on };
    }

job-is : State → Event → Type 0
job-is s (Landed job) = option_map (λ j. j.landed) (job_numbered job s.jobs) ≡ Some false
job-is s _ = Unit {0}

-- where no event is owed, a job that is outstanding may land
pub next-landed :
    (text : List ℕ) (entries : List (ℕ × Entry)) (workers : ℕ) (h : List Event) (job : ℕ)
    → IsFree text entries h → option_map (λ j. j.landed) (job_numbered job (state_of (history_of text h)).jobs) ≡ Some false
    → IsNext text entries workers h (Landed job)
unfolding job-is
next-landed text entries workers h job free out =
    record {
      opening = λ e. absurd (free.begun e);
      lines_in_order = λ number e. cc;
      changes = record {
        goes_on = λ done rest op c. absurd (free.unchanging done rest op c);
        publishes = λ c. absurd (free.unchanged c);
        only = λ op e. cc;
      };
      landings = record {
        publishes = λ e. absurd (true≢false (sym e ∙ free.unlanded));
        only = λ e. cc;
      };
      sends = λ j f c e. cc;
      once = λ j e. let P : Event → Type 0 = job-is (state_of (history_of text h)) in subst P e out;
      settled = λ number e q. cc;
      busy = λ number e. cc;
      ending = record { is_done = λ e. cc; none_behind = free.goes_on };
    }

-- where a version is owed and no operation is, it may be published
pub next-published :
    (text : List ℕ) (entries : List (ℕ × Entry)) (workers : ℕ) (h : List Event)
    → ((done rest : List Operation) (op : Operation) → IsChanging text entries h done (op ∷ rest) → ⊥)
    → IsChanged text entries h ⊎ (is_landed (last_or None h) ≡ true) → list_any is_end h ≡ false
    → IsNext text entries workers h (Published false)
next-published text entries workers h unchanging owed goes_on =
    record {
      opening = λ e. refl;
      lines_in_order = λ number e. cc;
      changes = record {
        goes_on = λ done rest op c. absurd (unchanging done rest op c);
        publishes = λ c. refl;
        only = λ op e. cc;
      };
      landings = record { publishes = λ e. refl; only = λ e. inr owed };
      sends = λ j f c e. cc;
      once = λ j e. cc;
      settled = λ number e q. cc;
      busy = λ number e. cc;
      ending = record { is_done = λ e. cc; none_behind = goes_on };
    }

-- where no event is owed and all is done, the last version may be published
pub next-last :
    (text : List ℕ) (entries : List (ℕ × Entry)) (workers : ℕ) (h : List Event)
    → IsFree text entries h → IsDone text entries h → IsNext text entries workers h (Published true)
next-last text entries workers h free is_done =
    record {
      opening = λ e. absurd (free.begun e);
      lines_in_order = λ number e. cc;
      changes = record {
        goes_on = λ done rest op c. absurd (free.unchanging done rest op c);
        publishes = λ c. absurd (free.unchanged c);
        only = λ op e. cc;
      };
      landings = record {
        publishes = λ e. absurd (true≢false (sym e ∙ free.unlanded));
        only = λ e. cc;
      };
      sends = λ j f c e. cc;
      once = λ j e. cc;
      settled = λ number e q. cc;
      busy = λ number e. cc;
      ending = record { is_done = λ e. is_done; none_behind = free.goes_on };
    }

-- where no event is owed, the next line may be handled: all stands wrapped where it wants that, and no line of the display
-- waits or as many jobs are out as may be
pub next-line-event :
    (text : List ℕ) (entries : List (ℕ × Entry)) (workers : ℕ) (h : List Event) (number : ℕ)
    → IsFree text entries h → option_map (λ l. l.0) (next_entry entries h) ≡ Some number
    → (needs_settled (next_verdict text entries h) ≡ true → is_settled (state_of (history_of text h)).present ≡ true)
    → (list_any (waits (state_of (history_of text h))) (state_of (history_of text h)).present.marks ≡ false)
    ⊎ (outstanding (state_of (history_of text h)) ≡ 2 * workers)
    → IsNext text entries workers h (Line number)
next-line-event text entries workers h number free line settled busy =
    record {
      opening = λ e. absurd (free.begun e);
      lines_in_order = λ n e. line ∙ ap Some (line-same number n e);
      changes = record {
        goes_on = λ done rest op c. absurd (free.unchanging done rest op c);
        publishes = λ c. absurd (free.unchanged c);
        only = λ op e. cc;
      };
      landings = record {
        publishes = λ e. absurd (true≢false (sym e ∙ free.unlanded));
        only = λ e. cc;
      };
      sends = λ j f c e. cc;
      once = λ j e. cc;
      settled = λ n e q. settled q;
      busy = λ n e. busy;
      ending = record { is_done = λ e. cc; none_behind = free.goes_on };
    }

-- what is known behind the line of an accepted change and some of its operations
module _ (text : List ℕ) (entries : List (ℕ × Entry)) (past : List Event) (number : ℕ) (command : Command) where
  same-rest :
      (done done' rest rest' : List Operation)
      → next_verdict text entries past ≡ Some (Accepted command) → ops_of command ≡ done ++ rest
      → IsChanging text entries (past ++ (Line number ∷ dids done)) done' rest' → rest ≡ rest'
  same-rest done done' rest rest' accepted operations c =
      let same = same-end past c.past number c.number done done' c.ends in
      let pasts : past ≡ c.past = same.past in
      let dones : done ≡ done' = same.done in
      let verdicts : Some (Accepted command) ≡ Some (Accepted c.command) =
      sym accepted ∙ (ap (next_verdict text entries) pasts ∙ c.accepted) in
      let batches : done ++ rest ≡ done' ++ rest' = sym operations ∙ (ap ops_of (accepted-same command c.command verdicts) ∙ c.operations) in
      let aligned : done ++ rest ≡ done ++ rest' = batches ∙ ap (λ d. d ++ rest') (sym dones) in
      append-same done rest rest' aligned

  pub not-done :
      (done rest : List Operation) (op : Operation)
      → next_verdict text entries past ≡ Some (Accepted command) → ops_of command ≡ done ++ (op ∷ rest)
      → IsChanged text entries (past ++ (Line number ∷ dids done)) → ⊥
  not-done done rest op accepted operations c =
      let e : (op ∷ rest) ≡ [] = same-rest done (c.0 ∷ c.1) (op ∷ rest) [] accepted operations c.2 in cc

  pub all-done :
      (done rest : List Operation) (op : Operation) (done' : List Operation)
      → next_verdict text entries past ≡ Some (Accepted command) → ops_of command ≡ done
      → IsChanging text entries (past ++ (Line number ∷ dids done)) done' (op ∷ rest) → ⊥
  all-done done rest op done' accepted operations c =
      let e : [] ≡ (op ∷ rest) = same-rest done done' [] (op ∷ rest) accepted (operations ∙ sym (append-nil done)) c in cc

  only-op :
      (done done' rest rest' : List Operation) (op op' : Operation)
      → next_verdict text entries past ≡ Some (Accepted command) → ops_of command ≡ done ++ (op ∷ rest)
      → IsChanging text entries (past ++ (Line number ∷ dids done)) done' (op' ∷ rest') → Did op ≡ Did op'
  only-op done done' rest rest' op op' accepted operations c =
      let e : (op ∷ rest) ≡ (op' ∷ rest') = same-rest done done' (op ∷ rest) (op' ∷ rest') accepted operations c in
      let it : op ≡ op' = cc in ap (λ o. Did o) it

  unlanded-dids : (o : Option Event) (done : List Operation) → is_landed o ≡ false → is_landed (last_or o (dids done)) ≡ false
  unlanded-dids o [] e = e
  unlanded-dids o (x ∷ done) e = unlanded-dids (Some (Did x)) done refl

  unlanded-behind : (o : Option Event) (h : List Event) (done : List Operation) → is_landed (last_or o (h ++ (Line number ∷ dids done))) ≡ false
  unlanded-behind o [] done = unlanded-dids (Some (Line number)) done refl
  unlanded-behind o (x ∷ h) done = unlanded-behind (Some x) h done

  unlanded : (done : List Operation) → is_landed (last_or None (past ++ (Line number ∷ dids done))) ≡ false
  unlanded done = unlanded-behind None past done

  pub next-did :
      (workers : ℕ) (done rest : List Operation) (op : Operation)
      → next_verdict text entries past ≡ Some (Accepted command) → ops_of command ≡ done ++ (op ∷ rest)
      → list_any is_end (past ++ (Line number ∷ dids done)) ≡ false
      → IsNext text entries workers (past ++ (Line number ∷ dids done)) (Did op)
  next-did workers done rest op accepted operations goes_on =
      record {
        opening = λ e. absurd (end-not-empty past (Line number) (dids done) e);
        lines_in_order = λ n e. cc;
        changes = record {
          goes_on = λ done' rest' op' c. only-op done done' rest rest' op op' accepted operations c;
          publishes = λ c. absurd (not-done done rest op accepted operations c);
          only = λ op' e. (done, rest, record { past = past; number = number; command = command; ends = refl; accepted = accepted; operations = operations ∙ ap (λ o. done ++ (o ∷ rest)) (did-same op op' e) });
        };
        landings = record {
          publishes = λ e. absurd (true≢false (sym e ∙ unlanded done));
          only = λ e. cc;
        };
        sends = λ j f c e. cc;
        once = λ j e. cc;
        settled = λ n e q. cc;
        busy = λ n e. cc;
        ending = record { is_done = λ e. cc; none_behind = goes_on };
      }
