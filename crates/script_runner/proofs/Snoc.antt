-- Histories with one more event.
use Rattle.std.proofs.Common.{◌≡◌, ℕ, zero, suc, ◌+◌, Bool, true, false, cond, List, [], ◌∷◌, ◌++◌, Option, Some, refl, sym, ap, ◌∙◌, subst, append_assoc, add-zero, zero-add, add_assoc, length, length-append}
use Rattle.std.specs.Prelude.{◌||◌}
use Rattle.std.specs.List.{last_or, list_any}
use Rattle.std.proofs.lemmas.List.{append-nil}
use Rattle.std.proofs.lemmas.Grind.{flat_map-append}
use Rattle.std.proofs.lemmas.List.Sums.{sum_by-append}
use Rattle.display_map.specs.Events.{Event}
use Rattle.display_map.specs.Events.{Line, Did, Sent, Landed, Published}
use Rattle.script_runner.specs.Entries.{Entry}
use Rattle.script_runner.specs.Legal.{AtEach, lines_in, is_line}
use Rattle.script_runner.specs.declared.tally.Tally.{Tally}
use Rattle.script_runner.specs.Output.{printed, answer_at, answers_from, answered, refusals, refusals_at, refusals_from, tally_of}

pub AtEach-snoc :
    (P : List Event → Event → Type 0) (h : List Event) (e : Event) → AtEach P h → P h e → AtEach P (h ++ e ∷ [])
AtEach-snoc P [] e each here zero x at = let same : e ≡ x = cc in subst (λ y. P [] y) same here
AtEach-snoc P [] e each here (suc k) x at = cc
AtEach-snoc P (y ∷ h) e each here zero x at = each zero x at
AtEach-snoc P (y ∷ h) e each here (suc k) x at =
    AtEach-snoc (λ past. P (y ∷ past)) h e (λ j z w. each (suc j) z w) here k x at

pub answers-snoc :
    (text : List ℕ) (entries : List (ℕ × Entry)) (past events : List Event) (e : Event)
    → answers_from text entries past (events ++ e ∷ []) ≡ answers_from text entries past events ++ answer_at text entries (past ++ events) e
answers-snoc text entries past [] e = append-nil (answer_at text entries past e) ∙ ap (λ p. answer_at text entries p e) (sym (append-nil past))
answers-snoc text entries past (x ∷ events) e =
    ap (λ l. answer_at text entries past x ++ l) (answers-snoc text entries (past ++ x ∷ []) events e)
    ∙ (sym (append_assoc (answer_at text entries past x) (answers_from text entries (past ++ x ∷ []) events) (answer_at text entries ((past ++ x ∷ []) ++ events) e))
    ∙ ap (λ p. (answer_at text entries past x ++ answers_from text entries (past ++ x ∷ []) events) ++ answer_at text entries p e)
    (append_assoc past (x ∷ []) events))

pub answered-snoc :
    (text : List ℕ) (entries : List (ℕ × Entry)) (h : List Event) (e : Event)
    → answered text entries (h ++ e ∷ []) ≡ answered text entries h ++ printed (answer_at text entries h e)
answered-snoc text entries h e =
    ap printed (answers-snoc text entries [] h e)
    ∙ flat_map-append _ (answers_from text entries [] h) (answer_at text entries h e)

or-assoc : (a b c : Bool) → (a || (b || c)) ≡ ((a || b) || c)
or-assoc true b c = refl
or-assoc false b c = refl

or-none : (a : Bool) → (a || false) ≡ a
or-none true = refl
or-none false = refl

pub refusals-snoc :
    (text : List ℕ) (entries : List (ℕ × Entry)) (past events : List Event) (e : Event)
    → refusals_from text entries past (events ++ e ∷ [])
    ≡ refusals_from text entries past events + refusals_at text entries (past ++ events) e
refusals-snoc text entries past [] e =
    add-zero (refusals_at text entries past e)
    ∙ (sym (zero-add (refusals_at text entries past e)) ∙ ap (λ p. 0 + refusals_at text entries p e) (sym (append-nil past)))
refusals-snoc text entries past (x ∷ events) e =
    ap (λ n. refusals_at text entries past x + n) (refusals-snoc text entries (past ++ x ∷ []) events e)
    ∙ (sym (add_assoc (refusals_at text entries past x) (refusals_from text entries (past ++ x ∷ []) events) (refusals_at text entries ((past ++ x ∷ []) ++ events) e))
    ∙ ap (λ p. (refusals_at text entries past x + refusals_from text entries (past ++ x ∷ []) events) + refusals_at text entries p e)
    (append_assoc past (x ∷ []) events))

pub lines-append : (xs ys : List Event) → lines_in (xs ++ ys) ≡ lines_in xs + lines_in ys
lines-append xs ys = sum_by-append (λ e. cond (is_line e) 1 0) xs ys

abbrev tally : (handled refused answers : ℕ) → Tally
tally handled refused answers = record { handled = handled; refused = refused; answers = answers }

tally-same : (a b c d e f : ℕ) → a ≡ b → c ≡ d → e ≡ f → tally a c e ≡ tally b d f
tally-same a b c d e f p q r = ap (λ n. tally n c e) p ∙ (ap (λ n. tally b n e) q ∙ ap (λ n. tally b d n) r)

-- what is counted of one more event
pub tally-snoc : (text : List ℕ) (entries : List (ℕ × Entry)) (h : List Event) (e : Event) (handled refused answers : ℕ)
    → lines_in h + lines_in (e ∷ []) ≡ handled → refusals text entries h + refusals_at text entries h e ≡ refused
    → length (answers_from text entries [] h) + length (answer_at text entries h e) ≡ answers
    → tally_of text entries (h ++ e ∷ []) ≡ record { handled = handled; refused = refused; answers = answers }
tally-snoc text entries h e handled refused answers p q r =
    tally-same (lines_in (h ++ e ∷ [])) handled (refusals text entries (h ++ e ∷ [])) refused (length (answers_from text entries [] (h ++ e ∷ []))) answers
    (lines-append h (e ∷ []) ∙ p) (refusals-snoc text entries [] h e ∙ q)
    (ap length (answers-snoc text entries [] h e) ∙ (length-append (answers_from text entries [] h) (answer_at text entries h e) ∙ r))

-- ... that is no line
tally-still : (text : List ℕ) (entries : List (ℕ × Entry)) (h : List Event) (e : Event) → lines_in (e ∷ []) ≡ 0 → refusals_at text entries h e ≡ 0
    → answer_at text entries h e ≡ [] → tally_of text entries (h ++ e ∷ []) ≡ tally_of text entries h
tally-still text entries h e p q r =
    tally-snoc text entries h e (lines_in h) (refusals text entries h) (length (answers_from text entries [] h))
    (ap (λ n. lines_in h + n) p ∙ add-zero (lines_in h)) (ap (λ n. refusals text entries h + n) q ∙ add-zero (refusals text entries h))
    (ap (λ l. length (answers_from text entries [] h) + length l) r ∙ add-zero (length (answers_from text entries [] h)))

pub last-snoc : {X : Type 0} (o : Option X) (xs : List X) (x : X) → last_or o (xs ++ x ∷ []) ≡ Some x
last-snoc o [] x = refl
last-snoc o (y ∷ ys) x = last-snoc (Some y) ys x

pub any-snoc : {X : Type 0} (p : X → Bool) (xs : List X) (x : X) → list_any p (xs ++ x ∷ []) ≡ (list_any p xs || p x)
any-snoc p [] x = or-none (p x)
any-snoc p (y ∷ ys) x = ap (λ b. p y || b) (any-snoc p ys x) ∙ or-assoc (p y) (list_any p ys) (p x)

-- events without a line among them
pub record IsQuiet (text : List ℕ) (entries : List (ℕ × Entry)) (h more : List Event) : Type 0 where
  pub answered : answered text entries (h ++ more) ≡ answered text entries h
  pub tallied : tally_of text entries (h ++ more) ≡ tally_of text entries h
  pub lines : lines_in (h ++ more) ≡ lines_in h

quiet-one : (text : List ℕ) (entries : List (ℕ × Entry)) (h : List Event) (e : Event) → is_line e ≡ false → IsQuiet text entries h (e ∷ [])
quiet-one text entries h (Line number) e = cc
quiet-one text entries h (Did op) e =
    record {
      answered = answered-snoc text entries h (Did op) ∙ append-nil (answered text entries h);
      tallied = tally-still text entries h (Did op) refl refl refl;
      lines = lines-append h (Did op ∷ []) ∙ add-zero (lines_in h);
    }
quiet-one text entries h (Sent job first count) e =
    record {
      answered = answered-snoc text entries h (Sent job first count) ∙ append-nil (answered text entries h);
      tallied = tally-still text entries h (Sent job first count) refl refl refl;
      lines = lines-append h (Sent job first count ∷ []) ∙ add-zero (lines_in h);
    }
quiet-one text entries h (Landed job) e =
    record {
      answered = answered-snoc text entries h (Landed job) ∙ append-nil (answered text entries h);
      tallied = tally-still text entries h (Landed job) refl refl refl;
      lines = lines-append h (Landed job ∷ []) ∙ add-zero (lines_in h);
    }
quiet-one text entries h (Published last) e =
    record {
      answered = answered-snoc text entries h (Published last) ∙ append-nil (answered text entries h);
      tallied = tally-still text entries h (Published last) refl refl refl;
      lines = lines-append h (Published last ∷ []) ∙ add-zero (lines_in h);
    }

pub or-left : (a b : Bool) → (a || b) ≡ false → a ≡ false
or-left true b e = e
or-left false b e = refl

pub or-right : (a b : Bool) → (a || b) ≡ false → b ≡ false
or-right true b e = cc
or-right false b e = e

pub quiet-append :
    (text : List ℕ) (entries : List (ℕ × Entry)) (h more : List Event) → list_any is_line more ≡ false → IsQuiet text entries h more
quiet-append text entries h [] e =
    record {
      answered = ap (answered text entries) (append-nil h);
      tallied = ap (tally_of text entries) (append-nil h);
      lines = ap lines_in (append-nil h);
    }
quiet-append text entries h (x ∷ more) e =
    let one = quiet-one text entries h x (or-left (is_line x) (list_any is_line more) e) in
    let rest = quiet-append text entries (h ++ x ∷ []) more (or-right (is_line x) (list_any is_line more) e) in
    let same : (h ++ x ∷ []) ++ more ≡ h ++ (x ∷ more) = append_assoc h (x ∷ []) more in
    record {
      answered = ap (answered text entries) (sym same) ∙ (rest.answered ∙ one.answered);
      tallied = ap (tally_of text entries) (sym same) ∙ (rest.tallied ∙ one.tallied);
      lines = ap lines_in (sym same) ∙ (rest.lines ∙ one.lines);
    }
