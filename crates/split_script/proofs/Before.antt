-- Histories before a line, as they grow.
use Rattle.std.proofs.Common.{◌≡◌, ℕ, suc, ◌+◌, ◌<◌, ◌≤◌, Bool, true, false, List, [], ◌∷◌, ◌++◌, length, refl, sym, ap, ◌∙◌, subst, true≢false, arith}
use Rattle.std.specs.Prelude.{◌||◌, nat_le, if◌then◌else◌}
use Rattle.std.specs.List.{list_any}
use Rattle.std.proofs.lemmas.Bool.{false_from_ne_true, le-leb, leb-true, or_from}
use Rattle.std.proofs.lemmas.List.{append-nil}
use Rattle.std.proofs.lemmas.List.Folds.{list_any-append}
use Rattle.display_map.specs.Events.{Did, Event, Landed, Line, Published, Sent}
use Rattle.display_map.specs.Replay.{History, appended}
use Rattle.script_runner.specs.Legal.{is_line}
use Rattle.split_script.specs.Met.{before_line, events_before, has_line_from, is_line_from}
use Rattle.split_script.proofs.Mets.{before-all, before-more, before-none}

-- no events, or events of which the first is the line of a number
abbrev pub StartWith : ℕ → List Event → Type 0
StartWith number [] = Unit {0}
StartWith number (e ∷ events) = e ≡ Line number

none-before : (k number : ℕ) (events : List Event) → k ≤ number → StartWith number events → events_before k events ≡ []
none-before k number [] le starts = refl
none-before k number (e ∷ events) le starts =
    ap (λ x. if is_line_from k x then [] else x ∷ events_before k events) starts
    ∙ ap (λ b. if b then [] else Line number ∷ events_before k events) (le-leb k number le)

-- what comes from a line on changes nothing of what is before it
pub before-stays : (k number : ℕ) (h : History) (more : List Event) → k ≤ number → StartWith number more
    → before_line k (appended h more) ≡ before_line k h
before-stays k number h more le starts = by (has_line_from k h.events) refl
  where
    by : (b : Bool) → has_line_from k h.events ≡ b → before_line k (appended h more) ≡ before_line k h
    by true is = before-more k h more is
    by false is =
        ap (λ l. record { opening = h.opening; events = l })
        (before-none k h.events more is ∙ (ap (λ l. h.events ++ l) (none-before k number more le starts) ∙ append-nil h.events))
        ∙ sym (before-all k h is)

-- ---- no line from a number on

line-is-line : (k : ℕ) (e : Event) → is_line e ≡ false → is_line_from k e ≡ false
line-is-line k (Line number) quiet = absurd (true≢false quiet)
line-is-line k (Did op) quiet = refl
line-is-line k (Sent job first count) quiet = refl
line-is-line k (Landed job) quiet = refl
line-is-line k (Published last) quiet = refl

or-both : (a b : Bool) → (a || b) ≡ false → (a ≡ false) × (b ≡ false)
or-both true b e = absurd (true≢false e)
or-both false b e = (refl, e)

pub quiet-from : (k : ℕ) (events : List Event) → list_any is_line events ≡ false → has_line_from k events ≡ false
quiet-from k [] quiet = refl
quiet-from k (e ∷ events) quiet =
    let parts = or-both (is_line e) (list_any is_line events) quiet in
    or_from (is_line_from k e) (has_line_from k events) (line-is-line k e parts.0) (quiet-from k events parts.1)

from-later : (k : ℕ) (e : Event) → is_line_from k e ≡ false → is_line_from (suc k) e ≡ false
from-later k (Line number) none =
    false_from_ne_true (nat_le (suc k) number)
    (λ yes. true≢false (sym (le-leb k number (omega (arith, leb-true (suc k) number yes))) ∙ none))
from-later k (Did op) none = refl
from-later k (Sent job first count) none = refl
from-later k (Landed job) none = refl
from-later k (Published last) none = refl

pub below-later : (k : ℕ) (events : List Event) → has_line_from k events ≡ false → has_line_from (suc k) events ≡ false
below-later k [] none = refl
below-later k (e ∷ events) none =
    let parts = or-both (is_line_from k e) (has_line_from k events) none in
    or_from (is_line_from (suc k) e) (has_line_from (suc k) events) (from-later k e parts.0) (below-later k events parts.1)

-- after the line of a number, with events that are no lines behind it, there is none from the next number on
pub below-line : (number : ℕ) (events more : List Event) → has_line_from number events ≡ false → list_any is_line more ≡ false
    → has_line_from (suc number) (events ++ (Line number ∷ more)) ≡ false
below-line number events more none quiet =
    list_any-append (is_line_from (suc number)) events (Line number ∷ more)
    ∙ or_from (has_line_from (suc number) events) (has_line_from (suc number) (Line number ∷ more)) (below-later number events none)
    (or_from (nat_le (suc number) number) (has_line_from (suc number) more)
    (false_from_ne_true (nat_le (suc number) number) (λ yes. omega (arith, leb-true (suc number) number yes)))
    (quiet-from (suc number) more quiet))

-- ... and that line is there
pub there-line : (number : ℕ) (events more : List Event) → has_line_from number (events ++ (Line number ∷ more)) ≡ true
there-line number events more =
    list_any-append (is_line_from number) events (Line number ∷ more)
    ∙ (ap (λ b. has_line_from number events || (b || has_line_from number more)) (le-leb number number (omega arith)) ∙ any-true (has_line_from number events))
  where
    any-true : (b : Bool) → (b || true) ≡ true
    any-true true = refl
    any-true false = refl

pub below-quiet : (k : ℕ) (events more : List Event) → has_line_from k events ≡ false → list_any is_line more ≡ false
    → has_line_from k (events ++ more) ≡ false
below-quiet k events more none quiet =
    list_any-append (is_line_from k) events more ∙ or_from (has_line_from k events) (has_line_from k more) none (quiet-from k more quiet)

-- ---- the history before the line that comes next is all of it
pub before-next : (number : ℕ) (h : History) (more : List Event) → has_line_from number h.events ≡ false
    → before_line number (appended h (Line number ∷ more)) ≡ h
before-next number h more none =
    before-stays number number h (Line number ∷ more) (omega arith) refl ∙ before-all number h none
