-- Histories in which nothing was sent since the last line, and those in which jobs landed first.
use Rattle.std.proofs.Common.{◌≡◌, ℕ, zero, suc, Bool, true, false, List, [], ◌∷◌, ◌++◌, map, Some, refl, sym, ap, ◌∙◌, subst, append_assoc, true≢false}
use Rattle.std.specs.Prelude.{◌||◌}
use Rattle.std.specs.List.{list_any}
use Rattle.std.proofs.lemmas.List.{append-nil}
use Rattle.cell_units.specs.Operation.{Operation}
use Rattle.display_map.specs.Events.{Event, Line, Did, Sent, Published}
use Rattle.display_map.specs.Replay.{History, present_of, is_settled}
use Rattle.live_display.specs.Beside.{GoesWithout, is_any_landing, is_send}
use Rattle.script_runner.specs.Legal.{LandsFirst, is_line}
use Rattle.script_runner.specs.Going.{IsUnsent, IsPrepared, HasPrepared}
use Rattle.script_runner.proofs.Snoc.{any-snoc, or-left, or-right}

or-true : (a b : Bool) → a ≡ true → (a || b) ≡ true
or-true a b e = ap (λ a. a || b) e

true-or : (a b : Bool) → b ≡ true → (a || b) ≡ true
true-or true b e = refl
true-or false b e = e

or-false : (a b : Bool) → a ≡ false → b ≡ false → (a || b) ≡ false
or-false a b p q = ap (λ a. a || b) p ∙ q

no-send : (e : Event) (job first count : ℕ) → Some e ≡ Some (Sent job first count) → is_send e ≡ false → true ≡ false
no-send e job first count at apart = let same : e ≡ Sent job first count = cc in sym (ap is_send same) ∙ apart

-- ---- one event more

pub unsent-line : (past : List Event) (number : ℕ) → IsUnsent (past ++ Line number ∷ [])
unsent-line [] number zero job first count at = cc
unsent-line [] number (suc k) job first count at = cc
unsent-line (e ∷ past) number zero job first count at =
    any-snoc is_line (e ∷ past) (Line number) ∙ true-or (list_any is_line (e ∷ past)) true refl
unsent-line (e ∷ past) number (suc k) job first count at = unsent-line past number k job first count at

unsent-more : (past : List Event) (e : Event) → is_send e ≡ false → IsUnsent past → IsUnsent (past ++ e ∷ [])
unsent-more [] e apart unsent zero job first count at = absurd (true≢false (no-send e job first count at apart))
unsent-more [] e apart unsent (suc k) job first count at = cc
unsent-more (x ∷ past) e apart unsent zero job first count at =
    any-snoc is_line (x ∷ past) e ∙ or-true (list_any is_line (x ∷ past)) (is_line e) (unsent zero job first count at)
unsent-more (x ∷ past) e apart unsent (suc k) job first count at =
    unsent-more past e apart (λ j. unsent (suc j)) k job first count at

first-more : (past : List Event) (e : Event) → is_any_landing e ≡ false → LandsFirst past → LandsFirst (past ++ e ∷ [])
first-more [] e apart lands zero job first count at calm = or-false (is_any_landing e) false apart refl
first-more [] e apart lands (suc k) job first count at calm = cc
first-more (x ∷ past) e apart lands zero job first count at calm =
    any-snoc is_any_landing (x ∷ past) e
    ∙ or-false (list_any is_any_landing (x ∷ past)) (is_any_landing e)
    (lands zero job first count at (or-left (list_any is_line (x ∷ past)) (is_line e) (sym (any-snoc is_line (x ∷ past) e) ∙ calm))) apart
first-more (x ∷ past) e apart lands (suc k) job first count at calm =
    first-more past e apart (λ j. lands (suc j)) k job first count at calm

-- ---- events more

pub unsent-events : (past more : List Event) → list_any is_send more ≡ false → IsUnsent past → IsUnsent (past ++ more)
unsent-events past [] none unsent = let P : List Event → Type 0 = λ l. IsUnsent l in subst P (sym (append-nil past)) unsent
unsent-events past (e ∷ more) none unsent =
    let P : List Event → Type 0 = λ l. IsUnsent l in
    subst P (append_assoc past (e ∷ []) more)
    (unsent-events (past ++ e ∷ []) more (or-right (is_send e) (list_any is_send more) none)
    (unsent-more past e (or-left (is_send e) (list_any is_send more) none) unsent))

first-events : (past more : List Event) → list_any is_any_landing more ≡ false → LandsFirst past → LandsFirst (past ++ more)
first-events past [] none lands = let P : List Event → Type 0 = λ l. LandsFirst l in subst P (sym (append-nil past)) lands
first-events past (e ∷ more) none lands =
    let P : List Event → Type 0 = λ l. LandsFirst l in
    subst P (append_assoc past (e ∷ []) more)
    (first-events (past ++ e ∷ []) more (or-right (is_any_landing e) (list_any is_any_landing more) none)
    (first-more past e (or-left (is_any_landing e) (list_any is_any_landing more) none) lands))

pub unsent-without : (old new : History) → GoesWithout is_send old new → IsUnsent old.events → IsUnsent new.events
unsent-without old new went unsent =
    let P : History → Type 0 = λ h. IsUnsent h.events in subst P (sym went.display) (unsent-events old.events went.more went.none unsent)

-- nothing was sent in the opening
pub unsent-opened : (start : History) → start.events ≡ [] → IsUnsent (start.events ++ Published false ∷ [])
unsent-opened start none =
    let P : List Event → Type 0 = λ l. IsUnsent l in
    unsent-more start.events (Published false) refl (subst P (sym none) nothing)
  where
    nothing : IsUnsent []
    nothing k job first count at = cc

-- no operation is a send
pub dids-unsent : (ops : List Operation) (more : List Event) → list_any is_send more ≡ false → list_any is_send (map (λ op. Did op) ops ++ more) ≡ false
dids-unsent [] more none = none
dids-unsent (op ∷ ops) more none = dids-unsent ops more none

-- ---- what an owner prepared

-- where nothing was sent, what landed did so first
unsent-first : (past : List Event) → IsUnsent past → LandsFirst past
unsent-first past unsent k job first count at calm = absurd (true≢false (sym (unsent k job first count at) ∙ calm))

pub prepared-since : (settles : Bool) (old new : History) → IsUnsent old.events → HasPrepared settles old new → IsPrepared settles new
prepared-since true old new unsent settled = settled
prepared-since false old new unsent went =
    let P : History → Type 0 = λ h. LandsFirst h.events in
    subst P (sym went.display) (first-events old.events went.more went.none (unsent-first old.events unsent))

pub is-settled : (h : History) (settles : Bool) → settles ≡ true → IsPrepared settles h → is_settled (present_of h) ≡ true
is-settled h settles e it = let P : Bool → Type 0 = λ b. IsPrepared b h in subst P e it

pub lands-first : (h : History) (settles : Bool) → settles ≡ false → IsPrepared settles h → LandsFirst h.events
lands-first h settles e it = let P : Bool → Type 0 = λ b. IsPrepared b h in subst P e it
