-- A view's history, and what is shown after further events.
use Rattle.std.proofs.Common.{◌≡◌, ℕ, ◌+◌, ◌<◌, ◌≤◌, ◌^◌, Bool, true, false, cond, List, [], ◌∷◌, length, refl, sym, ap, subst, ◌∙◌, arith}
use Rattle.cell_units.specs.Lawful.{IsAllowed}
use Rattle.cell_units.specs.Operation.{Operation}
use Rattle.cell_units.specs.Record.{Record}
use Rattle.display_sheet.specs.declared.change.Change.TheVariants as changes
use Rattle.display_sheet.specs.declared.change.Op.{Op}
use Rattle.display_sheet.specs.declared.change.Op.TheVariants as ops
use Rattle.display_sheet.specs.declared.change.Splice.{Splice}
use Rattle.display_sheet.specs.Changes.{is_operation, is_replacement, operation_of, ops_of, replacement}
use Rattle.display_sheet.specs.LineStep.{line_step}
use Rattle.display_sheet.specs.Shown.{unstamped}
use Rattle.display_map.specs.Events.{Did, Event, Landed}
use Rattle.display_map.specs.LawfulStates.{EventsFit, IsLawfulHistory}
use Rattle.display_map.specs.Replay.{History, State, appended, begun, job_numbered, landed_on, present_of, state_of}
use Rattle.display_map.specs.Splicing.{did_events}
use Rattle.display_map.proofs.DidEvents.{did-cons}
use Rattle.display_map.proofs.Replays.{state_of-one_more}
use Rattle.row_pieces.specs.declared.row_change.RowChange.{RowChange}
use Rattle.row_pieces.specs.Changed.{IsLanded, IsTrue, RowLook, covering, looks, looks_by_line, no_change, rows_of_lines}
use Rattle.view_changes.specs.Events.{LedTo, covered, lines_flagged, rewrapped, rows_landed, shown_after}
use Rattle.view_changes.specs.Operations.{rows_replaced}
use Rattle.view_changes.specs.inside.Flags.{GoFromFirstToLast}
use Rattle.view_changes.specs.inside.Reaches.{IsAfter}
use Rattle.view_changes.proofs.Batches.{fit-rest}
use Rattle.view_changes.proofs.Lengths.{length-unstamped}
use Rattle.view_changes.proofs.Marks.{as-many, is-landed, true-landed}
use Rattle.view_changes.proofs.Meaning.{true-operation}
use Rattle.view_changes.proofs.Runs.{flagged-go, go-once}
use Rattle.view_changes.proofs.Stamps.{all-unstamped, allowed-unstamped, landed-unstamped, rewrapped-unstamped, rows-unstamped, same-step}
use Rattle.view_changes.proofs.TrueNothing.{true-nothing}

pub fits-after : (h : History) (events : List Event) → IsLawfulHistory (appended h events) → EventsFit (state_of h) events
fits-after h events is = fit-rest (begun h.opening) h.events events is.fits

-- one operation on a view, of which the sheets have no stamps
module _ (h : History) (operation : Operation) (is : IsLawfulHistory h) (is' : IsLawfulHistory (appended h (Did operation ∷ []))) (before after : Record)
    (before_is : before ≡ unstamped (present_of h)) (after_is : after ≡ shown_after h (Did operation ∷ [])) where
  allowed : IsAllowed operation (present_of h)
  allowed = let fit = fits-after h (Did operation ∷ []) is' in fit.0

  pub allowed-here : IsAllowed operation before
  allowed-here = subst (IsAllowed operation) (sym before_is) (allowed-unstamped operation (present_of h) allowed)

  pub after-here : IsAfter operation before after
  after-here =
      after_is
      ∙ ap (λ (s : State). unstamped s.present) (state_of-one_more h (Did operation))
      ∙ sym (same-step operation (present_of h) is.lawful allowed)
      ∙ ap (λ (r : Record). unstamped (line_step operation r)) (sym before_is)

  module _ (then : RowChange) (replaces : then ≡ rows_replaced operation before) where
    then-here : then ≡ rows_replaced operation (present_of h)
    then-here = replaces ∙ ap (rows_replaced operation) before_is ∙ rows-unstamped operation (present_of h) is.lawful allowed

    pub true-here : IsTrue then (looks before) (looks after)
    true-here =
        let r = present_of h in
        let s = line_step operation r in
        let shown : after ≡ unstamped s = after_is ∙ ap (λ (s : State). unstamped s.present) (state_of-one_more h (Did operation)) in
        let befores : looks r ≡ looks before = sym (all-unstamped r) ∙ ap looks (sym before_is) in
        let afters : looks s ≡ looks after = sym (all-unstamped s) ∙ ap looks (sym shown) in
        subst (λ (c : RowChange). IsTrue c (looks before) (looks after)) (sym then-here)
        (subst (λ (xs : List RowLook). IsTrue (rows_replaced operation r) xs (looks after)) befores
        (subst (λ (xs : List RowLook). IsTrue (rows_replaced operation r) (looks r) xs) afters
        (true-operation operation r is.lawful allowed)))

    pub covers-one : (since rows : RowChange) → rows ≡ covering since then → rows ≡ covered since (Did operation ∷ []) (state_of h)
    covers-one since rows e = e ∙ ap (covering since) then-here

-- what led to the rows of a view led to those of its sheet
pub led-here : (h : History) (before : Record) → before ≡ unstamped (present_of h) → (since : RowChange) → LedTo since (present_of h) → LedTo since before
led-here h before is since led =
    let same : looks (present_of h) ≡ looks before = sym (all-unstamped (present_of h)) ∙ ap looks (sym is) in
    record {
      earlier = led.earlier;
      few = led.few;
      is_true = subst (λ (xs : List RowLook). IsTrue since (looks led.earlier) xs) same led.is_true;
    }

-- nothing was replaced yet
pub led-nothing : (r : Record) → length (looks r) < 2 ^ 32 → LedTo no_change r
led-nothing r few = record { earlier = r; few = few; is_true = true-nothing no_change (looks r) refl }

-- one replacement, which may be none
pub splice-none : (h : History) (x : Splice) (since : RowChange) → is_operation x ≡ false → since ≡ covered since (did_events (x ∷ [])) (state_of h)
splice-none h x since off =
    let none : did_events (x ∷ []) ≡ [] = did-cons x [] ∙ ap (λ (b : Bool). cond b (Did (replacement x) ∷ []) []) off in
    ap (λ (events : List Event). covered since events (state_of h)) (sym none)

module _ (h : History) (x : Splice) (is : IsLawfulHistory h) (is' : IsLawfulHistory (appended h (did_events (x ∷ [])))) (before after : Record)
    (before_is : before ≡ unstamped (present_of h)) (after_is : after ≡ shown_after h (did_events (x ∷ []))) where
  module _ (on : is_operation x ≡ true) where
    one : did_events (x ∷ []) ≡ Did (replacement x) ∷ []
    one = did-cons x [] ∙ ap (λ (b : Bool). cond b (Did (replacement x) ∷ []) []) on

    lawful-one : IsLawfulHistory (appended h (Did (replacement x) ∷ []))
    lawful-one = subst (λ (events : List Event). IsLawfulHistory (appended h events)) one is'

    shown-one : after ≡ shown_after h (Did (replacement x) ∷ [])
    shown-one = after_is ∙ ap (shown_after h) one

    pub splice-allowed : IsAllowed (replacement x) before
    splice-allowed = allowed-here h (replacement x) is lawful-one before after before_is shown-one

    pub splice-after : IsAfter (replacement x) before after
    splice-after = after-here h (replacement x) is lawful-one before after before_is shown-one

    module _ (then : RowChange) (replaces : then ≡ rows_replaced (replacement x) before) where
      pub splice-true : IsTrue then (looks before) (looks after)
      splice-true = true-here h (replacement x) is lawful-one before after before_is shown-one then replaces

      pub splice-covers : (since rows : RowChange) → rows ≡ covering since then → rows ≡ covered since (did_events (x ∷ [])) (state_of h)
      splice-covers since rows e =
          covers-one h (replacement x) is lawful-one before after before_is shown-one then replaces since rows e
          ∙ ap (λ (events : List Event). covered since events (state_of h)) (sym one)

-- ---- changes

pub ops-other : (op : Op) → is_replacement op ≡ false → ops_of (changes.One op) ≡ operation_of op ∷ []
ops-other (ops.Replace s) other = absurd (cc other)
ops-other (ops.Inlay id offset bias text) other = refl
ops-other (ops.Uninlay id) other = refl
ops-other (ops.Fold id start end) other = refl
ops-other (ops.Unfold id) other = refl
ops-other (ops.Block id side row lines) other = refl
ops-other (ops.Unblock id) other = refl
ops-other (ops.Tab size) other = refl
ops-other (ops.Width cells) other = refl

-- ---- a landing

module _ (h : History) (job : ℕ) (is : IsLawfulHistory h) (before after : Record) (before_is : before ≡ unstamped (present_of h)) (after_is : after ≡ shown_after h (Landed job ∷ [])) where
  abbrev landed : Record
  landed = landed_on (present_of h) (job_numbered job (state_of h).jobs)

  after-landed : after ≡ unstamped landed
  after-landed = after_is ∙ ap (λ (s : State). unstamped s.present) (state_of-one_more h (Landed job))

  pub as-many-here : length before.marks ≡ length after.marks
  as-many-here =
      ap (λ (r : Record). length r.marks) before_is
      ∙ length-unstamped (present_of h)
      ∙ as-many (present_of h) (job_numbered job (state_of h).jobs)
      ∙ sym (length-unstamped landed)
      ∙ sym (ap (λ (r : Record). length r.marks) after-landed)

  module _ (lines : RowChange) (go : GoFromFirstToLast (rewrapped before after) lines) where
    lines-go : GoFromFirstToLast (rewrapped (unstamped (present_of h)) (unstamped landed)) lines
    lines-go = subst (λ (flags : List Bool). GoFromFirstToLast flags lines) (λ i. rewrapped (before_is i) (after-landed i)) go

    there : IsLanded (present_of h) landed lines.from lines.to
    there =
        is-landed (present_of h) (job_numbered job (state_of h).jobs) lines
        (subst (λ (flags : List Bool). GoFromFirstToLast flags lines) (rewrapped-unstamped (present_of h) landed) lines-go)

    long : length before.marks ≡ length (present_of h).marks
    long = ap (λ (r : Record). length r.marks) before_is ∙ length-unstamped (present_of h)

    pub landed-within : (lines.from ≤ length before.marks) × (lines.to ≤ length before.marks)
    landed-within = (omega (arith, there.order, there.within, long), omega (arith, there.within, long))

    pub landed-came : lines.from + lines.count ≤ length after.marks
    landed-came = omega (arith, there.order, there.within, go.as_many, long, as-many-here)

    pub by-landing : (rows : RowChange) → rows ≡ rows_of_lines lines (looks_by_line before) (looks_by_line after) → rows ≡ rows_landed (present_of h) (present_of (appended h (Landed job ∷ [])))
    by-landing rows e =
        let flags = rewrapped (unstamped (present_of h)) (unstamped landed) in
        e
        ∙ (λ i. rows_of_lines (go-once flags lines (lines_flagged flags) lines-go (flagged-go flags) i) (looks_by_line (before_is i)) (looks_by_line (after-landed i)))
        ∙ landed-unstamped (present_of h) landed
        ∙ ap (λ (s : State). rows_landed (present_of h) s.present) (sym (state_of-one_more h (Landed job)))

  -- ... after another change
  module _ (then : RowChange) (rows_are : then ≡ rows_landed (present_of h) (present_of (appended h (Landed job ∷ [])))) where
    then-landed : then ≡ rows_landed (present_of h) landed
    then-landed = rows_are ∙ ap (λ (s : State). rows_landed (present_of h) s.present) (state_of-one_more h (Landed job))

    pub true-landing : IsTrue then (looks before) (looks after)
    true-landing =
        let r = present_of h in
        let befores : looks r ≡ looks before = sym (all-unstamped r) ∙ ap looks (sym before_is) in
        let afters : looks landed ≡ looks after = sym (all-unstamped landed) ∙ ap looks (sym after-landed) in
        subst (λ (c : RowChange). IsTrue c (looks before) (looks after)) (sym then-landed)
        (subst (λ (xs : List RowLook). IsTrue (rows_landed r landed) xs (looks after)) befores
        (subst (λ (xs : List RowLook). IsTrue (rows_landed r landed) (looks r) xs) afters
        (true-landed r (job_numbered job (state_of h).jobs) is.lawful.marked)))

    pub covers-landing : (since rows : RowChange) → rows ≡ covering since then → rows ≡ covered since (Landed job ∷ []) (state_of h)
    covers-landing since rows e = e ∙ ap (covering since) then-landed
