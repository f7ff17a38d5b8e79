-- A batch as it is done once more, from its last replacement to its first.
use Rattle.std.proofs.Common.{◌≡◌, ℕ, ◌-◌, ◌<◌, ◌≤◌, ◌&&◌, leb, not, zero, suc, cond, Bool, true, false, List, [], ◌∷◌, ◌++◌, length, take, drop, get_or, slice_range, refl, sym, ap, subst, ◌∙◌, inl, inr, arith, append-nil, length-append}
use Rattle.std.specs.Prelude.{Option, None, Some}
use Rattle.std.proofs.lemmas.Bool.{and_parts, cases_lt}
use Rattle.std.proofs.lemmas.Option.{none-some}
use Rattle.std.proofs.lemmas.List.{drop_all, length-take-le}
use Rattle.cell_units.specs.declared.fault.Refusal.{Refusal}
use Rattle.cell_units.specs.declared.fault.Refusal.TheVariants.{BadRange, TooLong}
use Rattle.cell_units.specs.declared.limits.TheConstants.{LAID_LIMIT, TEXT_LIMIT}
use Rattle.cell_units.specs.Lawful.{IsAllowed, IsLawful}
use Rattle.cell_units.specs.Operation.{replaced_text}
use Rattle.cell_units.specs.Record.{Record}
use Rattle.cell_units.specs.Text.{clean, is_boundary}
use Rattle.display_sheet.specs.declared.change.Splice.{Splice}
use Rattle.display_sheet.specs.declared.sheet.LineSplice.{LineSplice}
use Rattle.display_sheet.specs.Changes.{are_ranges, edit_refusal, is_operation, replacement}
use Rattle.display_sheet.specs.LineStep.{line_step}
use Rattle.display_sheet.specs.Sheets.{IsOperated}
use Rattle.display_sheet.specs.Shown.{unstamped}
use Rattle.display_map.specs.Events.{Did, Event}
use Rattle.display_map.specs.LawfulStates.{EventsFit}
use Rattle.display_map.specs.Replay.{State, happens, replayed}
use Rattle.display_map.specs.Splicing.{did_events, spliced_text}
use Rattle.display_map.proofs.Batches.{AreOrdered, are_ordered, backwards-text, is_boundary-le, ordered-le, replaced_front, replayed-batch}
use Rattle.display_map.proofs.DidEvents.{did-cons, one_before}
use Rattle.display_map.proofs.EditRefusals as refusals
use Rattle.display_map.proofs.FittingBatches.{texts}
use Rattle.display_map.proofs.LawfulReplays.{lawful-happens}
use Rattle.display_map.proofs.Replays.{replayed-cons, replayed-none}
use Rattle.row_pieces.specs.declared.row_change.RowChange.{RowChange}
use Rattle.row_pieces.specs.Changed.{IsTrue, RowLook, covering, looks}
use Rattle.view_changes.specs.Events.{LedTo, covered}
use Rattle.view_changes.specs.Operations.{rows_replaced}
use Rattle.view_changes.proofs.Meaning.{true-operation}
use Rattle.view_changes.proofs.Stamps.{all-unstamped, allowed-unstamped, rows-unstamped}
use Rattle.view_changes.proofs.TrueRows.{covered-further, true-covered}

-- ---- events that fit

pub fit-front : (s : State) (xs ys : List Event) → EventsFit s (xs ++ ys) → EventsFit s xs
fit-front s [] ys h = tt
fit-front s (x ∷ xs) ys h = (h.0, fit-front (happens s x) xs ys h.1)

pub fit-rest : (s : State) (xs ys : List Event) → EventsFit s (xs ++ ys) → EventsFit (replayed s xs) ys
fit-rest s [] ys h = subst (λ (t : State). EventsFit t ys) (sym (replayed-none s)) h
fit-rest s (x ∷ xs) ys h = subst (λ (t : State). EventsFit t ys) (sym (replayed-cons s x xs)) (fit-rest (happens s x) xs ys h.1)

fit-drop : (s : State) (splices : List Splice) (n : ℕ) → EventsFit s (did_events splices) → EventsFit s (did_events (drop n splices))
fit-drop s splices zero h = h
fit-drop s [] (suc n) h = h
fit-drop s (x ∷ xs) (suc n) h =
    fit-drop s xs n (fit-front s (did_events xs) (cond (is_operation x) (Did (replacement x) ∷ []) []) (subst (EventsFit s) (did-cons x xs) h))

lawful-all : (s : State) (events : List Event) → IsLawful s.present → EventsFit s events → IsLawful (replayed s events).present
lawful-all s [] is fits = subst (λ (t : State). IsLawful t.present) (sym (replayed-none s)) is
lawful-all s (e ∷ es) is fits =
    subst (λ (t : State). IsLawful t.present) (sym (replayed-cons s e es)) (lawful-all (happens s e) es (lawful-happens s e fits.0 is) fits.1)

pub replayed-more : (s : State) (xs : List Event) (e : Event) → replayed s (xs ++ e ∷ []) ≡ happens (replayed s xs) e
replayed-more s [] e = replayed-cons s e [] ∙ replayed-none (happens s e) ∙ ap (λ (t : State). happens t e) (sym (replayed-none s))
replayed-more s (x ∷ xs) e =
    replayed-cons s x (xs ++ e ∷ [])
    ∙ replayed-more (happens s x) xs e
    ∙ ap (λ (t : State). happens t e) (sym (replayed-cons s x xs))

-- ---- what an edit that isn't refused asks

abbrev Owed : Bool → Option Refusal → Type 0
Owed ordered rest = cond (not ordered) (Some BadRange) rest ≡ None

are-in-order : (ordered : Bool) (rest : Option Refusal) → Owed ordered rest → ordered ≡ true
are-in-order true rest h = refl
are-in-order false rest h = absurd (none-some BadRange (sym h))

module _ (r : Record) (splices : List Splice) (accepted : edit_refusal r splices ≡ None) where
  pub ranges-are : are_ranges r.text 0 splices ≡ true
  ranges-are = are-in-order (are_ranges r.text 0 splices) _ accepted

  pub short-after : length (spliced_text r.text 0 splices) ≤ TEXT_LIMIT
  short-after = elim (cases_lt TEXT_LIMIT (length (spliced_text r.text 0 splices))) [
    | inl long ↦ absurd (none-some TooLong (sym accepted ∙ refusals.refused_length r splices ranges-are long))
    | inr le ↦ le
  ]

-- ranges in order from some place on, where the text with their splices done is no longer than with all done
record AreLater (text : List ℕ) (later : List Splice) (whole : ℕ) : Type 0 where
  from : ℕ
  within : from ≤ length text
  ranges : are_ranges text from later ≡ true
  shorter : length (spliced_text text from later) ≤ whole

are_later : (text : List ℕ) (from : ℕ) (splices : List Splice) (whole n : ℕ) → from ≤ length text → are_ranges text from splices ≡ true →
    length (spliced_text text from splices) ≤ whole → AreLater text (drop n splices) whole
are_later text from splices whole zero le ok short = record { from = from; within = le; ranges = ok; shorter = short }
are_later text from [] whole (suc n) le ok short = record { from = from; within = le; ranges = ok; shorter = short }
are_later text from (s ∷ splices) whole (suc n) le ok short =
    let rest = are_ranges text s.end splices in
    let all = and_parts (leb from s.start && leb s.start s.end && is_boundary text s.start && is_boundary text s.end) rest ok in
    let three = and_parts (leb from s.start && leb s.start s.end && is_boundary text s.start) (is_boundary text s.end) all.0 in
    are_later text s.end splices whole n (is_boundary-le text s.end three.1) all.1
    (omega (
      arith,
      short,
      length-append (slice_range text from s.start) (clean s.text ++ spliced_text text s.end splices),
      length-append (clean s.text) (spliced_text text s.end splices),
    ))

-- the next splice of a batch, of which the splices from `i` on are done
module _ (s : State) (is : IsLawful s.present) (small : length s.present.text ≤ TEXT_LIMIT) (splices : List Splice) (accepted : edit_refusal s.present splices ≡ None)
    (fits : EventsFit s (did_events splices)) (i : ℕ) (x : Splice) (some : 0 < i) (le : i ≤ length splices) (is_next : x ≡ get_or splices (i - 1) x) where
  abbrev text : List ℕ
  text = s.present.text

  abbrev rest : List Splice
  rest = drop i splices

  -- the state that it finds
  abbrev pub found : State
  found = replayed s (did_events rest)

  split : drop (i - 1) splices ≡ x ∷ rest
  split = one_before splices i x some le is_next

  events-are : did_events (drop (i - 1) splices) ≡ did_events rest ++ cond (is_operation x) (Did (replacement x) ∷ []) []
  events-are = ap did_events split ∙ did-cons x rest

  fits-here : EventsFit s (did_events rest ++ cond (is_operation x) (Did (replacement x) ∷ []) [])
  fits-here = subst (EventsFit s) events-are (fit-drop s splices (i - 1) fits)

  fits-rest : EventsFit s (did_events rest)
  fits-rest = fit-front s (did_events rest) (cond (is_operation x) (Did (replacement x) ∷ []) []) fits-here

  pub lawful-found : IsLawful found.present
  lawful-found = lawful-all s (did_events rest) is fits-rest

  later : AreLater text (x ∷ rest) TEXT_LIMIT
  later =
      subst (λ (l : List Splice). AreLater text l TEXT_LIMIT) split
      (are_later text 0 splices TEXT_LIMIT (i - 1) (omega arith) (ranges-are s.present splices accepted) (short-after s.present splices accepted))

  ordered : AreOrdered (length text) later.from (x ∷ rest)
  ordered = are_ordered text later.from (x ∷ rest) later.within later.ranges

  text-found : found.present.text ≡ take x.end text ++ spliced_text text x.end rest
  text-found =
      ap (λ (t : State). t.present.text) (replayed-batch s rest)
      ∙ texts s rest
      ∙ backwards-text text x.end rest ordered.2

  -- the text after the next one has each byte from the text before the batch or from the text after it
  pub short-next : length (replaced_text found.present.text x.start x.end (clean x.text)) ≤ LAID_LIMIT
  short-next =
      let tail = spliced_text text x.end rest in
      let made : replaced_text found.present.text x.start x.end (clean x.text) ≡ take x.start text ++ (clean x.text ++ tail) =
      ap (λ (t : List ℕ). replaced_text t x.start x.end (clean x.text)) text-found
      ∙ replaced_front text tail (clean x.text) x.start x.end ordered.1 (ordered-le (length text) x.end rest ordered.2) in
      omega (
        arith,
        ap length made,
        length-append (take x.start text) (clean x.text ++ tail),
        length-take-le x.start text (omega (arith, ordered.1, ordered-le (length text) x.end rest ordered.2)),
        later.shorter,
        length-append (slice_range text later.from x.start) (clean x.text ++ tail),
        ordered.1,
        ordered-le (length text) x.end rest ordered.2,
        small,
      )

  -- where it is no operation, nothing happens
  pub passed : is_operation x ≡ false → did_events rest ≡ did_events (drop (i - 1) splices)
  passed off =
      sym (append-nil (did_events rest))
      ∙ ap (λ (b : Bool). did_events rest ++ cond b (Did (replacement x) ∷ []) []) (sym off)
      ∙ sym events-are

  module _ (on : is_operation x ≡ true) where
    events-next : did_events (drop (i - 1) splices) ≡ did_events rest ++ Did (replacement x) ∷ []
    events-next = events-are ∙ ap (λ (b : Bool). did_events rest ++ cond b (Did (replacement x) ∷ []) []) on

    fits-next : EventsFit s (did_events rest ++ Did (replacement x) ∷ [])
    fits-next = subst (EventsFit s) events-next (fit-drop s splices (i - 1) fits)

    pub allowed-next : IsAllowed (replacement x) found.present
    allowed-next = let fit = fit-rest s (did_events rest) (Did (replacement x) ∷ []) fits-next in fit.0

    abbrev then-state : State
    then-state = happens found (Did (replacement x))

    state-next : replayed s (did_events (drop (i - 1) splices)) ≡ then-state
    state-next =
        ap (replayed s) events-next
        ∙ replayed-more s (did_events rest) (Did (replacement x))

    -- the record that was found, without its stamps
    module _ (now : Record) (now_is : now ≡ unstamped found.present) where
      pub now-allowed : IsAllowed (replacement x) now
      now-allowed = subst (IsAllowed (replacement x)) (sym now_is) (allowed-unstamped (replacement x) found.present allowed-next)

      pub short-now : length (replaced_text now.text x.start x.end (clean x.text)) ≤ LAID_LIMIT
      short-now = subst (λ (q : Record). length (replaced_text q.text x.start x.end (clean x.text)) ≤ LAID_LIMIT) (sym now_is) short-next

    -- ... and the one after it
    module _ (now made : Record) (now_is : now ≡ unstamped found.present) (plain : unstamped now ≡ now) (lines : LineSplice) (done : IsOperated (replacement x) now made lines) where
      pub now-next : made ≡ unstamped (replayed s (did_events (drop (i - 1) splices))).present
      now-next = sym (done found.present (sym now_is)).1 ∙ ap (λ (t : State). unstamped t.present) (sym state-next)

      pub now-after : made ≡ unstamped (line_step (replacement x) now)
      now-after = sym (done now plain).1

      module _ (since rows then : RowChange) (covers : rows ≡ covered since (did_events rest) s) (now_lawful : IsLawful now) (replaces : then ≡ rows_replaced (replacement x) now) where
        then-found : then ≡ rows_replaced (replacement x) found.present
        then-found =
            replaces
            ∙ ap (rows_replaced (replacement x)) now_is
            ∙ rows-unstamped (replacement x) found.present lawful-found allowed-next

        pub covers-next : covering rows then ≡ covered since (did_events (drop (i - 1) splices)) s
        covers-next =
            (λ i. covering (covers i) (then-found i))
            ∙ sym (covered-further since (did_events rest) (Did (replacement x) ∷ []) s)
            ∙ ap (λ (events : List Event). covered since events s) (sym events-next)

        pub led-first : LedTo since s.present → LedTo rows now
        led-first led =
            let t = true-covered since (did_events rest) led.earlier s is fits-rest led.is_true in
            let nows : looks found.present ≡ looks now = sym (all-unstamped found.present) ∙ ap looks (sym now_is) in
            record {
              earlier = led.earlier;
              few = led.few;
              is_true = subst (λ (c : RowChange). IsTrue c (looks led.earlier) (looks now)) (sym covers)
                  (subst (λ (xs : List RowLook). IsTrue (covered since (did_events rest) s) (looks led.earlier) xs) nows t);
            }

        pub true-then : IsTrue then (looks now) (looks made)
        true-then =
            let t = true-operation (replacement x) now now_lawful (now-allowed now now_is) in
            let after : looks (line_step (replacement x) now) ≡ looks made = sym (all-unstamped (line_step (replacement x) now)) ∙ ap looks (sym now-after) in
            subst (λ (c : RowChange). IsTrue c (looks now) (looks made)) (sym replaces)
            (subst (λ (xs : List RowLook). IsTrue (rows_replaced (replacement x) now) (looks now) xs) after t)

-- ---- at first none is done

pub none-done : (s : State) (splices : List Splice) (n : ℕ) → length splices ≤ n → (now : Record) → now ≡ unstamped s.present → now ≡ unstamped (replayed s (did_events (drop n splices))).present
none-done s splices n le now is =
    is ∙ ap (λ (t : State). unstamped t.present) (sym (replayed-none s) ∙ ap (λ (l : List Splice). replayed s (did_events l)) (sym (drop_all n splices le)))

pub none-covered : (since : RowChange) (s : State) (splices : List Splice) (n : ℕ) → length splices ≤ n → since ≡ covered since (did_events (drop n splices)) s
none-covered since s splices n le = ap (λ (l : List Splice). covered since (did_events l) s) (sym (drop_all n splices le))
