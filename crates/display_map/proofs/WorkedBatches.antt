-- A batch as it is done, from its last splice to its first. Each is allowed where it is done, and no text between is
-- too long.
use Rattle.std.proofs.Common.{◌≡◌, ℕ, ◌-◌, ◌<◌, ◌≤◌, ◌&&◌, leb, zero, suc, cond, Bool, true, false, List, [], ◌∷◌, ◌++◌, length, map, take, drop, get_or, slice_range, sym, ap, subst, ◌∙◌, arith, append_assoc, append-nil, length-append}
use Rattle.std.specs.Str.{IsUtf8}
use Rattle.std.proofs.lemmas.Bool.{and_parts}
use Rattle.std.proofs.lemmas.List.{length-take-le}
use Rattle.cell_units.specs.declared.limits.TheConstants.{LAID_LIMIT, TEXT_LIMIT}
use Rattle.cell_units.specs.Lawful.{IsAllowed}
use Rattle.cell_units.specs.Operation.{replaced_text}
use Rattle.cell_units.specs.Record.{Record}
use Rattle.cell_units.specs.Text.{IsBoundary, clean, is_boundary}
use Rattle.display_sheet.specs.Changes.{are_ranges, batch, is_operation, replacement}
use Rattle.display_sheet.specs.declared.change.Splice.{Splice}
use Rattle.display_map.specs.Events.{Event, Did}
use Rattle.display_map.specs.Outs.{OutParts}
use Rattle.display_map.specs.Replay.{History, State, appended, present_of, replayed, state_of}
use Rattle.display_map.specs.Splicing.{did_events, spliced_text}
use Rattle.display_map.specs.Works.{KeepsWork}
use Rattle.display_map.proofs.Batches.{AreOrdered, are_ordered, backwards-text, is_boundary-le, ordered-le, replaced_front, replayed-batch}
use Rattle.display_map.proofs.DidEvents.{did-cons, one_before}
use Rattle.display_map.proofs.FittingBatches.{AreAtBoundaries, at_boundaries, boundary_before, texts}
use Rattle.display_map.proofs.Replays.{state_of-appended}
use Rattle.display_map.proofs.Works.{kept-lawful}

-- ranges in order from some place on, where the text with their splices done is no longer than with all done
record AreLater (text : List ℕ) (later : List Splice) (whole : ℕ) : Type 0 where
  from : ℕ
  within : from ≤ length text
  ranges : are_ranges text from later ≡ true
  shorter : length (spliced_text text from later) ≤ whole

are_later : (text : List ℕ) (from : ℕ) (splices : List Splice) (whole n : ℕ) → from ≤ length text → are_ranges text from splices ≡ true →
    length (spliced_text text from splices) ≤ whole → AreLater text (drop n splices) whole
are_later text from splices whole zero le ok short = record { from = from; within = le; ranges = ok; shorter = short }
are_later text from [] whole (suc n) le ok short = record { from = from; within = le; ranges = ok; shorter = short }
are_later text from (s ∷ splices) whole (suc n) le ok short =
    let rest = are_ranges text s.end splices in
    let all = and_parts (leb from s.start && leb s.start s.end && is_boundary text s.start && is_boundary text s.end) rest ok in
    let three = and_parts (leb from s.start && leb s.start s.end && is_boundary text s.start) (is_boundary text s.end) all.0 in
    are_later text s.end splices whole n (is_boundary-le text s.end three.1) all.1
    (omega (
      arith,
      short,
      length-append (slice_range text from s.start) (clean s.text ++ spliced_text text s.end splices),
      length-append (clean s.text) (spliced_text text s.end splices),
    ))

-- the next splice of a batch, of which the splices from `i` on are done
module _ (h : History) (sheet : Record) (outs : List OutParts) (versions jobs : ℕ) (k : KeepsWork h sheet outs versions jobs)
    (splices : List Splice) (ok : are_ranges sheet.text 0 splices ≡ true) (short : length sheet.text ≤ TEXT_LIMIT) (short' : length (spliced_text sheet.text 0 splices) ≤ TEXT_LIMIT)
    (i : ℕ) (x : Splice) (some : 0 < i) (le : i ≤ length splices) (is_next : x ≡ get_or splices (i - 1) x)
    (now : Record) (carried : List OutParts) (k' : KeepsWork (appended h (map Did (batch (drop i splices)))) now carried versions jobs) where
  abbrev r : Record
  r = present_of h

  abbrev text : List ℕ
  text = r.text

  abbrev rest : List Splice
  rest = drop i splices

  same : sheet.text ≡ text
  same = sym (ap (λ (q : Record). q.text) k.sheet_is)

  split : drop (i - 1) splices ≡ x ∷ rest
  split = one_before splices i x some le is_next

  later : AreLater text (x ∷ rest) TEXT_LIMIT
  later =
      subst (λ (l : List Splice). AreLater text l TEXT_LIMIT) split
      (are_later text 0 splices TEXT_LIMIT (i - 1) (omega arith) (ap (λ (t : List ℕ). are_ranges t 0 splices) (sym same) ∙ ok)
      (subst (λ (t : List ℕ). length (spliced_text t 0 splices) ≤ TEXT_LIMIT) same short'))

  ordered : AreOrdered (length text) later.from (x ∷ rest)
  ordered = are_ordered text later.from (x ∷ rest) later.within later.ranges

  boundaries : AreAtBoundaries text (x ∷ rest)
  boundaries = at_boundaries text later.from (x ∷ rest) (kept-lawful h sheet outs versions jobs 0 k).entries.source.text.0 later.ranges

  now-text : (replayed (state_of h) (map Did (batch rest))).present.text ≡ now.text
  now-text = ap (λ (s : State). s.present.text) (sym (state_of-appended h (map Did (batch rest)))) ∙ ap (λ (q : Record). q.text) k'.sheet_is

  pub allowed-next : IsUtf8 x.text → IsAllowed (replacement x) now
  allowed-next utf8 = (
    subst (λ (t : List ℕ). IsBoundary t x.start) now-text (boundary_before (state_of h) x.end x.start rest ordered.2 ordered.1 boundaries.0.0),
    subst (λ (t : List ℕ). IsBoundary t x.end) now-text (boundary_before (state_of h) x.end x.end rest ordered.2 (omega arith) boundaries.0.1),
    ordered.1,
    utf8,
  )

  now-is : now.text ≡ take x.end text ++ spliced_text text x.end rest
  now-is =
      sym now-text
      ∙ ap (λ (s : State). s.present.text) (replayed-batch (state_of h) rest)
      ∙ texts (state_of h) rest
      ∙ backwards-text text x.end rest ordered.2

  -- the text after the next one has each byte from the text before the batch or from the text after it
  pub short-next : length (replaced_text now.text x.start x.end (clean x.text)) ≤ LAID_LIMIT
  short-next =
      let tail = spliced_text text x.end rest in
      let is : replaced_text now.text x.start x.end (clean x.text) ≡ take x.start text ++ (clean x.text ++ tail) =
      ap (λ (t : List ℕ). replaced_text t x.start x.end (clean x.text)) now-is
      ∙ replaced_front text tail (clean x.text) x.start x.end ordered.1 (ordered-le (length text) x.end rest ordered.2) in
      omega (
        arith,
        ap length is,
        length-append (take x.start text) (clean x.text ++ tail),
        length-take-le x.start text (omega (arith, ordered.1, ordered-le (length text) x.end rest ordered.2)),
        later.shorter,
        length-append (slice_range text later.from x.start) (clean x.text ++ tail),
        ordered.1,
        ordered-le (length text) x.end rest ordered.2,
        short,
        ap length same,
      )

  pub history-next : is_operation x ≡ true →
      appended (appended h (map Did (batch rest))) (Did (replacement x) ∷ []) ≡ appended h (map Did (batch (drop (i - 1) splices)))
  history-next op =
      ap (λ (events : List Event). record { opening = h.opening; events = events })
      (append_assoc h.events (map Did (batch rest)) (Did (replacement x) ∷ [])
      ∙ ap (λ (events : List Event). h.events ++ events)
      (ap (λ (b : Bool). did_events rest ++ cond b (Did (replacement x) ∷ []) []) (sym op)
      ∙ sym (did-cons x rest)
      ∙ ap did_events (sym split)))

  pub history-passed : is_operation x ≡ false → appended h (map Did (batch rest)) ≡ appended h (map Did (batch (drop (i - 1) splices)))
  history-passed op =
      ap (λ (events : List Event). appended h events)
      (sym (append-nil (did_events rest))
      ∙ ap (λ (b : Bool). did_events rest ++ cond b (Did (replacement x) ∷ []) []) (sym op)
      ∙ sym (did-cons x rest)
      ∙ ap did_events (sym split))
