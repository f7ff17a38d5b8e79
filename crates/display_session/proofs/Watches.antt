-- What is kept for a host that asks for the changed rows stays right over events.
use Rattle.std.proofs.Common.{◌≡◌, ℕ, ◌<◌, ◌≤◌, ◌^◌, ◌&&◌, ◌==◌, true, List, [], ◌∷◌, length, take, drop, Option, Some, None, refl, sym, ap, subst, ◌∙◌, arith, leb, ltb, length-append}
use Rattle.std.proofs.lemmas.Bool.{and_parts, eq-eqb, eqb-true, le-leb, leb-true, lt-ltb, ltb-true}
use Rattle.std.proofs.lemmas.List.{drop-append-le, take-append-drop, take-append-le}
use Rattle.std.specs.Prelude.{IfSome}
use Rattle.cell_units.specs.Lawful.{IsLawful}
use Rattle.cell_units.specs.Record.{Record}
use Rattle.plain_rows.specs.Rows.{rows_of}
use Rattle.display_sheet.specs.Shown.{unstamped}
use Rattle.display_map.specs.Events.{Event}
use Rattle.display_map.specs.LawfulStates.{EventsFit, IsLawfulHistory}
use Rattle.display_map.specs.Replay.{History, State, appended, begun, present_of, replayed, state_of}
use Rattle.display_map.specs.Sending.{IsRunTaken, sending}
use Rattle.display_map.proofs.LawfulReplays.{lawful-replayed}
use Rattle.display_map.proofs.Replays.{state_of-appended}
use Rattle.row_pieces.specs.declared.row_change.RowChange.{RowChange}
use Rattle.row_pieces.specs.Changed.{IsTrue, change, looks, no_change}
use Rattle.view_changes.specs.Events.{LedTo, covered, shown_after}
use Rattle.view_changes.proofs.Batches.{fit-front}
use Rattle.view_changes.proofs.Histories.{fits-after}
use Rattle.view_changes.proofs.Lengths.{length-looks}
use Rattle.view_changes.proofs.TrueNothing.{true-nothing}
use Rattle.view_changes.proofs.TrueRows.{covered-further, true-covered}
use Rattle.display_session.specs.declared.watch.Watch.{Watch}
use Rattle.display_session.specs.LoneDisplays.{LineJob}
use Rattle.display_session.specs.Watches.{asked_at, changed_rows, changed_since, earlier, is_same, is_watched}

-- ---- the same change

both-same : (c d : RowChange) → is_same c d ≡ true → c ≡ d
both-same c d e =
    let all = and_parts ((c.from == d.from) && (c.to == d.to)) (c.count == d.count) e in
    let rows = and_parts (c.from == d.from) (c.to == d.to) all.0 in
    let from : c.from ≡ d.from = eqb-true c.from d.from rows.0 in
    let to : c.to ≡ d.to = eqb-true c.to d.to rows.1 in
    let count : c.count ≡ d.count = eqb-true c.count d.count all.1 in
    λ i. change (from i) (to i) (count i)

same-both : (c d : RowChange) → c ≡ d → is_same c d ≡ true
same-both c d e = subst (λ (d : RowChange). is_same c d ≡ true) e
    (λ i. (eq-eqb c.from c.from refl i && eq-eqb c.to c.to refl i) && eq-eqb c.count c.count refl i)

-- ---- what is known of what is kept

record IsKept (h : History) (w : Watch) : Type 0 where
  within : w.events ≤ length h.events
  few : length (rows_of (present_of (earlier h w.events))) < 2 ^ 32
  replaced_is : w.replaced ≡ changed_since h w.events

is-kept : (h : History) (w : Watch) → is_watched h (Some w) ≡ true → IsKept h w
is-kept h w e =
    let n = length (rows_of (present_of (earlier h w.events))) in
    let all = and_parts (leb w.events (length h.events) && ltb n (2 ^ 32)) (is_same w.replaced (changed_since h w.events)) e in
    let sizes = and_parts (leb w.events (length h.events)) (ltb n (2 ^ 32)) all.0 in
    record {
      within = leb-true w.events (length h.events) sizes.0;
      few = ltb-true n (2 ^ 32) sizes.1;
      replaced_is = both-same w.replaced (changed_since h w.events) all.1;
    }

watched : (h : History) (w : Watch) → IsKept h w → is_watched h (Some w) ≡ true
watched h w kept =
    let n = length (rows_of (present_of (earlier h w.events))) in
    λ i. (le-leb w.events (length h.events) kept.within i && lt-ltb n (2 ^ 32) kept.few i) && same-both w.replaced (changed_since h w.events) kept.replaced_is i

-- ---- what was replaced since some event

module _ (h : History) (n : ℕ) where
  abbrev first : List Event
  first = take n h.events

  abbrev rest : List Event
  rest = drop n h.events

  all : appended (earlier h n) rest ≡ h
  all = ap (λ (events : List Event). record { opening = h.opening; events = events }) (take-append-drop n h.events)

  state-is : replayed (state_of (earlier h n)) rest ≡ state_of h
  state-is = sym (state_of-appended (earlier h n) rest) ∙ ap state_of all

  module _ (is : IsLawfulHistory h) where
    lawful-earlier : IsLawful (present_of (earlier h n))
    lawful-earlier =
        let fits = subst (EventsFit (begun h.opening)) (sym (take-append-drop n h.events)) is.fits in
        lawful-replayed h.opening first is.opening (fit-front (begun h.opening) first rest fits)

    true-since : IsTrue (changed_since h n) (looks (present_of (earlier h n))) (looks (present_of h))
    true-since =
        let r = present_of (earlier h n) in
        let fits = fits-after (earlier h n) rest (subst IsLawfulHistory (sym all) is) in
        subst (λ (s : State). IsTrue (changed_since h n) (looks r) (looks s.present)) state-is
        (true-covered no_change rest r (state_of (earlier h n)) lawful-earlier fits (true-nothing no_change (looks r) refl))

  -- ... and since then
  module _ (more : List Event) (le : n ≤ length h.events) where
    earlier-same : earlier (appended h more) n ≡ earlier h n
    earlier-same = ap (λ (events : List Event). record { opening = h.opening; events = events }) (take-append-le n h.events more le)

    since-more : covered (changed_since h n) more (state_of h) ≡ changed_since (appended h more) n
    since-more =
        ap (covered (changed_since h n) more) (sym state-is)
        ∙ sym (covered-further no_change rest more (state_of (earlier h n)))
        ∙ (λ i. covered no_change (sym (drop-append-le n h.events more le) i) (state_of (sym earlier-same i)))

-- ---- what is kept over events

led-since : (h : History) (w : Watch) → IsLawfulHistory h → is_watched h (Some w) ≡ true → LedTo w.replaced (present_of h)
led-since h w is e =
    let kept = is-kept h w e in
    let before = present_of (earlier h w.events) in
    record {
      earlier = before;
      few = omega (arith, length-looks before (lawful-earlier h w.events is), kept.few);
      is_true = subst (λ (c : RowChange). IsTrue c (looks before) (looks (present_of h))) (sym kept.replaced_is) (true-since h w.events is);
    }

watched-more : (h h' : History) (more : List Event) (w w' : Watch) → h' ≡ appended h more → is_watched h (Some w) ≡ true → w'.events ≡ w.events →
    w'.replaced ≡ covered w.replaced more (state_of h) → is_watched h' (Some w') ≡ true
watched-more h h' more w w' is e same covers =
    let kept = is-kept h w e in
    let now : is_watched (appended h more) (Some w') ≡ true =
    watched (appended h more) w' (record {
      within = omega (arith, kept.within, same, length-append h.events more);
      few = subst (λ (q : History). length (rows_of (present_of q)) < 2 ^ 32) (sym ((λ i. earlier (appended h more) (same i)) ∙ earlier-same h w.events more kept.within)) kept.few;
      replaced_is =
          covers
          ∙ ap (λ (c : RowChange). covered c more (state_of h)) kept.replaced_is
          ∙ since-more h w.events more kept.within
          ∙ ap (changed_since (appended h more)) (sym same);
    }) in
    subst (λ (q : History). is_watched q (Some w') ≡ true) (sym is) now

watched-same : (h h' : History) (watch watch' : Option Watch) → h' ≡ h → watch' ≡ watch → is_watched h watch ≡ true → is_watched h' watch' ≡ true
watched-same h h' watch watch' is same e = (λ i. is_watched (is i) (same i)) ∙ e

-- a run that is sent replaces nothing
pub watched-sent : (h h' : History) (run : Option LineJob) → IsRunTaken h h' run → (watch : Option Watch) → is_watched h watch ≡ true → is_watched h' watch ≡ true
watched-sent h h' None taken watch e = watched-same h h' watch watch taken.1 refl e
watched-sent h h' (Some job) taken None e = refl
watched-sent h h' (Some job) taken (Some w) e = watched-more h h' (sending job ∷ []) w w taken.event_is e refl refl

-- ---- by the results of calls, of which `b` is a view of the display before

pub led-view : (h b : History) (w : Watch) → b ≡ h → IsLawfulHistory b → is_watched h (Some w) ≡ true → LedTo w.replaced (present_of b)
led-view h b w same is e = led-since b w is (subst (λ (q : History). is_watched q (Some w) ≡ true) (sym same) e)

since-view : (h b h' : History) (events : List Event) → b ≡ h → h' ≡ appended h events → h' ≡ appended b events
since-view h b h' events same is = is ∙ ap (λ (q : History). appended q events) (sym same)

pub shown-view : (h b h' : History) (events : List Event) (after : Record) → b ≡ h → h' ≡ appended h events → after ≡ unstamped (present_of h') → after ≡ shown_after b events
shown-view h b h' events after same is e = e ∙ ap (λ (q : History). unstamped (present_of q)) (since-view h b h' events same is)

pub watched-view : (h b h' : History) (w w' : Watch) (events : List Event) → b ≡ h → h' ≡ appended h events → w'.events ≡ w.events →
    w'.replaced ≡ covered w.replaced events (state_of b) → is_watched h (Some w) ≡ true → is_watched h' (Some w') ≡ true
watched-view h b h' w w' events same is asked covers e =
    watched-more h h' events w w' is e asked (covers ∙ ap (λ (q : History). covered w.replaced events (state_of q)) same)

-- ---- what a host gets

pub true-rows : (h : History) (watch : Option Watch) (rows : RowChange) → IsLawfulHistory h → rows ≡ changed_rows h (asked_at watch) →
    IfSome (asked_at watch) (λ events. IsTrue rows (looks (present_of (earlier h events))) (looks (present_of h)))
true-rows h None rows is e = tt
true-rows h (Some w) rows is e =
    subst (λ (c : RowChange). IsTrue c (looks (present_of (earlier h w.events))) (looks (present_of h))) (sym e) (true-since h w.events is)
