-- What is kept of a display that was just opened.
use Rattle.std.proofs.Common.{◌≡◌, ℕ, ◌<◌, List, [], length, refl, sym, ap, subst, arith}
use Rattle.std.specs.List.{All}
use Rattle.std.proofs.lemmas.List.Elements.{All-nil}
use Rattle.cell_units.specs.Text.{IsText}
use Rattle.cell_units.specs.Record.{Record, line_count, opened}
use Rattle.display_map.specs.Displays.{IsStamped, KeepsDisplay, unlanded}
use Rattle.display_map.specs.Events.{Event}
use Rattle.display_map.specs.Identity.{stamps_in}
use Rattle.kept_sheet.specs.Kept.{IsRising, standing}
use Rattle.display_map.specs.Outs.{AreOut, OutParts}
use Rattle.display_map.specs.Replay.{History, SentJob, State, begun, state_of}
use Rattle.display_sheet.specs.Shown.{unstamped}
use Rattle.display_map.proofs.Replays.{replayed-none}
use Rattle.display_map.proofs.Stamps.{AreStamps, AreStamps-range, stamps, stamps-plain_marks}

-- the stamps are apart
pub apart-opened : (text : List ℕ) → AreStamps (stamps (opened text).marks) (opened text).next_stamp
apart-opened text =
    let n = line_count text in
    subst (λ (xs : List ℕ). AreStamps xs n) (sym (stamps-plain_marks 0 n)) (AreStamps-range n)

stamped-begun : (text : List ℕ) → IsStamped (begun text)
stamped-begun text =
    let apart = apart-opened text in
    record { once = apart.once; below = apart.below; given = All-nil (λ (job : SentJob). All (λ x. x < (opened text).next_stamp) job.stamps); numbered = refl }

kept-begun : (text : List ℕ) → IsText text →
    KeepsDisplay (record { opening = text; events = [] }) (unstamped (opened text)) [] 0 0 0
kept-begun text is =
    let h : History = record { opening = text; events = [] } in
    let begins : state_of h ≡ begun text = replayed-none (begun text) in
    let sheet : unstamped (state_of h).present ≡ unstamped (opened text) = ap (λ (s : State). unstamped s.present) begins in
    let stamped : IsStamped (state_of h) = subst IsStamped (sym begins) (stamped-begun text) in
    let outs : AreOut (stamps_in (state_of h).present) (unlanded (state_of h).jobs) [] =
    subst (λ (s : State). AreOut (stamps_in s.present) (unlanded s.jobs) []) (sym begins) tt in
    record {
      opening = is;
      fits = tt;
      sheet_is = sheet;
      stamped = stamped;
      outs_are = outs;
      in_order = All-nil (λ (out : OutParts). IsRising 0 (standing out.lines));
      versions_are = refl;
      jobs_are = ap (λ (s : State). length s.jobs) begins;
      jobs_few = omega arith;
      none_before = λ k lt. absurd (omega (arith, lt));
    }

pub kept-opened : (opening : List ℕ) (events : List Event) (sheet : Record) (outs : List OutParts) → IsText opening →
    events ≡ [] → sheet ≡ unstamped (opened opening) → outs ≡ [] →
    KeepsDisplay (record { opening = opening; events = events }) sheet outs 0 0 0
kept-opened opening events sheet outs is no_events same no_outs =
    subst (λ (es : List Event). KeepsDisplay (record { opening = opening; events = es }) sheet outs 0 0 0) (sym no_events)
    (subst (λ (os : List OutParts). KeepsDisplay (record { opening = opening; events = [] }) sheet os 0 0 0) (sym no_outs)
    (subst (λ (r : Record). KeepsDisplay (record { opening = opening; events = [] }) r [] 0 0 0) (sym same) (kept-begun opening is)))
