-- What events replace, one after another, is replaced truly.
use Rattle.std.proofs.Common.{◌≡◌, List, [], ◌∷◌, ◌++◌, sym, ap, subst, ◌∙◌}
use Rattle.cell_units.specs.Lawful.{IsLawful}
use Rattle.cell_units.specs.Record.{Record}
use Rattle.display_map.specs.Events.{Did, Event, Landed, Line, Published, Sent}
use Rattle.display_map.specs.LawfulStates.{EventFits, EventsFit}
use Rattle.display_map.specs.Replay.{State, happens, job_numbered, landed_on, replayed}
use Rattle.display_map.proofs.LawfulReplays.{lawful-happens}
use Rattle.display_map.proofs.Replays.{replayed-cons, replayed-none}
use Rattle.row_pieces.specs.declared.row_change.RowChange.{RowChange}
use Rattle.row_pieces.specs.Changed.{IsTrue, looks}
use Rattle.row_pieces.proofs.Covering.{covers}
use Rattle.display_sheet.specs.LineStep.{line_step}
use Rattle.view_changes.specs.Events.{covered, covered_by, rows_landed}
use Rattle.view_changes.specs.Operations.{rows_replaced}
use Rattle.view_changes.proofs.Marks.{true-landed}
use Rattle.view_changes.proofs.Meaning.{true-operation}

true-by : (c : RowChange) (q : Record) (s : State) (e : Event) → IsLawful s.present → EventFits s e → IsTrue c (looks q) (looks s.present) →
    IsTrue (covered_by c s e) (looks q) (looks (happens s e).present)
true-by c q s (Did operation) is fits t =
    covers c (rows_replaced operation s.present) (looks q) (looks s.present) (looks (line_step operation s.present)) t (true-operation operation s.present is fits)
true-by c q s (Landed job) is fits t =
    let next = landed_on s.present (job_numbered job s.jobs) in
    covers c (rows_landed s.present next) (looks q) (looks s.present) (looks next) t (true-landed s.present (job_numbered job s.jobs) is.marked)
true-by c q s (Line number) is fits t = t
true-by c q s (Sent job first count) is fits t = t
true-by c q s (Published last) is fits t = t

pub true-covered : (c : RowChange) (events : List Event) (q : Record) (s : State) → IsLawful s.present → EventsFit s events → IsTrue c (looks q) (looks s.present) →
    IsTrue (covered c events s) (looks q) (looks (replayed s events).present)
true-covered c [] q s is fits t = subst (λ (x : State). IsTrue c (looks q) (looks x.present)) (sym (replayed-none s)) t
true-covered c (event ∷ events) q s is fits t =
    let next = covered_by c s event in
    subst (λ (x : State). IsTrue (covered next events (happens s event)) (looks q) (looks x.present)) (sym (replayed-cons s event events))
    (true-covered next events q (happens s event) (lawful-happens s event fits.0 is) fits.1 (true-by c q s event is fits.0 t))

pub covered-further : (c : RowChange) (events more : List Event) (s : State) → covered c (events ++ more) s ≡ covered (covered c events s) more (replayed s events)
covered-further c [] more s = ap (covered c more) (sym (replayed-none s))
covered-further c (event ∷ events) more s =
    covered-further (covered_by c s event) events more (happens s event)
    ∙ ap (covered (covered (covered_by c s event) events (happens s event)) more) (sym (replayed-cons s event events))
