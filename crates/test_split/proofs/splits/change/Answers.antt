use Rattle.std.proofs.Common.{◌≡◌, ◌+◌, ◌≤◌, List, length, refl, arith}
use Rattle.std.proofs.lemmas.List.Elements.{All-weaker}
use Rattle.display_sheet.specs.Changes.{ops_of}
use Rattle.display_map.specs.Events.{event_limit}
use Rattle.display_map.specs.Replay.{History}
use Rattle.split_views.specs.Views.{changed, history_of}
use Rattle.split_views.specs.Wrapping.{IsIdle}
use Rattle.test_split.proofs.After.{after}
use Rattle.test_split.proofs.splits.change.Goals as goal

pub apply-requires-clause-room : goal.apply-requires-clause-room
apply-requires-clause-room g c =
    All-weaker (λ (h : History). c.room.result + length h.events ≤ event_limit) (λ (h : History). length h.events + (length (ops_of c.args.change.now) + 1) ≤ event_limit)
    (λ h has. omega (arith, has, c.requires.few)) c.args.split.now c.room.ensures.within

pub returns-clause-len : goal.returns-clause-len
returns-clause-len g c =
    let hs = c.args.split.now in
    let change = c.args.change.now in
    after (λ (l : List History). length l ≡ length hs) c.apply.result hs c.apply.new.self (changed hs c.args.view 1 change) c.apply.ensures.done c.apply.ensures.unchanged
    (c.view_laws.ensures.count hs c.args.view 1 change) refl

pub returns-clause-idle : goal.returns-clause-idle
returns-clause-idle g c = λ other idle.
    let hs = c.args.split.now in
    let change = c.args.change.now in
    after (λ (l : List History). IsIdle (history_of l other)) c.apply.result hs c.apply.new.self (changed hs c.args.view 1 change) c.apply.ensures.done c.apply.ensures.unchanged
    (c.idle_laws.ensures.changed hs c.args.view 1 other change idle) idle
