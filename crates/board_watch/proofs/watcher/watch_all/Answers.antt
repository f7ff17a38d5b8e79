use Rattle.std.proofs.Common.{get_or, subst, arith}
use Rattle.board_watch.specs.Watching.{Watching, WatchesOn}
use Rattle.board_watch.proofs.Teams.{team-boards, team-watches}
use Rattle.board_watch.proofs.Sent.{watch_sent}
use Rattle.board_watch.proofs.watcher.watch_all.Goals as goal

pub returns-clause-boards : goal.returns-clause-boards
returns-clause-boards g c =
    team-boards c.args.team.now.len c.args.team.now.items c.as_mut_slice.result.now c.for_each_mut.new.s c.as_mut_slice.ensures.value
    (omega (arith, c.args.team.now.ok.0)) c.for_each_mut.auto.s
    (λ k d lt.
    let at = (c.for_each_mut.ensures k d lt).1 in
    let A : Watching → Type 0 = λ x. WatchesOn x at.after_call.now in
    let B : Watching → Type 0 = λ y. WatchesOn (get_or c.as_mut_slice.result.now k d) y in subst B at.left (subst A at.argument_is at.call))

pub returns-clause-each : goal.returns-clause-each
returns-clause-each g c =
    team-watches c.args.team.now.len c.args.team.now.items c.as_mut_slice.result.now c.for_each_mut.new.s c.as_mut_slice.ensures.value
    (omega (arith, c.args.team.now.ok.0)) c.for_each_mut.auto.s
    (λ k d lt.
    let at = (c.for_each_mut.ensures k d lt).1 in
    let A : Watching → Type 0 = λ x. WatchesOn x at.after_call.now in
    let B : Watching → Type 0 = λ y. WatchesOn (get_or c.as_mut_slice.result.now k d) y in subst B at.left (subst A at.argument_is at.call))

pub for_each_mut-requires-send-T : goal.for_each_mut-requires-send-T
for_each_mut-requires-send-T _ _ _ _ = search watch_sent depth 12 fits 4000
