-- An owner is opened, plays the script, and its watch ends; or there was no memory to open it.
use Rattle.std.proofs.Common.{◌≡◌, ℕ, ◌≤◌, length, map, refl, sym, ap, ◌∙◌, subst, arith}
use Rattle.std.specs.Prelude.{OnOk}
use Rattle.std.specs.declared.alloc.Global.{Global}
use Rattle.std.specs.declared.vec.Vec.{Vec}
use Rattle.board_watch.specs.declared.seen.Watched.{Watched}
use Rattle.script_runner.specs.Outside.{SinkState}
use Rattle.script_runner.specs.Entries.{numbered_lines}
use Rattle.display_cli.specs.inside.Opening.{EndsWatch, seen_by}
use Rattle.display_cli.proofs.Headline.{run-unopened}
use Rattle.display_cli.proofs.Opened.{lawful-events, left-opening, opened-boards, opened-ready, opened-room, run-opened, unopened-opening}
use Rattle.display_cli.proofs.top.run_script.Goals as goal

pub play_plan-left-requires-clause-ready : goal.play_plan-left-requires-clause-ready
play_plan-left-requires-clause-ready g c κs live =
    opened-ready c.args.display c.requires.events c.args.plan.now.workers c.args.plan.now.watchers c.in-Ok.opened c.in-Ok.ensures.opened

pub play_plan-left-requires-clause-unplayed : goal.play_plan-left-requires-clause-unplayed
play_plan-left-requires-clause-unplayed g c κs live = record {
  room = opened-room c.args.display c.requires.events c.args.plan.now.workers c.args.plan.now.watchers c.in-Ok.opened c.in-Ok.ensures.opened;
  readers = opened-boards c.args.display c.requires.events c.args.plan.now.workers c.args.plan.now.watchers c.in-Ok.opened c.in-Ok.ensures.opened;
}

pub returns-in-Ok-clause-run : goal.returns-in-Ok-clause-run
returns-in-Ok-clause-run g c =
    let old : SinkState = g.K.Sink.state c.args.out.now in
    let mid : SinkState = g.K.Sink.state c.play_plan-left.new.out in
    let after : SinkState = g.K.Sink.state c.end_watch-played.new.out in
    let left = c.play_plan-left.result.0 in
    let count : ℕ = c.play_plan-left.result.1.len in
    let many : c.in-Ok.opened.readers.len ≡ length c.in-Ok.opened.readers.items = omega (arith, c.in-Ok.opened.readers.ok.0) in
    let few : count ≤ length c.in-Ok.opened.readers.items = omega (arith, many, c.play_plan-left.ensures.team.few) in
    let N : ℕ → Type 0 = λ n. OnOk left.played (count ≡ n) in
    let W : Vec Watched Global → Type 0 = λ w. EndsWatch left.played left.writer count mid after c.end_watch-played.result.0 (seen_by w) in
    run-opened c.args.plan.now c.args.display c.args.script.now old mid after c.in-Ok.opened left count c.end_watch-played.result.0
    (seen_by c.ended_as.result.watched) c.ended_as.result.status c.ended_as.result.history c.ended_as.result.note c.requires.events
    c.in-Ok.ensures.opened c.play_plan-left.ensures.left (subst W (sym c.ended_as.ensures.watched) c.end_watch-played.ensures) few
    (subst N many c.play_plan-left.ensures.team.all) (c.ended_as.ensures.history ∙ c.journal_of.ensures.journal) c.ended_as.ensures.note

pub returns-in-Ok-clause-lawful : goal.returns-in-Ok-clause-lawful
returns-in-Ok-clause-lawful g c =
    let left = c.play_plan-left.result.0 in
    lawful-events c.args.display.opening left.display c.ended_as.result.history
    (left-opening c.args.plan.now c.args.display c.args.script.now (g.K.Sink.state c.args.out.now) (g.K.Sink.state c.play_plan-left.new.out)
    c.in-Ok.opened left c.requires.events c.in-Ok.ensures.opened c.play_plan-left.ensures.left)
    (c.ended_as.ensures.history ∙ c.journal_of.ensures.journal) c.journal_of.ensures.lawful

pub returns-in-Err-clause-lawful : goal.returns-in-Err-clause-lawful
returns-in-Err-clause-lawful g c =
    lawful-events c.args.display.opening c.in-Err.display c.ended_as-in-Err.result.history
    (unopened-opening c.args.display c.in-Err.display c.in-Err.ensures.unopened)
    (c.ended_as-in-Err.ensures.history ∙ c.journal_of-in-Err.ensures.journal) c.journal_of-in-Err.ensures.lawful

pub returns-in-Err-clause-run : goal.returns-in-Err-clause-run
returns-in-Err-clause-run g c =
    let plan = c.args.plan.now in
    let empty : seen_by c.ended_as-in-Err.result.watched ≡ seen_by c.new.result = ap seen_by c.ended_as-in-Err.ensures.watched in
    run-unopened plan.make (record {
      text = c.args.display.opening;
      entries = numbered_lines c.args.script.now;
      workers = plan.workers;
      watchers = plan.watchers;
      sink = g.K.Sink.state c.args.out.now;
    }) c.args.display c.in-Err.display c.ended_as-in-Err.result.status c.ended_as-in-Err.result.note c.ended_as-in-Err.result.history
    (seen_by c.ended_as-in-Err.result.watched) refl c.requires.events c.in-Err.ensures.unopened
    (c.ended_as-in-Err.ensures.history ∙ c.journal_of-in-Err.ensures.journal)
    (empty ∙ ap (map (λ (w : Watched). w.seen.items)) c.new.ensures.items) c.ended_as-in-Err.ensures.note
