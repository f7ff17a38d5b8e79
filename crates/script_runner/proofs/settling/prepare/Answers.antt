-- Where the owner went on, a run goes on, and where it halted, the run stopped.
use Rattle.std.proofs.Common.{◌+◌, ◌≤◌, length, Result, Ok, Err, arith}
use Rattle.std.specs.Prelude.{OnOk}
use Rattle.display_map.specs.Events.{event_limit}
use Rattle.live_display.specs.declared.owner.Owner.{Owner}
use Rattle.live_display.specs.Owned.{IsBusy}
use Rattle.script_runner.specs.declared.stop.Stop.{Stop}
use Rattle.script_runner.specs.Stopping.{stop_of}
use Rattle.script_runner.specs.Going.{IsShown, IsAbreast}
use Rattle.script_runner.proofs.GoingOn.{goes-room, goes-err, halts-cut}
use Rattle.script_runner.proofs.Ready.{shown-gone, text-gone}
use Rattle.script_runner.proofs.Unsettled.{prepared-since}
use Rattle.script_runner.proofs.Results.{on-ok}
use Rattle.script_runner.proofs.settling.prepare.Goals as goal

abreast : (owner : Owner) (r : Result (Unit {0}) Stop) → OnOk r (length owner.display.events + 3 + 0 ≤ event_limit) → IsShown owner → IsBusy owner
    → OnOk r (IsAbreast owner)
abreast owner (Ok done) room shown busy = record { shown = shown; busy = busy; room = omega arith }
abreast owner (Err stop) room shown busy = tt

pub returns-in_err-settle_or_send-clause-going : goal.returns-in_err-settle_or_send-clause-going
returns-in_err-settle_or_send-clause-going g c =
    goes-err c.args.owner.now.crew.workers c.args.owner.now.display c.settle_or_send.new.owner.display c.from_residual.result
    (stop_of c.in_err-settle_or_send.field-0.0) c.from_residual.ensures.1
    (halts-cut c.args.owner.now.crew.workers c.args.owner.now.display c.settle_or_send.new.owner.display c.in_err-settle_or_send.field-0.0
    c.in_err-settle_or_send.ensures.halted)

pub returns-clause-going : goal.returns-clause-going
returns-clause-going g c =
    goes-room c.args.owner.now.crew.workers c.args.owner.now.display c.settle_or_send.new.owner.display c.check_room.result c.in_ok-settle_or_send.ensures.gone
    c.check_room.ensures.full

pub returns-clause-abreast : goal.returns-clause-abreast
returns-clause-abreast g c =
    abreast c.settle_or_send.new.owner c.check_room.result c.check_room.ensures.room
    (shown-gone c.args.owner.now.crew.workers c.args.owner.now c.settle_or_send.new.owner c.in_ok-settle_or_send.ensures.gone c.requires.shown c.in_ok-settle_or_send.ensures.owned)
    c.in_ok-settle_or_send.ensures.busy

pub returns-clause-prepared : goal.returns-clause-prepared
returns-clause-prepared g c =
    on-ok c.check_room.result _
    (prepared-since c.args.settles c.args.owner.now.display c.settle_or_send.new.owner.display c.requires.unsent c.in_ok-settle_or_send.ensures.prepared)

pub returns-clause-text : goal.returns-clause-text
returns-clause-text g c =
    on-ok c.check_room.result _
    (text-gone c.args.owner.now.crew.workers c.args.owner.now.display c.settle_or_send.new.owner.display c.in_ok-settle_or_send.ensures.gone)
