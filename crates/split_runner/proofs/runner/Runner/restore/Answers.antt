-- There is room, and the batch is done in every view.
use Rattle.std.proofs.Common.{◌≡◌, inl, ◌+◌, ◌≤◌, ◌∙◌, length, slice_index_or, refl, sym, ap, subst, arith}
use Rattle.std.specs.Option.{option_copied}
use Rattle.display_map.specs.Events.{event_limit}
use Rattle.display_map.specs.Replay.{present_of}
use Rattle.live_display.specs.declared.owner.TheConstants.{EVENTS_AHEAD}
use Rattle.script_runner.specs.declared.stop.Stop.TheVariants as stops
use Rattle.split_views.specs.Views.{history_of}
use Rattle.undo_line.specs.Inverse.{Leads, inverse, text_after}
use Rattle.split_runner.specs.Going.{IsAcceptedIn, IsUnrestored, done_in_all}
use Rattle.split_runner.proofs.Reaching.{few-splices, if-err, some-same}
use Rattle.split_runner.proofs.UndoHandled.{unrestored-full}
use Rattle.split_runner.proofs.runner.Runner.restore.Goals as goal

pub reach-requires-clause-room : goal.reach-requires-clause-room
reach-requires-clause-room g c = λ k d lt.
    (let it : length (slice_index_or c.args.self.now.split k d).events + (EVENTS_AHEAD + c.len.result) ≤ event_limit = c.in_ok-check_room.ensures.room k d lt in
    let few = few-splices c.args.batch.items in
    let len : c.len.result ≡ length c.args.batch.items = c.len.ensures ∙ c.args.batch.ok.0 in
    omega (arith, it, few, len))

pub reach-requires-clause-batch : goal.reach-requires-clause-batch
reach-requires-clause-batch g c = sym c.batch_of.ensures ∙ ap option_copied c.in-Some.is

pub returns-in_err-check_room-clause-unrestored : goal.returns-in_err-check_room-clause-unrestored
returns-in_err-check_room-clause-unrestored g c =
    let len : c.len.result ≡ length c.args.batch.items = c.len.ensures ∙ c.args.batch.ok.0 in
    if-err c.from_residual.result (IsUnrestored c.args.number c.args.batch.items c.args.self.now.split c.args.self.now.split)
    c.in_err-check_room.field-0.0 c.from_residual.ensures.1
    (unrestored-full c.args.number c.args.batch.items c.args.self.now.split c.len.result c.in_err-check_room.field-0.0 len c.in_err-check_room.ensures.full)

pub returns-in_err-shown-clause-unrestored : goal.returns-in_err-shown-clause-unrestored
returns-in_err-shown-clause-unrestored g c =
    if-err c.from_residual-in_err-shown.result (IsUnrestored c.args.number c.args.batch.items c.args.self.now.split c.args.self.now.split)
    stops.Memory c.from_residual-in_err-shown.ensures.1 (inl refl)

pub returns-in-Ok-clause-accepted : goal.returns-in-Ok-clause-accepted
returns-in-Ok-clause-accepted g c =
    let same : c.in-Some.batch.now ≡ c.args.batch.items = some-same (sym (ap option_copied c.in-Some.is) ∙ c.batch_of.ensures) in
    subst (λ s. IsAcceptedIn 0 s c.args.self.now.split) same c.in-Ok.ensures.accepted

pub returns-in-Ok-clause-done : goal.returns-in-Ok-clause-done
returns-in-Ok-clause-done g c =
    let same : c.in-Some.batch.now ≡ c.args.batch.items = some-same (sym (ap option_copied c.in-Some.is) ∙ c.batch_of.ensures) in
    subst (λ s. c.reach.new.self.split ≡ done_in_all c.args.number s c.args.self.now.split) same c.in-Ok.ensures.done

pub returns-in-Ok-clause-back : goal.returns-in-Ok-clause-back
returns-in-Ok-clause-back g c =
    let same : c.in-Some.batch.now ≡ c.args.batch.items = some-same (sym (ap option_copied c.in-Some.is) ∙ c.batch_of.ensures) in
    c.in-Ok.ensures.back ∙ ap (inverse (present_of (history_of c.args.self.now.split 0)).text) same

pub returns-in-Ok-clause-leads : goal.returns-in-Ok-clause-leads
returns-in-Ok-clause-leads g c =
    let same : c.in-Some.batch.now ≡ c.args.batch.items = some-same (sym (ap option_copied c.in-Some.is) ∙ c.batch_of.ensures) in
    let text = (present_of (history_of c.args.self.now.split 0)).text in
    subst (λ s. Leads (text_after text s) c.in-Ok.back.items text) same c.in-Ok.ensures.leads
