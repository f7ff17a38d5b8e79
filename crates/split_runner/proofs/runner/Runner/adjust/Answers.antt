-- The change is done and published, or refused.
use Rattle.std.proofs.Common.{◌+◌, ◌≤◌, [], length, slice_index_or, sym, subst, arith}
use Rattle.display_map.specs.Events.{event_limit}
use Rattle.display_sheet.specs.Changes.{ops_of}
use Rattle.split_runner.specs.Going.{MayHandle, stage}
use Rattle.split_runner.proofs.EditHandled.{alone-handled, alone-room, alone-short, alone-there}
use Rattle.split_runner.proofs.Verdicts.{change-unread}
use Rattle.split_runner.proofs.runner.Runner.adjust.Goals as goal

pub apply-requires-clause-room : goal.apply-requires-clause-room
apply-requires-clause-room g c = λ k d lt.
    (let it : length (slice_index_or c.args.self.now.split k d).events + (length (ops_of c.args.change.now) + 2) ≤ event_limit = c.requires.room k d lt in
    omega (arith, it))

pub publish-requires-clause-view : goal.publish-requires-clause-view
publish-requires-clause-view g c =
    alone-there c.args.number c.args.view c.args.self.now.split c.apply.new.self c.args.change.now c.requires.may.there c.in-Ok.ensures.done

pub publish-requires-clause-room : goal.publish-requires-clause-room
publish-requires-clause-room g c =
    alone-room c.args.number c.args.view c.args.self.now.split c.apply.new.self c.args.change.now c.requires.may.there c.in-Ok.ensures.done
    (c.requires.room c.args.view (record { opening = []; events = [] }) c.requires.may.there)

pub refuse_unread-requires : goal.refuse_unread-requires
refuse_unread-requires g c = subst (MayHandle c.args.view) (sym c.in-Err.ensures.unchanged) c.requires.may

pub returns-in_err-_version-in-Ok-clause-handled : goal.returns-in_err-_version-in-Ok-clause-handled
returns-in_err-_version-in-Ok-clause-handled g c =
    alone-short c.args.number c.args.view c.args.self.now.split c.apply.new.self c.publish.new.self c.args.self.now.undo
    (g.K.Sink.state c.args.self.now.out.now) c.args.change.now c.requires.may.there c.requires.alone c.in-Ok.ensures.accepted c.in-Ok.ensures.done
    c.from_residual.result c.from_residual.ensures.1 c.in_err-_version-in-Ok.ensures.unchanged

pub returns-in_ok-_version-in-Ok-clause-handled : goal.returns-in_ok-_version-in-Ok-clause-handled
returns-in_ok-_version-in-Ok-clause-handled g c =
    alone-handled c.args.number c.args.view c.args.self.now.split c.apply.new.self c.publish.new.self c.args.self.now.undo
    (g.K.Sink.state c.args.self.now.out.now) c.args.change.now c.requires.may.there c.requires.alone c.in-Ok.ensures.accepted c.in-Ok.ensures.done
    c.in_ok-_version-in-Ok.ensures.published

pub returns-in-Err-clause-handled : goal.returns-in-Err-clause-handled
returns-in-Err-clause-handled g c =
    change-unread c.args.number c.args.view c.args.change.now c.in-Err.fault c.args.self.now.split c.apply.new.self c.args.self.now.undo
    (g.K.Sink.state c.args.self.now.out.now) (stage g.K.Sink.state c.refuse_unread.new.self) c.refuse_unread.result c.in-Err.ensures.unchanged
    c.in-Err.ensures.refused c.refuse_unread.ensures.handled
