-- A mark that is removed was there, and those that are left are where they were.
use Rattle.std.specs.Prelude.{filter}
use Rattle.mark_tree.specs.Marks.{lacks_id}
use Rattle.display_map.specs.Replay.{present_of}
use Rattle.display_map.proofs.EditedDisplays.{err-same}
use Rattle.display_session.specs.HostMarks.{unmark_refusal}
use Rattle.display_session.specs.Troubles.{IsOwed, trouble_of}
use Rattle.display_session.proofs.FoundMarks.{removed-accepted, unremoved-owed}
use Rattle.display_session.proofs.PlacedMarks.{placed-either, placed-kept}
use Rattle.display_session.proofs.session.Session.remove_mark.Goals as goal

pub returns-clause-accepted : goal.returns-clause-accepted
returns-clause-accepted c =
    let taken = c.in_ok-remove.field-0 in
    removed-accepted c.args.id c.args.self.now.marks taken.0 taken.1 c.in_ok-remove.ensures.mark c.in_ok-remove.ensures.id

pub returns-in_err-remove-clause-refused : goal.returns-in_err-remove-clause-refused
returns-in_err-remove-clause-refused c =
    let marks = c.args.self.now.marks in
    let fault = c.in_err-remove.field-0.0 in
    err-same c.from_residual.result (trouble_of fault) (IsOwed (unmark_refusal marks c.args.id)) c.from_residual.ensures.1
    (unremoved-owed c.args.id marks fault c.in_err-remove.ensures.refused)

pub invariant_of-self : goal.invariant_of-self
invariant_of-self c =
    let s = c.args.self.now in
    let text = (present_of s.display).text in
    record {
      placed = placed-either text s.marks (filter (lacks_id c.args.id) s.marks) c.remove.new.self c.remove.result c.remove.ensures.ok c.remove.ensures.unchanged s.placed
          (placed-kept text (lacks_id c.args.id) s.marks s.placed);
      watched = s.watched;
    }
