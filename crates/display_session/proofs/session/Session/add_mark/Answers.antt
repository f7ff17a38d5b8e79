-- The new mark is at a boundary, as the others are.
use Rattle.cell_units.specs.Sorting.{insert_by}
use Rattle.mark_tree.specs.Marks.{mark_le, mark_with}
use Rattle.display_map.specs.Replay.{present_of}
use Rattle.display_session.specs.HostMarks.{HostMark}
use Rattle.display_session.proofs.FoundMarks.{accepted-at}
use Rattle.display_session.proofs.PlacedMarks.{placed-added, placed-either}
use Rattle.display_session.proofs.session.Session.add_mark.Goals as goal

pub invariant_of-self : goal.invariant_of-self
invariant_of-self c =
    let s = c.args.self.now in
    let text = (present_of s.display).text in
    let m : HostMark = mark_with c.args.offset c.args.bias c.args.id (record {}) in
    let at = accepted-at text s.marks c.args.id c.args.offset c.in_ok-judge_mark.ensures.accepted in
    record {
      placed = placed-either text s.marks (insert_by mark_le m s.marks) c.put.new.self c.put.result c.put.ensures.ok c.put.ensures.unchanged s.placed (placed-added text m s.marks at s.placed);
      watched = s.watched;
    }
