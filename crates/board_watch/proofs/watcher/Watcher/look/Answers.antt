use Rattle.board_watch.proofs.Keeping.{watching-on, watching-still}
use Rattle.board_watch.proofs.watcher.Watcher.look.Goals as goal

pub invariant_of-self : goal.invariant_of-self
invariant_of-self g c =
    watching-on c.self.inside.reader c.see-last.new.reader c.self.inside.seen.items c.keep.new.kept.items c.see-last.result.0 c.in-Ok-true.field-0
    c.self.invariant c.see-last.ensures.goes_on c.see-last.ensures.seen c.in-Ok-true.ensures.kept

pub invariant_of-self-else-keep : goal.invariant_of-self-else-keep
invariant_of-self-else-keep g c =
    watching-on c.self.inside.reader c.see-last.new.reader c.self.inside.seen.items c.keep.new.kept.items c.see-last.result.0 c.in-Ok-false.field-0
    c.self.invariant c.see-last.ensures.goes_on c.see-last.ensures.seen c.in-Ok-false.ensures.kept

pub invariant_of-self-in-Err : goal.invariant_of-self-in-Err
invariant_of-self-in-Err g c =
    watching-still c.self.inside.reader c.see-last.new.reader c.self.inside.seen.items c.keep.new.kept.items
    c.self.invariant c.see-last.ensures.goes_on c.in-Err.ensures.unchanged
