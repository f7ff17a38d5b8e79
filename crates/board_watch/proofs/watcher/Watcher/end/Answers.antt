use Rattle.std.proofs.Common.{subst}
use mathlib.Core.List.{IsPrefix}
use Rattle.board_watch.specs.Watching.{Watching}
use Rattle.board_watch.proofs.Keeping.{ended, prefix-kept}
use Rattle.board_watch.proofs.watcher.Watcher.end.Goals as goal

pub returns-clause-gives : goal.returns-clause-gives
returns-clause-gives c =
    let P : Watching → Type 0 = λ w. IsPrefix w.seen c.keep.new.kept.items in
    subst P c.self.view_is
    (prefix-kept c.self.inside.seen.items c.keep.new.kept.items c.see-last.result.0 c.in_ok-keep.field-0 c.in_ok-keep.ensures.kept)

pub returns-clause-watched : goal.returns-clause-watched
returns-clause-watched c =
    ended c.self.inside.reader c.args.told c.learn.new.self c.see-last.new.reader c.self.inside.seen.items c.keep.new.kept.items c.see-last.result.0
    c.in_ok-keep.field-0 c.self.invariant c.learn.ensures.this c.learn.ensures.that c.see-last.ensures.goes_on c.see-last.ensures.seen
    c.in_ok-keep.ensures.kept
