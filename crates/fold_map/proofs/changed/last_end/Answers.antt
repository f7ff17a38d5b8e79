use Rattle.std.proofs.Common.{sym, ap, ◌∙◌, take, get_or}
use Rattle.std.proofs.lemmas.List.{take_more}
use Rattle.joined_folds.specs.JoinedLists.{last_end}
use Rattle.fold_map.proofs.Positions.{last-more}
use Rattle.fold_map.proofs.changed.last_end.Goals as goal

pub loop-one-preserved : goal.loop-one-preserved
loop-one-preserved c =
    let i = c.loop-one.one-index in
    let js = c.args.joined.now in
    sym (ap (last_end c.args.base) (take_more js i (record { start = 0; end = 0 }) c.loop-one-test.true) ∙ last-more c.args.base (take i js) (get_or js i (record { start = 0; end = 0 })))
