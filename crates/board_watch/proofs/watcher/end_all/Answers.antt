use Rattle.std.proofs.Common.{◌≡◌, All, true, List, [], ◌∷◌, ◌++◌, sym, ◌∙◌, subst, arith}
use Rattle.std.specs.List.{AllZip}
use Rattle.std.proofs.lemmas.Iterator.Adapters.{YieldsList-from_vec}
use Rattle.std.proofs.lemmas.Iterator.Consumers.{YieldsList-end}
use Rattle.std.proofs.lemmas.List.Elements.{All-push}
use Rattle.std.proofs.lemmas.Slice.Zip.{all_zipped_more, AllZip-long}
use Rattle.display_map.specs.Replay.{ends}
use Rattle.version_board.specs.Known.{Known}
use Rattle.board_watch.specs.declared.seen.Watched.{Watched}
use Rattle.board_watch.specs.Watching.{Gives, IsWatched}
use Rattle.board_watch.proofs.watcher.end_all.Goals as goal

pub loop-watcher-preserved : goal.loop-watcher-preserved
loop-watcher-preserved c =
    let i = c.loop-watcher.invariant in
    let before = c.loop-watcher.yielded in
    let w : Watched = c.in_ok-end.field-0 in
    let newest = c.args.writer.now.newest in
    let Z : List Watched → Type 0 = λ l. AllZip Gives (before ++ c.in-Some.watcher ∷ []) l in
    let A : List Watched → Type 0 = λ l. All (λ w. IsWatched newest w.seen.items) l in
    let T : Known → Type 0 = λ k. ends k.newest.events ≡ true → IsWatched k.newest w.seen.items in
    record {
      gives =
          subst Z (sym c.in_ok-push.ensures.items)
          (all_zipped_more Gives before c.loop-watcher.watched.items c.in-Some.watcher w i.gives c.in_ok-end.ensures.gives);
      seen = λ last.
          subst A (sym c.in_ok-push.ensures.items)
          (All-push (λ w. IsWatched newest w.seen.items) c.loop-watcher.watched.items w (i.seen last)
          (subst T (c.in_ok-told.ensures.told ∙ i.writer) c.in_ok-end.ensures.watched last));
      writer = c.tell.ensures.same ∙ i.writer;
    }

pub returns-clause-count : goal.returns-clause-count
returns-clause-count c =
    let given = c.into_iter-watcher-iterator.ensures.into_iter_gives in
    let team = c.args.team.items in
    let all = YieldsList-end (YieldsList-from_vec {s = c.into_iter-watcher-iterator.result} team given.0 (omega arith)) c.loop-watcher.yielded c.loop-watcher.watcher-iterator c.loop-watcher.yielded_by c.next.result c.next.new.self c.in-None.is c.next.ensures.steps in
    let many = AllZip-long Gives c.loop-watcher.yielded c.loop-watcher.watched.items c.loop-watcher.invariant.gives in
    omega (arith, many, all.1, c.args.team.ok.0, c.loop-watcher.watched.ok.0)
