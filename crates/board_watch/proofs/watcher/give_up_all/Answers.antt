use Rattle.std.proofs.Common.{◌≡◌, ◌≤◌, All, List, [], ◌∷◌, ◌++◌, take, length, map, ap, sym, ◌∙◌, subst, arith}
use Rattle.std.proofs.lemmas.Iterator.Adapters.{YieldsList-from_vec}
use Rattle.std.proofs.lemmas.Iterator.Consumers.{YieldsList-so_far}
use Rattle.std.proofs.lemmas.List.{length-map, length-take, map-append, map-id}
use Rattle.std.proofs.lemmas.List.Elements.{All-push}
use Rattle.board_watch.specs.declared.seen.Watched.{Watched}
use Rattle.board_watch.specs.Watching.{AreRising, Watching}
use Rattle.board_watch.proofs.Teams.{seen-so-far}
use Rattle.board_watch.proofs.watcher.give_up_all.Goals as goal

pub returns-in-Err-clause-seen : goal.returns-in-Err-clause-seen
returns-in-Err-clause-seen c =
    let given = c.into_iter-watcher-iterator.ensures.into_iter_gives in
    let before : List Watching = c.loop-watcher.yielded in
    let team : List Watching = c.args.team.items in
    let first : before ≡ take (length before) team =
    sym (map-id before)
    ∙ YieldsList-so_far (YieldsList-from_vec {s = c.into_iter-watcher-iterator.result} team given.0 (omega arith)) before c.loop-watcher.watcher-iterator c.loop-watcher.yielded_by in
    ap (map (λ w. w.seen.items)) c.in-Err.ensures.items
    ∙ seen-so-far c.loop-watcher.watched.items before team c.push.new.self.len c.loop-watcher.invariant.seen
    (omega (arith, c.push.new.self.ok.0, ap length c.in-Err.ensures.items)) first

pub returns-in-Err-clause-count : goal.returns-in-Err-clause-count
returns-in-Err-clause-count c =
    let given = c.into_iter-watcher-iterator.ensures.into_iter_gives in
    let before : List Watching = c.loop-watcher.yielded in
    let watched : List Watched = c.loop-watcher.watched.items in
    let team : List Watching = c.args.team.items in
    let first : before ≡ take (length before) team =
    sym (map-id before)
    ∙ YieldsList-so_far (YieldsList-from_vec {s = c.into_iter-watcher-iterator.result} team given.0 (omega arith)) before c.loop-watcher.watcher-iterator c.loop-watcher.yielded_by in
    let few : length before ≤ length team = omega (arith, ap length first, length-take (length before) team) in
    let many : length watched ≡ length before =
    sym (length-map watched (λ w. w.seen.items)) ∙ (ap length c.loop-watcher.invariant.seen ∙ length-map before (λ w. w.seen)) in
    omega (arith, few, many, ap length c.in-Err.ensures.items, c.push.new.self.ok.0, c.args.team.ok.0)

pub loop-watcher-preserved : goal.loop-watcher-preserved
loop-watcher-preserved c =
    let watched : List Watched = c.loop-watcher.watched.items in
    let before : List Watching = c.loop-watcher.yielded in
    let kept : Watched = c.give_up.result in
    let seen = c.give_up.ensures.seen in
    let A : List Watched → Type 0 = λ l. All (λ w. AreRising 0 w.seen.items) l in
    record {
      seen =
          ap (map (λ w. w.seen.items)) c.in_default.ensures.items
          ∙ (map-append (λ w. w.seen.items) watched (kept ∷ [])
          ∙ ((λ k. c.loop-watcher.invariant.seen k ++ seen k ∷ [])
          ∙ sym (map-append (λ w. w.seen) before (c.in-Some.watcher ∷ []))));
      rising =
          subst A (sym c.in_default.ensures.items)
          (All-push (λ w. AreRising 0 w.seen.items) watched kept c.loop-watcher.invariant.rising
          (subst (AreRising 0) (sym seen) c.give_up.ensures.rising));
    }
