use Rattle.std.proofs.Common.{◌≡◌, ℕ, length, get_or, set, sym, ap, ◌∙◌, subst, arith}
use Rattle.display_map.specs.Replay.{History}
use Rattle.split_views.proofs.Taken.{IsTaken, next-before, next-taken, next-within, none-taken}
use Rattle.split_views.proofs.each.commit.Goals as goal

pub commits-init : goal.commits-init
commits-init g c = none-taken c.args.ready.items c.args.displays.now.items c.requires

pub index_mut-requires : goal.index_mut-requires
index_mut-requires g c =
    let left = c.pop.new.self in
    omega (
      arith,
      next-within c.args.ready.items c.commits.ready.items left.items c.in-Some.next c.commits.displays.items c.in-Some.ensures.items c.commits.invariant,
      c.len.ensures,
      left.ok.0,
      c.commits.displays.ok.0,
    )

pub commit-requires : goal.commit-requires
commit-requires g c =
    let left = c.pop.new.self in
    let hs = c.commits.displays.items in
    let at : c.len.result ≡ length left.items = c.len.ensures ∙ left.ok.0 in
    c.index_mut.ensures.value
    ∙ ap (λ (n : ℕ). get_or hs n c.index_mut.result.now) at
    ∙ next-before c.args.ready.items c.commits.ready.items left.items c.in-Some.next hs c.index_mut.result.now c.in-Some.ensures.items c.commits.invariant

pub commits-preserved : goal.commits-preserved
commits-preserved g c =
    let all = c.args.ready.items in
    let left = c.pop.new.self in
    let hs = c.commits.displays.items in
    let at : c.len.result ≡ length left.items = c.len.ensures ∙ left.ok.0 in
    subst (λ (n : ℕ). IsTaken all left.items (set hs n c.commit.new.self)) (sym at)
    (subst (λ (h : History). IsTaken all left.items (set hs (length left.items) h)) (sym c.commit.ensures)
    (next-taken all c.commits.ready.items left.items c.in-Some.next hs c.in-Some.ensures.items c.commits.invariant))
