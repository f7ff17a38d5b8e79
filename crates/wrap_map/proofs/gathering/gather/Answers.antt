use Rattle.std.proofs.Common.{◌+◌, ◌<◌, ◌^◌, List, length, ap, sym, subst, ◌∙◌, arith}
use Rattle.std.specs.Prelude.{All}
use Rattle.std.proofs.lemmas.List.Elements.{All-cons}
use Rattle.wrap_map.specs.inside.Gathering.{gathered}
use Rattle.wrap_map.specs.inside.Stretches.{IsStretch, Stretched, spread}
use Rattle.wrap_map.proofs.Gathers.{lines-more}
use Rattle.wrap_map.proofs.gathering.gather.Goals as goal

pub loop-stretch-preserved : goal.loop-stretch-preserved
loop-stretch-preserved c =
    let ss = c.loop-stretch.stretches.items in
    let rest = c.next.new.self.rest.items in
    let s = c.in-Some.stretch in
    let step = c.in-Some.ensures.steps in
    let before = c.loop-stretch.invariant in
    let added = c.in_ok-add.ensures.added in
    let fits = subst (λ (l : List Stretched). length (spread ss) + length (spread l) < 2 ^ 32) step.0 before.fits in
    record {
      same = ap (λ (l : List Stretched). gathered l rest) added ∙ ap (λ (l : List Stretched). gathered ss l) (sym step.0) ∙ before.same;
      are = λ all. before.are (subst (λ (l : List Stretched). All IsStretch l) (sym step.0) (All-cons IsStretch s rest c.add.ensures.stretch all));
      fits = subst (λ (l : List Stretched). length (spread l) + length (spread rest) < 2 ^ 32) (sym added) (lines-more ss rest s fits);
      left = omega (arith, step.1, before.left, ap length step.0);
      next = (tt, tt);
    }
