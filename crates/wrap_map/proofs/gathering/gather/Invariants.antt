use Rattle.std.proofs.Common.{◌≡◌, ◌+◌, ◌<◌, ◌^◌, All, length}
use Rattle.wrap_map.specs.inside.Gathering.{gathered}
use Rattle.wrap_map.specs.inside.Stretches.{IsStretch, spread}
use Rattle.wrap_map.proofs.gathering.gather.Given as goal

abbrev pub invariant-loop-stretch : goal.invariant-loop-stretch
invariant-loop-stretch l =
    record {
      same : gathered l.stretches.items l.stretch-iterator.rest.items ≡ gathered l.initial.stretches.items l.fn.fresh.items;
      are : All IsStretch l.stretch-iterator.rest.items → All IsStretch l.fn.fresh.items;
      fits : length (spread l.stretches.items) + length (spread l.stretch-iterator.rest.items) < 2 ^ 32;
      left : l.stretch-iterator.rest.len ≡ length l.stretch-iterator.rest.items;
      next : (goal.iterator-loop-stretch).can_next l.stretch-iterator × (goal.iterator-loop-stretch).is_finite l.stretch-iterator;
    }
