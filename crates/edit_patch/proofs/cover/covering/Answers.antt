use Rattle.std.proofs.Common.{◌≡◌, ◌+◌, ◌-◌, max, min, arith}
use Rattle.edit_patch.proofs.cover.covering.Goals as goal

pub returns : goal.returns
returns c =
    let f = c.args.first in
    let s = c.args.second in
    let start : c.new.result.start ≡ min f.start s.start = omega (arith, c.new.ensures.start) in
    let end : c.new.result.end ≡ max (f.start + f.count) s.end - (f.start + f.count) + f.end = omega (arith, c.new.ensures.end) in
    let count : c.new.result.count ≡ s.start + s.count + (max (f.start + f.count) s.end - s.end) - min f.start s.start = omega (arith, c.new.ensures.count) in
    λ i. record { start = start i; end = end i; count = count i }
