-- Sums of steps.
use Rattle.std.proofs.Common.{ℕ, ◌+◌, ◌*◌, ◌≤◌, arith, mul-le-mul_right}
use Rattle.wrap_map.specs.Bounds.{landing}
use Rattle.wrap_map.specs.inside.Bounds.{closing, putting_run}

-- one more of n calls that take k steps each
pub one-more : (n m k first before after : ℕ) → before ≤ first + n * k → after ≤ before + k → n + 1 ≤ m → after ≤ first + m * k
one-more n m k first before after a b le = let h = mul-le-mul_right k le in omega (arith, a, b, h)

-- a group is closed after n lines of a run
pub landing-closed : (n count h fresh first before after : ℕ) → before + 4 * fresh ≤ first + n * (170 * (h + 1))
    → after ≤ before + closing fresh h → n ≤ count → after ≤ first + putting_run count h
landing-closed n count h fresh first before after a b le =
    let p = mul-le-mul_right (h + 1) le in
    omega (arith, a, b, p)

-- one more line of it
pub landing-grouped : (n h fresh more first before after : ℕ) → before + 4 * fresh ≤ first + n * (170 * (h + 1))
    → after + 4 * more ≤ before + 4 * fresh + 170 * (h + 1) → after + 4 * more ≤ first + (n + 1) * (170 * (h + 1))
landing-grouped n h fresh more first before after a b = omega (arith, a, b)

-- a run is put twice
pub landing-twice : (n h first between after : ℕ) → between ≤ first + putting_run n h → after ≤ between + putting_run n h → after ≤ first + landing n h
landing-twice n h first between after a b = omega (arith, a, b)

pub landing-once : (n h first after : ℕ) → after ≤ first + putting_run n h → after ≤ first + landing n h
landing-once n h first after a = omega (arith, a)
