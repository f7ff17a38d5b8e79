-- Sums of steps.
use Rattle.std.proofs.Common.{ℕ, ◌+◌, ◌*◌, ◌≤◌, arith, mul-le-mul_right}
use Rattle.std.proofs.Math.Nat.{add-mul, mul-add, mul_comm, one-mul}

-- a turn more
pub turn-steps : (k x a b c : ℕ) → b ≤ a + k * x → c ≤ b + x → c ≤ a + (k + 1) * x
turn-steps k x a b c first second = omega (arith, first, second, add-mul k 1 x, one-mul x)

-- so many turns more
pub more-turns : (x k m a b c : ℕ) → b ≤ a + x * k → c ≤ b + m * x → c ≤ a + x * (k + m)
more-turns x k m a b c first second = omega (arith, first, second, mul-add x k m, mul_comm m x)

-- the place of a row is found, and a run of n rows from it on is read
pub run-steps : (h n m a b c d : ℕ) → 1 ≤ n → n ≤ m → b ≤ a + 64 * (h + 1) → c ≤ b + (h + 1) → d ≤ c + (h + 1 + n * (h + 1)) → d ≤ a + m * (67 * (h + 1))
run-steps h n m a b c d some le first second third = omega (arith, first, second, third, mul-le-mul_right (h + 1) some, mul-le-mul_right (h + 1) le)

-- so many turns of n
pub turns-within : (k n x a b : ℕ) → k ≤ n → b ≤ a + k * x → b ≤ a + n * x
turns-within k n x a b le first = omega (arith, first, mul-le-mul_right x le)

-- both halves of a walk
pub two-walks : (n x a b c : ℕ) → b ≤ a + n * x → c ≤ b + n * x → c ≤ a + 2 * n * x
two-walks n x a b c first second = omega (arith, first, second)

pub gathered-steps : (h anchors edits a b c d : ℕ) → b ≤ a + 2 * (h + 1) → c ≤ b + anchors * (35 * (h + 1)) → d ≤ c + edits * (2 * (h + 1)) → d ≤ a + (35 * anchors + 2 * edits + 2) * (h + 1)
gathered-steps h anchors edits a b c d first second third = omega (arith, first, second, third)

pub gathered-first : (h anchors edits a b : ℕ) → b ≤ a + 2 * (h + 1) → b ≤ a + (35 * anchors + 2 * edits + 2) * (h + 1)
gathered-first h anchors edits a b first = omega (arith, first)

pub gathered-second : (h anchors edits a b c : ℕ) → b ≤ a + 2 * (h + 1) → c ≤ b + anchors * (35 * (h + 1)) → c ≤ a + (35 * anchors + 2 * edits + 2) * (h + 1)
gathered-second h anchors edits a b c first second = omega (arith, first, second)

-- marks are moved
pub remade-first : (h met places edits a b : ℕ) → b ≤ a + 170 * (h + 1) * (met + 1) → b ≤ a + (170 * met + 341 * places + 340 * edits + 170) * (h + 1)
remade-first h met places edits a b first = omega (arith, first)

-- stops are taken out
pub remade-second : (h met places edits a b c : ℕ) → b ≤ a + 170 * (h + 1) * (met + 1) → c ≤ b + places * (170 * (h + 1)) → c ≤ a + (170 * met + 341 * places + 340 * edits + 170) * (h + 1)
remade-second h met places edits a b c first second = omega (arith, first, second)

-- the others are carried
pub remade-third : (h met places edits a b c d : ℕ) → b ≤ a + 170 * (h + 1) * (met + 1) → c ≤ b + places * (170 * (h + 1)) → d ≤ c + 2 * edits * (170 * (h + 1))
    → d ≤ a + (170 * met + 341 * places + 340 * edits + 170) * (h + 1)
remade-third h met places edits a b c d first second third = omega (arith, first, second, third)

-- and those that were taken out are put in
pub remade-steps : (h met places edits a b c d e : ℕ) → b ≤ a + 170 * (h + 1) * (met + 1) → c ≤ b + places * (170 * (h + 1)) → d ≤ c + 2 * edits * (170 * (h + 1)) → e ≤ d + places * (171 * (h + 1))
    → e ≤ a + (170 * met + 341 * places + 340 * edits + 170) * (h + 1)
remade-steps h met places edits a b c d e first second third fourth = omega (arith, first, second, third, fourth)

-- marks follow the replacement before
pub side-settled : (h anew edits a b : ℕ) → b ≤ a + 170 * (h + 1) * (0 + 1) → b ≤ a + (546 * anew + 342 * edits + 342) * (h + 1)
side-settled h anew edits a b first = omega (arith, first)

-- places are gathered
pub side-gathered : (h anew anchors edits a b c : ℕ) → anchors ≤ anew → b ≤ a + 170 * (h + 1) * (0 + 1) → c ≤ b + (35 * anchors + 2 * edits + 2) * (h + 1) → c ≤ a + (546 * anew + 342 * edits + 342) * (h + 1)
side-gathered h anew anchors edits a b c n first second = omega (arith, first, second, mul-le-mul_right (h + 1) n)

-- all stops are carried
pub side-carried : (h anew anchors edits a b c d : ℕ) → anchors ≤ anew → b ≤ a + 170 * (h + 1) * (0 + 1) → c ≤ b + (35 * anchors + 2 * edits + 2) * (h + 1) → d ≤ c + 2 * edits * (170 * (h + 1))
    → d ≤ a + (546 * anew + 342 * edits + 342) * (h + 1)
side-carried h anew anchors edits a b c d n first second third = omega (arith, first, second, third, mul-le-mul_right (h + 1) n)

-- or some are made anew
pub side-remade : (h anew met anchors places edits a b c d : ℕ) → met ≤ anew → anchors ≤ anew → places ≤ anew → b ≤ a + 170 * (h + 1) * (0 + 1) → c ≤ b + (35 * anchors + 2 * edits + 2) * (h + 1)
    → d ≤ c + (170 * met + 341 * places + 340 * edits + 170) * (h + 1) → d ≤ a + (546 * anew + 342 * edits + 342) * (h + 1)
side-remade h anew met anchors places edits a b c d m n p first second third =
    omega (arith, first, second, third, mul-le-mul_right (h + 1) m, mul-le-mul_right (h + 1) n, mul-le-mul_right (h + 1) p)

pub both-steps : (h above below edits a b c : ℕ) → b ≤ a + (546 * above + 342 * edits + 342) * (h + 1) → c ≤ b + (546 * below + 342 * edits + 342) * (h + 1)
    → c ≤ a + (546 * (above + below) + 684 * edits + 684) * (h + 1)
both-steps h above below edits a b c first second = omega (arith, first, second)

pub one-steps : (h above below edits a b : ℕ) → b ≤ a + (546 * above + 342 * edits + 342) * (h + 1)
    → b ≤ a + (546 * (above + below) + 684 * edits + 684) * (h + 1)
one-steps h above below edits a b first = omega (arith, first)
