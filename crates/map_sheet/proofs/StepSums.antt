-- Sums of steps.
use Rattle.std.proofs.Common.{◌≡◌, ℕ, ◌+◌, ◌*◌, ◌≤◌, arith, max, mul-le-mul_right}

-- blocks are shown anew, and no more edits of rows than so many move the others
pub shown-steps : (h n anew edits most a b : ℕ) → anew ≡ n → edits ≤ most → b ≤ a + (546 * anew + 684 * edits + 684) * (h + 1)
    → b ≤ a + (546 * n + 684 * most + 684) * (h + 1)
shown-steps h n anew edits most a b same few shown =
    let le : 546 * anew + 684 * edits + 684 ≤ 546 * n + 684 * most + 684 = omega (arith, same, few) in
    omega (arith, shown, mul-le-mul_right (h + 1) le)

-- before that lines make place for others
pub relaid-steps : (h n a b c : ℕ) → b ≤ a + 170 * (h + 1) → c ≤ b + (546 * n + 684 * 1 + 684) * (h + 1) → c ≤ a + (170 * (h + 1) + (546 * n + 684 * 1 + 684) * (h + 1))
relaid-steps h n a b c lines blocks = omega (arith, lines, blocks)

pub lines-steps : (h n a b : ℕ) → b ≤ a + 170 * (h + 1) → b ≤ a + (170 * (h + 1) + (546 * n + 684 * 1 + 684) * (h + 1))
lines-steps h n a b lines = omega (arith, lines)

-- the text, then lines and blocks, where neither the text nor the blocks reach further than the operation
pub text-steps : (h sought text n reach a b c : ℕ) → text ≤ reach → n ≤ reach → b ≤ a + (sought + 1400 * (text + 1) * (h + 1))
    → c ≤ b + (170 * (h + 1) + (546 * n + 684 * 1 + 684) * (h + 1)) → c ≤ a + (sought + 4000 * (reach + 1) * (h + 1))
text-steps h sought text n reach a b c texts blocks first second =
    omega (arith, first, second, mul-le-mul_right (h + 1) texts, mul-le-mul_right (h + 1) blocks)

pub laid-steps : (h sought text reach a b : ℕ) → text ≤ reach → b ≤ a + (sought + 1400 * (text + 1) * (h + 1)) → b ≤ a + (sought + 4000 * (reach + 1) * (h + 1))
laid-steps h sought text reach a b texts first = omega (arith, first, mul-le-mul_right (h + 1) texts)

-- a replacement, whose range was looked up before
pub splice-steps : (h text n reach a b c : ℕ) → text ≤ reach → n ≤ reach → b ≤ a + (0 + 1400 * (text + 1) * (h + 1))
    → c ≤ b + (170 * (h + 1) + (546 * n + 684 * 1 + 684) * (h + 1)) → c + 2 * (h + 1) ≤ a + 4000 * (reach + 1) * (h + 1)
splice-steps h text n reach a b c texts blocks first second =
    omega (arith, first, second, mul-le-mul_right (h + 1) texts, mul-le-mul_right (h + 1) blocks)

pub put-steps : (h text reach a b : ℕ) → text ≤ reach → b ≤ a + (0 + 1400 * (text + 1) * (h + 1)) → b + 2 * (h + 1) ≤ a + 4000 * (reach + 1) * (h + 1)
put-steps h text reach a b texts first = omega (arith, first, mul-le-mul_right (h + 1) texts)

-- lines and blocks alone
pub tab-steps : (h n reach a b c : ℕ) → n ≤ reach → b ≤ a + 170 * (h + 1) → c ≤ b + (546 * n + 684 * 1 + 684) * (h + 1) → c ≤ a + (0 + 4000 * (reach + 1) * (h + 1))
tab-steps h n reach a b c blocks first second = omega (arith, first, second, mul-le-mul_right (h + 1) blocks)

pub line-steps : (h reach a b : ℕ) → b ≤ a + 170 * (h + 1) → b ≤ a + (0 + 4000 * (reach + 1) * (h + 1))
line-steps h reach a b first = omega (arith, first)

-- a block alone
pub block-steps : (h sought cost reach a b : ℕ) → cost ≤ 4000 → b ≤ a + (sought + cost * (h + 1)) → b ≤ a + (sought + 4000 * (reach + 1) * (h + 1))
block-steps h sought cost reach a b le first = omega (arith, first, mul-le-mul_right (h + 1) le)

-- lines that land
pub landed-lines : (h count n a b : ℕ) → b ≤ a + 340 * (count + 1) * (h + 1) → b ≤ a + 4000 * (count + n + 1) * (h + 1)
landed-lines h count n a b first = omega (arith, first)

pub landed-steps : (h count n edits a b c : ℕ) → edits ≤ count → b ≤ a + 340 * (count + 1) * (h + 1) → c ≤ b + (546 * n + 684 * edits + 684) * (h + 1)
    → c ≤ a + 4000 * (count + n + 1) * (h + 1)
landed-steps h count n edits a b c few first second = omega (arith, first, second, mul-le-mul_right (h + 1) few)

-- ---- how far an operation reaches

pub text-reach : (lines chunks before after blocks others : ℕ) → chunks + max before after ≤ lines + (chunks + max (before + blocks) (after + others))
text-reach lines chunks before after blocks others = omega arith

pub blocks-reach : (lines chunks before after blocks others : ℕ) → blocks ≤ lines + (chunks + max (before + blocks) (after + others))
blocks-reach lines chunks before after blocks others = omega arith
