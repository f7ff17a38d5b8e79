-- That the chunks of a rope are few.
use Rattle.std.proofs.Common.{◌≡◌, ℕ, zero, suc, ◌+◌, ◌*◌, ◌^◌, ◌<◌, ◌≤◌, ◌++◌, max, min, List, [], ◌∷◌, length, length-append, take, drop, ap, ◌∙◌, inl, inr, arith}
use Rattle.std.specs.List.{All, concat}
use Rattle.std.proofs.Math.Nat.{pow-suc}
use Rattle.std.proofs.lemmas.Bool.{cases_lt}
use Rattle.std.proofs.lemmas.List.{append-nil, drop_all}
use Rattle.std.proofs.lemmas.List.Elements.{All-append, All-drop, All-head, All-same, All-tail, All-take, All-weaker}
use Rattle.text_rope.specs.Chunks.{AreChunks, AreFull, IsChunk, least}
use Rattle.text_rope.specs.Ropes.{HasHeight}

-- chunks of which each has the fewest bytes or as many as the whole text
abbrev pub AreFilled : List (List ℕ) → ℕ → Type 0
AreFilled chunks n = All (λ c. min least n ≤ length c) chunks

-- of those more than one makes a text that isn't short
pub filled_long : (chunks : List (List ℕ)) → AreChunks chunks → AreFilled chunks (length (concat chunks)) → 1 < length chunks → least ≤ length (concat chunks)
filled_long [] cut filled more = absurd (omega (arith, more))
filled_long (c ∷ []) cut filled more = absurd (omega (arith, more))
filled_long (c ∷ d ∷ cs) cut filled more =
    let first : min least (length (c ++ (d ++ concat cs))) ≤ length c = All-head (λ (x : List ℕ). min least (length (concat (c ∷ d ∷ cs))) ≤ length x) c (d ∷ cs) filled in
    let some : 0 < length d = (All-head IsChunk d cs (All-tail IsChunk c (d ∷ cs) cut)).some in
    omega (arith, first, some, length-append c (d ++ concat cs), length-append d (concat cs))

pub filled_enough : (chunks : List (List ℕ)) (n : ℕ) → AreFilled chunks n → least ≤ n → All (λ c. least ≤ length c) chunks
filled_enough chunks n filled long = All-weaker (λ (c : List ℕ). min least n ≤ length c) (λ (c : List ℕ). least ≤ length c) (λ c h. omega (arith, h, long)) chunks filled

pub filled_full : (chunks : List (List ℕ)) → AreChunks chunks → AreFilled chunks (length (concat chunks)) → AreFull chunks
filled_full chunks cut filled more = filled_enough chunks (length (concat chunks)) filled (filled_long chunks cut filled more)

all_long : (chunks : List (List ℕ)) → All (λ c. least ≤ length c) chunks → 60 * length chunks ≤ length (concat chunks)
all_long [] long = omega arith
all_long (c ∷ cs) long =
    let first : least ≤ length c = All-head (λ (x : List ℕ). least ≤ length x) c cs long in
    let rest : 60 * length cs ≤ length (concat cs) = all_long cs (All-tail (λ (x : List ℕ). least ≤ length x) c cs long) in
    omega (arith, length-append c (concat cs), first, rest)

-- there is at most one chunk for each 60 bytes, or one
pub full_few : (chunks : List (List ℕ)) → AreFull chunks → 60 * length chunks ≤ max 60 (length (concat chunks))
full_few chunks full = elim (cases_lt 1 (length chunks)) [
  | inl more ↦ omega (arith, all_long chunks (full more))
  | inr one ↦ omega (arith, one)
]

some_power : (n : ℕ) → 0 < 6 ^ n
some_power zero = omega arith
some_power (suc n) = omega (arith, pow-suc 6 n, some_power n)

-- so a tree of them is as high as the rope's text allows
pub full_height : (chunks : List (List ℕ)) (h : ℕ) → AreFull chunks → HasHeight h (concat chunks) → length chunks < 2 * 6 ^ (h + 1)
full_height chunks h full high = elim (cases_lt 1 (length chunks)) [
  | inl more ↦ omega (arith, all_long chunks (full more), high)
  | inr one ↦ omega (arith, one, some_power (h + 1))
]

-- chunks whose middle was made anew are full
pub renewed_full : (chunks made : List (List ℕ)) (from to n : ℕ) → AreFull chunks → AreFull made → AreFilled made n → to ≤ length chunks →
    (0 < from → (1 < length chunks) × (least ≤ n)) → (to < length chunks → (1 < length chunks) × (least ≤ n)) →
    AreFull (take from chunks ++ (made ++ drop to chunks))
renewed_full chunks made zero to n full own filled within front back more = elim (cases_lt to (length chunks)) [
  | inl before ↦
      let both = back before in
      All-append (λ (c : List ℕ). least ≤ length c) made (drop to chunks) (filled_enough made n filled both.1) (All-drop (λ (c : List ℕ). least ≤ length c) to chunks (full both.0))
  | inr end ↦
      let same : made ++ drop to chunks ≡ made = ap (λ (l : List (List ℕ)). made ++ l) (drop_all to chunks end) ∙ append-nil made in
      All-same (λ (c : List ℕ). least ≤ length c) (made ++ drop to chunks) made same (own (omega (arith, more, ap length same)))
]
renewed_full chunks made (suc from) to n full own filled within front back more =
    let both = front (omega arith) in
    let old : All (λ (c : List ℕ). least ≤ length c) chunks = full both.0 in
    All-append (λ (c : List ℕ). least ≤ length c) (take (suc from) chunks) (made ++ drop to chunks) (All-take (λ (c : List ℕ). least ≤ length c) (suc from) chunks old)
    (All-append (λ (c : List ℕ). least ≤ length c) made (drop to chunks) (filled_enough made n filled both.1) (All-drop (λ (c : List ℕ). least ≤ length c) to chunks old))
