-- The lines from the first of some flags to the last.
use Rattle.std.proofs.Common.{◌≡◌, ◌⊎◌, ℕ, ◌+◌, ◌-◌, ◌<◌, ◌≤◌, ◌||◌, not, zero, suc, Bool, true, false, cond, List, [], ◌∷◌, get_or, refl, sym, ap, ◌∙◌, inl, inr, arith}
use Rattle.std.specs.List.{list_any, prefix_len}
use Rattle.std.proofs.lemmas.Bool.{cases_lt, false≢true}
use Rattle.row_pieces.specs.declared.row_change.RowChange.{RowChange}
use Rattle.row_pieces.specs.Changed.{change, no_change}
use Rattle.view_changes.specs.Events.{last_end, lines_flagged}
use Rattle.view_changes.specs.inside.Flags.{GoFromFirstToLast}

-- there is a flag that is set, or none is
any-at : (flags : List Bool) (k : ℕ) → get_or flags k false ≡ true → list_any (λ f. f) flags ≡ true
any-at [] k on = absurd (false≢true on)
any-at (f ∷ fs) zero on = ap (λ (b : Bool). b || list_any (λ f. f) fs) on
any-at (f ∷ fs) (suc k) on = either f (any-at fs k on) where
  either : (b : Bool) → list_any (λ f. f) fs ≡ true → (b || list_any (λ f. f) fs) ≡ true
  either true e = refl
  either false e = e

none-at : (flags : List Bool) → list_any (λ f. f) flags ≡ false → (k : ℕ) → get_or flags k false ≡ false
none-at [] none k = refl
none-at (f ∷ fs) none k = go f none k (none-at fs) where
  go : (b : Bool) → (b || list_any (λ f. f) fs) ≡ false → (k : ℕ) → (list_any (λ f. f) fs ≡ false → (k : ℕ) → get_or fs k false ≡ false) → get_or (b ∷ fs) k false ≡ false
  go true none k rest = absurd (false≢true (sym none))
  go false none zero rest = refl
  go false none (suc k) rest = rest none k

-- the first
first-set : (flags : List Bool) → list_any (λ f. f) flags ≡ true → get_or flags (prefix_len not flags) false ≡ true
first-set [] any = absurd (false≢true any)
first-set (f ∷ fs) any = go f any (first-set fs) where
  go : (b : Bool) → (b || list_any (λ f. f) fs) ≡ true → (list_any (λ f. f) fs ≡ true → get_or fs (prefix_len not fs) false ≡ true) →
      get_or (b ∷ fs) (cond (not b) (1 + prefix_len not fs) 0) false ≡ true
  go true any rest = refl
  go false any rest = let one : 1 + prefix_len not fs ≡ suc (prefix_len not fs) = omega arith in ap (λ (n : ℕ). get_or (false ∷ fs) n false) one ∙ rest any

from-first : (flags : List Bool) (k : ℕ) → get_or flags k false ≡ true → prefix_len not flags ≤ k
from-first [] k on = omega arith
from-first (f ∷ fs) k on = go f k on (from-first fs) where
  go : (b : Bool) (k : ℕ) → get_or (b ∷ fs) k false ≡ true → ((k : ℕ) → get_or fs k false ≡ true → prefix_len not fs ≤ k) → cond (not b) (1 + prefix_len not fs) 0 ≤ k
  go true k on rest = omega arith
  go false zero on rest = absurd (false≢true on)
  go false (suc k) on rest = omega (arith, rest k on)

-- the last
to-last : (flags : List Bool) (k : ℕ) → get_or flags k false ≡ true → k < last_end flags
to-last [] k on = absurd (false≢true on)
to-last (f ∷ fs) k on = go (list_any (λ f. f) (f ∷ fs)) (any-at (f ∷ fs) k on) k on (to-last fs) where
  go : (b : Bool) → b ≡ true → (k : ℕ) → get_or (f ∷ fs) k false ≡ true → ((k : ℕ) → get_or fs k false ≡ true → k < last_end fs) → k < cond b (last_end fs + 1) 0
  go false e k on rest = absurd (false≢true e)
  go true e zero on rest = omega arith
  go true e (suc k) on rest = omega (arith, rest k on)

last-none : (flags : List Bool) → list_any (λ f. f) flags ≡ false → last_end flags ≡ 0
last-none [] none = refl
last-none (f ∷ fs) none = ap (λ (b : Bool). cond b (last_end fs + 1) 0) none

last-set : (flags : List Bool) → list_any (λ f. f) flags ≡ true → get_or flags (last_end flags - 1) false ≡ true
last-set [] any = absurd (false≢true any)
last-set (f ∷ fs) any =
    let end : last_end (f ∷ fs) ≡ last_end fs + 1 = ap (λ (b : Bool). cond b (last_end fs + 1) 0) any in
    let at : last_end (f ∷ fs) - 1 ≡ last_end fs = omega (arith, end) in
    ap (λ (n : ℕ). get_or (f ∷ fs) n false) at ∙ go (list_any (λ f. f) fs) refl any (last-set fs) where
      go : (b : Bool) → list_any (λ f. f) fs ≡ b → (f || list_any (λ f. f) fs) ≡ true → (list_any (λ f. f) fs ≡ true → get_or fs (last_end fs - 1) false ≡ true) →
          get_or (f ∷ fs) (last_end fs) false ≡ true
      go true e any rest =
          let some = to-last fs (last_end fs - 1) (rest e) in
          let at : last_end fs ≡ suc (last_end fs - 1) = omega (arith, some) in
          ap (λ (n : ℕ). get_or (f ∷ fs) n false) at ∙ rest e
      go false e any rest = ap (λ (n : ℕ). get_or (f ∷ fs) n false) (last-none fs e) ∙ only f e any where
        only : (f : Bool) → list_any (λ f. f) fs ≡ false → (f || list_any (λ f. f) fs) ≡ true → f ≡ true
        only true e any = refl
        only false e any = absurd (false≢true (sym e ∙ any))

-- ---- the lines

pub flagged-go : (flags : List Bool) → GoFromFirstToLast flags (lines_flagged flags)
flagged-go flags = go (list_any (λ f. f) flags) refl where
  first : ℕ
  first = prefix_len not flags

  go : (b : Bool) → list_any (λ f. f) flags ≡ b → GoFromFirstToLast flags (cond b (change first (last_end flags) (last_end flags - first)) no_change)
  go true any =
      let here = first-set flags any in
      record {
        as_many = refl;
        within = λ k on. (from-first flags k on, to-last flags k on);
        first = λ lt. here;
        last = λ lt. last-set flags any;
        none = λ le. absurd (omega (arith, le, to-last flags first here));
      }
  go false none = record {
    as_many = refl;
    within = λ k on. absurd (false≢true (sym (none-at flags none k) ∙ on));
    first = λ lt. absurd (omega (arith, lt));
    last = λ lt. absurd (omega (arith, lt));
    none = λ le. refl;
  }

-- there is but one such change of lines
pub go-once : (flags : List Bool) (c d : RowChange) → GoFromFirstToLast flags c → GoFromFirstToLast flags d → c ≡ d
go-once flags c d g h = go (cases_lt c.from c.to) (cases_lt d.from d.to) where
  -- a run that isn't empty lies within the other
  inside : (c d : RowChange) → GoFromFirstToLast flags c → GoFromFirstToLast flags d → c.from < c.to → (d.from ≤ c.from) × (c.to ≤ d.to)
  inside c d g h lt =
      let first = h.within c.from (g.first lt) in
      let last = h.within (c.to - 1) (g.last lt) in
      (first.0, omega (arith, last.1, lt))

  go : (c.from < c.to) ⊎ (c.to ≤ c.from) → (d.from < d.to) ⊎ (d.to ≤ d.from) → c ≡ d
  go (inl lt) (inl lt') =
      let one = inside c d g h lt in
      let two = inside d c h g lt' in
      let from : c.from ≡ d.from = omega (arith, one.0, two.0) in
      let to : c.to ≡ d.to = omega (arith, one.1, two.1) in
      let count : c.count ≡ d.count = omega (arith, g.as_many, h.as_many, from, to) in
      λ i. record { from = from i; to = to i; count = count i }
  go (inl lt) (inr le) = let one = inside c d g h lt in absurd (omega (arith, one.0, one.1, lt, le))
  go (inr le) (inl lt) = let one = inside d c h g lt in absurd (omega (arith, one.0, one.1, lt, le))
  go (inr le) (inr le') = g.none le ∙ sym (h.none le')
