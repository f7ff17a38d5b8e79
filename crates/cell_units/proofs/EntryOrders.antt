-- The orders of a record's entries are total and transitive.
use Rattle.std.proofs.Common.{◌≡◌, ℕ, ◌<◌, Bool, true, false, eqb, ltb, leb, sym, ◌∙◌, inl, inr, arith}
use mathlib.Core.Bool.{◌&&◌}
use mathlib.Core.Logic.{◌⊎◌}
use Rattle.std.proofs.lemmas.Bool.{cases_Bool, false≢true, cases_order, lt-ltb, le-leb, ltb-true, leb-true, leb-false, eqb-true, and_parts, and_from, or_cases, or_left, or_right, eq-eqb}
use Rattle.cell_units.specs.Record.{Block, Fold, Inlay, bias_rank, block_le, fold_le, in_order, inlay_le}

pub in_order_here : (a b : ℕ) (r : Bool) → a ≡ b → r ≡ true → in_order a b r ≡ true
in_order_here a b r h e = or_right (ltb a b) (eqb a b && r) (and_from (eqb a b) r (eq-eqb a b h) e)

in_order_lt : (a b : ℕ) (r : Bool) → a < b → in_order a b r ≡ true
in_order_lt a b r h = or_left (ltb a b) (eqb a b && r) (lt-ltb a b h)

in_order_cases : (a b : ℕ) (r : Bool) → in_order a b r ≡ true → (a < b) ⊎ ((a ≡ b) × (r ≡ true))
in_order_cases a b r h = go (or_cases (ltb a b) (eqb a b && r) h) where
  go : (ltb a b ≡ true) ⊎ ((eqb a b && r) ≡ true) → (a < b) ⊎ ((a ≡ b) × (r ≡ true))
  go (inl e) = inl (ltb-true a b e)
  go (inr e) = let p = and_parts (eqb a b) r e in inr (eqb-true a b p.0, p.1)

pub in_order_rest : (a b : ℕ) (r : Bool) → a ≡ b → in_order a b r ≡ true → r ≡ true
in_order_rest a b r e h = go (in_order_cases a b r h) where
  go : (a < b) ⊎ ((a ≡ b) × (r ≡ true)) → r ≡ true
  go (inl l) = absurd (omega arith)
  go (inr p) = p.1

in_order_total : (a b : ℕ) (r s : Bool) → (r ≡ false → s ≡ true) → in_order a b r ≡ false → in_order b a s ≡ true
in_order_total a b r s f h = go (cases_order a b) where
  go : (a ≡ b) ⊎ ((a < b) ⊎ (b < a)) → in_order b a s ≡ true
  go (inl e) = in_order_here b a s (sym e) (f (rest (cases_Bool r))) where
    rest : (r ≡ true) ⊎ (r ≡ false) → r ≡ false
    rest (inr x) = x
    rest (inl x) = absurd (false≢true (sym h ∙ in_order_here a b r e x))
  go (inr (inl l)) = absurd (false≢true (sym h ∙ in_order_lt a b r l))
  go (inr (inr l)) = in_order_lt b a s l

in_order_trans : (a b c : ℕ) (r s t : Bool) → (r ≡ true → s ≡ true → t ≡ true) → in_order a b r ≡ true → in_order b c s ≡ true → in_order a c t ≡ true
in_order_trans a b c r s t f h k = go (in_order_cases a b r h) (in_order_cases b c s k) where
  go : (a < b) ⊎ ((a ≡ b) × (r ≡ true)) → (b < c) ⊎ ((b ≡ c) × (s ≡ true)) → in_order a c t ≡ true
  go (inl l) (inl m) = in_order_lt a c t (omega arith)
  go (inl l) (inr m) = in_order_lt a c t (omega (arith, m.0))
  go (inr l) (inl m) = in_order_lt a c t (omega (arith, l.0))
  go (inr l) (inr m) = in_order_here a c t (l.0 ∙ m.0) (f l.1 m.1)

id_total : (a b : ℕ) → leb a b ≡ false → leb b a ≡ true
id_total a b h = le-leb b a (omega (arith, leb-false a b h))

id_trans : (a b c : ℕ) → leb a b ≡ true → leb b c ≡ true → leb a c ≡ true
id_trans a b c h k = le-leb a c (omega (arith, leb-true a b h, leb-true b c k))

pub inlay_total : (x y : Inlay) → inlay_le x y ≡ false → inlay_le y x ≡ true
inlay_total x y = in_order_total x.offset y.offset (in_order (bias_rank x.bias) (bias_rank y.bias) (leb x.id y.id)) (in_order (bias_rank y.bias) (bias_rank x.bias) (leb y.id x.id))
    (in_order_total (bias_rank x.bias) (bias_rank y.bias) (leb x.id y.id) (leb y.id x.id) (id_total x.id y.id))

pub inlay_trans : (x y z : Inlay) → inlay_le x y ≡ true → inlay_le y z ≡ true → inlay_le x z ≡ true
inlay_trans x y z = in_order_trans x.offset y.offset z.offset _ _ _
    (in_order_trans (bias_rank x.bias) (bias_rank y.bias) (bias_rank z.bias) (leb x.id y.id) (leb y.id z.id) (leb x.id z.id) (id_trans x.id y.id z.id))

pub fold_total : (x y : Fold) → fold_le x y ≡ false → fold_le y x ≡ true
fold_total x y = in_order_total x.start y.start (in_order x.end y.end (leb x.id y.id)) (in_order y.end x.end (leb y.id x.id))
    (in_order_total x.end y.end (leb x.id y.id) (leb y.id x.id) (id_total x.id y.id))

pub fold_trans : (x y z : Fold) → fold_le x y ≡ true → fold_le y z ≡ true → fold_le x z ≡ true
fold_trans x y z = in_order_trans x.start y.start z.start _ _ _
    (in_order_trans x.end y.end z.end (leb x.id y.id) (leb y.id z.id) (leb x.id z.id) (id_trans x.id y.id z.id))

pub block_total : (x y : Block) → block_le x y ≡ false → block_le y x ≡ true
block_total x y = in_order_total x.offset y.offset (leb x.id y.id) (leb y.id x.id) (id_total x.id y.id)

pub block_trans : (x y z : Block) → block_le x y ≡ true → block_le y z ≡ true → block_le x z ≡ true
block_trans x y z = in_order_trans x.offset y.offset z.offset _ _ _ (id_trans x.id y.id z.id)
