-- The blocks of both sides, by offset and id, are those of the record.
use Rattle.std.proofs.Common.{◌≡◌, ℕ, ◌+◌, ◌<◌, ◌≤◌, Bool, true, false, cond, eqb, ltb, leb, List, [], ◌∷◌, ◌++◌, map, refl, sym, ap, ◌∙◌, inl, inr, arith}
use mathlib.Core.Bool.{◌&&◌}
use mathlib.Core.Logic.{◌⊎◌}
use Rattle.std.specs.List.{filter}
use Rattle.std.proofs.lemmas.Bool.{and_parts, cases_Bool, eq-eqb, eqb-true, false≢true, leb-true, ltb-true, or_cases}
use Rattle.cell_units.specs.declared.place.Side.{Side}
use Rattle.cell_units.specs.declared.place.Side.TheVariants.{Above, Below}
use Rattle.cell_units.specs.Lawful.{HasLawfulEntries, count_id}
use Rattle.cell_units.specs.Record.{Block, Record, block_le, in_order}
use Rattle.cell_units.specs.Sorting.{insert_by, sort_by}
use Rattle.cell_units.proofs.CutLists.{Every}
use Rattle.cell_units.proofs.Entries.{sorted_entries}
use Rattle.cell_units.proofs.EntryOrders.{block_total, block_trans}
use Rattle.cell_units.proofs.SortedLists.{Every-filter, IsSorted, count-cons}
use Rattle.plain_rows.specs.Rows.{is_on}
use Rattle.block_map.specs.Maps.{block_of, blocks_of}
use Rattle.blocked_rows.specs.Records.{kept_block, kept_blocks}

abbrev on : Side → Block → Bool
on side b = is_on side b.side

-- ---- what a block map has of a block gives it back

restored : (r : Record) (lines : List (List (List ℕ))) (side : Side) (bs : List Block) →
    map (block_of side) (map (kept_block r lines side) (filter (on side) bs)) ≡ filter (on side) bs
restored r lines side [] = refl
restored r lines side (b ∷ bs) = go side b.side refl (restored r lines side bs) where
  go : (x y : Side) → b.side ≡ y → map (block_of x) (map (kept_block r lines x) (filter (on x) bs)) ≡ filter (on x) bs →
      map (block_of x) (map (kept_block r lines x) (cond (is_on x y) (b ∷ filter (on x) bs) (filter (on x) bs)))
      ≡ cond (is_on x y) (b ∷ filter (on x) bs) (filter (on x) bs)
  go Above Above h is = λ i. record { offset = b.offset; id = b.id; side = sym h i; lines = b.lines } ∷ is i
  go Above Below h is = is
  go Below Above h is = is
  go Below Below h is = λ i. record { offset = b.offset; id = b.id; side = sym h i; lines = b.lines } ∷ is i

-- ---- a list in order, parted in two and sorted

module _ {X : Type 0} (le : X → X → Bool) where
  -- each later one comes strictly behind
  abbrev IsStrict : List X → Type 0
  IsStrict [] = Unit {0}
  IsStrict (x ∷ xs) = Every (λ y. (le x y ≡ true) × (le y x ≡ false)) xs × IsStrict xs

  pub insert-low : (x : X) (ys : List X) → Every (λ y. le x y ≡ true) ys → insert_by le x ys ≡ x ∷ ys
  insert-low x [] a = refl
  insert-low x (y ∷ ys) a = λ i. cond (a.0 i) (x ∷ y ∷ ys) (y ∷ insert_by le x ys)

  low : (x : X) (ys : List X) → Every (λ y. (le x y ≡ true) × (le y x ≡ false)) ys → Every (λ y. le x y ≡ true) ys
  low x [] a = tt
  low x (y ∷ ys) a = (a.0.0, low x ys a.1)

  every-insert : (P : X → Type 0) (x : X) (ys : List X) → P x → Every P ys → Every P (insert_by le x ys)
  every-insert P x [] h a = (h, tt)
  every-insert P x (y ∷ ys) h a = go (le x y) (every-insert P x ys h a.1) where
    go : (b : Bool) → Every P (insert_by le x ys) → Every P (cond b (x ∷ y ∷ ys) (y ∷ insert_by le x ys))
    go true r = (h, a)
    go false r = (a.0, r)

  pub every-sort : (P : X → Type 0) (xs : List X) → Every P xs → Every P (sort_by le xs)
  every-sort P [] a = tt
  every-sort P (x ∷ xs) a = every-insert P x (sort_by le xs) a.0 (every-sort P xs a.1)

  -- the least of all goes to the front
  pub fronted : (x : X) (xs ys : List X) → Every (λ y. (le x y ≡ true) × (le y x ≡ false)) xs → Every (λ y. le x y ≡ true) ys →
      sort_by le (xs ++ x ∷ ys) ≡ x ∷ sort_by le (xs ++ ys)
  fronted x [] ys a b = insert-low x (sort_by le ys) (every-sort (λ y. le x y ≡ true) ys b)
  fronted x (z ∷ zs) ys a b =
      ap (insert_by le z) (fronted x zs ys a.1 b)
      ∙ (λ i. cond (a.0.1 i) (z ∷ x ∷ sort_by le (zs ++ ys)) (x ∷ insert_by le z (sort_by le (zs ++ ys))))

  pub parted : (p q : X → Bool) → ((x : X) → ((p x ≡ true) × (q x ≡ false)) ⊎ ((p x ≡ false) × (q x ≡ true))) → (xs : List X) → IsStrict xs →
      sort_by le (filter p xs ++ filter q xs) ≡ xs
  parted p q other [] a = refl
  parted p q other (x ∷ xs) a = go (other x) (parted p q other xs a.1) where
    go : ((p x ≡ true) × (q x ≡ false)) ⊎ ((p x ≡ false) × (q x ≡ true)) → sort_by le (filter p xs ++ filter q xs) ≡ xs →
        sort_by le (cond (p x) (x ∷ filter p xs) (filter p xs) ++ cond (q x) (x ∷ filter q xs) (filter q xs)) ≡ x ∷ xs
    go (inl h) is =
        (λ i. sort_by le (cond (h.0 i) (x ∷ filter p xs) (filter p xs) ++ cond (h.1 i) (x ∷ filter q xs) (filter q xs)))
        ∙ ap (insert_by le x) is
        ∙ insert-low x xs (low x xs a.0)
    go (inr h) is =
        (λ i. sort_by le (cond (h.0 i) (x ∷ filter p xs) (filter p xs) ++ cond (h.1 i) (x ∷ filter q xs) (filter q xs)))
        ∙ fronted x (filter p xs) (filter q xs)
        (Every-filter le (λ y. (le x y ≡ true) × (le y x ≡ false)) p xs a.0)
        (Every-filter le (λ y. le x y ≡ true) q xs (low x xs a.0))
        ∙ ap (λ (l : List X). x ∷ l) is

-- ---- the blocks of a record are such a list

cases : (a b : ℕ) (r : Bool) → in_order a b r ≡ true → (a < b) ⊎ ((a ≡ b) × (r ≡ true))
cases a b r h = go (or_cases (ltb a b) (eqb a b && r) h) where
  go : (ltb a b ≡ true) ⊎ ((eqb a b && r) ≡ true) → (a < b) ⊎ ((a ≡ b) × (r ≡ true))
  go (inl e) = inl (ltb-true a b e)
  go (inr e) = let p = and_parts (eqb a b) r e in inr (eqb-true a b p.0, p.1)

same-id : (x y : Block) → block_le x y ≡ true → block_le y x ≡ true → x.id ≡ y.id
same-id x y h k = go (cases x.offset y.offset (leb x.id y.id) h) (cases y.offset x.offset (leb y.id x.id) k) where
  go : (x.offset < y.offset) ⊎ ((x.offset ≡ y.offset) × (leb x.id y.id ≡ true)) → (y.offset < x.offset) ⊎ ((y.offset ≡ x.offset) × (leb y.id x.id ≡ true)) → x.id ≡ y.id
  go (inl l) (inl m) = absurd (omega arith)
  go (inl l) (inr m) = absurd (omega (arith, m.0))
  go (inr l) (inl m) = absurd (omega (arith, l.0))
  go (inr l) (inr m) = omega (arith, leb-true x.id y.id l.1, leb-true y.id x.id m.1)

strictly : (x y : Block) → block_le x y ≡ true → eqb y.id x.id ≡ false → block_le y x ≡ false
strictly x y h other = go (cases_Bool (block_le y x)) where
  go : (block_le y x ≡ true) ⊎ (block_le y x ≡ false) → block_le y x ≡ false
  go (inr f) = f
  go (inl t) = absurd (false≢true (sym other ∙ eq-eqb y.id x.id (sym (same-id x y h t))))

all-strictly : (x : Block) (ys : List Block) → Every (λ y. block_le x y ≡ true) ys → count_id (λ b. b.id) x.id ys ≡ 0 →
    Every (λ y. (block_le x y ≡ true) × (block_le y x ≡ false)) ys
all-strictly x [] a none = tt
all-strictly x (y ∷ ys) a none = go (cases_Bool (eqb y.id x.id)) (all-strictly x ys a.1) where
  count : cond (eqb y.id x.id) 1 0 + count_id (λ (b : Block). b.id) x.id ys ≡ 0
  count = sym (count-cons (λ (b : Block). eqb b.id x.id) y ys) ∙ none

  go : (eqb y.id x.id ≡ true) ⊎ (eqb y.id x.id ≡ false) →
      (count_id (λ b. b.id) x.id ys ≡ 0 → Every (λ y. (block_le x y ≡ true) × (block_le y x ≡ false)) ys) →
      Every (λ y. (block_le x y ≡ true) × (block_le y x ≡ false)) (y ∷ ys)
  go (inl t) rest = absurd (omega (arith, count, ap {B = ℕ} (λ (b : Bool). cond b 1 0) t))
  go (inr f) rest = ((a.0, strictly x y a.0 f), rest (omega (arith, count, ap {B = ℕ} (λ (b : Bool). cond b 1 0) f)))

strict : (bs : List Block) → IsSorted block_le bs → ((id : ℕ) → count_id (λ b. b.id) id bs ≤ 1) → IsStrict block_le bs
strict [] sorted distinct = tt
strict (x ∷ xs) sorted distinct = (
  all-strictly x xs sorted.0 (omega (arith, distinct x.id, count-cons (λ (b : Block). eqb b.id x.id) x xs, ap {B = ℕ} (λ (b : Bool). cond b 1 0) (eq-eqb x.id x.id refl))),
  strict xs sorted.1 (λ id. let e = count-cons (λ (b : Block). eqb b.id id) x xs in omega (arith, distinct id, e)),
)

-- the blocks of both sides, sorted, are all
pub sides-sorted : (r : Record) → HasLawfulEntries r → sort_by block_le (filter (on Above) r.blocks ++ filter (on Below) r.blocks) ≡ r.blocks
sides-sorted r is =
    parted block_le (on Above) (on Below) (λ b. other b.side) r.blocks
    (strict r.blocks (sorted_entries block_le block_total block_trans (λ (b : Block). b.id) r.blocks is.blocks.in_order) is.blocks.distinct) where
      other : (side : Side) → ((is_on Above side ≡ true) × (is_on Below side ≡ false)) ⊎ ((is_on Above side ≡ false) × (is_on Below side ≡ true))
      other Above = inl (refl, refl)
      other Below = inr (refl, refl)

pub merged : (r : Record) (lines : List (List (List ℕ))) → HasLawfulEntries r → sort_by block_le (blocks_of (kept_blocks r lines)) ≡ r.blocks
merged r lines is =
    (λ i. sort_by block_le (restored r lines Above r.blocks i ++ restored r lines Below r.blocks i)) ∙ sides-sorted r is
