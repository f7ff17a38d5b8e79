-- The blocks of both sides, taken one after another.
use Rattle.std.proofs.Common.{◌≡◌, true, false, List, [], ◌∷◌, ◌++◌, refl, sym, ◌∙◌, inl, inr}
use mathlib.Core.Logic.{◌⊎◌}
use Rattle.std.proofs.lemmas.Bool.{cases_Bool, false≢true}
use Rattle.cell_units.specs.Record.{Block, block_le}
use Rattle.cell_units.specs.Sorting.{sort_by}
use Rattle.cell_units.proofs.CutLists.{Every}
use Rattle.cell_units.proofs.EntryOrders.{block_total, block_trans}
use Rattle.cell_units.proofs.SortedLists.{IsSorted}
use Rattle.map_sheet.proofs.Merged.{every-sort, fronted, insert-low}

every-append : {X : Type 0} (P : X → Type 0) (xs ys : List X) → Every P xs → Every P ys → Every P (xs ++ ys)
every-append P [] ys a b = b
every-append P (x ∷ xs) ys a b = (a.0, every-append P xs ys a.1 b)

lower : (x y : Block) (ys : List Block) → block_le x y ≡ true → Every (λ z. block_le y z ≡ true) ys → Every (λ z. block_le x z ≡ true) ys
lower x y [] h a = tt
lower x y (z ∷ zs) h a = (block_trans x y z h a.0, lower x y zs h a.1)

-- the first of one side comes before all where it comes before the first of the other, or that has none
pub above-first : (x : Block) (xs ys : List Block) → IsSorted block_le (x ∷ xs) → IsSorted block_le ys →
    ((y : Block) (zs : List Block) → ys ≡ y ∷ zs → block_le x y ≡ true) → sort_by block_le (x ∷ xs ++ ys) ≡ x ∷ sort_by block_le (xs ++ ys)
above-first x xs ys a b first =
    insert-low block_le x (sort_by block_le (xs ++ ys))
    (every-sort block_le (λ z. block_le x z ≡ true) (xs ++ ys) (every-append (λ z. block_le x z ≡ true) xs ys a.0 (all ys b first))) where
      all : (zs : List Block) → IsSorted block_le zs → ((y : Block) (ws : List Block) → zs ≡ y ∷ ws → block_le x y ≡ true) → Every (λ z. block_le x z ≡ true) zs
      all [] s f = tt
      all (z ∷ zs) s f = (f z zs refl, lower x z zs (f z zs refl) s.0)

pub below-first : (y : Block) (xs ys : List Block) → IsSorted block_le xs → IsSorted block_le (y ∷ ys) →
    ((x : Block) (zs : List Block) → xs ≡ x ∷ zs → block_le x y ≡ false) → sort_by block_le (xs ++ y ∷ ys) ≡ y ∷ sort_by block_le (xs ++ ys)
below-first y xs ys a b first = fronted block_le y xs ys (all xs a first) b.0 where
  behind : (x z : Block) → block_le x z ≡ true → block_le x y ≡ false → block_le z y ≡ false
  behind x z le not = go (cases_Bool (block_le z y)) where
    go : (block_le z y ≡ true) ⊎ (block_le z y ≡ false) → block_le z y ≡ false
    go (inr f) = f
    go (inl t) = absurd (false≢true (sym not ∙ block_trans x z y le t))

  rest : (x : Block) → block_le x y ≡ false → (zs : List Block) → Every (λ z. block_le x z ≡ true) zs → Every (λ z. (block_le y z ≡ true) × (block_le z y ≡ false)) zs
  rest x not [] e = tt
  rest x not (z ∷ zs) e = ((block_trans y x z (block_total x y not) e.0, behind x z e.0 not), rest x not zs e.1)

  all : (zs : List Block) → IsSorted block_le zs → ((x : Block) (ws : List Block) → zs ≡ x ∷ ws → block_le x y ≡ false) → Every (λ z. (block_le y z ≡ true) × (block_le z y ≡ false)) zs
  all [] s f = tt
  all (z ∷ zs) s f = ((block_total z y (f z zs refl), f z zs refl), rest z (f z zs refl) zs s.0)
