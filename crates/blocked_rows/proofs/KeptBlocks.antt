-- The blocks of a record, and what an operation makes of them.
use Rattle.std.proofs.Common.{◌≡◌, ℕ, ◌+◌, ◌==◌, ◌||◌, not, Bool, true, false, cond, List, [], ◌∷◌, length, map, None, Some, refl, sym, ap, ◌∙◌, arith, suc}
use Rattle.std.specs.List.{All, filter, list_any}
use Rattle.cell_units.specs.declared.place.Shift.{Shift}
use Rattle.cell_units.specs.declared.place.Side.{Side}
use Rattle.cell_units.specs.declared.place.Side.TheVariants.{Above, Below}
use Rattle.cell_units.specs.Lawful as lawful
use Rattle.cell_units.specs.Lawful.{HasLawfulEntries, source_of}
use Rattle.cell_units.specs.Operation.{AddBlock, AddFold, AddInlay, Operation, RemoveBlock, RemoveFold, RemoveInlay, Replace, SetTab, SetWidth, block_at_row, move_block, operated}
use Rattle.cell_units.specs.Record.{Block, Record, block_le}
use Rattle.cell_units.specs.Sorting.{insert_by, sort_by}
use Rattle.cell_units.specs.Text.{clean}
use Rattle.cell_units.proofs.CutLists.{Every}
use Rattle.cell_units.proofs.EntryOrders.{block_total, block_trans}
use Rattle.cell_units.proofs.FoundEntries.{All-from_Every, Every-from_All}
use Rattle.cell_units.proofs.SortedLists.{Every-filter, filter-sort}
use Rattle.mark_tree.proofs.Sorting as sorting
use Rattle.mark_tree.proofs.Sorting.{insert-map, sort-map}
use Rattle.plain_rows.specs.Rows.{is_on}
use Rattle.block_map.specs.Maps.{Kept, kept_le, move_kept, placed, synced, without}
use Rattle.blocked_rows.specs.Laws.{AddsToRecord, AreAsMany, HaveIds, MovesWithRecord, PlacesBlocks, TakesFromRecord}
use Rattle.blocked_rows.specs.Records.{IsShiftOf, Lines, kept_block, kept_blocks, kept_on}
use Rattle.blocked_rows.specs.Standing.{IsBlockOf}

abbrev on : Side → Block → Bool
on side b = is_on side b.side

abbrev side_of : Record → Side → List Block
side_of r side = filter (on side) r.blocks

-- ---- lists

filter-map : {X Y : Type 0} (f : X → Y) (p : X → Bool) (q : Y → Bool) → ((x : X) → q (f x) ≡ p x) → (xs : List X) → filter q (map f xs) ≡ map f (filter p xs)
filter-map f p q same [] = refl
filter-map f p q same (x ∷ xs) = (λ i. cond (same x i) (f x ∷ filter-map f p q same xs i) (filter-map f p q same xs i)) ∙ go (p x) where
  go : (b : Bool) → cond b (f x ∷ map f (filter p xs)) (map f (filter p xs)) ≡ map f (cond b (x ∷ filter p xs) (filter p xs))
  go true = refl
  go false = refl

filter-swap : {X : Type 0} (p q : X → Bool) (xs : List X) → filter p (filter q xs) ≡ filter q (filter p xs)
filter-swap p q [] = refl
filter-swap p q (x ∷ xs) = go (q x) (p x) refl refl (filter-swap p q xs) where
  go : (b c : Bool) → q x ≡ b → p x ≡ c → filter p (filter q xs) ≡ filter q (filter p xs)
      → filter p (cond b (x ∷ filter q xs) (filter q xs)) ≡ filter q (cond c (x ∷ filter p xs) (filter p xs))
  go true true h k r =
      (λ i. cond (k i) (x ∷ filter p (filter q xs)) (filter p (filter q xs)))
      ∙ (λ i. x ∷ r i)
      ∙ (λ i. cond (sym h i) (x ∷ filter q (filter p xs)) (filter q (filter p xs)))
  go true false h k r = (λ i. cond (k i) (x ∷ filter p (filter q xs)) (filter p (filter q xs))) ∙ r
  go false true h k r = r ∙ (λ i. cond (sym h i) (x ∷ filter q (filter p xs)) (filter q (filter p xs)))
  go false false h k r = r

any : {X : Type 0} (xs : List X) → sorting.Every (λ x. Unit {0}) xs
any [] = tt
any (x ∷ xs) = (tt, any xs)

-- one that is put among entries in order is among those that pass, if it does
filter-inserted : (p : Block → Bool) (b : Block) (bs : List Block) → sort_by block_le bs ≡ bs
    → filter p (insert_by block_le b bs) ≡ cond (p b) (insert_by block_le b (filter p bs)) (filter p bs)
filter-inserted p b bs ordered =
    (λ i. filter p (insert_by block_le b (sym ordered i))) ∙ filter-sort block_le block_total block_trans p (b ∷ bs) ∙ go (p b) where
      sorted : sort_by block_le (filter p bs) ≡ filter p bs
      sorted = sym (filter-sort block_le block_total block_trans p bs) ∙ ap (filter p) ordered

      go : (c : Bool) → sort_by block_le (cond c (b ∷ filter p bs) (filter p bs)) ≡ cond c (insert_by block_le b (filter p bs)) (filter p bs)
      go true = ap (insert_by block_le b) sorted
      go false = sorted

-- ---- blocks that are moved

-- where a block was shown is forgotten
again : (r r' : Record) (old new : Lines) (side : Side) (bs : List Block) → map (placed (source_of r') new side) (map (kept_block r old side) bs) ≡ map (kept_block r' new side) bs
again r r' old new side [] = refl
again r r' old new side (b ∷ bs) = ap (λ (l : List Kept). kept_block r' new side b ∷ l) (again r r' old new side bs)

module _ (a b : ℕ) (s : List ℕ) (r : Record) (shift : Shift) (is : IsShiftOf (Replace a b s) (Some shift)) (old new : Lines) where
  abbrev n : ℕ
  n = length (clean s)

  abbrev made : Record
  made = operated (Replace a b s) r

  each-moved : (side : Side) (bs : List Block)
      → map (placed (source_of made) new side) (map (move_kept shift) (map (kept_block r old side) bs)) ≡ map (kept_block made new side) (map (move_block a b n) bs)
  each-moved side [] = refl
  each-moved side (k ∷ bs) = λ i. kept_block made new side (move_block (is.0 i) (is.1 i) (is.2 i) k) ∷ each-moved side bs i

  side-moved : (side : Side) → map (placed (source_of made) new side) (sort_by kept_le (map (move_kept shift) (kept_on r old side))) ≡ kept_on made new side
  side-moved side =
      let bs = side_of r side in
      let ks = map (move_kept shift) (kept_on r old side) in
      let moved = map (move_block a b n) bs in
      let all = map (move_block a b n) r.blocks in
      sort-map (placed (source_of made) new side) kept_le kept_le (λ (k : Kept). Unit {0}) (λ x y p q. refl) ks (any ks)
      ∙ ap (sort_by kept_le) (each-moved side bs)
      ∙ sym (sort-map (kept_block made new side) block_le kept_le (λ (k : Block). Unit {0}) (λ x y p q. refl) moved (any moved))
      ∙ ap (λ (l : List Block). map (kept_block made new side) (sort_by block_le l)) (sym (filter-map (move_block a b n) (on side) (on side) (λ k. refl) r.blocks))
      ∙ ap (map (kept_block made new side)) (sym (filter-sort block_le block_total block_trans (on side) all))

stays : (operation : Operation) (r : Record) → (operated operation r).blocks ≡ r.blocks → (old new : Lines)
    → synced (source_of (operated operation r)) None new (kept_blocks r old) ≡ kept_blocks (operated operation r) new
stays operation r same old new =
    let made = operated operation r in
    let side : (side : Side) → map (placed (source_of made) new side) (kept_on r old side) ≡ kept_on made new side =
    λ side. again r made old new side (side_of r side) ∙ ap (λ (bs : List Block). map (kept_block made new side) (filter (on side) bs)) (sym same) in
    λ i. record { lines = new; above = side Above i; below = side Below i }

pub moves-with_record : MovesWithRecord
moves-with_record (Replace a b s) r leaves None is old new = absurd is
moves-with_record (Replace a b s) r leaves (Some shift) is old new =
    λ i. record { lines = new; above = side-moved a b s r shift is old new Above i; below = side-moved a b s r shift is old new Below i }
moves-with_record (AddInlay inlay) r leaves None is old new = stays (AddInlay inlay) r refl old new
moves-with_record (AddInlay inlay) r leaves (Some shift) is old new = absurd is
moves-with_record (RemoveInlay id) r leaves None is old new = stays (RemoveInlay id) r refl old new
moves-with_record (RemoveInlay id) r leaves (Some shift) is old new = absurd is
moves-with_record (AddFold fold) r leaves None is old new = stays (AddFold fold) r refl old new
moves-with_record (AddFold fold) r leaves (Some shift) is old new = absurd is
moves-with_record (RemoveFold id) r leaves None is old new = stays (RemoveFold id) r refl old new
moves-with_record (RemoveFold id) r leaves (Some shift) is old new = absurd is
moves-with_record (AddBlock row id side given) r leaves shift is old new = absurd leaves
moves-with_record (RemoveBlock id) r leaves shift is old new = absurd leaves
moves-with_record (SetTab tab) r leaves None is old new = stays (SetTab tab) r refl old new
moves-with_record (SetTab tab) r leaves (Some shift) is old new = absurd is
moves-with_record (SetWidth width) r leaves None is old new = stays (SetWidth width) r refl old new
moves-with_record (SetWidth width) r leaves (Some shift) is old new = absurd is

-- ---- one more, and one less

module _ (r : Record) (is : HasLawfulEntries r) (lines : Lines) (row id : ℕ) (given : List (List ℕ)) where
  put : (side : Side) → Block
  put side = block_at_row r.text row id side given

  -- on the side of the block
  here : (side at : Side) → (keeps : on at (block_at_row r.text row id side given) ≡ true)
      → insert_by kept_le (kept_block r lines at (block_at_row r.text row id side given)) (kept_on r lines at) ≡ kept_on (operated (AddBlock row id side given) r) lines at
  here side at keeps =
      let b = block_at_row r.text row id side given in
      let bs = side_of r at in
      sym (insert-map (kept_block r lines at) block_le kept_le (λ (k : Block). Unit {0}) (λ x y p q. refl) b bs tt (any bs))
      ∙ ap (map (kept_block r lines at)) (sym (filter-inserted (on at) b r.blocks is.blocks.in_order ∙ (λ i. cond (keeps i) (insert_by block_le b bs) bs)))

  -- on the other
  there : (side at : Side) → on at (block_at_row r.text row id side given) ≡ false → kept_on r lines at ≡ kept_on (operated (AddBlock row id side given) r) lines at
  there side at passes =
      let b = block_at_row r.text row id side given in
      let bs = side_of r at in
      ap (map (kept_block r lines at)) (sym (filter-inserted (on at) b r.blocks is.blocks.in_order ∙ (λ i. cond (passes i) (insert_by block_le b bs) bs)))

pub adds-to_record : AddsToRecord
adds-to_record r is lines row id Above given = λ i. record { lines = lines; above = here r is lines row id given Above Above refl i; below = there r is lines row id given Above Below refl i }
adds-to_record r is lines row id Below given = λ i. record { lines = lines; above = there r is lines row id given Below Above refl i; below = here r is lines row id given Below Below refl i }

pub takes-from_record : TakesFromRecord
takes-from_record r lines id =
    let other : Block → Bool = λ b. not (b.id == id) in
    let side : (side : Side) → without id (kept_on r lines side) ≡ kept_on (operated (RemoveBlock id) r) lines side =
    λ side. filter-map (kept_block r lines side) other (λ (k : Kept). not (k.id == id)) (λ b. refl) (side_of r side)
    ∙ ap (map (kept_block r lines side)) (filter-swap other (on side) r.blocks) in
    λ i. record { lines = lines; above = side Above i; below = side Below i }

-- ---- ids and numbers

module _ (r : Record) (lines : Lines) where
  abbrev has : ℕ → Side → List Block → Bool
  has id side bs = list_any (λ (k : Kept). k.id == id) (map (kept_block r lines side) (filter (on side) bs))

  abbrev many : Side → List Block → ℕ
  many side bs = length (map (kept_block r lines side) (filter (on side) bs))

  left : (c a b : Bool) → ((c || a) || b) ≡ (c || (a || b))
  left true a b = refl
  left false a b = refl

  right : (c a b : Bool) → (a || (c || b)) ≡ (c || (a || b))
  right true true b = refl
  right true false b = refl
  right false a b = refl

  -- a block more is on one side or on the other
  id-more : (id : ℕ) (b : Block) (bs : List Block) (at : Side)
      → (list_any (λ (k : Kept). k.id == id) (map (kept_block r lines Above) (cond (is_on Above at) (b ∷ filter (on Above) bs) (filter (on Above) bs)))
      || list_any (λ (k : Kept). k.id == id) (map (kept_block r lines Below) (cond (is_on Below at) (b ∷ filter (on Below) bs) (filter (on Below) bs))))
      ≡ ((b.id == id) || (has id Above bs || has id Below bs))
  id-more id b bs Above = left (b.id == id) (has id Above bs) (has id Below bs)
  id-more id b bs Below = right (b.id == id) (has id Above bs) (has id Below bs)

  have-id : (id : ℕ) (bs : List Block) → (has id Above bs || has id Below bs) ≡ list_any (λ (b : Block). b.id == id) bs
  have-id id [] = refl
  have-id id (b ∷ bs) = id-more id b bs b.side ∙ ap (λ (c : Bool). (b.id == id) || c) (have-id id bs)

  one-more : (b : Block) (bs : List Block) (at : Side)
      → length (map (kept_block r lines Above) (cond (is_on Above at) (b ∷ filter (on Above) bs) (filter (on Above) bs)))
      + length (map (kept_block r lines Below) (cond (is_on Below at) (b ∷ filter (on Below) bs) (filter (on Below) bs)))
      ≡ suc (many Above bs + many Below bs)
  one-more b bs Above = omega arith
  one-more b bs Below = omega arith

  many-are : (bs : List Block) → many Above bs + many Below bs ≡ length bs
  many-are [] = omega arith
  many-are (b ∷ bs) = one-more b bs b.side ∙ ap suc (many-are bs)

pub have-ids : HaveIds
have-ids r lines id = have-id r lines id r.blocks

pub are-as_many : AreAsMany
are-as_many r lines = many-are r lines r.blocks

-- ---- on what is shown of the record

module _ (r : Record) (is : HasLawfulEntries r) (lines : Lines) (side : Side) where
  stand : (bs : List Block) → Every (lawful.IsBlockOf r.text) bs → Every (IsBlockOf (source_of r) lines side) (map (kept_block r lines side) bs)
  stand [] of = tt
  stand (b ∷ bs) of = (record { anchor = of.0.boundary; shown = λ row at. cc; few = of.0.lines.few }, stand bs of.1)

  all-placed : All (IsBlockOf (source_of r) lines side) (kept_on r lines side)
  all-placed =
      All-from_Every (IsBlockOf (source_of r) lines side) (kept_on r lines side)
      (stand (side_of r side) (Every-filter block_le (lawful.IsBlockOf r.text) (on side) r.blocks (Every-from_All (lawful.IsBlockOf r.text) r.blocks is.blocks.each)))

pub places-blocks : PlacesBlocks
places-blocks r is lines equal room = record {
  equal = equal;
  above = all-placed r is lines Above;
  below = all-placed r is lines Below;
  few = omega (arith, are-as_many r lines, is.blocks.few);
  room = room;
}
