-- The blocks of a record, listed from those of its two sides.
use Rattle.std.proofs.Common.{◌≡◌, ◌≤◌, ◌+◌, ◌<◌, ℕ, zero, suc, true, false, List, [], ◌∷◌, ◌++◌, append-nil, append_assoc, drop, get_or, length, map, refl, sym, ap, subst, ◌∙◌, inl, inr, arith}
use mathlib.Core.Logic.{◌⊎◌}
use Rattle.std.specs.Prelude.{Option, None, Some, nat_le, slice_get}
use Rattle.std.specs.Option.{option_map}
use Rattle.std.proofs.Math.Seq.{drop-cons}
use Rattle.std.proofs.lemmas.List.{drop_all, length-map, map-append}
use Rattle.std.proofs.lemmas.Option.{get_or_from_slice_get, slice_get-map, slice_get_cases, slice_get_past, slice_get_within}
use Rattle.cell_units.specs.declared.place.Side.{Side}
use Rattle.cell_units.specs.declared.place.Side.TheVariants.{Above, Below}
use Rattle.cell_units.specs.Lawful.{HasLawfulEntries}
use Rattle.cell_units.specs.Record.{Block, Record, block_le, in_order}
use Rattle.cell_units.specs.Sorting.{sort_by}
use Rattle.cell_units.proofs.CutLists.{Every}
use Rattle.cell_units.proofs.Entries.{sorted_entries}
use Rattle.cell_units.proofs.EntryOrders.{block_total, block_trans}
use Rattle.cell_units.proofs.SortedLists.{Every-passed, IsSorted, IsSorted-filter}
use Rattle.plain_rows.specs.declared.plain.PlainBlock.{PlainBlock}
use Rattle.plain_rows.specs.Plain.{block_of}
use Rattle.plain_rows.specs.Rows.{is_on}
use Rattle.block_map.specs.Maps.{BlockState, IsBlockAt, Kept, on_side}
use Rattle.blocked_rows.specs.Laws.{AreAsMany}
use Rattle.blocked_rows.specs.Records.{kept_block, kept_blocks, row_texts}
use Rattle.map_sheet.specs.Listed.{AreListed, IsNextSide, key_of, side_blocks}
use Rattle.map_sheet.proofs.Merged.{sides-sorted}
use Rattle.map_sheet.proofs.Merging.{above-first, below-first}

-- ---- one block

abbrev block : ℕ → ℕ → Side → List (List ℕ) → Block
block offset id side lines = record { offset = offset; id = id; side = side; lines = lines }

on-is : (r : Record) (lines : List (List (List ℕ))) (side : Side) → on_side side (kept_blocks r lines) ≡ map (kept_block r lines side) (side_blocks r side)
on-is r lines Above = refl
on-is r lines Below = refl

pub length-on : (r : Record) (lines : List (List (List ℕ))) (side : Side) → length (on_side side (kept_blocks r lines)) ≡ length (side_blocks r side)
length-on r lines side = ap length (on-is r lines side) ∙ length-map (side_blocks r side) (kept_block r lines side)

not-there : {X : Type 0} (x : X) → None ≡ Some x → ⊥
not-there x h = cc

same-some : {X : Type 0} (x y : X) → Some x ≡ Some y → x ≡ y
same-some x y h = cc

-- a block of a side is on that side
its-side : (side : Side) (b : Block) → is_on side b.side ≡ true → b.side ≡ side
its-side side b = go side b.side where
  go : (x y : Side) → is_on x y ≡ true → y ≡ x
  go Above Above h = refl
  go Below Below h = refl
  go Above Below h = absurd (cc)
  go Below Above h = absurd (cc)

passed-at : {X : Type 0} (P : X → Type 0) (xs : List X) (k : ℕ) (x : X) → Every P xs → slice_get xs k ≡ Some x → P x
passed-at P [] k x e h = absurd (not-there x h)
passed-at P (y ∷ ys) zero x e h = let same : y ≡ x = (let h' : Some y ≡ Some x = h in cc) in subst P same e.0
passed-at P (y ∷ ys) (suc k) x e h = passed-at P ys k x e.1 h

found-is : (r : Record) (lines : List (List (List ℕ))) (side : Side) (o : Option Block) (k : Kept) → option_map (kept_block r lines side) o ≡ Some k →
    (b : Block) × (o ≡ Some b) × (kept_block r lines side b ≡ k)
found-is r lines side None k h = absurd (not-there k h)
found-is r lines side (Some b) k h = (b, refl, (let h' : Some (kept_block r lines side b) ≡ Some k = h in cc))

pub block-found : (r : Record) (lines : List (List (List ℕ))) (side : Side) (at offset id : ℕ) (texts : List (List ℕ)) →
    IsBlockAt (on_side side (kept_blocks r lines)) at offset id texts → slice_get (side_blocks r side) at ≡ Some (block offset id side texts)
block-found r lines side at offset id texts is =
    let here : option_map (kept_block r lines side) (slice_get (side_blocks r side) at) ≡ Some is.0 =
    sym (slice_get-map (kept_block r lines side) (side_blocks r side) at) ∙ ap (λ (ks : List Kept). slice_get ks at) (sym (on-is r lines side)) ∙ is.1 in
    let f = found-is r lines side (slice_get (side_blocks r side) at) is.0 here in
    let b = f.0 in
    let on : b.side ≡ side = its-side side b (passed-at (λ (x : Block). is_on side x.side ≡ true) (side_blocks r side) at b (Every-passed (λ (x : Block). is_on side x.side) r.blocks) f.1) in
    f.1
    ∙ (λ i. Some (record {
      offset = (ap (λ (k : Kept). k.offset) f.2 ∙ is.2) i;
      id = (ap (λ (k : Kept). k.id) f.2 ∙ is.3) i;
      side = on i;
      lines = (ap (λ (k : Kept). k.lines) f.2 ∙ is.4) i;
    }))

pub block-missing : (r : Record) (lines : List (List (List ℕ))) (side : Side) (at : ℕ) → length (on_side side (kept_blocks r lines)) ≤ at → slice_get (side_blocks r side) at ≡ None
block-missing r lines side at le = slice_get_past (side_blocks r side) at (omega (arith, le, length-on r lines side))

-- the same of a map of blocks that has those of a record
module _ (r : Record) (b : BlockState) (b_is : b ≡ kept_blocks r (row_texts r)) (side : Side) (at : ℕ) where
  pub here : (offset id : ℕ) (texts : List (List ℕ)) → IsBlockAt (on_side side b) at offset id texts → slice_get (side_blocks r side) at ≡ Some (block offset id side texts)
  here offset id texts is =
      block-found r (row_texts r) side at offset id texts (subst (λ (x : BlockState). IsBlockAt (on_side side x) at offset id texts) b_is is)

  pub gone : length (on_side side b) ≤ at → slice_get (side_blocks r side) at ≡ None
  gone le = block-missing r (row_texts r) side at (subst (λ (x : BlockState). length (on_side side x) ≤ at) b_is le)

  pub key-found : (offset id : ℕ) (texts : List (List ℕ)) → IsBlockAt (on_side side b) at offset id texts → Some (offset, id) ≡ key_of (slice_get (side_blocks r side) at)
  key-found offset id texts is = sym (ap key_of (here offset id texts is))

  pub key-missing : length (on_side side b) ≤ at → None ≡ key_of (slice_get (side_blocks r side) at)
  key-missing le = sym (ap key_of (gone le))

  pub block-there : at < length (side_blocks r side) → length (on_side side b) ≤ at → ⊥
  block-there lt le =
      let short : length (on_side side (kept_blocks r (row_texts r))) ≤ at = subst (λ (x : BlockState). length (on_side side x) ≤ at) b_is le in
      omega (arith, lt, short, length-on r (row_texts r) side)

pub as-many : AreAsMany → (r : Record) (b : BlockState) → b ≡ kept_blocks r (row_texts r) → length b.above + length b.below ≡ length r.blocks
as-many many r b b_is = ap (λ (x : BlockState). length x.above + length x.below) b_is ∙ many r (row_texts r)

-- ---- all of them

pub none-listed : (r : Record) → HasLawfulEntries r → AreListed r 0 0 []
none-listed r is = record { merged = sides-sorted r is; in_above = omega arith; in_below = omega arith }

sorted-side : (r : Record) → HasLawfulEntries r → (side : Side) → IsSorted block_le (side_blocks r side)
sorted-side r is side =
    IsSorted-filter block_le (λ b. is_on side b.side) r.blocks
    (sorted_entries block_le block_total block_trans (λ (b : Block). b.id) r.blocks is.blocks.in_order)

sorted-drop : (n : ℕ) (bs : List Block) → IsSorted block_le bs → IsSorted block_le (drop n bs)
sorted-drop zero bs s = s
sorted-drop (suc n) [] s = tt
sorted-drop (suc n) (b ∷ bs) s = sorted-drop n bs s.1

next-is : (bs : List Block) (n : ℕ) (b : Block) → slice_get bs n ≡ Some b → drop n bs ≡ b ∷ drop (suc n) bs
next-is bs n b h = drop-cons bs n b (slice_get_within bs n b h) ∙ (λ i. get_or_from_slice_get bs n b b h i ∷ drop (suc n) bs)

head-is : (bs : List Block) (n : ℕ) (b : Block) (rest : List Block) → drop n bs ≡ b ∷ rest → slice_get bs n ≡ Some b
head-is [] zero b rest h = let no : [] ≡ b ∷ rest = h in absurd (cc)
head-is [] (suc n) b rest h = let no : [] ≡ b ∷ rest = h in absurd (cc)
head-is (x ∷ xs) zero b rest h = let same : x ∷ xs ≡ b ∷ rest = h in ap Some (cc)
head-is (x ∷ xs) (suc n) b rest h = head-is xs n b rest h

module _ (r : Record) (is : HasLawfulEntries r) (above below : ℕ) (listed : List Block) (are : AreListed r above below listed) where
  abbrev aboves : List Block
  aboves = side_blocks r Above

  abbrev belows : List Block
  belows = side_blocks r Below

  more : (x : Block) (rest : List Block) → sort_by block_le (drop above aboves ++ drop below belows) ≡ x ∷ rest → (listed ++ x ∷ []) ++ rest ≡ r.blocks
  more x rest e = append_assoc listed (x ∷ []) rest ∙ ap (λ (l : List Block). listed ++ l) (sym e) ∙ are.merged

  pub above-listed : (x : Block) → slice_get aboves above ≡ Some x → ((y : Block) → slice_get belows below ≡ Some y → block_le x y ≡ true) → AreListed r (above + 1) below (listed ++ x ∷ [])
  above-listed x here first =
      let next : drop above aboves ≡ x ∷ drop (suc above) aboves = next-is aboves above x here in
      let sorted : IsSorted block_le (x ∷ drop (suc above) aboves) = subst (IsSorted block_le) next (sorted-drop above aboves (sorted-side r is Above)) in
      let taken : sort_by block_le (drop above aboves ++ drop below belows) ≡ x ∷ sort_by block_le (drop (suc above) aboves ++ drop below belows) =
      ap (λ (l : List Block). sort_by block_le (l ++ drop below belows)) next
      ∙ above-first x (drop (suc above) aboves) (drop below belows) sorted (sorted-drop below belows (sorted-side r is Below)) (λ y zs e. first y (head-is belows below y zs e)) in
      let one : suc above ≡ above + 1 = omega arith in
      record {
        merged = more x (sort_by block_le (drop (above + 1) aboves ++ drop below belows)) (taken ∙ ap (λ (n : ℕ). x ∷ sort_by block_le (drop n aboves ++ drop below belows)) one);
        in_above = omega (arith, slice_get_within aboves above x here);
        in_below = are.in_below;
      }

  pub below-listed : (y : Block) → slice_get belows below ≡ Some y → ((x : Block) → slice_get aboves above ≡ Some x → block_le x y ≡ false) → AreListed r above (below + 1) (listed ++ y ∷ [])
  below-listed y here first =
      let next : drop below belows ≡ y ∷ drop (suc below) belows = next-is belows below y here in
      let sorted : IsSorted block_le (y ∷ drop (suc below) belows) = subst (IsSorted block_le) next (sorted-drop below belows (sorted-side r is Below)) in
      let taken : sort_by block_le (drop above aboves ++ drop below belows) ≡ y ∷ sort_by block_le (drop above aboves ++ drop (suc below) belows) =
      ap (λ (l : List Block). sort_by block_le (drop above aboves ++ l)) next
      ∙ below-first y (drop above aboves) (drop (suc below) belows) (sorted-drop above aboves (sorted-side r is Above)) sorted (λ x zs e. first x (head-is aboves above x zs e)) in
      let one : suc below ≡ below + 1 = omega arith in
      record {
        merged = more y (sort_by block_le (drop above aboves ++ drop (below + 1) belows)) (taken ∙ ap (λ (n : ℕ). y ∷ sort_by block_le (drop above aboves ++ drop n belows)) one);
        in_above = are.in_above;
        in_below = omega (arith, slice_get_within belows below y here);
      }

  -- the same of the block that is read there
  pub above-pushed : (b : Block) → IsNextSide r above below Above → slice_get aboves above ≡ Some b → AreListed r (above + 1) below (listed ++ b ∷ [])
  above-pushed b next here = above-listed b here (λ y there. subst (λ (x : Block). block_le x y ≡ true) (same-some next.0 b (sym next.1 ∙ here)) (next.2 y there))

  pub below-pushed : (b : Block) → IsNextSide r above below Below → slice_get belows below ≡ Some b → AreListed r above (below + 1) (listed ++ b ∷ [])
  below-pushed b next here = below-listed b here (λ x there. subst (λ (y : Block). block_le x y ≡ false) (same-some next.0 b (sym next.1 ∙ here)) (next.2 x there))

  -- both sides have as many blocks as the record
  pub sides-long : AreAsMany → (lines : List (List (List ℕ))) → length aboves + length belows ≡ length r.blocks
  sides-long many lines = omega (arith, many r lines, length-on r lines Above, length-on r lines Below)

  pub all-listed : AreAsMany → (lines : List (List (List ℕ))) → length r.blocks ≤ above + below → listed ≡ r.blocks
  all-listed many lines all =
      let long = sides-long many lines in
      let none : sort_by block_le (drop above aboves ++ drop below belows) ≡ [] =
      (λ i. sort_by block_le
      (drop_all above aboves (omega (arith, long, all, are.in_above, are.in_below)) i ++ drop_all below belows (omega (arith, long, all, are.in_above, are.in_below)) i)) in
      sym (append-nil listed) ∙ ap (λ (l : List Block). listed ++ l) (sym none) ∙ are.merged

-- with the block that is put after the others
pub put-behind : (r : Record) (n m m' : ℕ) (items items' : List PlainBlock) (x : PlainBlock) → m ≡ m' → items' ≡ items ++ x ∷ [] →
    AreListed r n m (map block_of items ++ block_of x ∷ []) → AreListed r n m' (map block_of items')
put-behind r n m m' items items' x same put are =
    subst (λ (k : ℕ). AreListed r n k (map block_of items')) same
    (subst (λ (bs : List Block). AreListed r n m bs) (sym (ap (map block_of) put ∙ map-append block_of items (x ∷ []))) are)

-- a block of the next side is there
pub above-there : (r : Record) (above below : ℕ) → IsNextSide r above below Above → above < length (side_blocks r Above)
above-there r above below next = slice_get_within (side_blocks r Above) above next.0 next.1

pub below-there : (r : Record) (above below : ℕ) → IsNextSide r above below Below → below < length (side_blocks r Below)
below-there r above below next = slice_get_within (side_blocks r Below) below next.0 next.1

-- ---- the next side

abbrev offset-in : Option (ℕ × ℕ) → ℕ
offset-in None = 0
offset-in (Some key) = key.0

abbrev id-in : Option (ℕ × ℕ) → ℕ
id-in None = 0
id-in (Some key) = key.1

key-inv : (o : Option Block) (a b : ℕ) → key_of o ≡ Some (a, b) → (x : Block) × (o ≡ Some x) × (x.offset ≡ a) × (x.id ≡ b)
key-inv None a b h = absurd (not-there (a, b) h)
key-inv (Some x) a b h = (x, refl, ap offset-in h, ap id-in h)

no-key : (o : Option Block) → key_of o ≡ None → o ≡ None
no-key None h = refl
no-key (Some x) h = absurd (not-there (x.offset, x.id) (sym h))

none-there : (bs : List Block) (n : ℕ) → slice_get bs n ≡ None → length bs ≤ n
none-there bs n h = go (slice_get_cases bs n).1 where
  go : ((x : Block) × (n < length bs) × (slice_get bs n ≡ Some x) × (get_or bs n x ≡ x)) ⊎ ((length bs ≤ n) × (slice_get bs n ≡ None)) → length bs ≤ n
  go (inl p) = absurd (not-there p.0 (sym h ∙ p.2))
  go (inr p) = p.0

one-there : (bs : List Block) (n : ℕ) → n < length bs → (x : Block) × (slice_get bs n ≡ Some x)
one-there [] n lt = absurd (omega (arith, lt))
one-there (b ∷ bs) zero lt = (b, refl)
one-there (b ∷ bs) (suc n) lt = one-there bs n (omega (arith, lt))

module _ (many : AreAsMany) (r : Record) (above below : ℕ) (some : above + below < length r.blocks) where
  long : length (side_blocks r Above) + length (side_blocks r Below) ≡ length r.blocks
  long = omega (arith, many r (row_texts r), length-on r (row_texts r) Above, length-on r (row_texts r) Below)

  pub below-only : key_of (slice_get (side_blocks r Above) above) ≡ None → IsNextSide r above below Below
  below-only h =
      let gone = no-key (slice_get (side_blocks r Above) above) h in
      let y = one-there (side_blocks r Below) below (omega (arith, none-there (side_blocks r Above) above gone, long, some)) in
      (y.0, y.1, λ x here. absurd (not-there x (sym gone ∙ here)))

  pub above-only : key_of (slice_get (side_blocks r Below) below) ≡ None → IsNextSide r above below Above
  above-only h =
      let gone = no-key (slice_get (side_blocks r Below) below) h in
      let x = one-there (side_blocks r Above) above (omega (arith, none-there (side_blocks r Below) below gone, long, some)) in
      (x.0, x.1, λ y here. absurd (not-there y (sym gone ∙ here)))

module _ (r : Record) (above below a b c d : ℕ) (first : key_of (slice_get (side_blocks r Above) above) ≡ Some (a, b)) (second : key_of (slice_get (side_blocks r Below) below) ≡ Some (c, d)) where
  pub above-next : in_order a c (nat_le b d) ≡ true → IsNextSide r above below Above
  above-next before =
      let x = key-inv (slice_get (side_blocks r Above) above) a b first in (
        x.0,
        x.1,
        λ y here.
            let v = key-inv (slice_get (side_blocks r Below) below) c d second in
            let same : Some v.0 ≡ Some y = sym v.1 ∙ here in
            let is : v.0 ≡ y = cc in
            (λ i. in_order (x.2 i) ((ap (λ (k : Block). k.offset) (sym is) ∙ v.2) i) (nat_le (x.3 i) ((ap (λ (k : Block). k.id) (sym is) ∙ v.3) i))) ∙ before,
      )

  pub below-next : in_order a c (nat_le b d) ≡ false → IsNextSide r above below Below
  below-next before =
      let y = key-inv (slice_get (side_blocks r Below) below) c d second in (
        y.0,
        y.1,
        λ x here.
            let u = key-inv (slice_get (side_blocks r Above) above) a b first in
            let same : Some u.0 ≡ Some x = sym u.1 ∙ here in
            let is : u.0 ≡ x = cc in
            (λ i. in_order ((ap (λ (k : Block). k.offset) (sym is) ∙ u.2) i) (y.2 i) (nat_le ((ap (λ (k : Block). k.id) (sym is) ∙ u.3) i) (y.3 i))) ∙ before,
      )
