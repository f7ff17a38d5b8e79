-- The place of a block among those of its side is the first that has its id.
use Rattle.std.proofs.Common.{◌≡◌, ℕ, ◌+◌, ◌≤◌, ◌==◌, not, zero, suc, Bool, true, false, cond, List, [], ◌∷◌, filter, find, length, take, refl, sym, ap, subst, ◌∙◌, arith, eq-eqb}
use Rattle.std.specs.Prelude.{Some, slice_get}
use Rattle.std.specs.List.{position_or_len}
use Rattle.std.proofs.lemmas.List.{nil_from_length}
use Rattle.std.proofs.lemmas.List.Folds.{find_at}
use Rattle.std.proofs.lemmas.List.Sums.{length-filter}
use Rattle.std.proofs.lemmas.Option.{none-some, same_Some}
use Rattle.cell_units.specs.declared.place.Side.{Side}
use Rattle.cell_units.specs.declared.place.Side.TheVariants.{Above, Below}
use Rattle.cell_units.specs.Lawful.{IsLawful}
use Rattle.cell_units.specs.Record.{Block, Record}
use Rattle.plain_rows.specs.Rows.{is_on, line_of_block}
use Rattle.map_sheet.specs.Listed.{side_blocks}
use Rattle.view_pieces.proofs.SideBlocks.{block-lawful}
use Rattle.view_changes.specs.Operations.{at_line, first_row_of, rows_in, side_start}
use Rattle.view_changes.specs.inside.OwnRows.{AreRowsOfBlock}
use Rattle.view_changes.proofs.OwnRows.{alone}
use Rattle.view_changes.proofs.Unique.{filter-swapped, find-head}

module _ {X : Type 0} (p : X → Bool) where
  none-in : (xs : List X) (k : ℕ) (x : X) → filter p xs ≡ [] → slice_get xs k ≡ Some x → p x ≡ true → ⊥
  none-in [] k x none at on = none-some x at
  none-in (y ∷ ys) k x none at on = go (p y) refl none k at (none-in ys) where
    go : (b : Bool) → p y ≡ b → cond b (y ∷ filter p ys) (filter p ys) ≡ [] → (k : ℕ) → slice_get (y ∷ ys) k ≡ Some x →
        ((k : ℕ) (x : X) → filter p ys ≡ [] → slice_get ys k ≡ Some x → p x ≡ true → ⊥) → ⊥
    go true e none k at rest = cc none
    go false e none zero at rest = let same = same_Some y x at in cc (sym e ∙ ap p same ∙ on)
    go false e none (suc k) at rest = rest k x none at on

  -- where one alone passes, it is the first that does
  position-at : (xs : List X) (k : ℕ) (x : X) → slice_get xs k ≡ Some x → p x ≡ true → filter p xs ≡ x ∷ [] → position_or_len p xs ≡ k
  position-at [] k x at on alone = absurd (none-some x at)
  position-at (y ∷ ys) k x at on alone = go (p y) refl alone k at (position-at ys) where
    go : (b : Bool) → p y ≡ b → cond b (y ∷ filter p ys) (filter p ys) ≡ x ∷ [] → (k : ℕ) → slice_get (y ∷ ys) k ≡ Some x →
        ((k : ℕ) (x : X) → slice_get ys k ≡ Some x → p x ≡ true → filter p ys ≡ x ∷ [] → position_or_len p ys ≡ k) →
        position_or_len p (y ∷ ys) ≡ k
    go true e alone zero at rest = ap (λ (b : Bool). cond (not b) (1 + position_or_len p ys) 0) e
    go true e alone (suc k) at rest =
        let none : filter p ys ≡ [] = nil_from_length (filter p ys) (omega (arith, ap length alone)) in
        absurd (none-in ys k x none at on)
    go false e alone zero at rest = let same = same_Some y x at in absurd (cc (sym e ∙ ap p same ∙ on))
    go false e alone (suc k) at rest =
        let one : 1 + position_or_len p ys ≡ suc k = omega (arith, rest k x at on alone) in
        ap (λ (b : Bool). cond (not b) (1 + position_or_len p ys) 0) e ∙ one

  -- one that is found is all that passes, where at most one does
  find-alone : (xs : List X) (x : X) → length (filter p xs) ≤ 1 → find p xs ≡ Some x → (filter p xs ≡ x ∷ []) × (p x ≡ true)
  find-alone [] x few found = absurd (none-some x found)
  find-alone (y ∷ ys) x few found = go (p y) refl few found (find-alone ys x) where
    go : (b : Bool) → p y ≡ b → length (cond b (y ∷ filter p ys) (filter p ys)) ≤ 1 → cond b (Some y) (find p ys) ≡ Some x →
        (length (filter p ys) ≤ 1 → find p ys ≡ Some x → (filter p ys ≡ x ∷ []) × (p x ≡ true)) →
        (cond b (y ∷ filter p ys) (filter p ys) ≡ x ∷ []) × (p x ≡ true)
    go true e few found rest =
        let same = same_Some y x found in
        ((λ i. same i ∷ nil_from_length (filter p ys) (omega (arith, few)) i), ap p (sym same) ∙ e)
    go false e few found rest = rest few found

own-side : (side : Side) → is_on side side ≡ true
own-side Above = refl
own-side Below = refl

-- ---- a block that is found by its id

module _ (w : Record) (is : IsLawful w) (b : Block) (found : find (λ c. c.id == b.id) w.blocks ≡ Some b) where
  abbrev has : Block → Bool
  has c = c.id == b.id

  only : filter has w.blocks ≡ b ∷ []
  only =
      let one = find-alone has w.blocks b (omega (arith, length-filter has w.blocks, is.entries.blocks.distinct b.id)) found in
      one.0

  in-side : filter has (side_blocks w b.side) ≡ b ∷ []
  in-side =
      filter-swapped (λ (c : Block). is_on b.side c.side) has w.blocks
      ∙ ap (filter (λ c. is_on b.side c.side)) only
      ∙ ap (λ (t : Bool). cond t (b ∷ []) []) (own-side b.side)

  pub there : slice_get (side_blocks w b.side) (position_or_len has (side_blocks w b.side)) ≡ Some b
  there = sym (find_at has (side_blocks w b.side)) ∙ find-head has (side_blocks w b.side) [] b in-side

  abbrev pub own-of : AreRowsOfBlock w b.side (position_or_len has (side_blocks w b.side)) b.id (first_row_of w b) (length b.lines)
  own-of = record { block = b; there = there; id_is = refl; from_is = refl; count_is = refl }

-- ---- its first row

module _ (w : Record) (is : IsLawful w) (side : Side) (number id from count : ℕ) (own : AreRowsOfBlock w side number id from count) where
  abbrev b' : Block
  b' = own.block

  abbrev line : ℕ
  line = line_of_block w b'

  abbrev has' : Block → Bool
  has' c = c.id == b'.id

  only' : filter has' w.blocks ≡ b' ∷ []
  only' = subst (λ (n : ℕ). filter (λ c. c.id == n) w.blocks ≡ b' ∷ []) (sym own.id_is) (alone w is side number id from count own)

  pub first-row : from ≡ first_row_of w b'
  first-row = on-side side (block-lawful w is side number b' own.there).1 own.there own.from_is where
    by-number : (n : ℕ) → slice_get (side_blocks w b'.side) n ≡ Some b' → n ≡ position_or_len has' (side_blocks w b'.side)
    by-number n at =
        sym (position-at has' (side_blocks w b'.side) n b' at (eq-eqb b'.id b'.id refl)
        (filter-swapped (λ (c : Block). is_on b'.side c.side) has' w.blocks
        ∙ ap (filter (λ c. is_on b'.side c.side)) only'
        ∙ ap (λ (t : Bool). cond t (b' ∷ []) []) (own-side b'.side)))

    on-side : (s : Side) → b'.side ≡ s → slice_get (side_blocks w s) number ≡ Some b' → from ≡ side_start w s line + rows_in (at_line w line (take number (side_blocks w s))) → from ≡ first_row_of w b'
    on-side s e =
        subst (λ (s : Side). slice_get (side_blocks w s) number ≡ Some b' → from ≡ side_start w s line + rows_in (at_line w line (take number (side_blocks w s))) → from ≡ first_row_of w b') e
        (λ at is. is ∙ ap (λ (n : ℕ). side_start w b'.side line + rows_in (at_line w line (take n (side_blocks w b'.side)))) (by-number number at))
