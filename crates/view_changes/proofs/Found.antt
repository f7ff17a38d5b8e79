-- What is found by the place of its id.
use Rattle.std.proofs.Common.{◌≡◌, ◌||◌, ◌==◌, ℕ, Bool, true, false, cond, List, [], ◌∷◌, length, map, get_or, ltb, refl, sym, ap, subst, ◌∙◌, inl, inr}
use Rattle.std.specs.Prelude.{Option, Some, None, option_map, slice_get}
use Rattle.std.specs.List.{find, list_any, position, position_or_len}
use Rattle.std.proofs.lemmas.Bool.{cases_lt, false≢true, lt-ltb}
use Rattle.std.proofs.lemmas.List.Folds.{find_at}
use Rattle.std.proofs.lemmas.List.Quantifiers.{position-Some}
use Rattle.std.proofs.lemmas.Option.{none-some, same_Some, slice_get-get_or, slice_get-map, slice_get_past}
use Rattle.cell_units.specs.declared.place.Side.{Side}
use Rattle.cell_units.specs.declared.place.Side.TheVariants.{Above, Below}
use Rattle.cell_units.specs.Record.{Block, Record}
use Rattle.block_map.specs.Maps.{BlockState, IsPlaceOf, Kept, on_side}
use Rattle.blocked_rows.specs.Records.{kept_block, kept_blocks, row_texts}
use Rattle.map_sheet.specs.Listed.{side_blocks}
use Rattle.view_changes.specs.inside.OwnRows.{IsNumbered}

module _ {X : Type 0} (p : X → Bool) where
  none-passes : (xs : List X) → list_any p xs ≡ false → find p xs ≡ None
  none-passes [] none = refl
  none-passes (x ∷ xs) none = go (p x) none (none-passes xs) where
    go : (b : Bool) → (b || list_any p xs) ≡ false → (list_any p xs ≡ false → find p xs ≡ None) → cond b (Some x) (find p xs) ≡ None
    go true none rest = absurd (false≢true (sym none))
    go false none rest = rest none

  -- none where it has no place
  pub not-found : (xs : List X) → position p xs ≡ None → find p xs ≡ None
  not-found xs none = let first = position_or_len p xs in find_at p xs ∙ elim (cases_lt first (length xs)) [
    | inl lt ↦ absurd (none-some first (sym none ∙ ap (λ (b : Bool). cond b (Some first) None) (lt-ltb first (length xs) lt)))
    | inr ge ↦ slice_get_past xs first ge
  ]

  -- the one at its place
  pub found : (xs : List X) (at : ℕ) (x : X) → position p xs ≡ Some at → slice_get xs at ≡ Some x → find p xs ≡ Some x
  found xs at x place there = find_at p xs ∙ ap (slice_get xs) (first (ltb (position_or_len p xs) (length xs)) (position_or_len p xs) place) ∙ there where
    first : (b : Bool) (n : ℕ) → cond b (Some n) None ≡ Some at → n ≡ at
    first true n e = same_Some n at e
    first false n e = absurd (none-some at e)

  -- there is one at a place
  pub there-is : (xs : List X) (at : ℕ) → position p xs ≡ Some at → slice_get xs at ≡ None → ⊥
  there-is [] at place none = none-some at place
  there-is (x ∷ xs) at place none =
      let within = (position-Some p (x ∷ xs) at x place).0 in
      none-some (get_or (x ∷ xs) at x) (sym none ∙ slice_get-get_or (x ∷ xs) at x within)

-- ---- the number of a block

any-map : {X Y : Type 0} (f : X → Y) (p : Y → Bool) (xs : List X) → list_any p (map f xs) ≡ list_any (λ x. p (f x)) xs
any-map f p [] = refl
any-map f p (x ∷ xs) = ap (λ (b : Bool). p (f x) || b) (any-map f p xs)

module _ (r : Record) (side : Side) (id : ℕ) where
  abbrev keep : Block → Kept
  keep = kept_block r (row_texts r) side

  on-is : (s : Side) → on_side s (kept_blocks r (row_texts r)) ≡ map (kept_block r (row_texts r) s) (side_blocks r s)
  on-is Above = refl
  on-is Below = refl

  with-id : (o : Option Block) → option_map (λ (k : Kept). k.id) (option_map keep o) ≡ Some id → (b : Block) × (o ≡ Some b) × (b.id ≡ id)
  with-id None e = absurd (none-some id e)
  with-id (Some b) e = (b, refl, same_Some b.id id e)

  by-place : (o : Option ℕ) → IsPlaceOf (map keep (side_blocks r side)) id o → IsNumbered r side id o
  by-place None none = none-passes (λ b. b.id == id) (side_blocks r side) (sym (any-map keep (λ k. k.id == id) (side_blocks r side)) ∙ none)
  by-place (Some at) there =
      with-id (slice_get (side_blocks r side) at) (ap (option_map (λ (k : Kept). k.id)) (sym (slice_get-map keep (side_blocks r side) at)) ∙ there)

  pub numbered : (b : BlockState) → b ≡ kept_blocks r (row_texts r) → (o : Option ℕ) → IsPlaceOf (on_side side b) id o → IsNumbered r side id o
  numbered b b_is o place = by-place o (subst (λ (ks : List Kept). IsPlaceOf ks id o) (ap (on_side side) b_is ∙ on-is side) place)
