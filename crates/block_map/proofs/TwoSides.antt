-- The blocks of both sides, where one comes and where one goes.
use Rattle.std.proofs.Common.{◌≡◌, ℕ, ◌+◌, ◌<◌, ◌≤◌, ◌==◌, ◌||◌, not, Bool, true, false, cond, List, [], ◌∷◌, length, Some, None, Option, Result, OnOk, OnErr, subst, refl, sym, ap, ◌∙◌, arith, suc}
use Rattle.std.proofs.lemmas.Bool.{eqb-true}
use Rattle.std.specs.List.{All}
use Rattle.std.specs.Option.{MatchOption, is_some}
use Rattle.std.proofs.lemmas.List.Elements.{All-filter, All-nil}
use Rattle.cell_units.specs.declared.limits.TheConstants.{ENTRY_LIMIT}
use Rattle.cell_units.specs.declared.place.Side.{Side}
use Rattle.cell_units.specs.declared.place.Side.TheVariants.{Above, Below}
use Rattle.cell_units.specs.Sorting.{insert_by}
use Rattle.std.proofs.lemmas.Result.{on_ok_weaker}
use Rattle.mark_tree.proofs.Splicing.{either}
use Rattle.mark_tree.proofs.Sorting.{every-insert, length-insert}
use Rattle.mark_tree.proofs.Changing.{all-from_every, every-from_all}
use Rattle.block_map.specs.Maps.{BlockState, Kept, added, has_block, kept_le, on_side, removed, state_of, without}
use Rattle.block_map.specs.inside.TwoSides.{IsState, WasAtLine, is_kept}
use Rattle.block_map.proofs.SortedTests.{any-insert}

any-without : (id other : ℕ) (ks : List Kept) → is_kept id ks ≡ false → is_kept id (without other ks) ≡ false
any-without id other [] e = refl
any-without id other (k ∷ ks) e = go (k.id == id) (k.id == other) refl e (any-without id other ks) where
  go : (c d : Bool) → (k.id == id) ≡ c → (c || is_kept id ks) ≡ false → (is_kept id ks ≡ false → is_kept id (without other ks) ≡ false) → is_kept id (cond (not d) (k ∷ without other ks) (without other ks)) ≡ false
  go true d is f r = absurd (cc)
  go false true is f r = r f
  go false false is f r = (λ i. is i || is_kept id (without other ks)) ∙ r f

fewer-without : (id : ℕ) (ks : List Kept) → length (without id ks) ≤ length ks
fewer-without id [] = omega arith
fewer-without id (k ∷ ks) = go (k.id == id) (fewer-without id ks) where
  go : (b : Bool) → length (without id ks) ≤ length ks → length (cond (not b) (k ∷ without id ks) (without id ks)) ≤ suc (length ks)
  go true r = omega (arith, r)
  go false r = omega (arith, r)

pub without-none : (id : ℕ) (ks : List Kept) → is_kept id ks ≡ false → without id ks ≡ ks
without-none id [] e = refl
without-none id (k ∷ ks) e = go (k.id == id) e (without-none id ks) where
  go : (b : Bool) → (b || is_kept id ks) ≡ false → (is_kept id ks ≡ false → without id ks ≡ ks) → cond (not b) (k ∷ without id ks) (without id ks) ≡ k ∷ ks
  go true f r = absurd (cc)
  go false f r = ap (λ (l : List Kept). k ∷ l) (r f)

neither : (a b : Bool) → (a || b) ≡ false → (a ≡ false) × (b ≡ false)
neither true b e = absurd (cc e)
neither false b e = (refl, e)

-- which side has an id, if one has
pub on-neither : (id : ℕ) (s : BlockState) → has_block id s ≡ false → (side : Side) → is_kept id (on_side side s) ≡ false
on-neither id s e Above = (neither (is_kept id s.above) (is_kept id s.below) e).0
on-neither id s e Below = (neither (is_kept id s.above) (is_kept id s.below) e).1

-- ---- one more

-- a new id on one side
new-apart : (k : Kept) (ks ls : List Kept) → ((id : ℕ) → is_kept id ks ≡ true → is_kept id ls ≡ false) → is_kept k.id ls ≡ false → (id : ℕ) → is_kept id (insert_by kept_le k ks) ≡ true → is_kept id ls ≡ false
new-apart k ks ls apart new id e = go (k.id == id) refl (sym (any-insert kept_le (λ (k : Kept). k.id == id) k ks) ∙ e) where
  go : (b : Bool) → (k.id == id) ≡ b → (b || is_kept id ks) ≡ true → is_kept id ls ≡ false
  go true is f = ap (λ (n : ℕ). is_kept n ls) (sym (eqb-true k.id id is)) ∙ new
  go false is f = apart id f

other-way : (ks ls : List Kept) → ((id : ℕ) → is_kept id ks ≡ true → is_kept id ls ≡ false) → (id : ℕ) → is_kept id ls ≡ true → is_kept id ks ≡ false
other-way ks ls apart id e = go (is_kept id ks) refl where
  go : (b : Bool) → is_kept id ks ≡ b → b ≡ false
  go true is = absurd (let f = apart id is in cc)
  go false is = refl

-- nothing of a new block was shown
put-at-line : (lines : List (List (List ℕ))) (side : Side) (k : Kept) (ks : List Kept) → k.row ≡ None → All (WasAtLine lines side) ks → All (WasAtLine lines side) (insert_by kept_le k ks)
put-at-line lines side k ks new all =
    all-from_every (WasAtLine lines side) (insert_by kept_le k ks) (every-insert kept_le (WasAtLine lines side) k ks (λ row e. absurd (cc)) (every-from_all (WasAtLine lines side) ks all))

pub state-added : (side : Side) (k : Kept) (s : BlockState) → IsState s → k.row ≡ None → has_block k.id s ≡ false → length s.above + length s.below < ENTRY_LIMIT → IsState (added side k s)
state-added Above k s is unshown new room = record {
  distinct = new-apart k s.above s.below is.distinct (on-neither k.id s new Below);
  few = omega (arith, room, length-insert kept_le k s.above);
  above = put-at-line s.lines Above k s.above unshown is.above;
  below = is.below;
}
state-added Below k s is unshown new room = record {
  distinct = other-way (insert_by kept_le k s.below) s.above (new-apart k s.below s.above (other-way s.above s.below is.distinct) (on-neither k.id s new Above));
  few = omega (arith, room, length-insert kept_le k s.below);
  above = is.above;
  below = put-at-line s.lines Below k s.below unshown is.below;
}

-- ---- one less

pub state-removed : (id : ℕ) (s : BlockState) → IsState s → IsState (removed id s)
state-removed id s is = record {
  distinct = λ other e. any-without other id s.below (other-below other e);
  few = omega (arith, is.few, fewer-without id s.above, fewer-without id s.below);
  above = All-filter (λ (k : Kept). not (k.id == id)) (WasAtLine s.lines Above) s.above is.above;
  below = All-filter (λ (k : Kept). not (k.id == id)) (WasAtLine s.lines Below) s.below is.below;
} where
  other-below : (other : ℕ) → is_kept other (without id s.above) ≡ true → is_kept other s.below ≡ false
  other-below other e = go (is_kept other s.above) refl where
    go : (b : Bool) → is_kept other s.above ≡ b → is_kept other s.below ≡ false
    go true here = is.distinct other here
    go false here = absurd (let f = any-without other id s.above here in cc)

-- what is taken out of the one side that has it
pub taken-above : (id : ℕ) (s : BlockState) → IsState s → is_kept id s.above ≡ true → record s { above = without id s.above } ≡ removed id s
taken-above id s is e = ap (λ (l : List Kept). record s { above = without id s.above; below = l }) (sym (without-none id s.below (is.distinct id e)))

pub taken-below : (id : ℕ) (s : BlockState) → IsState s → is_kept id s.below ≡ true → record s { below = without id s.below } ≡ removed id s
taken-below id s is e = ap (λ (l : List Kept). record s { above = l; below = without id s.below }) (sym (without-none id s.above (other-way s.above s.below is.distinct id e)))

-- a side that has an id
pub on-one : (id : ℕ) (s : BlockState) (side : Side) → is_kept id (on_side side s) ≡ true → has_block id s ≡ true
on-one id s Above e = ap (λ (b : Bool). b || is_kept id s.below) e
on-one id s Below e = ap (λ (b : Bool). is_kept id s.above || b) e ∙ right (is_kept id s.above) where
  right : (b : Bool) → (b || true) ≡ true
  right true = refl
  right false = refl

-- without blocks
pub state-of_none : (lines : List (List (List ℕ))) → IsState (state_of lines)
state-of_none lines = record { distinct = λ id e. refl; few = omega arith; above = All-nil (WasAtLine lines Above); below = All-nil (WasAtLine lines Below) }

-- ---- what a search of both sides returns

pub has-side : (id : ℕ) (s : BlockState) (found : Option Side) → MatchOption found (has_block id s ≡ false) (λ side. is_kept id (on_side side s) ≡ true) → has_block id s ≡ is_some found
has-side id s None e = e
has-side id s (Some side) e = on-one id s side e

pub no-side : (id : ℕ) (s : BlockState) (found : Option Side) → MatchOption found (has_block id s ≡ false) (λ side. is_kept id (on_side side s) ≡ true) → ((side : Side) → found ≡ Some side → ⊥) → has_block id s ≡ false
no-side id s None e not = e
no-side id s (Some side) e not = absurd (not side refl)

pub one-side : (s : BlockState) (side : Side) → length (on_side side s) ≤ length s.above + length s.below
one-side s Above = omega arith
one-side s Below = omega arith

-- ---- as the calls of a map leave it

abbrev pub state : List (List (List ℕ)) → List Kept → List Kept → BlockState
state lines above below = record { lines = lines; above = above; below = below }

module _ (lines : List (List (List ℕ))) (above below : List Kept) (now : BlockState) (is : IsState (state lines above below)) (seen : state lines above below ≡ now) where
  module _ {T E : Type 0} (r : Result T E) (new : List Kept) where
    module _ (k : Kept) (unshown : k.row ≡ None) (unused : has_block k.id now ≡ false) (room : length now.above + length now.below < ENTRY_LIMIT) where
      unused-before : has_block k.id (state lines above below) ≡ false
      unused-before = ap (has_block k.id) seen ∙ unused

      room-before : length above + length below < ENTRY_LIMIT
      room-before = omega (arith, ap (λ (s : BlockState). length s.above) seen, ap (λ (s : BlockState). length s.below) seen, room)

      pub kept-above_added : OnOk r (new ≡ insert_by kept_le k above) → OnErr r (new ≡ above) → IsState (state lines new below)
      kept-above_added ok err =
          either (λ (l : List Kept). IsState (state lines l below)) r new (insert_by kept_le k above) above ok err (state-added Above k (state lines above below) is unshown unused-before room-before) is

      pub kept-below_added : OnOk r (new ≡ insert_by kept_le k below) → OnErr r (new ≡ below) → IsState (state lines above new)
      kept-below_added ok err =
          either (λ (l : List Kept). IsState (state lines above l)) r new (insert_by kept_le k below) below ok err (state-added Below k (state lines above below) is unshown unused-before room-before) is

    module _ (id : ℕ) (side : Side) (has : is_kept id (on_side side now) ≡ true) where
      module _ (at : side ≡ Above) where
        here-above : is_kept id above ≡ true
        here-above = ap (λ (s : BlockState). is_kept id s.above) seen ∙ subst (λ (t : Side). is_kept id (on_side t now) ≡ true) at has

        pub kept-above_taken : OnOk r (new ≡ without id above) → OnErr r (new ≡ above) → IsState (state lines new below)
        kept-above_taken ok err =
            either (λ (l : List Kept). IsState (state lines l below)) r new (without id above) above ok err
            (subst IsState (sym (taken-above id (state lines above below) is here-above)) (state-removed id (state lines above below) is)) is

        pub seen-above_taken : OnOk r (new ≡ without id above) → OnOk r (state lines new below ≡ removed id now)
        seen-above_taken ok =
            on_ok_weaker r (λ e. ap (λ (l : List Kept). state lines l below) e ∙ taken-above id (state lines above below) is here-above ∙ ap (removed id) seen) ok

      module _ (at : side ≡ Below) where
        here-below : is_kept id below ≡ true
        here-below = ap (λ (s : BlockState). is_kept id s.below) seen ∙ subst (λ (t : Side). is_kept id (on_side t now) ≡ true) at has

        pub kept-below_taken : OnOk r (new ≡ without id below) → OnErr r (new ≡ below) → IsState (state lines above new)
        kept-below_taken ok err =
            either (λ (l : List Kept). IsState (state lines above l)) r new (without id below) below ok err
            (subst IsState (sym (taken-below id (state lines above below) is here-below)) (state-removed id (state lines above below) is)) is

        pub seen-below_taken : OnOk r (new ≡ without id below) → OnOk r (state lines above new ≡ removed id now)
        seen-below_taken ok =
            on_ok_weaker r (λ e. ap (λ (l : List Kept). state lines above l) e ∙ taken-below id (state lines above below) is here-below ∙ ap (removed id) seen) ok
