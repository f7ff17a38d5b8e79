-- The rows of a walk, as what is at each slot.
use Rattle.std.proofs.Common.{◌≡◌, ◌∙◌, ◌||◌, Bool, cond, true, false, refl, sym, ap, subst, true≢false, List, [], ◌∷◌, ◌++◌, Option, Some, None, append-nil, option_map, is_some}
use Rattle.std.specs.List.{find}
use Rattle.std.specs.Option.{option_and_then}
use Rattle.std.specs.Prelude.{slice_get}
use Rattle.std.specs.Str.{bytes_eq}
use Rattle.clap.specs.Walk.{Row, Text, at_row, first_of, has_row, more_values, used}
use Rattle.clap.specs.declared.parser.matches.ValueSource.TheVariants.{CommandLine}
use Rattle.command_line.specs.Words.{Word, make, watch, workers}
use Rattle.command_line.proofs.Rules.{Slot, at_option, at_script, at_text, id_of, row, rule, same_id}

pub neither : (a b : Bool) → (a || b) ≡ false → (a ≡ false) × (b ≡ false)
neither false b e = (refl, e)
neither true b e = absurd (true≢false e)

-- ---- searches

found_before : {X : Type 0} (p : X → Bool) (xs : List X) (x : X) → p x ≡ false → find p (xs ++ x ∷ []) ≡ find p xs
found_before p [] x e = rw e refl
found_before p (y ∷ ys) x e = ap (λ o. cond (p y) (Some y) o) (found_before p ys x e)

found_last : {X : Type 0} (p : X → Bool) (xs : List X) (x : X) → find p xs ≡ None → p x ≡ true → find p (xs ++ x ∷ []) ≡ Some x
found_last p [] x none e = rw e refl
found_last p (y ∷ ys) x none e = go (p y) (λ h. found_last p ys x h e) none
  where
    go : (b : Bool) → (find p ys ≡ None → find p (ys ++ x ∷ []) ≡ Some x) → cond b (Some y) (find p ys) ≡ None → cond b (Some y) (find p (ys ++ x ∷ [])) ≡ Some x
    go true later h = cc
    go false later h = later h

has_row_is : (id : Text) (rows : List Row) → has_row id rows ≡ is_some (find (λ r. bytes_eq r.id id) rows)
has_row_is id [] = refl
has_row_is id (r ∷ rs) = go (bytes_eq r.id id) (has_row_is id rs)
  where
    go : (b : Bool) → has_row id rs ≡ is_some (find (λ x. bytes_eq x.id id) rs) → (b || has_row id rs) ≡ is_some (cond b (Some r) (find (λ x. bytes_eq x.id id) rs))
    go true later = refl
    go false later = later

at_row_new : (id : Text) (change : Row → List Row) (missing rows : List Row) → has_row id rows ≡ false → at_row id change missing rows ≡ rows ++ missing
at_row_new id change missing [] e = refl
at_row_new id change missing (r ∷ rs) e =
    let both = neither (bytes_eq r.id id) (has_row id rs) e in
    rw both.0 (ap (λ xs. r ∷ xs) (at_row_new id change missing rs both.1))

-- a first use is a row more, at the end
pub used_new : (s : Slot) (v : Word) (rows : List Row) → has_row (id_of s) rows ≡ false → used (rule s) (v ∷ []) rows ≡ rows ++ row s v ∷ []
used_new s v rows e =
    ap (λ xs. at_row (id_of s) (more_values CommandLine (v ∷ [])) (row s v ∷ []) xs) (at_row_new (id_of s) (λ r. []) [] rows e ∙ append-nil rows)
    ∙ at_row_new (id_of s) (more_values CommandLine (v ∷ [])) (row s v ∷ []) rows e

-- ---- what is at each slot

pub same_slot : (s t : Slot) → bytes_eq (id_of s) (id_of t) ≡ true → s ≡ t
same_slot (at_option workers) (at_option workers) e = refl
same_slot (at_option workers) (at_option watch) e = absurd (true≢false (sym e))
same_slot (at_option workers) (at_option make) e = absurd (true≢false (sym e))
same_slot (at_option workers) at_text e = absurd (true≢false (sym e))
same_slot (at_option workers) at_script e = absurd (true≢false (sym e))
same_slot (at_option watch) (at_option workers) e = absurd (true≢false (sym e))
same_slot (at_option watch) (at_option watch) e = refl
same_slot (at_option watch) (at_option make) e = absurd (true≢false (sym e))
same_slot (at_option watch) at_text e = absurd (true≢false (sym e))
same_slot (at_option watch) at_script e = absurd (true≢false (sym e))
same_slot (at_option make) (at_option workers) e = absurd (true≢false (sym e))
same_slot (at_option make) (at_option watch) e = absurd (true≢false (sym e))
same_slot (at_option make) (at_option make) e = refl
same_slot (at_option make) at_text e = absurd (true≢false (sym e))
same_slot (at_option make) at_script e = absurd (true≢false (sym e))
same_slot at_text (at_option workers) e = absurd (true≢false (sym e))
same_slot at_text (at_option watch) e = absurd (true≢false (sym e))
same_slot at_text (at_option make) e = absurd (true≢false (sym e))
same_slot at_text at_text e = refl
same_slot at_text at_script e = absurd (true≢false (sym e))
same_slot at_script (at_option workers) e = absurd (true≢false (sym e))
same_slot at_script (at_option watch) e = absurd (true≢false (sym e))
same_slot at_script (at_option make) e = absurd (true≢false (sym e))
same_slot at_script at_text e = absurd (true≢false (sym e))
same_slot at_script at_script e = refl

abbrev pub Standing : Type 0
Standing = Slot → Option Word

abbrev pub put : Slot → Word → Standing → Standing
put s v g t = cond (bytes_eq (id_of s) (id_of t)) (Some v) (g t)

-- the rows hold just what is there
abbrev pub HasRows : List Row → Standing → Type 0
HasRows rows g = (s : Slot) → find (λ r. bytes_eq r.id (id_of s)) rows ≡ option_map (row s) (g s)

pub put_row : (rows : List Row) (g : Standing) (s : Slot) (v : Word) → HasRows rows g → g s ≡ None → HasRows (rows ++ row s v ∷ []) (put s v g)
put_row rows g s v has new t = go (bytes_eq (id_of s) (id_of t)) refl
  where
    go : (b : Bool) → bytes_eq (id_of s) (id_of t) ≡ b
        → find (λ r. bytes_eq r.id (id_of t)) (rows ++ row s v ∷ []) ≡ option_map (row t) (cond b (Some v) (g t))
    go true e = subst (λ u. find (λ r. bytes_eq r.id (id_of u)) (rows ++ row s v ∷ []) ≡ Some (row u v)) (same_slot s t e)
        (found_last (λ r. bytes_eq r.id (id_of s)) rows (row s v) (has s ∙ ap (option_map (row s)) new) (same_id s))
    go false e = found_before (λ r. bytes_eq r.id (id_of t)) rows (row s v) e ∙ has t

pub row_new : (rows : List Row) (g : Standing) (s : Slot) → HasRows rows g → g s ≡ None → has_row (id_of s) rows ≡ false
row_new rows g s has new = has_row_is (id_of s) rows ∙ ap is_some (has s ∙ ap (option_map (row s)) new)

pub row_there : (rows : List Row) (g : Standing) (s : Slot) (v : Word) → HasRows rows g → g s ≡ Some v → has_row (id_of s) rows ≡ true
row_there rows g s v has there = has_row_is (id_of s) rows ∙ ap is_some (has s ∙ ap (option_map (row s)) there)

pub first_is : (rows : List Row) (g : Standing) (s : Slot) → HasRows rows g → first_of (id_of s) rows ≡ g s
first_is rows g s has = ap (option_and_then (λ (r : Row). slice_get r.values 0)) (has s) ∙ go (g s)
  where
    go : (o : Option Word) → option_and_then (λ (r : Row). slice_get r.values 0) (option_map (row s) o) ≡ o
    go None = refl
    go (Some v) = refl
