-- Marks of which none has an id.
use Rattle.std.proofs.Common.{◌≡◌, ℕ, ◌==◌, ◌||◌, not, Bool, true, false, cond, List, [], ◌∷◌, filter, refl, ap}
use Rattle.std.specs.List.{list_any}
use Rattle.mark_tree.specs.declared.mark.Mark.{Mark}
use Rattle.mark_tree.specs.Marks.{has_id, lacks_id}

pub none-lacked : {P : Type 0} (id : ℕ) (ms : List (Mark P)) → list_any (has_id id) ms ≡ false → filter (lacks_id id) ms ≡ ms
none-lacked id [] e = refl
none-lacked {P = P} id (m ∷ ms) e = go (m.id == id) e (none-lacked id ms) where
  go : (b : Bool) → (b || list_any (has_id id) ms) ≡ false → (list_any (has_id id) ms ≡ false → filter (lacks_id id) ms ≡ ms) → cond (not b) (m ∷ filter (lacks_id id) ms) (filter (lacks_id id) ms) ≡ m ∷ ms
  go true f r = absurd (cc)
  go false f r = ap (λ (l : List (Mark P)). m ∷ l) (r f)
