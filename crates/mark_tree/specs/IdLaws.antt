-- What a range of ids says of entries.
use Rattle.std.specs.Prelude.{◌≡◌, ◌==◌, ◌&&◌, ◌||◌, ℕ, nat_le, min, max, false, List, [], ◌∷◌, Option, None, Some, refl}
use Rattle.std.specs.List.{list_any}
use Rattle.std.proofs.Common.{ap, ◌∙◌, arith}
use Rattle.std.proofs.lemmas.Bool.Decides.{nat_tests}
use Rattle.mark_tree.specs.declared.entry.Entry.{Entry}
use Rattle.mark_tree.specs.declared.id_range.IdRange.{IdRange}
use Rattle.mark_tree.specs.Entries.{extent_over}
use Rattle.mark_tree.specs.IdRanges.{all_ids, may_have, only}

outside-one : (m id : ℕ) → (nat_le m id && nat_le id m) ≡ false → (m == id) ≡ false
outside-one m id out = grind (arith, nat_tests)

outside-first : (m l g id : ℕ) → (nat_le (min m l) id && nat_le id (max m g)) ≡ false → (m == id) ≡ false
outside-first m l g id out = grind (arith, nat_tests)

outside-second : (m l g id : ℕ) → (nat_le (min m l) id && nat_le id (max m g)) ≡ false → (nat_le l id && nat_le id g) ≡ false
outside-second m l g id out = grind (arith, nat_tests)

module _ {P : Type 0} where
  -- an id that doesn't lie between those of entries is none of theirs
  pub id-outside : (id : ℕ) (es : List (Entry P)) → may_have (extent_over es).ids id ≡ false → list_any (λ e. e.id == id) es ≡ false
  id-outside id [] out = refl
  id-outside id (e ∷ es) out = go (extent_over es).ids (λ none. id-outside id es none) out where
    go : (ids : Option IdRange) → (may_have ids id ≡ false → list_any (λ f. f.id == id) es ≡ false) → may_have (all_ids (Some (only e.id)) ids) id ≡ false
        → (e.id == id || list_any (λ f. f.id == id) es) ≡ false
    go None rest none = ap (λ b. b || list_any (λ f. f.id == id) es) (outside-one e.id id none) ∙ rest refl
    go (Some r) rest none =
        ap (λ b. b || list_any (λ f. f.id == id) es) (outside-first e.id r.least r.greatest id none)
        ∙ rest (outside-second e.id r.least r.greatest id none)
