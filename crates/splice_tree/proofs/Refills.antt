-- What takes the place of some splices and the gap after them.
use Rattle.std.proofs.Common.{◌≡◌, ℕ, suc, ◌+◌, ◌≤◌, List, [], ◌∷◌, ◌++◌, length, drop, Some, None, sym, ap, ◌∙◌, arith, add-one, append_assoc, length-append}
use Rattle.std.specs.List.{slice_get}
use Rattle.std.proofs.lemmas.Option.{slice_get_within}
use Rattle.splice_tree.specs.Splices.{Piece, IsRefill, regapped, with_first_gap}
use Rattle.splice_tree.proofs.Passing.{drop-past, drop-found}

module _ {S P : Type 0} where
  pub refill-none : (ps : List (Piece S P)) (to : ℕ) (fresh : List (Piece S P)) (gap : S) → to ≤ length ps → slice_get ps to ≡ None → IsRefill ps to fresh gap fresh to
  refill-none ps to fresh gap le e =
      let none = drop-past ps to e in
      record {
        order = omega arith;
        within = le;
        same = ap (λ l. fresh ++ l) (none ∙ ap (with_first_gap gap) (sym none));
        few = omega arith;
      }

  pub refill-some : (ps : List (Piece S P)) (to : ℕ) (fresh out : List (Piece S P)) (gap : S) (b x : Piece S P) → slice_get ps to ≡ Some b → x ≡ regapped gap b → out ≡ fresh ++ x ∷ [] → IsRefill ps to fresh gap out (to + 1)
  refill-some ps to fresh out gap b x e is made =
      let within = slice_get_within ps to b e in
      record {
        order = omega arith;
        within = omega arith;
        same =
            ap (λ l. l ++ drop (to + 1) ps) made
            ∙ append_assoc fresh (x ∷ []) (drop (to + 1) ps)
            ∙ ap (λ n. fresh ++ x ∷ drop n ps) (add-one to)
            ∙ ap (λ y. fresh ++ y ∷ drop (suc to) ps) is
            ∙ ap (λ l. fresh ++ with_first_gap gap l) (sym (drop-found ps to b e));
        few = omega (arith, ap length made, length-append fresh (x ∷ []));
      }
