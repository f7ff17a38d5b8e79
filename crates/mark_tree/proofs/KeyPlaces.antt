-- Which things come before a key or after it by their offsets alone.
use Rattle.std.proofs.Common.{◌≡◌, ℕ, ◌+◌, ◌<◌, ◌≤◌, ◌==◌, ◌&&◌, ◌||◌, nat_lt, not, Bool, true, false, List, Option, None, Some, length, take, drop, get_or, refl, sym, ap, subst, ◌∙◌, arith, add-zero}
use Rattle.std.specs.List.{All}
use Rattle.std.specs.Option.{MatchOption, option_eq}
use Rattle.std.proofs.lemmas.List.{length-take, length-drop, get_or-drop, get_or-take}
use Rattle.std.proofs.lemmas.Bool.Decides.{nat_tests}
use Rattle.cell_units.specs.Record.{in_order}
use Rattle.mark_tree.specs.declared.entry.Placed.{Placed}
use Rattle.mark_tree.specs.declared.key.Key.{Key}
use Rattle.mark_tree.specs.Order.{key_le, key_of}
use Rattle.mark_tree.proofs.Order.{in_order-below}

in_order-above : (a b : ℕ) (r : Bool) → b < a → in_order a b r ≡ false
in_order-above a b r lt = neither (nat_lt a b) (a == b) (grind (arith, nat_tests)) (grind (arith, nat_tests)) where
  neither : (c d : Bool) → c ≡ false → d ≡ false → (c || (d && r)) ≡ false
  neither true d p q = absurd (cc)
  neither false true p q = absurd (cc)
  neither false false p q = refl

offset-above : (k l : Key) → l.offset < k.offset → key_le k l ≡ false
offset-above k l lt = in_order-above k.offset l.offset _ lt

offset-below : (k l : Key) → k.offset < l.offset → key_le k l ≡ true
offset-below k l lt = in_order-below k.offset l.offset _ lt

less-apart : (a b : ℕ) → a ≤ b → not (b == a) ≡ true → a < b
less-apart a b le ne = grind (arith, nat_tests)

module _ {P : Type 0} where
  -- the key comes after what is at smaller offsets
  pub key_le-before : (key : Key) (ps : List (Placed P)) (at : ℕ) → at ≤ length ps → All (λ p. p.offset < key.offset) (take at ps) → (k : ℕ) (d : Placed P) → k < at → key_le key (key_of (get_or ps k d)) ≡ false
  key_le-before key ps at within before k d lt =
      let there : k < length (take at ps) = omega (arith, length-take at ps) in
      let below : (get_or ps k d).offset < key.offset = subst (λ (p : Placed P). p.offset < key.offset) (get_or-take at ps k d lt) (before k d there) in
      offset-above key (key_of (get_or ps k d)) below

  -- and before what is at greater ones
  pub key_le-from_place : (key : Key) (ps : List (Placed P)) (at : ℕ) → All (λ p. key.offset + 1 ≤ p.offset) (drop at ps) → (d : Placed P) → at < length ps → key_le key (key_of (get_or ps at d)) ≡ true
  key_le-from_place key ps at behind d lt =
      let there : 0 < length (drop at ps) = omega (arith, length-drop at ps) in
      let same : get_or (drop at ps) 0 d ≡ get_or ps at d = get_or-drop at ps 0 d ∙ ap (λ n. get_or ps n d) (add-zero at) in
      let above : key.offset + 1 ≤ (get_or ps at d).offset = subst (λ (p : Placed P). key.offset + 1 ≤ p.offset) same (behind 0 d there) in
      offset-below key (key_of (get_or ps at d)) (omega arith)

  -- and before the first that isn't at a smaller offset, where that isn't at its own
  pub key_le-next : (key : Key) (ps : List (Placed P)) (at : ℕ) (next : Option ℕ) → All (λ p. key.offset ≤ p.offset) (drop at ps) → ((d : Placed P) → MatchOption next (length ps ≤ at) (λ o. (get_or ps at d).offset ≡ o))
      → not (option_eq (λ a b. a == b) next (Some key.offset)) ≡ true → (d : Placed P) → at < length ps → key_le key (key_of (get_or ps at d)) ≡ true
  key_le-next key ps at None behind is differs d lt = absurd (omega (arith, is d))
  key_le-next key ps at (Some o) behind is differs d lt =
      let there : 0 < length (drop at ps) = omega (arith, length-drop at ps) in
      let same : get_or (drop at ps) 0 d ≡ get_or ps at d = get_or-drop at ps 0 d ∙ ap (λ n. get_or ps n d) (add-zero at) in
      let above : key.offset ≤ (get_or ps at d).offset = subst (λ (p : Placed P). key.offset ≤ p.offset) same (behind 0 d there) in
      offset-below key (key_of (get_or ps at d)) (less-apart key.offset (get_or ps at d).offset above (subst (λ n. not (n == key.offset) ≡ true) (sym (is d)) differs))
