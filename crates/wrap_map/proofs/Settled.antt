-- Whether all lines are wrapped at a width, by the sum of their stretches.
use Rattle.std.proofs.Common.{◌≡◌, ℕ, zero, suc, ◌+◌, ◌≤◌, Bool, true, false, List, [], ◌∷◌, ◌++◌, map, replicate, Option, Some, None, refl, sym, ap, ◌∙◌, inl, inr, arith}
use Rattle.std.specs.List.{list_all}
use Rattle.std.specs.Prelude.{◌==◌, ◌&&◌, if◌then◌else◌, All}
use Rattle.std.proofs.lemmas.Bool.{and_from, and_parts, cases_Bool, eq-eqb, eqb-true}
use Rattle.std.proofs.lemmas.List.Elements.{All-head, All-tail}
use Rattle.std.proofs.lemmas.List.Folds.{list_all-map}
use Rattle.wrap_map.specs.Stood.{Stood, marks_in}
use Rattle.wrap_map.specs.declared.extent.Ends.{Ends}
use Rattle.wrap_map.specs.inside.Extents.{are_at, joined_ends, switch_between}
use Rattle.wrap_map.specs.inside.Stretches.{IsStretch, Stretched, extent_of, spread}
use Rattle.wrap_map.proofs.Spreads.{extents}

same : (a b : Bool) → (a ≡ true → b ≡ true) → (b ≡ true → a ≡ true) → a ≡ b
same true true f g = refl
same true false f g = sym (f refl)
same false true f g = g refl
same false false f g = refl

twice : (a b : Bool) → (a && (a && b)) ≡ (a && b)
twice true b = refl
twice false b = refl

-- so many lines that are wrapped so, and others
block : (p : Stood → Bool) (n : ℕ) (l : Stood) (rest : List Stood) → 1 ≤ n → list_all p (replicate n l ++ rest) ≡ (p l && list_all p rest)
block p zero l rest some = absurd (omega arith)
block p (suc zero) l rest some = refl
block p (suc (suc n)) l rest some = ap (λ (b : Bool). p l && b) (block p (suc n) l rest (omega arith)) ∙ twice (p l) (list_all p rest)

-- stretches without ends are none, and the mark doesn't change in them
none-changes : (ss : List Stretched) → (extents ss).ends ≡ None → (extents ss).switches ≡ 0
none-changes [] e = refl
none-changes (s ∷ ss) e = absurd (some (extents ss).ends e)
  where
    some : (b : Option Ends) → joined_ends (extent_of s).ends b ≡ None → ⊥
    some None e = absurd (cc)
    some (Some b) e = absurd (cc)

-- one more stretch before others
joined : (m width switches : ℕ) (e : Option Ends) → (e ≡ None → switches ≡ 0)
    → ((m == width) && are_at width switches e) ≡ are_at width (0 + switches + switch_between (Some (record { first = m; last = m })) e) (joined_ends (Some (record { first = m; last = m })) e)
joined m width switches None none =
    same _ _ (λ h. and_from _ _ (eq-eqb (0 + switches + 0) 0 (omega (arith, none refl))) (and_parts (m == width) true h).0) (λ h. and_from _ _ (and_parts (0 + switches + 0 == 0) (m == width) h).1 refl)
joined m width switches (Some f) none = same _ _ there back
  where
    change : ℕ
    change = if m == f.first then 0 else 1

    there : ((m == width) && ((switches == 0) && (f.first == width))) ≡ true → ((0 + switches + change == 0) && (m == width)) ≡ true
    there h =
        let a = and_parts (m == width) ((switches == 0) && (f.first == width)) h in
        let b = and_parts (switches == 0) (f.first == width) a.1 in
        let alike : m ≡ f.first = eqb-true m width a.0 ∙ sym (eqb-true f.first width b.1) in
        let stays : change ≡ 0 = ap (λ (c : Bool). if c then 0 else 1) (eq-eqb m f.first alike) in
        and_from _ _ (eq-eqb (0 + switches + change) 0 (omega (arith, eqb-true switches 0 b.0, stays))) a.0

    back : ((0 + switches + change == 0) && (m == width)) ≡ true → ((m == width) && ((switches == 0) && (f.first == width))) ≡ true
    back h =
        let a = and_parts (0 + switches + change == 0) (m == width) h in
        let sum : 0 + switches + change ≡ 0 = eqb-true (0 + switches + change) 0 a.0 in
        let alike : m ≡ f.first = elim (cases_Bool (m == f.first)) [
          | inl is ↦ eqb-true m f.first is
          | inr not ↦
              let one : change ≡ 1 = ap (λ (c : Bool). if c then 0 else 1) not in
              absurd (omega (arith, sum, one))
        ] in
        and_from _ _ a.1 (and_from _ _ (eq-eqb switches 0 (omega (arith, sum))) (eq-eqb f.first width (sym alike ∙ eqb-true m width a.1)))

spread-told : (width : ℕ) (ss : List Stretched) → All IsStretch ss → list_all (λ l. l.mark == width) (spread ss) ≡ are_at width (extents ss).switches (extents ss).ends
spread-told width [] each = refl
spread-told width (s ∷ ss) each =
    block (λ l. l.mark == width) s.lines s.stood (spread ss) (All-head IsStretch s ss each).some
    ∙ ap (λ (b : Bool). (s.stood.mark == width) && b) (spread-told width ss (All-tail IsStretch s ss each))
    ∙ joined s.stood.mark width (extents ss).switches (extents ss).ends (none-changes ss)

-- all marks are the width where the sum says so
pub marks-told : (width : ℕ) (ss : List Stretched) → All IsStretch ss → list_all (λ mark. mark == width) (marks_in (spread ss)) ≡ are_at width (extents ss).switches (extents ss).ends
marks-told width ss each = list_all-map (λ mark. mark == width) (λ (l : Stood). l.mark) (spread ss) ∙ spread-told width ss each
