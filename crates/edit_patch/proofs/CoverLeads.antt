-- One replacement after another.
use Rattle.std.proofs.Common.{◌≡◌, ℕ, ◌+◌, ◌-◌, ◌<◌, ◌≤◌, ◌^◌, List, [], ◌∷◌, length, map, take, drop, min, max, Option, Some, None, refl, sym, ap, ◌∙◌, subst, arith}
use Rattle.std.proofs.lemmas.List.{drop-drop, drop-map, length-drop, length-map, take-take}
use Rattle.cell_units.specs.Inlaid.{Token, Byte, InlayByte, Hidden}
use Rattle.cell_units.specs.Layers.{Source}
use Rattle.edit_patch.specs.Covering.{CoverFits, CoverLeads, covering, with_pending}
use Rattle.edit_patch.specs.LayerLeads.{LayerLeads, layer_places, token_after}
use Rattle.edit_patch.specs.Leads.{Leads, Reach}

drop-on : {X : Type 0} (m n k : ℕ) (xs : List X) → n ≤ k → k ≡ n + m → drop k xs ≡ drop m (drop n xs)
drop-on m n k xs le e = ap (λ j. drop j xs) e ∙ sym (drop-drop m n xs)

module _ {X : Type 0} (f g : X → X) (a b c : List X) (first second : Reach) (one : Leads (map f) a b first) (two : Leads (map g) b c second) where
  left-over : length a - first.end ≡ length b - (first.start + first.count)
  left-over = omega (arith, ap (λ l. length l) one.behind, length-drop (first.start + first.count) b, length-map (drop first.end a) f, length-drop first.end a)

  right-over : length b - second.end ≡ length c - (second.start + second.count)
  right-over = omega (arith, ap (λ l. length l) two.behind, length-drop (second.start + second.count) c, length-map (drop second.end b) g, length-drop second.end b)

  abbrev both : Reach
  both = covering first second

  pub covered : second.start ≤ second.end → first.start ≤ first.end → Leads (map (λ x. g (f x))) a c both
  covered order ordered =
      let past = max (first.start + first.count) second.end in
      let start = min first.start second.start in
      let same-a = left-over in
      let same-c = right-over in
      let w1 = one.within in
      let w2 = two.within in
      let r1 = one.reaches in
      let r2 = two.reaches in
      let ends : past ≤ length b = omega arith in
      let tail : both.start + both.count ≡ second.start + second.count + (past - second.end) = omega arith in
      record {
        within = omega arith;
        reaches = omega arith;
        before =
            sym (take-take start second.start c (omega arith)) ∙ ap (take start) two.before ∙ take-take start second.start b (omega arith)
            ∙ sym (take-take start first.start b (omega arith)) ∙ ap (take start) one.before ∙ take-take start first.start a (omega arith);
        behind =
            drop-on (past - second.end) (second.start + second.count) (both.start + both.count) c (omega (arith, tail)) tail
            ∙ ap (drop (past - second.end)) two.behind
            ∙ drop-map g (past - second.end) (drop second.end b)
            ∙ ap (map g) (sym (drop-on (past - second.end) second.end past b (omega arith) (omega arith)))
            ∙ ap (map g) (drop-on (past - (first.start + first.count)) (first.start + first.count) past b (omega arith) (omega arith))
            ∙ ap (λ l. map g (drop (past - (first.start + first.count)) l)) one.behind
            ∙ ap (map g) (drop-map f (past - (first.start + first.count)) (drop first.end a))
            ∙ ap (λ l. map g (map f l)) (sym (drop-on (past - (first.start + first.count)) first.end both.end a (omega arith) (omega arith)))
            ∙ twice (drop both.end a);
      }
    where
      twice : (xs : List X) → map g (map f xs) ≡ map (λ x. g (f x)) xs
      twice [] = refl
      twice (x ∷ xs) = ap (λ l. g (f x) ∷ l) (twice xs)

-- a replacement that moves by one way leads by every way that moves the same
leads-same : {X : Type 0} (f g : X → X) → ((x : X) → f x ≡ g x) → (old new : List X) (s : Reach) → Leads (map f) old new s → Leads (map g) old new s
leads-same {X = X} f g same old new s l = record { within = l.within; reaches = l.reaches; before = l.before; behind = l.behind ∙ each (drop s.end old) } where
  each : (xs : List X) → map f xs ≡ map g xs
  each [] = refl
  each (x ∷ xs) = λ i. same x i ∷ each xs i

still-first : (shift : Option Reach) (t : Token) → token_after shift (token_after None t) ≡ token_after shift t
still-first shift (Byte o b) = refl
still-first shift (InlayByte o id b) = refl
still-first shift (Hidden o) = refl

pub cover-leads : CoverLeads
cover-leads shift a b c first second ordered order one two =
    leads-same (λ t. token_after shift (token_after None t)) (token_after shift) (still-first shift) (layer_places a) (layer_places c) (covering first second)
    (covered (token_after None) (token_after shift) (layer_places a) (layer_places b) (layer_places c) first second one two order ordered)

-- the same where there may be no first one
pub covers : (shift : Option Reach) (a b c : Source) (first : Option Reach) (second : Reach)
    → ((s : Reach) → first ≡ Some s → s.start ≤ s.end) → second.start ≤ second.end
    → LayerLeads None a b first → LayerLeads shift b c (Some second) → LayerLeads shift a c (with_pending first (Some second))
covers shift a b c None second ordered order one two = subst (λ l. Leads (map (token_after shift)) l (layer_places c) second) one two
covers shift a b c (Some first) second ordered order one two = cover-leads shift a b c first second (ordered first refl) order one two

-- ---- what fits a u32

-- numbers that add up to one
pub sum-fits : (first second : Reach) → first.start + first.count + (second.start + second.count + second.end) + first.end < 2 ^ 32
    → CoverFits first second
sum-fits first second few = record { replaced = omega (arith, few); old = omega (arith, few); new = omega (arith, few) }

-- replacements that lead between lists whose lengths do
pub lists-fit : {X : Type 0} (f g : X → X) (a b c : List X) (first second : Reach) → first.start ≤ first.end → second.start ≤ second.end
    → Leads (map f) a b first → Leads (map g) b c second → length a < 2 ^ 32 → length b < 2 ^ 32 → length c < 2 ^ 32 → CoverFits first second
lists-fit f g a b c first second ordered order one two few-a few-b few-c =
    let both = covered f g a b c first second one two order ordered in
    record {
      replaced = omega (arith, one.reaches, few-b);
      old = omega (arith, both.within, few-a);
      new = omega (arith, both.reaches, few-c);
    }
