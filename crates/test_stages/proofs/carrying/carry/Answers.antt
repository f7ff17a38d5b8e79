use Rattle.std.proofs.Common.{◌≡◌, ℕ, ◌+◌, ◌-◌, ◌<◌, List, [], ◌∷◌, ◌++◌, length, map, take, drop, get_or, set, sym, ap, ◌∙◌, subst, arith}
use Rattle.std.specs.Prelude.{All, Option, None}
use Rattle.std.proofs.lemmas.List.{length-map, length-take-le, get_or-append_right, get_or-drop}
use Rattle.kept_sheet.specs.Kept.{standing}
use Rattle.test_stages.specs.Places.{carried}
use Rattle.test_stages.proofs.AlteredLines.{map_more}
use Rattle.test_stages.proofs.Places.{one-there}
use Rattle.test_stages.proofs.carrying.carry.Goals as goal

-- the next place is still the old one
next-old : (f : Option ℕ → Option ℕ) (now old : List (Option ℕ)) (i : ℕ) → i < length old → now ≡ map f (take i old) ++ drop i old → get_or now i None ≡ get_or old i None
next-old f now old i lt is =
    let long : length (map f (take i old)) ≡ i = length-map (take i old) f ∙ length-take-le i old (omega (arith, lt)) in
    let here : i - i ≡ 0 = omega arith in
    let at : i + 0 ≡ i = omega arith in
    ap (λ (l : List (Option ℕ)). get_or l i None) is
    ∙ get_or-append_right (map f (take i old)) (drop i old) i i None long (omega arith)
    ∙ ap (λ (k : ℕ). get_or (drop i old) k None) here
    ∙ get_or-drop i old 0 None
    ∙ ap (λ (k : ℕ). get_or old k None) at

pub carried-requires-clause-there : goal.carried-requires-clause-there
carried-requires-clause-there c =
    let lt : c.loop-i.i < length c.args.places.now = omega (arith, c.loop-i-test.true, c.loop-i.auto.places, c.loop-i.auto.i-end) in
    subst (λ p. All (λ line. line < c.args.total) (standing (p ∷ [])))
    (sym (next-old (carried c.args.run) c.loop-i.places c.args.places.now c.loop-i.i lt c.loop-i.invariant))
    (one-there c.args.total c.args.places.now c.loop-i.i lt c.requires.there)

pub loop-i-preserved : goal.loop-i-preserved
loop-i-preserved c =
    let lt : c.loop-i.i < length c.args.places.now = omega (arith, c.loop-i-test.true, c.loop-i.auto.places, c.loop-i.auto.i-end) in
    ap (set c.loop-i.places c.loop-i.i) c.carried.ensures
    ∙ map_more (carried c.args.run) c.loop-i.places c.args.places.now c.loop-i.i None lt c.loop-i.invariant
