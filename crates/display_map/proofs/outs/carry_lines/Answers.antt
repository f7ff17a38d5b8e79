use Rattle.std.proofs.Common.{◌≡◌, ℕ, ◌+◌, ◌-◌, ◌<◌, List, [], ◌∷◌, ◌++◌, zero, suc, length, map, take, drop, get_or, set, sym, ap, ◌∙◌, subst, arith}
use Rattle.std.specs.Prelude.{Option, Some, None}
use Rattle.std.proofs.lemmas.List.{length-map, length-take-le, get_or-append_right, get_or-drop}
use Rattle.display_map.specs.Outs.{AreBelow, carried}
use Rattle.display_map.proofs.AlteredLines.{map_more}
use Rattle.display_map.proofs.outs.carry_lines.Goals as goal

one_below : (total : ℕ) (lines : List (Option ℕ)) (i : ℕ) → i < length lines → AreBelow total lines → AreBelow total (get_or lines i None ∷ [])
one_below total [] i lt h = absurd (omega (arith, lt))
one_below total (None ∷ lines) zero lt h = tt
one_below total (None ∷ lines) (suc i) lt h = one_below total lines i (omega (arith, lt)) h
one_below total (Some line ∷ lines) zero lt h = (h.0, tt)
one_below total (Some line ∷ lines) (suc i) lt h = one_below total lines i (omega (arith, lt)) h.1

-- the next line is still the old one
next_old : (f : Option ℕ → Option ℕ) (now old : List (Option ℕ)) (i : ℕ) → i < length old → now ≡ map f (take i old) ++ drop i old → get_or now i None ≡ get_or old i None
next_old f now old i lt is =
    let long : length (map f (take i old)) ≡ i = length-map (take i old) f ∙ length-take-le i old (omega (arith, lt)) in
    let here : i - i ≡ 0 = omega arith in
    let at : i + 0 ≡ i = omega arith in
    ap (λ (l : List (Option ℕ)). get_or l i None) is
    ∙ get_or-append_right (map f (take i old)) (drop i old) i i None long (omega arith)
    ∙ ap (λ (k : ℕ). get_or (drop i old) k None) here
    ∙ get_or-drop i old 0 None
    ∙ ap (λ (k : ℕ). get_or old k None) at

pub carried-requires-clause-below : goal.carried-requires-clause-below
carried-requires-clause-below c =
    let f = carried c.args.splice.first c.args.splice.end c.args.splice.count in
    let lt : c.loop-i.i < length c.args.lines.now = omega (arith, c.loop-i-test.true, c.loop-i.auto.lines, c.loop-i.auto.i-end) in
    subst (λ p. AreBelow c.args.total (p ∷ [])) (sym (next_old f c.loop-i.lines c.args.lines.now c.loop-i.i lt c.loop-i.invariant))
    (one_below c.args.total c.args.lines.now c.loop-i.i lt c.requires.below)

pub loop-i-preserved : goal.loop-i-preserved
loop-i-preserved c =
    let f = carried c.args.splice.first c.args.splice.end c.args.splice.count in
    let lt : c.loop-i.i < length c.args.lines.now = omega (arith, c.loop-i-test.true, c.loop-i.auto.lines, c.loop-i.auto.i-end) in
    ap (set c.loop-i.lines c.loop-i.i) c.carried.ensures ∙ map_more f c.loop-i.lines c.args.lines.now c.loop-i.i None lt c.loop-i.invariant
