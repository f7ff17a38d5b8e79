-- Marks that are set one after another.
use Rattle.std.proofs.Common.{◌≡◌, ℕ, zero, suc, ◌+◌, Bool, true, false, cond, ◌||◌, eqb, List, [], ◌∷◌, map, set, Some, None, refl, ap, sym, ◌∙◌, arith, zero-add}
use Rattle.std.specs.List.{enumerate_from}
use Rattle.std.proofs.lemmas.Bool.{eq-eqb, ne_eqb}
use Rattle.wrapped_lines.specs.Places.{is_at}
use Rattle.wrapped_lines.specs.Laws.{AreSet}
use Rattle.wrapped_lines.proofs.Placed.{same-marks}

abbrev marks_by : (ℕ → Bool) → ℕ → ℕ → List ℕ → List ℕ
marks_by f width from marks = map (λ p. cond (f p.0) width p.1) (enumerate_from from marks)

either : (b : Bool) (n : ℕ) → cond b n n ≡ n
either true n = refl
either false n = refl

-- one more line is set
set-one : (f : ℕ → Bool) (width from line at : ℕ) (marks : List ℕ) → at ≡ from + line →
    marks_by f width from (set marks line width) ≡ marks_by (λ n. eqb at n || f n) width from marks
set-one f width from line at [] here = refl
set-one f width from zero at (mark ∷ marks) here =
    let now : eqb at from ≡ true = eq-eqb at from (omega (arith, here)) in
    let rest = same-marks f (λ n. eqb at n || f n) width (from + 1) marks
    (λ n ge lt. sym (ap (λ (b : Bool). b || f n) (ne_eqb at n (λ e. absurd (omega (arith, e, here, ge)))))) in
    λ i. (either (f from) width ∙ sym (ap (λ (b : Bool). cond (b || f from) width mark) now)) i ∷ rest i
set-one f width from (suc line) at (mark ∷ marks) here =
    let not_yet : eqb at from ≡ false = ne_eqb at from (λ e. absurd (omega (arith, e, here))) in
    let rest = set-one f width (from + 1) line at marks (omega (arith, here)) in
    λ i. sym (ap (λ (b : Bool). cond (b || f from) width mark) not_yet) i ∷ rest i

as-they-were : (width from : ℕ) (marks : List ℕ) → marks_by (λ _. false) width from marks ≡ marks
as-they-were width from [] = refl
as-they-were width from (mark ∷ marks) = ap (λ (rest : List ℕ). mark ∷ rest) (as-they-were width (from + 1) marks)

pub are-set : AreSet
are-set [] width marks = as-they-were width 0 marks
are-set (None ∷ places) width marks = are-set places width marks
are-set (Some line ∷ places) width marks =
    sym (set-one (is_at places) width 0 line line marks (sym (zero-add line))) ∙ are-set places width (set marks line width)
