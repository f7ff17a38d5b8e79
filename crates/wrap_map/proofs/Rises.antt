-- How many rows there are while lines land, where no line that lands has been put in one row before. They are no more
-- than there were, and one for each cut of the run.
use Rattle.std.proofs.Common.{◌≡◌, ⊎_elim, ℕ, zero, suc, ◌+◌, ◌-◌, ◌<◌, ◌≤◌, ◌^◌, Bool, true, false, cond, List, [], ◌∷◌, ◌++◌, length, map, take, drop, get_or, Option, Some, None, refl, ap, sym, ◌∙◌, arith, add-one}
use Rattle.std.specs.Prelude.{sum_by}
use Rattle.std.specs.Option.{option_map_or}
use Rattle.std.proofs.Math.Seq.{drop-cons}
use Rattle.std.proofs.lemmas.Bool.{and_parts, cases_Bool, cond-false, cond-true, leb-true, ltb-true}
use Rattle.std.proofs.lemmas.List.{take_all}
use Rattle.std.proofs.lemmas.List.Sums.{sum_by-cons, sum_by_more}
use Rattle.cell_line.specs.declared.element.Element.{Element}
use Rattle.cell_line.specs.declared.lines.Run.{Run}
use Rattle.cell_line.specs.Lines.{line_at}
use Rattle.cell_line.specs.Wrapping.{cuts_of}
use Rattle.edit_patch.specs.declared.edit.Edit.{Edit}
use Rattle.edit_patch.specs.Came.{origin_of}
use Rattle.edit_patch.specs.Fits.{Fits}
use Rattle.edit_patch.specs.Patch.{IsPatch}
use Rattle.edit_patch.proofs.Correspondence.{corresponds}
use Rattle.wrap_map.specs.Landing.{cuts_of_run, is_landed, standing_landed}
use Rattle.wrap_map.specs.Standing.{IsStanding, Standing, stood_of}
use Rattle.wrap_map.specs.Stood.{Stood, rows_in, stood_at, unwrapped}
use Rattle.cell_line.specs.Waiting.{has_line}
use Rattle.wrap_map.specs.inside.Landings.{FitBetween}
use Rattle.wrap_map.proofs.Carried.{came-same, landed-plan, landed-stood, length-wraps, wrap-is}
use Rattle.wrap_map.proofs.Groups.{IsPlan}
use Rattle.wrap_map.proofs.Spreads.{rows-append}
use Rattle.wrap_map.proofs.StoodRows.{rows-next}
use Rattle.wrap_map.proofs.Synced.{length-stood_of}

-- ---- by the lines that landed

-- the cuts of those that land among the first d lines
abbrev cuts_landed : List Stood → (ℕ → Bool) → ℕ → ℕ
cuts_landed after landed zero = 0
cuts_landed after landed (suc d) = cuts_landed after landed d + cond (landed d) (length (stood_at after d).cuts) 0

rows-first : (ls : List Stood) (k : ℕ) → k < length ls → rows_in (drop k ls) ≡ 1 + length (stood_at ls k).cuts + rows_in (drop (suc k) ls)
rows-first ls k h = ap rows_in (drop-cons ls k unwrapped h)

rows-risen : (before after : List Stood) (landed : ℕ → Bool) (d : ℕ) → IsPlan before after landed → d ≤ length before
    → rows_in (take d after ++ drop d before) ≤ rows_in before + cuts_landed after landed d
rows-risen before after landed zero plan h = omega arith
rows-risen before after landed (suc d) plan h =
    let same = plan.same_long in
    let ih = rows-risen before after landed d plan (omega arith) in
    let here = rows-append (take d after) (drop d before) in
    let next = rows-append (take (suc d) after) (drop (suc d) before) in
    let front = ap (λ (n : ℕ). rows_in (take n after)) (sym (add-one d)) ∙ rows-next after d (omega (arith, same)) in
    let back = rows-first before d (omega arith) in
    ⊎_elim
    (λ t. let added = cond-true (landed d) (length (stood_at after d).cuts) 0 t in omega (arith, ih, here, next, front, back, added))
    (λ f. let added = cond-false (landed d) (length (stood_at after d).cuts) 0 f in
    let kept = ap (λ (st : Stood). length st.cuts) (plan.kept d f) in omega (arith, ih, here, next, front, back, added, kept))
    (cases_Bool (landed d))

-- ---- by the run's lines

-- the cuts of the first m lines of the run
abbrev cuts_to : List (List ℕ) → ℕ → ℕ
cuts_to wraps m = sum_by length (take m wraps)

cuts-more : (wraps : List (List ℕ)) (m n : ℕ) → m ≤ n → cuts_to wraps m ≤ cuts_to wraps n
cuts-more wraps zero n le = omega arith
cuts-more [] (suc m) n le = omega arith
cuts-more (w ∷ wraps) (suc m) zero le = absurd (omega arith)
cuts-more (w ∷ wraps) (suc m) (suc n) le =
    omega (arith, cuts-more wraps m n (omega arith), sum_by-cons length w (take m wraps), sum_by-cons length w (take n wraps))

-- a line that landed came from one of the run's
pub came-from : (since : List Edit) (run : Run) (i : ℕ) → is_landed since run i ≡ true
    → (o : ℕ) × (origin_of since i ≡ Some o) × (run.first ≤ o) × (o < run.first + run.count)
came-from since run i t =
    let Goal : Option ℕ → Type 0 = λ x. (o : ℕ) × (x ≡ Some o) × (run.first ≤ o) × (o < run.first + run.count) in
    let go : (x : Option ℕ) → option_map_or (has_line run) x false ≡ true → Goal x =
    λ x. elim x as (λ y. option_map_or (has_line run) y false ≡ true → Goal y) [
      | None ↦ λ e. absurd (cc)
      | Some o ↦ λ e. let both = and_parts _ _ e in (o, refl, leb-true run.first o both.0, ltb-true o (run.first + run.count) both.1)
    ] in
    go (origin_of since i) t

-- all that land among the first d lines came from before the m-th of the run
abbrev CameBefore : List Edit → Run → ℕ → ℕ → Type 0
CameBefore since run d m = (i o : ℕ) → i < d → origin_of since i ≡ Some o → run.first ≤ o → o < run.first + run.count → o < run.first + m

cuts-landed : (s : Standing) (old : List (List Element)) (since : List Edit) (run : Run) (width d m : ℕ)
    → IsPatch since → Fits since old s.lines → length s.marks ≡ length s.lines → run.first + run.count ≤ length old
    → d ≤ length s.lines → m ≤ run.count → CameBefore since run d m
    → cuts_landed (stood_of (standing_landed since run width s)) (is_landed since run) d ≤ cuts_to (cuts_of_run old run width) m
cuts-landed s old since run width zero m p f e within there few before = omega arith
cuts-landed s old since run width (suc d) m p f e within there few before =
    let after = stood_of (standing_landed since run width s) in
    let landed = is_landed since run in
    let wraps = cuts_of_run old run width in
    ⊎_elim
    (λ t.
    let came = came-from since run d t in
    let o = came.0 in
    let k = o - run.first in
    let near : o < run.first + m = before d o (omega arith) came.1 came.2 came.3 in
    let order = (corresponds since p).order in
    let ih = cuts-landed s old since run width d k p f e within (omega arith) (omega arith)
    (λ i j less from low high. let q = order i d j o less from came.1 in omega arith) in
    let long = length-wraps old run width within in
    let place : run.first + k ≡ o = omega arith in
    let cuts : length (stood_at after d).cuts ≡ length (get_or wraps k []) =
    ap (λ (st : Stood). length st.cuts) (landed-stood s since run width d e (omega arith) t)
    ∙ ap (λ (es : List Element). length (cuts_of es width)) (came-same since old s.lines d o p f came.1 (omega arith))
    ∙ ap (λ (n : ℕ). length (cuts_of (line_at old n) width)) (sym place)
    ∙ ap length (sym (wrap-is old run width k within (omega arith))) in
    let next = sum_by_more length wraps k [] (omega (arith, long)) in
    let more = cuts-more wraps (k + 1) m (omega arith) in
    let added = cond-true (landed d) (length (stood_at after d).cuts) 0 t in
    omega (arith, ih, cuts, next, more, added))
    (λ n.
    let ih = cuts-landed s old since run width d m p f e within (omega arith) few (λ i j less. before i j (omega arith)) in
    let added = cond-false (landed d) (length (stood_at after d).cuts) 0 n in
    omega (arith, ih, added))
    (cases_Bool (landed d))

-- ---- what a landing needs

sum-map : {X : Type 0} (f : X → List ℕ) (ws : List X) → sum_by length (map f ws) ≡ sum_by (λ w. length (f w)) ws
sum-map f [] = refl
sum-map f (w ∷ ws) = omega (arith, sum-map f ws, sum_by-cons length (f w) (map f ws), sum_by-cons (λ v. length (f v)) w ws)

pub risen-fit : {X : Type 0} (s : Standing) (old : List (List Element)) (since : List Edit) (run : Run) (width : ℕ) (f : X → List ℕ) (ws : List X) (from : List Stood)
    → from ≡ stood_of s → IsStanding s → IsPatch since → Fits since old s.lines → run.first + run.count ≤ length old
    → map f ws ≡ cuts_of_run old run width → rows_in from + sum_by (λ w. length (f w)) ws < 2 ^ 32
    → FitBetween from (stood_of (standing_landed since run width s))
risen-fit s old since run width f ws from from-is is p fits within wraps few d h =
    let long = ap length from-is ∙ length-stood_of s is.one_each in
    let all = cuts_of_run old run width in
    let count = length-wraps old run width within in
    let rows = rows-risen (stood_of s) (stood_of (standing_landed since run width s)) (is_landed since run) d (landed-plan s since run width is.one_each)
    (omega (arith, h, ap length from-is)) in
    let cuts = cuts-landed s old since run width d run.count p fits is.one_each within (omega (arith, long, h)) (omega arith) (λ i o less came low high. high) in
    let whole : cuts_to all run.count ≡ sum_by (λ w. length (f w)) ws =
    ap (sum_by length) (take_all run.count all (omega (arith, count)) ∙ sym wraps) ∙ sum-map f ws in
    let same = ap rows_in from-is in
    let here = ap (λ (ls : List Stood). rows_in (take d (stood_of (standing_landed since run width s)) ++ drop d ls)) from-is in
    omega (arith, rows, cuts, whole, same, here, few)
