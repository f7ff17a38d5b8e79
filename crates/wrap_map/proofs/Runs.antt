-- Runs of one mark.
use Rattle.std.proofs.Common.{◌≡◌, ℕ, zero, suc, ◌+◌, ◌-◌, ◌<◌, ◌≤◌, Bool, false, List, [], ◌∷◌, length, get_or, drop, Option, Some, None, unwrap_or, refl, sym, ap, subst, ◌∙◌, inl, inr, arith}
use Rattle.std.specs.Prelude.{◌==◌, ◌&&◌, ◌⊎◌, if◌then◌else◌}
use Rattle.std.proofs.lemmas.Bool.{and_from, and_left, and_right, cases_Bool, cases_lt, eq-eqb, eqb-true, ne_eqb}
use Rattle.std.proofs.Math.ListN.{get_or-map}
use Rattle.std.proofs.lemmas.List.{drop_all, drop_more, length-map}
use Rattle.cell_line.specs.MarkRuns.{run_before, runs_from}
use Rattle.wrap_map.specs.Stood.{IsOther, IsOtherIfAny, Stood, marks_in, stood_at, unwrapped}
use Rattle.cell_line.specs.declared.lines.MarkRun.{MarkRun}

-- ---- a run begins

-- whether the first of some runs is that of the line, at the width
abbrev joins : ℕ → ℕ → List MarkRun → Bool
joins line width [] = false
joins line width (run ∷ runs) = (run.first == line + 1) && (run.width == width)

run-apart : (line width : ℕ) (runs : List MarkRun) → joins line width runs ≡ false → run_before line width runs ≡ record { first = line; last = line; width = width } ∷ runs
run-apart line width [] e = refl
run-apart line width (run ∷ runs) e =
    ap (λ (b : Bool). if b then (record { first = line; last = run.last; width = width } ∷ runs) else (record { first = line; last = line; width = width } ∷ run ∷ runs)) e

run-joined : (line last width : ℕ) (runs : List MarkRun) → run_before line width (record { first = line + 1; last = last; width = width } ∷ runs) ≡ record { first = line; last = last; width = width } ∷ runs
run-joined line last width runs =
    let e = and_from _ _ (eq-eqb (line + 1) (line + 1) refl) (eq-eqb width width refl) in
    ap (λ (b : Bool). if b then (record { first = line; last = last; width = width } ∷ runs) else (record { first = line; last = line; width = width } ∷ record { first = line + 1; last = last; width = width } ∷ runs)) e

-- no run of these begins before the line
abbrev BeginFrom : ℕ → List MarkRun → Type 0
BeginFrom line [] = Unit {0}
BeginFrom line (run ∷ runs) = line ≤ run.first

begin-sooner : (a b : ℕ) (runs : List MarkRun) → a ≤ b → BeginFrom b runs → BeginFrom a runs
begin-sooner a b [] le f = tt
begin-sooner a b (run ∷ runs) le f = omega arith

begin-before : (line width : ℕ) (runs : List MarkRun) → BeginFrom line (run_before line width runs)
begin-before line width [] = omega arith
begin-before line width (run ∷ runs) = elim (cases_Bool (joins line width (run ∷ runs))) [
  | inl is ↦
      let e : run_before line width (run ∷ runs) ≡ record { first = line; last = run.last; width = width } ∷ runs =
      ap (λ (b : Bool). if b then (record { first = line; last = run.last; width = width } ∷ runs) else (record { first = line; last = line; width = width } ∷ run ∷ runs)) is in
      subst (λ (l : List MarkRun). BeginFrom line l) (sym e) (omega arith)
  | inr not ↦ subst (λ (l : List MarkRun). BeginFrom line l) (sym (run-apart line width (run ∷ runs) not)) (omega arith)
]

begin-from : (line : ℕ) (ms : List ℕ) → BeginFrom line (runs_from line ms)
begin-from line [] = tt
begin-from line (w ∷ ws) = elim (cases_Bool (w == 0)) [
  | inl none ↦
      let e : runs_from line (w ∷ ws) ≡ runs_from (line + 1) ws =
      ap (λ (b : Bool). if b then runs_from (line + 1) ws else run_before line w (runs_from (line + 1) ws)) none in
      subst (λ (l : List MarkRun). BeginFrom line l) (sym e) (begin-sooner line (line + 1) (runs_from (line + 1) ws) (omega arith) (begin-from (line + 1) ws))
  | inr some ↦
      let e : runs_from line (w ∷ ws) ≡ run_before line w (runs_from (line + 1) ws) =
      ap (λ (b : Bool). if b then runs_from (line + 1) ws else run_before line w (runs_from (line + 1) ws)) some in
      subst (λ (l : List MarkRun). BeginFrom line l) (sym e) (begin-before line w (runs_from (line + 1) ws))
]

later-apart : (line width : ℕ) (runs : List MarkRun) → BeginFrom (line + 2) runs → joins line width runs ≡ false
later-apart line width [] f = refl
later-apart line width (run ∷ runs) f = and_left _ _ (ne_eqb run.first (line + 1) (λ e. absurd (omega (arith, e, f))))

width-apart : (line v width : ℕ) (runs : List MarkRun) → (v ≡ width → ⊥) → joins line width (run_before (line + 1) v runs) ≡ false
width-apart line v width [] ne = and_right _ _ (ne_eqb v width ne)
width-apart line v width (run ∷ runs) ne = elim (cases_Bool (joins (line + 1) v (run ∷ runs))) [
  | inl is ↦
      let e : run_before (line + 1) v (run ∷ runs) ≡ record { first = line + 1; last = run.last; width = v } ∷ runs =
      ap (λ (b : Bool). if b then (record { first = line + 1; last = run.last; width = v } ∷ runs) else (record { first = line + 1; last = line + 1; width = v } ∷ run ∷ runs)) is in
      ap (λ (l : List MarkRun). joins line width l) e ∙ and_right _ _ (ne_eqb v width ne)
  | inr not ↦ ap (λ (l : List MarkRun). joins line width l) (run-apart (line + 1) v (run ∷ runs) not) ∙ and_right _ _ (ne_eqb v width ne)
]

from-zero : (line w : ℕ) (ws : List ℕ) → w ≡ 0 → runs_from line (w ∷ ws) ≡ runs_from (line + 1) ws
from-zero line w ws e =
    ap (λ (b : Bool). if b then runs_from (line + 1) ws else run_before line w (runs_from (line + 1) ws)) (eq-eqb w 0 e)

from-width : (line w : ℕ) (ws : List ℕ) → (w ≡ 0 → ⊥) → runs_from line (w ∷ ws) ≡ run_before line w (runs_from (line + 1) ws)
from-width line w ws ne =
    ap (λ (b : Bool). if b then runs_from (line + 1) ws else run_before line w (runs_from (line + 1) ws)) (ne_eqb w 0 ne)

next-apart : (line width : ℕ) (ws : List ℕ) → (ws ≡ [] ⊎ (get_or ws 0 width ≡ width → ⊥)) → joins line width (runs_from (line + 1) ws) ≡ false
next-apart line width [] ends = refl
next-apart line width (v ∷ ws) ends = elim ends [
  | inl none ↦ absurd (cc)
  | inr other ↦
      elim (cases_Bool (v == 0)) [
        | inl zero_is ↦
            let z = eqb-true v 0 zero_is in
            let two : line + 1 + 1 ≡ line + 2 = omega arith in
            ap (λ (l : List MarkRun). joins line width l) (from-zero (line + 1) v ws z)
            ∙ later-apart line width (runs_from (line + 1 + 1) ws) (subst (λ (n : ℕ). BeginFrom n (runs_from (line + 1 + 1) ws)) two (begin-from (line + 1 + 1) ws))
        | inr some ↦
            let e : runs_from (line + 1) (v ∷ ws) ≡ run_before (line + 1) v (runs_from (line + 1 + 1) ws) =
            ap (λ (b : Bool). if b then runs_from (line + 1 + 1) ws else run_before (line + 1) v (runs_from (line + 1 + 1) ws)) some in
            ap (λ (l : List MarkRun). joins line width l) e ∙ width-apart line v width (runs_from (line + 1 + 1) ws) other
      ]
]

-- ---- along the marks of all lines

-- the runs from a line on
abbrev pub rest_of : List ℕ → ℕ → List MarkRun
rest_of ms line = runs_from line (drop line ms)

pub zeros : (ms : List ℕ) (line first n : ℕ) → first ≡ line + n → first ≤ length ms → ((k : ℕ) → line ≤ k → k < first → get_or ms k 0 ≡ 0) → rest_of ms line ≡ rest_of ms first
zeros ms line first zero is within none =
    let same : line ≡ first = omega arith in
    ap (λ (k : ℕ). rest_of ms k) same
zeros ms line first (suc n) is within none =
    ap (λ (l : List ℕ). runs_from line l) (drop_more ms line 0 (omega arith))
    ∙ from-zero line (get_or ms line 0) (drop (line + 1) ms) (none line (omega arith) (omega arith))
    ∙ zeros ms (line + 1) first n (omega arith) within (λ k low high. none k (omega arith) high)

pub all-zeros : (ms : List ℕ) (line : ℕ) → line ≤ length ms → ((k : ℕ) → line ≤ k → k < length ms → get_or ms k 0 ≡ 0) → rest_of ms line ≡ []
all-zeros ms line within none =
    zeros ms line (length ms) (length ms - line) (omega arith) (omega arith) none
    ∙ ap (λ (l : List ℕ). runs_from (length ms) l) (drop_all (length ms) ms (omega arith))

ends-there : (ms : List ℕ) (end width : ℕ) → ((end ≡ length ms) ⊎ ((end < length ms) × (get_or ms end 0 ≡ width → ⊥))) → (drop end ms ≡ [] ⊎ (get_or (drop end ms) 0 width ≡ width → ⊥))
ends-there ms end width ends = elim ends [
  | inl is ↦ inl (drop_all end ms (omega arith))
  | inr at ↦
      let more = drop_more ms end 0 at.0 in
      inr (λ e. at.1 (sym (ap (λ (l : List ℕ). get_or l 0 width) more) ∙ e))
]

pub one-run : (ms : List ℕ) (first end width n : ℕ) → end ≡ first + 1 + n → end ≤ length ms → (width ≡ 0 → ⊥) → ((k : ℕ) → first ≤ k → k < end → get_or ms k 0 ≡ width)
    → ((end ≡ length ms) ⊎ ((end < length ms) × (get_or ms end 0 ≡ width → ⊥))) → rest_of ms first ≡ record { first = first; last = end - 1; width = width } ∷ rest_of ms end
one-run ms first end width zero is within some each ends =
    let next : first + 1 ≡ end = omega arith in
    let last : first ≡ end - 1 = omega arith in
    let mark = each first (omega arith) (omega arith) in
    ap (λ (l : List ℕ). runs_from first l) (drop_more ms first 0 (omega arith))
    ∙ ap (λ (w : ℕ). runs_from first (w ∷ drop (first + 1) ms)) mark
    ∙ from-width first width (drop (first + 1) ms) some
    ∙ run-apart first width (runs_from (first + 1) (drop (first + 1) ms)) (next-apart first width (drop (first + 1) ms) (subst (λ (k : ℕ). (drop k ms ≡ [] ⊎ (get_or (drop k ms) 0 width ≡ width → ⊥))) (sym next) (ends-there ms end width ends)))
    ∙ ap (λ (k : ℕ). record { first = first; last = first; width = width } ∷ rest_of ms k) next
    ∙ ap (λ (k : ℕ). record { first = first; last = k; width = width } ∷ rest_of ms end) last
one-run ms first end width (suc n) is within some each ends =
    let mark = each first (omega arith) (omega arith) in
    ap (λ (l : List ℕ). runs_from first l) (drop_more ms first 0 (omega arith))
    ∙ ap (λ (w : ℕ). runs_from first (w ∷ drop (first + 1) ms)) mark
    ∙ from-width first width (drop (first + 1) ms) some
    ∙ ap (run_before first width) (one-run ms (first + 1) end width n (omega arith) within some (λ k low high. each k (omega arith) high) ends)
    ∙ run-joined first (end - 1) width (rest_of ms end)

-- ---- from run to run

mark-at : (ls : List Stood) (k : ℕ) → get_or (marks_in ls) k 0 ≡ (stood_at ls k).mark
mark-at ls k = get_or-map (λ (l : Stood). l.mark) ls k unwrapped

-- one run, and the runs after it
pub record IsTurn (ls : List Stood) (line first end width : ℕ) : Type 0 where
  pub some : first < end
  pub within : end ≤ length ls
  pub more : line < end
  pub runs : rest_of (marks_in ls) line ≡ record { first = first; last = end - 1; width = width } ∷ rest_of (marks_in ls) end

turn-to : (ls : List Stood) (line first end width : ℕ) → IsOther ls line 0 first → width ≡ (stood_at ls first).mark → first < end → end ≤ length ls
    → ((k : ℕ) → first ≤ k → k < end → (stood_at ls k).mark ≡ width) → ((end ≡ length ls) ⊎ ((end < length ls) × ((stood_at ls end).mark ≡ width → ⊥))) → IsTurn ls line first end width
turn-to ls line first end width at is some within each ends =
    let ms = marks_in ls in
    let count : length ms ≡ length ls = length-map ls (λ (l : Stood). l.mark) in
    let order = at.order in
    let inside = at.within in
    let before = zeros ms line first (first - line) (omega arith) (omega arith) (λ k low high. mark-at ls k ∙ at.before k low high) in
    let last : ((end ≡ length ms) ⊎ ((end < length ms) × (get_or ms end 0 ≡ width → ⊥))) =
    elim ends [ inl e ↦ inl (e ∙ sym count) | inr e ↦ inr (omega (arith, e.0), λ q. e.1 (sym (mark-at ls end) ∙ q)) ] in
    record {
      some = some;
      within = within;
      more = omega arith;
      runs =
          before
          ∙ one-run ms first end width (end - (first + 1)) (omega arith) (omega arith) (λ z. at.other (sym is ∙ z)) (λ k low high. mark-at ls k ∙ each k low high) last;
    }

pub turn : (ls : List Stood) (line first width end : ℕ) (o : Option ℕ) → IsOther ls line 0 first → width ≡ (stood_at ls first).mark → IsOtherIfAny ls first width o → end ≡ unwrap_or o (length ls) → IsTurn ls line first end width
turn ls line first width end None at is none e =
    subst (λ (n : ℕ). IsTurn ls line first n width) (sym e)
    (turn-to ls line first (length ls) width at is at.within (omega arith) none (inl refl))
turn ls line first width end (Some n) at is other e =
    let more : first < n = elim (cases_lt first n) [
      | inl less ↦ less
      | inr le ↦
          let same : first ≡ n = omega (arith, le, other.order) in
          absurd (other.other (ap (λ (k : ℕ). (stood_at ls k).mark) (sym same) ∙ sym is))
    ] in
    let within = other.within in
    subst (λ (n : ℕ). IsTurn ls line first n width) (sym e)
    (turn-to ls line first n width at is more (omega arith) other.before (inr (within, other.other)))

-- after the last run
pub no-turn : (ls : List Stood) (line : ℕ) → line ≤ length ls → IsOtherIfAny ls line 0 None → rest_of (marks_in ls) line ≡ []
no-turn ls line within none =
    let count : length (marks_in ls) ≡ length ls = length-map ls (λ (l : Stood). l.mark) in
    all-zeros (marks_in ls) line (omega arith) (λ k low high. mark-at ls k ∙ none k low (omega arith))
