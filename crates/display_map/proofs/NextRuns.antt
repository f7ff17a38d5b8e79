-- Which lines wait, by the marks of lines and the lines of the jobs that are out, and the run that is sent next.
use Rattle.std.proofs.Common.{◌≡◌, ℕ, zero, suc, ◌+◌, ◌-◌, ◌<◌, ◌≤◌, ◌&&◌, ◌||◌, ◌⊎◌, eqb, ltb, not, min, cond, Bool, true, false, List, [], ◌∷◌, ◌++◌, length, map, set, drop, get_or, refl, sym, ap, subst, ◌∙◌, inl, inr, arith, length-drop}
use Rattle.std.specs.Prelude.{Option, Some, None}
use Rattle.std.specs.List.{prefix_len}
use Rattle.std.proofs.lemmas.Bool.{cases_eq, cases_lt, eq-eqb, le-ltb, lt-ltb, ne_eqb, true≢false}
use Rattle.std.proofs.lemmas.List.{get_or-drop, get_or-map, get_or_past, get_or-set_other, get_or-set_same, length-map, length-set}
use Rattle.cell_units.specs.declared.limits.TheConstants.{RUN_LIMIT}
use Rattle.cell_line.specs.declared.lines.Run.{Run}
use Rattle.cell_line.specs.Waiting.{IsNextIfAny, waits}
use Rattle.display_map.specs.Displays.{IsNextRun, NoneWaits}
use Rattle.kept_sheet.specs.Kept.{standing}
use Rattle.display_map.specs.OutRuns.{any_has, is_in, lines_out}
use Rattle.display_map.specs.Outs.{OutParts, lowered, lowered_by, waiting}
use Rattle.display_map.proofs.OutRuns.{any-append}
use Rattle.display_map.proofs.WaitingFlags.{first_flag-at}
use Rattle.display_map.proofs.WaitingLines.{prefix_at}

and_true : (b : Bool) → (b && true) ≡ b
and_true true = refl
and_true false = refl

and_false : (b : Bool) → (b && false) ≡ false
and_false true = refl
and_false false = refl

both : (a b c : Bool) → ((a && not b) && not c) ≡ (a && not (b || c))
both true true c = refl
both true false c = refl
both false b c = refl

-- ---- flags, one by one

lowered-one : (flags : List Bool) (p i : ℕ) → get_or (set flags p false) i false ≡ (get_or flags i false && not (eqb p i))
lowered-one flags p i = elim (cases_eq i p) [
  | inl same ↦
      own (cases_lt i (length flags)) same
      ∙ sym (ap (λ (b : Bool). get_or flags i false && not b) (eq-eqb p i (sym same)) ∙ and_false (get_or flags i false))
  | inr other ↦
      get_or-set_other flags p i false false other
      ∙ sym (ap (λ (b : Bool). get_or flags i false && not b) (ne_eqb p i (λ e. other (sym e))) ∙ and_true (get_or flags i false))
] where
  own : (i < length flags) ⊎ (length flags ≤ i) → i ≡ p → get_or (set flags p false) i false ≡ false
  own (inl lt) same = ap (λ (n : ℕ). get_or (set flags p false) n false) same ∙ get_or-set_same flags p false false (omega (arith, lt, same))
  own (inr ge) same = get_or_past (set flags p false) i false (omega (arith, ge, length-set flags p false))

lowered-at : (places : List (Option ℕ)) (flags : List Bool) (i : ℕ) → get_or (lowered places flags) i false ≡ (get_or flags i false && not (is_in i (standing places)))
lowered-at [] flags i = sym (and_true (get_or flags i false))
lowered-at (None ∷ places) flags i = lowered-at places flags i
lowered-at (Some p ∷ places) flags i =
    lowered-at places (set flags p false) i
    ∙ ap (λ (b : Bool). b && not (is_in i (standing places))) (lowered-one flags p i)
    ∙ both (get_or flags i false) (eqb p i) (is_in i (standing places))

lowered_by-at : (width : ℕ) (outs : List OutParts) (flags : List Bool) (i : ℕ) →
    get_or (lowered_by width outs flags) i false ≡ (get_or flags i false && not (is_in i (lines_out width outs)))
lowered_by-at width [] flags i = sym (and_true (get_or flags i false))
lowered_by-at width (out ∷ outs) flags i = go (eqb out.width width) (λ flags. lowered_by-at width outs flags i) where
  go : (b : Bool) → ((flags : List Bool) → get_or (lowered_by width outs flags) i false ≡ (get_or flags i false && not (is_in i (lines_out width outs)))) →
      get_or (lowered_by width outs (cond b (lowered out.lines flags) flags)) i false
      ≡ (get_or flags i false && not (is_in i (cond b (standing out.lines ++ lines_out width outs) (lines_out width outs))))
  go true rest =
      rest (lowered out.lines flags)
      ∙ ap (λ (b : Bool). b && not (is_in i (lines_out width outs))) (lowered-at out.lines flags i)
      ∙ both (get_or flags i false) (is_in i (standing out.lines)) (is_in i (lines_out width outs))
      ∙ ap (λ (b : Bool). get_or flags i false && not b) (sym (any-append (λ l. eqb l i) (standing out.lines) (lines_out width outs)))
  go false rest = rest flags

off-at : (width : ℕ) (ws : List ℕ) (i : ℕ) → get_or (map (λ w. not (eqb w width)) ws) i false ≡ (ltb i (length ws) && not (eqb (get_or ws i 0) width))
off-at width ws i = elim (cases_lt i (length ws)) [
  | inl lt ↦
      get_or-map (λ (w : ℕ). not (eqb w width)) ws i 0 false lt
      ∙ sym (ap (λ (b : Bool). b && not (eqb (get_or ws i 0) width)) (lt-ltb i (length ws) lt))
  | inr ge ↦
      get_or_past (map (λ (w : ℕ). not (eqb w width)) ws) i false (omega (arith, ge, length-map ws (λ (w : ℕ). not (eqb w width))))
      ∙ sym (ap (λ (b : Bool). b && not (eqb (get_or ws i 0) width)) (le-ltb i (length ws) ge))
]

in-range : (flags : List Bool) (i : ℕ) → get_or flags i false ≡ true → i < length flags
in-range flags i h = elim (cases_lt i (length flags)) [
  | inl lt ↦ lt
  | inr ge ↦ absurd (true≢false (sym h ∙ get_or_past flags i false ge))
]

-- as many pass as are known to
at-least : (xs : List Bool) (n : ℕ) → ((k : ℕ) → k < n → get_or xs k false ≡ true) → n ≤ prefix_len (λ w. w) xs
at-least [] zero all = omega arith
at-least [] (suc n) all = absurd (true≢false (sym (all 0 (omega arith))))
at-least (x ∷ xs) zero all = omega arith
at-least (x ∷ xs) (suc n) all =
    let rest = at-least xs n (λ k lt. all (suc k) (omega (arith, lt))) in
    omega (arith, rest, ap {B = ℕ} (λ (b : Bool). cond b (1 + prefix_len (λ (w : Bool). w) xs) 0) (all 0 (omega arith)))

module _ (ws : List ℕ) (width : ℕ) (outs : List OutParts) (runs : List Run) (same : (line : ℕ) → any_has line runs ≡ is_in line (lines_out width outs)) where
  abbrev flags : List Bool
  flags = waiting width ws outs

  pub waits-is : (line : ℕ) → waits ws width runs line ≡ get_or flags line false
  waits-is line =
      ap (λ (b : Bool). (ltb line (length ws) && not (eqb (get_or ws line 0) width)) && not b) (same line)
      ∙ ap (λ (b : Bool). b && not (is_in line (lines_out width outs))) (sym (off-at width ws line))
      ∙ sym (lowered_by-at width outs (map (λ w. not (eqb w width)) ws) line)

  -- where a search may start
  pub none-from : (from : ℕ) → NoneWaits flags from → (line : ℕ) → line < from → waits ws width runs line ≡ false
  none-from from none line lt = waits-is line ∙ none line lt

  pub next-is : (found : Option Run) → IsNextIfAny ws width runs found → IsNextRun flags found
  next-is None next = sym (first_flag-at flags (length flags) (omega arith) (λ k lt. sym (waits-is k) ∙ next k) (inl refl))
  next-is (Some run) next = (
    first_flag-at flags run.first (omega (arith, first)) none (inr here),
    first,
    count,
    none,
  ) where
    one : (k : ℕ) → k < run.count → get_or flags (run.first + k) false ≡ true
    one k lt = sym (waits-is (run.first + k)) ∙ next.each k lt

    here : get_or flags run.first false ≡ true
    here = let e : run.first + 0 ≡ run.first = omega arith in subst (λ (n : ℕ). get_or flags n false ≡ true) e (one 0 next.some)

    first : run.first < length flags
    first = in-range flags run.first here

    none : NoneWaits flags run.first
    none k lt = sym (waits-is k) ∙ next.none_before k lt

    behind : List Bool
    behind = drop run.first flags

    each : (k : ℕ) → k < run.count → get_or behind k false ≡ true
    each k lt = get_or-drop run.first flags k false ∙ one k lt

    least : run.count ≤ prefix_len (λ w. w) behind
    least = at-least behind run.count each

    count : run.count ≡ min RUN_LIMIT (prefix_len (λ w. w) (drop run.first flags))
    count = elim (cases_lt run.count RUN_LIMIT) [
      | inl few ↦
          let last = in-range flags (run.first + (run.count - 1)) (one (run.count - 1) (omega (arith, next.some))) in
          let stops : get_or behind run.count false ≡ false = get_or-drop run.first flags run.count false ∙ sym (waits-is (run.first + run.count)) ∙ next.no_longer few in
          let is = prefix_at (λ (w : Bool). w) behind run.count false (omega (arith, last, next.some, length-drop run.first flags)) each (inr stops) in
          omega (arith, is, few)
      | inr whole ↦ omega (arith, whole, next.few, least)
    ]

-- where no run was found
pub none-next : (flags : List Bool) (found : Option Run) → IsNextRun flags found → ((run : Run) → found ≡ Some run → ⊥) → IsNextRun flags None
none-next _ None next not = next
none-next _ (Some run) next not = absurd (not run refl)
