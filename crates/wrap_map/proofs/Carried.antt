-- The lines of an old run that are still there, in the order of the run.
use Rattle.std.proofs.Common.{◌≡◌, ⊎_elim, ℕ, ◌+◌, ◌-◌, ◌<◌, ◌≤◌, true, false, cond, List, [], ◌∷◌, length, take, drop, get_or, Option, Some, None, refl, ap, sym, subst, ◌∙◌, arith, zero-add, ◌++◌, ◌==◌, length-append}
use Rattle.std.specs.Option.{option_map_or}
use Rattle.std.specs.List.{enumerate_from}
use Rattle.std.proofs.Math.ListN.{get_or-eq_default}
use Rattle.std.proofs.lemmas.Bool.{and_from, cases_eq, cases_lt, cond-true, cond-false, le-leb, eq-eqb, lt-ltb, ne_eqb}
use Rattle.std.proofs.lemmas.List.{get_or-drop, get_or-map, get_or-take, length-drop, length-map, length-take-le}
use Rattle.std.proofs.lemmas.List.FromFn.{get_or-enumerate_from, length-enumerate_from}
use Rattle.std.proofs.lemmas.Option.{get_or_from_slice_get, slice_get-get_or}
use Rattle.cell_line.specs.declared.element.Element.{Element}
use Rattle.cell_line.specs.declared.lines.Run.{Run}
use Rattle.cell_line.specs.Lines.{line_at}
use Rattle.cell_line.specs.Wrapping.{cuts_of}
use Rattle.edit_patch.specs.declared.edit.Edit.{Edit}
use Rattle.edit_patch.specs.Came.{carry_of, origin_of}
use Rattle.edit_patch.specs.Fits.{Fits}
use Rattle.edit_patch.specs.Patch.{IsPatch}
use Rattle.edit_patch.proofs.Correspondence.{corresponds}
use Rattle.edit_patch.proofs.Fitting.{from_end}
use Rattle.edit_patch.proofs.Inverse.{back, forth}
use Rattle.wrap_map.specs.Landing.{cuts_of_run, is_landed, marks_landed}
use Rattle.wrap_map.specs.Standing.{Standing, stood_of, stood_with}
use Rattle.wrap_map.specs.Stood.{Stood, stood_at, unwrapped}
use Rattle.cell_line.specs.Waiting.{has_line}
use Rattle.wrap_map.specs.inside.Landings.{Landings, closed_if_any, end_of, taken}
use Rattle.wrap_map.proofs.Groups.{IsOpen, IsPlan, open-first, taken-open}
use Rattle.wrap_map.proofs.NextRuns.{before_run, behind_run}
use Rattle.wrap_map.proofs.Standings.{pair-at, stood}
use Rattle.wrap_map.proofs.Synced.{length-stood_of}

-- ---- lines that land

-- lines as they are wrapped when the run has landed
abbrev pub landed_standing : Standing → List Edit → Run → ℕ → Standing
landed_standing s since run width = record s { marks = marks_landed since run width s.marks }

pub length-marks_landed : (since : List Edit) (run : Run) (width : ℕ) (marks : List ℕ) → length (marks_landed since run width marks) ≡ length marks
length-marks_landed since run width marks =
    length-map (enumerate_from 0 marks) (λ (p : ℕ × ℕ). cond (is_landed since run p.0) width p.1) ∙ length-enumerate_from 0 marks

pub mark-landed : (since : List Edit) (run : Run) (width : ℕ) (marks : List ℕ) (i : ℕ) → i < length marks
    → get_or (marks_landed since run width marks) i 0 ≡ cond (is_landed since run i) width (get_or marks i 0)
mark-landed since run width marks i h =
    let f : ℕ × ℕ → ℕ = λ p. cond (is_landed since run p.0) width p.1 in
    let l = length-enumerate_from 0 marks in
    get_or-map f (enumerate_from 0 marks) i (0, 0) 0 (omega (arith, l, h))
    ∙ ap f (get_or-enumerate_from 0 marks i (0, 0) h)
    ∙ ap (λ (n : ℕ). cond (is_landed since run n) width (get_or marks i 0)) (zero-add i)

-- how a line is wrapped
pub stood-at : (lines : List (List Element)) (marks : List ℕ) (i : ℕ) → i < length lines → length marks ≡ length lines
    → stood_at (stood_of (record { lines = lines; marks = marks })) i ≡ stood_with (line_at lines i) (get_or marks i 0)
stood-at lines marks i h e = pair-at stood lines marks i unwrapped e h

stood-past : (s : Standing) (i : ℕ) → length s.marks ≡ length s.lines → length s.lines ≤ i → stood_at (stood_of s) i ≡ unwrapped
stood-past s i e h = let l = length-stood_of s e in get_or-eq_default (stood_of s) unwrapped (omega (arith, l, h))

pub landed-plan : (s : Standing) (since : List Edit) (run : Run) (width : ℕ) → length s.marks ≡ length s.lines
    → IsPlan (stood_of s) (stood_of (landed_standing s since run width)) (is_landed since run)
landed-plan s since run width e =
    let new = landed_standing s since run width in
    let e' : length new.marks ≡ length new.lines = length-marks_landed since run width s.marks ∙ e in
    record {
      same_long = length-stood_of new e' ∙ sym (length-stood_of s e);
      kept = λ i h. ⊎_elim
          (λ a. stood-at s.lines s.marks i a e
          ∙ ap (stood_with (line_at s.lines i)) (sym (mark-landed since run width s.marks i (omega arith) ∙ cond-false (is_landed since run i) width (get_or s.marks i 0) h))
          ∙ sym (stood-at s.lines new.marks i a e'))
          (λ a. stood-past s i e a ∙ sym (stood-past new i e' a))
          (cases_lt i (length s.lines));
    }

-- a line that landed is wrapped at the width
pub landed-stood : (s : Standing) (since : List Edit) (run : Run) (width i : ℕ) → length s.marks ≡ length s.lines → i < length s.lines
    → is_landed since run i ≡ true → stood_at (stood_of (landed_standing s since run width)) i ≡ stood_with (line_at s.lines i) width
landed-stood s since run width i e h t =
    let new = landed_standing s since run width in
    stood-at s.lines new.marks i h (length-marks_landed since run width s.marks ∙ e)
    ∙ ap (stood_with (line_at s.lines i)) (mark-landed since run width s.marks i (omega arith) ∙ cond-true (is_landed since run i) width (get_or s.marks i 0) t)

-- ---- the wraps of the run

pub wrap-is : (lines : List (List Element)) (run : Run) (width k : ℕ) → run.first + run.count ≤ length lines → k < run.count
    → get_or (cuts_of_run lines run width) k [] ≡ cuts_of (line_at lines (run.first + k)) width
wrap-is lines run width k within h =
    let f : List Element → List ℕ = λ elements. cuts_of elements width in
    let d = length-drop run.first lines in
    let l = length-take-le run.count (drop run.first lines) (omega (arith, d, within)) in
    get_or-map f (take run.count (drop run.first lines)) k [] [] (omega (arith, l, h))
    ∙ ap f (get_or-take run.count (drop run.first lines) k [] h ∙ get_or-drop run.first lines k [])

pub length-wraps : (lines : List (List Element)) (run : Run) (width : ℕ) → run.first + run.count ≤ length lines
    → length (cuts_of_run lines run width) ≡ run.count
length-wraps lines run width within =
    let d = length-drop run.first lines in
    length-map (take run.count (drop run.first lines)) (λ (elements : List Element). cuts_of elements width)
    ∙ length-take-le run.count (drop run.first lines) (omega (arith, d, within))

-- ---- the run's lines in order

some-is : (i j : ℕ) → Some i ≡ Some j → i ≡ j
some-is i j h = cc

pub landed-from : (since : List Edit) (run : Run) (i o : ℕ) → origin_of since i ≡ Some o → run.first ≤ o → o < run.first + run.count → is_landed since run i ≡ true
landed-from since run i o came a b =
    ap (λ (x : Option ℕ). option_map_or (has_line run) x false) came ∙ and_from _ _ (le-leb run.first o a) (lt-ltb o (run.first + run.count) b)

-- a line that came is within the lines, and is the old one
pub came-within : (since : List Edit) (old new : List (List Element)) (i o : ℕ) → IsPatch since → Fits since old new
    → origin_of since i ≡ Some o → o < length old → i < length new
came-within since old new i o p f came h =
    ⊎_elim (λ a. a) (λ a.
    let e = from_end since old new (i - length new) p f in
    let q : length new + (i - length new) ≡ i = omega arith in
    let s = some-is o (length old + (i - length new)) (sym came ∙ ap (origin_of since) (sym q) ∙ e) in
    absurd (omega arith)) (cases_lt i (length new))

pub came-same : (since : List Edit) (old new : List (List Element)) (i o : ℕ) → IsPatch since → Fits since old new
    → origin_of since i ≡ Some o → o < length old → line_at new i ≡ line_at old o
came-same since old new i o p f came h =
    let w = came-within since old new i o p f came h in
    get_or_from_slice_get new i (line_at old o) [] (f.same i o w came ∙ slice_get-get_or old o [] h)

-- the lines that came from those of the run before one of them are before a place; all others that came after it are
-- not
pub record IsCarriedTo (since : List Edit) (run : Run) (next end : ℕ) : Type 0 where
  pub before : (i o : ℕ) → origin_of since i ≡ Some o → run.first ≤ o → o < next → i < end
  pub behind : (i o : ℕ) → origin_of since i ≡ Some o → next ≤ o → end ≤ i

pub carried-first : (since : List Edit) (run : Run) → IsCarriedTo since run run.first 0
carried-first since run = record {
  before = λ i o c a b. absurd (omega arith);
  behind = λ i o c a. omega arith;
}

-- past a line that is there no more
pub carried-none : (since : List Edit) (run : Run) (next end : ℕ) → IsPatch since → IsCarriedTo since run next end → carry_of since next ≡ None
    → IsCarriedTo since run (next + 1) end
carried-none since run next end p c none = record {
  before = λ i o came a b. ⊎_elim (λ q. c.before i o came a q)
      (λ q. let e : o ≡ next = omega arith in
      let f : carry_of since next ≡ Some i = back since i next p (subst (λ (x : ℕ). origin_of since i ≡ Some x) e came) in
      absurd (let g = sym none ∙ f in cc)) (cases_lt o next);
  behind = λ i o came a. c.behind i o came (omega arith);
}

-- past a line that is there
pub carried-some : (since : List Edit) (run : Run) (next end line : ℕ) → IsPatch since → IsCarriedTo since run next end → origin_of since line ≡ Some next
    → IsCarriedTo since run (next + 1) (line + 1)
carried-some since run next end line p c at = let order = (corresponds since p).order in record {
  before = λ i o came a b. ⊎_elim (λ q. omega arith)
      (λ q. ⊎_elim (λ (e : line ≡ i). omega arith) (λ ne. let s = order line i next o (omega arith) at came in absurd (omega arith)) (cases_eq line i))
      (cases_lt i (line + 1));
  behind = λ i o came a. ⊎_elim
      (λ q. ⊎_elim (λ (e : i ≡ line). let s = some-is o next (sym came ∙ ap (origin_of since) e ∙ at) in absurd (omega arith))
      (λ ne. let s = order i line o next (omega arith) came at in absurd (omega arith)) (cases_eq i line))
      (λ q. q) (cases_lt i (line + 1));
}

-- between the place and the line no line landed
pub none-between : (since : List Edit) (run : Run) (next end line : ℕ) → IsPatch since → IsCarriedTo since run next end → origin_of since line ≡ Some next
    → (i : ℕ) → end ≤ i → i < line → is_landed since run i ≡ false
none-between since run next end line p c at i a b =
    let order = (corresponds since p).order in
    let f : (x : Option ℕ) → origin_of since i ≡ x → option_map_or (has_line run) x false ≡ false =
    λ x. elim x as (λ y. origin_of since i ≡ y → option_map_or (has_line run) y false ≡ false) [
      | None ↦ λ e. refl
      | Some o ↦ λ e. let s = order i line o next b e at in
          ⊎_elim (λ q. before_run run o q) (λ q. let t = c.before i o e q s in absurd (omega arith)) (cases_lt o run.first)
    ] in
    f (origin_of since i) refl

-- nor after the last line of the run
pub none-behind : (since : List Edit) (run : Run) (end : ℕ) → IsCarriedTo since run (run.first + run.count) end
    → (i : ℕ) → end ≤ i → is_landed since run i ≡ false
none-behind since run end c i a =
    let f : (x : Option ℕ) → origin_of since i ≡ x → option_map_or (has_line run) x false ≡ false =
    λ x. elim x as (λ y. origin_of since i ≡ y → option_map_or (has_line run) y false ≡ false) [
      | None ↦ λ e. refl
      | Some o ↦ λ e. ⊎_elim (λ q. before_run run o q)
          (λ q. ⊎_elim (λ r. let t = c.before i o e q r in absurd (omega arith)) (λ r. behind_run run o r) (cases_lt o (run.first + run.count)))
          (cases_lt o run.first)
    ] in
    f (origin_of since i) refl

-- ---- the loop over the run

pub end-taken : (before : List Stood) (line : ℕ) (stood : Stood) (l : Landings) → end_of (taken before line stood l) ≡ line + 1
end-taken before line stood l =
    let next : Landings = record l { fresh = l.fresh ++ stood ∷ [] } in
    let anew : Landings = record (closed_if_any before l) { start = line; fresh = stood ∷ [] } in
    ⊎_elim
    (λ (e : line ≡ end_of l). ap end_of (cond-true (line == end_of l) next anew (eq-eqb line (end_of l) e))
    ∙ (let h = length-append l.fresh (stood ∷ []) in let q : end_of next ≡ line + 1 = omega (arith, h, e) in q))
    (λ (ne : line ≡ end_of l → ⊥). ap end_of (cond-false (line == end_of l) next anew (ne_eqb line (end_of l) ne)))
    (cases_eq line (end_of l))

-- what the landing has of the run's lines before one of them
pub record IsLandingTo (s : Standing) (since : List Edit) (run : Run) (width : ℕ) (l : Landings) (next : ℕ) : Type 0 where
  pub done : ℕ
  pub groups : IsOpen (stood_of s) (stood_of (landed_standing s since run width)) (is_landed since run) l done
  pub carried : IsCarriedTo since run next (end_of l)

pub landing-first : (s : Standing) (since : List Edit) (run : Run) (width : ℕ)
    → IsLandingTo s since run width (record { lines = stood_of s; edits = []; start = 0; fresh = [] }) run.first
landing-first s since run width = record {
  done = 0;
  groups = open-first (stood_of s) (stood_of (landed_standing s since run width)) (is_landed since run);
  carried = carried-first since run;
}

pub landing-none : (s : Standing) (since : List Edit) (run : Run) (width : ℕ) (l : Landings) (next : ℕ) → IsPatch since
    → IsLandingTo s since run width l next → carry_of since next ≡ None → IsLandingTo s since run width l (next + 1)
landing-none s since run width l next p t none = record {
  done = t.done;
  groups = t.groups;
  carried = carried-none since run next (end_of l) p t.carried none;
}

pub landing-some : (s : Standing) (old : List (List Element)) (since : List Edit) (run : Run) (width : ℕ) (l : Landings) (next line : ℕ) (stood : Stood)
    → IsPatch since → Fits since old s.lines → length s.marks ≡ length s.lines
    → IsLandingTo s since run width l next → run.first ≤ next → next < run.first + run.count → run.first + run.count ≤ length old
    → carry_of since next ≡ Some line → stood ≡ stood_with (line_at old next) width
    → IsLandingTo s since run width (taken (stood_of s) line stood l) (next + 1)
landing-some s old since run width l next line stood p f e t low high within carry stood-is =
    let came = forth since line next p carry in
    let before = stood_of s in
    let there = came-within since old s.lines line next p f came (omega arith) in
    let landed = landed-from since run line next came low high in
    let long = length-stood_of s e in
    let taken-is = taken-open before (stood_of (landed_standing s since run width)) (is_landed since run) l t.done line stood
    (landed-plan s since run width e) t.groups (t.carried.behind line next came (omega arith)) (omega (arith, long, there))
    (none-between since run next (end_of l) line p t.carried came) landed
    (stood-is ∙ ap (λ (es : List Element). stood_with es width) (sym (came-same since old s.lines line next p f came (omega arith)))
    ∙ sym (landed-stood s since run width line e there landed)) in
    record {
      done = taken-is.0;
      groups = taken-is.1;
      carried = subst (IsCarriedTo since run (next + 1)) (sym (end-taken before line stood l)) (carried-some since run next (end_of l) line p t.carried came);
    }

-- where the line is
pub landing-within : (s : Standing) (old : List (List Element)) (since : List Edit) (next line : ℕ)
    → IsPatch since → Fits since old s.lines → next < length old → carry_of since next ≡ Some line → line < length s.lines
landing-within s old since next line p f h carry = came-within since old s.lines line next p f (forth since line next p carry) h
