-- Runs of lines at one width, found from the first line on.
use Rattle.std.proofs.Common.{◌≡◌, ℕ, ◌+◌, ◌≤◌, ◌==◌, ◌&&◌, Bool, true, false, cond, List, [], ◌∷◌, ◌++◌, refl, sym, ap, ◌∙◌, subst, arith, append_assoc}
use Rattle.std.proofs.lemmas.Bool.{and_from, and_left, and_right, eq-eqb, eqb-true, ne_eqb, false≢true}
use Rattle.cell_line.specs.declared.lines.MarkRun.{MarkRun}
use Rattle.cell_line.specs.MarkRuns.{run_before, runs_from}
use Rattle.display_sheet.specs.Windows.{run_or_none}

-- a run before runs: one with the first of them, where that goes on with it
abbrev pub onto : MarkRun → List MarkRun → List MarkRun
onto run [] = run ∷ []
onto run (next ∷ runs) =
    cond ((next.first == run.last + 1) && (next.width == run.width))
    (record { first = run.first; last = next.last; width = run.width } ∷ runs)
    (run ∷ next ∷ runs)

abbrev pub joined : MarkRun → List MarkRun → List MarkRun
joined run runs = cond (run.width == 0) runs (onto run runs)

abbrev line_run : ℕ → ℕ → MarkRun
line_run line width = record { first = line; last = line; width = width }

before-is : (line width : ℕ) (runs : List MarkRun) → run_before line width runs ≡ onto (line_run line width) runs
before-is line width [] = refl
before-is line width (r ∷ rs) = refl

pub from-is : (line width : ℕ) (ws : List ℕ) → runs_from line (width ∷ ws) ≡ joined (line_run line width) (runs_from (line + 1) ws)
from-is line width ws = ap (cond (width == 0) (runs_from (line + 1) ws)) (before-is line width (runs_from (line + 1) ws))

abbrev head_width : List MarkRun → ℕ
head_width [] = 0
head_width (r ∷ rs) = r.width

-- no run starts before the line
abbrev StartsFrom : ℕ → List MarkRun → Type 0
StartsFrom line [] = Unit {0}
StartsFrom line (r ∷ rs) = line ≤ r.first

starts : (line : ℕ) (ws : List ℕ) → StartsFrom line (runs_from line ws)
starts line [] = tt
starts line (w ∷ ws) = subst (StartsFrom line) (sym (from-is line w ws)) (go (w == 0) (runs_from (line + 1) ws) (starts (line + 1) ws)) where
  here : (rs : List MarkRun) → StartsFrom (line + 1) rs → StartsFrom line (onto (line_run line w) rs)
  here [] s = omega arith
  here (r ∷ rs) s = two ((r.first == line + 1) && (r.width == w)) where
    two : (c : Bool) → StartsFrom line (cond c (record { first = line; last = r.last; width = w } ∷ rs) (line_run line w ∷ r ∷ rs))
    two true = omega arith
    two false = omega arith

  later : (rs : List MarkRun) → StartsFrom (line + 1) rs → StartsFrom line rs
  later [] s = tt
  later (r ∷ rs) s = omega (arith, s)

  go : (c : Bool) (rs : List MarkRun) → StartsFrom (line + 1) rs → StartsFrom line (cond c rs (onto (line_run line w) rs))
  go true rs s = later rs s
  go false rs s = here rs s

-- a line at another width ends the run
ended : (run : MarkRun) (rest : List MarkRun) → ((next : MarkRun) (rs : List MarkRun) → rest ≡ next ∷ rs → ((next.first == run.last + 1) && (next.width == run.width)) ≡ false) → joined run rest ≡ run_or_none run ++ rest
ended run rest apart = go (run.width == 0) rest apart where
  go : (c : Bool) (rest : List MarkRun) → ((next : MarkRun) (rs : List MarkRun) → rest ≡ next ∷ rs → ((next.first == run.last + 1) && (next.width == run.width)) ≡ false) →
      cond c rest (onto run rest) ≡ cond c [] (run ∷ []) ++ rest
  go true rest apart = refl
  go false [] apart = refl
  go false (n ∷ ns) apart = ap (λ (b : Bool). cond b (record { first = run.first; last = n.last; width = run.width } ∷ ns) (run ∷ n ∷ ns)) (apart n ns refl)

-- a line at the run's width goes on with it
goes-on : (run : MarkRun) (rest : List MarkRun) → onto run (onto (line_run (run.last + 1) run.width) rest) ≡ onto (record { first = run.first; last = run.last + 1; width = run.width }) rest
goes-on run rest = on rest where
  yes : ((run.last + 1 == run.last + 1) && (run.width == run.width)) ≡ true
  yes = and_from (run.last + 1 == run.last + 1) (run.width == run.width) (eq-eqb (run.last + 1) (run.last + 1) refl) (eq-eqb run.width run.width refl)

  on : (rest : List MarkRun) → onto run (onto (line_run (run.last + 1) run.width) rest) ≡ onto (record { first = run.first; last = run.last + 1; width = run.width }) rest
  on [] = ap (λ (b : Bool). cond b (record { first = run.first; last = run.last + 1; width = run.width } ∷ []) (run ∷ line_run (run.last + 1) run.width ∷ [])) yes
  on (n ∷ ns) = two ((n.first == run.last + 1 + 1) && (n.width == run.width)) where
    two : (c : Bool) →
        onto run (cond c (record { first = run.last + 1; last = n.last; width = run.width } ∷ ns) (line_run (run.last + 1) run.width ∷ n ∷ ns))
        ≡ cond c (record { first = run.first; last = n.last; width = run.width } ∷ ns) (record { first = run.first; last = run.last + 1; width = run.width } ∷ n ∷ ns)
    two true = ap (λ (b : Bool). cond b (record { first = run.first; last = n.last; width = run.width } ∷ ns) (run ∷ record { first = run.last + 1; last = n.last; width = run.width } ∷ ns)) yes
    two false = ap (λ (b : Bool). cond b (record { first = run.first; last = run.last + 1; width = run.width } ∷ n ∷ ns) (run ∷ line_run (run.last + 1) run.width ∷ n ∷ ns)) yes

abbrev rest_of : ℕ → List ℕ → List MarkRun
rest_of line ws = runs_from (line + 1) ws

pub same-width : (run : MarkRun) (line : ℕ) (ws : List ℕ) → ((run.width ≡ 0 → ⊥) → run.last + 1 ≡ line) →
    joined run (runs_from line (run.width ∷ ws)) ≡ joined (record { first = run.first; last = line; width = run.width }) (runs_from (line + 1) ws)
same-width run line ws next = ap (joined run) (from-is line run.width ws) ∙ go (run.width == 0) refl where
  go : (c : Bool) → (run.width == 0) ≡ c →
      cond c (cond c (rest_of line ws) (onto (line_run line run.width) (rest_of line ws))) (onto run (cond c (rest_of line ws) (onto (line_run line run.width) (rest_of line ws))))
      ≡ cond c (rest_of line ws) (onto (record { first = run.first; last = line; width = run.width }) (rest_of line ws))
  go true e = refl
  go false e =
      let at : run.last + 1 ≡ line = next (λ none. false≢true (sym e ∙ eq-eqb run.width 0 none)) in
      subst (λ (l : ℕ). onto run (onto (line_run l run.width) (rest_of line ws)) ≡ onto (record { first = run.first; last = l; width = run.width }) (rest_of line ws)) at (goes-on run (rest_of line ws))

pub other-width : (run : MarkRun) (line width : ℕ) (ws : List ℕ) → (width ≡ run.width → ⊥) → ((run.width ≡ 0 → ⊥) → run.last + 1 ≡ line) →
    joined run (runs_from line (width ∷ ws)) ≡ run_or_none run ++ joined (line_run line width) (runs_from (line + 1) ws)
other-width run line width ws other next =
    ap (joined run) (from-is line width ws) ∙ ended run (joined (line_run line width) (rest_of line ws)) (go (width == 0) refl (rest_of line ws) (starts (line + 1) ws)) where
      apart : (next : MarkRun) → (next.width ≡ width) → ((next.first == run.last + 1) && (next.width == run.width)) ≡ false
      apart n e = and_right (n.first == run.last + 1) (n.width == run.width) (ne_eqb n.width run.width (λ same. other (sym e ∙ same)))

      onto-apart : (rest : List MarkRun) (n : MarkRun) (rs : List MarkRun) → onto (line_run line width) rest ≡ n ∷ rs → ((n.first == run.last + 1) && (n.width == run.width)) ≡ false
      onto-apart [] n rs e = apart n (sym (ap head_width e))
      onto-apart (x ∷ xs) n rs e = two ((x.first == line + 1) && (x.width == width)) e where
        two : (c : Bool) → cond c (record { first = line; last = x.last; width = width } ∷ xs) (line_run line width ∷ x ∷ xs) ≡ n ∷ rs → ((n.first == run.last + 1) && (n.width == run.width)) ≡ false
        two true e = apart n (sym (ap head_width e))
        two false e = apart n (sym (ap head_width e))

      far : (rest : List MarkRun) → StartsFrom (line + 1) rest → (width ≡ 0) → (n : MarkRun) (rs : List MarkRun) → rest ≡ n ∷ rs → ((n.first == run.last + 1) && (n.width == run.width)) ≡ false
      far rest s none n rs e =
          let start : line + 1 ≤ n.first = subst (StartsFrom (line + 1)) e s in
          let at : run.last + 1 ≡ line = next (λ zero. other (none ∙ sym zero)) in
          and_left (n.first == run.last + 1) (n.width == run.width) (ne_eqb n.first (run.last + 1) (λ same. omega (arith, start, at, same)))

      go : (c : Bool) → (width == 0) ≡ c → (rest : List MarkRun) → StartsFrom (line + 1) rest → (n : MarkRun) (rs : List MarkRun) → cond c rest (onto (line_run line width) rest) ≡ n ∷ rs → ((n.first == run.last + 1) && (n.width == run.width)) ≡ false
      go true e rest s = far rest s (eqb-true width 0 e)
      go false e rest s = onto-apart rest

-- one more line, with the runs that are done before it
pub done-other : (done : List MarkRun) (run : MarkRun) (line width : ℕ) (ws : List ℕ) (all : List MarkRun) → (width ≡ run.width → ⊥) → ((run.width ≡ 0 → ⊥) → run.last + 1 ≡ line) →
    done ++ joined run (runs_from line (width ∷ ws)) ≡ all →
    (done ++ run_or_none run) ++ joined (record { first = line; last = line; width = width }) (runs_from (line + 1) ws) ≡ all
done-other done run line width ws all other next is =
    append_assoc done (run_or_none run) (joined (line_run line width) (runs_from (line + 1) ws))
    ∙ ap (λ (runs : List MarkRun). done ++ runs) (sym (other-width run line width ws other next))
    ∙ is

pub done-same : (done : List MarkRun) (run : MarkRun) (line width : ℕ) (ws : List ℕ) (all : List MarkRun) → width ≡ run.width → ((run.width ≡ 0 → ⊥) → run.last + 1 ≡ line) →
    done ++ joined run (runs_from line (width ∷ ws)) ≡ all →
    done ++ joined (record { first = run.first; last = line; width = run.width }) (runs_from (line + 1) ws) ≡ all
done-same done run line width ws all same next is =
    ap (λ (runs : List MarkRun). done ++ runs)
    (sym (same-width run line ws next) ∙ ap (λ (w : ℕ). joined run (runs_from line (w ∷ ws))) (sym same))
    ∙ is
