-- A landing shows no more blocks anew than are at the lines whose stamps its job holds.
use Rattle.std.proofs.Common.{◌≡◌, ℕ, ◌+◌, ◌*◌, ◌≤◌, eqb, cond, Bool, true, false, List, [], ◌∷◌, count_by, get_or, length, map, Option, None, Some, refl, sym, ap, subst, ◌∙◌, arith, inl, inr, ◌⊎◌, mul-le-mul_right, zero-add}
use Rattle.std.specs.List.{enumerate_from, list_any}
use Rattle.std.proofs.lemmas.Bool.{cases_lt, eq-eqb, eqb-true, false≢true, or_cases, or_left, or_right}
use Rattle.std.proofs.lemmas.List.{get_or-map, get_or_past, length-map}
use Rattle.std.proofs.lemmas.List.FromFn.{get_or-enumerate_from, length-enumerate_from}
use Rattle.std.proofs.lemmas.List.Sums.{sum_by-cons}
use Rattle.cell_units.specs.Record.{Block, Mark, Record, plain_mark}
use Rattle.plain_rows.specs.Reach.{LandsAtMost, blocks_at_lines}
use Rattle.plain_rows.specs.Rows.{line_of_block}
use Rattle.display_sheet.specs.Shown.{unstamped}
use Rattle.display_sheet.proofs.Sheets.{length-marks_of}
use Rattle.kept_sheet.specs.Kept.{placed_lines, standing}
use Rattle.display_map.specs.Outs.{AreAt, IsOut, OutParts}
use Rattle.display_map.specs.Replay.{SentJob, holds, lines_landed_on}
use Rattle.display_map.specs.Works.{landing_lines}
use Rattle.display_map.proofs.Stamps.{stamps}

-- ---- counts

-- where each that passes one test passes another
count-le : {X : Type 0} (p q : X → Bool) → ((x : X) → p x ≡ true → q x ≡ true) → (xs : List X) → count_by p xs ≤ count_by q xs
count-le p q to [] = omega arith
count-le p q to (x ∷ xs) =
    omega (arith, sum_by-cons (λ y. cond (p y) 1 0) x xs, sum_by-cons (λ y. cond (q y) 1 0) x xs, one (p x) refl (q x) refl, count-le p q to xs) where
      one : (b : Bool) → p x ≡ b → (c : Bool) → q x ≡ c → cond b 1 0 ≤ cond c 1 0
      one false e c f = omega arith
      one true e true f = omega arith
      one true e false f = absurd (false≢true (sym f ∙ to x e))

more-steps : (h count n m a b : ℕ) → n ≤ m → b ≤ a + 4000 * (count + n + 1) * (h + 1) → b ≤ a + 4000 * (count + m + 1) * (h + 1)
more-steps h count n m a b le took = omega (arith, took, mul-le-mul_right (h + 1) le)

-- ---- a line at a place holds a stamp of the job

placed-holds : (S vs : List ℕ) (places : List (Option ℕ)) (line : ℕ) → AreAt S vs places → list_any (λ at. eqb at line) (standing places) ≡ true → holds vs (get_or S line 0) ≡ true
placed-holds S [] [] line at on = absurd (false≢true on)
placed-holds S [] (p ∷ places) line at on = absurd at
placed-holds S (v ∷ vs) [] line at on = absurd at
placed-holds S (v ∷ vs) (None ∷ places) line at on =
    or_right (eqb v (get_or S line 0)) (holds vs (get_or S line 0)) (placed-holds S vs places line at.1 on)
placed-holds S (v ∷ vs) (Some place ∷ places) line at on =
    go (or_cases (eqb place line) (list_any (λ at. eqb at line) (standing places)) on) (λ rest. placed-holds S vs places line at.1 rest) where
      go : (eqb place line ≡ true) ⊎ (list_any (λ at. eqb at line) (standing places) ≡ true)
          → (list_any (λ at. eqb at line) (standing places) ≡ true → holds vs (get_or S line 0) ≡ true) → holds (v ∷ vs) (get_or S line 0) ≡ true
      go (inl same) rest =
          let here : v ≡ get_or S line 0 = sym at.0.1 ∙ ap (λ (n : ℕ). get_or S n 0) (eqb-true place line same) in
          or_left (eqb v (get_or S line 0)) (holds vs (get_or S line 0)) (eq-eqb v (get_or S line 0) here)
      go (inr later) rest = or_right (eqb v (get_or S line 0)) (holds vs (get_or S line 0)) (rest later)

module _ (r : Record) (job : SentJob) (out : OutParts) (is : IsOut (stamps r.marks) job out) where
  abbrev q : Record
  q = unstamped r

  long : length q.marks ≡ length r.marks
  long = length-marks_of (map (λ m. m.width) r.marks) ∙ length-map r.marks (λ m. m.width)

  -- whether a line is at a place, and whether the job holds its stamp
  abbrev placed : ℕ → Bool
  placed line = get_or (placed_lines out.lines q) line false

  abbrev held : ℕ → Bool
  held line = get_or (map (λ m. holds job.stamps m.stamp) r.marks) line false

  placed-held : (line : ℕ) → placed line ≡ true → held line ≡ true
  placed-held line on = elim (cases_lt line (length r.marks)) [
    | inl lt ↦
        let f : ℕ × Mark → Bool = λ p. list_any (λ at. eqb at p.0) (standing out.lines) in
        let none : ℕ × Mark = (0, plain_mark 0) in
        let flag : placed line ≡ list_any (λ at. eqb at line) (standing out.lines) =
        get_or-map f (enumerate_from 0 q.marks) line none false (omega (arith, length-enumerate_from 0 q.marks, lt, long))
        ∙ ap f (get_or-enumerate_from 0 q.marks line none (omega (arith, lt, long)))
        ∙ ap (λ (n : ℕ). list_any (λ at. eqb at n) (standing out.lines)) (zero-add line) in
        let own = placed-holds (stamps r.marks) job.stamps out.lines line is.lines (sym flag ∙ on) in
        get_or-map (λ m. holds job.stamps m.stamp) r.marks line (plain_mark 0) false lt
        ∙ ap (holds job.stamps) (sym (get_or-map (λ (m : Mark). m.stamp) r.marks line (plain_mark 0) 0 lt))
        ∙ own
    | inr past ↦
        let many = length-map (enumerate_from 0 q.marks) (λ (p : ℕ × Mark). list_any (λ at. eqb at p.0) (standing out.lines)) in
        let off : placed line ≡ false =
        get_or_past (placed_lines out.lines q) line false (omega (arith, many, length-enumerate_from 0 q.marks, long, past)) in
        absurd (false≢true (sym off ∙ on))
  ]

  flags-le : (c : Bool) → blocks_at_lines (cond c (placed_lines out.lines q) []) q ≤ blocks_at_lines (cond c (map (λ m. holds job.stamps m.stamp) r.marks) []) r
  flags-le true = count-le (λ (b : Block). placed (line_of_block r b)) (λ (b : Block). held (line_of_block r b)) (λ b. placed-held (line_of_block r b)) r.blocks
  flags-le false = count-le (λ (b : Block). get_or [] (line_of_block r b) false) (λ (b : Block). get_or [] (line_of_block r b) false) (λ b on. on) r.blocks

  fewer : blocks_at_lines (landing_lines q (Some out)) q ≤ blocks_at_lines (lines_landed_on r (Some job)) r
  fewer =
      subst (λ (w : ℕ). blocks_at_lines (cond (eqb w r.width) (placed_lines out.lines q) []) q ≤ blocks_at_lines (lines_landed_on r (Some job)) r) (sym is.width)
      (flags-le (eqb job.width r.width))

  pub lands-stamped : (count start end : ℕ) → LandsAtMost count (landing_lines q (Some out)) q start end → LandsAtMost count (lines_landed_on r (Some job)) r start end
  lands-stamped count start end takes h high =
      more-steps h count (blocks_at_lines (landing_lines q (Some out)) q) (blocks_at_lines (lines_landed_on r (Some job)) r) start end fewer
      (takes h (record { text = high.text; lines = high.lines; inlays = high.inlays; folds = high.folds; blocks = high.blocks }))
