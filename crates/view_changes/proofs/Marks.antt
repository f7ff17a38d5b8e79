-- Marks that a landing leaves: where no width is another, they are the same.
use Rattle.std.proofs.Common.{◌≡◌, ℕ, ◌-◌, ◌<◌, ◌≤◌, ◌==◌, not, zero, suc, cond, Bool, true, false, List, [], ◌∷◌, length, map, drop, get_or, zip, refl, sym, ap, subst, ◌∙◌, inl, inr, arith}
use Rattle.std.specs.Prelude.{Option, Some, None}
use Rattle.std.proofs.lemmas.Bool.{cases_lt, eq-eqb, eqb-true, false≢true, not-false}
use Rattle.std.proofs.lemmas.List.{get_or-map, length-map}
use Rattle.std.proofs.lemmas.Slice.Zip.{get_or-zip}
use Rattle.cell_units.specs.Record.{Mark, Record, plain_mark}
use Rattle.cell_units.specs.Lawful.{IsMarked}
use Rattle.display_map.specs.Replay.{SentJob, holds, landed_on, lines_landed_on, wrapped_at}
use Rattle.display_map.proofs.Jobs.{landed_marks, landed_on-is, landed_stamps}
use Rattle.display_map.proofs.Stamps.{stamps}
use Rattle.row_pieces.specs.declared.row_change.RowChange.{RowChange}
use Rattle.row_pieces.specs.Changed.{IsLanded, IsTrue, change, looks, looks_by_line, rows_of_lines}
use Rattle.row_pieces.proofs.LandedLooks.{landed-between}
use Rattle.row_pieces.proofs.LookCounts.{zip-long}
use Rattle.row_pieces.proofs.TrueLines.{take-agreeing}
use Rattle.view_changes.specs.Events.{lines_flagged, rewrapped, rows_landed}
use Rattle.view_changes.specs.inside.Flags.{GoFromFirstToLast}
use Rattle.view_changes.proofs.Runs.{flagged-go}

-- ---- lists that agree from a place on

module _ {X : Type 0} (d : X) where
  drop-same : (n : ℕ) (xs ys : List X) → length xs ≡ length ys → ((k : ℕ) → n ≤ k → k < length xs → get_or xs k d ≡ get_or ys k d) → drop n xs ≡ drop n ys
  drop-same n [] [] l h = refl
  drop-same n [] (y ∷ ys) l h = absurd (omega (arith, l))
  drop-same n (x ∷ xs) [] l h = absurd (omega (arith, l))
  drop-same zero (x ∷ xs) (y ∷ ys) l h = λ i. h 0 (omega arith) (omega arith) i ∷ drop-same zero xs ys (omega (arith, l)) (λ k le lt. h (suc k) (omega arith) (omega (arith, lt))) i
  drop-same (suc n) (x ∷ xs) (y ∷ ys) l h = drop-same n xs ys (omega (arith, l)) (λ k le lt. h (suc k) (omega (arith, le)) (omega (arith, lt)))

-- ---- which lines have another width

abbrev pub differs : Mark × Mark → Bool
differs m = not (m.0.width == m.1.width)

module _ (r s : Record) (long : length r.marks ≡ length s.marks) where
  pub length-rewrapped : length (rewrapped r s) ≡ length r.marks
  length-rewrapped = length-map (zip r.marks s.marks) differs ∙ zip-long r.marks s.marks long

  pub rewrapped-at : (k : ℕ) → k < length r.marks → get_or (rewrapped r s) k false ≡ not ((get_or r.marks k (plain_mark 0)).width == (get_or s.marks k (plain_mark 0)).width)
  rewrapped-at k lt =
      let none : Mark × Mark = (plain_mark 0, plain_mark 0) in
      get_or-map differs (zip r.marks s.marks) k none false (omega (arith, lt, zip-long r.marks s.marks long))
      ∙ ap differs (get_or-zip r.marks s.marks k none lt (omega (arith, lt, long)))

-- no flag is set past the end
pub flag-within : (flags : List Bool) (k : ℕ) → get_or flags k false ≡ true → k < length flags
flag-within [] k e = absurd (false≢true e)
flag-within (f ∷ fs) zero e = omega arith
flag-within (f ∷ fs) (suc k) e = omega (arith, flag-within fs k e)

unset : (b : Bool) → (b ≡ true → ⊥) → b ≡ false
unset true h = absurd (h refl)
unset false h = refl

-- ---- a landing

module _ (r : Record) (job : Option SentJob) where
  abbrev after : Record
  after = landed_on r job

  abbrev there : ℕ → Mark
  there k = get_or r.marks k (plain_mark 0)

  abbrev here : ℕ → Mark
  here k = get_or after.marks k (plain_mark 0)

  marks-are : after.marks ≡ landed_marks r job
  marks-are = ap (λ (q : Record). q.marks) (landed_on-is r job)

  stamps-are : stamps after.marks ≡ stamps r.marks
  stamps-are = ap stamps marks-are ∙ landed_stamps r job

  pub as-many : length r.marks ≡ length after.marks
  as-many = sym (length-map r.marks (λ (m : Mark). m.stamp)) ∙ ap length (sym stamps-are) ∙ length-map after.marks (λ (m : Mark). m.stamp)

  same-stamp : (k : ℕ) → k < length r.marks → (here k).stamp ≡ (there k).stamp
  same-stamp k lt =
      sym (get_or-map (λ (m : Mark). m.stamp) after.marks k (plain_mark 0) 0 (omega (arith, lt, as-many)))
      ∙ ap (λ (xs : List ℕ). get_or xs k 0) stamps-are
      ∙ get_or-map (λ (m : Mark). m.stamp) r.marks k (plain_mark 0) 0 lt

  -- a line of the same width has the same mark
  same-mark : (k : ℕ) → k < length r.marks → (get_or (rewrapped r after) k false ≡ true → ⊥) → here k ≡ there k
  same-mark k lt off =
      let flag = sym (rewrapped-at r after as-many k lt) ∙ unset (get_or (rewrapped r after) k false) off in
      let width : (there k).width ≡ (here k).width = eqb-true (there k).width (here k).width (not-false ((there k).width == (here k).width) flag) in
      λ i. record { stamp = same-stamp k lt i; width = sym width i }

  module _ (lines : RowChange) (go : GoFromFirstToLast (rewrapped r after) lines) where
    order : lines.from ≤ lines.to
    order = elim (cases_lt lines.to lines.from) [
      | inl less ↦ let none = go.none (omega (arith, less)) in omega (arith, ap (λ (c : RowChange). c.from) none, less)
      | inr le ↦ le
    ]

    pub within : lines.to ≤ length r.marks
    within = elim (cases_lt lines.from lines.to) [
      | inl some ↦ omega (arith, some, flag-within (rewrapped r after) (lines.to - 1) (go.last some), length-rewrapped r after as-many)
      | inr le ↦ let none = go.none le in omega (arith, ap (λ (c : RowChange). c.to) none)
    ]

    pub is-landed : IsLanded r after lines.from lines.to
    is-landed = record {
      same = landed_on-is r job ∙ (λ i. record r { marks = sym marks-are i });
      order = order;
      within = within;
      long = sym as-many;
      before = take-agreeing (plain_mark 0) lines.from after.marks r.marks (omega (arith, order, within, as-many)) (omega (arith, order, within))
          (λ k lt. same-mark k (omega (arith, lt, order, within)) (λ on. omega (arith, lt, (go.within k on).0)));
      after = drop-same (plain_mark 0) lines.to after.marks r.marks (sym as-many)
          (λ k le lt. same-mark k (omega (arith, lt, as-many)) (λ on. omega (arith, le, (go.within k on).1)));
    }

  pub true-landed : IsMarked r → IsTrue (rows_landed r after) (looks r) (looks after)
  true-landed marked =
      let lines = lines_flagged (rewrapped r after) in
      let go = flagged-go (rewrapped r after) in
      let same : change lines.from lines.to (lines.to - lines.from) ≡ lines = λ i. record { from = lines.from; to = lines.to; count = sym go.as_many i } in
      subst (λ (c : RowChange). IsTrue (rows_of_lines c (looks_by_line r) (looks_by_line after)) (looks r) (looks after)) same
      (landed-between r after lines.from lines.to marked (is-landed lines go))

-- ---- the lines that land are those of the job

still : (marks : List Mark) (k : ℕ) → get_or (map differs (zip marks marks)) k false ≡ true → ⊥
still [] k e = false≢true e
still (m ∷ ms) zero e = false≢true (ap not (sym (eq-eqb m.width m.width refl)) ∙ e)
still (m ∷ ms) (suc k) e = still ms k e

held : (width : ℕ) (own : List ℕ) (marks : List Mark) (k : ℕ) → get_or (map differs (zip marks (wrapped_at width own marks))) k false ≡ true →
    get_or (map (λ m. holds own m.stamp) marks) k false ≡ true
held width own [] k e = absurd (false≢true e)
held width own (m ∷ ms) (suc k) e = held width own ms k e
held width own (m ∷ ms) zero e = go (holds own m.stamp) e where
  go : (b : Bool) → differs (m, cond b (record { stamp = m.stamp; width = width }) m) ≡ true → b ≡ true
  go true e = refl
  go false e = absurd (false≢true (ap not (sym (eq-eqb m.width m.width refl)) ∙ e))

pub landed-lines : (r : Record) (job : Option SentJob) (line : ℕ) → get_or (rewrapped r (landed_on r job)) line false ≡ true → get_or (lines_landed_on r job) line false ≡ true
landed-lines r None line e = absurd (still r.marks line e)
landed-lines r (Some job) line e = go (job.width == r.width) e where
  go : (b : Bool) → get_or (rewrapped r (cond b (record r { marks = wrapped_at job.width job.stamps r.marks }) r)) line false ≡ true →
      get_or (cond b (map (λ m. holds job.stamps m.stamp) r.marks) []) line false ≡ true
  go true e = held job.width job.stamps r.marks line e
  go false e = absurd (still r.marks line e)
