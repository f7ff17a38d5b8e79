-- The lines that landed among the first ones, run by run.
use Rattle.std.proofs.Common.{◌≡◌, ℕ, ◌-◌, ◌<◌, ◌≤◌, ◌==◌, not, Bool, true, false, List, length, get_or, refl, sym, ◌∙◌, inl, inr, arith}
use Rattle.std.proofs.lemmas.Bool.{cases_lt, false≢true}
use Rattle.cell_units.specs.Record.{Record}
use Rattle.row_pieces.specs.Changed.{change}
use Rattle.view_changes.specs.Events.{rewrapped}
use Rattle.view_changes.specs.inside.Flags.{GoFromFirstToLast}
use Rattle.view_changes.proofs.Marks.{flag-within, rewrapped-at}
use Rattle.view_changes.proofs.WidthRuns.{AreAt}

-- the flags before a line that are set go from the one line to the other. Both are 0 where none is
pub record GoSoFar (flags : List Bool) (line from to : ℕ) : Type 0 where
  pub order : from ≤ to
  pub upto : to ≤ line
  pub within : (k : ℕ) → k < line → get_or flags k false ≡ true → (from ≤ k) × (k < to)
  pub first : from < to → get_or flags from false ≡ true
  pub last : from < to → get_or flags (to - 1) false ≡ true
  pub none : to ≤ from → to ≡ 0

module _ (flags : List Bool) where
  module _ (line end from to : ℕ) (go : GoSoFar flags line from to) (more : line < end) where
    -- a run that isn't flagged
    pub passed : ((k : ℕ) → line ≤ k → k < end → get_or flags k false ≡ false) → GoSoFar flags end from to
    passed off = record {
      order = go.order;
      upto = omega (arith, go.upto, more);
      within = λ k lt on. elim (cases_lt k line) [ inl less ↦ go.within k less on | inr ge ↦ absurd (false≢true (sym (off k ge lt) ∙ on)) ];
      first = go.first;
      last = go.last;
      none = go.none;
    }

    module _ (on : (k : ℕ) → line ≤ k → k < end → get_or flags k false ≡ true) where
      -- the first run that is flagged
      pub begun : to ≡ 0 → GoSoFar flags end line end
      begun none = record {
        order = omega (arith, more);
        upto = omega arith;
        within = λ k lt set. (elim (cases_lt k line) [ inl less ↦ absurd (omega (arith, none, (go.within k less set).1)) | inr ge ↦ ge ], lt);
        first = λ lt. on line (omega arith) more;
        last = λ lt. on (end - 1) (omega (arith, more)) (omega (arith, more));
        none = λ le. absurd (omega (arith, le, more));
      }

      -- a further one
      pub further : (to ≡ 0 → ⊥) → GoSoFar flags end from end
      further some = record {
        order = omega (arith, go.order, go.upto, more);
        upto = omega arith;
        within = λ k lt set. (elim (cases_lt k line) [ inl less ↦ (go.within k less set).0 | inr ge ↦ omega (arith, ge, go.order, go.upto) ], lt);
        first = λ lt. go.first there;
        last = λ lt. on (end - 1) (omega (arith, more)) (omega (arith, more));
        none = λ le. absurd (omega (arith, le, go.order, go.upto, more));
      } where
        there : from < to
        there = elim (cases_lt from to) [ inl less ↦ less | inr ge ↦ absurd (some (go.none ge)) ]

  -- all lines
  pub went : (line from to : ℕ) → GoSoFar flags line from to → length flags ≤ line → GoFromFirstToLast flags (change from to (to - from))
  went line from to go all = record {
    as_many = refl;
    within = λ k on. go.within k (omega (arith, all, flag-within flags k on)) on;
    first = go.first;
    last = go.last;
    none = λ le.
        let none_to = go.none le in
        let none_from : from ≡ 0 = omega (arith, go.order, none_to) in
        λ i. change (none_from i) (none_to i) (none_to i - none_from i);
  }

-- ---- the flags of a run

module _ (r s : Record) (long : length r.marks ≡ length s.marks) (line end old new : ℕ) (within : end ≤ length r.marks) (were : AreAt r line end old) (are : AreAt s line end new) where
  pub run-flag : (k : ℕ) → line ≤ k → k < end → get_or (rewrapped r s) k false ≡ not (old == new)
  run-flag k le lt = rewrapped-at r s long k (omega (arith, lt, within)) ∙ (λ i. not (were k le lt i == are k le lt i))
