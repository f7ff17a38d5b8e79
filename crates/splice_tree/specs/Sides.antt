-- The two sides of a run of splices.
use Rattle.std.specs.Prelude.{ℕ}
use Rattle.sum_core.specs.Sums.{SummaryLaws}
use Rattle.sum_core.specs.Measures.{MeasureLaws}
use Rattle.splice_tree.specs.declared.sides.Sides.{Sides}

module _ {S : Type 0} where
  abbrev pub none : S → Sides S
  none empty = record { lower = empty; upper = empty }

  abbrev pub both : (S → S → S) → Sides S → Sides S → Sides S
  both joined a b = record { lower = joined a.lower b.lower; upper = joined a.upper b.upper }

  abbrev pub BothFit : (S → Type 0) → Sides S → Type 0
  BothFit fits s = fits s.lower × fits s.upper

  module _ (empty : S) (joined : S → S → S) (fits : S → Type 0) where
    pub sides_laws : SummaryLaws empty joined fits → SummaryLaws (none empty) (both joined) (BothFit fits)
    sides_laws laws = record {
      left_identity = λ x i. record { lower = laws.left_identity x.lower i; upper = laws.left_identity x.upper i };
      right_identity = λ x i. record { lower = laws.right_identity x.lower i; upper = laws.right_identity x.upper i };
      assoc = λ x y z i. record { lower = laws.assoc x.lower y.lower z.lower i; upper = laws.assoc x.upper y.upper z.upper i };
      empty_fits = (laws.empty_fits, laws.empty_fits);
      left_fits = λ x y f. (laws.left_fits x.lower y.lower f.0, laws.left_fits x.upper y.upper f.1);
      right_fits = λ x y f. (laws.right_fits x.lower y.lower f.0, laws.right_fits x.upper y.upper f.1);
    }

  module _ (joined : S → S → S) (fits : S → Type 0) (number : S → ℕ) where
    pub lower_laws : MeasureLaws joined fits number → MeasureLaws (both joined) (BothFit fits) (λ s. number s.lower)
    lower_laws laws = record {
      left_at_most = λ x y f. laws.left_at_most x.lower y.lower f.0;
      right_at_most = λ x y f. laws.right_at_most x.lower y.lower f.0;
    }

    pub upper_laws : MeasureLaws joined fits number → MeasureLaws (both joined) (BothFit fits) (λ s. number s.upper)
    upper_laws laws = record {
      left_at_most = λ x y f. laws.left_at_most x.upper y.upper f.1;
      right_at_most = λ x y f. laws.right_at_most x.upper y.upper f.1;
    }
