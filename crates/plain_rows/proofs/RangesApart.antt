-- Disjoint ranges in order: what each of them hides, and the gaps between them.
use Rattle.std.proofs.Common.{◌≡◌, ℕ, ◌+◌, ◌-◌, ◌<◌, ◌≤◌, ◌&&◌, suc, zero, true, false, ltb, leb, List, [], ◌∷◌, length, get_or, refl, sym, ap, ◌∙◌, subst, inl, inr, arith}
use Rattle.std.specs.List.{All}
use Rattle.std.specs.Str.{IsCharBoundary, IsUtf8}
use Rattle.std.proofs.lemmas.Bool.{cases_lt, false≢true, lt-ltb, le-ltb, le-leb, lt-leb, and_left, and_right, and_from, or_from, or_left, or_right}
use Rattle.std.proofs.lemmas.List.Elements.{All-contains}
use Rattle.std.proofs.lemmas.Str.{IsCharBoundary-from_take}
use Rattle.cell_units.specs.Text.{IsBoundary}
use Rattle.cell_units.specs.Record.{Fold}
use Rattle.cell_units.specs.Folded.{covered, inside}
use Rattle.cell_units.proofs.Joined.{covered_of, inside_by}
use Rattle.plain_rows.specs.declared.folded_lines.Joined.{Joined}
use Rattle.plain_rows.specs.FoldedLines.{AreRanges, joined_folds}
use Rattle.plain_rows.proofs.JoinedFolds.{end_before}

below-covered : (e o : ℕ) (js : List Joined) → AreRanges e js → o < e → covered (joined_folds js) o ≡ false
below-covered e o [] r lt = refl
below-covered e o (j ∷ js) r lt =
    or_from (leb j.start o && ltb o j.end) (covered (joined_folds js) o)
    (and_left (leb j.start o) (ltb o j.end) (lt-leb j.start o (omega (arith, r.0))))
    (below-covered j.end o js r.2 (omega (arith, r.0, r.1)))

pub below-inside : (e o : ℕ) (js : List Joined) → AreRanges e js → o ≤ e → inside (joined_folds js) o ≡ false
below-inside e o [] r le = refl
below-inside e o (j ∷ js) r le =
    or_from (ltb j.start o && ltb o j.end) (inside (joined_folds js) o)
    (and_left (ltb j.start o) (ltb o j.end) (le-ltb j.start o (omega (arith, r.0))))
    (below-inside j.end o js r.2 (omega (arith, r.0, r.1)))

end_before-from : (o : ℕ) (js : List Joined) (k : ℕ) → AreRanges o js → o ≤ end_before o js k
end_before-from o [] k r = omega arith
end_before-from o (j ∷ js) zero r = omega arith
end_before-from o (j ∷ js) (suc k) r = omega (arith, end_before-from j.end js k r.2, r.0, r.1)

pub end_before-none : (o : ℕ) (js : List Joined) → end_before o js 0 ≡ o
end_before-none o [] = refl
end_before-none o (j ∷ js) = refl

pub end_before-more : (o : ℕ) (js : List Joined) (k : ℕ) (d : Joined) → k < length js → end_before o js (k + 1) ≡ (get_or js k d).end
end_before-more o [] k d lt = absurd (omega (arith, lt))
end_before-more o (j ∷ js) zero d lt = end_before-none j.end js
end_before-more o (j ∷ js) (suc k) d lt =
    let e : suc k + 1 ≡ suc (k + 1) = omega arith in
    ap (end_before o (j ∷ js)) e ∙ end_before-more j.end js k d (omega arith)

pub gap : (from : ℕ) (js : List Joined) (k o : ℕ) (d : Joined) → AreRanges from js → k < length js → end_before from js k ≤ o → o < (get_or js k d).start → covered (joined_folds js) o ≡ false
gap from [] k o d r lt le hi = absurd (omega (arith, lt))
gap from (j ∷ js) zero o d r lt le hi =
    or_from (leb j.start o && ltb o j.end) (covered (joined_folds js) o)
    (and_left (leb j.start o) (ltb o j.end) (lt-leb j.start o hi))
    (below-covered j.end o js r.2 (omega (arith, hi, r.1)))
gap from (j ∷ js) (suc k) o d r lt le hi =
    or_from (leb j.start o && ltb o j.end) (covered (joined_folds js) o)
    (and_right (leb j.start o) (ltb o j.end) (le-ltb o j.end (omega (arith, le, end_before-from j.end js k r.2))))
    (gap j.end js k o d r.2 (omega arith) le hi)

pub gap-last : (from : ℕ) (js : List Joined) (o : ℕ) → AreRanges from js → end_before from js (length js) ≤ o → covered (joined_folds js) o ≡ false
gap-last from [] o r le = refl
gap-last from (j ∷ js) o r le =
    or_from (leb j.start o && ltb o j.end) (covered (joined_folds js) o)
    (and_right (leb j.start o) (ltb o j.end) (le-ltb o j.end (omega (arith, le, end_before-from j.end js (length js) r.2))))
    (gap-last j.end js o r.2 le)

-- one of the ranges
pub record RangeAt (js : List Joined) (before s e : ℕ) : Type 0 where
  pub order : before ≤ s
  pub some : s < e
  pub starts : covered (joined_folds js) s ≡ true
  pub outside : inside (joined_folds js) s ≡ false
  pub hides : (o : ℕ) → s < o → o < e → inside (joined_folds js) o ≡ true
  pub last : covered (joined_folds js) (e - 1) ≡ true
  pub end_outside : inside (joined_folds js) e ≡ false

pub range-at : (from : ℕ) (js : List Joined) (k : ℕ) (d : Joined) → AreRanges from js → k < length js → RangeAt js (end_before from js k) (get_or js k d).start (get_or js k d).end
range-at from [] k d r lt = absurd (omega (arith, lt))
range-at from (j ∷ js) zero d r lt =
    record {
      order = r.0;
      some = r.1;
      starts = or_left (leb j.start j.start && ltb j.start j.end) (covered (joined_folds js) j.start) (and_from (leb j.start j.start) (ltb j.start j.end) (le-leb j.start j.start (omega arith)) (lt-ltb j.start j.end r.1));
      outside = or_from (ltb j.start j.start && ltb j.start j.end) (inside (joined_folds js) j.start) (and_left (ltb j.start j.start) (ltb j.start j.end) (le-ltb j.start j.start (omega arith))) (below-inside j.end j.start js r.2 (omega (arith, r.1)));
      hides = λ o lo hi. or_left (ltb j.start o && ltb o j.end) (inside (joined_folds js) o) (and_from (ltb j.start o) (ltb o j.end) (lt-ltb j.start o lo) (lt-ltb o j.end hi));
      last = or_left (leb j.start (j.end - 1) && ltb (j.end - 1) j.end) (covered (joined_folds js) (j.end - 1)) (and_from (leb j.start (j.end - 1)) (ltb (j.end - 1) j.end) (le-leb j.start (j.end - 1) (omega (arith, r.1))) (lt-ltb (j.end - 1) j.end (omega (arith, r.1))));
      end_outside = or_from (ltb j.start j.end && ltb j.end j.end) (inside (joined_folds js) j.end) (and_right (ltb j.start j.end) (ltb j.end j.end) (le-ltb j.end j.end (omega arith))) (below-inside j.end j.end js r.2 (omega arith));
    }
range-at from (j ∷ js) (suc k) d r lt =
    let rest = range-at j.end js k d r.2 (omega arith) in
    let s : ℕ = (get_or js k d).start in
    let e : ℕ = (get_or js k d).end in
    let past : j.end ≤ s = omega (arith, rest.order, end_before-from j.end js k r.2) in
    record {
      order = rest.order;
      some = rest.some;
      starts = or_right (leb j.start s && ltb s j.end) (covered (joined_folds js) s) rest.starts;
      outside = or_from (ltb j.start s && ltb s j.end) (inside (joined_folds js) s) (and_right (ltb j.start s) (ltb s j.end) (le-ltb s j.end past)) rest.outside;
      hides = λ o lo hi. or_right (ltb j.start o && ltb o j.end) (inside (joined_folds js) o) (rest.hides o lo hi);
      last = or_right (leb j.start (e - 1) && ltb (e - 1) j.end) (covered (joined_folds js) (e - 1)) rest.last;
      end_outside = or_from (ltb j.start e && ltb e j.end) (inside (joined_folds js) e) (and_right (ltb j.start e) (ltb e j.end) (le-ltb e j.end (omega (arith, past, rest.some)))) rest.end_outside;
    }

-- ---- where a range starts and ends, a fold does

module _ (text : List ℕ) (utf8 : IsUtf8 text) (folds : List Fold) (stand : All (λ f. IsBoundary text f.start × IsBoundary text f.end × (f.start < f.end)) folds) where
  at-boundary : (o : ℕ) → IsBoundary text o → IsCharBoundary text o
  at-boundary o b = IsCharBoundary-from_take text o utf8 b.0 b.1

  pub start-boundary : (s : ℕ) → covered folds s ≡ true → inside folds s ≡ false → IsCharBoundary text s
  start-boundary s cover out =
      let r = covered_of folds s cover in
      let f = All-contains (λ f. IsBoundary text f.start × IsBoundary text f.end × (f.start < f.end)) folds r.0 stand r.1 in
      elim (cases_lt r.0.start s) [
        | inl lt ↦ absurd (false≢true (sym out ∙ inside_by folds s r.0 r.1 lt r.3))
        | inr le ↦ let same : r.0.start ≡ s = omega (arith, le, r.2) in subst (IsCharBoundary text) same (at-boundary r.0.start f.0)
      ]

  pub end-boundary : (e : ℕ) → 0 < e → covered folds (e - 1) ≡ true → inside folds e ≡ false → IsCharBoundary text e
  end-boundary e some cover out =
      let r = covered_of folds (e - 1) cover in
      let f = All-contains (λ f. IsBoundary text f.start × IsBoundary text f.end × (f.start < f.end)) folds r.0 stand r.1 in
      elim (cases_lt e r.0.end) [
        | inl lt ↦ absurd (false≢true (sym out ∙ inside_by folds e r.0 r.1 (omega (arith, r.2, some)) lt))
        | inr le ↦ let same : r.0.end ≡ e = omega (arith, le, r.3, some) in subst (IsCharBoundary text) same (at-boundary r.0.end f.1)
      ]
