-- Text, inlays and placeholders laid one after the other show all up to where they reach.
use Rattle.std.proofs.Common.{◌≡◌, ℕ, ◌+◌, ◌-◌, ◌<◌, ◌≤◌, true, false, ltb, List, [], ◌∷◌, ◌++◌, length, take, get_or, refl, sym, ap, ◌∙◌, subst, inl, inr, arith}
use Rattle.std.specs.List.{slice_range}
use Rattle.std.specs.Str.{IsCharBoundary, IsUtf8}
use Rattle.std.proofs.lemmas.Bool.{and_cases, and_parts, cases_lt, ltb-false, ltb-true}
use Rattle.std.proofs.lemmas.List.{get_or-map, get_or-take, get_or_default, length-map, length-take-le, take_all, take_more}
use Rattle.std.proofs.lemmas.Str.{IsCharBoundary-from_take, IsCharBoundary-end}
use Rattle.cell_units.specs.Text.{IsBoundary, line_feed}
use Rattle.cell_units.specs.Record.{Inlay}
use Rattle.cell_units.specs.Inlaid.{Byte, Hidden, Token, inlay_bytes, inlays_at}
use Rattle.cell_units.specs.Folded.{covered, folded_before}
use Rattle.cell_units.specs.Layers.{Source}
use Rattle.cell_units.proofs.CutLists.{Every}
use Rattle.cell_units.proofs.FoundEntries.{Every-from_All}
use Rattle.cell_units.proofs.Joined.{covered_inside}
use Rattle.cell_units.proofs.OperatedLines.{free_at_end}
use Rattle.plain_rows.specs.declared.folded_lines.Joined.{Joined}
use Rattle.plain_rows.specs.declared.folded_lines.Part.{Part}
use Rattle.plain_rows.specs.declared.folded_lines.Part.TheVariants.{Feed, Placeholder}
use Rattle.plain_rows.specs.declared.plain.PlainFold.{PlainFold}
use Rattle.plain_rows.specs.declared.plain.PlainInlay.{PlainInlay}
use Rattle.plain_rows.specs.FoldedLines.{AreShown, IsLawfulSource, Joins, before_all, bytes_from, inlay_at, is_end, next_inlay, no_inlay}
use Rattle.plain_rows.specs.Plain.{inlay_of, listed_source}
use Rattle.plain_rows.specs.inside.Laying.{IsFree, IsHidden, IsJoinedFold, IsLaid, IsPast, Lays, Reaches, last_of, stands_before, tokens_of}
use Rattle.plain_rows.proofs.JoinedFolds.{end_before}
use Rattle.plain_rows.proofs.LaidParts.{last-push, reaches-push, tokens-push}
use Rattle.plain_rows.proofs.LaidText.{upto-all, upto-fold, upto-hidden, upto-inlay, upto-text}
use Rattle.plain_rows.proofs.RangesApart.{end-boundary, gap, gap-last, range-at, start-boundary}

-- the inlay that a read gives
pub inlay_at-read : (text : List ℕ) (inlays : List PlainInlay) (folds : List PlainFold) (k : ℕ) (x : PlainInlay) → k < length inlays →
    inlay_at (listed_source text inlays folds) k ≡ inlay_of (get_or inlays k x)
inlay_at-read text inlays folds k x lt = get_or-map inlay_of inlays k x no_inlay lt

pub length-inlays : (text : List ℕ) (inlays : List PlainInlay) (folds : List PlainFold) → length (listed_source text inlays folds).inlays ≡ length inlays
length-inlays text inlays folds = length-map inlays inlay_of

module _ (s : Source) (lawful : IsLawfulSource s) where
  abbrev offset : ℕ → ℕ
  offset k = (inlay_at s k).offset

  pub boundary-from : (o : ℕ) → IsBoundary s.text o → IsCharBoundary s.text o
  boundary-from o b = IsCharBoundary-from_take s.text o lawful.text.0 b.0 b.1

  pub inlay-boundary : (k : ℕ) → k < length s.inlays → IsCharBoundary s.text (offset k)
  inlay-boundary k lt = boundary-from (offset k) (lawful.inlays_stand k no_inlay lt).0

  pub inlay-utf8 : (k : ℕ) → k < length s.inlays → IsUtf8 (inlay_at s k).text
  inlay-utf8 k lt = (lawful.inlays_stand k no_inlay lt).1

  pub inlays-rise : (i j : ℕ) → i < j → j < length s.inlays → offset i ≤ offset j
  inlays-rise i j lt within = lawful.inlays_in_order i j no_inlay lt within

  before-every : (n at : ℕ) → n ≤ length s.inlays → ((k : ℕ) → k < n → offset k ≤ at) → Every (λ i. i.offset ≤ at) (take n s.inlays)
  before-every n at le before = Every-from_All (λ i. i.offset ≤ at) (take n s.inlays) (λ k d lt.
      let long = length-take-le n s.inlays le in
      let same : get_or (take n s.inlays) k d ≡ inlay_at s k = get_or-take n s.inlays k d (omega (arith, lt, long)) ∙ get_or_default s.inlays k d no_inlay (omega (arith, lt, long, le)) in
      subst (λ (i : Inlay). i.offset ≤ at) (sym same) (before k (omega (arith, lt, long))))

  pub laid-none : IsLaid s 0 0 []
  laid-none = record {
    reaches = record { lie = tt; chain = tt; ends = refl };
    shows = refl;
    inlays = omega arith;
    before = λ k lt. absurd (omega (arith, lt));
    behind = λ k _ _. omega arith;
    number_within = omega arith;
  }

  -- the buffer's bytes up to a later offset
  pub laid-text : (n at to : ℕ) (ps qs : List Part) → IsLaid s n at ps → Lays s ps qs at to → IsFree s at to → ((k : ℕ) → n ≤ k → k < length s.inlays → to ≤ offset k) → IsLaid s n to qs
  laid-text n at to ps qs laid lays free behind = record {
    reaches = lays.reaches;
    shows =
        lays.shows
        ∙ ap (λ (l : List Token). l ++ bytes_from at (slice_range s.text at to)) laid.shows
        ∙ sym (upto-text s.text (take n s.inlays) s.folds at to free.span.order free.span.ends.0 (before-every n at laid.number_within laid.before) free.free);
    inlays = omega (arith, lays.inlays, laid.inlays);
    before = λ k lt. omega (arith, laid.before k lt, free.span.order);
    behind = behind;
    number_within = laid.number_within;
  }

  -- the next inlay, at its offset
  pub laid-inlay : (n : ℕ) (ps qs : List Part) → n < length s.inlays → IsLaid s n (offset n) ps → Reaches s qs (offset n) → tokens_of s qs ≡ tokens_of s ps ++ inlay_bytes (inlay_at s n) →
      next_inlay (last_of qs) ≤ n + 1 → IsLaid s (n + 1) (offset n) qs
  laid-inlay n ps qs lt laid reaches shows inlays = record {
    reaches = reaches;
    shows =
        shows
        ∙ ap (λ (l : List Token). l ++ inlay_bytes (inlay_at s n)) laid.shows
        ∙ sym (upto-inlay s.text (take n s.inlays) s.folds (inlay_at s n) (inlay-boundary n lt).0)
        ∙ (λ i. shown_of (sym (take_more s.inlays n no_inlay lt) i));
    inlays = inlays;
    before = λ k small. elim (cases_lt k n) [
      | inl less ↦ laid.before k less
      | inr le ↦ let same : n ≡ k = omega (arith, small, le) in ap-le same
    ];
    behind = λ k le within. inlays-rise n k (omega (arith, le)) within;
    number_within = omega (arith, lt);
  } where
    shown_of : List Inlay → List Token
    shown_of inlays = folded_before s.text inlays s.folds (offset n) ++ inlays_at inlays (offset n)

    ap-le : {k : ℕ} → n ≡ k → offset k ≤ offset n
    ap-le same = subst (λ (j : ℕ). offset j ≤ offset n) same (omega arith)

  -- the same stretch from an inlay of it on
  pub free-within : (at to : ℕ) (n : ℕ) → n < length s.inlays → IsFree s at to → at ≤ offset n → offset n ≤ to → IsFree s at (offset n) × IsFree s (offset n) to
  free-within at to n lt free le ge = (
    record {
      span = record { order = le; starts = free.span.starts; ends = inlay-boundary n lt };
      free = λ o lo hi. free.free o lo (omega (arith, hi, ge));
    },
    record {
      span = record { order = ge; starts = inlay-boundary n lt; ends = free.span.ends };
      free = λ o lo hi. free.free o (omega (arith, lo, le)) hi;
    },
  )

  -- ---- placeholders

  pub laid-placeholder : (n : ℕ) (ps : List Part) (j : Joined) → IsLaid s n j.start ps → IsPast s n j.start → IsJoinedFold s j → IsHidden s n j.start j.end (ps ++ Placeholder j.start j.end ∷ [])
  laid-placeholder n ps j laid past fold = record {
    reaches = reaches-push s ps (Placeholder j.start j.end) j.start laid.reaches fold.some refl tt;
    shows =
        tokens-push s ps (Placeholder j.start j.end)
        ∙ ap (λ (l : List Token). l ++ Hidden j.start ∷ []) laid.shows
        ∙ sym (upto-fold s.text (take n s.inlays) s.folds j.start j.end fold.some fold.within (before-every n j.start laid.number_within laid.before) fold.starts fold.outside fold.hides);
    last = ap next_inlay (last-push before_all ps (Placeholder j.start j.end));
    before = λ k lt. omega (arith, laid.before k lt, fold.some);
    behind = past;
    number_within = laid.number_within;
  }

  pub laid-hidden : (n : ℕ) (ps : List Part) (j : Joined) → IsHidden s n j.start j.end ps → IsJoinedFold s j → n < length s.inlays → offset n < j.end → IsHidden s (n + 1) j.start j.end ps
  laid-hidden n ps j hidden fold lt inner = record {
    reaches = hidden.reaches;
    shows =
        hidden.shows
        ∙ sym (upto-hidden s.text (take n s.inlays) s.folds (inlay_at s n) j.end (fold.hides (offset n) (hidden.behind n (omega arith) lt) inner) inner)
        ∙ (λ i. shown_of (sym (take_more s.inlays n no_inlay lt) i));
    last = hidden.last;
    before = λ k small. elim (cases_lt k n) [
      | inl less ↦ hidden.before k less
      | inr le ↦ let same : n ≡ k = omega (arith, small, le) in subst (λ (j' : ℕ). offset j' < j.end) same inner
    ];
    behind = λ k le within. hidden.behind k (omega (arith, le)) within;
    number_within = omega (arith, lt);
  } where
    shown_of : List Inlay → List Token
    shown_of inlays = folded_before s.text inlays s.folds j.end ++ inlays_at inlays j.end

  pub laid-behind : (n : ℕ) (ps : List Part) (j : Joined) → IsHidden s n j.start j.end ps → ((k : ℕ) → n ≤ k → k < length s.inlays → j.end ≤ offset k) → IsLaid s n j.end ps
  laid-behind n ps j hidden behind = record {
    reaches = hidden.reaches;
    shows = hidden.shows;
    inlays = omega (arith, hidden.last);
    before = λ k lt. omega (arith, hidden.before k lt);
    behind = behind;
    number_within = hidden.number_within;
  }

  -- the inlays from one on are at or after an offset, if that one is
  pub from-on : (n at : ℕ) → (n < length s.inlays → at ≤ offset n) → (k : ℕ) → n ≤ k → k < length s.inlays → at ≤ offset k
  from-on n at here k le within = elim (cases_lt n k) [
    | inl lt ↦ omega (arith, here (omega (arith, lt, within)), inlays-rise n k lt within)
    | inr ge ↦ let same : n ≡ k = omega (arith, le, ge) in subst (λ (j : ℕ). at ≤ offset j) same (here (omega (arith, same, within)))
  ]

  pub past-on : (n at : ℕ) → (n < length s.inlays → at < offset n) → IsPast s n at
  past-on n at here k le within = elim (cases_lt n k) [
    | inl lt ↦ omega (arith, here (omega (arith, lt, within)), inlays-rise n k lt within)
    | inr ge ↦ let same : n ≡ k = omega (arith, le, ge) in subst (λ (j : ℕ). at < offset j) same (here (omega (arith, same, within)))
  ]

  -- ---- all of it

  fold-ends : Every (λ f. f.end ≤ length s.text) s.folds
  fold-ends = Every-from_All (λ f. f.end ≤ length s.text) s.folds (λ k d lt. (lawful.folds_stand k d lt).1.0)

  ends-free : covered s.folds (length s.text) ≡ false
  ends-free = free_at_end (length s.text) s.folds fold-ends

  pub laid-all : (n : ℕ) (ps : List Part) → IsLaid s n (length s.text) ps → IsPast s n (length s.text) → AreShown s (ps ++ Feed (length s.text) ∷ [])
  laid-all n ps laid past =
      let size : ℕ = length s.text in
      let all : length s.inlays ≤ n = elim (cases_lt n (length s.inlays)) [
        | inl lt ↦ absurd (omega (arith, past n (omega arith) lt, (inlay-boundary n lt).0))
        | inr le ↦ le
      ] in
      let reaches = reaches-push s ps (Feed size) size laid.reaches tt refl tt in
      record {
        shows =
            tokens-push s ps (Feed size)
            ∙ ap (λ (l : List Token). l ++ Byte size line_feed ∷ []) (laid.shows ∙ (λ i. shown_of (take_all n s.inlays all i)))
            ∙ sym (upto-all s.text s.inlays s.folds (covered_inside s.folds size ends-free) ends-free);
        lie = reaches.lie;
        chain = reaches.chain;
        closed = ap is_end (last-push before_all ps (Feed size));
      } where
        shown_of : List Inlay → List Token
        shown_of inlays = folded_before s.text inlays s.folds (length s.text) ++ inlays_at inlays (length s.text)

  -- ---- the test that the code makes

  pub stands : (n o : ℕ) → stands_before s n o ≡ true → (n < length s.inlays) × (offset n < o)
  stands n o is =
      let both = and_parts (ltb n (length s.inlays)) (ltb (offset n) o) is in
      (ltb-true n (length s.inlays) both.0, ltb-true (offset n) o both.1)

  pub stands-not : (n o : ℕ) → stands_before s n o ≡ false → n < length s.inlays → o ≤ offset n
  stands-not n o is lt = elim (and_cases (ltb n (length s.inlays)) (ltb (offset n) o) is) [
    | inl none ↦ absurd (omega (arith, ltb-false n (length s.inlays) none, lt))
    | inr past ↦ ltb-false (offset n) o past
  ]

  -- ---- the ranges of joined folds

  module _ (js : List Joined) (joins : Joins s.folds js) where
    pub free-before : (k : ℕ) (d : Joined) → k < length js → IsCharBoundary s.text (end_before 0 js k) → IsFree s (end_before 0 js k) (get_or js k d).start
    free-before k d lt boundary =
        let r = range-at 0 js k d joins.apart lt in
        record {
          span = record {
            order = r.order;
            starts = boundary;
            ends = start-boundary s.text lawful.text.0 s.folds lawful.folds_stand (get_or js k d).start (sym (joins.covered_same (get_or js k d).start) ∙ r.starts) (sym (joins.inside_same (get_or js k d).start) ∙ r.outside);
          };
          free = λ o lo hi. sym (joins.covered_same o) ∙ gap 0 js k o d joins.apart lt lo hi;
        }

    pub range-ends : (k : ℕ) (d : Joined) → k < length js → IsCharBoundary s.text (get_or js k d).end
    range-ends k d lt =
        let r = range-at 0 js k d joins.apart lt in
        let e : ℕ = (get_or js k d).end in
        end-boundary s.text lawful.text.0 s.folds lawful.folds_stand e (omega (arith, r.some)) (sym (joins.covered_same (e - 1)) ∙ r.last) (sym (joins.inside_same e) ∙ r.end_outside)

    pub range-folds : (k : ℕ) (d : Joined) → k < length js → IsJoinedFold s (get_or js k d)
    range-folds k d lt =
        let r = range-at 0 js k d joins.apart lt in
        record {
          some = r.some;
          within = (range-ends k d lt).0;
          starts = sym (joins.covered_same (get_or js k d).start) ∙ r.starts;
          outside = sym (joins.inside_same (get_or js k d).start) ∙ r.outside;
          hides = λ o lo hi. sym (joins.inside_same o) ∙ r.hides o lo hi;
        }

    pub free-last : IsCharBoundary s.text (end_before 0 js (length js)) → IsFree s (end_before 0 js (length js)) (length s.text)
    free-last boundary = record {
      span = record { order = boundary.0; starts = boundary; ends = IsCharBoundary-end s.text };
      free = λ o lo hi. sym (joins.covered_same o) ∙ gap-last 0 js o joins.apart lo;
    }
