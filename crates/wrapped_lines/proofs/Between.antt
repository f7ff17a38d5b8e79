-- The edits between lines that are kept at their places.
use Rattle.std.proofs.Common.{◌≡◌, ◌⊎◌, ⊎_elim, ℕ, suc, ◌+◌, ◌-◌, ◌<◌, ◌≤◌, Bool, true, false, ltb, ◌||◌, List, [], ◌∷◌, ◌++◌, length, drop, get_or, append_assoc, drop-cons, Option, Some, None, refl, ap, sym, subst, ◌∙◌, inl, inr, arith}
use Rattle.std.specs.Prelude.{All, sum_by}
use Rattle.std.specs.List.{position_from}
use Rattle.std.proofs.lemmas.Bool.{cases_Bool, cases_order, cond-true, cond-false, eq-eqb, ltb-false, ltb-true, ne_eqb, or_cases, or_parts}
use Rattle.std.proofs.lemmas.List.{drop_all}
use Rattle.std.proofs.lemmas.List.Elements.{All-cons, All-head, All-nil, All-tail}
use Rattle.std.proofs.lemmas.List.Sums.{sum_by-cons}
use Rattle.edit_patch.specs.declared.edit.Edit.{Edit}
use Rattle.edit_patch.specs.Came.{edit_of, origin_from}
use Rattle.edit_patch.specs.Fits.{added_count, removed_count}
use Rattle.edit_patch.specs.Patch.{IsPatchFrom}
use Rattle.edit_patch.proofs.Fitting.{IsInside}
use Rattle.edit_patch.proofs.Origin.{origin-new, origin-past}
use Rattle.edit_patch.proofs.Shift.{early}
use Rattle.wrapped_lines.specs.declared.since.Pair.{Pair}
use Rattle.kept_sheet.specs.Kept.{IsRising, standing}
use Rattle.wrapped_lines.specs.Places.{is_line}
use Rattle.wrapped_lines.specs.inside.Since.{IsSince, between, edits_at, end_of, kept_after, pair}

-- all edits after a pair: up to the next line that is kept, and so on to the last pair
abbrev pub edits_from : Pair → ℕ → List (Option ℕ) → Pair → List Edit
edits_from kept line [] last = between kept last
edits_from kept line (place ∷ places) last = edits_at kept line place ++ edits_from (kept_after kept line place) (line + 1) places last

-- of the old lines from `line` on, after the pair, those with a place have it in order and before the last pair
pub record AreAhead (kept : Pair) (line : ℕ) (places : List (Option ℕ)) (last : Pair) : Type 0 where
  pub old : kept.old ≤ line
  pub now : kept.now ≤ last.now
  pub within : line + length places ≤ last.old
  pub rising : IsRising kept.now (standing places)
  pub there : All (λ at. at < last.now) (standing places)

pub ahead-none : (kept : Pair) (line : ℕ) (places : List (Option ℕ)) (last : Pair) → AreAhead kept line (None ∷ places) last → AreAhead kept (line + 1) places last
ahead-none kept line places last h = record {
  old = omega (arith, h.old);
  now = h.now;
  within = omega (arith, h.within);
  rising = h.rising;
  there = h.there;
}

pub ahead-some : (kept : Pair) (line at : ℕ) (places : List (Option ℕ)) (last : Pair) → AreAhead kept line (Some at ∷ places) last →
    AreAhead (pair (line + 1) (at + 1)) (line + 1) places last
ahead-some kept line at places last h = record {
  old = omega arith;
  now = omega (arith, All-head (λ n. n < last.now) at (standing places) h.there);
  within = omega (arith, h.within);
  rising = h.rising.1;
  there = All-tail (λ n. n < last.now) at (standing places) h.there;
}

-- ---- one edit, or none

pub between-cases : (from to : Pair) → from.old ≤ to.old → from.now ≤ to.now →
    ((from.old + from.now < to.old + to.now) × (between from to ≡ edit_of from.old to.old from.now to.now ∷ [])) ⊎
    ((from.old ≡ to.old) × (from.now ≡ to.now) × (between from to ≡ []))
between-cases from to olds nows =
    let test : Bool = ltb from.old to.old || ltb from.now to.now in
    ⊎_elim
    (λ (a : test ≡ true). inl (
      ⊎_elim (λ b. let c = ltb-true _ _ b in omega arith) (λ b. let c = ltb-true _ _ b in omega arith)
          (or_cases (ltb from.old to.old) (ltb from.now to.now) a),
      cond-true test _ _ a,
    ))
    (λ (a : test ≡ false). let b = or_parts (ltb from.old to.old) (ltb from.now to.now) a in
    let c : to.old ≤ from.old = ltb-false _ _ b.0 in let d : to.now ≤ from.now = ltb-false _ _ b.1 in
    inr (omega arith, omega arith, cond-false test _ _ a))
    (cases_Bool test)

-- ---- they are a patch

-- what follows from the pair or, where the lines up to the next one are replaced, from there
between-patch : (gap o n : ℕ) (from to : Pair) (es : List Edit) → o + gap ≤ from.old → from.old + n ≡ from.now + o → from.old ≤ to.old → from.now ≤ to.now →
    (from.old ≡ to.old → from.now ≡ to.now → IsPatchFrom gap o n es) → IsPatchFrom 1 to.old to.now es → IsPatchFrom gap o n (between from to ++ es)
between-patch gap o n from to es kept even olds nows none some = ⊎_elim
    (λ c. subst (λ (xs : List Edit). IsPatchFrom gap o n (xs ++ es)) (sym c.1)
    ((record { kept = kept; even = even; old_order = olds; new_order = nows; some = c.0 }, some)))
    (λ c. subst (λ (xs : List Edit). IsPatchFrom gap o n (xs ++ es)) (sym c.2) (none c.0 c.1))
    (between-cases from to olds nows)

append-nil : (es : List Edit) → es ++ [] ≡ es
append-nil [] = refl
append-nil (e ∷ es) = ap (λ (rest : List Edit). e ∷ rest) (append-nil es)

pub is-patch : (gap o n : ℕ) (kept : Pair) (line : ℕ) (places : List (Option ℕ)) (last : Pair) → AreAhead kept line places last →
    o + gap ≤ kept.old → kept.old + n ≡ kept.now + o → IsPatchFrom gap o n (edits_from kept line places last)
is-patch gap o n kept line [] last h from even =
    subst (λ (es : List Edit). IsPatchFrom gap o n es) (append-nil (between kept last))
    (between-patch gap o n kept last [] from even (omega (arith, h.old, h.within)) h.now (λ p q. tt) tt)
is-patch gap o n kept line (None ∷ places) last h from even = is-patch gap o n kept (line + 1) places last (ahead-none kept line places last h) from even
is-patch gap o n kept line (Some at ∷ places) last h from even =
    let next = ahead-some kept line at places last h in
    between-patch gap o n kept (pair line at) (edits_from (pair (line + 1) (at + 1)) (line + 1) places last) from even h.old h.rising.0
    (λ p q. is-patch gap o n (pair (line + 1) (at + 1)) (line + 1) places last next (omega (arith, p, from)) (omega (arith, p, q, even)))
    (is-patch 1 line at (pair (line + 1) (at + 1)) (line + 1) places last next (omega arith) (omega arith))

-- ---- how far they reach, and how many lines they take and put

between-within : (from to last : Pair) (es : List Edit) → from.old ≤ to.old → from.now ≤ to.now → to.old ≤ last.old → to.now ≤ last.now →
    All (IsInside last.old last.now) es → All (IsInside last.old last.now) (between from to ++ es)
between-within from to last es olds nows old now rest = ⊎_elim
    (λ c. subst (λ (xs : List Edit). All (IsInside last.old last.now) (xs ++ es)) (sym c.1)
    (All-cons (IsInside last.old last.now) (edit_of from.old to.old from.now to.now) es (old, now) rest))
    (λ c. subst (λ (xs : List Edit). All (IsInside last.old last.now) (xs ++ es)) (sym c.2) rest)
    (between-cases from to olds nows)

pub within-all : (kept : Pair) (line : ℕ) (places : List (Option ℕ)) (last : Pair) → AreAhead kept line places last →
    All (IsInside last.old last.now) (edits_from kept line places last)
within-all kept line [] last h =
    subst (All (IsInside last.old last.now)) (append-nil (between kept last))
    (between-within kept last last [] (omega (arith, h.old, h.within)) h.now (omega arith) (omega arith) (All-nil (IsInside last.old last.now)))
within-all kept line (None ∷ places) last h = within-all kept (line + 1) places last (ahead-none kept line places last h)
within-all kept line (Some at ∷ places) last h =
    between-within kept (pair line at) last (edits_from (pair (line + 1) (at + 1)) (line + 1) places last) h.old h.rising.0
    (omega (arith, h.within)) (omega (arith, All-head (λ n. n < last.now) at (standing places) h.there))
    (within-all (pair (line + 1) (at + 1)) (line + 1) places last (ahead-some kept line at places last h))

between-counts : (from to : Pair) (es : List Edit) → from.old ≤ to.old → from.now ≤ to.now →
    (sum_by added_count (between from to ++ es) ≡ (to.now - from.now) + sum_by added_count es)
    × (sum_by removed_count (between from to ++ es) ≡ (to.old - from.old) + sum_by removed_count es)
between-counts from to es olds nows =
    let e = edit_of from.old to.old from.now to.now in ⊎_elim
    (λ c. (
      ap (λ (xs : List Edit). sum_by added_count (xs ++ es)) c.1 ∙ sum_by-cons added_count e es,
      ap (λ (xs : List Edit). sum_by removed_count (xs ++ es)) c.1 ∙ sum_by-cons removed_count e es,
    ))
    (λ c. (
      omega (arith, ap (λ (xs : List Edit). sum_by added_count (xs ++ es)) c.2, c.1),
      omega (arith, ap (λ (xs : List Edit). sum_by removed_count (xs ++ es)) c.2, c.0),
    ))
    (between-cases from to olds nows)

pub lengths-agree : (kept : Pair) (line : ℕ) (places : List (Option ℕ)) (last : Pair) → AreAhead kept line places last →
    last.old + kept.now + sum_by added_count (edits_from kept line places last) ≡ last.now + kept.old + sum_by removed_count (edits_from kept line places last)
lengths-agree kept line [] last h =
    let counts = between-counts kept last [] (omega (arith, h.old, h.within)) h.now in
    let none = append-nil (between kept last) in
    omega (arith, counts.0, counts.1, ap (sum_by added_count) none, ap (sum_by removed_count) none, h.old, h.within, h.now)
lengths-agree kept line (None ∷ places) last h = lengths-agree kept (line + 1) places last (ahead-none kept line places last h)
lengths-agree kept line (Some at ∷ places) last h =
    let rest = edits_from (pair (line + 1) (at + 1)) (line + 1) places last in
    let counts = between-counts kept (pair line at) rest h.old h.rising.0 in
    omega (arith, counts.0, counts.1, lengths-agree (pair (line + 1) (at + 1)) (line + 1) places last (ahead-some kept line at places last h), h.old, h.rising.0)

-- ---- where each present line came from

-- a line before all places is at none of them
none-before : (from i line : ℕ) (places : List (Option ℕ)) → IsRising from (standing places) → i < from → position_from (is_line i) line places ≡ None
none-before from i line [] rising lt = refl
none-before from i line (None ∷ places) rising lt = none-before from i (line + 1) places rising lt
none-before from i line (Some at ∷ places) rising lt =
    cond-false (is_line i (Some at)) _ _ (ne_eqb at i (λ e. absurd (omega (arith, e, rising.0, lt))))
    ∙ none-before (at + 1) i (line + 1) places rising.1 (omega (arith, rising.0, lt))

between-new : (o n : ℕ) (from to : Pair) (es : List Edit) (i : ℕ) → from.old ≤ to.old → from.now ≤ to.now → from.now ≤ i → i < to.now →
    origin_from o n (between from to ++ es) i ≡ None
between-new o n from to es i olds nows ge lt = ⊎_elim
    (λ c. ap (λ (xs : List Edit). origin_from o n (xs ++ es) i) c.1 ∙ origin-new o n (edit_of from.old to.old from.now to.now) es i ge lt)
    (λ c. absurd (omega (arith, c.1, ge, lt)))
    (between-cases from to olds nows)

-- after the edit, from the pair where there is one
between-past : (o n : ℕ) (from to : Pair) (es : List Edit) (i : ℕ) (r : Option ℕ) → from.old ≤ to.old → from.now ≤ to.now → to.now ≤ i →
    origin_from to.old to.now es i ≡ r → (from.old ≡ to.old → from.now ≡ to.now → origin_from o n es i ≡ r) →
    origin_from o n (between from to ++ es) i ≡ r
between-past o n from to es i r olds nows ge some none = ⊎_elim
    (λ c. ap (λ (xs : List Edit). origin_from o n (xs ++ es) i) c.1
    ∙ origin-past o n (edit_of from.old to.old from.now to.now) es i (omega (arith, nows, ge)) ge ∙ some)
    (λ c. ap (λ (xs : List Edit). origin_from o n (xs ++ es) i) c.2 ∙ none c.0 c.1)
    (between-cases from to olds nows)

pub came-from : (o n : ℕ) (kept : Pair) (line : ℕ) (places : List (Option ℕ)) (last : Pair) → AreAhead kept line places last →
    o ≤ kept.old → kept.old + n ≡ kept.now + o → (i : ℕ) → kept.now ≤ i → i < last.now →
    origin_from o n (edits_from kept line places last) i ≡ position_from (is_line i) line places
came-from o n kept line [] last h from even i ge lt =
    sym (ap (λ (xs : List Edit). origin_from o n xs i) (append-nil (between kept last)))
    ∙ between-new o n kept last [] i (omega (arith, h.old, h.within)) h.now ge lt
came-from o n kept line (None ∷ places) last h from even i ge lt = came-from o n kept (line + 1) places last (ahead-none kept line places last h) from even i ge lt
came-from o n kept line (Some at ∷ places) last h from even i ge lt =
    let next = ahead-some kept line at places last h in
    let behind = pair (line + 1) (at + 1) in
    let rest = edits_from behind (line + 1) places last in
    let rest-patch : IsPatchFrom 0 (line + 1) (at + 1) rest = is-patch 0 (line + 1) (at + 1) behind (line + 1) places last next (omega arith) (omega arith) in
    ⊎_elim
    (λ (same : at ≡ i).
    let here : position_from (is_line i) line (Some at ∷ places) ≡ Some line = cond-true (is_line i (Some at)) _ _ (eq-eqb at i same) in
    between-past o n kept (pair line at) rest i (position_from (is_line i) line (Some at ∷ places)) h.old h.rising.0 (omega (arith, same))
    (early 0 line at (line + 1) (at + 1) rest i (record { even = omega arith; later = omega arith }) rest-patch (omega (arith, same)) (omega (arith, same))
    ∙ ap Some (let e : line + (i - at) ≡ line = omega (arith, same) in e) ∙ sym here)
    (λ p q.
    early 0 o n (line + 1) (at + 1) rest i (record { even = omega (arith, p, q, even); later = omega (arith, p, q, even, from) }) rest-patch (omega (arith, p, q, even, from, same)) (omega (arith, same))
    ∙ ap Some (let e : o + (i - n) ≡ line = omega (arith, p, q, even, from, same) in e) ∙ sym here))
    (λ q. ⊎_elim
    (λ (lt-at : at < i).
    let not_here = cond-false (is_line i (Some at)) (Some line) (position_from (is_line i) (line + 1) places) (ne_eqb at i (λ e. absurd (omega (arith, e, lt-at)))) in
    between-past o n kept (pair line at) rest i (position_from (is_line i) line (Some at ∷ places)) h.old h.rising.0 (omega (arith, lt-at))
    (came-from line at behind (line + 1) places last next (omega arith) (omega arith) i (omega (arith, lt-at)) lt ∙ sym not_here)
    (λ p q. came-from o n behind (line + 1) places last next (omega (arith, from, p)) (omega (arith, p, q, even)) i (omega (arith, lt-at)) lt ∙ sym not_here))
    (λ (before : i < at).
    between-new o n kept (pair line at) rest i h.old h.rising.0 ge before
    ∙ sym (cond-false (is_line i (Some at)) _ _ (ne_eqb at i (λ e. absurd (omega (arith, e, before)))) ∙ none-before (at + 1) i (line + 1) places h.rising.1 (omega (arith, before))))
    q)
    (cases_order at i)

-- ---- the whole patch

pub all-since : (old now first : ℕ) (places : List (Option ℕ)) → first + length places ≤ old → IsRising 0 (standing places) → All (λ line. line < now) (standing places) →
    IsSince old now first places (edits_from (pair 0 0) first places (pair old now))
all-since old now first places within rising there =
    let h : AreAhead (pair 0 0) first places (pair old now) = record { old = omega arith; now = omega arith; within = within; rising = rising; there = there } in
    let lengths = lengths-agree (pair 0 0) first places (pair old now) h in
    record {
      normal = is-patch 0 0 0 (pair 0 0) first places (pair old now) h (omega arith) refl;
      within = within-all (pair 0 0) first places (pair old now) h;
      lengths = omega (arith, lengths);
      came = λ line lt. came-from 0 0 (pair 0 0) first places (pair old now) h (omega arith) refl line (omega arith) lt;
    }

-- before an old line: the edits so far, with all after them, are those of all places
pub record IsPassed (old now first : ℕ) (places : List (Option ℕ)) (k : ℕ) (kept : Pair) (edits : List Edit) : Type 0 where
  pub ahead : AreAhead kept (first + k) (drop k places) (pair old now)
  pub done : edits ++ edits_from kept (first + k) (drop k places) (pair old now) ≡ edits_from (pair 0 0) first places (pair old now)

pub passed-none : (old now first : ℕ) (places : List (Option ℕ)) → first + length places ≤ old → IsRising 0 (standing places) → All (λ line. line < now) (standing places) →
    IsPassed old now first places 0 (pair 0 0) []
passed-none old now first places within rising there =
    let same : first + 0 ≡ first = omega arith in
    record {
      ahead = record { old = omega arith; now = omega arith; within = omega (arith, within); rising = rising; there = there };
      done = ap (λ (n : ℕ). edits_from (pair 0 0) n places (pair old now)) same;
    }

ahead-next : (kept : Pair) (line : ℕ) (place : Option ℕ) (places : List (Option ℕ)) (last : Pair) → AreAhead kept line (place ∷ places) last →
    AreAhead (kept_after kept line place) (line + 1) places last
ahead-next kept line None places last h = ahead-none kept line places last h
ahead-next kept line (Some at) places last h = ahead-some kept line at places last h

-- an old line more
pub passed-more : (old now first : ℕ) (places : List (Option ℕ)) (k : ℕ) (kept after : Pair) (edits more : List Edit) (place : Option ℕ) → k < length places → place ≡ get_or places k None →
    IsPassed old now first places k kept edits → more ≡ edits ++ edits_at kept (first + k) place → after ≡ kept_after kept (first + k) place →
    IsPassed old now first places (k + 1) after more
passed-more old now first places k kept after edits more place lt is h pushed goes =
    let last = pair old now in
    let next : k + 1 ≡ suc k = omega arith in
    let line : first + k + 1 ≡ first + (k + 1) = omega arith in
    let split : drop k places ≡ place ∷ drop (k + 1) places =
    drop-cons places k None lt ∙ (λ i. sym is i ∷ drop (sym next i) places) in
    let ahead : AreAhead (kept_after kept (first + k) place) (first + k + 1) (drop (k + 1) places) last =
    ahead-next kept (first + k) place (drop (k + 1) places) last (subst (λ (ps : List (Option ℕ)). AreAhead kept (first + k) ps last) split h.ahead) in
    let all : edits ++ (edits_at kept (first + k) place ++ edits_from (kept_after kept (first + k) place) (first + k + 1) (drop (k + 1) places) last)
    ≡ edits_from (pair 0 0) first places last =
    sym (ap (λ (ps : List (Option ℕ)). edits ++ edits_from kept (first + k) ps last) split) ∙ h.done in
    record {
      ahead = subst (λ (p : Pair). AreAhead p (first + (k + 1)) (drop (k + 1) places) last) (sym goes)
          (subst (λ (n : ℕ). AreAhead (kept_after kept (first + k) place) n (drop (k + 1) places) last) line ahead);
      done =
          (λ i. pushed i ++ edits_from (goes i) (sym line i) (drop (k + 1) places) last)
          ∙ append_assoc edits (edits_at kept (first + k) place) (edits_from (kept_after kept (first + k) place) (first + k + 1) (drop (k + 1) places) last)
          ∙ all;
    }

-- and after all of them
pub passed-all : (old now first : ℕ) (places : List (Option ℕ)) (kept : Pair) (edits more : List Edit) (k : ℕ) → length places ≤ k →
    IsPassed old now first places k kept edits → more ≡ edits ++ between kept (pair old now) → more ≡ edits_from (pair 0 0) first places (pair old now)
passed-all old now first places kept edits more k le h pushed =
    pushed ∙ ap (λ (ps : List (Option ℕ)). edits ++ edits_from kept (first + k) ps (pair old now)) (sym (drop_all k places le)) ∙ h.done

-- a place that is at the head
pub place-fits : (kept : Pair) (line : ℕ) (place : Option ℕ) (places : List (Option ℕ)) (last : Pair) → AreAhead kept line (place ∷ places) last → end_of place ≤ last.now
place-fits kept line None places last h = omega arith
place-fits kept line (Some at) places last h = omega (arith, All-head (λ n. n < last.now) at (standing places) h.there)

pub next-place-fits : (old now first : ℕ) (places : List (Option ℕ)) (k : ℕ) (kept : Pair) (edits : List Edit) (place : Option ℕ) → k < length places → place ≡ get_or places k None →
    IsPassed old now first places k kept edits → end_of place ≤ now
next-place-fits old now first places k kept edits place lt is h =
    let split : drop k places ≡ place ∷ drop (suc k) places = drop-cons places k None lt ∙ ap (λ (p : Option ℕ). p ∷ drop (suc k) places) (sym is) in
    place-fits kept (first + k) place (drop (suc k) places) (pair old now) (subst (λ (ps : List (Option ℕ)). AreAhead kept (first + k) ps (pair old now)) split h.ahead)
