-- The line patch of an operation: the touched lines make place for others.
use Rattle.std.proofs.Common.{◌≡◌, ℕ, ◌+◌, ◌-◌, ◌<◌, ◌≤◌, ◌⊎◌, ◌↔◌, ◌||◌, ltb, cond, Bool, true, false, List, [], ◌∷◌, ◌++◌, length, take, drop, get_or, refl, sym, ap, subst, ◌∙◌, inl, inr, arith, length-append, length-drop}
use Rattle.std.specs.Prelude.{Some, slice_get}
use Rattle.std.specs.List.{range_with_len}
use Rattle.std.proofs.lemmas.Bool.{cases_lt, ltb-false}
use Rattle.std.proofs.lemmas.List.{length-take-le, get_or_append_left, get_or-append_right, get_or-take, get_or-drop}
use Rattle.std.proofs.lemmas.List.FromFn.{get_or-range_with_len, length-range_with_len}
use Rattle.std.proofs.lemmas.Option.{get_or_from_slice_get, none-some, same_Some, slice_get-get_or, slice_get_within}
use Rattle.cell_units.specs.Record.{Record}
use Rattle.cell_units.specs.Operation.{Operation, operated}
use Rattle.cell_units.specs.Touched.{one_run, untouched}
use Rattle.cell_units.specs.Lawful.{IsAllowed, IsLawful}
use Rattle.cell_units.proofs.OperatedLines.{keeps_lines}
use Rattle.edit_patch.specs.declared.edit.Edit.{Edit}
use Rattle.edit_patch.specs.Came.{Came, edit_of}
use Rattle.edit_patch.specs.Fits.{replacement}
use Rattle.edit_patch.proofs.Origin.{origin-kept, origin-new, origin-past}
use Rattle.edit_patch.proofs.Replacing.{replacement-patch}
use Rattle.display_sheet.specs.LineStep.{flags_after, flags_before}
use Rattle.display_sheet.proofs.StepLaws.{length-run}
use Rattle.display_sheet.proofs.StepRuns.{kept_marks}
use Rattle.display_map.specs.LinePatches.{IsKeptLine, IsLinePatch, untouched_lines}

-- ---- the untouched lines, where one run is touched

module _ (f n k : ℕ) where
  abbrev all : List ℕ
  all = range_with_len 0 (f + (n + k))

  abbrev kept : List ℕ
  kept = take f all ++ drop (f + n) all

  long_all : length all ≡ f + (n + k)
  long_all = length-range_with_len 0 (f + (n + k))

  kept-are : untouched_lines (one_run f n k) ≡ kept
  kept-are = ap (λ (m : ℕ). untouched (one_run f n k) (range_with_len 0 m)) (length-run f n k) ∙ kept_marks f n k all long_all

  long_front : length (take f all) ≡ f
  long_front = length-take-le f all (omega (arith, long_all))

  long_kept : length kept ≡ f + k
  long_kept = omega (arith, length-append (take f all) (drop (f + n) all), long_front, length-drop (f + n) all, long_all)

  kept_above : (m : ℕ) → m < f → get_or kept m 0 ≡ m
  kept_above m lt =
      get_or_append_left (take f all) (drop (f + n) all) 0 m (omega (arith, long_front, lt))
      ∙ get_or-take f all m 0 lt
      ∙ get_or-range_with_len 0 (f + (n + k)) m 0 (omega (arith, lt))
      ∙ omega arith

  kept_below : (m : ℕ) → f ≤ m → m < f + k → get_or kept m 0 ≡ m + n
  kept_below m le lt =
      get_or-append_right (take f all) (drop (f + n) all) f m 0 long_front le
      ∙ get_or-drop (f + n) all (m - f) 0
      ∙ get_or-range_with_len 0 (f + (n + k)) (f + n + (m - f)) 0 (omega (arith, le, lt))
      ∙ omega (arith, le)

  -- the m-th is above the run, or below it
  nth : (m i : ℕ) → slice_get (untouched_lines (one_run f n k)) m ≡ Some i → ((m < f) × (i ≡ m)) ⊎ ((f ≤ m) × (m < f + k) × (i ≡ m + n))
  nth m i e =
      let at : slice_get kept m ≡ Some i = ap (λ (l : List ℕ). slice_get l m) (sym kept-are) ∙ e in
      let within : m < f + k = omega (arith, slice_get_within kept m i at, long_kept) in
      let is : get_or kept m 0 ≡ i = get_or_from_slice_get kept m i 0 at in
      elim (cases_lt m f) [
        | inl lt ↦ inl (lt, sym is ∙ kept_above m lt)
        | inr le ↦ inr (le, within, sym is ∙ kept_below m le within)
      ]

  nth_above : (m : ℕ) → m < f → slice_get (untouched_lines (one_run f n k)) m ≡ Some m
  nth_above m lt =
      ap (λ (l : List ℕ). slice_get l m) kept-are
      ∙ slice_get-get_or kept m 0 (omega (arith, long_kept, lt))
      ∙ ap Some (kept_above m lt)

  nth_below : (m : ℕ) → f ≤ m → m < f + k → slice_get (untouched_lines (one_run f n k)) m ≡ Some (m + n)
  nth_below m le lt =
      ap (λ (l : List ℕ). slice_get l m) kept-are
      ∙ slice_get-get_or kept m 0 (omega (arith, long_kept, lt))
      ∙ ap Some (kept_below m le lt)

-- line i after is line j before, where after f lines n make place for n'
abbrev pub Stays : (f n n' i j : ℕ) → Type 0
Stays f n n' i j = ((i < f) × (j ≡ i)) ⊎ ((f + n' ≤ i) × (j + n' ≡ i + n))

-- ---- the patch that replaces the run

-- one edit, or none where nothing gives way to nothing
abbrev edits_if : (start end count : ℕ) → Bool → List Edit
edits_if start end count some = cond some (edit_of start end start (start + count) ∷ []) []

replacement-is : (start end count : ℕ) → (replacement start end count ≡ edit_of start end start (start + count) ∷ []) ⊎ ((end ≤ start) × (count ≡ 0) × (replacement start end count ≡ []))
replacement-is start end count = go (ltb start end) (ltb 0 count) refl refl where
  go : (a b : Bool) → ltb start end ≡ a → ltb 0 count ≡ b →
      (edits_if start end count (a || b) ≡ edit_of start end start (start + count) ∷ []) ⊎ ((end ≤ start) × (count ≡ 0) × (edits_if start end count (a || b) ≡ []))
  go true b e g = inl refl
  go false true e g = inl refl
  go false false e g = inr (ltb-false start end e, omega (arith, ltb-false 0 count g), refl)

module _ (f n n' : ℕ) where
  abbrev patch : List Edit
  patch = replacement f (f + n) n'

  abbrev edit : Edit
  edit = edit_of f (f + n) f (f + n')

  shift_alike : (i j : ℕ) → n ≡ 0 → n' ≡ 0 → Some (0 + (i - 0)) ≡ Some j → Stays f n n' i j
  shift_alike i j a b e =
      let same : 0 + (i - 0) ≡ j = same_Some _ _ e in
      elim (cases_lt i f) [ inl lt ↦ inl (lt, omega (arith, same)) | inr le ↦ inr (omega (arith, b, le), omega (arith, a, b, same)) ]

  to_stays : (i j : ℕ) → Came (edit ∷ []) i j → Stays f n n' i j
  to_stays i j c = elim (cases_lt i f) [
    | inl lt ↦ inl (lt, let same : 0 + (i - 0) ≡ j = same_Some _ _ (sym (origin-kept 0 0 edit [] i lt) ∙ c) in omega (arith, same))
    | inr le ↦ elim (cases_lt i (f + n')) [
      | inl lt ↦ absurd (none-some j (sym (origin-new 0 0 edit [] i le lt) ∙ c))
      | inr past ↦
          let same : f + n + (i - (f + n')) ≡ j = same_Some _ _ (sym (origin-past 0 0 edit [] i le past) ∙ c) in
          inr (past, omega (arith, past, same))
    ]
  ]

  from_stays : (i j : ℕ) → Stays f n n' i j → Came (edit ∷ []) i j
  from_stays i j s = elim s [
    | inl a ↦ origin-kept 0 0 edit [] i a.0 ∙ ap Some (let same : 0 + (i - 0) ≡ j = omega (arith, a.1) in same)
    | inr b ↦ origin-past 0 0 edit [] i (omega (arith, b.0)) b.0 ∙ ap Some (let same : f + n + (i - (f + n')) ≡ j = omega (arith, b.0, b.1) in same)
  ]

  came-stays : (i j : ℕ) → Came patch i j ↔ Stays f n n' i j
  came-stays i j = elim (replacement-is f (f + n) n') [
    | inl some ↦
        subst (λ (es : List Edit). Came es i j ↔ Stays f n n' i j) (sym some) (to_stays i j, from_stays i j)
    | inr none ↦
        let same : n ≡ 0 = omega (arith, none.0) in
        subst (λ (es : List Edit). Came es i j ↔ Stays f n n' i j) (sym none.2) (
          shift_alike i j same none.1,
          λ s. ap Some (elim s as (λ _. 0 + (i - 0) ≡ j) [ inl a ↦ omega (arith, a.1) | inr b ↦ omega (arith, same, none.1, b.1) ]),
        )
  ]

-- ---- an operation

module _ (operation : Operation) (r : Record) (f n n' k : ℕ) (before_are : flags_before operation r ≡ one_run f n k)
    (after_are : flags_after operation r (operated operation r) ≡ one_run f n' k) where
  pub kept-stays : (i j : ℕ) → IsKeptLine operation r i j → Stays f n n' i j
  kept-stays i j h =
      let after = nth f n' k h.k i (ap (λ (flags : List Bool). slice_get (untouched_lines flags) h.k) (sym after_are) ∙ h.after) in
      let before = nth f n k h.k j (ap (λ (flags : List Bool). slice_get (untouched_lines flags) h.k) (sym before_are) ∙ h.before) in
      elim after [
        | inl a ↦ elim before [ inl b ↦ inl (omega (arith, a.0, a.1), omega (arith, a.1, b.1)) | inr b ↦ absurd (omega (arith, a.0, b.0)) ]
        | inr a ↦ elim before [ inl b ↦ absurd (omega (arith, a.0, b.0)) | inr b ↦ inr (omega (arith, a.0, a.2), omega (arith, a.2, b.2)) ]
      ]

  pub stays-kept : (i j : ℕ) → i < f + (n' + k) → Stays f n n' i j → IsKeptLine operation r i j
  stays-kept i j lt s = elim s [
    | inl a ↦ record {
      k = i;
      after = ap (λ (flags : List Bool). slice_get (untouched_lines flags) i) after_are ∙ nth_above f n' k i a.0;
      before = ap (λ (flags : List Bool). slice_get (untouched_lines flags) i) before_are ∙ nth_above f n k i a.0 ∙ ap Some (sym a.1);
    }
    | inr b ↦
        let m = i - n' in
        record {
          k = m;
          after = ap (λ (flags : List Bool). slice_get (untouched_lines flags) m) after_are
              ∙ nth_below f n' k m (omega (arith, b.0)) (omega (arith, b.0, lt))
              ∙ ap Some (let same : m + n' ≡ i = omega (arith, b.0) in same);
          before = ap (λ (flags : List Bool). slice_get (untouched_lines flags) m) before_are
              ∙ nth_below f n k m (omega (arith, b.0)) (omega (arith, b.0, lt))
              ∙ ap Some (let same : m + n ≡ j = omega (arith, b.0, b.1) in same);
        }
  ]

  long_after : length (flags_after operation r (operated operation r)) ≡ f + (n' + k)
  long_after = ap length after_are ∙ length-run f n' k

  -- the touched lines before it make place for those after it
  pub run-patch : IsLinePatch operation r (replacement f (f + n) n')
  run-patch = record {
    normal = replacement-patch f (f + n) n' (omega arith);
    came = λ i j lt.
        let both = came-stays f n n' i j in
        (λ c. stays-kept i j (omega (arith, lt, long_after)) (both.0 c), λ h. both.1 (kept-stays i j h));
  }

-- there is one
pub some-patch : (operation : Operation) (r : Record) → IsLawful r → IsAllowed operation r → (patch : List Edit) × IsLinePatch operation r patch
some-patch operation r is allowed =
    let k = keeps_lines r is.entries operation allowed in
    let run = k.run in
    (replacement run.front (run.front + run.before) run.after, run-patch operation r run.front run.before run.after run.back run.before_are run.after_are)
