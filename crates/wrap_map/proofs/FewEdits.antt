-- A landing replaces rows by no more edits than the run has lines. Each edit has rows of lines that landed, and rows
-- that stay lie between two of them.
use Rattle.std.proofs.Common.{◌≡◌, ℕ, zero, suc, ◌+◌, ◌-◌, ◌<◌, ◌≤◌, Bool, true, false, cond, List, [], ◌∷◌, length, take, Option, Some, None, refl, sym, ap, subst, ◌∙◌, inl, inr, arith, length-append}
use Rattle.std.specs.Prelude.{All}
use Rattle.std.proofs.lemmas.Bool.{cases_Bool, cases_lt, cond-false, cond-true}
use Rattle.std.proofs.lemmas.List.Elements.{All-head, All-tail}
use Rattle.cell_line.specs.declared.lines.Run.{Run}
use Rattle.cell_units.specs.Rows.{all_rows, line_rows, rows_before}
use Rattle.edit_patch.specs.declared.edit.Edit.{Edit}
use Rattle.edit_patch.specs.Came.{IsReplaced, origin_from, origin_of}
use Rattle.edit_patch.specs.Patch.{IsNext, IsPatch, IsPatchFrom}
use Rattle.edit_patch.proofs.Correspondence.{corresponds}
use Rattle.edit_patch.proofs.Origin.{origin-behind, origin-new, origin-past}
use Rattle.wrap_map.specs.Landing.{IsPatchOfLanded, is_landed, standing_landed}
use Rattle.wrap_map.specs.Standing.{Standing, shown_rows}
use Rattle.wrap_map.proofs.Carried.{landed-from, length-marks_landed}
use Rattle.wrap_map.proofs.Landed.{IsRow, length-shown, row-at, texts-kept}
use Rattle.wrap_map.proofs.Rises.{came-from}

-- ---- of any numbered lines

-- The rows that a patch replaces are of numbered lines, and those that stay are not. A row is of one line before the
-- patch and after it. The lines rise with their rows, as the numbers do with the lines.
record AreNumbered (all : List Edit) (NewIn OldIn HasNumber : ℕ → ℕ → Type 0) (total was last : ℕ) : Type 0 where
  new : (q : ℕ) → q < total → origin_of all q ≡ None → (l : ℕ) × (v : ℕ) × NewIn q l × HasNumber l v
  old : (j : ℕ) → j < was → IsReplaced all j → (l : ℕ) × (v : ℕ) × OldIn j l × HasNumber l v
  kept : (q j : ℕ) → q < total → origin_of all q ≡ Some j → (l : ℕ) × NewIn q l × OldIn j l × ((v : ℕ) → HasNumber l v → ⊥)
  new_rises : (q r l m : ℕ) → NewIn q l → NewIn r m → q ≤ r → l ≤ m
  old_rises : (j k l m : ℕ) → OldIn j l → OldIn k m → j ≤ k → l ≤ m
  order : (l m v w : ℕ) → l < m → HasNumber l v → HasNumber m w → v < w
  below : (l v : ℕ) → HasNumber l v → v < last

module _ (all : List Edit) (NewIn OldIn HasNumber : ℕ → ℕ → Type 0) (total was last : ℕ) (are : AreNumbered all NewIn OldIn HasNumber total was last) where
  -- the numbers of lines that have rows from one on
  abbrev FromNew : ℕ → ℕ → Type 0
  FromNew n v = (q l w : ℕ) → n ≤ q → NewIn q l → HasNumber l w → v ≤ w

  abbrev FromOld : ℕ → ℕ → Type 0
  FromOld o v = (j l w : ℕ) → o ≤ j → OldIn j l → HasNumber l w → v ≤ w

  -- a line of which the edit replaces a row
  record IsOf (e : Edit) (v line number : ℕ) : Type 0 where
    numbered : HasNumber line number
    least : v ≤ number
    before : (p : ℕ) → NewIn e.new_end p → OldIn e.old_end p → line ≤ p

  pick : (e : Edit) (es : List Edit) (gap o n v : ℕ) → IsNext gap o n e → (e.old_end ≤ was) × (e.new_end ≤ total)
      → ((q : ℕ) → n ≤ q → origin_of all q ≡ origin_from o n (e ∷ es) q) → ((j : ℕ) → IsReplaced (e ∷ es) j → IsReplaced all j)
      → FromNew n v → FromOld o v → (l : ℕ) × (w : ℕ) × IsOf e v l w
  pick e es gap o n v next within same replaced new old = elim (cases_lt e.new_start e.new_end) [
    | inl some ↦
        let from : n ≤ e.new_start = omega (arith, next.kept, next.even) in
        let found = are.new e.new_start (omega (arith, some, within.1)) (same e.new_start from ∙ origin-new o n e es e.new_start (omega arith) some) in (
          found.0,
          found.1,
          record {
            numbered = found.3;
            least = new e.new_start found.0 found.1 from found.2 found.3;
            before = λ p a b. are.new_rises e.new_start e.new_end found.0 p found.2 a (omega (arith, some));
          },
        )
    | inr none ↦
        let some : e.old_start < e.old_end = omega (arith, next.some, none) in
        let from : o ≤ e.old_start = omega (arith, next.kept) in
        let found = are.old e.old_start (omega (arith, some, within.0)) (replaced e.old_start (0, e, omega arith, refl, (omega arith, some))) in (
          found.0,
          found.1,
          record {
            numbered = found.3;
            least = old e.old_start found.0 found.1 from found.2 found.3;
            before = λ p a b. are.old_rises e.old_start e.old_end found.0 p found.2 b (omega (arith, some));
          },
        )
  ]

  few : (es : List Edit) (gap o n v : ℕ) → IsPatchFrom gap o n es → All (λ e. (e.old_end ≤ was) × (e.new_end ≤ total)) es
      → ((q : ℕ) → n ≤ q → origin_of all q ≡ origin_from o n es q) → ((j : ℕ) → IsReplaced es j → IsReplaced all j)
      → FromNew n v → FromOld o v → v ≤ last → length es + v ≤ last
  few [] gap o n v p within same replaced new old le = omega (arith, le)
  few (e ∷ []) gap o n v p within same replaced new old le =
      let got = pick e [] gap o n v p.0 (All-head (λ e. (e.old_end ≤ was) × (e.new_end ≤ total)) e [] within) same replaced new old in
      omega (arith, got.2.least, are.below got.0 got.1 got.2.numbered)
  few (e ∷ f ∷ es) gap o n v p within same replaced new old le =
      let here = All-head (λ e. (e.old_end ≤ was) × (e.new_end ≤ total)) e (f ∷ es) within in
      let rest = All-tail (λ e. (e.old_end ≤ was) × (e.new_end ≤ total)) e (f ∷ es) within in
      let there = All-head (λ e. (e.old_end ≤ was) × (e.new_end ≤ total)) f es rest in
      let got = pick e (f ∷ es) gap o n v p.0 here same replaced new old in
      let line = got.0 in
      let number = got.1 in
      let next = p.1.0 in
      let past : (q : ℕ) → e.new_end ≤ q → origin_of all q ≡ origin_from e.old_end e.new_end (f ∷ es) q =
      λ q from. same q (omega (arith, from, p.0.kept, p.0.even, p.0.new_order)) ∙ origin-past o n e (f ∷ es) q (omega (arith, from, p.0.new_order)) from in
      let stays = are.kept e.new_end e.old_end (omega (arith, next.kept, next.even, next.new_order, there.1)) (past e.new_end (omega arith) ∙ origin-behind e.old_end e.new_end (f ∷ es) p.1) in
      let between = stays.0 in
      let below : line < between = elim (cases_lt line between) [
        | inl less ↦ less
        | inr not ↦
            let alike : line ≡ between = omega (arith, not, got.2.before between stays.1 stays.2) in
            absurd (stays.3 number (subst (λ (l : ℕ). HasNumber l number) alike got.2.numbered))
      ] in
      let more = few (f ∷ es) 1 e.old_end e.new_end (number + 1) p.1 rest past
      (λ j r. replaced j (suc r.0, r.1, omega (arith, r.2), r.3, r.4))
      (λ q l w from in' has. let rises = are.new_rises e.new_end q between l stays.1 in' from in
      omega (arith, are.order line l number w (omega (arith, below, rises)) got.2.numbered has))
      (λ j l w from in' has. let rises = are.old_rises e.old_end j between l stays.2 in' from in
      omega (arith, are.order line l number w (omega (arith, below, rises)) got.2.numbered has))
      (omega (arith, are.below line number got.2.numbered)) in
      omega (arith, more, got.2.least)

-- ---- of lines that landed

row-order : (rows : List (List (List ℕ))) (i j l m k h : ℕ) → IsRow rows i l k → IsRow rows j m h → i ≤ j → l ≤ m
row-order [] i j l m k h a b le = absurd (let w = a.line_within in omega arith)
row-order (first ∷ rows) i j zero m k h a b le = omega arith
row-order (first ∷ rows) i j (suc l) zero k h a b le =
    let long = length-append first (all_rows (take l rows)) in
    let w = b.within in
    let x = a.place in
    let y = b.place in
    absurd (omega (arith, long, w, x, y, le))
row-order (first ∷ rows) i j (suc l) (suc m) k h a b le =
    let long = length-append first (all_rows (take l rows)) in
    let wide = length-append first (all_rows (take m rows)) in
    let x = a.place in
    let y = b.place in
    let v = a.line_within in
    let w = b.line_within in
    let c : IsRow rows (i - length first) l k = record { line_within = omega (arith, v); within = a.within; place = omega (arith, long, x) } in
    let d : IsRow rows (j - length first) m h = record { line_within = omega (arith, w); within = b.within; place = omega (arith, wide, y) } in
    omega (arith, row-order rows (i - length first) (j - length first) l m k h c d (omega (arith, le)))

none-of : (x : Bool) (n : ℕ) → cond x None (Some n) ≡ None → x ≡ true
none-of true n h = refl
none-of false n h = absurd (cc)

some-of : (x : Bool) (n j : ℕ) → cond x None (Some n) ≡ Some j → (x ≡ false) × (n ≡ j)
some-of true n j h = absurd (cc)
some-of false n j h = (refl, cc)

module _ (s : Standing) (since : List Edit) (run : Run) (width : ℕ) (patch : List Edit) (e : length s.marks ≡ length s.lines) (is : IsPatch since)
    (p : IsPatchOfLanded s (standing_landed since run width s) since run patch) where
  abbrev now : Standing
  now = standing_landed since run width s

  long : length (shown_rows now) ≡ length s.lines
  long = length-shown now (length-marks_landed since run width s.marks ∙ e)

  abbrev InNew : ℕ → ℕ → Type 0
  InNew q l = (k : ℕ) × IsRow (shown_rows now) q l k

  abbrev InOld : ℕ → ℕ → Type 0
  InOld j l = (k : ℕ) × IsRow (shown_rows s) j l k

  abbrev CameAs : ℕ → ℕ → Type 0
  CameAs l v = (origin_of since l ≡ Some v) × (run.first ≤ v) × (v < run.first + run.count)

  -- where a row came from, by its line
  from-line : (q l k : ℕ) → IsRow (shown_rows now) q l k → origin_of patch q ≡ cond (is_landed since run l) None (Some (rows_before (shown_rows s) l + k))
  from-line q l k r = let w = r.line_within in ap (origin_of patch) (sym r.place) ∙ p.came l k (omega (arith, long, w)) r.within

  numbered : AreNumbered patch InNew InOld CameAs (length (all_rows (shown_rows now))) (length (all_rows (shown_rows s))) (run.first + run.count)
  numbered = record {
    new = λ q lt none.
        let at = row-at (shown_rows now) q lt in
        let came = came-from since run at.0 (none-of (is_landed since run at.0) (rows_before (shown_rows s) at.0 + at.1) (sym (from-line q at.0 at.1 at.2) ∙ none)) in
        (at.0, came.0, (at.1, at.2), (came.1, came.2, came.3));
    old = λ j lt replaced.
        let at = row-at (shown_rows s) j lt in
        let w = at.2.line_within in
        let there : at.0 < length s.lines = omega (arith, length-shown s e, w) in
        elim (cases_Bool (is_landed since run at.0)) [
          | inl landed ↦ let came = came-from since run at.0 landed in (at.0, came.0, (at.1, at.2), (came.1, came.2, came.3))
          | inr not ↦
              let same : line_rows (shown_rows now) at.0 ≡ line_rows (shown_rows s) at.0 = texts-kept s since run width at.0 there e not in
              let within : at.1 < length (line_rows (shown_rows now) at.0) = subst (λ (xs : List (List ℕ)). at.1 < length xs) (sym same) at.2.within in
              let came : origin_of patch (rows_before (shown_rows now) at.0 + at.1) ≡ Some j =
              p.came at.0 at.1 there within ∙ cond-false (is_landed since run at.0) None (Some (rows_before (shown_rows s) at.0 + at.1)) not ∙ ap Some at.2.place in
              absurd (((corresponds patch p.normal).stays j).0 (rows_before (shown_rows now) at.0 + at.1, came) replaced)
        ];
    kept = λ q j lt came.
        let at = row-at (shown_rows now) q lt in
        let w = at.2.line_within in
        let there : at.0 < length s.lines = omega (arith, long, w) in
        let some = some-of (is_landed since run at.0) (rows_before (shown_rows s) at.0 + at.1) j (sym (from-line q at.0 at.1 at.2) ∙ came) in
        let same : line_rows (shown_rows now) at.0 ≡ line_rows (shown_rows s) at.0 = texts-kept s since run width at.0 there e some.0 in
        let old : IsRow (shown_rows s) j at.0 at.1 = record {
          line_within = omega (arith, length-shown s e, there);
          within = subst (λ (xs : List (List ℕ)). at.1 < length xs) same at.2.within;
          place = some.1;
        } in
        (at.0, (at.1, at.2), (at.1, old), λ v has. let landed = landed-from since run at.0 v has.0 has.1 has.2 in absurd (let no = sym some.0 ∙ landed in cc));
    new_rises = λ q r l m a b le. row-order (shown_rows now) q r l m a.0 b.0 a.1 b.1 le;
    old_rises = λ j k l m a b le. row-order (shown_rows s) j k l m a.0 b.0 a.1 b.1 le;
    order = λ l m v w less a b. (corresponds since is).order l m v w less a.0 b.0;
    below = λ l v has. has.2;
  }

  pub few-edits : length patch ≤ run.count
  few-edits =
      let all = few patch InNew InOld CameAs (length (all_rows (shown_rows now))) (length (all_rows (shown_rows s))) (run.first + run.count) numbered
      patch 0 0 0 run.first p.normal p.fits.within (λ q h. refl) (λ j h. h) (λ q l w h at has. has.1) (λ j l w h at has. has.1) (omega arith) in
      omega (arith, all)
