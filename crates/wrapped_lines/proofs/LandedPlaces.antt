-- Lines of a run that land at their places.
use Rattle.std.proofs.Common.{◌≡◌, ⊎_elim, ℕ, ◌+◌, ◌-◌, ◌*◌, ◌<◌, ◌≤◌, min, Bool, true, false, cond, ◌&&◌, ◌||◌, List, [], ◌∷◌, length, map, take, drop, Option, Some, None, refl, ap, sym, subst, ◌∙◌, arith}
use Rattle.std.specs.Prelude.{All}
use Rattle.std.specs.List.{list_any}
use Rattle.std.specs.Option.{option_map_or}
use Rattle.std.proofs.lemmas.Bool.{cases_lt, le-ltb, ne_eqb}
use Rattle.std.proofs.lemmas.List.Elements.{All-head, All-tail}
use Rattle.cell_units.specs.Rows.{all_rows, line_rows, rows_before}
use Rattle.cell_line.specs.declared.element.Element.{Element}
use Rattle.cell_line.specs.declared.lines.Run.{Run}
use Rattle.cell_line.specs.Waiting.{has_line}
use Rattle.cell_line.specs.Wrapping.{cuts_of}
use Rattle.edit_patch.specs.declared.edit.Edit.{Edit}
use Rattle.edit_patch.specs.Came.{origin_of}
use Rattle.edit_patch.specs.Fits.{Fits}
use Rattle.edit_patch.proofs.Fitting.{from_end}
use Rattle.std.proofs.Math.Nat.{mul-le-mul_left}
use Rattle.wrap_map.specs.Bounds.{landing}
use Rattle.wrap_map.specs.Landing.{IsLanded, IsPatchOfLanded, cuts_of_run, is_landed, marks_landed, standing_landed}
use Rattle.wrap_map.specs.Standing.{Standing, Wrapped}
use Rattle.wrapped_lines.specs.Changed.{IsLandedAt}
use Rattle.kept_sheet.specs.Kept.{AreLinesAt, cuts_in, lines_in, standing}
use Rattle.wrapped_lines.specs.Places.{is_at, is_line, marks_at}
use Rattle.wrapped_lines.specs.WrappedSource.{WrappedSource, lines_of, row_texts, standing_lines}
use Rattle.wrapped_lines.specs.inside.Since.{IsSince}
use Rattle.wrapped_lines.proofs.Placed.{AreThere, all-there, are-there, lands-at, one-each, same-marks, since-fits}

-- no place is a line past the last one
not-at : (count line : ℕ) (places : List (Option ℕ)) → All (λ at. at < count) (standing places) → count ≤ line → is_at places line ≡ false
not-at count line [] there past = refl
not-at count line (None ∷ places) there past = not-at count line places there past
not-at count line (Some at ∷ places) there past =
    ap (λ (b : Bool). b || list_any (is_line line) places)
    (ne_eqb at line (λ e. absurd (omega (arith, e, past, All-head (λ n. n < count) at (standing places) there))))
    ∙ not-at count line places (All-tail (λ n. n < count) at (standing places) there) past

and-false : (a b : Bool) → b ≡ false → (a && b) ≡ false
and-false true b h = h
and-false false b h = refl

-- of a source, lines that it had earlier, and a run of these with the places where they are now
module _ (now : WrappedSource) (old : List (List Element)) (run there : Run) (places : List (Option ℕ))
    (first : there.first ≡ min run.first (length old)) (count : there.count ≡ length places) (at : AreLinesAt (lines_of now) places (lines_in old run)) where
  pub is-there : AreThere old run there
  is-there = are-there old run there first (count ∙ one-each (lines_of now) places (lines_in old run) at)

  pub places-within : there.first + length places ≤ length old
  places-within = omega (arith, is-there.within, count)

  pub all-at : All (λ line. line < length (lines_of now)) (standing places)
  all-at = all-there (lines_of now) places (lines_in old run) at

  pub cuts-there : (cuts : List (List ℕ)) (width : ℕ) → cuts ≡ cuts_in old run width → cuts ≡ cuts_of_run old there width
  cuts-there cuts width are = are ∙ ap (map (λ (elements : List Element). cuts_of elements width)) (sym is-there.same)

  pub patch-fits : (since : List Edit) → IsSince (length old) (length (lines_of now)) there.first places since → Fits since old (lines_of now)
  patch-fits since is =
      since-fits old (lines_of now) (lines_in old run) there.first places since places-within
      (ap (λ (n : ℕ). take n (drop there.first old)) (sym count) ∙ is-there.same) at is

  -- a line lands where it is at a place
  lands : (since : List Edit) → IsSince (length old) (length (lines_of now)) there.first places since → (line : ℕ) → is_landed since there line ≡ is_at places line
  lands since is line = ⊎_elim
      (λ (lt : line < length (lines_of now)). lands-at (length old) (length (lines_of now)) there.first places since there line refl count is lt)
      (λ (past : length (lines_of now) ≤ line).
      let k = line - length (lines_of now) in
      let here : length (lines_of now) + k ≡ line = omega (arith, past) in
      let origin : origin_of since line ≡ Some (length old + k) = ap (origin_of since) (sym here) ∙ from_end since old (lines_of now) k is.normal (patch-fits since is) in
      ap (λ (o : Option ℕ). option_map_or (has_line there) o false) origin
      ∙ and-false _ _ (le-ltb (length old + k) (there.first + there.count) (omega (arith, is-there.within)))
      ∙ sym (not-at (length (lines_of now)) line places all-at past))
      (cases_lt line (length (lines_of now)))

  marks-are : (since : List Edit) (width : ℕ) → IsSince (length old) (length (lines_of now)) there.first places since → marks_landed since there width now.marks ≡ marks_at places width now.marks
  marks-are since width is = same-marks (is_landed since there) (is_at places) width 0 now.marks (λ line ge lt. lands since is line)

  -- what the wrap map gives
  pub landed-at : (since patch : List Edit) (before after : Wrapped) (made : WrappedSource) (width : ℕ) →
      IsSince (length old) (length (lines_of now)) there.first places since → before ≡ record { standing = standing_lines now; width = now.width } →
      IsLanded before since there after patch → length patch ≤ there.count → width ≡ now.width →
      made ≡ record now { width = width; marks = after.standing.marks } → IsLandedAt now places made patch
  landed-at since patch before after made width is was landed few same made-is =
      let start : Wrapped = record { standing = standing_lines now; width = now.width } in
      let from : IsLanded start since there after patch = subst (λ (o : Wrapped). IsLanded o since there after patch) was landed in
      let exact : WrappedSource = record now { marks = marks_landed since there now.width now.marks } in
      let stands : after.standing ≡ standing_landed since there now.width (standing_lines now) = ap (λ (m : Wrapped). m.standing) from.map in
      let rows : IsPatchOfLanded (standing_lines now) (standing_lines exact) since there patch =
      subst (λ (s : Standing). IsPatchOfLanded (standing_lines now) s since there patch) stands from.rows in
      let to : made ≡ exact = made-is ∙ (λ i. record now { width = same i; marks = (stands i).marks }) in
      record {
        made = to ∙ ap (λ (marks : List ℕ). record now { marks = marks }) (marks-are since now.width is);
        normal = rows.normal;
        fits = subst (λ (m : WrappedSource). Fits patch (all_rows (row_texts now)) (all_rows (row_texts m))) (sym to) rows.fits;
        came =
            subst (λ (m : WrappedSource). (line k : ℕ) → line < length (lines_of now) → k < length (line_rows (row_texts m) line)
            → origin_of patch (rows_before (row_texts m) line + k) ≡ cond (is_at places line) None (Some (rows_before (row_texts now) line + k))) (sym to)
            (λ line k lt within. rows.came line k lt within
            ∙ ap (λ (b : Bool). cond b None (Some (rows_before (row_texts now) line + k))) (lands since is line));
        few = omega (arith, few, count);
      }

-- a landing of more lines may take more steps
pub landing-more : (n m h : ℕ) → n ≤ m → landing n h ≤ landing m h
landing-more n m h le =
    let one : 340 * (n + 1) ≤ 340 * (m + 1) = omega (arith, le) in
    omega (arith, mul-le-mul_left (h + 1) one)
