-- Rows that are filled, element by element.
use Rattle.std.proofs.Common.{◌≡◌, ◌⊎◌, inl, inr, ℕ, ◌+◌, ◌-◌, ◌^◌, ◌<◌, ◌≤◌, ◌&&◌, ◌||◌, not, Bool, true, false, cond, List, [], ◌∷◌, ◌++◌, length, take, drop, zero, suc, nat_le, nat_lt, nat_eq, slice_range, unwrap_or, Option, Some, None, append_assoc, append-nil, refl, ap, ap₂, sym, ◌∙◌, subst, arith}
use Rattle.std.proofs.lemmas.Bool.{cases_lt}
use Rattle.std.proofs.lemmas.Bool.Decides.{nat_tests}
use Rattle.std.proofs.lemmas.List.{drop-drop, drop-take, take-take}
use Rattle.std.proofs.lemmas.List.Sums.{sum_by-take-drop}
use Rattle.cell_line.specs.declared.element.Element.{Element}
use Rattle.cell_line.specs.declared.filling.Row.{Row}
use Rattle.cell_line.specs.declared.mark.Mark.{Mark}
use Rattle.cell_line.specs.Elements.{total_cells}
use Rattle.cell_line.specs.Lines.{LineFitsU32}
use Rattle.cell_line.specs.Wrapping.{element_at, ends_well, fits, greatest, is_blank, is_opportunity, is_wide, lead_of, next_start_of, row_starts, trimmed}
use Rattle.cell_line.specs.Laws.{IsGreatest}
use Rattle.cell_line.specs.inside.Filling.{letters_room_at, may_end_at, overflows_at, parts_at, starts_after, starts_left, IsAsked, IsFilled, IsMarkAt, IsOpen, IsTurned, IsWell}
use Rattle.cell_line.specs.inside.Marks.{letter, AreLetters, IsMarked}
use Rattle.cell_line.proofs.Greatest.{Greatest, greatest-at, greatest-fails, greatest-none, greatest-stays, greatest_is}
use Rattle.cell_line.proofs.Rows.{row_starts_done, row_starts_next}
use Rattle.cell_line.proofs.Scan.{blank_more, cells_more, ends_well-no_opportunity, ends_well-within, fits-true, range_le, scan_end, scan_stop}
use Rattle.cell_line.proofs.Trimmed.{trimmed_fewer, trimmed_le}
use Rattle.cell_line.proofs.Walks.{mark_at, taken_none}

-- ---- a row without elements

range_none : (es : List Element) (s : ℕ) → total_cells (slice_range es s s) ≡ 0
range_none es s =
    let none : s - s ≡ 0 = omega arith in
    ap (λ (k : ℕ). total_cells (take k (drop s es))) none

filled-new : (es : List Element) (room s : ℕ) → s ≤ length es → IsFilled es room s s 0
filled-new es room s le = record {
  order = omega arith;
  end = le;
  cells_are = sym (range_none es s);
  within = omega (arith, trimmed_le (slice_range es s s), range_none es s);
  tight = inl (omega arith);
}

well-new : (es : List Element) (room s to : ℕ) → to ≤ s → IsWell es room s s to None 0
well-new es room s to le = record { place = sym (greatest-none (ends_well es room s) s to le); since_are = sym (range_none es s) }

abbrev pub new_row : ℕ → Row
new_row s = record { start = s; cells = 0; well = None; since = 0 }

pub open-new : (es : List Element) (room s : ℕ) → s ≤ length es → IsOpen es room s (new_row s)
open-new es room s le = (filled-new es room s le, well-new es room s (s - 1) (omega arith))

turned-new : (es : List Element) (room s : ℕ) → s ≤ length es → IsTurned es room s (new_row s)
turned-new es room s le = ((filled-new es room s le, well-new es room s s (omega arith)), refl, omega arith)

-- ---- whether the row may end

shape : (e l w yb xb xw yw : Bool) → e ≡ false → w ≡ true → (e || (l && w && (not yb && (xb || xw || yw)))) ≡ (l && not yb && ((xb || xw) || yw))
shape true l w yb xb xw yw h k = absurd (cc)
shape false l false yb xb xw yw h k = absurd (cc)
shape false false true yb xb xw yw h k = refl
shape false true true true xb xw yw h k = refl
shape false true true false true xw yw h k = refl
shape false true true false false true yw h k = refl
shape false true true false false false yw h k = refl

may_end_is : (es : List Element) (lead at : ℕ) (mark : Mark) (parts : Bool) → IsMarkAt es lead at mark → parts ≡ parts_at es at →
    is_opportunity es at ≡ may_end_at lead at parts mark
may_end_is es lead at mark parts m p =
    let y = element_at es at in
    let here : nat_eq at (length es) ≡ false = let lt = m.within in grind (arith, nat_tests) in
    let inside : nat_lt at (length es) ≡ true = let lt = m.within in grind (arith, nat_tests) in
    shape (nat_eq at (length es)) (nat_lt (lead_of es) at) (nat_lt at (length es)) (is_blank y) (is_blank (element_at es (at - 1))) (is_wide (element_at es (at - 1))) (is_wide y) here inside
    ∙ (λ i. nat_lt (sym m.lead_is i) at && not (ap (λ (k : Mark). k.blank) (sym m.mark_is) i) && (sym p i || ap (λ (k : Mark). k.wide) (sym m.mark_is) i))

pub asked-yes : (es : List Element) (room at : ℕ) (row : Row) → IsOpen es room at row → row.start < at → is_opportunity es at ≡ true →
    IsAsked es room at (record { start = row.start; cells = row.cells; well = Some at; since = 0 })
asked-yes es room at row h lt may = (
  h.0,
  record {
    place = sym (greatest-at (ends_well es room row.start) row.start at lt (ends_well-within es room row.start at h.0.within ∙ may));
    since_are = sym (range_none es at);
  },
)

asked-no : (es : List Element) (room at : ℕ) (row : Row) → IsOpen es room at row → row.start < at → is_opportunity es at ≡ false → IsAsked es room at row
asked-no es room at row h lt may =
    let e : at - 1 + 1 ≡ at = omega arith in
    let same : greatest (ends_well es room row.start) row.start at ≡ greatest (ends_well es room row.start) row.start (at - 1) =
    ap (greatest (ends_well es room row.start) row.start) (sym e)
    ∙ greatest-fails (ends_well es room row.start) row.start (at - 1) (ap (ends_well es room row.start) e ∙ ends_well-no_opportunity es room row.start at may) in
    (h.0, record { place = h.1.place ∙ sym same; since_are = h.1.since_are })

asked-start : (es : List Element) (room at : ℕ) (row : Row) → IsOpen es room at row → at ≤ row.start → IsAsked es room at row
asked-start es room at row h le =
    let test = ends_well es room row.start in (
      h.0,
      record {
        place = h.1.place ∙ greatest-none test row.start (at - 1) (omega arith) ∙ sym (greatest-none test row.start at le);
        since_are = h.1.since_are;
      },
    )

pub asked_yes : (es : List Element) (room lead at : ℕ) (row : Row) (mark : Mark) (parts : Bool) → IsMarkAt es lead at mark → IsOpen es room at row →
    (row.start < at → parts ≡ parts_at es at) → row.start < at → may_end_at lead at parts mark ≡ true →
    IsAsked es room at (record { start = row.start; cells = row.cells; well = Some at; since = 0 })
asked_yes es room lead at row mark parts m h p lt may =
    asked-yes es room at row h lt (may_end_is es lead at mark parts m (p lt) ∙ may)

pub asked_no : (es : List Element) (room lead at : ℕ) (row : Row) (mark : Mark) (parts : Bool) → IsMarkAt es lead at mark → IsOpen es room at row →
    (row.start < at → parts ≡ parts_at es at) → (at ≤ row.start) ⊎ (may_end_at lead at parts mark ≡ false) → IsAsked es room at row
asked_no es room lead at row mark parts m h p why = elim (cases_lt row.start at) [
  | inl lt ↦ elim why [
    | inl le ↦ absurd (omega arith)
    | inr may ↦ asked-no es room at row h lt (may_end_is es lead at mark parts m (p lt) ∙ may)
  ]
  | inr le ↦ asked-start es room at row h le
]

-- ---- one element more

well_le : (es : List Element) (room s at : ℕ) (well : Option ℕ) (since : ℕ) → s ≤ at → IsWell es room s at at well since →
    (s ≤ unwrap_or well s) × (unwrap_or well s ≤ at)
well_le es room s at well since le h =
    go well (subst (Greatest (ends_well es room s) s at) (sym h.place) (greatest_is (ends_well es room s) s at)) where
      go : (o : Option ℕ) → Greatest (ends_well es room s) s at o → (s ≤ unwrap_or o s) × (unwrap_or o s ≤ at)
      go None g = (omega arith, le)
      go (Some k) g = let lt = g.0 in (omega arith, g.1)

pub with_more : (es : List Element) (room lead at : ℕ) (row : Row) (mark : Mark) → IsMarkAt es lead at mark → IsAsked es room at row →
    (row.cells + mark.cells ≤ room) ⊎ ((mark.blank ≡ true) × (lead ≤ at)) →
    IsOpen es room (at + 1) (record { start = row.start; cells = row.cells + mark.cells; well = row.well; since = row.since + mark.cells })
with_more es room lead at row mark m h why =
    let s = row.start in
    let e = element_at es at in
    let le = h.0.order in
    let lt = m.within in
    let cells : mark.cells ≡ e.cells = ap (λ (k : Mark). k.cells) m.mark_is in
    let blank : mark.blank ≡ is_blank e = ap (λ (k : Mark). k.blank) m.mark_is in
    let same : row.cells + mark.cells ≡ total_cells (slice_range es s (at + 1)) = omega (arith, h.0.cells_are, cells, cells_more es s at le lt) in
    let last : at + 1 - 1 ≡ at = omega arith in
    let k = well_le es room s at row.well row.since le h.1 in
    let since : row.since + mark.cells ≡ total_cells (slice_range es (unwrap_or row.well s) (at + 1)) =
    omega (arith, h.1.since_are, cells, cells_more es (unwrap_or row.well s) at k.1 lt) in (
      record {
        order = omega (arith, le);
        end = omega (arith, lt);
        cells_are = same;
        within = elim why [
          | inl small ↦ omega (arith, trimmed_le (slice_range es s (at + 1)), same, small)
          | inr hangs ↦ rw (blank_more es s at le lt (sym blank ∙ hangs.0)) h.0.within
        ];
        tight = elim why [
          | inl small ↦ inl small
          | inr hangs ↦ inr (omega (arith, hangs.1, m.lead_is), ap (λ (n : ℕ). is_blank (element_at es n)) last ∙ sym blank ∙ hangs.0)
        ];
      },
      record {
        place = h.1.place ∙ ap (greatest (ends_well es room s) s) (sym last);
        since_are = since;
      },
    )

pub row_fits : (es : List Element) (room lead at : ℕ) (row : Row) (mark : Mark) → IsMarkAt es lead at mark → IsAsked es room at row → LineFitsU32 es →
    (row.cells + mark.cells < 2 ^ 32) × (row.since + mark.cells < 2 ^ 32) × (at + 1 < 2 ^ 32)
row_fits es room lead at row mark m h fits =
    let cells : mark.cells ≡ (element_at es at).cells = ap (λ (k : Mark). k.cells) m.mark_is in
    let k = well_le es room row.start at row.well row.since h.0.order h.1 in (
      omega (arith, h.0.cells_are, cells, cells_more es row.start at h.0.order m.within, range_le es row.start (at + 1), fits.1),
      omega (arith, h.1.since_are, cells, cells_more es (unwrap_or row.well row.start) at k.1 m.within, range_le es (unwrap_or row.well row.start) (at + 1), fits.1),
      omega (arith, m.within, fits.0),
    )

-- ---- the end of a row

pub over_cells : (room lead at cells : ℕ) (mark : Mark) → overflows_at room lead at cells mark ≡ true →
    (room < cells + mark.cells) × ((not mark.blank || nat_lt at lead) ≡ true)
over_cells room lead at cells mark h = elim (cases_lt room (cells + mark.cells)) [
  | inl lt ↦
      let e : nat_lt room (cells + mark.cells) ≡ true = grind (arith, nat_tests) in
      (lt, sym (ap (λ b. b && (not mark.blank || nat_lt at lead)) e) ∙ h)
  | inr le ↦
      let e : nat_lt room (cells + mark.cells) ≡ false = grind (arith, nat_tests) in
      let no : false ≡ true = sym (ap (λ b. b && (not mark.blank || nat_lt at lead)) e) ∙ h in
      absurd (cc)
]

pub over_not : (room lead at cells : ℕ) (mark : Mark) → overflows_at room lead at cells mark ≡ false →
    (cells + mark.cells ≤ room) ⊎ ((mark.blank ≡ true) × (lead ≤ at))
over_not room lead at cells mark h = elim (cases_lt room (cells + mark.cells)) [
  | inr le ↦ inl le
  | inl lt ↦
      let e : nat_lt room (cells + mark.cells) ≡ true = grind (arith, nat_tests) in
      inr (go mark.blank (sym (ap (λ b. b && (not mark.blank || nat_lt at lead)) e) ∙ h))
]
  where
    go : (b : Bool) → (not b || nat_lt at lead) ≡ false → (b ≡ true) × (lead ≤ at)
    go false k = absurd (cc)
    go true k = (refl, elim (cases_lt at lead) [ inl lt ↦ absurd (grind (arith, nat_tests)) | inr le ↦ le ])

solid : (es : List Element) (lead at : ℕ) (mark : Mark) → IsMarkAt es lead at mark → (not mark.blank || nat_lt at lead) ≡ true →
    (is_blank (element_at es at) ≡ false) ⊎ (at < lead_of es)
solid es lead at mark m h =
    go mark.blank (ap (λ (k : Mark). k.blank) m.mark_is) h where
      go : (b : Bool) → b ≡ is_blank (element_at es at) → (not b || nat_lt at lead) ≡ true → (is_blank (element_at es at) ≡ false) ⊎ (at < lead_of es)
      go false e k = inl (sym e)
      go true e k = inr (elim (cases_lt at lead) [ inl lt ↦ omega (arith, lt, m.lead_is) | inr le ↦ absurd (grind (arith, nat_tests)) ])

stop_is : (es : List Element) (room lead at : ℕ) (row : Row) (mark : Mark) → IsMarkAt es lead at mark → IsAsked es room at row →
    room < row.cells + mark.cells → (not mark.blank || nat_lt at lead) ≡ true →
    next_start_of es room row.start ≡ unwrap_or row.well (unwrap_or (greatest (fits es room row.start) row.start at) (row.start + 1))
stop_is es room lead at row mark m h over why =
    let cells : mark.cells ≡ (element_at es at).cells = ap (λ (k : Mark). k.cells) m.mark_is in
    scan_stop es room row.start at row.cells row.well (greatest (fits es room row.start) row.start at) (element_at es at)
    (record { cells = h.0.cells_are; within = h.0.within; well_so_far = h.1.place; whole_so_far = refl })
    h.0.order m.within refl (omega (arith, m.lead_is, m.some)) (omega (arith, over, cells)) (solid es lead at mark m why)

-- a blank that hangs is a place where the row may end
settled : (es : List Element) (room lead at : ℕ) (row : Row) (mark : Mark) → IsMarkAt es lead at mark → IsAsked es room at row →
    (not mark.blank || nat_lt at lead) ≡ true → (row.well ≡ Some at) ⊎ (row.cells ≤ room)
settled es room lead at row mark m h why =
    let s = row.start in
    elim h.0.tight [
      | inl small ↦ inr small
      | inr hangs ↦ elim (cases_lt s at) [
        | inr le ↦
            let same : s ≡ at = let ge = h.0.order in omega arith in
            let none : total_cells (slice_range es s at) ≡ 0 = ap (λ (k : ℕ). total_cells (slice_range es s k)) (sym same) ∙ range_none es s in
            inr (omega (arith, h.0.cells_are, none))
        | inl lt ↦
            let not_blank : is_blank (element_at es at) ≡ false = elim (solid es lead at mark m why) [ inl fails ↦ fails | inr leads ↦ absurd (omega (arith, leads, hangs.0)) ] in
            let y = element_at es at in
            let x = element_at es (at - 1) in
            let here : nat_eq at (length es) ≡ false = let lt = m.within in grind (arith, nat_tests) in
            let inside : nat_lt at (length es) ≡ true = let lt = m.within in grind (arith, nat_tests) in
            let past : nat_lt (lead_of es) at ≡ true = let lt = hangs.0 in grind (arith, nat_tests) in
            let may : is_opportunity es at ≡ true =
            shape (nat_eq at (length es)) (nat_lt (lead_of es) at) (nat_lt at (length es)) (is_blank y) (is_blank x) (is_wide x) (is_wide y) here inside
            ∙ (λ i. past i && not (not_blank i) && ((hangs.1 i || is_wide x) || is_wide y)) in
            inl (h.1.place ∙ greatest-at (ends_well es room s) s at lt (ends_well-within es room s at h.0.within ∙ may))
      ]
    ]

pub end_well : (es : List Element) (room lead at : ℕ) (row : Row) (mark : Mark) (k : ℕ) → IsMarkAt es lead at mark → IsAsked es room at row →
    overflows_at room lead at row.cells mark ≡ true → row.well ≡ Some k → next_start_of es room row.start ≡ k
end_well es room lead at row mark k m h over is =
    let o = over_cells room lead at row.cells mark over in
    stop_is es room lead at row mark m h o.0 o.1
    ∙ ap (λ (w : Option ℕ). unwrap_or w (unwrap_or (greatest (fits es room row.start) row.start at) (row.start + 1))) is

end_none : (es : List Element) (room lead at : ℕ) (row : Row) (mark : Mark) → IsMarkAt es lead at mark → IsAsked es room at row →
    room < row.cells + mark.cells → (not mark.blank || nat_lt at lead) ≡ true → row.well ≡ None →
    next_start_of es room row.start ≡ unwrap_or (greatest (fits es room row.start) row.start at) (row.start + 1)
end_none es room lead at row mark m h over why is =
    stop_is es room lead at row mark m h over why
    ∙ ap (λ (w : Option ℕ). unwrap_or w (unwrap_or (greatest (fits es room row.start) row.start at) (row.start + 1))) is

end-here : (es : List Element) (room lead at : ℕ) (row : Row) (mark : Mark) → IsMarkAt es lead at mark → IsAsked es room at row →
    room < row.cells + mark.cells → (not mark.blank || nat_lt at lead) ≡ true → row.well ≡ None → row.cells ≤ room → row.start < at →
    next_start_of es room row.start ≡ at
end-here es room lead at row mark m h over why is small lt =
    end_none es room lead at row mark m h over why is
    ∙ ap (λ (w : Option ℕ). unwrap_or w (row.start + 1))
    (greatest-at (fits es room row.start) row.start at lt (fits-true es room row.start at (omega (arith, h.0.cells_are, small))))

end-past : (es : List Element) (room lead at : ℕ) (row : Row) (mark : Mark) → IsMarkAt es lead at mark → IsAsked es room at row →
    room < row.cells + mark.cells → (not mark.blank || nat_lt at lead) ≡ true → row.well ≡ None → at ≤ row.start →
    next_start_of es room row.start ≡ at + 1
end-past es room lead at row mark m h over why is le =
    let same : row.start ≡ at = let ge = h.0.order in omega arith in
    end_none es room lead at row mark m h over why is
    ∙ ap (λ (w : Option ℕ). unwrap_or w (row.start + 1)) (greatest-none (fits es room row.start) row.start at le)
    ∙ ap (λ (n : ℕ). n + 1) same

some_is : (at : ℕ) (o : Option ℕ) → o ≡ Some at → o ≡ None → ⊥
some_is at o a b = let e : Some at ≡ None = sym a ∙ b in cc

-- a row that may not end before is within the room
small : (es : List Element) (room lead at : ℕ) (row : Row) (mark : Mark) → IsMarkAt es lead at mark → IsAsked es room at row →
    (not mark.blank || nat_lt at lead) ≡ true → row.well ≡ None → row.cells ≤ room
small es room lead at row mark m h why is = elim (settled es room lead at row mark m h why) [
  | inl some ↦ absurd (some_is at row.well some is)
  | inr fit ↦ fit
]

pub end_here : (es : List Element) (room lead at : ℕ) (row : Row) (mark : Mark) → IsMarkAt es lead at mark → IsAsked es room at row →
    overflows_at room lead at row.cells mark ≡ true → row.well ≡ None → row.start < at → next_start_of es room row.start ≡ at
end_here es room lead at row mark m h over is lt =
    let o = over_cells room lead at row.cells mark over in
    end-here es room lead at row mark m h o.0 o.1 is (small es room lead at row mark m h o.1 is) lt

pub end_past : (es : List Element) (room lead at : ℕ) (row : Row) (mark : Mark) → IsMarkAt es lead at mark → IsAsked es room at row →
    overflows_at room lead at row.cells mark ≡ true → row.well ≡ None → at ≤ row.start → next_start_of es room row.start ≡ at + 1
end_past es room lead at row mark m h over is le =
    let o = over_cells room lead at row.cells mark over in
    end-past es room lead at row mark m h o.0 o.1 is le

-- ---- the next row

range_parts : (es : List Element) (s k at : ℕ) → s ≤ k → k ≤ at →
    total_cells (slice_range es s at) ≡ total_cells (slice_range es s k) + total_cells (slice_range es k at)
range_parts es s k at a b =
    let n : s + (k - s) ≡ k = omega arith in
    let m : at - s ≡ k - s + (at - k) = omega arith in
    go (drop s es) (k - s) (at - k) (at - s) m
    ∙ ap (λ (rest : List Element). total_cells (slice_range es s k) + total_cells (take (at - k) rest)) (drop-drop (k - s) s es ∙ ap (λ (i : ℕ). drop i es) n)
  where
    parts : (xs : List Element) (i j : ℕ) → total_cells (take (i + j) xs) ≡ total_cells (take i xs) + total_cells (take j (drop i xs))
    parts xs i j =
        sym (sum_by-take-drop (λ (e : Element). e.cells) (take (i + j) xs) i)
        ∙ ap₂ (λ (a b : List Element). total_cells a + total_cells b) (take-take i (i + j) xs (omega arith)) (drop-take i j xs)

    go : (xs : List Element) (i j n : ℕ) → n ≡ i + j → total_cells (take n xs) ≡ total_cells (take i xs) + total_cells (take j (drop i xs))
    go xs i j n e = ap (λ (k : ℕ). total_cells (take k xs)) e ∙ parts xs i j

none_after : (es : List Element) (room s k at : ℕ) → s ≤ k → total_cells (trimmed (slice_range es s at)) ≤ room →
    ((j : ℕ) → k < j → j ≤ at → ends_well es room s j ≡ false) → greatest (ends_well es room k) k at ≡ None
none_after es room s k at le within none =
    elim (cases_lt at k) [
      | inl lt ↦ greatest-none (ends_well es room k) k at (omega arith)
      | inr ge ↦
          greatest-stays (ends_well es room k) k k at (λ j a b. no_end j a b) ge ∙ greatest-none (ends_well es room k) k k (omega arith)
    ]
  where
    no_end : (j : ℕ) → k < j → j ≤ at → ends_well es room k j ≡ false
    no_end j a b =
        let fewer : total_cells (trimmed (slice_range es s j)) ≤ room = omega (arith, trimmed_fewer (drop s es) (j - s) (at - s) (omega arith), within) in
        ends_well-no_opportunity es room k j (sym (ends_well-within es room s j fewer) ∙ none j a b)

turned-well : (es : List Element) (room lead at : ℕ) (row : Row) (mark : Mark) (k : ℕ) → IsMarkAt es lead at mark → IsAsked es room at row →
    (not mark.blank || nat_lt at lead) ≡ true → row.well ≡ Some k →
    IsTurned es room at (record { start = k; cells = row.since; well = None; since = row.since }) × (k < length es)
turned-well es room lead at row mark k m h why is =
    let s = row.start in
    let g : IsGreatest (ends_well es room s) s at k =
    subst (Greatest (ends_well es room s) s at) (sym h.1.place ∙ is) (greatest_is (ends_well es room s) s at) in
    let after = g.0 in
    let upto = g.1 in
    let since : row.since ≡ total_cells (slice_range es k at) = h.1.since_are ∙ ap (λ (w : Option ℕ). total_cells (slice_range es (unwrap_or w s) at)) is in
    let fit : row.since ≤ room = elim (settled es room lead at row mark m h why) [
      | inl some ↦
          let e : Some k ≡ Some at = sym is ∙ some in
          let same : k ≡ at = cc in
          let none : total_cells (slice_range es k at) ≡ 0 = ap (λ (n : ℕ). total_cells (slice_range es k n)) (sym same) ∙ range_none es k in
          omega (arith, since, none)
      | inr within ↦ omega (arith, within, since, h.0.cells_are, range_parts es s k at (omega (arith, after)) upto)
    ] in (
      (
        (
          record {
            order = upto;
            end = h.0.end;
            cells_are = since;
            within = omega (arith, trimmed_le (slice_range es k at), since, fit);
            tight = inl fit;
          },
          record { place = sym (none_after es room s k at (omega (arith, after)) h.0.within g.3); since_are = since },
        ),
        refl,
        fit,
      ),
      let lt = m.within in omega (arith, upto),
    )

-- ---- the starts so far

pub pushed : (es : List Element) (room s k : ℕ) (starts all : List ℕ) → k < length es → s ≡ k →
    starts ++ row_starts es room (length es) s ≡ all → (starts ++ k ∷ []) ++ starts_after es room k ≡ all
pushed es room s k starts all lt is h =
    append_assoc starts (k ∷ []) (starts_after es room k)
    ∙ ap (λ (rest : List ℕ). starts ++ rest) (sym (row_starts_next es room k lt) ∙ ap (row_starts es room (length es)) (sym is))
    ∙ h

pub left_begun : (es : List Element) (room s at : ℕ) → s < at → starts_left es room s at ≡ starts_after es room s
left_begun es room s at lt =
    let e : nat_lt s at ≡ true = grind (arith, nat_tests) in
    ap (λ b. cond b (starts_after es room s) (row_starts es room (length es) s)) e

pub left_new : (es : List Element) (room s at : ℕ) → at ≤ s → starts_left es room s at ≡ row_starts es room (length es) s
left_new es room s at le =
    let e : nat_lt s at ≡ false = grind (arith, nat_tests) in
    ap (λ b. cond b (starts_after es room s) (row_starts es room (length es) s)) e

-- past the last element no start is left
pub left_none : (es : List Element) (room : ℕ) (row : Row) → IsOpen es room (length es) row → starts_left es room row.start (length es) ≡ []
left_none es room row h = elim (cases_lt row.start (length es)) [
  | inr le ↦ left_new es room row.start (length es) le ∙ row_starts_done es room row.start le
  | inl lt ↦
      let end = scan_end es room row.start lt h.0.within in
      left_begun es room row.start (length es) lt ∙ row_starts_done es room (next_start_of es room row.start) (omega (arith, end))
]

pub begun : (es : List Element) (room s at : ℕ) (starts all : List ℕ) → at < length es → s ≡ at →
    starts ++ starts_left es room s at ≡ all → (starts ++ at ∷ []) ++ starts_after es room s ≡ all
begun es room s at starts all lt is h =
    ap (λ (k : ℕ). (starts ++ at ∷ []) ++ starts_after es room k) is
    ∙ pushed es room s at starts all lt is (ap (λ (rest : List ℕ). starts ++ rest) (sym (left_new es room s at (omega arith))) ∙ h)

pub turn_well : (es : List Element) (room lead at : ℕ) (row : Row) (mark : Mark) (k : ℕ) (starts all : List ℕ) → IsMarkAt es lead at mark → IsAsked es room at row →
    overflows_at room lead at row.cells mark ≡ true → row.well ≡ Some k → starts ++ starts_after es room row.start ≡ all →
    IsTurned es room at (record { start = k; cells = row.since; well = None; since = row.since }) × ((starts ++ k ∷ []) ++ starts_after es room k ≡ all)
turn_well es room lead at row mark k starts all m h over is done =
    let turned = turned-well es room lead at row mark k m h (over_cells room lead at row.cells mark over).1 is in
    (turned.0, pushed es room (next_start_of es room row.start) k starts all turned.1 (end_well es room lead at row mark k m h over is) done)

pub turn_not : (es : List Element) (room lead at : ℕ) (row : Row) (mark : Mark) → IsMarkAt es lead at mark → IsAsked es room at row →
    overflows_at room lead at row.cells mark ≡ true → row.well ≡ None → IsTurned es room at row
turn_not es room lead at row mark m h over is =
    (h, is, small es room lead at row mark m h (over_cells room lead at row.cells mark over).1 is)

pub turn_here : (es : List Element) (room lead at : ℕ) (row : Row) (mark : Mark) (starts all : List ℕ) → IsMarkAt es lead at mark → IsTurned es room at row →
    (not mark.blank || nat_lt at lead) ≡ true → row.start < at → room < row.cells + mark.cells → starts ++ starts_after es room row.start ≡ all →
    IsTurned es room at (new_row at) × ((starts ++ at ∷ []) ++ starts_after es room at ≡ all)
turn_here es room lead at row mark starts all m h why lt over done = (
  turned-new es room at h.0.0.end,
  pushed es room (next_start_of es room row.start) at starts all m.within (end-here es room lead at row mark m h.0 over why h.1 h.2 lt) done,
)

pub turn_past : (es : List Element) (room lead at : ℕ) (row : Row) (mark : Mark) (starts all : List ℕ) → IsMarkAt es lead at mark → IsTurned es room at row →
    (not mark.blank || nat_lt at lead) ≡ true → row.start ≡ at → room < row.cells + mark.cells → starts ++ starts_after es room row.start ≡ all →
    IsOpen es room (at + 1) (new_row (at + 1)) × (starts ++ starts_left es room (at + 1) (at + 1) ≡ all)
turn_past es room lead at row mark starts all m h why is over done = (
  open-new es room (at + 1) (let lt = m.within in omega arith),
  ap (λ (rest : List ℕ). starts ++ rest)
      (left_new es room (at + 1) (at + 1) (omega arith)
      ∙ ap (row_starts es room (length es)) (sym (end-past es room lead at row mark m h.0 over why h.1 (omega arith))))
      ∙ done,
)

pub turn_with : (es : List Element) (room lead at : ℕ) (row : Row) (mark : Mark) (starts all : List ℕ) → IsMarkAt es lead at mark → IsAsked es room at row →
    (row.cells + mark.cells ≤ room) ⊎ ((mark.blank ≡ true) × (lead ≤ at)) → starts ++ starts_after es room row.start ≡ all →
    IsOpen es room (at + 1) (record { start = row.start; cells = row.cells + mark.cells; well = row.well; since = row.since + mark.cells })
    × (starts ++ starts_left es room row.start (at + 1) ≡ all)
turn_with es room lead at row mark starts all m h why done = (
  with_more es room lead at row mark m h why,
  ap (λ (rest : List ℕ). starts ++ rest) (left_begun es room row.start (at + 1) (let le = h.0.order in omega arith)) ∙ done,
)

-- ---- the walk along the line

-- the row was filled up to `at`, and `left` is left of the line
pub record IsPassing (es : List Element) (room at : ℕ) (row : Row) (parts : Bool) (left : List Element) : Type 0 where
  pub left_is : left ≡ drop at es
  pub open_row : IsOpen es room at row
  pub parts_are : row.start < at → parts ≡ parts_at es at

pub pass_new : (es : List Element) (room s : ℕ) (row : Row) (parts : Bool) (left : List Element) → left ≡ drop s es → s ≤ length es → row ≡ new_row s →
    IsPassing es room s row parts left
pass_new es room s row parts left is le new =
    subst (λ (r : Row). IsPassing es room s r parts left) (sym new)
    (record { left_is = is; open_row = open-new es room s le; parts_are = λ lt. absurd (omega (arith, lt)) })

pub pass_mark : (es : List Element) (room lead at : ℕ) (row : Row) (parts : Bool) (left rest : List Element) (mark : Mark) → IsPassing es room at row parts left →
    lead ≡ lead_of es → lead < length es → IsMarked left (Some mark) rest → IsMarkAt es lead at mark × (rest ≡ drop (at + 1) es)
pass_mark es room lead at row parts left rest mark p is some marked =
    mark_at es lead at mark rest is some (subst (λ (xs : List Element). IsMarked xs (Some mark) rest) p.left_is marked)

pub pass_more : (es : List Element) (room lead at : ℕ) (row : Row) (parts : Bool) (rest : List Element) (mark : Mark) → IsMarkAt es lead at mark →
    rest ≡ drop (at + 1) es → IsOpen es room (at + 1) row → parts ≡ (mark.blank || mark.wide) → IsPassing es room (at + 1) row parts rest
pass_more es room lead at row parts rest mark m is h same =
    let last : at + 1 - 1 ≡ at = omega arith in
    record {
      left_is = is;
      open_row = h;
      parts_are = λ _. same ∙ ap (λ (k : Mark). k.blank || k.wide) m.mark_is ∙ ap (λ (n : ℕ). is_blank (element_at es n) || is_wide (element_at es n)) (sym last);
    }

at_end : (es : List Element) (room at : ℕ) (row : Row) (parts : Bool) (left : List Element) → IsPassing es room at row parts left → left ≡ [] → at ≡ length es
at_end es room at row parts left p none = omega (arith, taken_none es at (sym p.left_is ∙ none), p.open_row.0.end)

pub pass_end : (es : List Element) (room at : ℕ) (row : Row) (parts : Bool) (left : List Element) (starts all : List ℕ) → IsPassing es room at row parts left → left ≡ [] →
    starts ++ starts_left es room row.start at ≡ all → starts ≡ all
pass_end es room at row parts left starts all p none h =
    let e = at_end es room at row parts left p none in
    sym (append-nil starts)
    ∙ ap (λ (rest : List ℕ). starts ++ rest)
    (sym (ap (starts_left es room row.start) e ∙ left_none es room row (subst (λ (n : ℕ). IsOpen es room n row) e p.open_row)))
    ∙ h

pub pass_whole : (es : List Element) (room at : ℕ) (row : Row) (parts : Bool) (left : List Element) → IsPassing es room at row parts left → left ≡ [] →
    row.start ≡ 0 → 0 < length es → length es ≤ next_start_of es room 0
pass_whole es room at row parts left p none first some =
    let e = at_end es room at row parts left p none in
    let h = subst (λ (n : ℕ). IsOpen es room n row) e p.open_row in
    let end = scan_end es room row.start (omega (arith, first, some)) h.0.within in
    let same = ap (next_start_of es room) first in
    omega (arith, end, same)

-- ---- letters

no_letters : (es : List Element) (room at : ℕ) (row : Row) (parts : Bool) (left rest : List Element) → IsPassing es room at row parts left → left ≡ rest →
    IsPassing es room (at + 0) (record { start = row.start; cells = row.cells + 0; well = row.well; since = row.since + 0 }) parts rest
no_letters es room at row parts left rest p is =
    let R : ℕ → ℕ → Row = λ c s. record { start = row.start; cells = c; well = row.well; since = s } in
    let to : at ≡ at + 0 = omega arith in
    let cells : row.cells ≡ row.cells + 0 = omega arith in
    let since : row.since ≡ row.since + 0 = omega arith in
    subst (λ (xs : List Element). IsPassing es room (at + 0) (R (row.cells + 0) (row.since + 0)) parts xs) is
    (subst (λ (k : ℕ). IsPassing es room k (R (row.cells + 0) (row.since + 0)) parts left) to
    (subst (λ (r : Row). IsPassing es room at r parts left) (ap₂ R cells since) p))

may_not : (b : Bool) → (b && not false && (false || false)) ≡ false
may_not true = refl
may_not false = refl

letters_pass : (es : List Element) (room lead at n : ℕ) (row : Row) (left rest : List Element) → IsPassing es room at row false left → lead ≡ lead_of es → lead < length es →
    AreLetters left n rest → row.cells + n ≤ room →
    IsPassing es room (at + n) (record { start = row.start; cells = row.cells + n; well = row.well; since = row.since + n }) false rest
letters_pass es room lead at zero row left rest p is some h fits = no_letters es room at row false left rest p h
letters_pass es room lead at (suc n) row left rest p is some h fits =
    let m = pass_mark es room lead at row false left h.1 letter p is some (h.0, h.2, h.3) in
    let asked = asked_no es room lead at row letter false m.0 p.open_row p.parts_are (inr (may_not (nat_lt lead at))) in
    let more = with_more es room lead at row letter m.0 asked (inl (omega (arith, fits))) in
    let one : Row = record { start = row.start; cells = row.cells + 1; well = row.well; since = row.since + 1 } in
    let next : IsPassing es room (at + 1) one false h.1 = pass_more es room lead at one false h.1 letter m.0 m.1 more refl in
    let R : ℕ → ℕ → Row = λ c s. record { start = row.start; cells = c; well = row.well; since = s } in
    let to : at + 1 + n ≡ at + suc n = omega arith in
    let cells : row.cells + 1 + n ≡ row.cells + suc n = omega arith in
    let since : row.since + 1 + n ≡ row.since + suc n = omega arith in
    subst (λ (k : ℕ). IsPassing es room k (R (row.cells + suc n) (row.since + suc n)) false rest) to
    (subst (λ (r : Row). IsPassing es room (at + 1 + n) r false rest) (ap₂ R cells since)
    (letters_pass es room lead (at + 1) n one h.1 rest next is some h.4 (omega (arith, fits))))

room_for : (n most : ℕ) (none : Bool) → suc n ≤ cond none 0 most → suc n ≤ most
room_for n most true h = absurd (omega (arith, h))
room_for n most false h = h

-- letters that fit stay on the row
pub pass_letters : (es : List Element) (room lead at n : ℕ) (row : Row) (parts : Bool) (left rest : List Element) → IsPassing es room at row parts left → lead ≡ lead_of es → lead < length es →
    AreLetters left n rest → n ≤ letters_room_at room row at parts →
    IsPassing es room (at + n) (record { start = row.start; cells = row.cells + n; well = row.well; since = row.since + n }) parts rest
pass_letters es room lead at zero row parts left rest p is some h le = no_letters es room at row parts left rest p h
pass_letters es room lead at (suc n) row true left rest p is some h le = absurd (omega (arith, le))
pass_letters es room lead at (suc n) row false left rest p is some h le =
    letters_pass es room lead at (suc n) row left rest p is some h (let most = room_for n (room - row.cells) (nat_le at row.start) le in omega (arith, most))

-- the row has begun before them
pub letters_left : (es : List Element) (room at n : ℕ) (row : Row) (parts : Bool) → n ≤ letters_room_at room row at parts →
    starts_left es room row.start at ≡ starts_left es room row.start (at + n)
letters_left es room at zero row parts le = let e : at ≡ at + 0 = omega arith in ap (starts_left es room row.start) e
letters_left es room at (suc n) row true le = absurd (omega (arith, le))
letters_left es room at (suc n) row false le = elim (cases_lt row.start at) [
  | inl lt ↦ left_begun es room row.start at lt ∙ sym (left_begun es room row.start (at + suc n) (omega (arith, lt)))
  | inr here ↦
      absurd (let e : nat_le at row.start ≡ true = grind (arith, nat_tests) in
      let none : suc n ≤ 0 = subst (λ (b : Bool). suc n ≤ cond b 0 (room - row.cells)) e le in
      omega (arith, none))
]

pub passing_fits : (es : List Element) (room at : ℕ) (row : Row) (parts : Bool) (left : List Element) → IsPassing es room at row parts left → LineFitsU32 es →
    (row.cells < 2 ^ 32) × (row.since < 2 ^ 32) × (at < 2 ^ 32)
passing_fits es room at row parts left p fits = (
  omega (arith, p.open_row.0.cells_are, range_le es row.start at, fits.1),
  omega (arith, p.open_row.1.since_are, range_le es (unwrap_or row.well row.start) at, fits.1),
  omega (arith, p.open_row.0.end, fits.0),
)
