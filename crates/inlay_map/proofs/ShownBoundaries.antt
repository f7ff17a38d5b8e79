-- Boundaries of what is shown, and those of the text and of what inlays show.
use Rattle.std.proofs.Common.{◌≡◌, ℕ, zero, suc, ◌+◌, ◌-◌, ◌≤◌, List, [], ◌∷◌, ◌++◌, length, take, drop, sym, ap, ◌∙◌, subst, arith, append_assoc, length-append}
use Rattle.std.specs.Str.{IsCharBoundary, IsUtf8}
use Rattle.std.proofs.lemmas.List.{drop-take, length-drop, length-take, take-take, take_all}
use Rattle.std.proofs.lemmas.Str.{IsCharBoundary-from_take, IsUtf8-append, IsUtf8-drop, IsUtf8-nil, IsUtf8-take}
use Rattle.std.proofs.Math.Seq.{take-add, take-append-add, take-append_seam}
use Rattle.cell_units.specs.declared.limits.TheConstants.{LAID_LIMIT}
use Rattle.cell_units.specs.Lawful.{AreInlays, IsInlayOf}
use Rattle.cell_units.specs.Layers.{Source, inlay_source, shown_text}
use Rattle.cell_units.specs.Record.{Inlay}
use Rattle.cell_units.specs.Text.{IsBoundary, IsText, clean}
use Rattle.cell_units.proofs.Characters.{clean-utf8}
use Rattle.cell_units.proofs.CutLists.{Every}
use Rattle.cell_units.proofs.FoundEntries.{Every-from_All}
use Rattle.cell_units.proofs.ShownText.{tokens_bytes}
use Rattle.text_rope.proofs.Parts.{IsPartAt, boundary_in}
use Rattle.inlay_map.specs.declared.spot.Spot.{Spot}
use Rattle.inlay_map.specs.Splices.{base_at}
use Rattle.inlay_map.specs.Spots.{end_at, sum_before}
use Rattle.inlay_map.proofs.Cuts.{text-is}
use Rattle.inlay_map.proofs.Parts.{parts_from}
use Rattle.inlay_map.proofs.RowsShown.{InSpot, in-spot}
use Rattle.inlay_map.proofs.RowsShown as rows
use Rattle.inlay_map.proofs.ShownFeeds.{bytes-next, bytes-text, bytes_from}
use Rattle.inlay_map.proofs.SoughtSpots.{AreNumbers, IsThere, same-text}
use Rattle.inlay_map.proofs.Spread.{IsSpread, spread}

module _ (text : List ℕ) (utf8 : IsUtf8 text) where
  at-end : IsBoundary text (length text)
  at-end = (omega arith, subst IsUtf8 (sym (take_all (length text) text (omega arith))) utf8)

  -- what lies between two boundaries
  between : (a b : ℕ) → a ≤ b → IsBoundary text a → IsBoundary text b → IsUtf8 (take (b - a) (drop a text))
  between a b order start end =
      let front : List ℕ = take b text in
      let long : length front ≡ b = omega (arith, length-take b text, end.0) in
      let all : b ≡ a + (b - a) = omega (arith, order) in
      let parts : drop a front ≡ take (b - a) (drop a text) = ap (λ k. drop a (take k text)) all ∙ drop-take a (b - a) text in
      subst IsUtf8 parts
      (IsUtf8-drop front a end.1 (IsCharBoundary-from_take front a end.1 (omega (arith, long, order)) (subst IsUtf8 (sym (take-take a b text order)) start.1)))

  -- an offset that lies in such a part, as a boundary of that
  pub within-part : (a b r : ℕ) → a ≤ b → r ≤ b - a → IsBoundary text a → IsBoundary text b → IsCharBoundary (take (b - a) (drop a text)) r → IsBoundary text (a + r)
  within-part a b r order le start end at =
      let part = take (b - a) (drop a text) in
      let same : take r part ≡ take r (drop a text) = take-take r (b - a) (drop a text) le in (
        omega (arith, le, order, end.0),
        subst IsUtf8 (sym (take-add a r text)) (IsUtf8-append (take a text) (take r (drop a text)) start.1 (subst IsUtf8 same (IsUtf8-take part r (between a b order start end) at))),
      )

  base-boundary : (base : ℕ) (is : List Inlay) (n : ℕ) → IsBoundary text base → Every (IsInlayOf text) is → IsBoundary text (base_at base is n)
  base-boundary base is zero b fits = b
  base-boundary base [] (suc n) b fits = b
  base-boundary base (i ∷ is) (suc n) b fits = base-boundary i.offset is n fits.0.boundary fits.1

  end-boundary : (is : List Inlay) (n : ℕ) → Every (IsInlayOf text) is → IsBoundary text (end_at text is n)
  end-boundary [] n fits = at-end
  end-boundary (i ∷ is) zero fits = fits.0.boundary
  end-boundary (i ∷ is) (suc n) fits = end-boundary is n fits.1

  -- the bytes that are shown
  bytes-utf8 : (base : ℕ) (is : List Inlay) → IsBoundary text base → IsSpread text base is → Every (IsInlayOf text) is → IsUtf8 (bytes_from text base is)
  bytes-utf8 base [] b s fits =
      subst IsUtf8 (sym (bytes-text base (drop base text))) (IsUtf8-drop text base utf8 (IsCharBoundary-from_take text base utf8 b.0 b.1))
  bytes-utf8 base (i ∷ is) b s fits =
      subst IsUtf8 (sym (bytes-next text base i is))
      (IsUtf8-append (take (i.offset - base) (drop base text)) (clean i.text ++ bytes_from text i.offset is) (between base i.offset s.0 b fits.0.boundary)
      (IsUtf8-append (clean i.text) (bytes_from text i.offset is) (clean-utf8 i.text fits.0.utf8) (bytes-utf8 i.offset is fits.0.boundary s.3 fits.1)))

  -- and those before the inlay of an index
  front-utf8 : (base : ℕ) (is : List Inlay) (n : ℕ) → IsBoundary text base → IsSpread text base is → Every (IsInlayOf text) is → IsUtf8 (take (sum_before text base is n).upper.bytes (bytes_from text base is))
  front-utf8 base is zero b s fits = IsUtf8-nil
  front-utf8 base [] (suc n) b s fits = IsUtf8-nil
  front-utf8 base (i ∷ is) (suc n) b s fits =
      let gap : List ℕ = take (i.offset - base) (drop base text) in
      let rest : List ℕ = bytes_from text i.offset is in
      let k : ℕ = (sum_before text i.offset is n).upper.bytes in
      let size : (sum_before text base (i ∷ is) (suc n)).upper.bytes ≡ length gap + (length (clean i.text) + k) =
      omega (arith, length-take (i.offset - base) (drop base text), length-drop base text, s.0, s.1) in
      let front : take (sum_before text base (i ∷ is) (suc n)).upper.bytes (bytes_from text base (i ∷ is)) ≡ gap ++ (clean i.text ++ take k rest) =
      (λ j. take (size j) (bytes-next text base i is j))
      ∙ take-append-add gap (clean i.text ++ rest) (length (clean i.text) + k)
      ∙ ap (λ l. gap ++ l) (take-append-add (clean i.text) rest k) in
      subst IsUtf8 (sym front)
      (IsUtf8-append gap (clean i.text ++ take k rest) (between base i.offset s.0 b fits.0.boundary)
      (IsUtf8-append (clean i.text) (take k rest) (clean-utf8 i.text fits.0.utf8) (front-utf8 i.offset is n fits.0.boundary s.3 fits.1)))

module _ (v : Source) (none : v.folds ≡ []) (are : AreInlays v.text v.inlays) (short : length v.text ≤ LAID_LIMIT) (is-text : IsText v.text) where
  abbrev sp : IsSpread v.text 0 v.inlays
  sp = spread v.text v.inlays are

  fits : Every (IsInlayOf v.text) v.inlays
  fits = Every-from_All (IsInlayOf v.text) v.inlays are.each

  first : IsBoundary v.text 0
  first = (omega arith, IsUtf8-nil)

  abbrev text' : shown_text (inlay_source v.text v.inlays) ≡ shown_text v
  text' = same-text v none are short

  shown-is : shown_text v ≡ bytes_from v.text 0 v.inlays
  shown-is = sym text' ∙ text-is v.text v.inlays sp

  -- what is shown is UTF-8
  pub shown-utf8 : IsUtf8 (shown_text v)
  shown-utf8 = subst IsUtf8 (sym shown-is) (bytes-utf8 v.text is-text.0 0 v.inlays first sp fits)

  module _ (spot : Spot) (n : AreNumbers v spot) where
    abbrev index : ℕ
    index = spot.index

    abbrev in' : InSpot v.text v.inlays index
    in' = in-spot v.text v.inlays index sp

    abbrev base : ℕ
    base = base_at 0 v.inlays index

    abbrev end : ℕ
    end = end_at v.text v.inlays index

    abbrev here : List ℕ
    here = take (end - base) (drop base v.text)

    base-is : IsBoundary v.text base
    base-is = base-boundary v.text is-text.0 0 v.inlays index first fits

    end-is : IsBoundary v.text end
    end-is = end-boundary v.text is-text.0 v.inlays index fits

    length-here : length here ≡ end - base
    length-here = omega (arith, length-take (end - base) (drop base v.text), length-drop base v.text, in'.order, in'.within)

    whole : shown_text v ≡ in'.front ++ (here ++ in'.tail)
    whole = sym text' ∙ in'.whole

    -- where the text there ends
    pub cut-end : IsBoundary (shown_text v) (spot.before.upper.bytes + spot.gap.bytes)
    cut-end =
        let place : spot.before.upper.bytes + spot.gap.bytes ≡ length in'.front + length here = omega (arith, n.upper, n.base, n.end, in'.order, in'.long, length-here) in
        let front : take (spot.before.upper.bytes + spot.gap.bytes) (shown_text v) ≡ in'.front ++ here =
        (λ k. take (place k) (whole k)) ∙ take-append-add in'.front (here ++ in'.tail) (length here) ∙ ap (λ l. in'.front ++ l) (take-append_seam here in'.tail) in
        let fore : in'.front ≡ take (sum_before v.text 0 v.inlays index).upper.bytes (bytes_from v.text 0 v.inlays) =
        sym (take-append_seam in'.front (here ++ in'.tail)) ∙ (λ k. take (in'.long k) ((sym whole ∙ shown-is) k)) in (
          n.shown,
          subst IsUtf8 (sym front) (IsUtf8-append in'.front here
              (subst IsUtf8 (sym fore) (front-utf8 v.text is-text.0 0 v.inlays index first sp fits)) (between v.text is-text.0 base end in'.order base-is end-is)),
        )

    -- where the inlay ends
    pub cut-inlay : (t : IsThere v spot) → IsBoundary (shown_text v) (spot.before.upper.bytes + spot.gap.bytes + length (clean t.inlay.text))
    cut-inlay t =
        let next = rows.bytes-next v.text 0 v.inlays index t.inlay t.got in
        let place : (sum_before v.text 0 v.inlays (suc index)).upper.bytes ≡ spot.before.upper.bytes + spot.gap.bytes + length (clean t.inlay.text) = omega (arith, next, n.upper, n.base, n.end, in'.order) in
        let long = ap (λ (l : List ℕ). length l) (whole ∙ ap (λ l. in'.front ++ (here ++ l)) (in'.own t.inlay t.got)) in
        let more = tokens_bytes (parts_from v.text t.inlay.offset (drop (suc index) v.inlays)) in (
          omega (arith, long, n.upper, n.base, n.end, in'.order, in'.long, length-here, length-append in'.front (here ++ (clean t.inlay.text ++ more)), length-append here (clean t.inlay.text ++ more), length-append (clean t.inlay.text) more),
          subst IsUtf8 (λ k. take (place k) (sym shown-is k)) (front-utf8 v.text is-text.0 0 v.inlays (suc index) first sp fits),
        )

    -- a boundary of what is shown in the text there
    pub text-boundary : (r : ℕ) → r ≤ spot.gap.bytes → IsBoundary (shown_text v) (spot.before.upper.bytes + r) → IsBoundary v.text (spot.before.lower.bytes + r)
    text-boundary r le b =
        let part : IsPartAt (shown_text v) spot.before.upper.bytes here = record { front = in'.front; rest = in'.tail; all = sym whole; long = omega (arith, n.upper, in'.long) } in
        let back : spot.before.upper.bytes + r - spot.before.upper.bytes ≡ r = omega arith in
        let cut : IsCharBoundary here r = subst (IsCharBoundary here) back (boundary_in (shown_text v) here spot.before.upper.bytes (spot.before.upper.bytes + r) shown-utf8 part (omega arith) (omega (arith, le, n.base, n.end, length-here)) b) in
        let there : base + r ≡ spot.before.lower.bytes + r = ap (λ k. k + r) (sym n.base) in
        subst (IsBoundary v.text) there (within-part v.text is-text.0 base end r in'.order (omega (arith, le, n.base, n.end)) base-is end-is cut)

    -- and one in what the inlay shows
    pub inlay-boundary : (t : IsThere v spot) (r : ℕ) → r ≤ length (clean t.inlay.text) → IsBoundary (shown_text v) (spot.before.upper.bytes + spot.gap.bytes + r) → IsCharBoundary (clean t.inlay.text) r
    inlay-boundary t r le b =
        let shown = clean t.inlay.text in
        let more = tokens_bytes (parts_from v.text t.inlay.offset (drop (suc index) v.inlays)) in
        let from = spot.before.upper.bytes + spot.gap.bytes in
        let part : IsPartAt (shown_text v) from shown =
        record {
          front = in'.front ++ here;
          rest = more;
          all = sym (whole ∙ ap (λ l. in'.front ++ (here ++ l)) (in'.own t.inlay t.got) ∙ sym (append_assoc in'.front here (shown ++ more)));
          long = omega (arith, n.upper, n.base, n.end, in'.order, in'.long, length-here, length-append in'.front here);
        } in
        let back : from + r - from ≡ r = omega arith in
        subst (IsCharBoundary shown) back (boundary_in (shown_text v) shown from (from + r) shown-utf8 part (omega arith) (omega (arith, le)) b)
