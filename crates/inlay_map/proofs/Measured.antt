-- How much text is before inlays, as their splices are measured one after the other.
use Rattle.std.proofs.Common.{◌≡◌, ℕ, zero, suc, ◌+◌, ◌-◌, ◌<◌, ◌≤◌, min, List, [], ◌∷◌, length, take, Some, refl, sym, ap, ◌∙◌, arith, add-one}
use Rattle.std.specs.List.{slice_get}
use Rattle.std.proofs.lemmas.List.{length-take}
use Rattle.std.proofs.lemmas.List.Sums.{count_by-le-length}
use Rattle.std.proofs.lemmas.Option.{slice_get_within}
use Rattle.cell_units.specs.declared.limits.TheConstants.{LAID_LIMIT}
use Rattle.cell_units.specs.Layers.{Source}
use Rattle.cell_units.specs.Record.{Inlay}
use Rattle.cell_units.specs.Text.{is_feed, row_of}
use Rattle.cell_units.proofs.ReplacedRows.{row_of-le}
use Rattle.sum_core.specs.Sums.{total}
use Rattle.sum_core.specs.declared.load.NoLoad.{NoLoad}
use Rattle.splice_tree.specs.Sides.{none, both}
use Rattle.splice_tree.specs.Splices.{Piece, piece_sum}
use Rattle.splice_tree.specs.declared.sides.Sides.{Sides}
use Rattle.inlay_map.specs.declared.amount.Amount.{Amount}
use Rattle.inlay_map.specs.Amounts.{AmountFits, amount_between, nothing, together}
use Rattle.inlay_map.specs.Splices.{base_at, before_at, splices_from}
use Rattle.inlay_map.specs.Spots.{end_at, sum_before}
use Rattle.inlay_map.proofs.Cuts.{cut-at}
use Rattle.inlay_map.proofs.RowsShown.{ends-in}
use Rattle.inlay_map.proofs.SpliceLists.{length-splices}
use Rattle.inlay_map.proofs.SpotsFound.{gap-some}
use Rattle.inlay_map.proofs.Spread.{IsSpread}

-- an amount from the text's start gives its own end
pub own-end : (text : List ℕ) (base : ℕ) (before : Amount) → before ≡ amount_between text 0 base → (before.bytes ≡ base) × (before ≡ amount_between text 0 before.bytes)
own-end text base before is =
    let bytes : before.bytes ≡ base = omega (arith, ap (λ (a : Amount). a.bytes) is) in
    (bytes, is ∙ ap (amount_between text 0) (sym bytes))

-- the text from there up to an offset, by the row of that
pub behind-is : (text : List ℕ) (before : Amount) (end row : ℕ) → before ≡ amount_between text 0 before.bytes → before.bytes ≤ end → row ≡ row_of text end
    → (before.feeds ≤ row) × (record { bytes = end - before.bytes; feeds = row - before.feeds } ≡ amount_between text before.bytes end)
behind-is text before end row is le at =
    let first : row_of text 0 ≡ 0 = refl in
    let own : before.feeds ≡ row_of text before.bytes = omega (arith, ap (λ (a : Amount). a.feeds) is, first) in
    let feeds : row - before.feeds ≡ row_of text end - row_of text before.bytes = omega (arith, own, at) in (
      omega (arith, own, at, row_of-le text before.bytes end le),
      λ i. record { bytes = end - before.bytes; feeds = feeds i },
    )

-- the text up to an inlay is what the next one has before its gap
end-next : (text : List ℕ) (base : ℕ) (is : List Inlay) (n : ℕ) → n < length is → end_at text is n ≡ base_at base is (suc n)
end-next text base [] n lt = absurd (omega arith)
end-next text base (i ∷ is) zero lt = refl
end-next text base (i ∷ is) (suc n) lt = end-next text i.offset is n (omega arith)

pub next-before : (s : Source) (at : ℕ) (before : Amount) (p : Piece Amount NoLoad) → IsSpread s.text 0 s.inlays → length s.text ≤ LAID_LIMIT → before ≡ before_at s at → slice_get (splices_from s.text 0 s.inlays) at ≡ Some p
    → AmountFits (together before p.gap) × (together before p.gap ≡ before_at s (at + 1))
next-before s at before p spread short is got =
    let base = base_at 0 s.inlays at in
    let end = end_at s.text s.inlays at in
    let within : at < length s.inlays = omega (arith, slice_get_within (splices_from s.text 0 s.inlays) at p got, length-splices s.text 0 s.inlays) in
    let ends = ends-in s.text 0 s.inlays at spread (omega arith) in
    let gap = gap-some s.text 0 s.inlays at p got in
    let next : end ≡ base_at 0 s.inlays (at + 1) = end-next s.text 0 s.inlays at within ∙ ap (base_at 0 s.inlays) (sym (add-one at)) in
    let first : row_of s.text 0 ≡ 0 = refl in
    let bytes : before.bytes + p.gap.bytes ≡ base_at 0 s.inlays (at + 1) - 0 = omega (arith, ap (λ (a : Amount). a.bytes) is, ap (λ (a : Amount). a.bytes) gap, ends.0, next) in
    let feeds : before.feeds + p.gap.feeds ≡ row_of s.text (base_at 0 s.inlays (at + 1)) - row_of s.text 0 =
    omega (arith, ap (λ (a : Amount). a.feeds) is, ap (λ (a : Amount). a.feeds) gap, row_of-le s.text base end ends.0, ap (row_of s.text) next, first) in
    let low : row_of s.text (base_at 0 s.inlays (at + 1)) ≤ LAID_LIMIT =
    omega (arith, count_by-le-length is_feed (take (base_at 0 s.inlays (at + 1)) s.text), length-take (base_at 0 s.inlays (at + 1)) s.text, short) in (
      (omega (arith, bytes, next, ends.1, short), omega (arith, feeds, low)),
      λ i. record { bytes = bytes i; feeds = feeds i },
    )

-- what is before a splice of a list that begins as the splices of the inlays do
pub before-old : (s : Source) (old : List (Piece Amount NoLoad)) (start index : ℕ) (before : Sides Amount) → IsSpread s.text 0 s.inlays → start ≤ length old → index ≡ min start (length old)
    → before ≡ total (none nothing) (both together) (piece_sum together) (take index old) → take start old ≡ take start (splices_from s.text 0 s.inlays) → before.lower ≡ before_at s start
before-old s old start index before spread le at is front =
    let here : index ≡ start = omega (arith, le, at) in
    let sum : before ≡ sum_before s.text 0 s.inlays start =
    is ∙ ap (λ (l : List (Piece Amount NoLoad)). total (none nothing) (both together) (piece_sum together) l) (ap (λ k. take k old) here ∙ front) in
    let cut = cut-at s.text 0 s.inlays start spread (omega arith) in
    let first : row_of s.text 0 ≡ 0 = refl in
    let bytes : before.lower.bytes ≡ base_at 0 s.inlays start - 0 = omega (arith, ap (λ (b : Sides Amount). b.lower.bytes) sum, cut.offset) in
    let feeds : before.lower.feeds ≡ row_of s.text (base_at 0 s.inlays start) - row_of s.text 0 = omega (arith, ap (λ (b : Sides Amount). b.lower.feeds) sum, cut.row, first) in
    λ i. record { bytes = bytes i; feeds = feeds i }
