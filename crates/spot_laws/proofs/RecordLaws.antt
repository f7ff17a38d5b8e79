-- The laws of lawful records, as they are promised.
use Rattle.std.proofs.Common.{◌≡◌, ℕ, ◌≤◌, true, length, sym, subst}
use Rattle.cell_units.specs.declared.place.Bias.{Bias}
use Rattle.cell_units.specs.declared.place.Bias.TheVariants.{Left, Right}
use Rattle.cell_units.specs.declared.place.Spot.{Spot}
use Rattle.cell_units.specs.Text.{IsBoundary}
use Rattle.cell_units.specs.Record.{Record}
use Rattle.cell_units.proofs.TextLaws.{tells_boundaries}
use Rattle.cell_units.specs.Lawful.{IsLawful}
use Rattle.spot_laws.specs.Laws.{IsGreatestAt, IsLeastAt, IsOpenAt, IsUpTo}
use Rattle.plain_rows.specs.Spots.{back, clip, is_open, offsets_at, show, spot_le}
use Rattle.plain_rows.proofs.Clips.{clip-valid}
use Rattle.plain_rows.proofs.ShowRises.{show-open_rises, show-rises, show-sides}
use Rattle.plain_rows.proofs.SpotOffsets.{IsShownAt, contained-shown, shown-contained}
use Rattle.spot_laws.proofs.BackRises.{back-own, back-picked, back-rises, left-picked, picked, right-picked}
use Rattle.spot_laws.proofs.HasBack.{has-back}

pub rises : (r : Record) (o p : ℕ) (bias : Bias) → IsLawful r → o ≤ p → p ≤ length r.text → spot_le (show r o bias) (show r p bias) ≡ true
rises r o p bias lawful le within = show-rises r lawful.marked o p bias le within

pub sides : (r : Record) (o : ℕ) → IsLawful r → o ≤ length r.text → spot_le (show r o Left) (show r o Right) ≡ true
sides r o lawful within = show-sides r lawful.marked o within

pub open-rises : (r : Record) (o : ℕ) (b : Bias) (p : ℕ) (c : Bias) → IsLawful r → is_open r o b ≡ true → is_open r p c ≡ true → IsUpTo o b p c → p ≤ length r.text → spot_le (show r o b) (show r p c) ≡ true
open-rises r o Left p Left lawful x y h within = show-open_rises r lawful.marked o Left p Left x y h within
open-rises r o Left p Right lawful x y h within = show-open_rises r lawful.marked o Left p Right x y h within
open-rises r o Right p Left lawful x y h within = show-open_rises r lawful.marked o Right p Left x y h within
open-rises r o Right p Right lawful x y h within = show-open_rises r lawful.marked o Right p Right x y h within

open-shown : (r : Record) (s : Spot) (o : ℕ) → IsLawful r → IsOpenAt r s o → IsShownAt r s o
open-shown r s o lawful h = record { bias = h.0; boundary = (tells_boundaries r.text lawful.entries.source.text.0 o).1 h.1; opened = h.2; is = h.3 }

shown-open_at : (r : Record) (s : Spot) (o : ℕ) → IsLawful r → IsShownAt r s o → IsOpenAt r s o
shown-open_at r s o lawful h = (h.bias, (tells_boundaries r.text lawful.entries.source.text.0 o).0 h.boundary, h.opened, h.is)

pub least-at : (r : Record) (d : Spot) → IsLawful r → IsLeastAt r (clip r d Left) (back r d Left)
least-at r d lawful =
    let s = clip r d Left in
    let some = has-back r lawful s (clip-valid r d Left) in
    subst (IsLeastAt r s) (sym (back-picked r d Left)) (
      shown-open_at r s (picked (offsets_at r s) Left) lawful (contained-shown r s (picked (offsets_at r s) Left) (left-picked (offsets_at r s) some.0 some.1).0),
      λ p h. (left-picked (offsets_at r s) p (shown-contained r s p (open-shown r s p lawful h))).1,
    )

pub greatest-at : (r : Record) (d : Spot) → IsLawful r → IsGreatestAt r (clip r d Right) (back r d Right)
greatest-at r d lawful =
    let s = clip r d Right in
    let some = has-back r lawful s (clip-valid r d Right) in
    subst (IsGreatestAt r s) (sym (back-picked r d Right)) (
      shown-open_at r s (picked (offsets_at r s) Right) lawful (contained-shown r s (picked (offsets_at r s) Right) (right-picked (offsets_at r s) some.0 some.1).0),
      λ p h. (right-picked (offsets_at r s) p (shown-contained r s p (open-shown r s p lawful h))).1,
    )

pub backs-rise : (r : Record) (d e : Spot) (bias : Bias) → IsLawful r → spot_le d e ≡ true → back r d bias ≤ back r e bias
backs-rise r d e bias lawful h = back-rises r lawful.marked (has-back r lawful) d e bias h

pub back-of_shown : (r : Record) (o : ℕ) (b : Bias) → IsLawful r → IsBoundary r.text o → is_open r o b ≡ true → (back r (show r o b) Left ≤ o) × (o ≤ back r (show r o b) Right)
back-of_shown r o b lawful boundary opened = back-own r o b ((tells_boundaries r.text lawful.entries.source.text.0 o).1 boundary) opened
