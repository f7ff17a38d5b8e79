-- What a change of a text makes of the lines above it.
use Rattle.std.proofs.Common.{◌≡◌, ◌≤◌, ◌+◌, ◌-◌, ℕ, List, Option, Some, length, refl, sym, ap, subst, ◌∙◌, arith}
use Rattle.cell_units.specs.declared.limits.TheConstants.{LAID_LIMIT}
use Rattle.cell_units.specs.declared.place.Shift.{Shift}
use Rattle.cell_units.specs.Lawful.{IsAllowed, IsLawful, source_of}
use Rattle.cell_units.specs.Layers.{Source}
use Rattle.cell_units.specs.Operation.{AddBlock, AddFold, AddInlay, Operation, RemoveBlock, RemoveFold, RemoveInlay, Replace, SetTab, SetWidth, operated}
use Rattle.cell_units.specs.Record.{Record}
use Rattle.cell_units.specs.Touched.{touched}
use Rattle.edit_patch.specs.declared.edit.Edit.{Edit}
use Rattle.plain_rows.specs.Plain.{marks_of}
use Rattle.plain_rows.specs.Rows.{line_elements}
use Rattle.tab_map.specs.TabLines.{AreMet, IsShift, LinesFollow, first_met, lines_at, new_reach, old_reach}
use Rattle.display_sheet.specs.LineSplices.{IsLineSplice}
use Rattle.display_sheet.specs.Shown.{unstamped}
use Rattle.display_sheet.proofs.LineSplices.{SomeSplice, some_splice}
use Rattle.display_sheet.proofs.Sheets.{allowed-other, lawful-stamped, operated-other, widths}
use Rattle.layered_text.proofs.Records.{source-operated}
use Rattle.wrapped_lines.specs.Changed.{IsRewrapped}
use Rattle.wrapped_lines.specs.WrappedSource.{HaveRoom, WrappedSource}
use Rattle.blocked_rows.specs.Laws.{LeavesBlocks}
use Rattle.map_sheet.specs.Changes.{ChangesText, IsRelaid, IsTouchedRun, IsTurned}
use Rattle.map_sheet.specs.Kept.{lines_in}
use Rattle.map_sheet.proofs.Operating.{after_of, lawful-after, meets-run, met-splice}
use Rattle.map_sheet.proofs.Rooms.{lines-room}

-- such an operation leaves blocks, tab size and width
leaves : (operation : Operation) → ChangesText operation → LeavesBlocks operation
leaves (Replace a b s) is = tt
leaves (AddInlay inlay) is = tt
leaves (RemoveInlay id) is = tt
leaves (AddFold fold) is = tt
leaves (RemoveFold id) is = tt
leaves (AddBlock row id side lines) is = absurd is
leaves (RemoveBlock id) is = absurd is
leaves (SetTab tab) is = absurd is
leaves (SetWidth width) is = absurd is

pub tab-stays : (operation : Operation) → ChangesText operation → (r : Record) → (operated operation r).tab ≡ r.tab
tab-stays (Replace a b s) is r = refl
tab-stays (AddInlay inlay) is r = refl
tab-stays (RemoveInlay id) is r = refl
tab-stays (AddFold fold) is r = refl
tab-stays (RemoveFold id) is r = refl
tab-stays (AddBlock row id side lines) is r = refl
tab-stays (RemoveBlock id) is r = refl
tab-stays (SetTab tab) is r = absurd is
tab-stays (SetWidth width) is r = refl

width-stays : (operation : Operation) → ChangesText operation → (r : Record) → (operated operation r).width ≡ r.width
width-stays (Replace a b s) is r = refl
width-stays (AddInlay inlay) is r = refl
width-stays (RemoveInlay id) is r = refl
width-stays (AddFold fold) is r = refl
width-stays (RemoveFold id) is r = refl
width-stays (AddBlock row id side lines) is r = refl
width-stays (RemoveBlock id) is r = refl
width-stays (SetTab tab) is r = refl
width-stays (SetWidth width) is r = absurd is

-- the lines after any operation that is allowed have room
pub room-after : (operation : Operation) (r : Record) → IsLawful r → IsAllowed operation r → length (operated operation r).text ≤ LAID_LIMIT →
    HaveRoom (line_elements (operated operation r))
room-after operation r is ok short =
    let s : SomeSplice operation r = some_splice r is.entries is.marked operation ok in
    lines-room (after_of operation r s.0 s.1 s.2) (lawful-after operation r s.0 s.1 s.2 is ok s.3) short

module _ (operation : Operation) (r : Record) (is : IsLawful r) (source : Source) (shown : Shift) (shift : Option Shift)
    (turned : IsTurned operation r source shown shift) where
  pub source-is : source ≡ source_of (operated operation r)
  source-is = turned.changed.made ∙ sym (source-operated operation r)

  pub follow : LinesFollow (source_of r) source (Some shown)
  follow = turned.changed.follow

  pub turned-room : HaveRoom (lines_at source r.tab)
  turned-room =
      let at : line_elements (operated operation r) ≡ lines_at source r.tab = λ i. lines_at (sym source-is i) (tab-stays operation turned.changes r i) in
      subst HaveRoom at (room-after operation r is turned.allowed turned.short)

  module _ (lines : WrappedSource) (run : Shift) (rows : List Edit) (met : AreMet (source_of r) source (Some shown) (Some run))
      (laid : IsRewrapped (lines_in r) source r.tab lines run rows) where
    met-is : IsShift (first_met (source_of r) shown) (old_reach (source_of r) shown) (new_reach (source_of (operated operation r)) shown) run
    met-is = subst (λ (x : Source). IsShift (first_met (source_of r) shown) (old_reach (source_of r) shown) (new_reach x shown) run) source-is met

    splices : (P : Record) → unstamped P ≡ r → IsLineSplice operation P run.start run.end run.count
    splices P e =
        let entries = lawful-stamped P (subst IsLawful (sym e) is) in
        let ok : IsAllowed operation P = allowed-other P (marks_of (widths P.marks)) (length P.marks) operation (subst (IsAllowed operation) (sym e) turned.allowed) in
        let from : source_of P ≡ source_of r = ap source_of e in
        let to : source_of (operated operation P) ≡ source_of (operated operation r) =
        sym (ap source_of (operated-other P (marks_of (widths P.marks)) (length P.marks) operation)) ∙ ap (λ (q : Record). source_of (operated operation q)) e in
        let base = met-splice operation P shown entries.0 ok entries.1 (tab-stays operation turned.changes P)
        (meets-run (touched operation P) P (operated operation P) shown (turned.changed.meets P from)) in
        let start : first_met (source_of P) shown ≡ run.start = ap (λ (x : Source). first_met x shown) from ∙ sym met-is.start_is in
        let end : old_reach (source_of P) shown ≡ run.end = ap (λ (x : Source). old_reach x shown) from ∙ sym met-is.end_is in
        let reach : new_reach (source_of (operated operation P)) shown ≡ run.start + run.count = ap (λ (x : Source). new_reach x shown) to ∙ sym met-is.reach_is in
        let count : new_reach (source_of (operated operation P)) shown - first_met (source_of P) shown ≡ run.count = omega (arith, start, reach) in
        subst (λ (n : ℕ). IsLineSplice operation P run.start run.end n) count
        (subst (λ (n : ℕ). IsLineSplice operation P run.start n (new_reach (source_of (operated operation P)) shown - first_met (source_of P) shown)) end
        (subst (λ (n : ℕ). IsLineSplice operation P n (old_reach (source_of P) shown) (new_reach (source_of (operated operation P)) shown - first_met (source_of P) shown)) start base))

    touches : IsTouchedRun operation r run
    touches =
        let m = meets-run (touched operation r) r (operated operation r) shown (turned.changed.meets r refl) in
        record {
          touches = m.run;
          start_is = met-is.start_is ∙ m.first;
          end_is = met-is.end_is ∙ m.last;
          count_is = omega (arith, met-is.start_is, m.first, met-is.reach_is, m.last_after);
        }

    pub turned-relaid : IsRelaid operation r source lines run rows shift
    turned-relaid = record {
      allowed = turned.allowed;
      short = turned.short;
      leaves = leaves operation turned.changes;
      shift_is = turned.shift_is;
      source_is = source-is;
      width_is = width-stays operation turned.changes r;
      lines_are = subst (λ (tab : ℕ). IsRewrapped (lines_in r) source tab lines run rows) (sym (tab-stays operation turned.changes r)) laid;
      touches = touches;
      splices = splices;
    }
