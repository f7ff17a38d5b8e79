use Rattle.std.proofs.Common.{◌≡◌, ℕ, List, [], length, map, replicate, refl, sym, ap, subst, ◌∙◌}
use Rattle.std.specs.Arc.{arc_value}
use Rattle.std.proofs.lemmas.List.{length-map}
use Rattle.cell_units.specs.Folded.{display_lines}
use Rattle.cell_units.specs.Pieces.{pieces_of}
use Rattle.cell_units.specs.Lawful.{source_of}
use Rattle.plain_rows.specs.FoldedLines.{AreLinesOf, LaidOut}
use Rattle.plain_rows.specs.Plain.{fold_of, inlay_of}
use Rattle.display_sheet.specs.declared.sheet.Sheet.TheInside.{Inside}
use Rattle.display_sheet.specs.Sheets.{record_in}
use Rattle.display_sheet.specs.Wraps.{fresh}
use Rattle.display_sheet.proofs.OpenedSheets.{keeps-opened, opened_is}
use Rattle.display_sheet.proofs.sheet.Sheet.opened.Goals as goal

module _ (c : goal.In_ok-new-2) where
  abbrev s : Inside
  s = record {
    text = c.args.text;
    inlays = c.in_ok-shared.field-0;
    folds = c.in_ok-shared-2.field-0;
    blocks = c.in_ok-shared-3.field-0;
    tab = 4;
    width = 80;
    lines = c.in_ok-new.field-0;
    wraps = c.in_ok-new-2.field-0;
  }

  abbrev text : List ℕ
  text = arc_value c.args.text

  inlays : (arc_value s.inlays).items ≡ []
  inlays = ap (λ v. v.items) c.in_ok-shared.ensures ∙ c.new.ensures.items

  folds : (arc_value s.folds).items ≡ []
  folds = ap (λ v. v.items) c.in_ok-shared-2.ensures ∙ c.new-2.ensures.items

  blocks : (arc_value s.blocks).items ≡ []
  blocks = ap (λ v. v.items) c.in_ok-shared-3.ensures ∙ c.new-3.ensures.items

  laid : AreLinesOf (source_of (record_in s)) c.in_ok-lines.lines
  laid = c.in_ok-lines.ensures

  count : c.lines.result ≡ length (display_lines text [] [])
  count =
      c.lines.ensures (source_of (record_in s)) laid
      ∙ length-map (display_lines text (record_in s).inlays (record_in s).folds) pieces_of
      ∙ (λ i. length (display_lines text (map inlay_of (inlays i)) (map fold_of (folds i))))

  wraps : arc_value s.wraps ≡ replicate c.lines.result fresh
  wraps = c.in_ok-new-2.ensures.ok ∙ c.in_ok-wraps.ensures

  kept : AreLinesOf (source_of (record_in s)) (arc_value s.lines)
  kept = subst (λ (l : LaidOut). AreLinesOf (source_of (record_in s)) l) (sym c.in_ok-new.ensures.ok) laid

pub invariant_of-result : goal.invariant_of-result
invariant_of-result c =
    keeps-opened (s c) (text c) c.requires c.lines.result refl (inlays c) (folds c) (blocks c) refl refl (wraps c) (count c) (kept c)

pub returns : goal.returns
returns c = opened_is (s c) (text c) c.requires c.lines.result refl (inlays c) (folds c) (blocks c) refl refl (wraps c) (count c)
