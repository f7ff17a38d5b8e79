-- A record that a display keeps, after an operation that touches no line, or each.
use Rattle.std.proofs.Common.{◌≡◌, ℕ, List, ◌++◌, length, map, replicate, refl, sym, ap, subst, ◌∙◌, arith}
use Rattle.std.specs.Arc.{arc_value}
use Rattle.std.proofs.lemmas.List.{append-nil, drop_all}
use Rattle.cell_units.specs.Record.{Record}
use Rattle.cell_units.specs.Operation.{Operation, SetTab, SetWidth, operated}
use Rattle.cell_units.specs.Layers.{Source}
use Rattle.cell_units.specs.Folded.{display_lines}
use Rattle.cell_units.specs.Lawful.{IsAllowed, IsLawful, source_of}
use Rattle.plain_rows.specs.FoldedLines.{AreLinesOf, LaidOut}
use Rattle.plain_rows.specs.Plain.{block_of, fold_of, inlay_of, marks_of}
use Rattle.plain_rows.specs.Rows.{line_elements}
use Rattle.display_sheet.specs.declared.sheet.LineSplice.{LineSplice}
use Rattle.display_sheet.specs.declared.sheet.Sheet.TheInside.{Inside}
use Rattle.display_sheet.specs.declared.wraps.Wrapped.{Wrapped}
use Rattle.display_sheet.specs.LineSplices.{spliced}
use Rattle.display_sheet.specs.LineStep.{line_step}
use Rattle.display_sheet.specs.Sheets.{IsBlockChange, IsOperated, KeepsSheet, marks_in, record_in, row_counts}
use Rattle.display_sheet.specs.Wraps.{fresh}
use Rattle.display_sheet.proofs.ElementLines.{elements_long}
use Rattle.display_sheet.proofs.Relaid.{lawful-unstamped, map-spliced, operated-each, operated-none}
use Rattle.display_sheet.proofs.Sheets.{counts-spliced, length-marks_of, unstamped-counted}
use Rattle.display_sheet.proofs.StepLaws.{IsLawful-step}

module _ (s s' : Inside) (keeps : KeepsSheet s)
    (texts : arc_value s'.text ≡ arc_value s.text)
    (inlays : (arc_value s'.inlays).items ≡ (arc_value s.inlays).items)
    (folds : (arc_value s'.folds).items ≡ (arc_value s.folds).items)
    (lines : arc_value s'.lines ≡ arc_value s.lines) where
  abbrev old : Record
  old = record_in s

  abbrev new : Record
  new = record_in s'

  abbrev ws : List ℕ
  ws = marks_in (arc_value s.wraps)

  abbrev ws' : List ℕ
  ws' = marks_in (arc_value s'.wraps)

  same_source : source_of new ≡ source_of old
  same_source = λ i. record { text = texts i; inlays = map inlay_of (inlays i); folds = map fold_of (folds i) }

  laid : AreLinesOf (source_of new) (arc_value s'.lines)
  laid = subst (λ (l : LaidOut). AreLinesOf (source_of new) l) (sym lines) (subst (λ (x : Source). AreLinesOf x (arc_value s.lines)) (sym same_source) keeps.laid_out)

  long : length ws ≡ length (line_elements old)
  long = sym (length-marks_of ws) ∙ keeps.lawful.marked ∙ sym (elements_long old)

  pub keeps-operated : (operation : Operation) → IsAllowed operation old → (splice : LineSplice) → IsOperated operation old new splice →
      arc_value s'.wraps ≡ spliced splice.first splice.end splice.count fresh (arc_value s.wraps) → KeepsSheet s'
  keeps-operated operation allowed splice is wraps =
      let both = is old (unstamped-counted old ws refl refl) in
      let marks' : ws' ≡ spliced splice.first splice.end splice.count 0 ws =
      ap marks_in wraps ∙ map-spliced (λ (w : Wrapped). w.mark) splice.first splice.end splice.count fresh (arc_value s.wraps) in
      let elements : line_elements (operated operation old) ≡ line_elements new = sym (ap line_elements both.0.step) ∙ ap line_elements both.1 in
      record {
        lawful = subst IsLawful both.1 (lawful-unstamped (line_step operation old) (IsLawful-step operation old keeps.lawful allowed));
        laid_out = laid;
        rows_are =
            ap (map (λ (w : Wrapped). w.rows)) wraps
            ∙ map-spliced (λ (w : Wrapped). w.rows) splice.first splice.end splice.count fresh (arc_value s.wraps)
            ∙ ap (spliced splice.first splice.end splice.count 1) keeps.rows_are
            ∙ counts-spliced operation old splice.first splice.end splice.count both.0 ws long
            ∙ (λ i. row_counts (elements i) (sym marks' i));
      }

  pub width-operated : (cells : ℕ) → IsAllowed (SetWidth cells) old → (arc_value s'.blocks).items ≡ (arc_value s.blocks).items → s'.tab ≡ s.tab → s'.width ≡ cells →
      arc_value s'.wraps ≡ arc_value s.wraps → (splice : LineSplice) → splice.first ≡ 0 → splice.end ≡ 0 → splice.count ≡ 0 → IsOperated (SetWidth cells) old new splice
  width-operated cells allowed blocks tab width wraps =
      operated-none old new ws ws' (SetWidth cells) keeps.lawful allowed refl
      (λ i. record { text = texts i; inlays = map inlay_of (inlays i); folds = map fold_of (folds i); blocks = map block_of (blocks i); tab = tab i; width = width i; marks = marks_of ws'; next_stamp = length ws' })
      (ap marks_in wraps) (λ P. refl) (λ P. record { text = refl; inlays = refl; folds = refl }) (λ P. refl)

  pub blocks-operated : (operation : Operation) → IsBlockChange operation old (map block_of (arc_value s'.blocks).items) → s'.tab ≡ s.tab → s'.width ≡ s.width →
      arc_value s'.wraps ≡ arc_value s.wraps → (splice : LineSplice) → splice.first ≡ 0 → splice.end ≡ 0 → splice.count ≡ 0 → IsOperated operation old new splice
  blocks-operated operation d tab width wraps =
      operated-none old new ws ws' operation keeps.lawful d.allowed refl
      ((λ i. record { text = texts i; inlays = map inlay_of (inlays i); folds = map fold_of (folds i); blocks = sym d.blocks_are i; tab = tab i; width = width i; marks = marks_of ws'; next_stamp = length ws' })
      ∙ ap (λ (r : Record). record r { marks = marks_of ws'; next_stamp = length ws' }) (sym (d.leaves old)))
      (ap marks_in wraps) d.touches_none
      (λ P. record { text = ap (λ (r : Record). r.text) (d.leaves P); inlays = ap (λ (r : Record). r.inlays) (d.leaves P); folds = ap (λ (r : Record). r.folds) (d.leaves P) })
      (λ P. ap (λ (r : Record). r.tab) (d.leaves P))

  pub tab-operated : (tab : ℕ) → IsAllowed (SetTab tab) old → (arc_value s'.blocks).items ≡ (arc_value s.blocks).items → s'.tab ≡ tab → s'.width ≡ s.width →
      (splice : LineSplice) → splice.first ≡ 0 → splice.end ≡ length (display_lines old.text old.inlays old.folds) → splice.count ≡ length (display_lines old.text old.inlays old.folds) →
      arc_value s'.wraps ≡ spliced splice.first splice.end splice.count fresh (arc_value s.wraps) → IsOperated (SetTab tab) old new splice
  tab-operated tab allowed blocks tab_is width splice first end count wraps =
      let n = length (display_lines old.text old.inlays old.folds) in
      let own : length ws ≡ n = sym (length-marks_of ws) ∙ keeps.lawful.marked in
      let items : arc_value s'.wraps ≡ spliced 0 n n fresh (arc_value s.wraps) = wraps ∙ (λ i. spliced (first i) (end i) (count i) fresh (arc_value s.wraps)) in
      let zeros : ws' ≡ replicate n 0 =
      ap marks_in items
      ∙ map-spliced (λ (w : Wrapped). w.mark) 0 n n fresh (arc_value s.wraps)
      ∙ ap (λ (l : List ℕ). replicate n 0 ++ l) (drop_all n ws (omega (arith, own)))
      ∙ append-nil (replicate n 0) in
      operated-each old new ws ws' (SetTab tab) keeps.lawful allowed refl
      (λ i. record { text = texts i; inlays = map inlay_of (inlays i); folds = map fold_of (folds i); blocks = map block_of (blocks i); tab = tab_is i; width = width i; marks = marks_of ws'; next_stamp = length ws' })
      n refl zeros own (λ P. refl) (λ P. record { text = refl; inlays = refl; folds = refl }) splice first end count
