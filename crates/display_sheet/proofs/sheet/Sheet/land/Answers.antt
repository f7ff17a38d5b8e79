use Rattle.std.proofs.Common.{◌≡◌, ℕ, List, length, ap, refl, sym, subst, ◌∙◌}
use Rattle.std.specs.Prelude.{Option}
use Rattle.std.specs.Arc.{arc_value}
use Rattle.cell_units.specs.Record.{Record}
use Rattle.plain_rows.specs.Rows.{line_elements}
use Rattle.display_sheet.specs.declared.wraps.Wrapped.{Wrapped}
use Rattle.display_sheet.specs.Landing.{AreCutsAt, AreLanded, FitLines, lists_of, with_landed_lines}
use Rattle.display_sheet.specs.Sheets.{record_in}
use Rattle.display_sheet.proofs.LandedSheets.{cuts-fit, landed-is, landed-sheet}
use Rattle.display_sheet.proofs.sheet.Sheet.land.Goals as goal

pub landed-requires : goal.landed-requires
landed-requires c =
    let v = c.self.inside in
    let cuts = lists_of c.args.cuts.now in
    let at =
    subst (λ (r : Record). AreCutsAt (line_elements r) c.args.width c.args.lines.now cuts) (sym c.self.view_is) c.requires.lines in
    subst (λ (ws : List Wrapped). FitLines (length ws) c.args.lines.now cuts) (sym c.deref.ensures)
    (cuts-fit (record_in v) (arc_value v.wraps) (arc_value v.lines) c.self.invariant refl c.args.width c.args.lines.now cuts at)

-- how the lines are wrapped, through shares
shared : (width : ℕ) (places : List (Option ℕ)) (cuts : List (List ℕ)) (lent made old new : List Wrapped) → lent ≡ old → new ≡ made →
    AreLanded width places cuts lent made → AreLanded width places cuts old new
shared width places cuts lent made old new lent_is made_is h =
    subst (λ (ws : List Wrapped). AreLanded width places cuts ws new) lent_is (subst (AreLanded width places cuts lent) (sym made_is) h)

pub invariant_of-self : goal.invariant_of-self
invariant_of-self c =
    let v = c.self.inside in
    let old = arc_value v.wraps in
    let new = arc_value c.in_ok-self-inside.field-0 in
    let cuts = lists_of c.args.cuts.now in
    let at =
    subst (λ (r : Record). AreCutsAt (line_elements r) c.args.width c.args.lines.now cuts) (sym c.self.view_is) c.requires.lines in
    let landed = shared c.args.width c.args.lines.now cuts c.deref.result.now c.in_ok-landed.landed old new c.deref.ensures c.in_ok-self-inside.ensures.ok c.in_ok-landed.ensures in
    landed-sheet (record_in v) old (arc_value v.lines) c.self.invariant refl c.args.width c.args.lines.now cuts new landed c.requires.width at

pub returns-clause-landed : goal.returns-clause-landed
returns-clause-landed c =
    let v = c.self.inside in
    let old = arc_value v.wraps in
    let new = arc_value c.in_ok-self-inside.field-0 in
    let cuts = lists_of c.args.cuts.now in
    let landed = shared c.args.width c.args.lines.now cuts c.deref.result.now c.in_ok-landed.landed old new c.deref.ensures c.in_ok-self-inside.ensures.ok c.in_ok-landed.ensures in
    landed-is (record_in v) old (arc_value v.lines) c.self.invariant refl c.args.width c.args.lines.now cuts new landed
    ∙ ap (with_landed_lines c.args.width c.args.lines.now) c.self.view_is
