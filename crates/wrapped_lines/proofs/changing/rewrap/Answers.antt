use Rattle.std.proofs.Common.{List, Some, sym, subst}
use Rattle.cell_units.specs.Rows.{all_rows}
use Rattle.cell_units.specs.declared.place.Shift.{Shift}
use Rattle.std.specs.Prelude.{Option}
use Rattle.edit_patch.specs.declared.edit.Edit.{Edit}
use Rattle.edit_patch.specs.Fits.{Fits}
use Rattle.edit_patch.specs.Leads.{LeadsBy}
use Rattle.wrap_map.specs.Standing.{marks_after, shown_rows}
use Rattle.wrapped_lines.proofs.Leads.{leads-fit}
use Rattle.wrapped_lines.proofs.changing.rewrap.Goals as goal

pub sync-requires-clause-room : goal.sync-requires-clause-room
sync-requires-clause-room g c κs within = c.requires.room (marks_after (Some c.args.run) c.in_ok-map.map.standing.marks)

pub returns-clause-fits : goal.returns-clause-fits
returns-clause-fits g c =
    let rows = c.in-Some.rows in
    let before = all_rows (shown_rows c.args.old.now.standing) in
    let after = all_rows (shown_rows c.in_ok-shown.shown) in
    let there : LeadsBy (all_rows (shown_rows c.in_ok-map.map.standing)) after (Some rows) =
    subst (λ (o : Option Shift). LeadsBy (all_rows (shown_rows c.in_ok-map.map.standing)) after o) c.in-Some.is c.in_ok-shown.ensures.synced.leads in
    let leads : LeadsBy before after (Some rows) =
    subst (λ (s : _). LeadsBy (all_rows (shown_rows s.standing)) after (Some rows)) c.in_ok-map.ensures there in
    subst (λ (p : List Edit). Fits p before after) (sym c.in_ok-edits.ensures) (leads-fit before after rows.start rows.end rows.count rows.ordered leads)
