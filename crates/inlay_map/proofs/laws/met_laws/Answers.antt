use Rattle.std.proofs.Common.{refl}
use Rattle.cell_units.specs.Lawful.{IsInlayOf}
use Rattle.cell_units.specs.Operation.{without_inlay}
use Rattle.cell_units.specs.Record.{inlay_le}
use Rattle.cell_units.specs.Sorting.{insert_by}
use Rattle.cell_units.specs.Layers.{inlay_source}
use Rattle.cell_units.proofs.Entries.{entries-added, entries-kept}
use Rattle.cell_units.proofs.EntryOrders.{inlay_total, inlay_trans}
use Rattle.inlay_map.proofs.MapStates.{added-differs, removed-differs}
use Rattle.inlay_map.proofs.MetRows.{found-fits, inlay-touches, moved-touches}
use Rattle.inlay_map.proofs.laws.met_laws.Goals as goal

pub returns-clause-added : goal.returns-clause-added
returns-clause-added c v i lawful fits room =
    let w = lawful.0 in
    inlay-touches v (inlay_source v.text (insert_by inlay_le i v.inlays)) i.offset lawful.1 refl w.inlays
    (entries-added inlay_le inlay_total inlay_trans (λ j. j.id) (IsInlayOf v.text) i v.inlays w.inlays fits room)
    w.text refl fits.boundary.0 (added-differs i v.inlays)

pub returns-clause-removed : goal.returns-clause-removed
returns-clause-removed c v i lawful found =
    let w = lawful.0 in
    inlay-touches v (inlay_source v.text (without_inlay i.id v.inlays)) i.offset lawful.1 refl w.inlays
    (entries-kept inlay_le inlay_total inlay_trans (λ j. j.id) (IsInlayOf v.text) _ v.inlays w.inlays)
    w.text refl (found-fits v.text v.inlays i w.inlays found).boundary.0 (removed-differs i v.inlays (w.inlays.distinct i.id) found)

pub returns-clause-replaced : goal.returns-clause-replaced
returns-clause-replaced c v text s lawful w' order leads =
    let w = lawful.0 in
    moved-touches v text s lawful.1 w.inlays w'.inlays w.text w'.text order leads
