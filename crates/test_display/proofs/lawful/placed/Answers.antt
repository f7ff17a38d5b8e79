use Rattle.std.proofs.Common.{◌≡◌, ℕ, sym, ap, subst, ◌∙◌}
use Rattle.cell_units.specs.declared.place.Bias.TheVariants.{Left}
use Rattle.cell_units.specs.declared.place.Spot.{Spot}
use Rattle.cell_units.specs.Record.{Record}
use Rattle.cell_units.specs.Text.{IsBoundary}
use Rattle.plain_rows.specs.Plain.{record_of}
use Rattle.plain_rows.specs.Spots.{back, clip, show}
use Rattle.display_sheet.proofs.Unstamped.{back-unstamped, clip-unstamped, show-unstamped}
use Rattle.display_map.specs.Replay.{present_of}
use Rattle.test_display.proofs.lawful.placed.Goals as goal

pub show-requires-clause-boundary : goal.show-requires-clause-boundary
show-requires-clause-boundary g c =
    let r = record_of c.in_ok-plain.plain in
    subst (λ (o : ℕ). IsBoundary r.text o) (sym c.in_ok-offset.ensures)
    (c.show_laws.ensures.back_left r c.args.spot c.in_ok-plain.ensures.lawful).0.1

pub returns : goal.returns
returns g c =
    let r = present_of c.args.view.now in
    let spot = c.args.spot in
    let same = c.in_ok-plain.ensures.same in
    let offset : c.in_ok-offset.offset ≡ back r spot Left =
    c.in_ok-offset.ensures ∙ ap (λ (q : Record). back q spot Left) same ∙ back-unstamped r spot Left in
    let nearest : c.in_ok-nearest.nearest ≡ clip r spot Left =
    c.in_ok-nearest.ensures ∙ ap (λ (q : Record). clip q spot Left) same ∙ clip-unstamped r spot Left in
    let shown : c.in_ok-shown.shown ≡ show r (back r spot Left) Left =
    c.in_ok-shown.ensures
    ∙ ap (λ (q : Record). show q c.in_ok-offset.offset Left) same
    ∙ show-unstamped r c.in_ok-offset.offset Left
    ∙ ap (λ (o : ℕ). show r o Left) offset in
    λ i. (offset i, nearest i, shown i)
