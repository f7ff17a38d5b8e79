use Rattle.std.proofs.Common.{◌≤◌, ℕ, length, ap, sym, ◌∙◌, subst}
use Rattle.cell_units.specs.Layers.{shown_text}
use Rattle.cell_units.specs.Text.{row_of}
use Rattle.cell_units.proofs.ShownPlaces.{place-le}
use Rattle.fold_map.proofs.Positions.{row-line}
use Rattle.fold_map.proofs.position.Position.of.Goals as goal

pub point-requires : goal.point-requires
point-requires g c =
    let s = g.L.Layer.source c.args.layer.now in
    subst (λ (p : ℕ). p ≤ length (shown_text s)) (sym c.place-place.ensures) (place-le s c.args.offset c.args.bias c.requires.0)

pub returns : goal.returns
returns g c =
    let s = g.L.Layer.source c.args.layer.now in
    let line = ap (λ p. p.row) c.point.ensures ∙ ap (row_of (shown_text s)) c.place-place.ensures ∙ row-line s c.buffer_len-len.ensures.well_formed c.args.offset c.args.bias c.requires.0 in
    λ i. record { offset = c.args.offset; place = c.place-place.ensures i; line = line i }
