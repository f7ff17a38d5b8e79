use Rattle.std.proofs.Common.{◌≡◌, ◌<◌, ◌≤◌, ◌^◌, ◌∙◌, ℕ, [], ap, sym, subst, map, length, arith}
use Rattle.cell_units.specs.Layers.{Source, inlay_source, place_of}
use Rattle.splice_tree.specs.Splices.{measured, to_upper}
use Rattle.inlay_map.specs.Amounts.{bytes_of}
use Rattle.inlay_map.proofs.Places.{carried-place, place-small}
use Rattle.inlay_map.proofs.Spread.{spread}
use Rattle.inlay_map.proofs.SpliceLists.{length-splices}
use Rattle.inlay_map.proofs.snapshot.InlaySnapshot.place.Goals as goal

unfolded-is : (s : Source) → s.folds ≡ [] → inlay_source s.text s.inlays ≡ s
unfolded-is s e = λ i. record { text = s.text; inlays = s.inlays; folds = sym e i }

pub to_upper-requires : goal.to_upper-requires
to_upper-requires c =
    let s = c.self.inside.inlaid in
    let le : c.args.offset ≤ length s.text = omega (arith, c.requires, ap (λ (v : Source). length v.text) c.self.view_is) in
    let place = carried-place s.text c.args.bias c.args.offset s.inlays (spread s.text s.inlays c.len-len.ensures.lawful.inlays) le in
    subst (λ l. to_upper c.args.bias (map (measured bytes_of) l) c.args.offset < 2 ^ 32) (sym c.self.invariant)
    (subst (λ (n : ℕ). n < 2 ^ 32) (sym place) (place-small s.text c.args.bias c.args.offset s.inlays c.len-len.ensures.lawful.inlays (omega (arith, c.len-len.ensures.value, c.len-len.ensures.lawful.short)) le))

pub returns-clause-place : goal.returns-clause-place
returns-clause-place c =
    let s = c.self.inside.inlaid in
    let le : c.args.offset ≤ length s.text = omega (arith, c.requires, ap (λ (v : Source). length v.text) c.self.view_is) in
    c.to_upper.ensures.place
    ∙ ap (λ l. to_upper c.args.bias (map (measured bytes_of) l) c.args.offset) c.self.invariant
    ∙ carried-place s.text c.args.bias c.args.offset s.inlays (spread s.text s.inlays c.len-len.ensures.lawful.inlays) le
    ∙ ap (λ v. place_of v c.args.offset c.args.bias) (unfolded-is s c.len-len.ensures.lawful.folds ∙ c.self.view_is)

pub returns-clause-steps : goal.returns-clause-steps
returns-clause-steps c h few =
    let s = c.self.inside.inlaid in
    let same : length c.self.inside.splices ≡ length c.args.self.now.inlays = ap length c.self.invariant ∙ length-splices s.text 0 s.inlays ∙ ap (λ (v : Source). length v.inlays) c.self.view_is in
    c.to_upper.ensures.steps h (omega (arith, few, same))
