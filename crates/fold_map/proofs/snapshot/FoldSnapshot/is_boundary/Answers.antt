use Rattle.std.proofs.Common.{ap, sym, subst, ◌∙◌}
use Rattle.std.specs.Str.{IsUtf8}
use Rattle.cell_units.specs.Layers.{Source}
use Rattle.cell_units.specs.Text.{is_boundary}
use Rattle.fold_map.proofs.Refusals.{boundary-test}
use Rattle.fold_map.proofs.snapshot.FoldSnapshot.is_boundary.Goals as goal

pub returns : goal.returns
returns g c =
    let text = (g.L.Layer.source c.self.inside.layer).text in
    boundary-test text c.args.offset c.on_boundary.result (subst (λ (s : Source). IsUtf8 s.text) (sym c.self.view_is) c.text_len-len.ensures.lawful.formed.text.0) c.on_boundary.ensures.0 c.on_boundary.ensures.1
    ∙ ap (λ (s : Source). is_boundary s.text c.args.offset) c.self.view_is
