use Rattle.std.proofs.Common.{◌≡◌, ℕ, sym, ap, subst, ◌∙◌, arith}
use Rattle.cell_units.specs.Text.{IsBoundary}
use Rattle.display_map.specs.Replay.{present_of}
use Rattle.test_display.proofs.lawful.text_between.Goals as goal

pub slice-requires-clause-start : goal.slice-requires-clause-start
slice-requires-clause-start g c =
    let r = present_of c.args.view.now in
    subst (λ (o : ℕ). IsBoundary r.text o) (sym c.in_ok-start.ensures.offset)
    (c.show_laws.ensures.back_left r c.args.first c.lawful.ensures.lawful).0.1

pub slice-requires-clause-end : goal.slice-requires-clause-end
slice-requires-clause-end g c =
    let r = present_of c.args.view.now in
    subst (λ (o : ℕ). IsBoundary r.text o) (sym c.in_ok-end.ensures.offset)
    (c.show_laws.ensures.back_left r c.args.second c.lawful.ensures.lawful).0.1
