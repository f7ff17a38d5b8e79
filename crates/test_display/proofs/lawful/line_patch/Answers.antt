use Rattle.std.proofs.Common.{◌≡◌, ap, subst, sym, ◌++◌}
use Rattle.cell_units.specs.Record.{Record}
use Rattle.cell_units.specs.Text.{IsText}
use Rattle.display_map.specs.LawfulStates.{EventsFit}
use Rattle.display_map.specs.LinePatches.{CameByStamp}
use Rattle.display_map.specs.Replay.{History, begun, present_of}
use Rattle.test_display.proofs.lawful.line_patch.Goals as goal

pub returns : goal.returns
returns g c = λ events is.
    let h = c.args.earlier.now in
    let text = subst (λ (q : History). IsText q.opening) is c.lawful.ensures.opening in
    let fits = subst (λ (q : History). EventsFit (begun q.opening) q.events) is c.lawful.ensures.fits in
    let some = c.line_patch_laws.ensures.exists h.opening h.events events text fits in (
      some.0,
      some.1,
      subst (λ (q : History). CameByStamp some.0 (present_of h) (present_of q)) (sym is)
          (c.line_patch_laws.ensures.came h.opening h.events events some.0 text fits some.1),
    )
