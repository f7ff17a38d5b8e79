use Rattle.std.proofs.Common.{sym, subst, List}
use Rattle.display_map.specs.Displays.{KeepsShortDisplay}
use Rattle.display_map.specs.Events.{Event}
use Rattle.display_map.proofs.SentDisplays.{kept-line}
use Rattle.display_map.proofs.display.DisplayOn.note_line.Goals as goal

pub invariant_of-self-2 : goal.invariant_of-self-2
invariant_of-self-2 g c =
    let d = c.self.inside in
    subst (λ (events : List Event). KeepsShortDisplay (record { opening = (g.S.Sheet.kept d.opening).text; events = events }) (g.S.Sheet.kept d.sheet) d.outs.items d.versions d.jobs d.first)
    (sym c.in_ok-push.ensures.appended)
    (record {
      kept = kept-line (record { opening = (g.S.Sheet.kept d.opening).text; events = d.journal }) (g.S.Sheet.kept d.sheet) d.outs.items d.versions d.jobs d.first c.self.invariant.kept c.args.number;
      short = c.self.invariant.short;
    })
