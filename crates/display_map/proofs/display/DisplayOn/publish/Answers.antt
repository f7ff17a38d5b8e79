use Rattle.std.proofs.Common.{◌≡◌, ◌+◌, ap, sym, ◌∙◌, subst, arith, List, [], ◌∷◌, ◌++◌}
use Rattle.display_map.specs.Displays.{KeepsShortDisplay}
use Rattle.display_map.specs.Events.{Event, Published}
use Rattle.display_map.specs.Replay.{History, versions_of, ends}
use Rattle.display_map.proofs.Publishing.{ends-published, versions-more}
use Rattle.display_map.proofs.SentDisplays.{kept-published}
use Rattle.display_map.proofs.display.DisplayOn.publish.Goals as goal

pub invariant_of-self-2 : goal.invariant_of-self-2
invariant_of-self-2 g c =
    let d = c.self.inside in
    subst (λ (events : List Event). KeepsShortDisplay (record { opening = (g.S.Sheet.kept d.opening).text; events = events }) (g.S.Sheet.kept d.sheet) d.outs.items (d.versions + 1) d.jobs d.first)
    (sym c.in_ok-push.ensures.appended)
    (record {
      kept = kept-published (record { opening = (g.S.Sheet.kept d.opening).text; events = d.journal }) (g.S.Sheet.kept d.sheet) d.outs.items d.versions d.jobs d.first c.self.invariant.kept c.args.last;
      short = c.self.invariant.short;
    })

pub invariant_of-result : goal.invariant_of-result
invariant_of-result g c =
    let d = c.self.inside in
    let events : c.in-Ok.view.events ≡ d.journal ++ Published c.args.last ∷ [] =
    ap (λ (h : History). h.events) c.in-Ok.ensures ∙ c.in_ok-push.ensures.appended in (
      omega (arith, ap versions_of events, versions-more d.journal (Published c.args.last), c.self.invariant.kept.versions_are),
      sym (ap ends events ∙ ends-published d.journal c.args.last),
    )

pub invariant_of-self-in-Ok : goal.invariant_of-self-in-Ok
invariant_of-self-in-Ok g c =
    let d = c.self.inside in
    subst (λ (events : List Event). KeepsShortDisplay (record { opening = (g.S.Sheet.kept d.opening).text; events = events }) (g.S.Sheet.kept d.sheet) d.outs.items (d.versions + 1) d.jobs d.first)
    (sym c.in_ok-push.ensures.appended)
    (record {
      kept = kept-published (record { opening = (g.S.Sheet.kept d.opening).text; events = d.journal }) (g.S.Sheet.kept d.sheet) d.outs.items d.versions d.jobs d.first c.self.invariant.kept c.args.last;
      short = c.self.invariant.short;
    })
