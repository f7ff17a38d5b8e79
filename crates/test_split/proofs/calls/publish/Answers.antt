use Rattle.std.proofs.Common.{false, List, [], ◌∷◌, length, refl, sym, ap, ◌∙◌, subst, arith}
use Rattle.std.proofs.lemmas.List.{length-set}
use Rattle.display_map.specs.Events.{Published}
use Rattle.display_map.specs.Replay.{History, appended}
use Rattle.split_views.specs.Views.{history_of}
use Rattle.split_views.specs.Wrapping.{IsIdle}
use Rattle.test_split.proofs.calls.publish.Goals as goal

pub publish-requires-clause-room : goal.publish-requires-clause-room
publish-requires-clause-room g c =
    omega (arith, c.room.ensures.within 1 (record { opening = []; events = [] }) (omega (arith, c.requires)))

pub returns-clause-len : goal.returns-clause-len
returns-clause-len g c =
    let hs = c.args.split.now in
    ap length c.in_ok-publish.ensures.published ∙ length-set hs 1 (appended (history_of hs 1) (Published false ∷ [])) ∙ c.requires

pub returns-clause-idle : goal.returns-clause-idle
returns-clause-idle g c = λ view idle.
    let hs = c.args.split.now in
    subst (λ (l : List History). IsIdle (history_of l view)) (sym c.in_ok-publish.ensures.published)
    (c.idle_laws.ensures.appended hs 1 view (Published false ∷ []) refl idle)
