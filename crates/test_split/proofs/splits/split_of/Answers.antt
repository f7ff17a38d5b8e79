use Rattle.std.proofs.Common.{List, length, sym, ap, ◌∙◌, subst}
use Rattle.std.proofs.lemmas.List.{length-replicate}
use Rattle.display_map.specs.Replay.{History}
use Rattle.split_views.specs.Views.{history_of}
use Rattle.split_views.specs.Wrapping.{IsIdle}
use Rattle.test_split.proofs.splits.split_of.Goals as goal

pub returns-clause-len : goal.returns-clause-len
returns-clause-len c = ap length c.in_ok-start.ensures.started ∙ length-replicate c.args.views _

pub returns-clause-idle : goal.returns-clause-idle
returns-clause-idle c = λ view lt.
    subst (λ (hs : List History). IsIdle (history_of hs view)) (sym c.in_ok-start.ensures.started) (c.idle_laws.ensures.opened _ c.args.views view lt)
