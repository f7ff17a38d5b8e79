use Rattle.display_map.specs.Replay.{state_of}
use Rattle.test_display.proofs.lawful.fitting_changes.Goals as goal

pub returns : goal.returns
returns g c = λ change utf8 none.
    c.replay_laws.ensures.accepted (state_of c.args.display.now) change c.lawful.ensures.lawful.entries.source.text utf8 none
