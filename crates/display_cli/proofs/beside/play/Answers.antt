-- What the runner left is what is left of its parts.
use Rattle.std.proofs.Common.{ap, rules}
use Rattle.display_cli.proofs.Opened.{left-of}
use Rattle.display_cli.proofs.beside.play.Goals as goal

pub returns : goal.returns
returns g c =
    left-of c.args.script.now c.args.owner c.play-played.new.self.owner (g.K.Sink.state c.args.out.now) (g.K.Sink.state c.play-played.new.self.out.now)
    _ _ c.play-played.ensures.played c.play-played.ensures.team c.play-played.ensures.shown c.dismiss-display.ensures.display
    c.dismiss-display.ensures.writer (ap g.K.Sink.state (search rules))
