-- A plan has a make, or it has none.
use Rattle.std.proofs.Common.{ℕ, Option, subst, sym}
use Rattle.display_cli.specs.inside.Left.{HasLeftBy}
use Rattle.display_cli.proofs.playing.play_plan.Goals as goal

pub returns-in-Some-clause-left : goal.returns-in-Some-clause-left
returns-in-Some-clause-left g c =
    let P : Option ℕ → Type 0 = λ make. HasLeftBy make c.args.script.now c.args.opened.owner (g.K.Sink.state c.args.out.now)
    (g.K.Sink.state c.play_made.new.out) c.play_made.result.0 in
    subst P (sym c.in-Some.is) (c.play_made.ensures.left _)

pub returns-in-None-clause-left : goal.returns-in-None-clause-left
returns-in-None-clause-left g c =
    let P : Option ℕ → Type 0 = λ make. HasLeftBy make c.args.script.now c.args.opened.owner (g.K.Sink.state c.args.out.now)
    (g.K.Sink.state c.play_opened.new.out) c.play_opened.result.0 in
    subst P (sym c.in-None.is) c.play_opened.ensures.left
