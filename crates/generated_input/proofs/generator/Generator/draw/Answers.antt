use Rattle.std.proofs.Common.{◌^◌, ◌*◌}
use Rattle.std.proofs.Math.Nat.{mod-add-mod}
use Rattle.generated_input.specs.Drawing.{draw}
use Rattle.generated_input.proofs.generator.Generator.draw.Goals as goal

pub returns-clause-value : goal.returns-clause-value
unfolding draw
returns-clause-value c =
    let one = mod-add-mod (c.args.self.now.state * 6364136223846793005) (2 ^ 64) 1442695040888963407 in
    cc one

pub returns-clause-state : goal.returns-clause-state
unfolding draw
returns-clause-state c =
    let one = mod-add-mod (c.args.self.now.state * 6364136223846793005) (2 ^ 64) 1442695040888963407 in
    cc one
