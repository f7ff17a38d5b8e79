use Rattle.std.proofs.Common.{List, Option, ℕ, [], ap, ◌∙◌}
use Rattle.std.specs.Prelude.{unwrap_or}
use Rattle.std.proofs.lemmas.Option.{unwrap_or-slice_get}
use Rattle.text_rope.proofs.Fullness.{full_height}
use Rattle.text_rope.proofs.find.text_at.Goals as goal

pub returns-clause-text : goal.returns-clause-text
returns-clause-text c = c.text_of.ensures ∙ ap (λ (o : Option (List ℕ)). unwrap_or o []) c.get.ensures.item ∙ unwrap_or-slice_get c.args.chunks.now c.args.at []

pub returns-clause-steps : goal.returns-clause-steps
returns-clause-steps c = λ h high. c.get.ensures.steps h (full_height c.args.chunks.now h c.requires.full high)
