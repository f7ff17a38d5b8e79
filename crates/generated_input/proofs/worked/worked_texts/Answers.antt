-- By computation.
use Rattle.std.proofs.Common.{refl}
use Rattle.generated_input.specs.Drawing.{draw, times}
use Rattle.generated_input.specs.Made.{letter, word, line}
use Rattle.generated_input.proofs.worked.worked_texts.Goals as goal

pub returns-clause-words : goal.returns-clause-words
unfolding draw times letter word line
returns-clause-words c = (refl, refl, refl)

pub returns-clause-behind : goal.returns-clause-behind
unfolding draw times letter word line
returns-clause-behind c = refl

pub returns-clause-no_words : goal.returns-clause-no_words
unfolding draw times letter word line
returns-clause-no_words c = (refl, refl)

pub returns-clause-zero : goal.returns-clause-zero
unfolding draw times letter word line
returns-clause-zero c = refl

pub returns-clause-seven : goal.returns-clause-seven
unfolding draw times letter word line
returns-clause-seven c = refl

pub returns-clause-second : goal.returns-clause-second
unfolding draw times letter word line
returns-clause-second c = refl
