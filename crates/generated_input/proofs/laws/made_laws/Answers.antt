use Rattle.generated_input.proofs.Feeds.{made_script-lines, made_text-lines}
use Rattle.generated_input.proofs.Limits.{made_script_short, made_text_short}
use Rattle.generated_input.proofs.laws.made_laws.Goals as goal

pub returns-clause-plain : goal.returns-clause-plain
returns-clause-plain c = λ number. ((made_text_short number).plain, (made_script_short number).plain)

pub returns-clause-fits : goal.returns-clause-fits
returns-clause-fits c = λ number. ((made_text_short number).size, (made_script_short number).size)

pub returns-clause-lines : goal.returns-clause-lines
returns-clause-lines c = λ number. (made_text-lines number, made_script-lines number)
