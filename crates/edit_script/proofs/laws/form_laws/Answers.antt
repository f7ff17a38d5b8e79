use Rattle.std.proofs.Common.{refl}
use Rattle.edit_script.proofs.Extending.{command_of-extends}
use Rattle.edit_script.proofs.Scripts.{skips-blank, skips-header, keeps-line, without-header}
use Rattle.edit_script.proofs.laws.form_laws.Goals as goal

pub returns-clause-extends : goal.returns-clause-extends
returns-clause-extends c = command_of-extends

pub returns-clause-no_line : goal.returns-clause-no_line
returns-clause-no_line c number = (refl, refl)

pub returns-clause-blank : goal.returns-clause-blank
returns-clause-blank c = skips-blank

pub returns-clause-headed : goal.returns-clause-headed
returns-clause-headed c = skips-header

pub returns-clause-unheaded : goal.returns-clause-unheaded
returns-clause-unheaded c = keeps-line

pub returns-clause-without : goal.returns-clause-without
returns-clause-without c = without-header
