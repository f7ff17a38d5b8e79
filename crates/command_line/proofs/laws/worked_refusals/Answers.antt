-- By computation.
use Rattle.std.proofs.Common.{refl}
use Rattle.command_line.specs.Words.{tokens}
use Rattle.command_line.proofs.laws.worked_refusals.Goals as goal

pub returns-clause-no_words : goal.returns-clause-no_words
unfolding tokens
returns-clause-no_words c = refl

pub returns-clause-three_names : goal.returns-clause-three_names
unfolding tokens
returns-clause-three_names c = refl

pub returns-clause-one_name : goal.returns-clause-one_name
unfolding tokens
returns-clause-one_name c = refl

pub returns-clause-no_value : goal.returns-clause-no_value
unfolding tokens
returns-clause-no_value c = refl

pub returns-clause-twice : goal.returns-clause-twice
unfolding tokens
returns-clause-twice c = refl

pub returns-clause-twice_in_two_forms : goal.returns-clause-twice_in_two_forms
unfolding tokens
returns-clause-twice_in_two_forms c = refl

pub returns-clause-leading_zero : goal.returns-clause-leading_zero
unfolding tokens
returns-clause-leading_zero c = refl

pub returns-clause-hyphen : goal.returns-clause-hyphen
unfolding tokens
returns-clause-hyphen c = refl

pub returns-clause-hyphen_alone : goal.returns-clause-hyphen_alone
unfolding tokens
returns-clause-hyphen_alone c = refl

pub returns-clause-made_with_names : goal.returns-clause-made_with_names
unfolding tokens
returns-clause-made_with_names c = refl

pub returns-clause-empty_value : goal.returns-clause-empty_value
unfolding tokens
returns-clause-empty_value c = refl

pub returns-clause-two_equals : goal.returns-clause-two_equals
unfolding tokens
returns-clause-two_equals c = refl

pub returns-clause-hyphen_value : goal.returns-clause-hyphen_value
unfolding tokens
returns-clause-hyphen_value c = refl

pub returns-clause-option_as_value : goal.returns-clause-option_as_value
unfolding tokens
returns-clause-option_as_value c = refl

pub returns-clause-sign : goal.returns-clause-sign
unfolding tokens
returns-clause-sign c = refl

pub returns-clause-eleven_digits : goal.returns-clause-eleven_digits
unfolding tokens
returns-clause-eleven_digits c = refl

pub returns-clause-too_great : goal.returns-clause-too_great
unfolding tokens
returns-clause-too_great c = refl

pub returns-clause-no_worker : goal.returns-clause-no_worker
unfolding tokens
returns-clause-no_worker c = refl

pub returns-clause-seventeen_workers : goal.returns-clause-seventeen_workers
unfolding tokens
returns-clause-seventeen_workers c = refl

pub returns-clause-nine_watchers : goal.returns-clause-nine_watchers
unfolding tokens
returns-clause-nine_watchers c = refl

pub returns-clause-dashes : goal.returns-clause-dashes
unfolding tokens
returns-clause-dashes c = refl

pub returns-clause-dashes_as_value : goal.returns-clause-dashes_as_value
unfolding tokens
returns-clause-dashes_as_value c = refl

pub returns-clause-empty_word : goal.returns-clause-empty_word
unfolding tokens
returns-clause-empty_word c = refl

pub returns-clause-unknown_option : goal.returns-clause-unknown_option
unfolding tokens
returns-clause-unknown_option c = refl

pub returns-clause-help : goal.returns-clause-help
unfolding tokens
returns-clause-help c = refl
