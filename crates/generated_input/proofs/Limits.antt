-- All that is made is ASCII without carriage returns, and within the limits.
use Rattle.std.proofs.Common.{ℕ, length, lit<, lit≤}
use Rattle.cell_units.specs.declared.limits.TheConstants.{TEXT_LIMIT}
use Rattle.generated_input.specs.Laws.{script_limit}
use Rattle.generated_input.specs.Made.{drawn_input, made_of, script_lines, text_lines}
use Rattle.generated_input.proofs.Sizes.{IsShort, short_within, script_short, text_short}

pub made_text_short : (number : ℕ) → IsShort TEXT_LIMIT (made_of number).text
unfolding made_of drawn_input
made_text_short number = short_within 3880000 TEXT_LIMIT (text_lines 20000 number).value (lit≤ tt) (text_short 20000 number)

pub made_script_short : (number : ℕ) → IsShort script_limit (made_of number).script
unfolding made_of drawn_input
made_script_short number =
    let text = text_lines 20000 number in
    short_within 32400 script_limit (script_lines 400 1 (length text.value) text.state).value (lit≤ tt) (script_short 400 1 (length text.value) text.state (lit< tt))
