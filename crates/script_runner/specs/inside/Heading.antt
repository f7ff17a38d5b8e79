-- The head of a script: the lines before those that ask.
use Rattle.std.specs.Prelude.{ℕ, ◌≡◌, ◌+◌, ◌≤◌, false, List, ◌∷◌, length}
use Rattle.edit_script.specs.Verdict.{is_blank}
use Rattle.edit_script.specs.Script.{form_of, filled_from, asking_from}
use Rattle.script_runner.specs.declared.script.Head.{Head}
use Rattle.script_runner.specs.Entries.{script_lines}

-- after so many blank lines, of which the form isn't a matter, the script goes on with a line that isn't blank, or ends
pub record HasPassedBlank (script : List ℕ) (passed : ℕ) (rest : List ℕ) : Type 0 where
  pub form : form_of (script_lines script) ≡ form_of (script_lines rest)
  pub asking : asking_from 1 (script_lines script) ≡ asking_from (passed + 1) (script_lines rest)
  pub filled : (line : List ℕ) (more : List (List ℕ)) → script_lines rest ≡ line ∷ more → is_blank line ≡ false
  pub within : passed + length rest ≤ length script

-- a head of a script: it gives the form, and after the lines that it passed all that aren't blank ask
pub record IsHeadOf (script : List ℕ) (head : Head) : Type 0 where
  pub form : form_of (script_lines script) ≡ head.form
  pub asking : asking_from 1 (script_lines script) ≡ filled_from (head.passed + 1) (script_lines head.rest.now)
  pub within : head.passed + length head.rest.now ≤ length script
