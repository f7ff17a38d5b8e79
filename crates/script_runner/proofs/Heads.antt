-- The head of a script, line by line.
use Rattle.std.proofs.Common.{◌≡◌, ℕ, ◌+◌, true, false, List, [], ◌∷◌, map, sym, ap, ◌∙◌, subst}
use Rattle.edit_script.specs.declared.asked.Form.{Form}
use Rattle.edit_script.specs.Verdict.{is_blank}
use Rattle.edit_script.specs.Script.{form_of, asking_from}
use Rattle.edit_script.proofs.Scripts.{skips-blank}
use Rattle.script_runner.specs.declared.script.Head.{Head}
use Rattle.script_runner.specs.Entries.{Entry, Bytes, script_lines, numbered_lines}
use Rattle.script_runner.specs.Going.{numbered_from}
use Rattle.script_runner.specs.inside.Heading.{IsHeadOf}

module _ (number : ℕ) (all : List (List ℕ)) (line : List ℕ) (lines : List (List ℕ)) (e : all ≡ line ∷ lines) where
  pub passes-blank : is_blank line ≡ true → (form_of all ≡ form_of lines) × (asking_from number all ≡ asking_from (number + 1) lines)
  passes-blank blank =
      let P : List (List ℕ) → Type 0 = λ l. (form_of l ≡ form_of lines) × (asking_from number l ≡ asking_from (number + 1) lines) in
      subst P (sym e) (skips-blank number line lines blank)

  pub only-line : is_blank line ≡ false → (other : List ℕ) (more : List (List ℕ)) → all ≡ other ∷ more → is_blank other ≡ false
  only-line filled other more is = let same : line ≡ other = cc in let P : List ℕ → Type 0 = λ l. is_blank l ≡ false in subst P same filled

pub no-line : (all : List (List ℕ)) → all ≡ [] → (line : List ℕ) (more : List (List ℕ)) → all ≡ line ∷ more → is_blank line ≡ false
no-line all none line more some = cc

-- the entries of a script are those behind its head
pub behind-head : (script : List ℕ) (head : Head) → IsHeadOf script head
    → numbered_lines script ≡ numbered_from head.form (head.passed + 1) (script_lines head.rest.now)
unfolding numbered_lines
behind-head script head it =
    ap (λ (f : Form). map {B = ℕ × Entry} (λ l. (l.0, Bytes f l.1)) (asking_from 1 (script_lines script))) it.form
    ∙ ap (map {B = ℕ × Entry} (λ l. (l.0, Bytes head.form l.1))) it.asking
