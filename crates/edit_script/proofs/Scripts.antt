-- The form of a script and its lines that aren't skipped, line by line.
use Rattle.std.proofs.Common.{◌≡◌, ℕ, suc, ◌+◌, List, [], ◌∷◌, Bool, true, false, not, cond, refl, ap, ◌∙◌, arith}
use Rattle.std.specs.List.{All}
use Rattle.edit_script.specs.declared.asked.Form.{Form}
use Rattle.edit_script.specs.declared.asked.Form.TheVariants.{First, Second}
use Rattle.edit_script.specs.Verdict.{is_blank}
use Rattle.edit_script.specs.Script.{is_header, filled_from, is_headed, behind_header, form_of, asking_from}

abbrev Numbered : Type 0
Numbered = List (ℕ × List ℕ)

-- the lines that aren't blank, of which the first is or isn't
filled : Bool → ℕ → List ℕ → List (List ℕ) → Numbered
filled b number line lines = cond (not b) ((number, line) ∷ filled_from (number + 1) lines) (filled_from (number + 1) lines)

filled-blank : (number : ℕ) (line : List ℕ) (lines : List (List ℕ)) → is_blank line ≡ true → filled_from number (line ∷ lines) ≡ filled_from (number + 1) lines
unfolding filled
filled-blank number line lines e = ap (λ b. filled b number line lines) e

filled-line : (number : ℕ) (line : List ℕ) (lines : List (List ℕ)) → is_blank line ≡ false
    → filled_from number (line ∷ lines) ≡ (number, line) ∷ filled_from (number + 1) lines
unfolding filled
filled-line number line lines e = ap (λ b. filled b number line lines) e

-- whether there is a header isn't a matter of numbers
headed-filled : (b : Bool) (m n : ℕ) (line : List ℕ) (lines : List (List ℕ)) → is_headed (filled_from (m + 1) lines) ≡ is_headed (filled_from (n + 1) lines)
    → is_headed (filled b m line lines) ≡ is_headed (filled b n line lines)
unfolding filled
headed-filled true m n line lines e = e
headed-filled false m n line lines e = refl

headed-any : (m n : ℕ) (lines : List (List ℕ)) → is_headed (filled_from m lines) ≡ is_headed (filled_from n lines)
unfolding filled
headed-any m n [] = refl
headed-any m n (line ∷ lines) = headed-filled (is_blank line) m n line lines (headed-any (m + 1) (n + 1) lines)

form_by : Bool → Form
form_by b = cond b Second First

behind_by : Bool → ℕ × List ℕ → Numbered → Numbered
behind_by b l ls = cond b ls (l ∷ ls)

pub skips-blank : (number : ℕ) (line : List ℕ) (lines : List (List ℕ)) → is_blank line ≡ true
    → (form_of (line ∷ lines) ≡ form_of lines) × (asking_from number (line ∷ lines) ≡ asking_from (number + 1) lines)
unfolding form_by
skips-blank number line lines e = (
  ap (λ ls. form_by (is_headed ls)) (filled-blank 1 line lines e) ∙ ap form_by (headed-any (1 + 1) 1 lines),
  ap behind_header (filled-blank number line lines e),
)

pub skips-header : (number : ℕ) (line : List ℕ) (lines : List (List ℕ)) → is_blank line ≡ false → is_header line ≡ true
    → (form_of (line ∷ lines) ≡ Second) × (asking_from number (line ∷ lines) ≡ filled_from (number + 1) lines)
unfolding form_by behind_by
skips-header number line lines e is = (
  ap (λ ls. form_by (is_headed ls)) (filled-line 1 line lines e) ∙ ap form_by is,
  ap behind_header (filled-line number line lines e) ∙ ap (λ b. behind_by b (number, line) (filled_from (number + 1) lines)) is,
)

pub keeps-line : (number : ℕ) (line : List ℕ) (lines : List (List ℕ)) → is_blank line ≡ false → is_header line ≡ false
    → (form_of (line ∷ lines) ≡ First) × (asking_from number (line ∷ lines) ≡ (number, line) ∷ filled_from (number + 1) lines)
unfolding form_by behind_by
keeps-line number line lines e is = (
  ap (λ ls. form_by (is_headed ls)) (filled-line 1 line lines e) ∙ ap form_by is,
  ap behind_header (filled-line number line lines e) ∙ ap (λ b. behind_by b (number, line) (filled_from (number + 1) lines)) is,
)

unheaded-filled : (b : Bool) (number : ℕ) (line : List ℕ) (lines : List (List ℕ)) → is_header line ≡ false → is_headed (filled_from (number + 1) lines) ≡ false
    → is_headed (filled b number line lines) ≡ false
unfolding filled
unheaded-filled true number line lines first rest = rest
unheaded-filled false number line lines first rest = first

unheaded : (number : ℕ) (lines : List (List ℕ)) → All (λ line. is_header line ≡ false) lines → is_headed (filled_from number lines) ≡ false
unfolding filled
unheaded number [] h = refl
unheaded number (line ∷ lines) h =
    unheaded-filled (is_blank line) number line lines (h 0 line (omega arith)) (unheaded (number + 1) lines (λ k d l. h (suc k) d (omega arith)))

behind-unheaded : (ls : Numbered) → is_headed ls ≡ false → behind_header ls ≡ ls
unfolding behind_by
behind-unheaded [] e = refl
behind-unheaded (l ∷ ls) e = ap (λ b. behind_by b l ls) e

-- without a header only blank lines are skipped
pub without-header : (number : ℕ) (lines : List (List ℕ)) → All (λ line. is_header line ≡ false) lines
    → (form_of lines ≡ First) × (asking_from number lines ≡ filled_from number lines)
unfolding form_by
without-header number lines h = (ap form_by (unheaded 1 lines h), behind-unheaded (filled_from number lines) (unheaded number lines h))
