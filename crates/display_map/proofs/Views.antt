-- What a view reads off its sheet it reads off the record of its history: none of it depends on stamps.
use Rattle.std.proofs.Common.{◌≡◌, ℕ, eqb, ◌&&◌, Bool, List, [], ◌∷◌, map, refl, sym, ap, ◌∙◌}
use Rattle.std.specs.List.{list_all}
use Rattle.cell_units.specs.Record.{Mark, Record}
use Rattle.display_sheet.proofs.Sheets.{widths-marks_of}
use Rattle.kept_sheet.specs.Kept.{all_at_width}
use Rattle.display_sheet.specs.Shown.{unstamped}
use Rattle.display_map.specs.Displays.{KeepsView}
use Rattle.display_map.specs.Replay.{History, is_settled, present_of}

module _ {h : History} {sheet : Record} {versions : ℕ} (keeps : KeepsView h sheet versions) {now : History} (is : h ≡ now) where
  -- what is the same without stamps
  pub read : {X : Type 0} (f : Record → X) → ((r : Record) → f (unstamped r) ≡ f r) → f sheet ≡ f (present_of now)
  read f same = sym (ap f keeps.sheet_is) ∙ same (present_of h) ∙ ap (λ (h : History). f (present_of h)) is

  pub text-read : sheet.text ≡ (present_of now).text
  text-read = sym (ap (λ (r : Record). r.text) keeps.sheet_is) ∙ ap (λ (h : History). (present_of h).text) is

  pub sheet-read : sheet ≡ unstamped (present_of now)
  sheet-read = sym keeps.sheet_is ∙ ap (λ (h : History). unstamped (present_of h)) is

all-marks : (width : ℕ) (marks : List Mark) → list_all (λ m. eqb m.width width) marks ≡ list_all (λ w. eqb w width) (map (λ m. m.width) marks)
all-marks width [] = refl
all-marks width (m ∷ marks) = ap (λ (b : Bool). eqb m.width width && b) (all-marks width marks)

-- whether all lines are wrapped at the width doesn't depend on stamps
pub settled-by : (r sheet : Record) → unstamped r ≡ sheet → all_at_width sheet ≡ is_settled r
unfolding is_settled
settled-by r sheet is =
    ap all_at_width (sym is)
    ∙ ap (list_all (λ w. eqb w r.width)) (widths-marks_of (map (λ m. m.width) r.marks))
    ∙ sym (all-marks r.width r.marks)
