-- The value of a line and the one member of an object, by what was read, and the command that they make.
use Rattle.std.proofs.Common.{◌≡◌, ◌≢◌, ℕ, List, [], ◌∷◌, length, slice_get, Option, Some, None, option_and_then, String, Global, string_bytes, Bool, true, false, if◌then◌else◌, refl, ap, sym, ◌∙◌, arith}
use Rattle.std.specs.Str.{IsUtf8, is_utf8}
use Rattle.std.proofs.lemmas.Str.{IsUtf8-from_is_utf8, is_utf8-from_IsUtf8}
use Rattle.std.proofs.lemmas.Option.{same_Some}
use Rattle.serde_json.specs.Data.{Data}
use Rattle.serde_json.specs.Read.{read}
use Rattle.serde_json.specs.View.{view, members_view}
use Rattle.serde_json.specs.declared.value.Value.{Value}
use Rattle.edit_script.specs.declared.asked.Form.{Form}
use Rattle.edit_script.specs.Commands.{only_member, value_of, command_of_value, command_of}

abbrev pub Entry : Type 0
Entry = String Global × Value

pub only_member-one : (es : List Entry) (key : String Global) (value : Value) → length es ≡ 1 → slice_get es 0 ≡ Some (key, value)
    → Some (string_bytes key, view value) ≡ only_member (members_view es)
only_member-one [] key value h found = absurd (omega arith)
only_member-one (e ∷ []) key value h found = ap (λ (p : Entry). Some (string_bytes p.0, view p.1)) (sym (same_Some e (key, value) found))
only_member-one (e ∷ f ∷ es) key value h found = absurd (omega arith)

pub only_member-others : (es : List Entry) → length es ≢ 1 → None ≡ only_member (members_view es)
only_member-others [] h = refl
only_member-others (e ∷ []) h = absurd (omega arith)
only_member-others (e ∷ f ∷ es) h = refl

pub value_of-read : (line : List ℕ) (value : Data) → IsUtf8 line → read line ≡ Some value → Some value ≡ value_of line
value_of-read line value utf8 found = sym (ap (λ b. if b then read line else None) (is_utf8-from_IsUtf8 line utf8) ∙ found)

none_either_way : (b : Bool) (o : Option Data) → (b ≡ true → o ≡ None) → None ≡ (if b then o else None)
none_either_way true o h = sym (h refl)
none_either_way false o h = refl

pub value_of-unread : (line : List ℕ) → (IsUtf8 line → read line ≡ None) → None ≡ value_of line
value_of-unread line h = none_either_way (is_utf8 line) (read line) (λ e. h (IsUtf8-from_is_utf8 line e))

pub command_of-read : (form : Form) (text line : List ℕ) (value : Data) → IsUtf8 line → read line ≡ Some value → command_of_value form text value ≡ command_of form text line
command_of-read form text line value utf8 found = ap (option_and_then (command_of_value form text)) (value_of-read line value utf8 found)

-- bytes that aren't text are no value
pub value_of-no_text : (line : List ℕ) → ¬ (IsUtf8 line) → value_of line ≡ None
value_of-no_text line bad = sym (value_of-unread line (λ utf8. absurd (bad utf8)))
