-- Lists of so many values, and lists that have another length.
use Rattle.std.proofs.Common.{◌≡◌, ◌≢◌, ℕ, List, [], ◌∷◌, ◌++◌, length, Option, Some, None, option_map, refl, sym, ap, ◌∙◌, arith}
use Rattle.serde_json.specs.Data.{Data, null, boolean, number, string, array, object, Items}
use Rattle.serde_json.specs.Find.{as_array}
use Rattle.serde_json.specs.View.{items_view}
use Rattle.serde_json.specs.declared.value.Value.{Value}
use Rattle.display_sheet.specs.declared.change.Splice.{Splice}
use Rattle.edit_script.specs.declared.asked.Form.{Form}
use Rattle.edit_script.specs.Commands.{two_in, three_in, four_in, splices_of_items, texts_of_items}

pub two_in-none : (values : List Value) → length values ≢ 2 → two_in (array (items_view values)) ≡ None
two_in-none [] h = refl
two_in-none (a ∷ []) h = refl
two_in-none (a ∷ b ∷ []) h = absurd (omega arith)
two_in-none (a ∷ b ∷ c ∷ values) h = refl

pub three_in-none : (values : List Value) → length values ≢ 3 → three_in (array (items_view values)) ≡ None
three_in-none [] h = refl
three_in-none (a ∷ []) h = refl
three_in-none (a ∷ b ∷ []) h = refl
three_in-none (a ∷ b ∷ c ∷ []) h = absurd (omega arith)
three_in-none (a ∷ b ∷ c ∷ d ∷ values) h = refl

pub four_in-none : (values : List Value) → length values ≢ 4 → four_in (array (items_view values)) ≡ None
four_in-none [] h = refl
four_in-none (a ∷ []) h = refl
four_in-none (a ∷ b ∷ []) h = refl
four_in-none (a ∷ b ∷ c ∷ []) h = refl
four_in-none (a ∷ b ∷ c ∷ d ∷ []) h = absurd (omega arith)
four_in-none (a ∷ b ∷ c ∷ d ∷ e ∷ values) h = refl

-- a value that has items is their list
is-array : (d : Data) (items : Items) → Some items ≡ as_array d → d ≡ array items
is-array null items e = cc
is-array (boolean b) items e = cc
is-array (number n) items e = cc
is-array (string s) items e = cc
is-array (array others) items e = let same : items ≡ others = cc in ap array (sym same)
is-array (object entries) items e = cc

pub two_in-other : (d : Data) (values : List Value) → Some (items_view values) ≡ as_array d → length values ≢ 2 → None ≡ two_in d
two_in-other d values is h = sym (ap two_in (is-array d (items_view values) is) ∙ two_in-none values h)

pub three_in-other : (d : Data) (values : List Value) → Some (items_view values) ≡ as_array d → length values ≢ 3 → None ≡ three_in d
three_in-other d values is h = sym (ap three_in (is-array d (items_view values) is) ∙ three_in-none values h)

pub four_in-other : (d : Data) (values : List Value) → Some (items_view values) ≡ as_array d → length values ≢ 4 → None ≡ four_in d
four_in-other d values is h = sym (ap four_in (is-array d (items_view values) is) ∙ four_in-none values h)

-- the texts of a list whose texts before are known
abbrev pub texts_after : List (List ℕ) → List Value → Option (List (List ℕ))
texts_after before values = option_map (λ rest. before ++ rest) (texts_of_items (items_view values))

-- the splices of a list whose splices before are known
abbrev pub after : Form → List ℕ → List Splice → List Value → Option (List Splice)
after form text before values = option_map (λ rest. before ++ rest) (splices_of_items form text (items_view values))
