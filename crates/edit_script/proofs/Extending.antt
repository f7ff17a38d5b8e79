-- What is a command of the first form is the same command of the second.
use Rattle.std.proofs.Common.{◌≡◌, ℕ, List, [], ◌∷◌, Option, Some, None, option_map, option_and_then, refl, ap, ◌∙◌}
use Rattle.std.specs.Option.{option_or}
use Rattle.serde_json.specs.Data.{Data, Items, no_items, item}
use Rattle.serde_json.specs.Find.{as_str, as_array}
use Rattle.cell_units.specs.Operation.{AddInlay, AddFold}
use Rattle.display_sheet.specs.Changes.{Edit, inlay_of, fold_of}
use Rattle.edit_script.specs.declared.asked.Form.TheVariants.{First, Second}
use Rattle.edit_script.specs.declared.asked.Query.TheVariants as queries
use Rattle.edit_script.specs.declared.key.Key.{Key}
use Rattle.edit_script.specs.declared.key.Key.TheVariants as keys
use Rattle.edit_script.specs.Commands.{Command, Apply, Ask, number_of, bias_in, two_in, three_in, four_in, place_in, offset_in, splice_of, splices_of_items, edit_in, one, inlay_in, fold_in, show_in, member_in, key_of, command_at, command_named, command_of_value, value_of, command_of}

-- what the one gives the other gives too
abbrev Within : {X : Type 0} → Option X → Option X → Type 0
Within {X} a b = (x : X) → a ≡ Some x → b ≡ Some x

same : {X : Type 0} (a : Option X) → Within a a
same a x e = e

chained : {X Y : Type 0} (f g : X → Option Y) (a b : Option X) → Within a b → ((x : X) → Within (f x) (g x))
    → Within (option_and_then f a) (option_and_then g b)
chained f g None b h k y e = cc
chained f g (Some x) b h k y e = ap (option_and_then g) (h x refl) ∙ k x y e

mapped : {X Y : Type 0} (f : X → Y) (a b : Option X) → Within a b → Within (option_map f a) (option_map f b)
mapped f None b h y e = cc
mapped f (Some x) b h y e = ap (option_map f) (h x refl) ∙ e

place : (text : List ℕ) (value : Data) → Within (place_in First text value) (place_in Second text value)
place text value n e = ap (λ o. option_or o (offset_in text value)) e

splice : (text : List ℕ) (value : Data) → Within (splice_of First text value) (splice_of Second text value)
splice text value =
    chained _ _ (three_in value) (three_in value) (same (three_in value)) (λ v.
    chained _ _ (place_in First text v.0) (place_in Second text v.0) (place text v.0) (λ s.
    chained _ _ (place_in First text v.1) (place_in Second text v.1) (place text v.1) (λ e.
    same (option_map (λ t. record { start = s; end = e; text = t }) (as_str v.2)))))

splices : (text : List ℕ) (values : Items) → Within (splices_of_items First text values) (splices_of_items Second text values)
splices text no_items = same (Some [])
splices text (item value values) =
    chained _ _ (splice_of First text value) (splice_of Second text value) (splice text value) (λ s.
    mapped (λ ss. s ∷ ss) (splices_of_items First text values) (splices_of_items Second text values) (splices text values))

edit : (text : List ℕ) (value : Data) → Within (edit_in First text value) (edit_in Second text value)
edit text value =
    mapped (λ ss. Apply (Edit ss)) (option_and_then (splices_of_items First text) (as_array value)) (option_and_then (splices_of_items Second text) (as_array value))
    (chained (splices_of_items First text) (splices_of_items Second text) (as_array value) (as_array value) (same (as_array value)) (splices text))

inlay : (text : List ℕ) (value : Data) → Within (inlay_in First text value) (inlay_in Second text value)
inlay text value =
    chained _ _ (four_in value) (four_in value) (same (four_in value)) (λ v.
    chained _ _ (number_of v.0) (number_of v.0) (same (number_of v.0)) (λ id.
    chained _ _ (place_in First text v.1) (place_in Second text v.1) (place text v.1) (λ offset.
    same (option_and_then (λ bias. option_map (λ t. one (AddInlay (inlay_of id offset bias t))) (as_str v.3)) (bias_in v.2)))))

fold : (text : List ℕ) (value : Data) → Within (fold_in First text value) (fold_in Second text value)
fold text value =
    chained _ _ (three_in value) (three_in value) (same (three_in value)) (λ v.
    chained _ _ (number_of v.0) (number_of v.0) (same (number_of v.0)) (λ id.
    chained _ _ (place_in First text v.1) (place_in Second text v.1) (place text v.1) (λ s.
    mapped (λ e. one (AddFold (fold_of id s e))) (place_in First text v.2) (place_in Second text v.2) (place text v.2))))

display : (text : List ℕ) (value : Data) → Within (show_in First text value) (show_in Second text value)
display text value =
    chained _ _ (two_in value) (two_in value) (same (two_in value)) (λ v.
    chained _ _ (place_in First text v.0) (place_in Second text v.0) (place text v.0) (λ offset.
    same (option_map (λ bias. Ask (queries.Show offset bias)) (bias_in v.1))))

at-key : (text : List ℕ) (key : Key) (value : Data) → Within (command_at First text key value) (command_at Second text key value)
at-key text keys.Edit value = edit text value
at-key text keys.Inlay value = inlay text value
at-key text keys.Uninlay value = same (command_at First text keys.Uninlay value)
at-key text keys.Fold value = fold text value
at-key text keys.Unfold value = same (command_at First text keys.Unfold value)
at-key text keys.Block value = same (command_at First text keys.Block value)
at-key text keys.Unblock value = same (command_at First text keys.Unblock value)
at-key text keys.Tab value = same (command_at First text keys.Tab value)
at-key text keys.Width value = same (command_at First text keys.Width value)
at-key text keys.Settle value = same (command_at First text keys.Settle value)
at-key text keys.Rows value = same (command_at First text keys.Rows value)
at-key text keys.Peek value = same (command_at First text keys.Peek value)
at-key text keys.Display value = display text value
at-key text keys.Buffer value = same (command_at First text keys.Buffer value)
at-key text keys.Clip value = same (command_at First text keys.Clip value)
at-key text keys.Move value = same (command_at First text keys.Move value)
at-key text keys.Select value = same (command_at First text keys.Select value)

pub command_of-extends : (text line : List ℕ) (command : Command) → command_of First text line ≡ Some command → command_of Second text line ≡ Some command
command_of-extends text line =
    chained (command_of_value First text) (command_of_value Second text) (value_of line) (value_of line) (same (value_of line)) (λ value.
    chained (λ m. command_named First text m.0 m.1) (λ m. command_named Second text m.0 m.1) (member_in value) (member_in value) (same (member_in value)) (λ m.
    chained (λ key. command_at First text key m.1) (λ key. command_at Second text key m.1) (key_of m.0) (key_of m.0) (same (key_of m.0)) (λ key.
    at-key text key m.1)))
