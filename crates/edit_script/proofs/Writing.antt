-- The line that is written for an edit or a question for rows is read as that.
use Rattle.std.proofs.Common.{◌≡◌, ℕ, suc, ◌<◌, ◌≤◌, ◌^◌, min, List, [], ◌∷◌, ◌++◌, codes, Bool, true, false, decimal, Some, option_map, option_and_then, refl, sym, ap, ◌∙◌, append-nil, arith}
use Rattle.std.specs.List.{All}
use Rattle.std.specs.Str.{IsUtf8}
use Rattle.std.proofs.lemmas.Str.{IsUtf8-append, IsUtf8-from_ascii, IsUtf8-nil}
use Rattle.std.proofs.lemmas.Fmt.{IsAscii-decimal}
use Rattle.json.specs.Lex.{tokens}
use Rattle.json.specs.Json as json
use Rattle.json.specs.Tree as tree
use Rattle.json.specs.Print.{quoted}
use Rattle.json.proofs.Printed.Tokens.{tokens-print}
use Rattle.json.proofs.Printed.Trees.{value-json_tokens, ArePrintable-json_tokens}
use Rattle.json.proofs.Printed.Decimals.{IsNumber-decimal}
use Rattle.json.proofs.Printed.Utf8.{are_ascii, IsUtf8-are_ascii, IsUtf8-quoted}
use Rattle.serde_json.specs.Data.{Data, unsigned, number, array, object, Items, no_items, item, no_members, put}
use Rattle.serde_json.specs.Read.{of_json, of_items, of_members, read, max_depth}
use Rattle.serde_json.specs.Written.{outline, items_outline, compact_text, items_text, comma_if}
use Rattle.serde_json.proofs.Numbers.{number_of-decimal}
use Rattle.serde_json.proofs.Texts.{print-outline}
use Rattle.display_sheet.specs.declared.change.Splice.{Splice}
use Rattle.display_sheet.specs.Changes.{Edit}
use Rattle.edit_script.specs.declared.asked.Form.TheVariants.{First}
use Rattle.edit_script.specs.declared.asked.Query.TheVariants as queries
use Rattle.edit_script.specs.Commands.{Command, Apply, Ask, greatest_number, splices_of_items, command_named, command_of}
use Rattle.edit_script.specs.Laws.{splice_data, splices_data, keyed, written_edit, written_rows, IsWritable}
use Rattle.edit_script.proofs.Lines.{command_of-read}

-- a value whose outline reads as it is read from its text
read-compact_text : (d : Data) → tree.HasNumbers (outline d) → of_json (outline d) ≡ Some d → tree.depth (outline d) ≤ max_depth → read (compact_text d) ≡ Some d
read-compact_text d numbers same shallow =
    let printed : tokens (compact_text d) ≡ tree.json_tokens (outline d) =
    ap tokens (sym (print-outline d)) ∙ tokens-print (tree.json_tokens (outline d)) (ArePrintable-json_tokens (outline d) numbers) in
    ap (λ ts. option_and_then of_json (option_and_then (λ p. json.if_last p.0 p.1) (json.value max_depth ts))) (printed ∙ sym (append-nil _))
    ∙ ap (λ o. option_and_then of_json (option_and_then (λ p. json.if_last p.0 p.1) o)) (value-json_tokens (outline d) max_depth [] shallow)
    ∙ same

small : (n : ℕ) → n ≤ greatest_number → n < 2 ^ 64
small n h = omega arith

of_json-decimal : (n : ℕ) → n ≤ greatest_number → of_json (json.number (decimal n)) ≡ Some (number (unsigned n))
of_json-decimal n h = ap (option_map number) (number_of-decimal n (small n h))

-- ---- replacements

numbers-splices : (ss : List Splice) → All IsWritable ss → tree.ItemsHaveNumbers (items_outline (splices_data ss))
numbers-splices [] h = tt
numbers-splices (s ∷ ss) h =
    let first = h 0 s (omega arith) in
    ((IsNumber-decimal s.start (small s.start first.0), (IsNumber-decimal s.end (small s.end first.1), (tt, tt))), numbers-splices ss (λ k d l. h (suc k) d (omega arith)))

of_items-pair : (a b : json.Json) (rest : json.Items) (x y : Data) (zs : Items) → of_json a ≡ Some x → of_json b ≡ Some y → of_items rest ≡ Some zs
    → of_items (json.item a (json.item b rest)) ≡ Some (item x (item y zs))
of_items-pair a b rest x y zs p q r = rw (p, q, r) refl

of_json-splice : (s : Splice) → IsWritable s → of_json (outline (splice_data s)) ≡ Some (splice_data s)
of_json-splice s h =
    ap (option_map array) (of_items-pair (json.number (decimal s.start)) (json.number (decimal s.end)) (json.item (json.string s.text) json.no_items) _ _ _ (of_json-decimal s.start h.0) (of_json-decimal s.end h.1) refl)

of_items-splices : (ss : List Splice) → All IsWritable ss → of_items (items_outline (splices_data ss)) ≡ Some (splices_data ss)
of_items-splices [] h = refl
of_items-splices (s ∷ ss) h =
    rw (of_json-splice s (h 0 s (omega arith)), of_items-splices ss (λ k d l. h (suc k) d (omega arith))) refl

depth-splices : (ss : List Splice) → tree.items_depth (items_outline (splices_data ss)) ≤ 1
depth-splices [] = omega arith
depth-splices (s ∷ ss) = let rest = depth-splices ss in omega arith

kept : (n : ℕ) → n ≤ greatest_number → min n greatest_number ≡ n
kept n h = omega arith

with_numbers : Splice → ℕ → ℕ → Splice
with_numbers s start end = record { start = start; end = end; text = s.text }

capped : (s : Splice) → IsWritable s → with_numbers s (min s.start greatest_number) (min s.end greatest_number) ≡ s
unfolding with_numbers
capped s h = ap (λ n. with_numbers s n (min s.end greatest_number)) (kept s.start h.0) ∙ ap (with_numbers s s.start) (kept s.end h.1)

splices-splices : (text : List ℕ) (ss : List Splice) → All IsWritable ss → splices_of_items First text (splices_data ss) ≡ Some ss
unfolding with_numbers
splices-splices text [] h = refl
splices-splices text (s ∷ ss) h =
    ap (option_map (λ rest. with_numbers s (min s.start greatest_number) (min s.end greatest_number) ∷ rest)) (splices-splices text ss (λ k d l. h (suc k) d (omega arith)))
    ∙ ap (λ (first : Splice). Some (first ∷ ss)) (capped s (h 0 s (omega arith)))

-- ---- UTF-8

-- an ASCII byte before a text
byte_then : (b : ℕ) → are_ascii (b ∷ []) ≡ true → (rest : List ℕ) → IsUtf8 rest → IsUtf8 (b ∷ rest)
byte_then b e rest u = IsUtf8-append (b ∷ []) rest (IsUtf8-are_ascii (b ∷ []) e) u

number_then : (n : ℕ) → n ≤ greatest_number → (rest : List ℕ) → IsUtf8 rest → IsUtf8 (decimal n ++ rest)
number_then n h rest u = IsUtf8-append (decimal n) rest (IsUtf8-from_ascii (decimal n) (IsAscii-decimal n (small n h))) u

IsUtf8-comma_if : (later : Bool) → IsUtf8 (comma_if later)
IsUtf8-comma_if true = IsUtf8-are_ascii (44 ∷ []) refl
IsUtf8-comma_if false = IsUtf8-nil

IsUtf8-splice : (s : Splice) → IsWritable s → IsUtf8 (compact_text (splice_data s))
IsUtf8-splice s h =
    byte_then 91 refl _ (number_then s.start h.0 _ (byte_then 44 refl _ (number_then s.end h.1 _ (byte_then 44 refl _
    (IsUtf8-append (quoted s.text) (93 ∷ []) (IsUtf8-quoted s.text h.2) (IsUtf8-are_ascii (93 ∷ []) refl))))))

IsUtf8-splices : (later : Bool) (ss : List Splice) → All IsWritable ss → IsUtf8 (items_text later (splices_data ss))
IsUtf8-splices later [] h = IsUtf8-are_ascii (93 ∷ []) refl
IsUtf8-splices later (s ∷ ss) h =
    IsUtf8-append (comma_if later) _ (IsUtf8-comma_if later)
    (IsUtf8-append (compact_text (splice_data s)) _ (IsUtf8-splice s (h 0 s (omega arith))) (IsUtf8-splices true ss (λ k d l. h (suc k) d (omega arith))))

IsUtf8-keyed : (key : List ℕ) (values : Items) → IsUtf8 key → IsUtf8 (items_text false values) → IsUtf8 (compact_text (keyed key values))
IsUtf8-keyed key values k u =
    byte_then 123 refl _ (IsUtf8-append (quoted key) _ (IsUtf8-quoted key k) (byte_then 58 refl _ (byte_then 91 refl _ (IsUtf8-append (items_text false values) (125 ∷ []) u (IsUtf8-are_ascii (125 ∷ []) refl)))))

-- ---- commands

-- what is read of the line of a key and its values
read-keyed : (key : List ℕ) (values : Items) → tree.ItemsHaveNumbers (items_outline values) → of_items (items_outline values) ≡ Some values → tree.items_depth (items_outline values) ≤ 1
    → read (compact_text (keyed key values)) ≡ Some (keyed key values)
read-keyed key values numbers same shallow =
    read-compact_text (keyed key values) (numbers, tt)
    (ap (λ o. option_map object (option_and_then (λ d. of_members json.no_members (put key d no_members)) (option_map array o))) same) (omega arith)

command_of-keyed : (text key : List ℕ) (values : Items) (command : Command) → IsUtf8 key → IsUtf8 (items_text false values)
    → read (compact_text (keyed key values)) ≡ Some (keyed key values) → command_named First text key (array values) ≡ Some command
    → command_of First text (compact_text (keyed key values)) ≡ Some command
command_of-keyed text key values command k u found is =
    sym (command_of-read First text (compact_text (keyed key values)) (keyed key values) (IsUtf8-keyed key values k u) found) ∙ is

pub command_of-written_edit : (text : List ℕ) (ss : List Splice) → All IsWritable ss → command_of First text (written_edit ss) ≡ Some (Apply (Edit ss))
command_of-written_edit text ss h =
    command_of-keyed text (codes "edit") (splices_data ss) (Apply (Edit ss)) (IsUtf8-are_ascii (codes "edit") refl) (IsUtf8-splices false ss h)
    (read-keyed (codes "edit") (splices_data ss) (numbers-splices ss h) (of_items-splices ss h) (depth-splices ss)) (ap (option_map (λ (splices : List Splice). Apply (Edit splices))) (splices-splices text ss h))

pub command_of-written_rows : (text : List ℕ) (first count : ℕ) → first ≤ greatest_number → count ≤ greatest_number
    → command_of First text (written_rows first count) ≡ Some (Ask (queries.Rows first count))
command_of-written_rows text first count f g =
    let values : Items = item (number (unsigned first)) (item (number (unsigned count)) no_items) in
    command_of-keyed text (codes "rows") values (Ask (queries.Rows first count)) (IsUtf8-are_ascii (codes "rows") refl)
    (number_then first f _ (byte_then 44 refl _ (number_then count g _ (IsUtf8-are_ascii (93 ∷ []) refl))))
    (read-keyed (codes "rows") values (IsNumber-decimal first (small first f), (IsNumber-decimal count (small count g), tt))
    (of_items-pair (json.number (decimal first)) (json.number (decimal count)) json.no_items _ _ _ (of_json-decimal first f) (of_json-decimal count g) refl) (omega arith))
    (ap (λ n. Some (Ask (queries.Rows n (min count greatest_number)))) (kept first f) ∙ ap (λ n. Some (Ask (queries.Rows first n))) (kept count g))
