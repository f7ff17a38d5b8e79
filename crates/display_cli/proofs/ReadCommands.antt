-- What a command inserts that is read from a line is UTF-8.
use Rattle.std.proofs.Common.{◌≡◌, ℕ, Bool, true, false, List, [], ◌∷◌, length, Option, Some, None, option_map, All, IfSome, IsUtf8, refl, subst}
use Rattle.std.specs.Prelude.{⊤, nat_lt, codes, bytes_eq, if◌then◌else◌, option_and_then}
use Rattle.std.specs.List.{list_all}
use Rattle.std.specs.Str.{is_utf8}
use Rattle.std.proofs.lemmas.Bool.{and_parts, cond_both}
use Rattle.std.proofs.lemmas.List.Elements.{All-cons, All-nil}
use Rattle.std.proofs.lemmas.Str.{IsUtf8-from_is_utf8}
use Rattle.serde_json.specs.Data.{Data, Items, Members, array, boolean, item, member, no_items, no_members, null, number, object, string}
use Rattle.serde_json.specs.Find.{as_array, as_bool, as_object, as_str}
use Rattle.serde_json.specs.Read.{read}
use Rattle.cell_units.specs.declared.fault.Refusal.{Refusal}
use Rattle.cell_units.specs.declared.fault.Refusal.TheVariants.{BadNumber, NotCommand, TooLong}
use Rattle.cell_units.specs.Record.{Record}
use Rattle.display_sheet.specs.declared.change.Splice.{Splice}
use Rattle.display_sheet.specs.Changes.{Edit}
use Rattle.display_map.specs.LawfulStates.{ChangeInsertsUtf8}
use Rattle.edit_script.specs.declared.asked.Form.{Form}
use Rattle.edit_script.specs.declared.blank.TheConstants.{LINE_LIMIT}
use Rattle.edit_script.specs.Commands.{Apply, Ask, AskCaret, Command, Settle, aim_in, bias_in, command_at, command_named, command_of, command_of_value, four_in, member_in, move_in, number_in, number_of, numbers_in, only_member, place_in, select_in, side_in, splice_of, splices_of_items, texts_in, texts_of_items, three_in, two_in, value_of}
use Rattle.edit_script.specs.Verdict.{Accepted, Refused, Verdict, command_refusal, command_verdict, form_verdict, is_over, refused_or, verdict}
use Rattle.script_runner.specs.Entries.{Bytes, Edited, Entry, judged}
use Rattle.display_cli.proofs.ReadValues.{AreUtf8Items, AreUtf8Members, IsUtf8Data, all_mapped, chained, read-utf8}
use Rattle.display_cli.proofs.SpelledStrings.{either, onward}

-- ---- parts of a value

abbrev AreUtf8 : List (List ℕ) → Type 0
AreUtf8 texts = All IsUtf8 texts

abbrev InsertUtf8 : List Splice → Type 0
InsertUtf8 splices = All (λ s. IsUtf8 s.text) splices

each_mapped : {A B : Type 0} (Q : B → Type 0) (f : A → B) → ((a : A) → Q (f a)) → (o : Option A) → IfSome (option_map f o) Q
each_mapped Q f k None = tt
each_mapped Q f k (Some a) = k a

str-utf8 : (value : Data) → IsUtf8Data value → IfSome (as_str value) IsUtf8
str-utf8 null u = tt
str-utf8 (boolean b) u = tt
str-utf8 (number n) u = tt
str-utf8 (string s) u = u
str-utf8 (array ds) u = tt
str-utf8 (object ms) u = tt

array-utf8 : (value : Data) → IsUtf8Data value → IfSome (as_array value) AreUtf8Items
array-utf8 null u = tt
array-utf8 (boolean b) u = tt
array-utf8 (number n) u = tt
array-utf8 (string s) u = tt
array-utf8 (array ds) u = u
array-utf8 (object ms) u = tt

object-utf8 : (value : Data) → IsUtf8Data value → IfSome (as_object value) AreUtf8Members
object-utf8 null u = tt
object-utf8 (boolean b) u = tt
object-utf8 (number n) u = tt
object-utf8 (string s) u = tt
object-utf8 (array ds) u = tt
object-utf8 (object ms) u = u

abbrev AreThree : Data × Data × Data → Type 0
AreThree v = IsUtf8Data v.0 × IsUtf8Data v.1 × IsUtf8Data v.2

three-utf8 : (value : Data) → IsUtf8Data value → IfSome (three_in value) AreThree
three-utf8 null u = tt
three-utf8 (boolean b) u = tt
three-utf8 (number n) u = tt
three-utf8 (string s) u = tt
three-utf8 (array no_items) u = tt
three-utf8 (array (item a no_items)) u = tt
three-utf8 (array (item a (item b no_items))) u = tt
three-utf8 (array (item a (item b (item c no_items)))) u = (u.0, u.1.0, u.1.1.0)
three-utf8 (array (item a (item b (item c (item d ds))))) u = tt
three-utf8 (object ms) u = tt

abbrev AreFour : Data × Data × Data × Data → Type 0
AreFour v = IsUtf8Data v.0 × IsUtf8Data v.1 × IsUtf8Data v.2 × IsUtf8Data v.3

four-utf8 : (value : Data) → IsUtf8Data value → IfSome (four_in value) AreFour
four-utf8 null u = tt
four-utf8 (boolean b) u = tt
four-utf8 (number n) u = tt
four-utf8 (string s) u = tt
four-utf8 (array no_items) u = tt
four-utf8 (array (item a no_items)) u = tt
four-utf8 (array (item a (item b no_items))) u = tt
four-utf8 (array (item a (item b (item c no_items)))) u = tt
four-utf8 (array (item a (item b (item c (item d no_items))))) u = (u.0, u.1.0, u.1.1.0, u.1.1.1.0)
four-utf8 (array (item a (item b (item c (item d (item e ds)))))) u = tt
four-utf8 (object ms) u = tt

texts-utf8 : (ds : Items) → AreUtf8Items ds → IfSome (texts_of_items ds) AreUtf8
texts-utf8 no_items u = All-nil IsUtf8
texts-utf8 (item value ds) u =
    chained IsUtf8 AreUtf8 _ (λ t x. all_mapped AreUtf8 AreUtf8 _ (λ ts y. All-cons IsUtf8 t ts x y) (texts_of_items ds) (texts-utf8 ds u.1)) (as_str value) (str-utf8 value u.0)

splice-utf8 : (form : Form) (text : List ℕ) (value : Data) → IsUtf8Data value → IfSome (splice_of form text value) (λ s. IsUtf8 s.text)
splice-utf8 form text value u =
    let P : Splice → Type 0 = λ s. IsUtf8 s.text in
    chained AreThree P _ (λ v h. onward P _ (place_in form text v.0) (λ start e. onward P _ (place_in form text v.1) (λ end f. all_mapped IsUtf8 P _ (λ t x. x) (as_str v.2) (str-utf8 v.2 h.2))))
    (three_in value) (three-utf8 value u)

splices-utf8 : (form : Form) (text : List ℕ) (ds : Items) → AreUtf8Items ds → IfSome (splices_of_items form text ds) InsertUtf8
splices-utf8 form text no_items u = All-nil (λ (s : Splice). IsUtf8 s.text)
splices-utf8 form text (item value ds) u =
    let P : Splice → Type 0 = λ s. IsUtf8 s.text in
    chained P InsertUtf8 _ (λ s x. all_mapped InsertUtf8 InsertUtf8 _ (λ ss y. All-cons P s ss x y) (splices_of_items form text ds) (splices-utf8 form text ds u.1))
    (splice_of form text value) (splice-utf8 form text value u.0)

-- ---- commands

-- what a command inserts is UTF-8
abbrev pub CommandInsertsUtf8 : Command → Type 0
CommandInsertsUtf8 (Apply change) = ChangeInsertsUtf8 change
CommandInsertsUtf8 (Ask query) = ⊤
CommandInsertsUtf8 (AskCaret query) = ⊤
CommandInsertsUtf8 Settle = ⊤

abbrev MayInsert : Option Command → Type 0
MayInsert command = IfSome command CommandInsertsUtf8

-- of two keys, one by a test, each with a value whose texts are UTF-8
by_test : {K : Type 0} (f : K → Option Command) (b : Bool) (x y : Option K) → MayInsert (option_and_then f x) → MayInsert (option_and_then f y) →
    MayInsert (option_and_then f (if b then x else y))
by_test f true x y here there = here
by_test f false x y here there = there

-- what is read for a key, of one value
abbrev for_value : {K : Type 0} → (K → Data → Option Command) → Data → K → Option Command
for_value read value key = read key value

named-utf8 : (form : Form) (text name : List ℕ) (value : Data) → IsUtf8Data value → MayInsert (command_named form text name value)
named-utf8 form text name value u =
    let Q = CommandInsertsUtf8 in
    let f = for_value (command_at form text) value in
    by_test f (bytes_eq name (codes "edit")) _ _
    (all_mapped InsertUtf8 CommandInsertsUtf8 _ (λ ss h. h) _ (chained AreUtf8Items InsertUtf8 (splices_of_items form text) (splices-utf8 form text) (as_array value) (array-utf8 value u))) (
    by_test f (bytes_eq name (codes "inlay")) _ _
    (chained AreFour Q _ (λ v h. onward Q _ (number_of v.0) (λ id e. onward Q _ (place_in form text v.1) (λ offset f. onward Q _ (bias_in v.2) (λ bias g. all_mapped IsUtf8 Q _ (λ t x. x) (as_str v.3) (str-utf8 v.3 h.3))))) (four_in value) (four-utf8 value u)) (
    by_test f (bytes_eq name (codes "uninlay")) _ _
    (each_mapped CommandInsertsUtf8 _ (λ id. tt) (number_of value)) (
    by_test f (bytes_eq name (codes "fold")) _ _
    (onward Q _ (three_in value) (λ v e. onward Q _ (number_of v.0) (λ id f. onward Q _ (place_in form text v.1) (λ start g. each_mapped Q _ (λ end. tt) (place_in form text v.2))))) (
    by_test f (bytes_eq name (codes "unfold")) _ _
    (each_mapped CommandInsertsUtf8 _ (λ id. tt) (number_of value)) (
    by_test f (bytes_eq name (codes "block")) _ _
    (chained AreFour Q _ (λ v h. onward Q _ (number_of v.0) (λ id e. onward Q _ (side_in v.1) (λ side f. onward Q _ (number_in v.2) (λ row g. all_mapped AreUtf8 Q _ (λ lines x. x) (texts_in v.3) (chained AreUtf8Items AreUtf8 texts_of_items texts-utf8 (as_array v.3) (array-utf8 v.3 h.3)))))) (four_in value) (four-utf8 value u)) (
    by_test f (bytes_eq name (codes "unblock")) _ _
    (each_mapped CommandInsertsUtf8 _ (λ id. tt) (number_of value)) (
    by_test f (bytes_eq name (codes "tab")) _ _
    (each_mapped CommandInsertsUtf8 _ (λ size. tt) (number_in value)) (
    by_test f (bytes_eq name (codes "width")) _ _
    (each_mapped CommandInsertsUtf8 _ (λ cells. tt) (number_in value)) (
    by_test f (bytes_eq name (codes "settle")) _ _
    (onward CommandInsertsUtf8 _ (as_bool value) (λ b e. either CommandInsertsUtf8 b (Some Settle) None (λ f. tt) (λ f. tt))) (
    by_test f (bytes_eq name (codes "rows")) _ _
    (each_mapped CommandInsertsUtf8 _ (λ n. tt) (numbers_in value)) (
    by_test f (bytes_eq name (codes "peek")) _ _
    (each_mapped CommandInsertsUtf8 _ (λ n. tt) (numbers_in value)) (
    by_test f (bytes_eq name (codes "display")) _ _
    (onward Q _ (two_in value) (λ v e. onward Q _ (place_in form text v.0) (λ offset f. each_mapped Q _ (λ bias. tt) (bias_in v.1)))) (
    by_test f (bytes_eq name (codes "buffer")) _ _
    (each_mapped CommandInsertsUtf8 _ (λ a. tt) (aim_in value)) (
    by_test f (bytes_eq name (codes "clip")) _ _
    (each_mapped CommandInsertsUtf8 _ (λ a. tt) (aim_in value)) (
    by_test f (bytes_eq name (codes "move")) _ _
    (each_mapped CommandInsertsUtf8 AskCaret (λ query. tt) (move_in value)) (
    by_test f (bytes_eq name (codes "select")) _ _
    (each_mapped CommandInsertsUtf8 AskCaret (λ query. tt) (select_in value)) (
    tt)))))))))))))))))

-- the one member of an object
only-utf8 : (ms : Members) → AreUtf8Members ms → IfSome (only_member ms) (λ m. IsUtf8Data m.1)
only-utf8 no_members u = tt
only-utf8 (member name value no_members) u = u.0
only-utf8 (member name value (member other more ms)) u = tt

value-utf8 : (form : Form) (text : List ℕ) (value : Data) → IsUtf8Data value → MayInsert (command_of_value form text value)
value-utf8 form text value u =
    let M : List ℕ × Data → Type 0 = λ m. IsUtf8Data m.1 in
    chained M CommandInsertsUtf8 _ (λ m h. named-utf8 form text m.0 m.1 h)
    (member_in value) (chained AreUtf8Members M only_member only-utf8 (as_object value) (object-utf8 value u))

command-utf8 : (form : Form) (text line : List ℕ) → MayInsert (command_of form text line)
command-utf8 form text line =
    chained IsUtf8Data CommandInsertsUtf8 (command_of_value form text) (value-utf8 form text) (value_of line)
    (either IsUtf8Data (is_utf8 line) (read line) None (λ e. read-utf8 line (IsUtf8-from_is_utf8 line e)) (λ e. tt))

-- ---- verdicts

-- a command that a record accepts
pub record IsAcceptedOn (r : Record) (command : Command) : Type 0 where
  pub inserts : CommandInsertsUtf8 command
  pub unrefused : command_refusal r command ≡ None

abbrev IfAccepted : Record → Verdict → Type 0
IfAccepted r (Refused refusal) = ⊤
IfAccepted r (Accepted command) = IsAcceptedOn r command

by_refusal : (r : Record) (command : Command) (owed : Option Refusal) → command_refusal r command ≡ owed → CommandInsertsUtf8 command → IfAccepted r (refused_or command owed)
by_refusal r command None e u = record { inserts = u; unrefused = e }
by_refusal r command (Some refusal) e u = tt

by_command : (r : Record) (command : Option Command) → MayInsert command → IfAccepted r (form_verdict r command)
by_command r None u = tt
by_command r (Some command) u =
    cond_both (is_over command) (Refused BadNumber) (refused_or command (command_refusal r command)) (IfAccepted r) (λ e. tt)
    (λ e. by_refusal r command (command_refusal r command) refl u)

by_line : (form : Form) (r : Record) (line : List ℕ) → IfAccepted r (verdict form r line)
by_line form r line =
    cond_both (nat_lt LINE_LIMIT (length line)) (Refused TooLong) (form_verdict r (command_of form r.text line)) (IfAccepted r) (λ e. tt)
    (λ e. by_command r (command_of form r.text line) (command-utf8 form r.text line))

-- texts that are tested one by one
tested-utf8 : (splices : List Splice) → list_all (λ s. is_utf8 s.text) splices ≡ true → InsertUtf8 splices
tested-utf8 [] e = All-nil (λ (s : Splice). IsUtf8 s.text)
tested-utf8 (s ∷ splices) e =
    let P : Splice → Type 0 = λ s. IsUtf8 s.text in
    let parts = and_parts (is_utf8 s.text) (list_all (λ s. is_utf8 s.text) splices) e in
    All-cons P s splices (IsUtf8-from_is_utf8 s.text parts.0) (tested-utf8 splices parts.1)

pub accepted-on : (r : Record) (entry : Entry) (command : Command) → judged r entry ≡ Accepted command → IsAcceptedOn r command
accepted-on r (Bytes form line) command e = subst (IfAccepted r) e (by_line form r line)
accepted-on r (Edited splices) command e =
    subst (IfAccepted r) e
    (cond_both (list_all (λ s. is_utf8 s.text) splices) (command_verdict r (Apply (Edit splices))) (Refused NotCommand) (IfAccepted r)
    (λ u. by_command r (Some (Apply (Edit splices))) (tested-utf8 splices u)) (λ u. tt))
