-- What a line asks on a text.
use Rattle.std.proofs.Common.{◌≡◌, ℕ, ◌≤◌, Bool, true, false, List, Option, None, length, refl, sym, ap, ◌∙◌, subst, if◌then◌else◌}
use Rattle.std.specs.Prelude.{Result, Ok, Err, Some, OnOk, IfOk, IfErr}
use Rattle.cell_units.specs.declared.fault.Refusal.{Refusal}
use Rattle.cell_units.specs.declared.fault.Refusal.TheVariants.{BadRange}
use Rattle.cell_units.specs.declared.fault.Fault.{Fault}
use Rattle.cell_units.specs.declared.fault.Fault.TheVariants as faults
use Rattle.cell_units.specs.Record.{Record}
use Rattle.cell_units.specs.Text.{is_boundary}
use Rattle.display_sheet.specs.declared.change.Change.{Change}
use Rattle.display_map.specs.Replay.{History, present_of}
use Rattle.edit_script.specs.declared.asked.Asked.{Asked}
use Rattle.edit_script.specs.declared.asked.Asked.TheVariants as asks
use Rattle.edit_script.specs.declared.asked.CaretQuery.{CaretQuery}
use Rattle.edit_script.specs.declared.asked.Query.{Query}
use Rattle.edit_script.specs.declared.asked.Query.TheVariants as queries
use Rattle.edit_script.specs.declared.asked.Form.{Form}
use Rattle.edit_script.specs.Commands.{Ask, command_of, meaning}
use Rattle.edit_script.specs.declared.blank.TheConstants.{LINE_LIMIT}
use Rattle.edit_script.specs.Verdict.{IsLineRefused, is_over, refused_or, command_refusal, query_refusal}
use Rattle.script_runner.specs.Legal.{needs_settled}
use Rattle.script_runner.specs.Going.{IsReadOn, IsUnreadOn, IsPrepared, IsPreparedFor, query_verdict, read_wants_settled}

pub read_on : (form : Form) (text line : List ℕ) (result : Result Asked Fault) → OnOk result (length line ≤ LINE_LIMIT) →
    IfOk result (λ asked. command_of form text line ≡ Some (meaning asked)) → IfOk result (λ asked. is_over (meaning asked) ≡ false) →
    IfOk result (IsReadOn form text line)
read_on form text line (Ok asked) within command fits = record { within = within; command = command; fits = fits }
read_on form text line (Err fault) within command fits = tt

pub unread_on : (form : Form) (text line : List ℕ) (result : Result Asked Fault) → IfErr result (IsLineRefused form text line) →
    IfErr result (IsUnreadOn form text line)
unread_on form text line (Ok asked) refused = tt
unread_on form text line (Err (faults.Refused refusal)) refused = refused
unread_on form text line (Err faults.NoMemory) refused = tt

-- what was read of a line on a text that stays
pub read-still : (form : Form) (old new line : List ℕ) (asked : Asked) → new ≡ old → IsReadOn form old line asked → IsReadOn form new line asked
read-still form old new line asked e read = let P : List ℕ → Type 0 = λ text. IsReadOn form text line asked in subst P (sym e) read

pub unread-still : (form : Form) (old new line : List ℕ) (fault : Fault) → new ≡ old → IsUnreadOn form old line fault → IsUnreadOn form new line fault
unread-still form old new line fault e unread = let P : List ℕ → Type 0 = λ text. IsUnreadOn form text line fault in subst P (sym e) unread

-- what is known of a line that was read so
pub read-as : (form : Form) (text line : List ℕ) (r : Result Asked Fault) (asked : Asked) → r ≡ Ok asked → IfOk r (IsReadOn form text line)
    → IsReadOn form text line asked
read-as form text line r asked e it = let P : Result Asked Fault → Type 0 = λ r. IfOk r (IsReadOn form text line) in subst P e it

pub unread-as : (form : Form) (text line : List ℕ) (r : Result Asked Fault) (fault : Fault) → r ≡ Err fault → IfErr r (IsUnreadOn form text line)
    → IsUnreadOn form text line fault
unread-as form text line r fault e it = let P : Result Asked Fault → Type 0 = λ r. IfErr r (IsUnreadOn form text line) in subst P e it

-- ---- what was read, and whether it wants the display settled

calm-change : (change : Change) (o : Option Refusal) → needs_settled (Some (refused_or (meaning (asks.Change change)) o)) ≡ false
calm-change change None = refl
calm-change change (Some refusal) = refl

-- a question is refused for the text alone
query-text : (r s : Record) (query : Query) → r.text ≡ s.text → query_refusal r query ≡ query_refusal s query
query-text r s (queries.Rows first count) e = refl
query-text r s (queries.Peek first count) e = refl
query-text r s (queries.Show offset bias) e =
    let refusal : List ℕ → Option Refusal = λ text. if is_boundary text offset then None else Some BadRange in ap refusal e
query-text r s (queries.Back spot bias) e = refl
query-text r s (queries.Clip spot bias) e = refl

module _ (old new : History) (read : Result Asked Fault) (settles : Bool) (judged : settles ≡ read_wants_settled (present_of old) read)
    (prepared : IsPrepared settles new) where
  prepared-as : (b : Bool) → read_wants_settled (present_of old) read ≡ b → IsPrepared b new
  prepared-as b e = let P : Bool → Type 0 = λ b. IsPrepared b new in subst P (judged ∙ e) prepared

  pub prepared-unread : (fault : Fault) → read ≡ Err fault → IsPrepared false new
  prepared-unread fault e = prepared-as false (ap (read_wants_settled (present_of old)) e)

  module _ (asked : Asked) (it : read ≡ Ok asked) where
    wants : (other : Asked) → asked ≡ other → read_wants_settled (present_of old) read ≡ read_wants_settled (present_of old) (Ok other)
    wants other e = ap (read_wants_settled (present_of old)) it ∙ ap (λ a. read_wants_settled (present_of old) (Ok a)) e

    pub prepared-change : (change : Change) → asked ≡ asks.Change change → IsPrepared false new
    prepared-change change e =
        prepared-as false (wants (asks.Change change) e ∙ calm-change change (command_refusal (present_of old) (meaning (asks.Change change))))

    pub prepared-caret : (query : CaretQuery) → asked ≡ asks.Caret query → IsPrepared true new
    prepared-caret query e = prepared-as true (wants (asks.Caret query) e)

    pub prepared-settle : asked ≡ asks.Settle → IsPrepared true new
    prepared-settle e = prepared-as true (wants asks.Settle e)

    pub prepared-query : (query : Query) → asked ≡ asks.Query query → (present_of new).text ≡ (present_of old).text
        → IsPreparedFor (query_verdict new query) new
    prepared-query query e same =
        prepared-as (needs_settled (Some (query_verdict new query)))
        (wants (asks.Query query) e
        ∙ ap (λ o. needs_settled (Some (refused_or (Ask query) o))) (sym (query-text (present_of new) (present_of old) query same)))
