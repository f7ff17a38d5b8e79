-- The handling of a line by what becomes of it.
use Rattle.std.proofs.Common.{◌≡◌, ℕ, Bool, List, Result, refl, sym, ap, ◌∙◌, subst}
use Rattle.cell_units.specs.declared.fault.Fault.{Fault}
use Rattle.cell_units.specs.declared.fault.Fault.TheVariants as faults
use Rattle.display_map.specs.Prepared.{IsOwed}
use Rattle.display_map.specs.Replay.{History, present_of}
use Rattle.display_sheet.specs.declared.change.Change.{Change}
use Rattle.display_sheet.specs.Changes.{change_refusal}
use Rattle.edit_script.specs.declared.asked.CaretQuery.{CaretQuery}
use Rattle.edit_script.specs.declared.asked.Query.{Query}
use Rattle.edit_script.specs.Answers.{IsUnanswered}
use Rattle.edit_script.specs.Commands.{Ask, AskCaret, Command, Settle}
use Rattle.edit_script.specs.Verdict.{Accepted, Verdict, ops_of, refused_or}
use Rattle.script_runner.specs.declared.stop.Stop.{Stop}
use Rattle.script_runner.specs.Outside.{SinkState}
use Rattle.split_views.specs.Views.{history_of}
use Rattle.undo_line.specs.UndoParts.{UndoParts}
use Rattle.split_runner.specs.Going.{HandlesOwn, HandlesQuery, HandlesUnread, Stage, at, change_verdict}
use Rattle.split_runner.proofs.EditHandled.{change-refused}
use Rattle.split_runner.proofs.OwnAnswers.{IsCalmVerdict}

same-command : (a b : Command) → Accepted a ≡ Accepted b → a ≡ b
same-command a b e = cc

pub caret-calm : (query : CaretQuery) → IsCalmVerdict (Accepted (AskCaret query))
caret-calm query = record { idle = λ command e. ap ops_of (sym (same-command (AskCaret query) command e)); calm = refl }

pub query-calm : (query : Query) → IsCalmVerdict (Accepted (Ask query))
query-calm query = record { idle = λ command e. ap ops_of (sym (same-command (Ask query) command e)); calm = refl }

pub settle-calm : IsCalmVerdict (Accepted Settle)
settle-calm = record { idle = λ command e. ap ops_of (sym (same-command Settle command e)); calm = refl }

-- of another form of the verdict
pub own-as : (number view : ℕ) (v v' : Verdict) (old new : Stage) (r : Result Bool Stop) → v ≡ v' → HandlesOwn number view v' old new r
    → HandlesOwn number view v old new r
own-as number view v v' old new r e handled bytes is = handled bytes (is ∙ e)

-- a question that wasn't answered
pub query-unread : (number view : ℕ) (query : Query) (fault : Fault) (old new : Stage) (r : Result Bool Stop)
    → IsUnanswered (present_of (history_of old.histories view)) query fault → HandlesUnread number view fault old new r
    → HandlesQuery number view query old new r
query-unread number view query (faults.Refused refusal) old new r owed handled bytes is =
    handled bytes (is ∙ ap (refused_or (Ask query)) owed)
query-unread number view query faults.NoMemory old new r owed handled bytes is = handled bytes

-- a change of one view that wasn't done
pub change-unread : (number view : ℕ) (change : Change) (fault : Fault) (hs hs' : List History) (undo : UndoParts) (sink : SinkState) (new : Stage)
    (r : Result Bool Stop) → hs' ≡ hs → IsOwed (change_refusal (present_of (history_of hs view)) change) fault
    → HandlesUnread number view fault (at hs' undo sink) new r
    → HandlesOwn number view (change_verdict (history_of hs view) change) (at hs undo sink) new r
change-unread number view change (faults.Refused refusal) hs hs' undo sink new r same owed handled bytes is =
    change-refused number view hs hs' new.histories undo undo new.undo sink new.sink change refusal r same
    (record { past = refl; future = refl; line = λ line it. it }) owed handled bytes is
change-unread number view change faults.NoMemory hs hs' undo sink new r same owed handled bytes is =
    let H : List History → Type 0 = λ l. HandlesUnread number view faults.NoMemory (at l undo sink) new r in
    let here : H hs = subst H same handled in here bytes
