-- A line of a view that asks for no change, or is refused: its line is noted, and its answer is written.
use Rattle.std.proofs.Common.{◌≡◌, ◌≢◌, ℕ, suc, ◌<◌, Bool, true, false, List, [], ◌∷◌, ◌++◌, length, map, None, refl, sym, ap, ◌∙◌, subst, length-set}
use Rattle.std.specs.Prelude.{◌||◌, ◌==◌, if◌then◌else◌}
use Rattle.std.proofs.lemmas.Bool.{eqb-false, eqb-true}
use Rattle.std.proofs.lemmas.List.{append-nil, get_or-set_other, get_or-set_same}
use Rattle.cell_units.specs.Text.{line_feed}
use Rattle.cell_units.specs.declared.fault.Refusal.{Refusal}
use Rattle.display_map.specs.Events.{Event, Line}
use Rattle.display_map.specs.Replay.{History, appended, is_settled, present_of}
use Rattle.edit_script.specs.declared.asked.Form.TheVariants.{First}
use Rattle.edit_script.specs.Commands.{Command}
use Rattle.edit_script.specs.Verdict.{Accepted, Refused, Verdict, ops_of, verdict}
use Rattle.script_runner.specs.Entries.{Bytes}
use Rattle.script_runner.specs.Output.{printed, printed_with, verdict_lines}
use Rattle.script_runner.specs.Outside.{SinkState, Takes}
use Rattle.script_runner.proofs.Fronts.{takes-same}
use Rattle.split_views.specs.Views.{appended_in, history_of}
use Rattle.split_views.proofs.Texts.{text-appended}
use Rattle.undo_line.specs.UndoParts.{UndoParts}
use Rattle.split_script.specs.Lines.{Own, SplitLine, prefixed}
use Rattle.split_script.specs.Met.{Met, edit_in, met, steps_of, verdict_on}
use Rattle.split_script.specs.Output.{answered, is_refused}
use Rattle.split_script.specs.Parts.{part_of}
use Rattle.split_script.specs.Theorems.{SplitCourse}
use Rattle.split_runner.specs.Going.{AreMoved, IsGoing, at}
use Rattle.split_runner.proofs.OwnLines.{going-own, in_view}
use Rattle.split_runner.proofs.ViewLines.{under-line}

-- ---- one view alone goes on

unopened : History
unopened = record { opening = []; events = [] }

pub moved-in : (hs : List History) (view : ℕ) (more : List Event) → view < length hs → AreMoved hs (appended_in hs view more) (in_view view more)
moved-in hs view more lt =
    record { count = length-set hs view (appended (history_of hs view) more); each = λ v less. by v (view == v) refl }
  where
    by : (v : ℕ) → (b : Bool) → (view == v) ≡ b
        → history_of (appended_in hs view more) v ≡ appended (history_of hs v) (if view == v then more else [])
    by v true is =
        let same : view ≡ v = eqb-true view v is in
        let P : ℕ → Type 0 = λ u. history_of (appended_in hs view more) u ≡ appended (history_of hs u) more in
        subst P same (get_or-set_same hs view (appended (history_of hs view) more) (record { opening = []; events = [] }) lt)
        ∙ ap (λ b. appended (history_of hs v) (if b then more else [])) (sym is)
    by v false is =
        let apart : v ≢ view = λ e. eqb-false view v is (sym e) in
        get_or-set_other hs view v (appended (history_of hs view) more) (record { opening = []; events = [] }) apart
        ∙ (ap (λ l. record { opening = (history_of hs v).opening; events = l }) (sym (append-nil (history_of hs v).events))
        ∙ ap (λ b. appended (history_of hs v) (if b then more else [])) (sym is))

-- ---- what is written

prefixed-printed : (view : ℕ) (lines : List (List ℕ)) → printed_with (prefixed view []) lines ≡ printed (map (prefixed view) lines)
prefixed-printed view [] = refl
prefixed-printed view (line ∷ lines) = ap (λ l. prefixed view (line ++ line_feed ∷ []) ++ l) (prefixed-printed view lines)

pub own-printed : (text : List ℕ) (m : Met) (view : ℕ) (bytes : List ℕ) → m.line ≡ Own view bytes
    → printed_with (prefixed view []) (verdict_lines m.before (verdict_on m.before bytes)) ≡ answered text (m ∷ [])
own-printed text m view bytes is =
    prefixed-printed view (verdict_lines m.before (verdict_on m.before bytes))
    ∙ (ap printed (sym (append-nil (map (prefixed view) (verdict_lines m.before (verdict_on m.before bytes)))))
    ∙ ap (λ l. answered text (record m { line = l } ∷ [])) (sym is))

-- ---- the line

-- a verdict that changes nothing
pub record IsCalmVerdict (v : Verdict) : Type 0 where
  pub idle : (command : Command) → v ≡ Accepted command → ops_of command ≡ []
  pub calm : edit_in v ≡ None

pub refused-calm : (refusal : Refusal) → IsCalmVerdict (Refused refusal)
refused-calm refusal = record { idle = λ command e. cc; calm = refl }

module _ (course : SplitCourse) (done : List (ℕ × SplitLine)) (refused : Bool) (hs : List History) (undo : UndoParts) (sink sink' : SinkState)
    (number view : ℕ) (bytes : List ℕ) (v : Verdict) (going : IsGoing course done refused (at hs undo sink)) (next : number ≡ suc (length done))
    (lt : view < course.views) (settled : is_settled (present_of (history_of hs view)) ≡ true)
    (is : verdict First (present_of (history_of hs view)) bytes ≡ v) (calm : IsCalmVerdict v) where
  abbrev h : History
  h = history_of hs view

  abbrev m : Met
  m = record { number = number; line = Own view bytes; before = h; past = steps_of hs done }

  pub going-answered : Takes (printed_with (prefixed view []) (verdict_lines h v)) sink sink'
      → IsGoing course (done ++ (number, Own view bytes) ∷ []) (refused || is_refused v) (at (appended_in hs view (Line number ∷ [])) undo sink')
  going-answered written =
      let within : view < length hs = subst (λ n. view < n) (sym going.views.count) lt in
      let G : Bool → Type 0 = λ b. IsGoing course (done ++ (number, Own view bytes) ∷ []) (refused || b) (at (appended_in hs view (Line number ∷ [])) undo sink') in
      subst G (ap is_refused is)
      (going-own course done refused hs (appended_in hs view (Line number ∷ [])) undo sink sink' number view bytes [] going next lt
      (moved-in hs view (Line number ∷ []) within) refl (ap edit_in is ∙ calm.calm)
      (under-line (part_of course.text view (met hs done)) h number (Bytes First bytes) (going.under_way view lt) settled
      (λ command e. calm.idle command (sym is ∙ e)))
      (text-appended h (Line number ∷ []))
      (takes-same sink sink' (printed_with (prefixed view []) (verdict_lines h v)) (answered course.text (m ∷ []))
      (ap (λ x. printed_with (prefixed view []) (verdict_lines h x)) (sym is) ∙ own-printed course.text m view bytes refl) written))
