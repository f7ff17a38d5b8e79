-- An edit that its view accepts is done in every view.
use Rattle.std.proofs.Common.{◌≡◌, ℕ, suc, ◌<◌, Bool, true, false, List, [], ◌∷◌, ◌++◌, length, map, Some, None, refl, sym, ap, ◌∙◌, subst, append_assoc, arith}
use Rattle.std.specs.Prelude.{◌||◌, ◌==◌, fold, if◌then◌else◌, option_map}
use Rattle.std.specs.List.{cons_option, list_all, list_any}
use Rattle.std.specs.Str.{is_utf8}
use Rattle.std.proofs.lemmas.Bool.{cond-true, eqb-true}
use Rattle.cell_units.specs.Operation.{Operation}
use Rattle.cell_units.specs.Record.{Record, opened}
use Rattle.display_sheet.specs.declared.change.Splice.{Splice}
use Rattle.display_sheet.specs.Changes.{ChangeParts, Edit, batch, edit_refusal, operated_all}
use Rattle.display_map.specs.Events.{Event, Line, Published}
use Rattle.display_map.specs.Replay.{History, appended, is_settled, present_of}
use Rattle.edit_script.specs.declared.asked.Form.TheVariants.{First}
use Rattle.edit_script.specs.Commands.{Apply, Command}
use Rattle.edit_script.specs.Verdict.{Accepted, command_verdict, ops_of, refused_or, verdict}
use Rattle.script_runner.specs.Entries.{Bytes, Edited, Entry, judged}
use Rattle.script_runner.specs.Going.{changed}
use Rattle.script_runner.specs.Legal.{is_line}
use Rattle.script_runner.specs.Outside.{SinkState, Takes}
use Rattle.script_runner.specs.Output.{printed, verdict_lines}
use Rattle.script_runner.proofs.Fronts.{takes-none}
use Rattle.script_runner.proofs.LastLine.{dids}
use Rattle.split_views.specs.Views.{history_of}
use Rattle.split_views.proofs.Texts.{text_on}
use Rattle.undo_line.specs.Inverse.{text_after}
use Rattle.undo_line.specs.TextLines.{TextLine, edited}
use Rattle.undo_line.specs.UndoParts.{UndoParts}
use Rattle.split_script.specs.Lines.{Own, SplitLine, prefixed}
use Rattle.split_script.specs.Met.{Edits, Met, Step, before_line, edit_in, editing, has_line_from, met, met_at, splices_in, step_of, steps_of, text_line}
use Rattle.split_script.specs.Output.{refuses}
use Rattle.split_script.specs.Parts.{batch_line, batch_of, entry_for, entry_of, part_of}
use Rattle.split_script.specs.Theorems.{SplitCourse}
use Rattle.split_script.proofs.Before.{before-next, there-line}
use Rattle.split_runner.specs.Going.{AreMoved, IsGoing, IsUnderWay, IsUndoAfter, at}
use Rattle.split_runner.proofs.Cases.{text-step}
use Rattle.split_runner.proofs.Edits.{batch-of-change, going-all, text-edited}
use Rattle.split_runner.proofs.ViewLines.{under-changed, under-line}

-- ---- the operations of a batch in one view

pub changed-quiet : (ops : List Operation) → list_any is_line (changed ops) ≡ false
changed-quiet [] = refl
changed-quiet (op ∷ ops) = go ops
  where
    go : (ops : List Operation) → list_any is_line (dids ops ++ Published false ∷ []) ≡ false
    go [] = refl
    go (op ∷ ops) = go ops

pub under-edit : (part : List (ℕ × Entry)) (h : History) (number : ℕ) (entry : Entry) (command : Command) (ops : List Operation)
    → IsUnderWay part h → is_settled (present_of h) ≡ true → judged (present_of h) entry ≡ Accepted command → ops_of command ≡ ops
    → IsUnderWay (part ++ (number, entry) ∷ []) (appended h (Line number ∷ changed ops))
under-edit part h number entry command [] under settled accepted are =
    under-line part h number entry under settled (λ other is. ap ops_of (same other (sym is ∙ accepted)) ∙ are)
  where
    same : (other : Command) → Accepted other ≡ Accepted command → other ≡ command
    same other e = cc
under-edit part h number entry command (op ∷ ops) under settled accepted are =
    let U : List Event → Type 0 = λ l. IsUnderWay (part ++ (number, entry) ∷ []) (record { opening = h.opening; events = l }) in
    subst U (append_assoc h.events (Line number ∷ dids (op ∷ ops)) (Published false ∷ []))
    (under-changed part h number entry under settled command accepted op ops are)

-- an edit from elsewhere is accepted where its ranges fit and its texts are UTF-8
pub edit-accepted : (r : Record) (splices : List Splice) → list_all (λ s. is_utf8 s.text) splices ≡ true → edit_refusal r splices ≡ None
    → judged r (Edited splices) ≡ Accepted (Apply (Edit splices))
edit-accepted r splices utf8 none =
    cond-true (list_all (λ s. is_utf8 s.text) splices) (command_verdict r (Apply (Edit splices))) _ utf8
    ∙ ap (refused_or (Apply (Edit splices))) none

-- ---- texts

none-of : (ops : List Operation) → (length ops == 0) ≡ true → ops ≡ []
none-of [] e = refl
none-of (op ∷ ops) e = absurd (let z : suc (length ops) ≡ 0 = eqb-true (suc (length ops)) 0 e in omega (arith, z))

pub edited-present : (splices : List Splice) (line : TextLine) → (edited splices line).present ≡ text_after line.present splices
edited-present splices line = by (length (batch splices) == 0) refl
  where
    by : (b : Bool) → (length (batch splices) == 0) ≡ b
        → (if b then line else record { past = line.present ∷ line.past; present = text_after line.present splices; future = [] }).present
        ≡ text_after line.present splices
    by true is = ap (λ ops. (operated_all ops (opened line.present)).text) (sym (none-of (batch splices) is))
    by false is = refl

published-kept : (ops : List Operation) → (tail : List Event) × (changed ops ≡ dids ops ++ tail) × ((text : List ℕ) → fold text_on text tail ≡ text)
published-kept [] = ([], refl, λ text. refl)
published-kept (op ∷ ops) = (Published false ∷ [], refl, λ text. refl)

pub text-changed : (h : History) (text : List ℕ) (number : ℕ) (splices : List Splice) → (present_of h).text ≡ text
    → (present_of (appended h (Line number ∷ changed (batch splices)))).text ≡ text_after text splices
text-changed h text number splices same =
    let it = published-kept (batch splices) in
    ap (λ es. (present_of (appended h (Line number ∷ es))).text) it.1 ∙ text-edited h text number splices it.0 same it.2

-- ---- the line

module _ (course : SplitCourse) (done : List (ℕ × SplitLine)) (refused : Bool) (old new : List History) (undo undo' : UndoParts) (sink : SinkState)
    (number view : ℕ) (bytes : List ℕ) (change : ChangeParts) (splices : List Splice) (going : IsGoing course done refused (at old undo sink))
    (next : number ≡ suc (length done)) (lt : view < course.views)
    (settled : (v : ℕ) → v < course.views → is_settled (present_of (history_of old v)) ≡ true)
    (is : verdict First (present_of (history_of old view)) bytes ≡ Accepted (Apply change)) (edit : splices_in change ≡ Some splices)
    (utf8 : list_all (λ s. is_utf8 s.text) splices ≡ true)
    (fits : (v : ℕ) → v < course.views → edit_refusal (present_of (history_of old v)) splices ≡ None)
    (moved : AreMoved old new (λ v. Line number ∷ changed (batch splices))) where
  abbrev h : History
  h = history_of old view

  abbrev past : List Step
  past = steps_of old done

  abbrev m : Met
  m = record { number = number; line = Own view bytes; before = h; past = past }

  own-new : history_of new view ≡ appended h (Line number ∷ changed (batch splices))
  own-new = moved.each view (subst (λ n. view < n) (sym going.views.count) lt)

  is-met : met_at new past (number, Own view bytes) ≡ m
  is-met =
      let P : History → Met = λ k. record { number = number; line = Own view bytes; before = k; past = past } in
      ap P (ap (before_line number) own-new
      ∙ before-next number h (changed (batch splices)) (ap (λ n. has_line_from n h.events) next ∙ going.below view lt))

  step-is : step_of m ≡ Edits splices
  step-is = ap (λ v. editing (edit_in v)) is ∙ ap editing edit

  entry-is : (v : ℕ) → entry_of course.text v m ≡ Some (number, (if view == v then Bytes First bytes else Edited splices))
  entry-is v =
      ap (λ s. option_map {U = ℕ × Entry} (λ entry. (number, entry)) (entry_for v (batch_of (batch_line course.text past) s) (Own view bytes))) step-is ∙ either (view == v)
    where
      either : (b : Bool) → option_map {U = ℕ × Entry} (λ entry. (number, entry)) (if b then Some (Bytes First bytes) else option_map Edited (Some splices))
          ≡ Some (number, (if b then Bytes First bytes else Edited splices))
      either true = refl
      either false = refl

  -- what is known of the entry of a view
  under-view : (v : ℕ) → v < course.views → (b : Bool) → (view == v) ≡ b
      → IsUnderWay (part_of course.text v (met old done) ++ (number, (if b then Bytes First bytes else Edited splices)) ∷ [])
      (appended (history_of old v) (Line number ∷ changed (batch splices)))
  under-view v less true e =
      let same : view ≡ v = eqb-true view v e in
      let accepted : judged (present_of (history_of old v)) (Bytes First bytes) ≡ Accepted (Apply change) =
      ap (λ u. verdict First (present_of (history_of old u)) bytes) (sym same) ∙ is in
      under-edit (part_of course.text v (met old done)) (history_of old v) number (Bytes First bytes) (Apply change) (batch splices)
      (going.under_way v less) (settled v less) accepted (batch-of-change change splices edit)
  under-view v less false e =
      under-edit (part_of course.text v (met old done)) (history_of old v) number (Edited splices) (Apply (Edit splices)) (batch splices)
      (going.under_way v less) (settled v less) (edit-accepted (present_of (history_of old v)) splices utf8 (fits v less)) refl

  pub going-edit : IsUndoAfter course.text (past ++ Edits splices ∷ []) undo'
      → IsGoing course (done ++ (number, Own view bytes) ∷ []) (refused || refuses course.text m) (at new undo' sink)
  going-edit undone =
      let line = text_line course.text past in
      going-all course done refused old new undo undo' sink sink (number, Own view bytes) m (changed (batch splices)) going next moved
      (changed-quiet (batch splices)) is-met
      (ap (λ (k : History). has_line_from number k.events) own-new ∙ there-line number h.events (changed (batch splices)))
      (λ v less. subst (λ o. IsUnderWay (part_of course.text v (met old done) ++ cons_option o []) (appended (history_of old v) (Line number ∷ changed (batch splices))))
      (sym (entry-is v)) (under-view v less (view == v) refl))
      (λ v less. text-changed (history_of old v) line.present number splices (going.present v less)
      ∙ (sym (edited-present splices line)
      ∙ ap (λ t. t.present) (sym (ap (λ s. text_line course.text (past ++ s ∷ [])) step-is ∙ text-step course.text past (Edits splices)))))
      (subst (λ s. IsUndoAfter course.text (past ++ s ∷ []) undo') (sym step-is) undone)
      (subst (λ v. Takes (printed (map (prefixed view) (verdict_lines h v) ++ [])) sink sink) (sym is) (takes-none sink))
