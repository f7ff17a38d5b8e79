-- What the end of a run on one display, or on several views, has from its reads, and which notes are owed.
use Rattle.std.proofs.Common.{◌≡◌, ◌≢◌, ℕ, ◌<◌, ◌≤◌, ◌⊎◌, inl, inr, false, true≢false, List, [], ◌++◌, length, Result, Ok, Err, Option, Some, None, refl, sym, ap, ◌∙◌, subst, arith, append_assoc}
use Rattle.std.specs.Prelude.{IfOk, IfSome, OnOk, OnErr}
use Rattle.std.specs.Str.{IsUtf8}
use Rattle.std.specs.Str.Lossy.{utf8_valid_len}
use Rattle.cell_units.specs.declared.limits.TheConstants.{TEXT_LIMIT}
use Rattle.cell_units.specs.declared.fault.TextFault.TheVariants.{NotUtf8}
use Rattle.cell_units.specs.Refusal.{IsAccepted, IsTextRefused}
use Rattle.display_map.specs.Replay.{History}
use Rattle.std.proofs.lemmas.List.{append-nil}
use Rattle.command_line.specs.declared.plan.Plan.{Plan}
use Rattle.script_runner.specs.declared.outside.Part.TheVariants as parts
use Rattle.script_runner.specs.declared.outside.Failed.{Failed}
use Rattle.display_cli.specs.declared.limits.TheConstants.{SCRIPT_LIMIT}
use Rattle.display_cli.specs.declared.ended.Note.{Note}
use Rattle.display_cli.specs.declared.ended.Note.TheVariants.{Fine, Usage, ReadText, ReadScript, Write, TextNotUtf8, TextTooLong, ScriptTooLong, JournalFull, Memory}
use Rattle.display_cli.specs.Notes.{note_line}
use Rattle.script_runner.specs.Outside.{Faults, InputState, SinkState, HasRisen, AreTold, Takes, TakesFront, count_between}
use Rattle.display_cli.specs.Ended.{Endings, EndsAs, Run, HasRead, given, text_of, script_of, HasText, ReadsInOrder, ends_at_text, IsTextUnfailed, IsScriptUnfailed, IsOwed, IsComplete, Says}
use Rattle.display_cli.specs.inside.Opening.{IsOpenedOn, IsTextUnread, IsScript, IsScriptUnread}
use Rattle.display_cli.specs.inside.Reading.{ReadsName}
use Rattle.script_runner.proofs.Fronts.{front-all}

-- ---- the reads of a run

pub reads-both : (plan : Plan) (note : Note) (a b c : InputState) → plan.make ≡ None → ends_at_text note ≡ false
    → ReadsName parts.Text plan.text TEXT_LIMIT a b → ReadsName parts.Script plan.script SCRIPT_LIMIT b c → ReadsInOrder plan note a.reads c.reads
reads-both plan note a b c named behind of_text of_script = record {
  text = of_text.reads;
  script = of_script.reads;
  made = of_script.made ∙ (ap (λ l. l ++ of_script.reads) of_text.made ∙ append_assoc a.reads of_text.reads of_script.reads);
  of_text = of_text.in_order;
  of_script = of_script.in_order;
  judged = λ e. absurd (true≢false (sym e ∙ behind));
  none = λ made. absurd (made named);
}

pub reads-text : (plan : Plan) (note : Note) (a b : InputState) → plan.make ≡ None → ReadsName parts.Text plan.text TEXT_LIMIT a b
    → ReadsInOrder plan note a.reads b.reads
reads-text plan note a b named of_text = record {
  text = of_text.reads;
  script = [];
  made = of_text.made ∙ ap (λ l. a.reads ++ l) (sym (append-nil of_text.reads));
  of_text = of_text.in_order;
  of_script = tt;
  judged = λ e. refl;
  none = λ made. absurd (made named);
}

pub reads-none : (plan : Plan) (note : Note) (a : InputState) → ReadsInOrder plan note a.reads a.reads
reads-none plan note a =
    record { text = []; script = []; made = sym (append-nil a.reads); of_text = tt; of_script = tt; judged = λ e. refl; none = λ made. refl }

-- a note of the script, or of its run, isn't of the text alone
pub unread-behind : (told : Option (List ℕ)) (old new : Faults) (note : Note) → IsScriptUnread told old new note → ends_at_text note ≡ false
unread-behind told old new ReadScript it = refl
unread-behind told old new ScriptTooLong it = refl
unread-behind told old new Memory it = refl
unread-behind told old new Fine it = absurd it
unread-behind told old new Usage it = absurd it
unread-behind told old new ReadText it = absurd it
unread-behind told old new (TextNotUtf8 at) it = absurd it
unread-behind told old new TextTooLong it = absurd it
unread-behind told old new Write it = absurd it
unread-behind told old new JournalFull it = absurd it

-- where a text or a script wasn't read and the note isn't of a read, none failed
pub text-passed : (told : Option (List ℕ)) (old new : Faults) (note : Note) → IsTextUnread told old new note → note ≢ ReadText → new ≡ old
text-passed told old new ReadText it unfailed = absurd (unfailed refl)
text-passed told old new TextTooLong it unfailed = it.0
text-passed told old new (TextNotUtf8 at) it unfailed = it.0
text-passed told old new Memory it unfailed = it
text-passed told old new Fine it unfailed = absurd it
text-passed told old new Usage it unfailed = absurd it
text-passed told old new ReadScript it unfailed = absurd it
text-passed told old new Write it unfailed = absurd it
text-passed told old new ScriptTooLong it unfailed = absurd it
text-passed told old new JournalFull it unfailed = absurd it

pub script-passed : (told : Option (List ℕ)) (old new : Faults) (note : Note) → IsScriptUnread told old new note → note ≢ ReadScript → new ≡ old
script-passed told old new ReadScript it unfailed = absurd (unfailed refl)
script-passed told old new ScriptTooLong it unfailed = it.0
script-passed told old new Memory it unfailed = it
script-passed told old new Fine it unfailed = absurd it
script-passed told old new Usage it unfailed = absurd it
script-passed told old new ReadText it unfailed = absurd it
script-passed told old new (TextNotUtf8 at) it unfailed = absurd it
script-passed told old new TextTooLong it unfailed = absurd it
script-passed told old new Write it unfailed = absurd it
script-passed told old new JournalFull it unfailed = absurd it

-- ---- what is told

told-accepted : {o : Option (List ℕ)} (b bytes : List ℕ) → o ≡ Some bytes → AreTold o b → IsAccepted b → IsAccepted bytes
told-accepted {o} b bytes is told accepted =
    let P : Option (List ℕ) → Type 0 = λ o. AreTold o b in
    let same : bytes ≡ b = subst P is told in
    let Q : List ℕ → Type 0 = IsAccepted in subst Q (sym same) accepted

told-fits : {o : Option (List ℕ)} (b bytes : List ℕ) → o ≡ Some bytes → AreTold o b → length b ≤ SCRIPT_LIMIT → length bytes ≤ SCRIPT_LIMIT
told-fits {o} b bytes is told fits =
    let P : Option (List ℕ) → Type 0 = λ o. AreTold o b in
    let same : bytes ≡ b = subst P is told in
    let Q : List ℕ → Type 0 = λ l. length l ≤ SCRIPT_LIMIT in subst Q (sym same) fits

-- a display that was started on what was read
pub opened-told : (told : Option (List ℕ)) (count : ℕ) (bytes slice : List ℕ) (r : Result History Note) → AreTold told bytes → length bytes ≡ count → slice ≡ bytes
    → IfOk r (IsOpenedOn (Some slice) (length slice)) → IfOk r (IsOpenedOn told count)
opened-told told count bytes slice (Ok display) tells counted same opened =
    let P : List ℕ → Type 0 = λ l. AreTold told l in
    (opened.0, subst P (sym same ∙ opened.1) tells, opened.2, opened.3, opened.4 ∙ (ap length same ∙ counted))
opened-told told count bytes slice (Err note) tells counted same opened = tt

-- what is told of names is what a plan of names has
pub named-text : (plan : Plan) (inputs : InputState) → plan.make ≡ None → inputs.told plan.text ≡ text_of plan inputs
named-text plan inputs named = ap (λ m. given m (inputs.told plan.text) (λ made. made.text)) (sym named)

pub named-script : (plan : Plan) (inputs : InputState) → plan.make ≡ None → inputs.told plan.script ≡ script_of plan inputs
named-script plan inputs named = ap (λ m. given m (inputs.told plan.script) (λ made. made.script)) (sym named)

-- ---- ends by their notes

module _ (plan : Plan) (run : Run) where
  -- a text and a script that were read
  abbrev pub has-read : (told : Option (List ℕ)) (count : ℕ) (display : History) (script : List ℕ)
      → IsOpenedOn (text_of plan run.inputs) count display → told ≡ script_of plan run.inputs → IsScript told script
      → (plan.make ≡ None → count ≡ count_between parts.Text run.inputs run.inputs_after)
      → (plan.make ≡ None → length script ≡ count_between parts.Script run.inputs run.inputs_after) → HasRead plan run
  has-read told count display script opened tells read of_text of_script =
      let T : Option (List ℕ) → Type 0 = λ o. IsScript o script in
      let script_read = subst T tells read in
      record {
        bytes = opened.0;
        script = script;
        text_told = opened.1;
        script_told = script_read.0;
        text_accepted = opened.2;
        script_fits = script_read.1;
        text_counted = λ named. opened.4 ∙ of_text named;
        script_counted = of_script;
      }

-- what ends of a run that began have in common: its text and its script were read, and a write failed where that ended it
pub record HaveRead (endings : Endings) (plan : Plan) (run : Run) : Type 0 where
  pub finished : endings.finished → HasRead plan run
  pub unwritten : endings.unwritten → HasRead plan run
  pub full : endings.full → HasRead plan run
  pub failed : endings.unwritten → HasRisen run.sink.faults run.sink_after.faults

module _ (endings : Endings) (plan : Plan) (run : Run) where
  -- no read failed
  abbrev Passed : Type 0
  Passed = run.inputs_after.faults ≡ run.inputs.faults

  -- a text that wasn't opened
  pub ends-unopened : (note : Note) → (note ≡ ReadText → plan.make ≡ None) → endings.refused → (Passed → endings.short)
      → IsTextUnread (text_of plan run.inputs) run.inputs.faults run.inputs_after.faults note → EndsAs endings plan run note
  ends-unopened ReadText named is of_short it = (is, it, named refl)
  ends-unopened TextTooLong named is of_short it = (is, it.1)
  ends-unopened (TextNotUtf8 at) named is of_short it = (is, it.1)
  ends-unopened Memory named is of_short it = of_short it
  ends-unopened Fine named is of_short it = absurd it
  ends-unopened Usage named is of_short it = absurd it
  ends-unopened ReadScript named is of_short it = absurd it
  ends-unopened Write named is of_short it = absurd it
  ends-unopened ScriptTooLong named is of_short it = absurd it
  ends-unopened JournalFull named is of_short it = absurd it

  unread-as : (note : Note) → plan.make ≡ None → endings.refused → (Passed → endings.short) → HasText plan run
      → IsScriptUnread (script_of plan run.inputs) run.inputs.faults run.inputs_after.faults note → EndsAs endings plan run note
  unread-as ReadScript named is of_short text it = (is, it, text, named)
  unread-as ScriptTooLong named is of_short text it = (is, it.1, text)
  unread-as Memory named is of_short text it = of_short it
  unread-as Fine named is of_short text it = absurd it
  unread-as Usage named is of_short text it = absurd it
  unread-as ReadText named is of_short text it = absurd it
  unread-as (TextNotUtf8 at) named is of_short text it = absurd it
  unread-as TextTooLong named is of_short text it = absurd it
  unread-as Write named is of_short text it = absurd it
  unread-as JournalFull named is of_short text it = absurd it

  -- a script that wasn't read, behind reads of the text that passed
  pub ends-unread : (note : Note) (told : Option (List ℕ)) (faults : Faults) (count : ℕ) (display : History) → plan.make ≡ None → endings.refused
      → (Passed → endings.short) → IsOpenedOn (text_of plan run.inputs) count display → told ≡ script_of plan run.inputs → faults ≡ run.inputs.faults
      → IsScriptUnread told faults run.inputs_after.faults note → EndsAs endings plan run note
  ends-unread note told faults count display named is of_short opened tells passed it =
      let T : Option (List ℕ) → Type 0 = λ o. IsScriptUnread o faults run.inputs_after.faults note in
      let F : Faults → Type 0 = λ f. IsScriptUnread (script_of plan run.inputs) f run.inputs_after.faults note in
      unread-as note named is of_short (opened.0, opened.1, opened.2) (subst F passed (subst T tells it))

  -- ---- what is owed

  module _ (have : HaveRead endings plan run) where
    read-text : (bytes : List ℕ) → text_of plan run.inputs ≡ Some bytes → HasRead plan run → IsAccepted bytes
    read-text bytes is read = told-accepted read.bytes bytes is read.text_told read.text_accepted

    read-script : (script : List ℕ) → script_of plan run.inputs ≡ Some script → HasRead plan run → length script ≤ SCRIPT_LIMIT
    read-script script is read = told-fits read.script script is read.script_told read.script_fits

    -- no memory, a text that is too long, one that isn't UTF-8, or one that is accepted
    TextEnd : Note → List ℕ → Type 0
    TextEnd note bytes =
        (note ≡ Memory) ⊎ (((note ≡ TextTooLong) × (TEXT_LIMIT < length bytes))
        ⊎ (((note ≡ TextNotUtf8 (utf8_valid_len bytes)) × (length bytes ≤ TEXT_LIMIT) × (IsUtf8 bytes → ⊥)) ⊎ IsAccepted bytes))

    text-end : (note : Note) (bytes : List ℕ) → EndsAs endings plan run note → text_of plan run.inputs ≡ Some bytes → IsTextUnfailed run → TextEnd note bytes
    unfolding TextEnd
    text-end Fine bytes it is unfailed = inr (inr (inr (read-text bytes is (have.finished it))))
    text-end Usage bytes it is unfailed = absurd it
    text-end ReadText bytes it is unfailed = absurd (unfailed it.1)
    text-end ReadScript bytes it is unfailed = inr (inr (inr (told-accepted it.2.0 bytes is it.2.1 it.2.2)))
    text-end Write bytes it is unfailed = inr (inr (inr (read-text bytes is (have.unwritten it))))
    text-end (TextNotUtf8 at) bytes it is unfailed =
        let P : Option (List ℕ) → Type 0 = λ o. IfSome o (λ bytes. IsTextRefused bytes (NotUtf8 at)) in
        let bad = subst P is it.1 in inr (inr (inl (ap (λ n. TextNotUtf8 n) bad.2, bad.0, bad.1)))
    text-end TextTooLong bytes it is unfailed =
        let P : Option (List ℕ) → Type 0 = λ o. IfSome o (λ bytes. TEXT_LIMIT < length bytes) in inr (inl (refl, subst P is it.1))
    text-end ScriptTooLong bytes it is unfailed = inr (inr (inr (told-accepted it.2.0 bytes is it.2.1 it.2.2)))
    text-end JournalFull bytes it is unfailed = inr (inr (inr (read-text bytes is (have.full it))))
    text-end Memory bytes it is unfailed = inl refl

    -- behind an accepted text: no memory, a script that is too long, or one that was run
    ScriptEnd : Note → List ℕ → Type 0
    ScriptEnd note script =
        (note ≡ Memory) ⊎ (((note ≡ ScriptTooLong) × (SCRIPT_LIMIT < length script))
        ⊎ ((length script ≤ SCRIPT_LIMIT) × ((note ≡ Fine) ⊎ ((note ≡ JournalFull) ⊎ HasRisen run.sink.faults run.sink_after.faults))))

    script-end : (note : Note) (bytes script : List ℕ) → EndsAs endings plan run note → text_of plan run.inputs ≡ Some bytes → script_of plan run.inputs ≡ Some script
        → IsTextUnfailed run → IsScriptUnfailed run → IsAccepted bytes → ScriptEnd note script
    unfolding ScriptEnd
    script-end Fine bytes script it is is' unfailed unfailed' accepted = inr (inr (read-script script is' (have.finished it), inl refl))
    script-end Usage bytes script it is is' unfailed unfailed' accepted = absurd it
    script-end ReadText bytes script it is is' unfailed unfailed' accepted = absurd (unfailed it.1)
    script-end ReadScript bytes script it is is' unfailed unfailed' accepted = absurd (unfailed' it.1)
    script-end Write bytes script it is is' unfailed unfailed' accepted = inr (inr (read-script script is' (have.unwritten it), inr (inr (have.failed it))))
    script-end (TextNotUtf8 at) bytes script it is is' unfailed unfailed' accepted =
        let P : Option (List ℕ) → Type 0 = λ o. IfSome o (λ bytes. IsTextRefused bytes (NotUtf8 at)) in let bad = subst P is it.1 in absurd (bad.1 accepted.1)
    script-end TextTooLong bytes script it is is' unfailed unfailed' accepted =
        let P : Option (List ℕ) → Type 0 = λ o. IfSome o (λ bytes. TEXT_LIMIT < length bytes) in
        let long = subst P is it.1 in let fits = accepted.0 in absurd (omega arith)
    script-end ScriptTooLong bytes script it is is' unfailed unfailed' accepted =
        let P : Option (List ℕ) → Type 0 = λ o. IfSome o (λ script. SCRIPT_LIMIT < length script) in inr (inl (refl, subst P is' it.1))
    script-end JournalFull bytes script it is is' unfailed unfailed' accepted = inr (inr (read-script script is' (have.full it), inr (inl refl)))
    script-end Memory bytes script it is is' unfailed unfailed' accepted = inl refl

    pub owed : EndsAs endings plan run run.note → IsOwed plan run
    unfolding TextEnd ScriptEnd
    owed it =
        record {
          too_long = λ bytes is unfailed long. elim (text-end run.note bytes it is unfailed) [
            | inl e ↦ inr e
            | inr (inl e) ↦ inl e.0
            | inr (inr (inl e)) ↦ absurd (let fits = e.1 in omega arith)
            | inr (inr (inr e)) ↦ absurd (let fits = e.0 in omega arith)
          ];
          not_utf8 = λ bytes at is unfailed bad. elim (text-end run.note bytes it is unfailed) [
            | inl e ↦ inr e
            | inr (inl e) ↦ absurd (let long = e.1 in let fits = bad.0 in omega arith)
            | inr (inr (inl e)) ↦ inl (e.0 ∙ ap (λ n. TextNotUtf8 n) (sym bad.2))
            | inr (inr (inr e)) ↦ absurd (bad.1 e.1)
          ];
          script_too_long = λ bytes script is is' unfailed unfailed' accepted long. elim (script-end run.note bytes script it is is' unfailed unfailed' accepted) [
            | inl e ↦ inr e
            | inr (inl e) ↦ inl e.0
            | inr (inr e) ↦ absurd (let fits = e.0 in omega arith)
          ];
        }

    pub complete : EndsAs endings plan run run.note → IsComplete plan run
    unfolding ScriptEnd
    complete it bytes script is is' accepted fits unfailed unfailed' unwritten =
        elim (script-end run.note bytes script it is is' unfailed unfailed' accepted) [
          | inl e ↦ inr (inl e)
          | inr (inl e) ↦ absurd (let long = e.1 in omega arith)
          | inr (inr (e, inl fine)) ↦ inl fine
          | inr (inr (e, inr (inl full))) ↦ inr (inr full)
          | inr (inr (e, inr (inr failed))) ↦ absurd (unwritten failed)
        ]

-- ---- what is said

-- what `say` answered is what the program says
pub says : (note : Note) (a b : SinkState) (r : Result (Unit {0}) Failed) → OnOk r (Takes (note_line note) a b) → OnErr r (TakesFront (note_line note) a b)
    → OnErr r (HasRisen a.faults b.faults) → Says note a b
says note a b (Ok done) whole front failed = record { front = front-all a b (note_line note) [] (note_line note) whole (append-nil (note_line note)); whole = λ unfailed. whole }
says note a b (Err error) whole front failed = record { front = front; whole = λ unfailed. absurd (unfailed failed) }
