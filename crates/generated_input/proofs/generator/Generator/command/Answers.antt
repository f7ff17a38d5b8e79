use Rattle.std.proofs.Common.{◌≡◌, ◌≤◌, ◌+◌, ◌++◌, ℕ, Result, Ok, Err, IfOk, OnOk, string_bytes, ap, sym, ◌∙◌, subst, arith}
use Rattle.generated_input.specs.Drawing.{Drawn, draw}
use Rattle.generated_input.specs.Made.{ScriptLine, edit_line, script_line}
use Rattle.generated_input.proofs.Scripts.{chosen_line-edit, script_line-of_choice}
use Rattle.generated_input.proofs.Sizes.{edit-length}
use Rattle.generated_input.proofs.generator.Generator.command.Goals as goal

pub returns-in_ok-inlay-in-4-clause-written : goal.returns-in_ok-inlay-in-4-clause-written
returns-in_ok-inlay-in-4-clause-written c =
    let chosen = script_line-of_choice c.args.number c.args.text_length c.args.self.now.state 4 c.draw.new.self.state (sym c.in-4.is ∙ c.draw.ensures.value) c.draw.ensures.state in
    c.in_ok-inlay-in-4.ensures.written ∙ ap (λ (drawn : Drawn ScriptLine). string_bytes c.args.out.now ++ drawn.value.bytes) chosen

pub returns-in_ok-inlay-in-4-clause-length : goal.returns-in_ok-inlay-in-4-clause-length
returns-in_ok-inlay-in-4-clause-length c =
    let chosen = script_line-of_choice c.args.number c.args.text_length c.args.self.now.state 4 c.draw.new.self.state (sym c.in-4.is ∙ c.draw.ensures.value) c.draw.ensures.state in
    ap (λ (drawn : Drawn ScriptLine). drawn.value.text_length) chosen

pub returns-in_ok-inlay-in-4-clause-state : goal.returns-in_ok-inlay-in-4-clause-state
returns-in_ok-inlay-in-4-clause-state c =
    let chosen = script_line-of_choice c.args.number c.args.text_length c.args.self.now.state 4 c.draw.new.self.state (sym c.in-4.is ∙ c.draw.ensures.value) c.draw.ensures.state in
    c.in_ok-inlay-in-4.ensures.state ∙ ap (λ (drawn : Drawn ScriptLine). drawn.state) chosen

pub returns-in_ok-fold-in-5-clause-written : goal.returns-in_ok-fold-in-5-clause-written
returns-in_ok-fold-in-5-clause-written c =
    let chosen = script_line-of_choice c.args.number c.args.text_length c.args.self.now.state 5 c.draw.new.self.state (sym c.in-5.is ∙ c.draw.ensures.value) c.draw.ensures.state in
    c.in_ok-fold-in-5.ensures.written ∙ ap (λ (drawn : Drawn ScriptLine). string_bytes c.args.out.now ++ drawn.value.bytes) chosen

pub returns-in_ok-fold-in-5-clause-length : goal.returns-in_ok-fold-in-5-clause-length
returns-in_ok-fold-in-5-clause-length c =
    let chosen = script_line-of_choice c.args.number c.args.text_length c.args.self.now.state 5 c.draw.new.self.state (sym c.in-5.is ∙ c.draw.ensures.value) c.draw.ensures.state in
    ap (λ (drawn : Drawn ScriptLine). drawn.value.text_length) chosen

pub returns-in_ok-fold-in-5-clause-state : goal.returns-in_ok-fold-in-5-clause-state
returns-in_ok-fold-in-5-clause-state c =
    let chosen = script_line-of_choice c.args.number c.args.text_length c.args.self.now.state 5 c.draw.new.self.state (sym c.in-5.is ∙ c.draw.ensures.value) c.draw.ensures.state in
    c.in_ok-fold-in-5.ensures.state ∙ ap (λ (drawn : Drawn ScriptLine). drawn.state) chosen

pub returns-in_ok-block-in-6-clause-written : goal.returns-in_ok-block-in-6-clause-written
returns-in_ok-block-in-6-clause-written c =
    let chosen = script_line-of_choice c.args.number c.args.text_length c.args.self.now.state 6 c.draw.new.self.state (sym c.in-6.is ∙ c.draw.ensures.value) c.draw.ensures.state in
    c.in_ok-block-in-6.ensures.written ∙ ap (λ (drawn : Drawn ScriptLine). string_bytes c.args.out.now ++ drawn.value.bytes) chosen

pub returns-in_ok-block-in-6-clause-length : goal.returns-in_ok-block-in-6-clause-length
returns-in_ok-block-in-6-clause-length c =
    let chosen = script_line-of_choice c.args.number c.args.text_length c.args.self.now.state 6 c.draw.new.self.state (sym c.in-6.is ∙ c.draw.ensures.value) c.draw.ensures.state in
    ap (λ (drawn : Drawn ScriptLine). drawn.value.text_length) chosen

pub returns-in_ok-block-in-6-clause-state : goal.returns-in_ok-block-in-6-clause-state
returns-in_ok-block-in-6-clause-state c =
    let chosen = script_line-of_choice c.args.number c.args.text_length c.args.self.now.state 6 c.draw.new.self.state (sym c.in-6.is ∙ c.draw.ensures.value) c.draw.ensures.state in
    c.in_ok-block-in-6.ensures.state ∙ ap (λ (drawn : Drawn ScriptLine). drawn.state) chosen

pub returns-in_ok-width-in-7-clause-written : goal.returns-in_ok-width-in-7-clause-written
returns-in_ok-width-in-7-clause-written c =
    let chosen = script_line-of_choice c.args.number c.args.text_length c.args.self.now.state 7 c.draw.new.self.state (sym c.in-7.is ∙ c.draw.ensures.value) c.draw.ensures.state in
    c.in_ok-width-in-7.ensures.written ∙ ap (λ (drawn : Drawn ScriptLine). string_bytes c.args.out.now ++ drawn.value.bytes) chosen

pub returns-in_ok-width-in-7-clause-length : goal.returns-in_ok-width-in-7-clause-length
returns-in_ok-width-in-7-clause-length c =
    let chosen = script_line-of_choice c.args.number c.args.text_length c.args.self.now.state 7 c.draw.new.self.state (sym c.in-7.is ∙ c.draw.ensures.value) c.draw.ensures.state in
    ap (λ (drawn : Drawn ScriptLine). drawn.value.text_length) chosen

pub returns-in_ok-width-in-7-clause-state : goal.returns-in_ok-width-in-7-clause-state
returns-in_ok-width-in-7-clause-state c =
    let chosen = script_line-of_choice c.args.number c.args.text_length c.args.self.now.state 7 c.draw.new.self.state (sym c.in-7.is ∙ c.draw.ensures.value) c.draw.ensures.state in
    c.in_ok-width-in-7.ensures.state ∙ ap (λ (drawn : Drawn ScriptLine). drawn.state) chosen

pub returns-in_ok-rows-in-8-clause-written : goal.returns-in_ok-rows-in-8-clause-written
returns-in_ok-rows-in-8-clause-written c =
    let chosen = script_line-of_choice c.args.number c.args.text_length c.args.self.now.state 8 c.draw.new.self.state (sym c.in-8.is ∙ c.draw.ensures.value) c.draw.ensures.state in
    c.in_ok-rows-in-8.ensures.written ∙ ap (λ (drawn : Drawn ScriptLine). string_bytes c.args.out.now ++ drawn.value.bytes) chosen

pub returns-in_ok-rows-in-8-clause-length : goal.returns-in_ok-rows-in-8-clause-length
returns-in_ok-rows-in-8-clause-length c =
    let chosen = script_line-of_choice c.args.number c.args.text_length c.args.self.now.state 8 c.draw.new.self.state (sym c.in-8.is ∙ c.draw.ensures.value) c.draw.ensures.state in
    ap (λ (drawn : Drawn ScriptLine). drawn.value.text_length) chosen

pub returns-in_ok-rows-in-8-clause-state : goal.returns-in_ok-rows-in-8-clause-state
returns-in_ok-rows-in-8-clause-state c =
    let chosen = script_line-of_choice c.args.number c.args.text_length c.args.self.now.state 8 c.draw.new.self.state (sym c.in-8.is ∙ c.draw.ensures.value) c.draw.ensures.state in
    c.in_ok-rows-in-8.ensures.state ∙ ap (λ (drawn : Drawn ScriptLine). drawn.state) chosen

pub returns-in_ok-display-in_default-clause-written : goal.returns-in_ok-display-in_default-clause-written
returns-in_ok-display-in_default-clause-written c =
    let nine : c.draw.result ≡ 9 = omega (arith, c.draw.ensures.below) in
    let chosen = script_line-of_choice c.args.number c.args.text_length c.args.self.now.state 9 c.draw.new.self.state (sym nine ∙ c.draw.ensures.value) c.draw.ensures.state in
    c.in_ok-display-in_default.ensures.written ∙ ap (λ (drawn : Drawn ScriptLine). string_bytes c.args.out.now ++ drawn.value.bytes) chosen

pub returns-in_ok-display-in_default-clause-length : goal.returns-in_ok-display-in_default-clause-length
returns-in_ok-display-in_default-clause-length c =
    let nine : c.draw.result ≡ 9 = omega (arith, c.draw.ensures.below) in
    let chosen = script_line-of_choice c.args.number c.args.text_length c.args.self.now.state 9 c.draw.new.self.state (sym nine ∙ c.draw.ensures.value) c.draw.ensures.state in
    ap (λ (drawn : Drawn ScriptLine). drawn.value.text_length) chosen

pub returns-in_ok-display-in_default-clause-state : goal.returns-in_ok-display-in_default-clause-state
returns-in_ok-display-in_default-clause-state c =
    let nine : c.draw.result ≡ 9 = omega (arith, c.draw.ensures.below) in
    let chosen = script_line-of_choice c.args.number c.args.text_length c.args.self.now.state 9 c.draw.new.self.state (sym nine ∙ c.draw.ensures.value) c.draw.ensures.state in
    c.in_ok-display-in_default.ensures.state ∙ ap (λ (drawn : Drawn ScriptLine). drawn.state) chosen

-- the line of a choice up to 3 is the edit
edit_chosen : (number length start choice state : ℕ) → choice ≤ 3 → choice ≡ (draw 10 start).value → state ≡ (draw 10 start).state → edit_line length state ≡ script_line number length start
edit_chosen number length start choice state few choice-is state-is =
    chosen_line-edit choice number length state few ∙ script_line-of_choice number length start choice state choice-is state-is

at_most : {E : Type 0} (result : Result ℕ E) (length most : ℕ) → length ≤ most → IfOk result (λ n. n ≡ length) → IfOk result (λ n. n ≤ most)
at_most (Ok n) length most within is = omega (arith, within, is)
at_most (Err e) length most within is = is

pub returns-in-0-to-3-clause-written : goal.returns-in-0-to-3-clause-written
returns-in-0-to-3-clause-written c =
    subst (λ (drawn : Drawn ScriptLine). OnOk c.edit.result (string_bytes c.edit.new.out ≡ string_bytes c.args.out.now ++ drawn.value.bytes))
    (edit_chosen c.args.number c.args.text_length c.args.self.now.state c.draw.result c.draw.new.self.state (omega arith) c.draw.ensures.value c.draw.ensures.state) c.edit.ensures.written

pub returns-in-0-to-3-clause-length : goal.returns-in-0-to-3-clause-length
returns-in-0-to-3-clause-length c =
    subst (λ (drawn : Drawn ScriptLine). IfOk c.edit.result (λ n. n ≡ drawn.value.text_length))
    (edit_chosen c.args.number c.args.text_length c.args.self.now.state c.draw.result c.draw.new.self.state (omega arith) c.draw.ensures.value c.draw.ensures.state) c.edit.ensures.length

pub returns-in-0-to-3-clause-state : goal.returns-in-0-to-3-clause-state
returns-in-0-to-3-clause-state c =
    subst (λ (drawn : Drawn ScriptLine). OnOk c.edit.result (c.edit.new.self.state ≡ drawn.state))
    (edit_chosen c.args.number c.args.text_length c.args.self.now.state c.draw.result c.draw.new.self.state (omega arith) c.draw.ensures.value c.draw.ensures.state) c.edit.ensures.state

pub returns-in-0-to-3-clause-short : goal.returns-in-0-to-3-clause-short
returns-in-0-to-3-clause-short c =
    at_most c.edit.result (edit_line c.args.text_length c.draw.new.self.state).value.text_length (c.args.text_length + 9)
    (edit-length c.args.text_length c.draw.new.self.state) c.edit.ensures.length
