use Rattle.std.proofs.Common.{◌≡◌, ◌≤◌, ◌++◌, ℕ, List, Vec, Global, length, string_bytes, ap, sym, ◌∙◌, subst}
use Rattle.cell_units.specs.declared.limits.TheConstants.{TEXT_LIMIT}
use Rattle.generated_input.specs.Laws.{IsPlain, script_limit}
use Rattle.generated_input.specs.Made.{drawn_input, made_of, script_lines, text_lines}
use Rattle.generated_input.proofs.Limits.{made_script_short, made_text_short}
use Rattle.generated_input.proofs.making.made.Goals as goal

-- the state that all is drawn from
seeded : (c : goal.After-into_bytes-2) → c.new-generator.result.state ≡ c.args.number
seeded c = c.new-generator.ensures ∙ c.from.ensures

-- what the code has written of the text
text_written : (c : goal.After-into_bytes-2) → string_bytes c.lines.new.out ≡ (text_lines 20000 c.args.number).value
text_written c =
    c.in_ok-lines.ensures.written ∙ ap (λ (l : List ℕ). l ++ (text_lines 20000 c.new-generator.result.state).value) c.new-text.ensures.bytes
    ∙ ap (λ (x : ℕ). (text_lines 20000 x).value) (seeded c)

made_text : (c : goal.After-into_bytes-2) → c.into_bytes.result.items ≡ (made_of c.args.number).text
unfolding made_of drawn_input
made_text c = ap (λ (v : Vec ℕ Global). v.items) c.into_bytes.ensures.value ∙ text_written c

made_script : (c : goal.After-into_bytes-2) → c.into_bytes-2.result.items ≡ (made_of c.args.number).script
unfolding made_of drawn_input
made_script c =
    let text = text_lines 20000 c.args.number in
    let size : c.len.result ≡ length text.value = c.len.ensures ∙ c.lines.new.out.bytes.ok.0 ∙ ap length (text_written c) in
    let behind : c.lines.new.self.state ≡ text.state = c.in_ok-lines.ensures.state ∙ ap (λ (x : ℕ). (text_lines 20000 x).state) (seeded c) in
    ap (λ (v : Vec ℕ Global). v.items) c.into_bytes-2.ensures.value ∙ c.in_ok-commands.ensures.written
    ∙ ap (λ (l : List ℕ). l ++ (script_lines 400 1 c.len.result c.lines.new.self.state).value) c.new-script.ensures.bytes
    ∙ ap (λ (n : ℕ). (script_lines 400 1 n c.lines.new.self.state).value) size
    ∙ ap (λ (x : ℕ). (script_lines 400 1 (length text.value) x).value) behind

pub returns-clause-made : goal.returns-clause-made
returns-clause-made c = (made_text c, made_script c)

pub returns-clause-plain : goal.returns-clause-plain
returns-clause-plain c =
    (subst IsPlain (sym (made_text c)) (made_text_short c.args.number).plain, subst IsPlain (sym (made_script c)) (made_script_short c.args.number).plain)

pub returns-clause-fits : goal.returns-clause-fits
returns-clause-fits c = (
  subst (λ (l : List ℕ). length l ≤ TEXT_LIMIT) (sym (made_text c)) (made_text_short c.args.number).size,
  subst (λ (l : List ℕ). length l ≤ script_limit) (sym (made_script c)) (made_script_short c.args.number).size,
)
