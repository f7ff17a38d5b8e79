-- The lines of a script, one after the other.
use Rattle.std.proofs.Common.{◌≡◌, ℕ, ◌+◌, ◌-◌, ◌<◌, ◌≤◌, suc, Bool, true, nat_le, if◌then◌else◌, List, [], ◌∷◌, ◌++◌, refl, ap, sym, ◌∙◌, subst, append_assoc, arith}
use Rattle.std.proofs.lemmas.List.{append-nil}
use Rattle.std.proofs.lemmas.Bool.Decides.{nat_tests}
use Rattle.generated_input.specs.Drawing.{Drawn, draw}
use Rattle.generated_input.specs.Made.{chosen_line, edit_line, other_line, script_line, script_lines}

-- where some are left, the next one comes first
script-next : (count done number length state : ℕ) → done < count → script_lines (count - done) number length state
    ≡ (let line = script_line number length state in
    let rest = script_lines (count - (done + 1)) (number + 1) line.value.text_length line.state in
    record { value = line.value.bytes ++ (10 ∷ rest.value); state = rest.state })
unfolding script_lines
script-next count done number length state some =
    let behind = count - (done + 1) in
    let e : suc behind ≡ count - done = omega arith in
    let line = script_line number length state in
    let rest = script_lines behind (number + 1) line.value.text_length line.state in
    subst (λ (n : ℕ). script_lines n number length state ≡ record { value = line.value.bytes ++ (10 ∷ rest.value); state = rest.state }) e refl

script-end : (count number length state : ℕ) → script_lines (count - count) number length state ≡ record { value = []; state = state }
unfolding script_lines
script-end count number length state =
    let e : 0 ≡ count - count = omega arith in
    subst (λ (n : ℕ). script_lines n number length state ≡ record { value = []; state = state }) e refl

-- what is written by now and what the definition writes from here on are all that is to be written, and so the states
pub record ScriptLeadsOn (count done : ℕ) (before : List ℕ) (first_length start : ℕ) (now : List ℕ) (length state : ℕ) : Type 0 where
  pub written : now ++ (script_lines (count - done) (done + 1) length state).value ≡ before ++ (script_lines count 1 first_length start).value
  pub behind : (script_lines (count - done) (done + 1) length state).state ≡ (script_lines count 1 first_length start).state

pub script_from_start : (count : ℕ) (before : List ℕ) (length start : ℕ) → ScriptLeadsOn count 0 before length start before length start
script_from_start count before length start =
    let e : count ≡ count - 0 = omega arith in
    record {
      written = ap (λ (n : ℕ). before ++ (script_lines n 1 length start).value) (sym e);
      behind = ap (λ (n : ℕ). (script_lines n 1 length start).state) (sym e);
    }

pub script_over_one : (count done : ℕ) (before : List ℕ) (first_length start : ℕ) (now : List ℕ) (length state : ℕ) (next : List ℕ) (next_length behind : ℕ)
    → done < count
    → ScriptLeadsOn count done before first_length start now length state
    → next ≡ (now ++ (script_line (done + 1) length state).value.bytes) ++ (10 ∷ [])
    → next_length ≡ (script_line (done + 1) length state).value.text_length
    → behind ≡ (script_line (done + 1) length state).state
    → ScriptLeadsOn count (done + 1) before first_length start next next_length behind
script_over_one count done before first_length start now length state next next_length behind some leads next-is length-is behind-is =
    let one = script-next count done (done + 1) length state some in
    let line = script_line (done + 1) length state in
    let bytes = line.value.bytes in
    let rest = script_lines (count - (done + 1)) (done + 1 + 1) line.value.text_length line.state in
    let leads_on : ScriptLeadsOn count (done + 1) before first_length start ((now ++ bytes) ++ (10 ∷ [])) line.value.text_length line.state = record {
      written = append_assoc (now ++ bytes) (10 ∷ []) rest.value ∙ append_assoc now bytes (10 ∷ rest.value)
          ∙ ap (λ (drawn : Drawn (List ℕ)). now ++ drawn.value) (sym one) ∙ leads.written;
      behind = ap (λ (drawn : Drawn (List ℕ)). drawn.state) (sym one) ∙ leads.behind;
    } in
    subst (λ (l : List ℕ). ScriptLeadsOn count (done + 1) before first_length start l next_length behind) (sym next-is)
    (subst (λ (n : ℕ). ScriptLeadsOn count (done + 1) before first_length start ((now ++ bytes) ++ (10 ∷ [])) n behind) (sym length-is)
    (subst (λ (x : ℕ). ScriptLeadsOn count (done + 1) before first_length start ((now ++ bytes) ++ (10 ∷ [])) line.value.text_length x) (sym behind-is) leads_on))

pub script_to_end : (count done : ℕ) (before : List ℕ) (first_length start : ℕ) (now : List ℕ) (length state : ℕ)
    → done ≡ count
    → ScriptLeadsOn count done before first_length start now length state
    → (now ≡ before ++ (script_lines count 1 first_length start).value) × (state ≡ (script_lines count 1 first_length start).state)
script_to_end count done before first_length start now length state all leads =
    let at_end = subst (λ (n : ℕ). ScriptLeadsOn count n before first_length start now length state) all leads in
    let end = script-end count (count + 1) length state in
    (sym (ap (λ (drawn : Drawn (List ℕ)). now ++ drawn.value) end ∙ append-nil now) ∙ at_end.written, ap (λ (drawn : Drawn (List ℕ)). drawn.state) (sym end) ∙ at_end.behind)

-- the line of a number is that of its choice
pub script_line-of_choice : (number length start choice state : ℕ) → choice ≡ (draw 10 start).value → state ≡ (draw 10 start).state → chosen_line choice number length state ≡ script_line number length start
unfolding script_line
script_line-of_choice number length start choice state choice-is state-is =
    ap (λ (n : ℕ). chosen_line n number length state) choice-is ∙ ap (λ (x : ℕ). chosen_line (draw 10 start).value number length x) state-is

pub chosen_line-edit : (choice number length state : ℕ) → choice ≤ 3 → edit_line length state ≡ chosen_line choice number length state
chosen_line-edit choice number length state few =
    let e : nat_le choice 3 ≡ true = grind (arith, nat_tests, few) in
    ap (λ (b : Bool). (if b then edit_line length else (λ (x : ℕ). record { value = record { bytes = (other_line choice number length x).value; text_length = length }; state = (other_line choice number length x).state })) state) (sym e)
