-- An orderly history goes on over the operations of a command and its version.
use Rattle.std.proofs.Common.{◌≡◌, ℕ, inl, Bool, true, false, List, [], ◌∷◌, ◌++◌, Some, None, refl, sym, ap, ◌∙◌, subst, append_assoc}
use Rattle.std.specs.Prelude.{◌||◌}
use Rattle.std.specs.List.{list_any}
use Rattle.std.proofs.lemmas.List.{append-nil}
use Rattle.std.proofs.lemmas.List.Folds.{list_any-append}
use Rattle.cell_units.specs.Operation.{Operation}
use Rattle.display_map.specs.Events.{Event, Line, Did, Published}
use Rattle.edit_script.specs.Commands.{Command}
use Rattle.edit_script.specs.Verdict.{Accepted, ops_of}
use Rattle.script_runner.specs.Entries.{Entry}
use Rattle.script_runner.specs.Legal.{IsChanged, IsChanging, IsOrderlySoFar, is_end, is_landed, is_line, next_verdict}
use Rattle.script_runner.specs.Going.{IsFree}
use Rattle.script_runner.proofs.LastLine.{dids, dids-more, end-not-empty, same-end}
use Rattle.script_runner.proofs.Snoc.{any-snoc, last-snoc}
use Rattle.script_runner.proofs.Next.{all-done, free-snoc, next-did, next-published, orderly-snoc}

or-none-false : (a : Bool) → a ≡ false → (a || false) ≡ false
or-none-false true e = e
or-none-false false e = refl

some-operation : (done : List Operation) (op : Operation) (rest : List Operation) → done ++ (op ∷ rest) ≡ [] → ⊥
some-operation [] op rest e = cc
some-operation (x ∷ done) op rest e = cc

-- after a line that does no operation no event is owed
module _ (text : List ℕ) (entries : List (ℕ × Entry)) (past : List Event) (number : ℕ) (free : IsFree text entries past)
    (idle : (command : Command) → next_verdict text entries past ≡ Some (Accepted command) → ops_of command ≡ []) where
  not-going : (done rest : List Operation) (op : Operation) → IsChanging text entries (past ++ Line number ∷ []) done (op ∷ rest) → ⊥
  not-going done rest op c =
      let same = same-end past c.past number c.number [] done c.ends in
      let pasts : past ≡ c.past = same.past in
      let none : ops_of c.command ≡ [] = idle c.command (ap (next_verdict text entries) pasts ∙ c.accepted) in
      some-operation done op rest (sym c.operations ∙ none)

  not-changed : IsChanged text entries (past ++ Line number ∷ []) → ⊥
  not-changed c =
      let same = same-end past c.2.past number c.2.number [] (c.0 ∷ c.1) c.2.ends in
      let none : [] ≡ (c.0 ∷ c.1) = same.done in cc

  pub line-free : IsFree text entries (past ++ Line number ∷ [])
  line-free =
      record {
        begun = end-not-empty past (Line number) [];
        unchanging = not-going;
        unchanged = not-changed;
        unlanded = ap is_landed (last-snoc None past (Line number));
        goes_on = any-snoc is_end past (Line number) ∙ or-none-false (list_any is_end past) free.goes_on;
      }

pub dids-quiet : (ops : List Operation) → list_any is_line (dids ops) ≡ false
dids-quiet [] = refl
dids-quiet (op ∷ ops) = dids-quiet ops

-- behind the operations of a command and its version
module _ (text : List ℕ) (entries : List (ℕ × Entry)) (workers : ℕ) (past : List Event) (number : ℕ) (command : Command)
    (accepted : next_verdict text entries past ≡ Some (Accepted command)) (open_before : list_any is_end past ≡ false) where
  open-dids : (done : List Operation) → list_any is_end (past ++ (Line number ∷ dids done)) ≡ false
  open-dids done =
      list_any-append is_end past (Line number ∷ dids done)
      ∙ (ap (λ b. b || list_any is_end (Line number ∷ dids done)) open_before ∙ none-end done)
    where
      none-end : (done : List Operation) → list_any is_end (dids done) ≡ false
      none-end [] = refl
      none-end (op ∷ done) = none-end done

  pub dids-orderly : (done rest : List Operation) → ops_of command ≡ done ++ rest
      → IsOrderlySoFar text entries workers (past ++ (Line number ∷ dids done))
      → IsOrderlySoFar text entries workers ((past ++ (Line number ∷ dids done)) ++ dids rest)
  dids-orderly done [] operations orderly =
      let P : List Event → Type 0 = λ l. IsOrderlySoFar text entries workers l in
      subst P (sym (append-nil (past ++ (Line number ∷ dids done)))) orderly
  dids-orderly done (op ∷ rest) operations orderly =
      let P : List Event → Type 0 = λ l. IsOrderlySoFar text entries workers l in
      let one = orderly-snoc text entries workers (past ++ (Line number ∷ dids done)) (Did op) orderly
      (next-did text entries past number command workers done rest op accepted operations (open-dids done)) in
      let all = dids-orderly (done ++ op ∷ []) rest (operations ∙ sym (append_assoc done (op ∷ []) rest))
      (subst P (dids-more past number done op) one) in
      subst P (ap (λ l. l ++ dids rest) (sym (dids-more past number done op))
      ∙ append_assoc (past ++ (Line number ∷ dids done)) (Did op ∷ []) (dids rest)) all

  pub published-orderly : (op : Operation) (ops : List Operation) → ops_of command ≡ (op ∷ ops)
      → IsOrderlySoFar text entries workers (past ++ (Line number ∷ dids (op ∷ ops)))
      → IsOrderlySoFar text entries workers ((past ++ (Line number ∷ dids (op ∷ ops))) ++ Published false ∷ [])
  published-orderly op ops operations orderly =
      orderly-snoc text entries workers (past ++ (Line number ∷ dids (op ∷ ops))) (Published false) orderly
      (next-published text entries workers (past ++ (Line number ∷ dids (op ∷ ops)))
      (λ done rest o c. all-done text entries past number command (op ∷ ops) rest o done accepted operations c)
      (inl (op, ops, record { past = past; number = number; command = command; ends = refl; accepted = accepted; operations = operations ∙ sym (append-nil (op ∷ ops)) }))
      (open-dids (op ∷ ops)))

  pub published-free : (ops : List Operation) → IsFree text entries ((past ++ (Line number ∷ dids ops)) ++ Published false ∷ [])
  published-free ops = free-snoc text entries (past ++ (Line number ∷ dids ops)) (Published false) refl refl refl (open-dids ops)
