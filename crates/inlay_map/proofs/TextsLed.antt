-- The text that a replacement leads to.
use Rattle.std.proofs.Common.{◌≡◌, ℕ, ◌≤◌, List, ◌++◌, take, drop, sym, ap, ◌∙◌, arith}
use Rattle.std.proofs.lemmas.List.{drop-drop, take-append-drop}
use Rattle.cell_units.specs.Operation.{replaced_text}
use Rattle.edit_patch.specs.Leads.{Leads, Reach, unmoved}

-- the text that a replacement leads to
pub text-led : (s : Reach) (old new : List ℕ) → s.start ≤ s.end → Leads unmoved old new s → new ≡ replaced_text old s.start s.end (take s.count (drop s.start new))
text-led s old new order l =
    sym (take-append-drop s.start new)
    ∙ (λ i. l.before i ++ rest i)
  where
    rest : drop s.start new ≡ take s.count (drop s.start new) ++ drop s.end old
    rest =
        sym (take-append-drop s.count (drop s.start new))
        ∙ ap (λ l. take s.count (drop s.start new) ++ l) (drop-drop s.count s.start new ∙ ap (λ k. drop k new) (omega arith) ∙ l.behind)
