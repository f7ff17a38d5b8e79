-- What a parse of the words says of their plan.
use Rattle.std.proofs.Common.{◌≡◌, ◌∙◌, true, false, refl, sym, ap, List, [], ◌∷◌, Option, Some, None, inl, inr}
use Rattle.std.specs.List.{cons_option, list_any}
use Rattle.std.specs.Option.{option_and_then}
use Rattle.clap.specs.Walk.{Row, first_of, nothing_held, rows_of}
use Rattle.clap.specs.Simple.{matches_of}
use Rattle.clap.specs.Kinds.{HasKind, IsAmong, Kinds}
use Rattle.clap.specs.Values.{kind_of}
use Rattle.clap.specs.declared.error.Error.{Error}
use Rattle.clap.specs.declared.error.kind.ErrorKind.{ErrorKind}
use Rattle.clap.specs.declared.error.kind.ErrorKind.TheVariants.{OutOfMemory}
use Rattle.clap.specs.Faults.{fault_of}
use Rattle.clap.specs.Matches.{first_value}
use Rattle.clap.specs.declared.parser.matches.Found.{Found}
use Rattle.clap.proofs.WalkLemmas.{first_value-rows}
use Rattle.command_line.specs.Words.{Key, Token, Word, is_dashes, judged, make, plan_of_tokens, reading, tokens, values, watch, workers}
use Rattle.command_line.specs.inside.Command.{plan_of_found, words_app}
use Rattle.command_line.proofs.Rules.{Slot, at_option, at_script, at_text, fault_is, id_of, matches_are}
use Rattle.command_line.proofs.Rows.{HasRows, Standing, first_is}
use Rattle.command_line.proofs.Turns.{at, none_met}
use Rattle.command_line.proofs.Walked.{Ends, Fails, Ready, ends, ready, refused, taken}

begins : Ready nothing_held none_met []
begins = ready (λ s. None) refl (λ s. refl) (record { keys = λ k. keys k; names = refl }) (refl, refl)
  where
    keys : (k : Key) → values k [] ≡ []
    keys workers = refl
    keys watch = refl
    keys make = refl

walked_words : (ws : List Word) → list_any is_dashes ws ≡ false → Ends (at None nothing_held none_met) ws [] (tokens None ws)
walked_words ws fine = ends ws fine None nothing_held none_met [] refl begins

pub dashes_refused : (ws : List Word) → list_any is_dashes ws ≡ true → reading ws ≡ None
dashes_refused ws e = rw e refl

reading_is : (ws : List Word) → list_any is_dashes ws ≡ false → reading ws ≡ option_and_then plan_of_tokens (tokens None ws)
reading_is ws fine = rw fine refl

stands : (f : Found) (rows : List Row) (g : Standing) (s : Slot) → rows_of f ≡ rows → HasRows rows g → first_value f (id_of s) ≡ g s
stands f rows g s e has = first_value-rows f (id_of s) ∙ ap (first_of (id_of s)) e ∙ first_is rows g s has

pub parsed_plan : (ws : List Word) (f : Found) → list_any is_dashes ws ≡ false → fault_of words_app ws ≡ [] → rows_of f ≡ matches_of words_app ws → plan_of_found f ≡ reading ws
parsed_plan ws f fine no_fault rows = go (walked_words ws fine)
  where
    go : Ends (at None nothing_held none_met) ws [] (tokens None ws) → plan_of_found f ≡ reading ws
    go (refused fails plan) = absurd (fails (sym (fault_is ws) ∙ no_fault))
    go (taken ts g kinds e has seen) =
        let at_slot : (s : Slot) → first_value f (id_of s) ≡ g s = λ s. stands f _ g s (rows ∙ matches_are ws) has in
        (λ i. judged (cons_option (at_slot (at_option workers) i) []) (cons_option (at_slot (at_option watch) i) []) (cons_option (at_slot (at_option make) i) [])
        (cons_option (at_slot at_text i) (cons_option (at_slot at_script i) [])))
        ∙ sym (λ i. judged (seen.keys workers i) (seen.keys watch i) (seen.keys make i) (seen.names i))
        ∙ sym (reading_is ws fine ∙ ap (option_and_then plan_of_tokens) e)

no_reading : (ws : List Word) → list_any is_dashes ws ≡ false → Fails (fault_of words_app ws) → reading ws ≡ None
no_reading ws fine fault = go (walked_words ws fine)
  where
    none : (o : Option (List Token)) → ((ts : List Token) → o ≡ Some ts → plan_of_tokens ts ≡ None) → option_and_then plan_of_tokens o ≡ None
    none None plan = refl
    none (Some ts) plan = plan ts refl

    go : Ends (at None nothing_held none_met) ws [] (tokens None ws) → reading ws ≡ None
    go (taken ts g kinds e has seen) = absurd (fault (fault_is ws ∙ kinds))
    go (refused fails plan) = reading_is ws fine ∙ none (tokens None ws) plan

among : (k : ErrorKind) (kinds : Kinds) → IsAmong k kinds → Fails kinds
among k [] h = absurd h
among k (x ∷ xs) h = λ e. cc

-- an error other than out of memory comes only of words that have no reading
pub error_refused : (ws : List Word) (e : Error) → list_any is_dashes ws ≡ false → HasKind (fault_of words_app ws) e → (kind_of e ≡ OutOfMemory → ⊥) → reading ws ≡ None
error_refused ws e fine has other = elim has [
  | inl out ↦ absurd (other out)
  | inr k ↦ no_reading ws fine (among (kind_of e) (fault_of words_app ws) k)
]
