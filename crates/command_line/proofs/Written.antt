-- Each plan is the reading of the words that are written for it.
use Rattle.std.proofs.Common.{◌≡◌, ◌∙◌, ◌≤◌, ◌==◌, ◌&&◌, ◌||◌, ℕ, Bool, cond, true, false, not, refl, sym, ap, arith, true≢false, List, [], ◌∷◌, Some, None, option_map}
use Rattle.std.specs.Fmt.{decimal}
use Rattle.std.specs.List.{list_any}
use Rattle.command_line.specs.declared.limits.TheConstants.{SEED_MOST, WATCHERS_MOST, WORKERS_LEAST, WORKERS_MOST}
use Rattle.command_line.specs.Words.{Word, given, is_dashes, is_name, key_of, make, number, plan_from, positional, reading, tokens, watch, with_token, workers}
use Rattle.command_line.specs.Laws.{attached, of_names, of_seed, option_name, written_names, written_seed}
use Rattle.command_line.proofs.Decimals.{decimal_no_dashes, number_read}
use Rattle.command_line.proofs.Order.{attached_no_dashes_in, attached_tokens, next_no_dashes, next_tokens, read_as}
use Rattle.command_line.proofs.Spelling.{flip, no_key}
use Rattle.command_line.proofs.Walked.{positional_tokens}

not_true : (b : Bool) → not b ≡ true → b ≡ false
not_true false e = refl
not_true true e = absurd (true≢false (sym e))

name_key : (w : Word) → is_name w ≡ true → key_of w ≡ None
name_key [] e = absurd (true≢false (sym e))
name_key (a ∷ rest) e = no_key a rest (flip a (not_true (a == 45) e))

name_no_dashes : (w : Word) → is_name w ≡ true → is_dashes w ≡ false
name_no_dashes [] e = refl
name_no_dashes (a ∷ rest) e = rw (not_true (a == 45) e) refl

no_tokens : tokens None [] ≡ Some []
unfolding tokens
no_tokens = refl

-- the words of a name, and those of the threads
name_tokens : (w : Word) (ws : List Word) → is_name w ≡ true → tokens None (w ∷ ws) ≡ with_token (positional w) (tokens None ws)
name_tokens w ws e = positional_tokens w ws (name_key w e)

module _ (crew watchers : ℕ) (least : WORKERS_LEAST ≤ crew) (most : crew ≤ WORKERS_MOST) (few : watchers ≤ WATCHERS_MOST) where
  crew_read : number WORKERS_LEAST WORKERS_MOST (decimal crew) ≡ Some crew
  crew_read = number_read WORKERS_LEAST WORKERS_MOST crew least most (omega arith)

  watchers_read : number 0 WATCHERS_MOST (decimal watchers) ≡ Some watchers
  watchers_read = number_read 0 WATCHERS_MOST watchers (omega arith) few (omega arith)

  threads_tokens : (rest : List Word) → tokens None (option_name workers ∷ decimal crew ∷ attached watch (decimal watchers) ∷ rest)
      ≡ with_token (given workers (decimal crew)) (with_token (given watch (decimal watchers)) (tokens None rest))
  threads_tokens rest = next_tokens workers (decimal crew) (attached watch (decimal watchers) ∷ rest)
      ∙ ap (with_token (given workers (decimal crew))) (attached_tokens watch (decimal watchers) rest)

  threads_no_dashes : (rest : List Word) → list_any is_dashes (option_name workers ∷ decimal crew ∷ attached watch (decimal watchers) ∷ rest) ≡ list_any is_dashes rest
  threads_no_dashes rest = next_no_dashes workers (decimal crew) (attached watch (decimal watchers) ∷ rest) (decimal_no_dashes crew (omega arith))
      ∙ attached_no_dashes_in watch (decimal watchers) rest

  pub read_names : (text script : Word) → is_name text ≡ true → is_name script ≡ true
      → reading (written_names text script crew watchers) ≡ Some (of_names text script crew watchers)
  read_names text script t s =
      read_as (written_names text script crew watchers) false
      (Some (positional text ∷ given workers (decimal crew) ∷ given watch (decimal watchers) ∷ positional script ∷ []))
      ((λ i. name_no_dashes text t i || threads_no_dashes (script ∷ []) i) ∙ λ i. name_no_dashes script s i || false)
      (name_tokens text _ t ∙ ap (with_token (positional text)) (threads_tokens (script ∷ [])
      ∙ ap (λ o. with_token (given workers (decimal crew)) (with_token (given watch (decimal watchers)) o)) (name_tokens script [] s ∙ ap (with_token (positional script)) no_tokens)))
      ∙ (λ i. plan_from (crew_read i) (watchers_read i) (Some None) (text ∷ script ∷ []))
      ∙ (λ i. cond (t i && s i) (Some (of_names text script crew watchers)) None)

  pub read_seed : (seed : ℕ) → seed ≤ SEED_MOST → reading (written_seed seed crew watchers) ≡ Some (of_seed seed crew watchers)
  read_seed seed limit =
      read_as (written_seed seed crew watchers) false
      (Some (given workers (decimal crew) ∷ given watch (decimal watchers) ∷ given make (decimal seed) ∷ []))
      (threads_no_dashes (option_name make ∷ decimal seed ∷ []) ∙ next_no_dashes make (decimal seed) [] (decimal_no_dashes seed limit))
      (threads_tokens (option_name make ∷ decimal seed ∷ [])
      ∙ ap (λ o. with_token (given workers (decimal crew)) (with_token (given watch (decimal watchers)) o)) (next_tokens make (decimal seed) [] ∙ ap (with_token (given make (decimal seed))) no_tokens))
      ∙ (λ i. plan_from (crew_read i) (watchers_read i) (option_map (λ n. Some n) (number_read 0 SEED_MOST seed (omega arith) limit (omega arith) i)) [])
