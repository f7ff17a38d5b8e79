-- Laws of the reading.
use Rattle.std.proofs.Common.{◌≡◌, ◌∙◌, ◌||◌, Bool, cond, false, refl, sym, ap, List, [], ◌∷◌, ◌++◌, Option, Some, None}
use Rattle.std.specs.List.{cons_option, filter_map, list_any}
use Rattle.std.specs.Option.{option_and_then}
use Rattle.std.proofs.lemmas.List.Elements.{filter_map-append}
use Rattle.command_line.specs.Words.{Key, Token, Word, given, is_dashes, judged, key_of, make, plan_of_tokens, positional, positional_in, reading, tokens, value_for, value_of, watch, with_token, workers}
use Rattle.command_line.specs.Laws.{attached, option_name}
use Rattle.command_line.proofs.Doomed.{no_plan_two}
use Rattle.command_line.proofs.Walked.{alone_tokens, awaited_tokens, keyed_tokens}

-- ---- the place of an option

abbrev Swaps : (Token → Option Word) → Token → Token → Type 0
Swaps h a b = (xs : List Word) → cons_option (h a) (cons_option (h b) xs) ≡ cons_option (h b) (cons_option (h a) xs)

swapped_in : (h : Token → Option Word) (before after : List Token) (a b : Token) → Swaps h a b → filter_map h (before ++ a ∷ b ∷ after) ≡ filter_map h (before ++ b ∷ a ∷ after)
swapped_in h before after a b swaps =
    filter_map-append h before (a ∷ b ∷ after) ∙ ap (λ xs. filter_map h before ++ xs) (swaps (filter_map h after)) ∙ sym (filter_map-append h before (b ∷ a ∷ after))

swapped : (before after : List Token) (a b : Token) → Swaps (value_for workers) a b → Swaps (value_for watch) a b → Swaps (value_for make) a b → Swaps positional_in a b
    → plan_of_tokens (before ++ a ∷ b ∷ after) ≡ plan_of_tokens (before ++ b ∷ a ∷ after)
swapped before after a b w v m p = λ i. judged (swapped_in (value_for workers) before after a b w i) (swapped_in (value_for watch) before after a b v i)
    (swapped_in (value_for make) before after a b m i) (swapped_in positional_in before after a b p i)

same_key : (before after : List Token) (k : Key) (v w : Word) → plan_of_tokens (before ++ given k v ∷ given k w ∷ after) ≡ plan_of_tokens (before ++ given k w ∷ given k v ∷ after)
same_key before after k v w = no_plan_two k v w before [] after ∙ sym (no_plan_two k w v before [] after)

pub any_place : (before after : List Token) (k : Key) (v : Word) (t : Token) → plan_of_tokens (before ++ given k v ∷ t ∷ after) ≡ plan_of_tokens (before ++ t ∷ given k v ∷ after)
any_place before after workers v (positional w) = swapped before after (given workers v) (positional w) (λ xs. refl) (λ xs. refl) (λ xs. refl) (λ xs. refl)
any_place before after watch v (positional w) = swapped before after (given watch v) (positional w) (λ xs. refl) (λ xs. refl) (λ xs. refl) (λ xs. refl)
any_place before after make v (positional w) = swapped before after (given make v) (positional w) (λ xs. refl) (λ xs. refl) (λ xs. refl) (λ xs. refl)
any_place before after workers v (given workers w) = same_key before after workers v w
any_place before after workers v (given watch w) = swapped before after (given workers v) (given watch w) (λ xs. refl) (λ xs. refl) (λ xs. refl) (λ xs. refl)
any_place before after workers v (given make w) = swapped before after (given workers v) (given make w) (λ xs. refl) (λ xs. refl) (λ xs. refl) (λ xs. refl)
any_place before after watch v (given workers w) = swapped before after (given watch v) (given workers w) (λ xs. refl) (λ xs. refl) (λ xs. refl) (λ xs. refl)
any_place before after watch v (given watch w) = same_key before after watch v w
any_place before after watch v (given make w) = swapped before after (given watch v) (given make w) (λ xs. refl) (λ xs. refl) (λ xs. refl) (λ xs. refl)
any_place before after make v (given workers w) = swapped before after (given make v) (given workers w) (λ xs. refl) (λ xs. refl) (λ xs. refl) (λ xs. refl)
any_place before after make v (given watch w) = swapped before after (given make v) (given watch w) (λ xs. refl) (λ xs. refl) (λ xs. refl) (λ xs. refl)
any_place before after make v (given make w) = same_key before after make v w

-- ---- the form of an option

name_is : (k : Key) → key_of (option_name k) ≡ Some k
name_is workers = refl
name_is watch = refl
name_is make = refl

name_alone : (k : Key) → value_of (option_name k) ≡ None
name_alone workers = refl
name_alone watch = refl
name_alone make = refl

attached_is : (k : Key) (v : Word) → key_of (attached k v) ≡ Some k
attached_is workers v = refl
attached_is watch v = refl
attached_is make v = refl

attached_value : (k : Key) (v : Word) → value_of (attached k v) ≡ Some v
attached_value workers v = refl
attached_value watch v = refl
attached_value make v = refl

name_no_dashes : (k : Key) → is_dashes (option_name k) ≡ false
name_no_dashes workers = refl
name_no_dashes watch = refl
name_no_dashes make = refl

attached_no_dashes : (k : Key) (v : Word) → is_dashes (attached k v) ≡ false
attached_no_dashes workers v = refl
attached_no_dashes watch v = refl
attached_no_dashes make v = refl

pub next_tokens : (k : Key) (v : Word) (ws : List Word) → tokens None (option_name k ∷ v ∷ ws) ≡ with_token (given k v) (tokens None ws)
next_tokens k v ws = alone_tokens (option_name k) (v ∷ ws) k (name_is k) (name_alone k) ∙ awaited_tokens v ws k

pub attached_tokens : (k : Key) (v : Word) (ws : List Word) → tokens None (attached k v ∷ ws) ≡ with_token (given k v) (tokens None ws)
attached_tokens k v ws = keyed_tokens (attached k v) ws k v (attached_is k v) (attached_value k v)

pub next_no_dashes : (k : Key) (v : Word) (ws : List Word) → is_dashes v ≡ false → list_any is_dashes (option_name k ∷ v ∷ ws) ≡ list_any is_dashes ws
next_no_dashes k v ws e = λ i. name_no_dashes k i || (e i || list_any is_dashes ws)

pub attached_no_dashes_in : (k : Key) (v : Word) (ws : List Word) → list_any is_dashes (attached k v ∷ ws) ≡ list_any is_dashes ws
attached_no_dashes_in k v ws = λ i. attached_no_dashes k v i || list_any is_dashes ws

pub read_as : (ws : List Word) (b : Bool) (found : Option (List Token)) → list_any is_dashes ws ≡ b → tokens None ws ≡ found
    → reading ws ≡ cond b None (option_and_then plan_of_tokens found)
read_as ws b found e t = λ i. cond (e i) None (option_and_then plan_of_tokens (t i))

pub either_form : (k : Key) (v : Word) (ws : List Word) → is_dashes v ≡ false → reading (option_name k ∷ v ∷ ws) ≡ reading (attached k v ∷ ws)
either_form k v ws e = read_as (option_name k ∷ v ∷ ws) (list_any is_dashes ws) (with_token (given k v) (tokens None ws)) (next_no_dashes k v ws e) (next_tokens k v ws)
    ∙ sym (read_as (attached k v ∷ ws) (list_any is_dashes ws) (with_token (given k v) (tokens None ws)) (attached_no_dashes_in k v ws) (attached_tokens k v ws))
