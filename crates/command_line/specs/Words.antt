-- The reading of the words of the command line.
use Rattle.std.specs.Prelude.{ℕ, ◌==◌, ◌&&◌, ◌||◌, ◌≤◌, not, Bool, false, if◌then◌else◌, List, [], ◌∷◌, Option, Some, None, codes, length, map, nat_le, option_and_then, option_map, slice_index, string_bytes, String}
use Rattle.std.specs.List.{after_first, before_first, filter_map, list_all, list_any}
use Rattle.std.specs.Char.{is_ascii_digit}
use Rattle.std.specs.Str.{bytes_eq}
use Rattle.std.specs.Str.Parse.{digits_value}
use Rattle.std.specs.declared.alloc.Global.{Global}
use Rattle.command_line.specs.declared.limits.TheConstants.{SEED_MOST, WATCHERS_DEFAULT, WATCHERS_MOST, WORKERS_DEFAULT, WORKERS_LEAST, WORKERS_MOST}
use Rattle.command_line.specs.declared.plan.Plan.{Plan}

abbrev pub Word : Type 0
Word = List ℕ

-- ---- tokens

-- the three options
pub data Key : Type 0 where
  workers : Key
  watch : Key
  make : Key

-- an option with its value, or a positional
pub data Token : Type 0 where
  given : Key → Word → Token
  positional : Word → Token

abbrev pub key_named : Word → Option Key
key_named name =
    if bytes_eq (codes "--workers") name then Some workers
    else (if bytes_eq (codes "--watch") name then Some watch
    else (if bytes_eq (codes "--make") name then Some make else None))

abbrev pub is_equals : ℕ → Bool
is_equals b = b == 61

-- what follows the first `=` of a word, if there is one
abbrev pub value_of : Word → Option Word
value_of word = if list_any is_equals word then Some (after_first is_equals word) else None

-- the option whose name the word begins with, whole or up to its first `=`
abbrev pub key_of : Word → Option Key
key_of word = key_named (before_first is_equals word)

abbrev pub with_token : Token → Option (List Token) → Option (List Token)
with_token token = option_map (λ tokens. token ∷ tokens)

-- the words from left to right, where an option may wait for its value, which is the next word.
-- None where one waits at the end
unfoldable pub tokens : Option Key → List Word → Option (List Token)
tokens None [] = Some []
tokens (Some key) [] = None
tokens (Some key) (word ∷ words) = with_token (given key word) (tokens None words)
tokens None (word ∷ words) = elim (key_of word) [
  | None ↦ with_token (positional word) (tokens None words)
  | Some key ↦ elim (value_of word) [
    | None ↦ tokens (Some key) words
    | Some value ↦ with_token (given key value) (tokens None words)
  ]
]

-- ---- what they say

abbrev pub value_for : Key → Token → Option Word
value_for workers (given workers value) = Some value
value_for watch (given watch value) = Some value
value_for make (given make value) = Some value
value_for _ _ = None

abbrev pub positional_in : Token → Option Word
positional_in (positional word) = Some word
positional_in _ = None

-- an option's values, and the positionals, in the order of the words
abbrev pub values : Key → List Token → List Word
values key = filter_map (value_for key)

abbrev pub positionals : List Token → List Word
positionals = filter_map positional_in

-- one to ten digits without a leading zero, or `0`
abbrev pub is_decimal : Word → Bool
is_decimal value = list_all is_ascii_digit value && (nat_le 1 (length value) && nat_le (length value) 10)
    && (length value == 1 || not (slice_index value 0 == 48))

-- the number of a value, if it is one and lies in the range
abbrev pub number : ℕ → ℕ → Word → Option ℕ
number least most value =
    if is_decimal value && nat_le least (digits_value 10 value) && nat_le (digits_value 10 value) most
    then Some (digits_value 10 value) else None

-- what an option with these values says, if it is there at most once and its value can be read
abbrev pub said : {X : Type 0} → X → (Word → Option X) → List Word → Option X
said missing read [] = Some missing
said missing read (value ∷ []) = read value
said missing read _ = None

-- a word that may name a file: it isn't empty and doesn't begin with a hyphen
abbrev pub is_name : Word → Bool
is_name [] = false
is_name (b ∷ bs) = not (b == 45)

-- two names without a number to make them from, or none with it
abbrev pub plan_from : Option ℕ → Option ℕ → Option (Option ℕ) → List Word → Option Plan
plan_from (Some crew) (Some watchers) (Some None) (text ∷ script ∷ []) =
    if is_name text && is_name script
    then Some (record { text = text; script = script; make = None; workers = crew; watchers = watchers }) else None
plan_from (Some crew) (Some watchers) (Some (Some seed)) [] =
    Some (record { text = []; script = []; make = Some seed; workers = crew; watchers = watchers })
plan_from _ _ _ _ = None

-- the plan of the values of the options and of the positionals
abbrev pub judged : List Word → List Word → List Word → List Word → Option Plan
judged of_workers of_watch of_make = plan_from
    (said WORKERS_DEFAULT (number WORKERS_LEAST WORKERS_MOST) of_workers)
    (said WATCHERS_DEFAULT (number 0 WATCHERS_MOST) of_watch)
    (said None (λ value. option_map (λ seed. Some seed) (number 0 SEED_MOST value)) of_make)

abbrev pub plan_of_tokens : List Token → Option Plan
plan_of_tokens tokens = judged (values workers tokens) (values watch tokens) (values make tokens) (positionals tokens)

abbrev pub is_dashes : Word → Bool
is_dashes word = bytes_eq word (codes "--")

abbrev pub reading : List Word → Option Plan
reading words = if list_any is_dashes words then None else option_and_then plan_of_tokens (tokens None words)

-- the plan of the words, if they have a reading
abbrev pub plan_of : List (String Global) → Option Plan
plan_of words = reading (map string_bytes words)

-- ---- limits

pub record IsWithinLimits (plan : Plan) : Type 0 where
  pub workers_least : WORKERS_LEAST ≤ plan.workers
  pub workers_most : plan.workers ≤ WORKERS_MOST
  pub watchers_most : plan.watchers ≤ WATCHERS_MOST
