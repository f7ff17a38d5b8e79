-- A plan is within the limits.
use Rattle.std.proofs.Common.{◌≡◌, ◌≤◌, ◌&&◌, ℕ, Bool, cond, true, false, refl, arith, List, [], ◌∷◌, Option, Some, None, IfSome, nat_le, option_map}
use Rattle.std.proofs.lemmas.Bool.{leb-true}
use Rattle.std.specs.List.{list_any}
use Rattle.std.specs.Option.{option_and_then}
use Rattle.std.specs.Str.Parse.{digits_value}
use Rattle.command_line.specs.declared.limits.TheConstants.{SEED_MOST, WATCHERS_DEFAULT, WATCHERS_MOST, WORKERS_DEFAULT, WORKERS_LEAST, WORKERS_MOST}
use Rattle.command_line.specs.declared.plan.Plan.{Plan}
use Rattle.command_line.specs.Words.{IsWithinLimits, Token, Word, is_dashes, is_decimal, is_name, judged, make, number, plan_from, plan_of_tokens, positionals, reading, said, tokens, values, watch, workers}
use Rattle.command_line.proofs.Numbers.{both}

abbrev IsBetween : ℕ → ℕ → ℕ → Type 0
IsBetween least most n = (least ≤ n) × (n ≤ most)

number_between : (least most : ℕ) (v : Word) → IfSome (number least most v) (IsBetween least most)
number_between least most v = go (digits_value 10 v) (is_decimal v)
  where
    some : (n : ℕ) (d b : Bool) → (d && nat_le least n && nat_le n most) ≡ b → IfSome (cond b (Some n) None) (IsBetween least most)
    some n d false e = tt
    some n d true e =
        let outer = both (d && nat_le least n) (nat_le n most) e in
        let inner = both d (nat_le least n) outer.0 in
        (leb-true least n inner.1, leb-true n most outer.1)

    go : (n : ℕ) (d : Bool) → IfSome (cond (d && nat_le least n && nat_le n most) (Some n) None) (IsBetween least most)
    go n d = some n d (d && nat_le least n && nat_le n most) refl

said_between : (missing least most : ℕ) (vs : List Word) → IsBetween least most missing → IfSome (said missing (number least most) vs) (IsBetween least most)
said_between missing least most [] h = h
said_between missing least most (v ∷ []) h = number_between least most v
said_between missing least most (v ∷ w ∷ vs) h = tt

within : (x y : Option ℕ) (z : Option (Option ℕ)) (ps : List Word) → IfSome x (IsBetween WORKERS_LEAST WORKERS_MOST) → IfSome y (IsBetween 0 WATCHERS_MOST)
    → IfSome (plan_from x y z ps) IsWithinLimits
within None y z ps h g = tt
within (Some n) None z ps h g = tt
within (Some n) (Some m) None ps h g = tt
within (Some n) (Some m) (Some None) [] h g = tt
within (Some n) (Some m) (Some None) (a ∷ []) h g = tt
within (Some n) (Some m) (Some None) (a ∷ b ∷ []) h g = go (is_name a && is_name b)
  where
    go : (c : Bool) → IfSome {T = Plan} (cond c (Some (record { text = a; script = b; make = None; workers = n; watchers = m })) None) IsWithinLimits
    go true = record { workers_least = h.0; workers_most = h.1; watchers_most = g.1 }
    go false = tt
within (Some n) (Some m) (Some None) (a ∷ b ∷ c ∷ ps) h g = tt
within (Some n) (Some m) (Some (Some s)) [] h g = record { workers_least = h.0; workers_most = h.1; watchers_most = g.1 }
within (Some n) (Some m) (Some (Some s)) (a ∷ ps) h g = tt

judged_within : (a b c d : List Word) → IfSome (judged a b c d) IsWithinLimits
judged_within a b c d = within (said WORKERS_DEFAULT (number WORKERS_LEAST WORKERS_MOST) a) (said WATCHERS_DEFAULT (number 0 WATCHERS_MOST) b)
    (said None (λ v. option_map (λ seed. Some seed) (number 0 SEED_MOST v)) c) d
    (said_between WORKERS_DEFAULT WORKERS_LEAST WORKERS_MOST a (omega arith, omega arith)) (said_between WATCHERS_DEFAULT 0 WATCHERS_MOST b (omega arith, omega arith))

tokens_within : (ts : List Token) → IfSome (plan_of_tokens ts) IsWithinLimits
tokens_within ts = judged_within (values workers ts) (values watch ts) (values make ts) (positionals ts)

pub reading_within : (ws : List Word) → IfSome (reading ws) IsWithinLimits
reading_within ws = go (list_any is_dashes ws) (tokens None ws)
  where
    go : (b : Bool) (o : Option (List Token)) → IfSome (cond b None (option_and_then plan_of_tokens o)) IsWithinLimits
    go true o = tt
    go false None = tt
    go false (Some ts) = tokens_within ts
