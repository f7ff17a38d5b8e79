-- Tokens that have no plan, and what tokens say of each slot.
use Rattle.std.proofs.Common.{◌≡◌, ◌∙◌, ◌&&◌, ℕ, Bool, true, false, refl, sym, ap, subst, List, [], ◌∷◌, ◌++◌, Option, Some, None, append-nil, option_map}
use Rattle.std.proofs.lemmas.List.Elements.{filter_map-append}
use Rattle.std.specs.List.{cons_option, filter_map}
use Rattle.command_line.specs.declared.limits.TheConstants.{SEED_MOST, WATCHERS_DEFAULT, WATCHERS_MOST, WORKERS_DEFAULT, WORKERS_LEAST, WORKERS_MOST}
use Rattle.command_line.specs.Words.{Key, Token, Word, given, is_decimal, is_name, make, number, plan_from, plan_of_tokens, positional, positional_in, positionals, said, value_for, values, watch, workers}
use Rattle.command_line.proofs.Rules.{at_option, at_script, at_text}
use Rattle.command_line.proofs.Rows.{Standing, put}

-- ---- options that say nothing

abbrev Mute : Key → List Word → Type 0
Mute workers vs = said WORKERS_DEFAULT (number WORKERS_LEAST WORKERS_MOST) vs ≡ None
Mute watch vs = said WATCHERS_DEFAULT (number 0 WATCHERS_MOST) vs ≡ None
Mute make vs = said {X = Option ℕ} None (λ v. option_map (λ seed. Some seed) (number 0 SEED_MOST v)) vs ≡ None

said_bad : {X : Type 0} (missing : X) (read : Word → Option X) (v : Word) → read v ≡ None → (xs ys : List Word) → said missing read (xs ++ v ∷ ys) ≡ None
said_bad missing read v e [] [] = e
said_bad missing read v e [] (y ∷ ys) = refl
said_bad missing read v e (x ∷ []) ys = refl
said_bad missing read v e (x ∷ y ∷ xs) ys = refl

no_number : (least most : ℕ) (v : Word) → is_decimal v ≡ false → number least most v ≡ None
no_number least most v e = rw e refl

mute_value : (k : Key) (v : Word) → is_decimal v ≡ false → (xs ys : List Word) → Mute k (xs ++ v ∷ ys)
mute_value workers v e xs ys = said_bad _ (number WORKERS_LEAST WORKERS_MOST) v (no_number _ _ v e) xs ys
mute_value watch v e xs ys = said_bad _ (number 0 WATCHERS_MOST) v (no_number _ _ v e) xs ys
mute_value make v e xs ys = said_bad _ (λ w. option_map (λ seed. Some seed) (number 0 SEED_MOST w)) v (ap (option_map (λ seed. Some seed)) (no_number _ _ v e)) xs ys

mute_twice : (k : Key) (a b : Word) (rest : List Word) → Mute k (a ∷ b ∷ rest)
mute_twice workers a b rest = refl
mute_twice watch a b rest = refl
mute_twice make a b rest = refl

no_watchers : (x : Option ℕ) (z : Option (Option ℕ)) (ps : List Word) → plan_from x None z ps ≡ None
no_watchers None z ps = refl
no_watchers (Some n) z ps = refl

no_make : (x y : Option ℕ) (ps : List Word) → plan_from x y None ps ≡ None
no_make None y ps = refl
no_make (Some n) None ps = refl
no_make (Some n) (Some m) ps = refl

-- the three that a plan is made of
abbrev workers_in : List Token → Option ℕ
workers_in ts = said WORKERS_DEFAULT (number WORKERS_LEAST WORKERS_MOST) (values workers ts)

abbrev watchers_in : List Token → Option ℕ
watchers_in ts = said WATCHERS_DEFAULT (number 0 WATCHERS_MOST) (values watch ts)

abbrev seed_in : List Token → Option (Option ℕ)
seed_in ts = said None (λ v. option_map (λ seed. Some seed) (number 0 SEED_MOST v)) (values make ts)

mute_plan : (k : Key) (ts : List Token) → Mute k (values k ts) → plan_of_tokens ts ≡ None
mute_plan workers ts e = ap (λ o. plan_from o (watchers_in ts) (seed_in ts) (positionals ts)) e
mute_plan watch ts e = ap (λ o. plan_from (workers_in ts) o (seed_in ts) (positionals ts)) e ∙ no_watchers (workers_in ts) (seed_in ts) (positionals ts)
mute_plan make ts e = ap (λ o. plan_from (workers_in ts) (watchers_in ts) o (positionals ts)) e ∙ no_make (workers_in ts) (watchers_in ts) (positionals ts)

value_given : (k : Key) (v : Word) (ts : List Token) → values k (given k v ∷ ts) ≡ v ∷ values k ts
value_given workers v ts = refl
value_given watch v ts = refl
value_given make v ts = refl

values_with : (k : Key) (v : Word) (acc ts : List Token) → values k (acc ++ given k v ∷ ts) ≡ values k acc ++ v ∷ values k ts
values_with k v acc ts = filter_map-append (value_for k) acc (given k v ∷ ts) ∙ ap (λ xs. values k acc ++ xs) (value_given k v ts)

pub no_plan_value : (k : Key) (v : Word) (acc ts : List Token) → is_decimal v ≡ false → plan_of_tokens (acc ++ given k v ∷ ts) ≡ None
no_plan_value k v acc ts e = mute_plan k (acc ++ given k v ∷ ts) (subst (Mute k) (sym (values_with k v acc ts)) (mute_value k v e (values k acc) (values k ts)))

pub no_plan_twice : (k : Key) (a v : Word) (acc ts : List Token) → values k acc ≡ a ∷ [] → plan_of_tokens (acc ++ given k v ∷ ts) ≡ None
no_plan_twice k a v acc ts e = mute_plan k (acc ++ given k v ∷ ts)
    (subst (Mute k) (sym (values_with k v acc ts ∙ ap (λ xs. xs ++ v ∷ values k ts) e)) (mute_twice k a v (values k ts)))

said_two : {X : Type 0} (missing : X) (read : Word → Option X) (a b : Word) (xs ys zs : List Word) → said missing read (xs ++ a ∷ (ys ++ b ∷ zs)) ≡ None
said_two missing read a b [] [] zs = refl
said_two missing read a b [] (y ∷ ys) zs = refl
said_two missing read a b (x ∷ []) ys zs = refl
said_two missing read a b (x ∷ y ∷ xs) ys zs = refl

mute_two : (k : Key) (a b : Word) (xs ys zs : List Word) → Mute k (xs ++ a ∷ (ys ++ b ∷ zs))
mute_two workers a b xs ys zs = said_two WORKERS_DEFAULT (number WORKERS_LEAST WORKERS_MOST) a b xs ys zs
mute_two watch a b xs ys zs = said_two WATCHERS_DEFAULT (number 0 WATCHERS_MOST) a b xs ys zs
mute_two make a b xs ys zs = said_two None (λ v. option_map (λ seed. Some seed) (number 0 SEED_MOST v)) a b xs ys zs

-- an option that is there twice
pub no_plan_two : (k : Key) (a b : Word) (before between after : List Token) → plan_of_tokens (before ++ given k a ∷ (between ++ given k b ∷ after)) ≡ None
no_plan_two k a b before between after = mute_plan k (before ++ given k a ∷ (between ++ given k b ∷ after))
    (subst (Mute k) (sym (values_with k a before (between ++ given k b ∷ after) ∙ ap (λ xs. values k before ++ a ∷ xs) (values_with k b between after)))
    (mute_two k a b (values k before) (values k between) (values k after)))

-- ---- positionals that are none

three : (x y : Option ℕ) (z : Option (Option ℕ)) (a b c : Word) (rest : List Word) → plan_from x y z (a ∷ b ∷ c ∷ rest) ≡ None
three None y z a b c rest = refl
three (Some n) None z a b c rest = refl
three (Some n) (Some m) None a b c rest = refl
three (Some n) (Some m) (Some None) a b c rest = refl
three (Some n) (Some m) (Some (Some s)) a b c rest = refl

one : (x y : Option ℕ) (z : Option (Option ℕ)) (a : Word) → plan_from x y z (a ∷ []) ≡ None
one None y z a = refl
one (Some n) None z a = refl
one (Some n) (Some m) None a = refl
one (Some n) (Some m) (Some None) a = refl
one (Some n) (Some m) (Some (Some s)) a = refl

two : (x y : Option ℕ) (z : Option (Option ℕ)) (a b : Word) → (is_name a && is_name b) ≡ false → plan_from x y z (a ∷ b ∷ []) ≡ None
two None y z a b e = refl
two (Some n) None z a b e = refl
two (Some n) (Some m) None a b e = refl
two (Some n) (Some m) (Some None) a b e = rw e refl
two (Some n) (Some m) (Some (Some s)) a b e = refl

and_false : (a : Bool) → (a && false) ≡ false
and_false true = refl
and_false false = refl

bad_name : (x y : Option ℕ) (z : Option (Option ℕ)) (w : Word) → is_name w ≡ false → (xs ys : List Word) → plan_from x y z (xs ++ w ∷ ys) ≡ None
bad_name x y z w e [] [] = one x y z w
bad_name x y z w e [] (b ∷ []) = two x y z w b (rw e refl)
bad_name x y z w e [] (b ∷ c ∷ ys) = three x y z w b c ys
bad_name x y z w e (a ∷ []) [] = two x y z a w (ap (λ b. is_name a && b) e ∙ and_false (is_name a))
bad_name x y z w e (a ∷ []) (b ∷ ys) = three x y z a w b ys
bad_name x y z w e (a ∷ b ∷ []) ys = three x y z a b w ys
bad_name x y z w e (a ∷ b ∷ c ∷ xs) ys = three x y z a b c (xs ++ w ∷ ys)

positionals_with : (w : Word) (acc ts : List Token) → positionals (acc ++ positional w ∷ ts) ≡ positionals acc ++ w ∷ positionals ts
positionals_with w acc ts = filter_map-append positional_in acc (positional w ∷ ts)

pub no_plan_name : (w : Word) (acc ts : List Token) → is_name w ≡ false → plan_of_tokens (acc ++ positional w ∷ ts) ≡ None
no_plan_name w acc ts e =
    let all = acc ++ positional w ∷ ts in
    ap (plan_from (workers_in all) (watchers_in all) (seed_in all)) (positionals_with w acc ts)
    ∙ bad_name (workers_in all) (watchers_in all) (seed_in all) w e (positionals acc) (positionals ts)

pub no_plan_third : (a b w : Word) (acc ts : List Token) → positionals acc ≡ a ∷ b ∷ [] → plan_of_tokens (acc ++ positional w ∷ ts) ≡ None
no_plan_third a b w acc ts e =
    let all = acc ++ positional w ∷ ts in
    ap (plan_from (workers_in all) (watchers_in all) (seed_in all)) (positionals_with w acc ts ∙ ap (λ xs. xs ++ w ∷ positionals ts) e)
    ∙ three (workers_in all) (watchers_in all) (seed_in all) a b w (positionals ts)

-- ---- what tokens say of each slot

pub record Seen (acc : List Token) (g : Standing) : Type 0 where
  pub keys : (k : Key) → values k acc ≡ cons_option (g (at_option k)) []
  pub names : positionals acc ≡ cons_option (g at_text) (cons_option (g at_script) [])

abbrev added : Key → Word → Key → List Word
added k v j = filter_map (value_for j) (given k v ∷ [])

kept_value : (acc : List Token) (g : Standing) (k j : Key) (v : Word) → Seen acc g → added k v j ≡ []
    → put (at_option k) v g (at_option j) ≡ g (at_option j) → values j (acc ++ given k v ∷ []) ≡ cons_option (put (at_option k) v g (at_option j)) []
kept_value acc g k j v seen none same = filter_map-append (value_for j) acc (given k v ∷ []) ∙ ap (λ xs. values j acc ++ xs) none ∙ append-nil (values j acc)
    ∙ seen.keys j ∙ ap (λ o. cons_option o []) (sym same)

new_value : (acc : List Token) (g : Standing) (k : Key) (v : Word) → Seen acc g → g (at_option k) ≡ None → values k (acc ++ given k v ∷ []) ≡ v ∷ []
new_value acc g k v seen new = values_with k v acc [] ∙ ap (λ xs. xs ++ v ∷ []) (seen.keys k ∙ ap (λ o. cons_option o []) new)

keys_after : (acc : List Token) (g : Standing) (k j : Key) (v : Word) → Seen acc g → g (at_option k) ≡ None
    → values j (acc ++ given k v ∷ []) ≡ cons_option (put (at_option k) v g (at_option j)) []
keys_after acc g workers workers v seen new = new_value acc g workers v seen new
keys_after acc g workers watch v seen new = kept_value acc g workers watch v seen refl refl
keys_after acc g workers make v seen new = kept_value acc g workers make v seen refl refl
keys_after acc g watch workers v seen new = kept_value acc g watch workers v seen refl refl
keys_after acc g watch watch v seen new = new_value acc g watch v seen new
keys_after acc g watch make v seen new = kept_value acc g watch make v seen refl refl
keys_after acc g make workers v seen new = kept_value acc g make workers v seen refl refl
keys_after acc g make watch v seen new = kept_value acc g make watch v seen refl refl
keys_after acc g make make v seen new = new_value acc g make v seen new

pub text_kept : (g : Standing) (k : Key) (v : Word) → put (at_option k) v g at_text ≡ g at_text
text_kept g workers v = refl
text_kept g watch v = refl
text_kept g make v = refl

pub script_kept : (g : Standing) (k : Key) (v : Word) → put (at_option k) v g at_script ≡ g at_script
script_kept g workers v = refl
script_kept g watch v = refl
script_kept g make v = refl

pub seen_value : (acc : List Token) (g : Standing) (k : Key) (v : Word) → Seen acc g → g (at_option k) ≡ None → Seen (acc ++ given k v ∷ []) (put (at_option k) v g)
seen_value acc g k v seen new = record {
  keys = λ j. keys_after acc g k j v seen new;
  names = filter_map-append positional_in acc (given k v ∷ []) ∙ append-nil (positionals acc) ∙ seen.names
      ∙ sym (λ i. cons_option (text_kept g k v i) (cons_option (script_kept g k v i) []));
}

option_kept_text : (g : Standing) (k : Key) (w : Word) → put at_text w g (at_option k) ≡ g (at_option k)
option_kept_text g workers w = refl
option_kept_text g watch w = refl
option_kept_text g make w = refl

option_kept_script : (g : Standing) (k : Key) (w : Word) → put at_script w g (at_option k) ≡ g (at_option k)
option_kept_script g workers w = refl
option_kept_script g watch w = refl
option_kept_script g make w = refl

keys_kept : (acc : List Token) (g : Standing) (k : Key) (w : Word) → Seen acc g → values k (acc ++ positional w ∷ []) ≡ cons_option (g (at_option k)) []
keys_kept acc g k w seen = filter_map-append (value_for k) acc (positional w ∷ []) ∙ ap (λ xs. values k acc ++ xs) (none k) ∙ append-nil (values k acc) ∙ seen.keys k
  where
    none : (k : Key) → filter_map (value_for k) (positional w ∷ []) ≡ []
    none workers = refl
    none watch = refl
    none make = refl

pub seen_text : (acc : List Token) (g : Standing) (w : Word) → Seen acc g → g at_text ≡ None → g at_script ≡ None → Seen (acc ++ positional w ∷ []) (put at_text w g)
seen_text acc g w seen no_text no_script = record {
  keys = λ k. keys_kept acc g k w seen ∙ ap (λ o. cons_option o []) (sym (option_kept_text g k w));
  names = positionals_with w acc [] ∙ ap (λ xs. xs ++ w ∷ []) (seen.names ∙ λ i. cons_option (no_text i) (cons_option (no_script i) []))
      ∙ ap (λ o. w ∷ cons_option o []) (sym no_script);
}

pub seen_script : (acc : List Token) (g : Standing) (a w : Word) → Seen acc g → g at_text ≡ Some a → g at_script ≡ None
    → Seen (acc ++ positional w ∷ []) (put at_script w g)
seen_script acc g a w seen text no_script = record {
  keys = λ k. keys_kept acc g k w seen ∙ ap (λ o. cons_option o []) (sym (option_kept_script g k w));
  names = positionals_with w acc [] ∙ ap (λ xs. xs ++ w ∷ []) (seen.names ∙ λ i. cons_option (text i) (cons_option (no_script i) []))
      ∙ ap (λ o. cons_option o (w ∷ [])) (sym text);
}
