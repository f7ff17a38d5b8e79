-- The walk of `clap` over the words, and the tokens that they are.
use Rattle.std.proofs.Common.{◌≡◌, ◌∙◌, false, refl, sym, ap, ap₂, subst, List, [], ◌∷◌, ◌++◌, Option, Some, None, append-nil, append_assoc}
use Rattle.std.specs.List.{cons_option, fold, list_any}
use Rattle.std.specs.Option.{option_map_or}
use Rattle.clap.specs.Walk.{Held, Row, Step, Walk, after_step, idle, next, option, plain_word, reacted, settled, used, used_by_id, value, walked}
use Rattle.clap.specs.Kinds.{Kinds, or_else}
use Rattle.clap.specs.Faults.{settle_fault, step_fault, turn_fault, use_fault, walk_fault}
use Rattle.clap.specs.declared.error.kind.ErrorKind.{ErrorKind}
use Rattle.clap.specs.declared.error.kind.ErrorKind.TheVariants.{UnknownArgument}
use Rattle.command_line.specs.Words.{Key, Token, Word, given, is_dashes, is_decimal, is_name, key_of, plan_of_tokens, positional, tokens, value_of, with_token}
use Rattle.command_line.proofs.Rules.{Slot, at_option, at_script, at_text, by_id, id_of, key_id, rule, rules, top, use_again, use_new}
use Rattle.command_line.proofs.Rows.{HasRows, Standing, neither, put, put_row, row_new, row_there, used_new}
use Rattle.command_line.proofs.Turns.{Faults, Meets, Place, Read, alone, at, awaited, awaiting, awaiting_fault, both_met, holding, keyed, met, next_place, none_met, one_met, placed, placed_fault, placing, plain, position, read, slot_at, slot_is, stray_fault, turn_is, unknown, waiting_at, walked_is}
use Rattle.command_line.proofs.Doomed.{Seen, no_plan_name, no_plan_third, no_plan_twice, no_plan_value, script_kept, seen_script, seen_text, seen_value, text_kept}

-- ---- kinds

abbrev pub Fails : Kinds → Type 0
Fails kinds = kinds ≡ [] → ⊥

fails_by : (kinds : Kinds) (k : ErrorKind) (ks : Kinds) → kinds ≡ k ∷ ks → Fails kinds
fails_by kinds k ks e none = cc

fails_first : (a b : Kinds) → Fails a → Fails (or_else a b)
fails_first [] b fails = absurd (fails refl)
fails_first (k ∷ ks) b fails = λ e. cc

fails_next : (a b : Kinds) → a ≡ [] → Fails b → Fails (or_else a b)
fails_next a b none fails = subst (λ x. Fails (or_else x b)) (sym none) fails

-- ---- where the tokens so far leave the walk

abbrev pub IsAt : Place → Standing → Type 0
IsAt none_met g = (g at_text ≡ None) × (g at_script ≡ None)
IsAt one_met g = (a : Word) × (g at_text ≡ Some a) × (g at_script ≡ None)
IsAt both_met g = (a : Word) × (b : Word) × (g at_text ≡ Some a) × (g at_script ≡ Some b)

same_place : (place : Place) (f g : Standing) → f at_text ≡ g at_text → f at_script ≡ g at_script → IsAt place g → IsAt place f
same_place none_met f g t s h = (t ∙ h.0, s ∙ h.1)
same_place one_met f g t s h = (h.0, t ∙ h.1, s ∙ h.2)
same_place both_met f g t s h = (h.0, h.1, t ∙ h.2, s ∙ h.3)

abbrev pub HasNoPlan : List Token → Type 0
HasNoPlan acc = (ts : List Token) → plan_of_tokens (acc ++ ts) ≡ None

-- what is held, once it is settled, is just the tokens so far, or they have no plan
pub data Ready (h : Held) (place : Place) (acc : List Token) : Type 0 where
  ready : (g : Standing) → settle_fault rules false h ≡ [] → HasRows (settled rules h).rows g → Seen acc g → IsAt place g → Ready h place acc
  doomed : Fails (settle_fault rules false h) → HasNoPlan acc → Ready h place acc

-- the same of what is held while an option waits
pub record Awaits (h : Held) (k : Key) (place : Place) (acc : List Token) : Type 0 where
  pub rows : List Row
  pub standing : Standing
  pub held : h ≡ awaiting rows k
  pub has : HasRows rows standing
  pub seen : Seen acc standing
  pub is_at : IsAt place standing

abbrev pub Stands : Option Key → Held → Place → List Token → Type 0
Stands None h place acc = Ready h place acc
Stands (Some k) h place acc = Awaits h k place acc

-- ---- the end of the walk

abbrev pub kinds_from : Walk → List Word → Kinds
kinds_from w ws = or_else (walk_fault top [] w ws) (settle_fault rules false (fold (walked rules []) w ws).held)

abbrev pub rows_from : Walk → List Word → List Row
rows_from w ws = (settled rules (fold (walked rules []) w ws).held).rows

pub data Ends (w : Walk) (ws : List Word) (acc : List Token) (found : Option (List Token)) : Type 0 where
  taken : (ts : List Token) (g : Standing) → kinds_from w ws ≡ [] → found ≡ Some ts → HasRows (rows_from w ws) g → Seen (acc ++ ts) g → Ends w ws acc found
  refused : Fails (kinds_from w ws) → ((ts : List Token) → found ≡ Some ts → plan_of_tokens (acc ++ ts) ≡ None) → Ends w ws acc found

kinds_next : (w : Walk) (word : Word) (ws : List Word) → turn_fault top [] w word ≡ [] → kinds_from w (word ∷ ws) ≡ kinds_from (walked rules [] w word) ws
unfolding walk_fault
kinds_next w word ws none = ap (λ x. or_else (or_else x (walk_fault top [] (walked rules [] w word) ws)) (settle_fault rules false (fold (walked rules []) (walked rules [] w word) ws).held)) none

turn_fails : (w : Walk) (word : Word) (ws : List Word) → Fails (turn_fault top [] w word) → Fails (kinds_from w (word ∷ ws))
unfolding walk_fault
turn_fails w word ws fails = fails_first _ _ (fails_first _ _ fails)

-- past a word that completes a token
token_read : (w after : Walk) (word : Word) (ws : List Word) (acc : List Token) (t : Token) (found : Option (List Token)) → turn_fault top [] w word ≡ []
    → walked rules [] w word ≡ after → Ends after ws (acc ++ t ∷ []) found → Ends w (word ∷ ws) acc (with_token t found)
token_read w after word ws acc t found none is (taken ts g kinds e has seen) =
    taken (t ∷ ts) g (kinds_next w word ws none ∙ ap (λ x. kinds_from x ws) is ∙ kinds) (ap (with_token t) e)
    (subst (λ x. HasRows (rows_from x ws) g) (sym is) has) (subst (λ x. Seen x g) (append_assoc acc (t ∷ []) ts) seen)
token_read w after word ws acc t found none is (refused fails plan) =
    refused (subst Fails (sym (kinds_next w word ws none ∙ ap (λ x. kinds_from x ws) is)) fails) (λ ts e. some found ts e plan)
  where
    some : (o : Option (List Token)) (ts : List Token) → with_token t o ≡ Some ts → ((us : List Token) → o ≡ Some us → plan_of_tokens ((acc ++ t ∷ []) ++ us) ≡ None)
        → plan_of_tokens (acc ++ ts) ≡ None
    some None ts e plan = cc
    some (Some us) ts e plan =
        let is : t ∷ us ≡ ts = cc in
        subst (λ x. plan_of_tokens (acc ++ x) ≡ None) is (subst (λ x. plan_of_tokens x ≡ None) (append_assoc acc (t ∷ []) us) (plan us refl))

-- past the name of an option that waits
name_read : (w after : Walk) (word : Word) (ws : List Word) (acc : List Token) (found : Option (List Token)) → turn_fault top [] w word ≡ []
    → walked rules [] w word ≡ after → Ends after ws acc found → Ends w (word ∷ ws) acc found
name_read w after word ws acc found none is (taken ts g kinds e has seen) =
    taken ts g (kinds_next w word ws none ∙ ap (λ x. kinds_from x ws) is ∙ kinds) e (subst (λ x. HasRows (rows_from x ws) g) (sym is) has) seen
name_read w after word ws acc found none is (refused fails plan) =
    refused (subst Fails (sym (kinds_next w word ws none ∙ ap (λ x. kinds_from x ws) is)) fails) plan

-- a token with which there is no plan
token_refused : (w : Walk) (word : Word) (ws : List Word) (acc : List Token) (t : Token) (found : Option (List Token)) → Fails (turn_fault top [] w word)
    → ((ts : List Token) → plan_of_tokens (acc ++ t ∷ ts) ≡ None) → Ends w (word ∷ ws) acc (with_token t found)
token_refused w word ws acc t found fails plan = refused (turn_fails w word ws fails) (λ ts e. some found ts e)
  where
    some : (o : Option (List Token)) (ts : List Token) → with_token t o ≡ Some ts → plan_of_tokens (acc ++ ts) ≡ None
    some None ts e = cc
    some (Some us) ts e =
        let is : t ∷ us ≡ ts = cc in
        subst (λ x. plan_of_tokens (acc ++ x) ≡ None) is (plan us)

-- ---- one value more

-- a value that is pending
full : (rows : List Row) (g : Standing) (s : Slot) (v : Word) (place : Place) (acc : List Token) → HasRows rows g
    → (g s ≡ None → Seen acc (put s v g) × IsAt place (put s v g)) → ((a : Word) → g s ≡ Some a → HasNoPlan acc) → Ready (holding rows s v) place acc
full rows g s v place acc has new again = go (g s) refl
  where
    fault : settle_fault rules false (holding rows s v) ≡ use_fault false (rule s) (v ∷ []) rows
    fault = ap (λ o. option_map_or (λ a. use_fault false a (v ∷ []) rows) o []) (by_id s)

    rows_are : (settled rules (holding rows s v)).rows ≡ used (rule s) (v ∷ []) rows
    rows_are = ap (λ o. used_by_id o (v ∷ []) rows) (by_id s)

    go : (o : Option Word) → g s ≡ o → Ready (holding rows s v) place acc
    go None e =
        let fresh = row_new rows g s has e in
        ready (put s v g) (fault ∙ use_new s v rows fresh) (subst (λ x. HasRows x (put s v g)) (sym (rows_are ∙ used_new s v rows fresh)) (put_row rows g s v has e)) (new e).0 (new e).1
    go (Some a) e = doomed (fails_by _ _ _ (fault ∙ use_again s v rows (row_there rows g s a has e))) (again a e)

twice : (acc : List Token) (g : Standing) (k : Key) (a v : Word) → Seen acc g → g (at_option k) ≡ Some a → (ts : List Token) → plan_of_tokens (acc ++ given k v ∷ ts) ≡ None
twice acc g k a v seen e ts = no_plan_twice k a v acc ts (seen.keys k ∙ ap (λ o. cons_option o []) e)

-- tokens that have no plan whatever follows, with one more at their end
snoc_doomed : (acc : List Token) (t : Token) → ((ts : List Token) → plan_of_tokens (acc ++ t ∷ ts) ≡ None) → HasNoPlan (acc ++ t ∷ [])
snoc_doomed acc t plan ts = subst (λ x. plan_of_tokens x ≡ None) (sym (append_assoc acc (t ∷ []) ts)) (plan ts)

-- the option had no value so far
valued : (acc : List Token) (g : Standing) (k : Key) (v : Word) (place : Place) → Seen acc g → IsAt place g → g (at_option k) ≡ None
    → Seen (acc ++ given k v ∷ []) (put (at_option k) v g) × IsAt place (put (at_option k) v g)
valued acc g k v place seen is_at new =
    (seen_value acc g k v seen new, same_place place (put (at_option k) v g) g (text_kept g k v) (script_kept g k v) is_at)

-- an option's value, in its own word
attached : (h : Held) (g : Standing) (k : Key) (v : Word) (place : Place) (acc : List Token) → settle_fault rules false h ≡ [] → HasRows (settled rules h).rows g
    → Seen acc g → IsAt place g → g (at_option k) ≡ None → Ready (reacted rules (rule (at_option k)) (v ∷ []) h) place (acc ++ given k v ∷ [])
attached h g k v place acc none has seen is_at new =
    let fresh = row_new (settled rules h).rows g (at_option k) has new in
    let after = valued acc g k v place seen is_at new in
    ready (put (at_option k) v g) refl
    (subst (λ x. HasRows x (put (at_option k) v g)) (sym (used_new (at_option k) v (settled rules h).rows fresh)) (put_row (settled rules h).rows g (at_option k) v has new)) after.0 after.1

-- a positional, after which one more was met
named : (g : Standing) (place : Place) (s : Slot) (w : Word) (acc : List Token) → slot_at place ≡ Some s → Seen acc g → IsAt place g
    → (g s ≡ None) × Seen (acc ++ positional w ∷ []) (put s w g) × IsAt (next_place place) (put s w g)
named g none_met s w acc e seen is_at = subst (λ x. (g x ≡ None) × Seen (acc ++ positional w ∷ []) (put x w g) × IsAt one_met (put x w g)) (slot_is e)
    (is_at.0, seen_text acc g w seen is_at.0 is_at.1, (w, refl, is_at.1))
named g one_met s w acc e seen is_at = subst (λ x. (g x ≡ None) × Seen (acc ++ positional w ∷ []) (put x w g) × IsAt both_met (put x w g)) (slot_is e)
    (is_at.2, seen_script acc g is_at.0 w seen is_at.1 is_at.2, (is_at.0, w, is_at.1, refl))
named g both_met s w acc e seen is_at = cc

-- ---- one word

abbrev pub Continues : List Word → Type 0
Continues ws = (waits : Option Key) (h : Held) (place : Place) (acc : List Token) → h.skip ≡ 0 → Stands waits h place acc → Ends (at waits h place) ws acc (tokens waits ws)

-- a word at which no option waits, by the option that it names and the value that it has
abbrev tokens_at : Option Key → Option Word → Word → List Word → Option (List Token)
tokens_at None v w ws = with_token (positional w) (tokens None ws)
tokens_at (Some k) None w ws = tokens (Some k) ws
tokens_at (Some k) (Some v) w ws = with_token (given k v) (tokens None ws)

tokens_are : (w : Word) (ws : List Word) → tokens None (w ∷ ws) ≡ tokens_at (key_of w) (value_of w) w ws
unfolding tokens
tokens_are w ws = go (key_of w) (value_of w)
  where
    go : (o : Option Key) (v : Option Word) → (elim o [
      | None ↦ with_token (positional w) (tokens None ws)
      | Some key ↦ elim v [
        | None ↦ tokens (Some key) ws
        | Some said ↦ with_token (given key said) (tokens None ws)
      ]
    ]) ≡ tokens_at o v w ws
    go None v = refl
    go (Some k) None = refl
    go (Some k) (Some v) = refl

pub keyed_tokens : (w : Word) (ws : List Word) (k : Key) (v : Word) → key_of w ≡ Some k → value_of w ≡ Some v → tokens None (w ∷ ws) ≡ with_token (given k v) (tokens None ws)
keyed_tokens w ws k v e g = tokens_are w ws ∙ ap₂ (λ (o : Option Key) (x : Option Word). tokens_at o x w ws) e g

pub alone_tokens : (w : Word) (ws : List Word) (k : Key) → key_of w ≡ Some k → value_of w ≡ None → tokens None (w ∷ ws) ≡ tokens (Some k) ws
alone_tokens w ws k e g = tokens_are w ws ∙ ap₂ (λ (o : Option Key) (x : Option Word). tokens_at o x w ws) e g

pub positional_tokens : (w : Word) (ws : List Word) → key_of w ≡ None → tokens None (w ∷ ws) ≡ with_token (positional w) (tokens None ws)
positional_tokens w ws e = tokens_are w ws ∙ ap (λ (o : Option Key). tokens_at o (value_of w) w ws) e

pub awaited_tokens : (w : Word) (ws : List Word) (k : Key) → tokens (Some k) (w ∷ ws) ≡ with_token (given k w) (tokens None ws)
unfolding tokens
awaited_tokens w ws k = refl

module _ (w : Word) (ws : List Word) (fine : is_dashes w ≡ false) (continues : Continues ws) where
  turn_by : (waits : Option Key) (h : Held) (place : Place) (kinds : Kinds) (p : Held × Step) → Faults w waits h kinds → Meets w waits h p
      → turn_fault top [] (at waits h place) w ≡ or_else kinds (step_fault top (position place) p.0 p.1)
  turn_by waits h place kinds p f m = turn_is waits h place w fine ∙ ap₂ (λ (ks : Kinds) (q : Held × Step). or_else ks (step_fault top (position place) q.0 q.1)) f m

  walk_by : (waits : Option Key) (h : Held) (place : Place) (p : Held × Step) → Meets w waits h p
      → walked rules [] (at waits h place) w ≡ after_step rules w (at waits h place) p.0 p.1
  walk_by waits h place p m = walked_is waits h place w fine ∙ ap (λ (q : Held × Step). after_step rules w (at waits h place) q.0 q.1) m

  plain_fails : (h : Held) (place : Place) → Fails (settle_fault rules false h) → Fails (step_fault top (position place) h value)
  plain_fails h none_met fails = subst Fails (sym (placed_fault h none_met at_text refl)) fails
  plain_fails h one_met fails = subst Fails (sym (placed_fault h one_met at_script refl)) fails
  plain_fails h both_met fails = fails_by _ _ _ (stray_fault h)

  -- each way to read a word settles what is pending, or is refused
  unsettled : (h : Held) (place : Place) → Read w None h → Fails (settle_fault rules false h) → Fails (turn_fault top [] (at None h place) w)
  unsettled h place (keyed k v key value_is hyphened f m) fails = subst Fails (sym (turn_by None h place _ _ f m)) (fails_first _ _ (fails_first _ _ fails))
  unsettled h place (alone k key value_is hyphened f m) fails = subst Fails (sym (turn_by None h place _ _ f m)) (fails_first _ _ fails)
  unsettled h place (unknown key hyphened f) fails = fails_by _ _ _ (turn_by None h place (UnknownArgument ∷ []) (met None w h) f refl)
  unsettled h place (plain key f m) fails = subst Fails (sym (turn_by None h place _ _ f m)) (plain_fails h place fails)

  module _ (h : Held) (place : Place) (acc : List Token) (skip : h.skip ≡ 0) (g : Standing) (none : settle_fault rules false h ≡ [])
      (has : HasRows (settled rules h).rows g) (seen : Seen acc g) (is_at : IsAt place g) where
    abbrev Goal : Option (List Token) → Type 0
    Goal = Ends (at None h place) (w ∷ ws) acc

    keyed_word : (k : Key) (v : Word)
        → Faults w None h (or_else (settle_fault rules false h) (use_fault false (rule (at_option k)) (v ∷ []) (settled rules h).rows))
        → Meets w None h (reacted rules (rule (at_option k)) (v ∷ []) h, next idle) → Goal (with_token (given k v) (tokens None ws))
    keyed_word k v f m = go (g (at_option k)) refl
      where
        go : (o : Option Word) → g (at_option k) ≡ o → Goal (with_token (given k v) (tokens None ws))
        go None e = token_read (at None h place) (at None (reacted rules (rule (at_option k)) (v ∷ []) h) place) w ws acc (given k v) (tokens None ws)
            (turn_by None h place _ _ f m ∙ ap₂ (λ (a : Kinds) (b : Kinds). or_else (or_else a b) []) none (use_new (at_option k) v (settled rules h).rows (row_new (settled rules h).rows g (at_option k) has e)))
            (walk_by None h place _ m)
            (continues None (reacted rules (rule (at_option k)) (v ∷ []) h) place (acc ++ given k v ∷ []) skip (attached h g k v place acc none has seen is_at e))
        go (Some a) e = token_refused (at None h place) w ws acc (given k v) (tokens None ws)
            (subst Fails (sym (turn_by None h place _ _ f m)) (fails_first _ _ (fails_next _ _ none
            (fails_by _ _ _ (use_again (at_option k) v (settled rules h).rows (row_there (settled rules h).rows g (at_option k) a has e))))))
            (twice acc g k a v seen e)

    alone_word : (k : Key) → Faults w None h (settle_fault rules false h)
        → Meets w None h (record (settled rules h) { pending = Some (key_id k, []) }, next (option (key_id k))) → Goal (tokens (Some k) ws)
    alone_word k f m =
        let after : Held = record (settled rules h) { pending = Some (key_id k, []) } in
        name_read (at None h place) (at (Some k) after place) w ws acc (tokens (Some k) ws)
        (turn_by None h place _ _ f m ∙ ap (λ (a : Kinds). or_else a []) none) (walk_by None h place _ m)
        (continues (Some k) after place acc skip (record {
          rows = (settled rules h).rows;
          standing = g;
          held = λ i. record { rows = (settled rules h).rows; pending = Some (key_id k, []); skip = skip i };
          has = has;
          seen = seen;
          is_at = is_at;
        }))

    unknown_word : is_name w ≡ false → Faults w None h (UnknownArgument ∷ []) → Goal (with_token (positional w) (tokens None ws))
    unknown_word e f = token_refused (at None h place) w ws acc (positional w) (tokens None ws)
        (fails_by _ _ _ (turn_by None h place (UnknownArgument ∷ []) (met None w h) f refl)) (λ ts. no_plan_name w acc ts e)

    placed_word : (s : Slot) → slot_at place ≡ Some s → Faults w None h [] → Meets w None h (h, value) → Goal (with_token (positional w) (tokens None ws))
    placed_word s e f m =
        let next_is = named g place s w acc e seen is_at in
        let after : placing h s w ≡ holding (settled rules h).rows s w =
        λ i. record { rows = (settled rules h).rows; pending = Some (id_of s, w ∷ []); skip = skip i } in
        token_read (at None h place) (at None (placing h s w) (next_place place)) w ws acc (positional w) (tokens None ws)
        (turn_by None h place _ _ f m ∙ placed_fault h place s e ∙ none) (walk_by None h place _ m ∙ placed h place s w e)
        (continues None (placing h s w) (next_place place) (acc ++ positional w ∷ []) skip
        (subst (λ x. Ready x (next_place place) (acc ++ positional w ∷ [])) (sym after)
        (full (settled rules h).rows g s w (next_place place) (acc ++ positional w ∷ []) has (λ new. (next_is.1, next_is.2))
        (λ a there. let clash : Some a ≡ None = sym there ∙ next_is.0 in cc))))

    stray_word : place ≡ both_met → Faults w None h [] → Meets w None h (h, value) → Goal (with_token (positional w) (tokens None ws))
    stray_word e f m =
        let at_end : IsAt both_met g = subst (λ p. IsAt p g) e is_at in
        token_refused (at None h place) w ws acc (positional w) (tokens None ws)
        (subst Fails (sym (turn_by None h place _ _ f m ∙ ap (λ p. step_fault top (position p) h value) e)) (fails_by _ _ _ (stray_fault h)))
        (λ ts. no_plan_third at_end.0 at_end.1 w acc ts (seen.names ∙ λ i. cons_option (at_end.2 i) (cons_option (at_end.3 i) [])))

    plain_word_read : Faults w None h [] → Meets w None h (h, value) → Goal (with_token (positional w) (tokens None ws))
    plain_word_read f m = go place refl
      where
        go : (p : Place) → place ≡ p → Goal (with_token (positional w) (tokens None ws))
        go none_met e = placed_word at_text (ap slot_at e) f m
        go one_met e = placed_word at_script (ap slot_at e) f m
        go both_met e = stray_word e f m

    idle_read : Read w None h → Goal (tokens None (w ∷ ws))
    idle_read (keyed k v key value_is hyphened f m) = subst Goal (sym (keyed_tokens w ws k v key value_is)) (keyed_word k v f m)
    idle_read (alone k key value_is hyphened f m) = subst Goal (sym (alone_tokens w ws k key value_is)) (alone_word k f m)
    idle_read (unknown key hyphened f) = subst Goal (sym (positional_tokens w ws key)) (unknown_word hyphened.0 f)
    idle_read (plain key f m) = subst Goal (sym (positional_tokens w ws key)) (plain_word_read f m)

  idle_word : (h : Held) (place : Place) (acc : List Token) → h.skip ≡ 0 → Ready h place acc → Ends (at None h place) (w ∷ ws) acc (tokens None (w ∷ ws))
  idle_word h place acc skip (ready g none has seen is_at) = idle_read h place acc skip g none has seen is_at (read w None h fine skip)
  idle_word h place acc skip (doomed fails plan) =
      refused (turn_fails (at None h place) w ws (unsettled h place (read w None h fine skip) fails)) (λ ts e. plan ts)

  module _ (rows : List Row) (k : Key) (place : Place) (acc : List Token) (g : Standing) (has : HasRows rows g) (seen : Seen acc g) (is_at : IsAt place g) where
    abbrev Await : Type 0
    Await = Ends (at (Some k) (awaiting rows k) place) (w ∷ ws) acc (with_token (given k w) (tokens None ws))

    bad_value : is_decimal w ≡ false → Fails (turn_fault top [] (at (Some k) (awaiting rows k) place) w) → Await
    bad_value e fails = token_refused (at (Some k) (awaiting rows k) place) w ws acc (given k w) (tokens None ws) fails (λ ts. no_plan_value k w acc ts e)

    awaited_word : Faults w (Some k) (awaiting rows k) [] → Meets w (Some k) (awaiting rows k) (plain_word rules (waiting_at (Some k)) w (awaiting rows k)) → Await
    awaited_word f m =
        let reads : Meets w (Some k) (awaiting rows k) (holding rows (at_option k) w, next idle) = m ∙ awaited rows k w in
        token_read (at (Some k) (awaiting rows k) place) (at None (holding rows (at_option k) w) place) w ws acc (given k w) (tokens None ws)
        (turn_by (Some k) (awaiting rows k) place _ _ f reads) (walk_by (Some k) (awaiting rows k) place _ reads)
        (continues None (holding rows (at_option k) w) place (acc ++ given k w ∷ []) refl
        (full rows g (at_option k) w place (acc ++ given k w ∷ []) has (λ new. valued acc g k w place seen is_at new)
        (λ a there. snoc_doomed acc (given k w) (twice acc g k a w seen there))))

    awaiting_read : Read w (Some k) (awaiting rows k) → Await
    awaiting_read (keyed j v key value_is hyphened f m) = bad_value hyphened.1
        (subst Fails (sym (turn_by (Some k) (awaiting rows k) place _ _ f m)) (fails_first _ _ (fails_first _ _ (fails_by _ _ _ (awaiting_fault rows k)))))
    awaiting_read (alone j key value_is hyphened f m) = bad_value hyphened.1
        (subst Fails (sym (turn_by (Some k) (awaiting rows k) place _ _ f m)) (fails_first _ _ (fails_by _ _ _ (awaiting_fault rows k))))
    awaiting_read (unknown key hyphened f) = bad_value hyphened.1
        (fails_by _ _ _ (turn_by (Some k) (awaiting rows k) place (UnknownArgument ∷ []) (met (Some k) w (awaiting rows k)) f refl))
    awaiting_read (plain key f m) = awaited_word f m

  waiting_word : (h : Held) (k : Key) (place : Place) (acc : List Token) → Awaits h k place acc → Ends (at (Some k) h place) (w ∷ ws) acc (tokens (Some k) (w ∷ ws))
  waiting_word h k place acc a =
      subst (λ x. Ends (at (Some k) x place) (w ∷ ws) acc (tokens (Some k) (w ∷ ws))) (sym a.held)
      (subst (Ends (at (Some k) (awaiting a.rows k) place) (w ∷ ws) acc) (sym (awaited_tokens w ws k))
      (awaiting_read a.rows k place acc a.standing a.has a.seen a.is_at (read w (Some k) (awaiting a.rows k) fine refl)))

-- ---- all words

no_words : (h : Held) (place : Place) (acc : List Token) → Ready h place acc → Ends (at None h place) [] acc (tokens None [])
unfolding walk_fault tokens
no_words h place acc (ready g none has seen is_at) = taken [] g none refl has (subst (λ x. Seen x g) (sym (append-nil acc)) seen)
no_words h place acc (doomed fails plan) = refused fails (λ ts e. plan ts)

no_value : (h : Held) (k : Key) (place : Place) (acc : List Token) → Awaits h k place acc → Ends (at (Some k) h place) [] acc (tokens (Some k) [])
unfolding walk_fault tokens
no_value h k place acc a = refused (subst (λ x. Fails (settle_fault rules false x)) (sym a.held) (fails_by _ _ _ (awaiting_fault a.rows k))) (λ ts e. cc)

pub ends : (ws : List Word) → list_any is_dashes ws ≡ false → Continues ws
ends [] fine None h place acc skip stands = no_words h place acc stands
ends [] fine (Some k) h place acc skip stands = no_value h k place acc stands
ends (w ∷ ws) fine None h place acc skip stands =
    let both = neither (is_dashes w) (list_any is_dashes ws) fine in
    idle_word w ws both.0 (ends ws both.1) h place acc skip stands
ends (w ∷ ws) fine (Some k) h place acc skip stands =
    let both = neither (is_dashes w) (list_any is_dashes ws) fine in
    waiting_word w ws both.0 (ends ws both.1) h k place acc stands
