-- What one word does to the walk.
use Rattle.std.proofs.Common.{◌≡◌, ◌∙◌, ◌&&◌, ℕ, Bool, cond, true, false, refl, sym, ap, List, [], ◌∷◌, ◌++◌, Option, Some, None, option_map}
use Rattle.std.specs.Option.{option_map_or}
use Rattle.std.specs.Prelude.{slice_get}
use Rattle.std.specs.Str.{chars}
use Rattle.clap.specs.Lexer.{long_of, short_of}
use Rattle.clap.specs.Walk.{Held, Row, Step, Waiting, Walk, after_flag, after_step, bundle_met, idle, is_pending, long_met, long_or_other, next, option, option_word, plain_word, reacted, settled, started, short_or_plain, short_word, value, walked}
use Rattle.clap.specs.Kinds.{Kinds, or_else}
use Rattle.clap.specs.Faults.{flag_word_fault, flags_fault, long_fault, bundle_fault, settle_fault, step_fault, turn_fault, use_fault}
use Rattle.clap.specs.declared.error.kind.ErrorKind.TheVariants.{InvalidValue, UnknownArgument}
use Rattle.command_line.specs.Words.{Key, Word, is_dashes, key_of, value_of}
use Rattle.command_line.proofs.Rules.{Slot, at_option, at_script, at_text, by_id, by_long, id_of, key_id, key_of_long, rule, rules, same_id, top, use_none}
use Rattle.command_line.proofs.Spelling as spelling
use Rattle.command_line.proofs.Spelling.{IsHyphened, Spelled, spelled}

-- ---- where the walk is

-- how many positionals were met
pub data Place : Type 0 where
  none_met : Place
  one_met : Place
  both_met : Place

abbrev pub position : Place → ℕ
position none_met = 1
position one_met = 2
position both_met = 3

abbrev pub waiting_at : Option Key → Waiting
waiting_at None = idle
waiting_at (Some k) = option (key_id k)

abbrev pub at : Option Key → Held → Place → Walk
at waits h place = record { held = h; waiting = waiting_at waits; position = position place; is_trailing = false; stopped = None }

abbrev pub met : Option Key → Word → Held → Held × Step
met waits w h = long_or_other rules (waiting_at waits) w (long_of w) h

pub turn_is : (waits : Option Key) (h : Held) (place : Place) (w : Word) → is_dashes w ≡ false
    → turn_fault top [] (at waits h place) w ≡ or_else (flag_word_fault rules false (long_of w) w h) (step_fault top (position place) (met waits w h).0 (met waits w h).1)
turn_is None h place w e = rw e refl
turn_is (Some k) h place w e = rw e refl

pub walked_is : (waits : Option Key) (h : Held) (place : Place) (w : Word) → is_dashes w ≡ false
    → walked rules [] (at waits h place) w ≡ after_step rules w (at waits h place) (met waits w h).0 (met waits w h).1
unfolding walked
walked_is None h place w e = rw e refl
walked_is (Some k) h place w e = rw e refl

-- ---- what a word is to the walk

module _ (w : Word) (waits : Option Key) (h : Held) where
  abbrev pub Faults : Kinds → Type 0
  Faults kinds = flag_word_fault rules false (long_of w) w h ≡ kinds

  abbrev pub Meets : Held × Step → Type 0
  Meets p = met waits w h ≡ p

  pub data Read : Type 0 where
    keyed : (k : Key) (v : Word) → key_of w ≡ Some k → value_of w ≡ Some v → IsHyphened w
        → Faults (or_else (settle_fault rules false h) (use_fault false (rule (at_option k)) (v ∷ []) (settled rules h).rows))
        → Meets (reacted rules (rule (at_option k)) (v ∷ []) h, next idle) → Read
    alone : (k : Key) → key_of w ≡ Some k → value_of w ≡ None → IsHyphened w → Faults (settle_fault rules false h)
        → Meets (record (settled rules h) { pending = Some (key_id k, []) }, next (option (key_id k))) → Read
    unknown : key_of w ≡ None → IsHyphened w → Faults (UnknownArgument ∷ []) → Read
    plain : key_of w ≡ None → Faults [] → Meets (plain_word rules (waiting_at waits) w h) → Read

  rule_named : (k : Key) (name : Word) → key_of_long name ≡ Some k → Rattle.clap.specs.Walk.arg_by_long rules name ≡ Some (rule (at_option k))
  rule_named k name e = by_long name ∙ ap (option_map (λ k. rule (at_option k))) e

  fault_named : (name : Word) (v : Option Word) (k : Key) → long_of w ≡ Some (name, v) → key_of_long name ≡ Some k
      → Faults (long_fault rules false (Some (rule (at_option k))) v h)
  fault_named name v k l e = ap (λ o. flag_word_fault rules false o w h) l ∙ ap (λ a. long_fault rules false a v h) (rule_named k name e)

  met_named : (name : Word) (v : Option Word) (k : Key) → long_of w ≡ Some (name, v) → key_of_long name ≡ Some k
      → Meets (after_flag rules (waiting_at waits) w (long_met rules (Some (rule (at_option k))) v h).0 (long_met rules (Some (rule (at_option k))) v h).1)
  met_named name v k l e = ap (λ o. long_or_other rules (waiting_at waits) w o h) l
      ∙ ap (λ a. after_flag rules (waiting_at waits) w (long_met rules a v h).0 (long_met rules a v h).1) (rule_named k name e)

  fault_unknown : (name : Word) (v : Option Word) → long_of w ≡ Some (name, v) → key_of_long name ≡ None → Faults (UnknownArgument ∷ [])
  fault_unknown name v l e = ap (λ o. flag_word_fault rules false o w h) l
      ∙ ap (λ a. long_fault rules false a v h) (by_long name ∙ ap (option_map (λ k. rule (at_option k))) e)

  fault_short : (flags : Word) → long_of w ≡ None → short_of w ≡ Some flags → Faults (bundle_fault rules false flags h)
  fault_short flags l s = ap (λ o. flag_word_fault rules false o w h) l ∙ ap (λ o. option_map_or (λ f. bundle_fault rules false f h) o []) s

  met_short : (flags : Word) → long_of w ≡ None → short_of w ≡ Some flags → Meets (short_word rules (waiting_at waits) w flags h)
  met_short flags l s = ap (λ o. long_or_other rules (waiting_at waits) w o h) l ∙ ap (λ o. short_or_plain rules (waiting_at waits) w o h) s

  letter_fault : (b : ℕ) (bs : Word) (x : ℕ) → slice_get (chars (b ∷ bs)) 0 ≡ Some x → h.skip ≡ 0 → bundle_fault rules false (b ∷ bs) h ≡ UnknownArgument ∷ []
  unfolding flags_fault
  letter_fault b bs x e skip = rw (e, skip) refl

  no_letter_fault : (b : ℕ) (bs : Word) → slice_get (chars (b ∷ bs)) 0 ≡ None → bundle_fault rules false (b ∷ bs) h ≡ []
  unfolding flags_fault
  no_letter_fault b bs e = rw e refl

  no_letter_met : (b : ℕ) (bs : Word) → slice_get (chars (b ∷ bs)) 0 ≡ None
      → short_word rules (waiting_at waits) w (b ∷ bs) h ≡ plain_word rules (waiting_at waits) w (record h { skip = 0 })
  unfolding bundle_met
  no_letter_met b bs e = rw e refl

  read_keyed : (k : Key) (name : Word) (v : Option Word) → long_of w ≡ Some (name, v) → key_of_long name ≡ Some k → key_of w ≡ Some k → value_of w ≡ v
      → IsHyphened w → Read
  read_keyed k name (Some v) l e key given hyphened = keyed k v key given hyphened (fault_named name (Some v) k l e) (met_named name (Some v) k l e)
  read_keyed k name None l e key given hyphened = alone k key given hyphened (fault_named name None k l e) (met_named name None k l e)

  read_short : (b : ℕ) (bs : Word) → long_of w ≡ None → short_of w ≡ Some (b ∷ bs) → key_of w ≡ None → IsHyphened w → h.skip ≡ 0 → Read
  read_short b bs l s key hyphened skip = go (slice_get (chars (b ∷ bs)) 0) refl
    where
      go : (o : Option ℕ) → slice_get (chars (b ∷ bs)) 0 ≡ o → Read
      go (Some x) e = unknown key hyphened (fault_short (b ∷ bs) l s ∙ letter_fault b bs x e skip)
      go None e = plain key (fault_short (b ∷ bs) l s ∙ no_letter_fault b bs e) (met_short (b ∷ bs) l s ∙ no_letter_met b bs e
          ∙ ap (λ n. plain_word rules (waiting_at waits) w (record h { skip = n })) (sym skip))

  read_by : Spelled w → h.skip ≡ 0 → Read
  read_by (spelling.keyed k name v l e key given hyphened) skip = read_keyed k name v l e key given hyphened
  read_by (spelling.unknown name v l e key hyphened) skip = unknown key hyphened (fault_unknown name v l e)
  read_by (spelling.short b bs l s key hyphened) skip = read_short b bs l s key hyphened skip
  read_by (spelling.plain l s key) skip = plain key (ap (λ o. flag_word_fault rules false o w h) l ∙ ap (λ o. option_map_or (λ f. bundle_fault rules false f h) o []) s)
      (ap (λ o. long_or_other rules (waiting_at waits) w o h) l ∙ ap (λ o. short_or_plain rules (waiting_at waits) w o h) s)

  pub read : is_dashes w ≡ false → h.skip ≡ 0 → Read
  read e skip = read_by (spelled w e) skip

-- ---- a value for the option that waits

abbrev pub awaiting : List Row → Key → Held
awaiting rows k = record { rows = rows; pending = Some (key_id k, []); skip = 0 }

-- a slot whose value is pending
abbrev pub holding : List Row → Slot → Word → Held
holding rows s v = record { rows = rows; pending = Some (id_of s, v ∷ []); skip = 0 }

pub awaiting_fault : (rows : List Row) (k : Key) → settle_fault rules false (awaiting rows k) ≡ InvalidValue ∷ []
awaiting_fault rows k = ap (λ o. option_map_or (λ a. use_fault false a [] rows) o []) (by_id (at_option k)) ∙ use_none (at_option k) rows

pub awaited : (rows : List Row) (k : Key) (w : Word) → plain_word rules (waiting_at (Some k)) w (awaiting rows k) ≡ (holding rows (at_option k) w, next idle)
awaited rows k w = ap (λ o. ((option_word o (key_id k) w (awaiting rows k)).0, next (option_word o (key_id k) w (awaiting rows k)).1)) (by_id (at_option k))
    ∙ rw (same_id (at_option k)) refl

-- ---- a positional

never : {X : Type 0} (b : Bool) (x y : X) → cond (b && false) x y ≡ y
never true x y = refl
never false x y = refl

abbrev pub next_place : Place → Place
next_place none_met = one_met
next_place _ = both_met

-- the slot that the next positional takes
abbrev pub slot_at : Place → Option Slot
slot_at none_met = Some at_text
slot_at one_met = Some at_script
slot_at both_met = None

pub slot_is : {a b : Slot} → Some a ≡ Some b → a ≡ b
slot_is e = cc

pub placed_fault : (h : Held) (place : Place) (s : Slot) → slot_at place ≡ Some s → step_fault top (position place) h value ≡ settle_fault rules false h
placed_fault h none_met s e = never (is_pending (rule at_text) h.pending) [] (settle_fault rules false h)
placed_fault h one_met s e = never (is_pending (rule at_script) h.pending) [] (settle_fault rules false h)
placed_fault h both_met s e = cc

pub stray_fault : (h : Held) → step_fault top 3 h value ≡ UnknownArgument ∷ []
stray_fault h = refl

abbrev pub placing : Held → Slot → Word → Held
placing h s w = record (settled rules h) { pending = Some (id_of s, w ∷ []) }

-- the first positional goes to the text, the second to the script
pub placed : (h : Held) (place : Place) (s : Slot) (w : Word) → slot_at place ≡ Some s
    → after_step rules w (at None h place) h value ≡ at None (placing h s w) (next_place place)
placed h none_met s w e = ap (λ x. at None (record x { pending = Some ((started (id_of at_text) x.pending).0, (started (id_of at_text) x.pending).1 ++ w ∷ []) }) one_met)
    (never (is_pending (rule at_text) h.pending) h (settled rules h)) ∙ ap (λ o. at None (placing h o w) one_met) (slot_is e)
placed h one_met s w e = ap (λ x. at None (record x { pending = Some ((started (id_of at_script) x.pending).0, (started (id_of at_script) x.pending).1 ++ w ∷ []) }) both_met)
    (never (is_pending (rule at_script) h.pending) h (settled rules h)) ∙ ap (λ o. at None (placing h o w) both_met) (slot_is e)
placed h both_met s w e = cc
