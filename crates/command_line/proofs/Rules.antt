-- What `clap` reads of the command: five rules, each of which takes one text.
use Rattle.std.proofs.Common.{◌≡◌, ◌∙◌, ◌||◌, ℕ, Bool, cond, true, false, refl, ap, List, [], ◌∷◌, Option, Some, None, codes, option_map, is_some}
use Rattle.std.specs.Str.{bytes_eq}
use Rattle.clap.specs.Walk.{Held, Row, Rule, Text, arg_by_id, arg_by_long, finished, has_row, nothing_held, settled, walk, walk_from, with_default}
use Rattle.clap.specs.Simple.{Shape, built, entered, is_simple, matches_of}
use Rattle.clap.specs.Kinds.{Kinds, or_else}
use Rattle.clap.specs.Faults.{default_fault, defaults_fault, entered_fault, fault_of, is_simple_and_free, level_fault, settle_fault, use_fault, walk_fault}
use Rattle.clap.specs.declared.builder.action.ArgAction.TheVariants.{Set}
use Rattle.clap.specs.declared.builder.value_parser.ValueParser.TheVariants as parser
use Rattle.clap.specs.declared.error.kind.ErrorKind.TheVariants.{ArgumentConflict, InvalidValue}
use Rattle.clap.specs.declared.parser.matches.ValueSource.TheVariants.{CommandLine}
use Rattle.clap.specs.Values.{reading_of}
use Rattle.command_line.specs.Words.{Key, Word, make, watch, workers}
use Rattle.command_line.specs.inside.Command.{words_app}

-- an option, or one of the two positionals
pub data Slot : Type 0 where
  at_option : Key → Slot
  at_text : Slot
  at_script : Slot

abbrev pub key_id : Key → Text
key_id workers = codes "workers"
key_id watch = codes "watch"
key_id make = codes "make"

abbrev pub id_of : Slot → Text
id_of (at_option k) = key_id k
id_of at_text = codes "text"
id_of at_script = codes "script"

abbrev long_at : Slot → Option Text
long_at (at_option k) = Some (key_id k)
long_at _ = None

abbrev index_at : Slot → Option ℕ
index_at (at_option k) = None
index_at at_text = Some 1
index_at at_script = Some 2

abbrev pub rule : Slot → Rule
rule s = record {
  id = id_of s;
  long = long_at s;
  aliases = [];
  short = None;
  short_aliases = [];
  index = index_at s;
  action = Some Set;
  range = Some (record { start_inclusive = 1; end_inclusive = 1 });
  value_names = 0;
  defaults = [];
  missing = [];
  trailing_var_arg = false;
  parser = Some parser.String;
  ignore_case = false;
  required = false;
  is_simple = true;
  is_free = true;
}

abbrev pub rules : List Rule
rules = rule (at_option workers) ∷ rule (at_option watch) ∷ rule (at_option make) ∷ rule at_text ∷ rule at_script ∷ []

abbrev pub top : Shape
top = (built words_app).top

pub simple : is_simple words_app ≡ true
simple = refl

pub free : is_simple_and_free words_app ≡ true
free = refl

-- ---- which rule is meant

pub by_id : (s : Slot) → arg_by_id rules (id_of s) ≡ Some (rule s)
by_id (at_option workers) = refl
by_id (at_option watch) = refl
by_id (at_option make) = refl
by_id at_text = refl
by_id at_script = refl

-- the option of this name without its hyphens
abbrev pub key_of_long : Text → Option Key
key_of_long name = cond (bytes_eq (codes "workers") name) (Some workers)
    (cond (bytes_eq (codes "watch") name) (Some watch) (cond (bytes_eq (codes "make") name) (Some make) None))

pub by_long : (name : Text) → arg_by_long rules name ≡ option_map (λ k. rule (at_option k)) (key_of_long name)
by_long name = go (bytes_eq (codes "workers") name) (bytes_eq (codes "watch") name) (bytes_eq (codes "make") name)
  where
    go : (a b c : Bool) → cond (a || false) (Some (rule (at_option workers))) (cond (b || false) (Some (rule (at_option watch)))
        (cond (c || false) (Some (rule (at_option make))) None))
        ≡ option_map (λ k. rule (at_option k)) (cond a (Some workers) (cond b (Some watch) (cond c (Some make) None)))
    go true b c = refl
    go false true c = refl
    go false false true = refl
    go false false false = refl

pub same_id : (s : Slot) → bytes_eq (id_of s) (id_of s) ≡ true
same_id (at_option workers) = refl
same_id (at_option watch) = refl
same_id (at_option make) = refl
same_id at_text = refl
same_id at_script = refl

-- ---- a use of a rule

pub use_new : (s : Slot) (v : Word) (rows : List Row) → has_row (id_of s) rows ≡ false → use_fault false (rule s) (v ∷ []) rows ≡ []
use_new s v rows new = rw new refl

pub use_again : (s : Slot) (v : Word) (rows : List Row) → has_row (id_of s) rows ≡ true → use_fault false (rule s) (v ∷ []) rows ≡ ArgumentConflict ∷ []
use_again s v rows again = rw again refl

pub use_none : (s : Slot) (rows : List Row) → use_fault false (rule s) [] rows ≡ InvalidValue ∷ []
use_none s rows = refl

abbrev pub row : Slot → Word → Row
row s v = record { id = id_of s; values = v ∷ []; count = None; source = Some CommandLine; reading = reading_of parser.String }

-- ---- after the walk

no_default_fault : (s : Slot) (rows : List Row) → default_fault rows (rule s) ≡ []
no_default_fault s rows = go (has_row (id_of s) rows) [] _
  where
    go : (b : Bool) (x y : Kinds) → cond (b || true) x y ≡ x
    go true x y = refl
    go false x y = refl

no_default : (s : Slot) (rows : List Row) → with_default rows (rule s) ≡ rows
no_default s rows = go (has_row (id_of s) rows)
  where
    go : (b : Bool) → cond b rows rows ≡ rows
    go true = refl
    go false = refl

pub no_defaults_fault : (rows : List Row) → defaults_fault rows rules ≡ []
unfolding defaults_fault
no_defaults_fault rows = simp (no_default_fault, no_default)

pub nothing_more : (h : Held) → finished rules h ≡ (settled rules h).rows
nothing_more h = simp no_default

or_nothing : (a : Kinds) → or_else a [] ≡ a
or_nothing [] = refl
or_nothing (k ∷ ks) = refl

none_below : (stop : Option (Text × List Text)) → entered_fault (built words_app) stop ≡ []
none_below None = refl
none_below (Some p) = refl

none_entered : (stop : Option (Text × List Text)) → is_some (entered (built words_app) stop) ≡ false
none_entered None = refl
none_entered (Some p) = refl

-- the fault of the command is that of the walk and of what is pending at its end
pub fault_is : (ws : List Word) → fault_of words_app ws ≡ or_else (walk_fault top [] (walk_from nothing_held) ws) (settle_fault rules false (walk rules [] nothing_held ws).held)
fault_is ws =
    let w = walk rules [] nothing_held ws in
    (λ i. level_fault top [] nothing_held ws (none_entered w.stopped i) (none_below w.stopped i))
    ∙ ap (λ k. or_else (walk_fault top [] (walk_from nothing_held) ws) (or_else (settle_fault rules false w.held) (or_else k [])))
    (no_defaults_fault (settled rules w.held).rows)
    ∙ ap (or_else (walk_fault top [] (walk_from nothing_held) ws)) (or_nothing (settle_fault rules false w.held))

pub matches_are : (ws : List Word) → matches_of words_app ws ≡ (settled rules (walk rules [] nothing_held ws).held).rows
matches_are ws = nothing_more (walk rules [] nothing_held ws).held
