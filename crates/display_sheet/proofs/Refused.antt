-- Which refusal is owed, by the tests that were made.
use Rattle.std.proofs.Common.{◌≡◌, ◌≢◌, ℕ, zero, suc, ◌<◌, ◌||◌, ◌&&◌, ◌==◌, nat_lt, not, cond, Bool, true, false, List, [], ◌∷◌, length, map, Bor, refl, sym, ap, subst, ◌∙◌, arith, leb-false, ltb-false, ltb-true, nat_le}
use Rattle.std.specs.Prelude.{Option, Some, None}
use Rattle.std.specs.List.{All, count_by, find, list_any}
use Rattle.std.specs.Option.{is_some, option_copied, option_map}
use Rattle.std.specs.Str.{IsUtf8}
use Rattle.cell_units.specs.declared.limits.TheConstants.{BLOCK_LINES_LIMIT, BLOCK_LINE_LIMIT, ENTRY_LIMIT, INLAY_LIMIT}
use Rattle.cell_units.specs.declared.place.Side.{Side}
use Rattle.cell_units.specs.Text.{carriage_return, is_boundary, is_feed, line_feed}
use Rattle.cell_units.specs.Record.{Fold, Inlay, Record, line_count}
use Rattle.cell_units.specs.Operation.{AddBlock, AddFold, AddInlay}
use Rattle.cell_units.specs.Lawful.{IsAllowed, IsBlockLine}
use Rattle.cell_units.proofs.CutLists.{Every}
use Rattle.cell_units.proofs.FoundEntries.{All-from_Every, Every-from_All}
use Rattle.cell_units.proofs.TextLaws.{tells_boundaries}
use Rattle.std.proofs.lemmas.Bool.{and_parts, eqb-false, leb-true, ne_eqb}
use Rattle.std.proofs.lemmas.List.Sums.{sum_by-cons}
use Rattle.cell_units.specs.declared.fault.Refusal.{Refusal}
use Rattle.cell_units.specs.declared.fault.Refusal.TheVariants.{BadRange, BadText, IdInUse, TooLong, UnknownId}
use Rattle.display_sheet.specs.Changes.{are_block_lines, block_refusal, first_of, fold_refusal, has_block, has_fold, has_inlay, inlay_refusal, is_fold_range, is_full, is_line_end, is_long_line}

-- ---- ids

-- some entry passes where one is found
pub any-found : {X : Type 0} (p : X → Bool) (xs : List X) → list_any p xs ≡ is_some (find p xs)
any-found p [] = refl
any-found p (x ∷ xs) = go (p x) (any-found p xs) where
  go : (b : Bool) → list_any p xs ≡ is_some (find p xs) → (b || list_any p xs) ≡ is_some (cond b (Some x) (find p xs))
  go true e = refl
  go false e = e

is_some-map : {X Y : Type 0} (f : X → Y) (o : Option X) → is_some (option_map f o) ≡ is_some o
is_some-map f None = refl
is_some-map f (Some x) = refl

-- whether an id is in use, by what was looked for
pub used : {X Y : Type 0} (see : X → Y) (p : Y → Bool) (xs : List Y) (o : Option X) (b : Bool) → option_map see o ≡ find p xs → is_some o ≡ b → list_any p xs ≡ b
used see p xs o b found is = any-found p xs ∙ ap is_some (sym found) ∙ is_some-map see o ∙ is

-- an id that isn't in use counts as none
pub none-counted : {X : Type 0} (p : X → Bool) (xs : List X) → list_any p xs ≡ false → count_by p xs ≡ 0
none-counted p [] e = refl
none-counted p (x ∷ xs) e = go (p x) refl e (none-counted p xs) where
  go : (b : Bool) → p x ≡ b → (b || list_any p xs) ≡ false → (list_any p xs ≡ false → count_by p xs ≡ 0) → count_by p (x ∷ xs) ≡ 0
  go true is h ih = absurd (cc h)
  go false is h ih = omega (arith, sum_by-cons (λ y. cond (p y) 1 0) x xs, ap {B = ℕ} (λ (c : Bool). cond c 1 0) is, ih h)

-- ... found or not
pub found-used : {X Y : Type 0} (see : X → Y) (p : Y → Bool) (xs : List X) (ys : List Y) (o : Option (Bor X)) (b : Bool) → option_map see (option_copied o) ≡ find p (map see xs) →
    map see xs ≡ ys → is_some o ≡ b → list_any p ys ≡ b
found-used see p xs ys o b found same is =
    ap (list_any p) (sym same) ∙ used see p (map see xs) (option_copied o) b found (is_some-map (λ x. x.now) o ∙ is)

-- ---- tests in their order

abbrev Tests : Type 0
Tests = List (Bool × Refusal)

hit : (b : Bool) (X : Refusal) (ps : Tests) → b ≡ true → first_of ((b, X) ∷ ps) ≡ Some X
hit b X ps e = λ i. cond (e i) (Some X) (first_of ps)

miss : (b : Bool) (X : Refusal) (ps : Tests) (o : Option Refusal) → b ≡ false → first_of ps ≡ o → first_of ((b, X) ∷ ps) ≡ o
miss b X ps o e rest = (λ i. cond (e i) (Some X) (first_of ps)) ∙ rest

-- where none fits, none of the tests was passed
passed_none : (b : Bool) (X : Refusal) (ps : Tests) → first_of ((b, X) ∷ ps) ≡ None → (b ≡ false) × (first_of ps ≡ None)
passed_none true X ps e = absurd (cc e)
passed_none false X ps e = (refl, e)

not-true : (b : Bool) → not b ≡ false → b ≡ true
not-true true e = refl
not-true false e = absurd (cc e)

not-false : (b : Bool) → not b ≡ true → b ≡ false
not-false true e = absurd (cc e)
not-false false e = refl

neither : (a b : Bool) → (a || b) ≡ false → (a ≡ false) × (b ≡ false)
neither true b e = absurd (cc e)
neither false b e = (refl, e)

zero-test : (n : ℕ) → n ≡ 0 → (n == 0) ≡ true
zero-test zero e = refl
zero-test (suc n) e = absurd (omega (arith, e))

some-test : (n : ℕ) → 0 < n → (n == 0) ≡ false
some-test zero lt = absurd (omega (arith, lt))
some-test (suc n) lt = ne_eqb (suc n) 0 (λ e. omega (arith, e))

test-some : (n : ℕ) → (n == 0) ≡ false → 0 < n
test-some zero e = absurd (cc e)
test-some (suc n) e = omega arith

-- ---- inlays

module _ (r : Record) (inlay : Inlay) where
  abbrev long : Bool
  long = nat_lt INLAY_LIMIT (length inlay.text) || is_full r.inlays

  abbrev in_use : Bool
  in_use = has_inlay inlay.id r

  abbrev at : Bool
  at = is_boundary r.text inlay.offset

  abbrev empty : Bool
  empty = length inlay.text == 0

  abbrev last : Tests
  last = (long, TooLong) ∷ []

  abbrev last_two : Tests
  last_two = (empty, BadText) ∷ last

  abbrev last_three : Tests
  last_three = (not at, BadRange) ∷ last_two

  pub inlay-used : in_use ≡ true → inlay_refusal r inlay ≡ Some IdInUse
  inlay-used e = hit in_use IdInUse last_three e

  pub inlay-range : in_use ≡ false → at ≡ false → inlay_refusal r inlay ≡ Some BadRange
  inlay-range e f = miss in_use IdInUse last_three (Some BadRange) e (hit (not at) BadRange last_two (ap not f))

  pub inlay-empty : in_use ≡ false → at ≡ true → length inlay.text ≡ 0 → inlay_refusal r inlay ≡ Some BadText
  inlay-empty e f g = miss in_use IdInUse last_three (Some BadText) e (miss (not at) BadRange last_two (Some BadText) (ap not f) (hit empty BadText last (zero-test (length inlay.text) g)))

  rest : (o : Option Refusal) → in_use ≡ false → at ≡ true → 0 < length inlay.text → first_of last ≡ o → inlay_refusal r inlay ≡ o
  rest o e f g h = miss in_use IdInUse last_three o e (miss (not at) BadRange last_two o (ap not f) (miss empty BadText last o (some-test (length inlay.text) g) h))

  pub inlay-long : in_use ≡ false → at ≡ true → 0 < length inlay.text → long ≡ true → inlay_refusal r inlay ≡ Some TooLong
  inlay-long e f g h = rest (Some TooLong) e f g (hit long TooLong [] h)

  pub inlay-none : in_use ≡ false → at ≡ true → 0 < length inlay.text → long ≡ false → inlay_refusal r inlay ≡ None
  inlay-none e f g h = rest None e f g (miss long TooLong [] None h refl)

  -- one that isn't refused is allowed
  pub inlay-allowed : IsUtf8 r.text → IsUtf8 inlay.text → inlay_refusal r inlay ≡ None → IsAllowed (AddInlay inlay) r
  inlay-allowed utf8 own e =
      let a = passed_none in_use IdInUse last_three e in
      let b = passed_none (not at) BadRange last_two a.1 in
      let c = passed_none empty BadText last b.1 in
      let d = passed_none long TooLong [] c.1 in
      let l = neither (nat_lt INLAY_LIMIT (length inlay.text)) (is_full r.inlays) d.0 in (
        record {
          boundary = (tells_boundaries r.text utf8 inlay.offset).0 (not-true at b.0);
          utf8 = own;
          some = test-some (length inlay.text) c.0;
          short = ltb-false INLAY_LIMIT (length inlay.text) l.0;
        },
        record { fresh = none-counted (λ j. j.id == inlay.id) r.inlays a.0; room = leb-false ENTRY_LIMIT (length r.inlays) l.1 },
      )

-- ---- folds

module _ (r : Record) (fold : Fold) where
  abbrev full : Bool
  full = is_full r.folds

  abbrev fold_in_use : Bool
  fold_in_use = has_fold fold.id r

  abbrev fits : Bool
  fits = is_fold_range r.text fold

  abbrev fold_last : Tests
  fold_last = (full, TooLong) ∷ []

  abbrev fold_last_two : Tests
  fold_last_two = (not fits, BadRange) ∷ fold_last

  pub fold-used : fold_in_use ≡ true → fold_refusal r fold ≡ Some IdInUse
  fold-used e = hit fold_in_use IdInUse fold_last_two e

  pub fold-range : fold_in_use ≡ false → fits ≡ false → fold_refusal r fold ≡ Some BadRange
  fold-range e f = miss fold_in_use IdInUse fold_last_two (Some BadRange) e (hit (not fits) BadRange fold_last (ap not f))

  pub fold-long : fold_in_use ≡ false → fits ≡ true → full ≡ true → fold_refusal r fold ≡ Some TooLong
  fold-long e f g = miss fold_in_use IdInUse fold_last_two (Some TooLong) e (miss (not fits) BadRange fold_last (Some TooLong) (ap not f) (hit full TooLong [] g))

  pub fold-none : fold_in_use ≡ false → fits ≡ true → full ≡ false → fold_refusal r fold ≡ None
  fold-none e f g = miss fold_in_use IdInUse fold_last_two None e (miss (not fits) BadRange fold_last None (ap not f) (miss full TooLong [] None g refl))

  pub fold-allowed : IsUtf8 r.text → fold_refusal r fold ≡ None → IsAllowed (AddFold fold) r
  fold-allowed utf8 e =
      let a = passed_none fold_in_use IdInUse fold_last_two e in
      let b = passed_none (not fits) BadRange fold_last a.1 in
      let c = passed_none full TooLong [] b.1 in
      let three = and_parts (nat_lt fold.start fold.end && is_boundary r.text fold.start) (is_boundary r.text fold.end) (not-true fits b.0) in
      let two = and_parts (nat_lt fold.start fold.end) (is_boundary r.text fold.start) three.0 in (
        record {
          start = (tells_boundaries r.text utf8 fold.start).0 two.1;
          end = (tells_boundaries r.text utf8 fold.end).0 three.1;
          some = ltb-true fold.start fold.end two.0;
        },
        record { fresh = none-counted (λ g. g.id == fold.id) r.folds a.0; room = leb-false ENTRY_LIMIT (length r.folds) c.0 },
      )

-- ---- blocks

unbroken : (line : List ℕ) → list_any is_line_end line ≡ false → Every (λ b. (b ≢ carriage_return) × (b ≢ line_feed)) line
unbroken [] e = tt
unbroken (b ∷ bs) e =
    let both = neither (is_line_end b) (list_any is_line_end bs) e in
    let ends = neither (is_feed b) (b == carriage_return) both.0 in
    ((eqb-false b carriage_return ends.1, eqb-false b line_feed ends.0), unbroken bs both.1)

each_line : (lines : List (List ℕ)) → Every IsUtf8 lines → list_any (list_any is_line_end) lines ≡ false → list_any is_long_line lines ≡ false → Every IsBlockLine lines
each_line [] utf8 e f = tt
each_line (line ∷ lines) utf8 e f =
    let whole = neither (list_any is_line_end line) (list_any (list_any is_line_end) lines) e in
    let short = neither (is_long_line line) (list_any is_long_line lines) f in (
      record {
        utf8 = utf8.0;
        unbroken = All-from_Every (λ b. (b ≢ carriage_return) × (b ≢ line_feed)) line (unbroken line whole.0);
        short = ltb-false BLOCK_LINE_LIMIT (length line) short.0;
      },
      each_line lines utf8.1 whole.1 short.1,
    )

module _ (r : Record) (row id : ℕ) (lines : List (List ℕ)) where
  abbrev no_room : Bool
  no_room = list_any is_long_line lines || is_full r.blocks

  abbrev block_in_use : Bool
  block_in_use = has_block id r

  abbrev outside : Bool
  outside = nat_le (line_count r.text) row

  abbrev proper : Bool
  proper = are_block_lines lines

  abbrev block_last : Tests
  block_last = (no_room, TooLong) ∷ []

  abbrev block_last_two : Tests
  block_last_two = (not proper, BadText) ∷ block_last

  abbrev block_last_three : Tests
  block_last_three = (outside, BadRange) ∷ block_last_two

  pub block-used : block_in_use ≡ true → block_refusal r row id lines ≡ Some IdInUse
  block-used e = hit block_in_use IdInUse block_last_three e

  pub block-range : block_in_use ≡ false → outside ≡ true → block_refusal r row id lines ≡ Some BadRange
  block-range e f = miss block_in_use IdInUse block_last_three (Some BadRange) e (hit outside BadRange block_last_two f)

  behind_range : (o : Option Refusal) → block_in_use ≡ false → outside ≡ false → first_of block_last_two ≡ o → block_refusal r row id lines ≡ o
  behind_range o e f g = miss block_in_use IdInUse block_last_three o e (miss outside BadRange block_last_two o f g)

  pub block-broken : block_in_use ≡ false → outside ≡ false → proper ≡ false → block_refusal r row id lines ≡ Some BadText
  block-broken e f g = behind_range (Some BadText) e f (hit (not proper) BadText block_last (ap not g))

  pub block-long : block_in_use ≡ false → outside ≡ false → proper ≡ true → no_room ≡ true → block_refusal r row id lines ≡ Some TooLong
  block-long e f g h = behind_range (Some TooLong) e f (miss (not proper) BadText block_last (Some TooLong) (ap not g) (hit no_room TooLong [] h))

  pub block-none : block_in_use ≡ false → outside ≡ false → proper ≡ true → no_room ≡ false → block_refusal r row id lines ≡ None
  block-none e f g h = behind_range None e f (miss (not proper) BadText block_last None (ap not g) (miss no_room TooLong [] None h refl))

  pub block-allowed : (side : Side) → All IsUtf8 lines → block_refusal r row id lines ≡ None → IsAllowed (AddBlock row id side lines) r
  block-allowed side utf8 e =
      let a = passed_none block_in_use IdInUse block_last_three e in
      let b = passed_none outside BadRange block_last_two a.1 in
      let c = passed_none (not proper) BadText block_last b.1 in
      let d = passed_none no_room TooLong [] c.1 in
      let l = neither (list_any is_long_line lines) (is_full r.blocks) d.0 in
      let broken = list_any (list_any is_line_end) lines in
      let whole = and_parts (nat_lt 0 (length lines) && nat_le (length lines) BLOCK_LINES_LIMIT) (not broken) (not-true proper c.0) in
      let sizes = and_parts (nat_lt 0 (length lines)) (nat_le (length lines) BLOCK_LINES_LIMIT) whole.0 in (
        leb-false (line_count r.text) row b.0,
        record {
          some = ltb-true 0 (length lines) sizes.0;
          few = leb-true (length lines) BLOCK_LINES_LIMIT sizes.1;
          each = All-from_Every IsBlockLine lines (each_line lines (Every-from_All IsUtf8 lines utf8) (not-false broken whole.1) l.0);
        },
        record { fresh = none-counted (λ k. k.id == id) r.blocks a.0; room = leb-false ENTRY_LIMIT (length r.blocks) l.1 },
      )

-- ---- what is taken away

pub unknown : (b : Bool) → b ≡ false → first_of ((not b, UnknownId) ∷ []) ≡ Some UnknownId
unknown b e = hit (not b) UnknownId [] (ap not e)

pub known : (b : Bool) → b ≡ true → first_of ((not b, UnknownId) ∷ []) ≡ None
known b e = miss (not b) UnknownId [] None (ap not e) refl

-- ... of which the entry was found
pub found-known : {X : Type 0} (p : X → Bool) (xs : List X) (x : X) → find p xs ≡ Some x → first_of ((not (list_any p xs), UnknownId) ∷ []) ≡ None
found-known p xs x e = known (list_any p xs) (any-found p xs ∙ ap is_some e)

-- ---- entries that are found

Every-find : {X : Type 0} (P : X → Type 0) (p : X → Bool) (xs : List X) (x : X) → Every P xs → find p xs ≡ Some x → P x
Every-find {X} P p [] x all e = absurd (cc e)
Every-find {X} P p (y ∷ xs) x all e = go (p y) all.0 e (λ f. Every-find P p xs x all.1 f) where
  go : (b : Bool) → P y → cond b (Some y) (find p xs) ≡ Some x → (find p xs ≡ Some x → P x) → P x
  go true h f ih = subst P (cc f) h
  go false h f ih = ih f

pub All-find : {X : Type 0} (P : X → Type 0) (p : X → Bool) (xs : List X) (x : X) → All P xs → find p xs ≡ Some x → P x
All-find {X} P p xs x all e = Every-find P p xs x (Every-from_All P xs all) e
