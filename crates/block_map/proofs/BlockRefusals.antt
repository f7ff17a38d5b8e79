-- Why a block is refused.
use Rattle.std.proofs.Common.{◌≡◌, ◌≢◌, ℕ, ◌+◌, ◌<◌, ◌==◌, ◌||◌, ◌&&◌, not, nat_le, nat_lt, Bool, true, false, cond, List, [], ◌∷◌, length, Option, Some, None, Result, Ok, Err, IfErr, IsErrAnd, refl, sym, ap, subst, leb-false, ltb-false, ltb-true}
use Rattle.std.specs.List.{All, list_any}
use Rattle.std.specs.Str.{IsUtf8}
use Rattle.std.proofs.lemmas.Bool.{and_parts, eqb-false, leb-true}
use Rattle.cell_units.specs.declared.fault.Fault.{Fault}
use Rattle.cell_units.specs.declared.fault.Fault.TheVariants.{NoMemory}
use Rattle.cell_units.specs.declared.fault.Refusal.{Refusal}
use Rattle.cell_units.specs.declared.fault.Refusal.TheVariants.{BadRange, BadText, IdInUse, TooLong, UnknownId}
use Rattle.cell_units.specs.declared.limits.TheConstants.{BLOCK_LINES_LIMIT, BLOCK_LINE_LIMIT, ENTRY_LIMIT}
use Rattle.cell_units.specs.Lawful.{AreBlockLines, IsBlockLine}
use Rattle.cell_units.specs.Layers.{Source}
use Rattle.cell_units.specs.Text.{IsBoundary, carriage_return, is_boundary, is_feed, line_feed}
use Rattle.cell_units.proofs.CutLists.{Every}
use Rattle.cell_units.proofs.FoundEntries.{All-from_Every, Every-from_All}
use Rattle.cell_units.proofs.TextLaws.{tells_boundaries}
use Rattle.block_map.specs.Maps.{BlockState, IsOwed, add_refusal, are_block_lines, has_block, is_full, is_line_end, is_long_line, remove_refusal}

pub boundary-true : (text : List ℕ) (o : ℕ) → IsUtf8 text → IsBoundary text o → is_boundary text o ≡ true
boundary-true text o utf8 b = (tells_boundaries text utf8 o).1 b

pub boundary-false : (text : List ℕ) (o : ℕ) → IsUtf8 text → ¬ IsBoundary text o → is_boundary text o ≡ false
boundary-false text o utf8 off = go (is_boundary text o) refl where
  go : (b : Bool) → is_boundary text o ≡ b → b ≡ false
  go true e = absurd (off ((tells_boundaries text utf8 o).0 e))
  go false e = refl

module _ (source : Source) (s : BlockState) (id offset : ℕ) (lines : List (List ℕ)) where
  abbrev too_much : Bool
  too_much = list_any is_long_line lines || is_full s

  abbrev chain : Bool → Bool → Bool → Bool → Option Refusal
  chain used at proper over = cond used (Some IdInUse) (cond (not at) (Some BadRange) (cond (not proper) (Some BadText) (cond over (Some TooLong) None)))

  chained : (used at proper over : Bool) → has_block id s ≡ used → is_boundary source.text offset ≡ at → are_block_lines lines ≡ proper → too_much ≡ over → chain used at proper over ≡ add_refusal source s id offset lines
  chained used at proper over p q r t = λ i. chain (sym p i) (sym q i) (sym r i) (sym t i)

  pub refused-id : has_block id s ≡ true → Some IdInUse ≡ add_refusal source s id offset lines
  refused-id p = chained true (is_boundary source.text offset) (are_block_lines lines) too_much p refl refl refl

  pub refused-range : has_block id s ≡ false → is_boundary source.text offset ≡ false → Some BadRange ≡ add_refusal source s id offset lines
  refused-range p q = chained false false (are_block_lines lines) too_much p q refl refl

  pub refused-text : has_block id s ≡ false → is_boundary source.text offset ≡ true → are_block_lines lines ≡ false → Some BadText ≡ add_refusal source s id offset lines
  refused-text p q r = chained false true false too_much p q r refl

  pub refused-much : has_block id s ≡ false → is_boundary source.text offset ≡ true → are_block_lines lines ≡ true → too_much ≡ true → Some TooLong ≡ add_refusal source s id offset lines
  refused-much p q r t = chained false true true true p q r t

  pub not-refused : has_block id s ≡ false → is_boundary source.text offset ≡ true → are_block_lines lines ≡ true → too_much ≡ false → None ≡ add_refusal source s id offset lines
  not-refused p q r t = chained false true true false p q r t

  -- what no refusal says
  pub record IsAccepted : Type 0 where
    pub unused : has_block id s ≡ false
    pub proper : are_block_lines lines ≡ true
    pub short : list_any is_long_line lines ≡ false
    pub room : length s.above + length s.below < ENTRY_LIMIT

  pub accepted : add_refusal source s id offset lines ≡ None → IsAccepted
  accepted e = go (has_block id s) (is_boundary source.text offset) (are_block_lines lines) (list_any is_long_line lines) refl refl refl e where
    go : (used at proper long : Bool) → has_block id s ≡ used → are_block_lines lines ≡ proper → list_any is_long_line lines ≡ long → chain used at proper (long || is_full s) ≡ None → IsAccepted
    go true at proper long p r t f = absurd (cc)
    go false false proper long p r t f = absurd (cc)
    go false true false long p r t f = absurd (cc)
    go false true true true p r t f = absurd (cc)
    go false true true false p r t f = record { unused = p; proper = r; short = t; room = leb-false ENTRY_LIMIT (length s.above + length s.below) (not-full (is_full s) f) } where
      not-full : (b : Bool) → cond b (Some TooLong) None ≡ None → b ≡ false
      not-full true f = absurd (cc)
      not-full false f = refl

-- ---- a block is only removed where its id is there

pub known-id : (s : BlockState) (id : ℕ) → has_block id s ≡ true → None ≡ remove_refusal s id
known-id s id e = ap {B = Option Refusal} (λ (b : Bool). cond b None (Some UnknownId)) (sym e)

pub unknown-id : (s : BlockState) (id : ℕ) → has_block id s ≡ false → Some UnknownId ≡ remove_refusal s id
unknown-id s id e = ap {B = Option Refusal} (λ (b : Bool). cond b None (Some UnknownId)) (sym e)

-- where nothing is refused, the error is out of memory
pub owed-memory : {A : Type 0} (refusal : Option Refusal) (r : Result A Fault) → None ≡ refusal → IsErrAnd r (λ e. e ≡ NoMemory) → IfErr r (IsOwed refusal)
owed-memory refusal (Ok x) none h = tt
owed-memory refusal (Err e) none h = subst (λ (o : Option Refusal). IsOwed o e) none h

-- ---- lines that aren't refused

neither : (a b : Bool) → (a || b) ≡ false → (a ≡ false) × (b ≡ false)
neither true b e = absurd (cc e)
neither false b e = (refl, e)

not-false : (b : Bool) → not b ≡ true → b ≡ false
not-false true e = absurd (cc e)
not-false false e = refl

unbroken : (line : List ℕ) → list_any is_line_end line ≡ false → Every (λ b. (b ≢ carriage_return) × (b ≢ line_feed)) line
unbroken [] e = tt
unbroken (b ∷ bs) e =
    let both = neither (is_line_end b) (list_any is_line_end bs) e in
    let ends = neither (is_feed b) (b == carriage_return) both.0 in
    ((eqb-false b carriage_return ends.1, eqb-false b line_feed ends.0), unbroken bs both.1)

each_line : (lines : List (List ℕ)) → Every IsUtf8 lines → list_any (list_any is_line_end) lines ≡ false → list_any is_long_line lines ≡ false → Every IsBlockLine lines
each_line [] utf8 e f = tt
each_line (line ∷ lines) utf8 e f =
    let whole = neither (list_any is_line_end line) (list_any (list_any is_line_end) lines) e in
    let short = neither (is_long_line line) (list_any is_long_line lines) f in (
      record {
        utf8 = utf8.0;
        unbroken = All-from_Every (λ b. (b ≢ carriage_return) × (b ≢ line_feed)) line (unbroken line whole.0);
        short = ltb-false BLOCK_LINE_LIMIT (length line) short.0;
      },
      each_line lines utf8.1 whole.1 short.1,
    )

pub lawful-lines : (lines : List (List ℕ)) → All IsUtf8 lines → are_block_lines lines ≡ true → list_any is_long_line lines ≡ false → AreBlockLines lines
lawful-lines lines utf8 proper short =
    let broken = list_any (list_any is_line_end) lines in
    let whole = and_parts (nat_lt 0 (length lines) && nat_le (length lines) BLOCK_LINES_LIMIT) (not broken) proper in
    let sizes = and_parts (nat_lt 0 (length lines)) (nat_le (length lines) BLOCK_LINES_LIMIT) whole.0 in
    record {
      some = ltb-true 0 (length lines) sizes.0;
      few = leb-true (length lines) BLOCK_LINES_LIMIT sizes.1;
      each = All-from_Every IsBlockLine lines (each_line lines (Every-from_All IsUtf8 lines utf8) (not-false broken whole.1) short);
    }
