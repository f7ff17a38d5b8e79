-- The refusals of the maps are those of the display.
use Rattle.std.proofs.Common.{◌≡◌, ◌≤◌, ◌<◌, ◌==◌, ◌||◌, ◌&&◌, not, ℕ, Bool, true, false, cond, eqb, leb, List, [], ◌∷◌, refl, sym, ap, subst, ◌∙◌, inl, inr, arith}
use mathlib.Core.Logic.{◌⊎◌}
use Rattle.std.specs.Prelude.{Option, None, Some, nat_lt}
use Rattle.std.specs.List.{list_any}
use Rattle.std.proofs.lemmas.Bool.{and_from, and_parts, cases_Bool, cases_lt, eq-eqb, eqb-true, false≢true, le-leb, leb-true, or_cases, or_left, or_right}
use Rattle.cell_units.specs.declared.fault.Fault.{Fault}
use Rattle.cell_units.specs.declared.fault.Fault.TheVariants as faults
use Rattle.cell_units.specs.declared.fault.Refusal.{Refusal}
use Rattle.cell_units.specs.declared.fault.Refusal.TheVariants.{BadNumber, BadRange, BadText, IdInUse, TooLong, UnknownId}
use Rattle.cell_units.specs.declared.limits.TheConstants.{ENTRY_LIMIT, LEAST_WIDTH, TAB_LIMIT, WIDTH_LIMIT}
use Rattle.cell_units.specs.Lawful.{IsTab, IsWidth, source_of}
use Rattle.cell_units.specs.Record.{Record, line_count}
use Rattle.cell_units.specs.Text.{is_boundary}
use Rattle.display_sheet.specs.Changes.{are_block_lines, block_refusal, first_of, fold_of, fold_refusal, is_fold_range, is_full, is_long_line, is_tab_size, is_width}
use Rattle.display_sheet.specs.Faults.{IsRefusedAs}
use Rattle.block_map.specs.Maps as blocks
use Rattle.blocked_rows.specs.Laws.{AreAsMany, HaveIds}
use Rattle.blocked_rows.specs.Records.{kept_blocks}
use Rattle.wrapped_lines.specs.Changed.{IsNumberFault}

-- the refusal that is owed, and out of memory where none is
pub owed-as : (owed : Option Refusal) (fault : Fault) → blocks.IsOwed owed fault → IsRefusedAs owed fault
owed-as None fault is = subst (IsRefusedAs None) (sym is) (inl refl)
owed-as (Some refusal) fault is = subst (IsRefusedAs (Some refusal)) (sym is) refl

-- memory may be wanting where nothing is owed
pub no-memory : (owed : Option Refusal) → owed ≡ None → IsRefusedAs owed faults.NoMemory
no-memory owed none = inl none

-- ---- an id that isn't there

pub unknown-same : (b : Bool) → cond b None (Some UnknownId) ≡ first_of ((not b, UnknownId) ∷ [])
unknown-same true = refl
unknown-same false = refl

-- ---- folds

and-assoc : (a b c : Bool) → (a && (b && c)) ≡ ((a && b) && c)
and-assoc true b c = refl
and-assoc false b c = refl

pub range-same : (text : List ℕ) (id start end : ℕ) →
    (nat_lt start end && (is_boundary text start && is_boundary text end)) ≡ is_fold_range text (fold_of id start end)
range-same text id start end = and-assoc (nat_lt start end) (is_boundary text start) (is_boundary text end)

pub fold-same : (r : Record) (id start end : ℕ) →
    cond (list_any (λ f. f.id == id) r.folds) (Some IdInUse)
    (cond (not (nat_lt start end && (is_boundary r.text start && is_boundary r.text end))) (Some BadRange) (cond (is_full r.folds) (Some TooLong) None))
    ≡ fold_refusal r (fold_of id start end)
fold-same r id start end =
    ap (λ (b : Bool). cond (list_any (λ f. f.id == id) r.folds) (Some IdInUse) (cond (not b) (Some BadRange) (cond (is_full r.folds) (Some TooLong) None)))
    (range-same r.text id start end)

-- ---- numbers

number-as : (Lawful : Type 0) (b : Bool) → (b ≡ true → Lawful) → (Lawful → b ≡ true) → (fault : Fault) → IsNumberFault Lawful fault →
    IsRefusedAs (first_of ((not b, BadNumber) ∷ [])) fault
number-as Lawful true to from (faults.Refused refusal) is = absurd (is.1 (to refl))
number-as Lawful false to from (faults.Refused refusal) is = ap Some (sym is.0)
number-as Lawful true to from faults.NoMemory is = inl refl
number-as Lawful false to from faults.NoMemory is = absurd (false≢true (from is))

none-owed : (b : Bool) → b ≡ true → first_of ((not b, BadNumber) ∷ []) ≡ None
none-owed true h = refl
none-owed false h = absurd (false≢true h)

tab-lawful : (tab : ℕ) → is_tab_size tab ≡ true → IsTab tab
tab-lawful tab h = let p = and_parts (leb 1 tab) (leb tab TAB_LIMIT) h in (leb-true 1 tab p.0, leb-true tab TAB_LIMIT p.1)

lawful-tab : (tab : ℕ) → IsTab tab → is_tab_size tab ≡ true
lawful-tab tab is = and_from (leb 1 tab) (leb tab TAB_LIMIT) (le-leb 1 tab is.0) (le-leb tab TAB_LIMIT is.1)

pub tab-refused : (tab : ℕ) (fault : Fault) → IsNumberFault (IsTab tab) fault → IsRefusedAs (first_of ((not (is_tab_size tab), BadNumber) ∷ [])) fault
tab-refused tab = number-as (IsTab tab) (is_tab_size tab) (tab-lawful tab) (lawful-tab tab)

pub tab-none : (tab : ℕ) → IsTab tab → first_of ((not (is_tab_size tab), BadNumber) ∷ []) ≡ None
tab-none tab is = none-owed (is_tab_size tab) (lawful-tab tab is)

width-lawful : (width : ℕ) → is_width width ≡ true → IsWidth width
width-lawful width h = go (or_cases (eqb width 0) (leb LEAST_WIDTH width && leb width WIDTH_LIMIT) h) where
  go : (eqb width 0 ≡ true) ⊎ ((leb LEAST_WIDTH width && leb width WIDTH_LIMIT) ≡ true) → IsWidth width
  go (inl e) = inl (eqb-true width 0 e)
  go (inr e) = let p = and_parts (leb LEAST_WIDTH width) (leb width WIDTH_LIMIT) e in inr (leb-true LEAST_WIDTH width p.0, leb-true width WIDTH_LIMIT p.1)

lawful-width : (width : ℕ) → IsWidth width → is_width width ≡ true
lawful-width width (inl e) = or_left (eqb width 0) (leb LEAST_WIDTH width && leb width WIDTH_LIMIT) (eq-eqb width 0 e)
lawful-width width (inr p) =
    or_right (eqb width 0) (leb LEAST_WIDTH width && leb width WIDTH_LIMIT)
    (and_from (leb LEAST_WIDTH width) (leb width WIDTH_LIMIT) (le-leb LEAST_WIDTH width p.0) (le-leb width WIDTH_LIMIT p.1))

pub width-refused : (width : ℕ) (fault : Fault) → IsNumberFault (IsWidth width) fault → IsRefusedAs (first_of ((not (is_width width), BadNumber) ∷ [])) fault
width-refused width = number-as (IsWidth width) (is_width width) (width-lawful width) (lawful-width width)

pub width-none : (width : ℕ) → IsWidth width → first_of ((not (is_width width), BadNumber) ∷ []) ≡ None
width-none width is = none-owed (is_width width) (lawful-width width is)

-- ---- blocks

-- the offset that is given for a row is a boundary exactly where there is such a row
pub record StandsForRow (text : List ℕ) (row offset : ℕ) : Type 0 where
  pub there : row < line_count text → is_boundary text offset ≡ true
  pub past : line_count text ≤ row → is_boundary text offset ≡ false

outside-same : (text : List ℕ) (row offset : ℕ) → StandsForRow text row offset → not (is_boundary text offset) ≡ leb (line_count text) row
outside-same text row offset is = go (cases_lt row (line_count text)) (cases_Bool (leb (line_count text) row)) where
  go : (row < line_count text) ⊎ (line_count text ≤ row) → (leb (line_count text) row ≡ true) ⊎ (leb (line_count text) row ≡ false) →
      not (is_boundary text offset) ≡ leb (line_count text) row
  go (inl lt) (inl t) = absurd (omega (arith, lt, leb-true (line_count text) row t))
  go (inl lt) (inr f) = ap not (is.there lt) ∙ sym f
  go (inr ge) _ = ap not (is.past ge) ∙ sym (le-leb (line_count text) row ge)

pub block-same : HaveIds → AreAsMany → (r : Record) (lines : List (List (List ℕ))) (row id offset : ℕ) (given : List (List ℕ)) → StandsForRow r.text row offset →
    blocks.add_refusal (source_of r) (kept_blocks r lines) id offset given ≡ block_refusal r row id given
block-same ids many r lines row id offset given is =
    λ i. first_of (
    (ids r lines id i, IdInUse)
    ∷ (outside-same r.text row offset is i, BadRange)
    ∷ (not (are_block_lines given), BadText)
    ∷ (list_any is_long_line given || leb ENTRY_LIMIT (many r lines i), TooLong)
    ∷ [])

pub unblock-same : HaveIds → (r : Record) (lines : List (List (List ℕ))) (id : ℕ) →
    blocks.remove_refusal (kept_blocks r lines) id ≡ first_of ((not (list_any (λ b. b.id == id) r.blocks), UnknownId) ∷ [])
unblock-same ids r lines id = ap (λ (b : Bool). cond b None (Some UnknownId)) (ids r lines id) ∙ unknown-same (list_any (λ b. b.id == id) r.blocks)
