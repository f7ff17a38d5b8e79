-- Lines after a replacement of some of them.
use Rattle.std.proofs.Common.{◌≡◌, ℕ, ◌+◌, ◌<◌, ◌≤◌, ◌^◌, List, [], ◌∷◌, ◌++◌, length, map, take, drop, replicate, Option, Some, None, refl, ap, sym, subst, ◌∙◌, arith, inl, length-append, length-drop}
use Rattle.std.specs.Prelude.{IfSome}
use Rattle.std.specs.List.{zip}
use Rattle.std.proofs.lemmas.List.{length-take-le, length-replicate}
use Rattle.std.proofs.lemmas.List.Elements.{All-append, All-drop, All-replicate, All-take}
use Rattle.cell_line.specs.declared.element.Element.{Element}
use Rattle.cell_line.specs.Lines.{FitsU32}
use Rattle.cell_units.specs.declared.place.Shift.{Shift}
use Rattle.cell_units.specs.Lawful.{IsWidth}
use Rattle.cell_units.specs.Rows.{all_rows, rows_before}
use Rattle.edit_patch.specs.Leads.{LeadsAt, LeadsBy}
use Rattle.wrap_map.specs.Standing.{AreReplaced, AreRowsOf, HasRoom, IsStanding, IsSynced, Standing, Wrapped, all_at, shown_rows, standing_after, stood_of}
use Rattle.wrap_map.specs.Stood.{Stood, marks_in, rows_in}
use Rattle.wrap_map.specs.inside.Changes.{AreRowsIfAny, AreRowsIn, cleared, cleared_if_any}
use Rattle.wrap_map.proofs.Standings.{all-unwrapped, length-pairs, mapped-after, put-in, rows-lead, rows-stood, rows_before-stood, rows_in-unwrapped, rows_of-texts, stood, texts}

pub length-stood_of : (s : Standing) → length s.marks ≡ length s.lines → length (stood_of s) ≡ length s.lines
length-stood_of s one_each = length-pairs stood s.lines s.marks one_each

-- how lines are wrapped after a replacement
pub stood-after : (s : Standing) (lines : List (List Element)) (below : Shift) → LeadsAt s.lines lines below.start below.end below.count
    → length s.marks ≡ length s.lines → stood_of (standing_after s lines (Some below)) ≡ cleared below (stood_of s)
stood-after s lines below l one_each =
    mapped-after stood s.lines lines s.marks below.start below.end below.count l below.ordered one_each
    ∙ ap (λ (ls : List Stood). take below.start (stood_of s) ++ ls ++ drop below.end (stood_of s))
    (all-unwrapped (take below.count (drop below.start lines)) below.count (put-in s.lines lines below.start below.end below.count l))

-- the rows lead from those before to those after it
pub rows-after : (s : Standing) (lines : List (List Element)) (below : Shift) → LeadsAt s.lines lines below.start below.end below.count
    → length s.marks ≡ length s.lines
    → LeadsAt (all_rows (shown_rows s)) (all_rows (shown_rows (standing_after s lines (Some below))))
    (rows_before (shown_rows s) below.start) (rows_before (shown_rows s) below.end) below.count
rows-after s lines below l one_each =
    let old = shown_rows s in
    let pairs : List (List Element × ℕ) = zip (take below.count (drop below.start lines)) (replicate below.count 0) in
    let put : List (List (List ℕ)) = map texts pairs in
    let within : below.end ≤ length old =
    let h = length-pairs texts s.lines s.marks one_each in
    let w = l.within in
    omega (arith, h, w) in
    let count : length (all_rows put) ≡ below.count =
    rows_of-texts pairs
    ∙ ap rows_in (all-unwrapped (take below.count (drop below.start lines)) below.count (put-in s.lines lines below.start below.end below.count l))
    ∙ rows_in-unwrapped below.count in
    let a = rows_before old below.start in
    let b = rows_before old below.end in
    let step : LeadsAt (all_rows old) (all_rows (take below.start old ++ put ++ drop below.end old)) a b (length (all_rows put)) =
    rows-lead old put below.start below.end below.ordered within in
    let new-is = mapped-after texts s.lines lines s.marks below.start below.end below.count l below.ordered one_each in
    subst (λ (ls : List (List (List ℕ))). LeadsAt (all_rows old) (all_rows ls) a b below.count) (sym new-is)
    (subst (λ (n : ℕ). LeadsAt (all_rows old) (all_rows (take below.start old ++ put ++ drop below.end old)) a b n) count step)

pub rows-replaced : (s : Standing) (below rows : Shift) → AreRowsIn (stood_of s) below rows → AreRowsOf s below rows
rows-replaced s below rows r = record {
  start_is = r.start_is ∙ sym (rows_before-stood s below.start);
  end_is = r.end_is ∙ sym (rows_before-stood s below.end);
  count_is = r.count_is;
}

-- ---- lines as they are wrapped

pub marks-stood : (lines : List (List Element)) (marks : List ℕ) → length marks ≡ length lines → marks_in (stood_of (record { lines = lines; marks = marks })) ≡ marks
marks-stood [] [] h = refl
marks-stood [] (m ∷ marks) h = absurd (omega arith)
marks-stood (es ∷ lines) [] h = absurd (omega arith)
marks-stood (es ∷ lines) (m ∷ marks) h = ap (λ ms. m ∷ ms) (marks-stood lines marks (omega arith))

-- ---- lines after a replacement, if there was one

pub standing-unwrapped : (lines : List (List Element)) → FitsU32 lines → IsStanding (all_at 0 lines)
standing-unwrapped lines fits =
    let n = length lines in
    let rows = rows-stood (all_at 0 lines) ∙ ap rows_in (all-unwrapped lines n refl) ∙ rows_in-unwrapped n in
    let few = fits.0 in
    record {
      one_each = length-replicate n 0;
      lawful = All-replicate IsWidth n 0 (inl refl);
      room = record { fits = fits; rows_fit = omega (arith, rows, few) };
    }

standing-shift : (s : Standing) (lines : List (List Element)) (below : Shift) → IsStanding s → LeadsAt s.lines lines below.start below.end below.count
    → HasRoom (standing_after s lines (Some below)) → IsStanding (standing_after s lines (Some below))
standing-shift s lines below is l room =
    let a = below.start in let b = below.end in let n = below.count in
    let order = below.ordered in
    let one_each = is.one_each in
    let within = l.within in let reaches = l.reaches in
    let front = length-take-le a s.marks (omega arith) in
    let back = length-drop b s.marks in
    let mid = length-replicate {A = ℕ} n 0 in
    let first = length-append (take a s.marks) (replicate n 0) in
    let both = length-append (take a s.marks ++ replicate n 0) (drop b s.marks) in
    let behind = ap length l.behind in
    let old = length-drop b s.lines in
    let new = length-drop (a + n) lines in
    record {
      one_each = omega (arith, front, back, mid, first, both, behind, old, new, one_each, within, reaches);
      lawful = All-append IsWidth (take a s.marks ++ replicate n 0) (drop b s.marks)
          (All-append IsWidth (take a s.marks) (replicate n 0) (All-take IsWidth a s.marks is.lawful) (All-replicate IsWidth n 0 (inl refl)))
          (All-drop IsWidth b s.marks is.lawful);
      room = room;
    }

pub standing-after : (s : Standing) (lines : List (List Element)) (below : Option Shift) → IsStanding s → LeadsBy s.lines lines below
    → HasRoom (standing_after s lines below) → IsStanding (standing_after s lines below)
standing-after s lines None is l room = record { one_each = is.one_each ∙ ap length (sym l); lawful = is.lawful; room = room }
standing-after s lines (Some below) is l room = standing-shift s lines below is l room

pub stood-after_any : (s : Standing) (lines : List (List Element)) (below : Option Shift) → IsStanding s → LeadsBy s.lines lines below
    → cleared_if_any below (stood_of s) ≡ stood_of (standing_after s lines below)
stood-after_any s lines None is l = ap (λ (ls : List (List Element)). stood_of (record { lines = ls; marks = s.marks })) (sym l)
stood-after_any s lines (Some below) is l = sym (stood-after s lines below l is.one_each)

replaced-any : (s : Standing) (below rows : Option Shift) → AreRowsIfAny (stood_of s) below rows → AreReplaced s below rows
replaced-any s None None r = tt
replaced-any s None (Some rows) r = r
replaced-any s (Some below) None r = r
replaced-any s (Some below) (Some rows) r = rows-replaced s below rows r

-- what is shown leads from what was shown
leads-any : (s : Standing) (lines : List (List Element)) (below rows : Option Shift) → IsStanding s → LeadsBy s.lines lines below → AreReplaced s below rows
    → LeadsBy (all_rows (shown_rows s)) (all_rows (shown_rows (standing_after s lines below))) rows
leads-any s lines None None is l r = ap (λ (ls : List (List Element)). all_rows (shown_rows (record { lines = ls; marks = s.marks }))) l
leads-any s lines None (Some rows) is l r = absurd r
leads-any s lines (Some below) None is l r = absurd r
leads-any s lines (Some below) (Some rows) is l r =
    let old = all_rows (shown_rows s) in
    let new = all_rows (shown_rows (standing_after s lines (Some below))) in
    let a = rows_before (shown_rows s) below.start in
    let b = rows_before (shown_rows s) below.end in
    subst (λ (n : ℕ). LeadsAt old new n rows.end rows.count) (sym r.start_is)
    (subst (λ (n : ℕ). LeadsAt old new a n rows.count) (sym r.end_is)
    (subst (λ (n : ℕ). LeadsAt old new a b n) (sym r.count_is) (rows-after s lines below l is.one_each)))

pub synced : (old : Wrapped) (lines : List (List Element)) (below : Option Shift) (new : Wrapped) (shown : Standing) (rows : Option Shift)
    → IsStanding old.standing → LeadsBy old.standing.lines lines below → AreRowsIfAny (stood_of old.standing) below rows
    → new ≡ record old { standing = standing_after old.standing lines below } → shown ≡ standing_after old.standing lines below
    → IsSynced old lines below new shown rows
synced old lines below new shown rows is l r new-is shown-is =
    let replaced = replaced-any old.standing below rows r in
    record {
      map = new-is;
      shown_is = shown-is ∙ sym (ap (λ (m : Wrapped). m.standing) new-is);
      replaced = replaced;
      leads = subst (λ (s : Standing). LeadsBy (all_rows (shown_rows old.standing)) (all_rows (shown_rows s)) rows) (sym shown-is)
          (leads-any old.standing lines below rows is l replaced);
    }

-- ---- what the call needs

pub sync-within : (s : Standing) (lines : List (List Element)) (below : Option Shift) (ls : List Stood) → ls ≡ stood_of s → IsStanding s
    → LeadsBy s.lines lines below → IfSome below (λ shift. shift.end ≤ length ls)
sync-within s lines None ls h is l = tt
sync-within s lines (Some below) ls h is l =
    let long = ap length h ∙ length-stood_of s is.one_each in
    let within = l.within in
    omega (arith, long, within)

pub sync-stood : (s : Standing) (lines : List (List Element)) (below : Option Shift) (ls : List Stood) → ls ≡ stood_of s → IsStanding s
    → LeadsBy s.lines lines below → cleared_if_any below ls ≡ stood_of (standing_after s lines below)
sync-stood s lines below ls h is l = ap (cleared_if_any below) h ∙ stood-after_any s lines below is l

pub sync-fits : (s : Standing) (lines : List (List Element)) (below : Option Shift) (ls : List Stood) → ls ≡ stood_of s → IsStanding s
    → LeadsBy s.lines lines below → HasRoom (standing_after s lines below) → rows_in (cleared_if_any below ls) < 2 ^ 32
sync-fits s lines below ls h is l room =
    let after = standing_after s lines below in
    let e = ap rows_in (sync-stood s lines below ls h is l) in
    let rows = rows-stood after in
    let fits = room.rows_fit in
    omega (arith, e, rows, fits)

pub sync-long : (s : Standing) (lines : List (List Element)) (below : Option Shift) (ls : List Stood) → ls ≡ stood_of s → IsStanding s
    → LeadsBy s.lines lines below → HasRoom (standing_after s lines below) → length (cleared_if_any below ls) ≡ length lines
sync-long s lines below ls h is l room =
    ap length (sync-stood s lines below ls h is l) ∙ length-stood_of (standing_after s lines below) (standing-after s lines below is l room).one_each
