-- A text by itself as a layer: its lines have room, and which of them a replacement of it meets.
use Rattle.std.proofs.Common.{◌≡◌, Result, Ok, Err, IfErr, IsErrAnd, ℕ, ◌+◌, ◌-◌, ◌≤◌, List, length, take, drop, replicate, Some, arith, ap, subst, sym, ◌∙◌, length-append, length-drop, ◌++◌}
use Rattle.std.proofs.lemmas.List.{length-replicate, length-take-le}
use Rattle.cell_line.specs.declared.element.Element.{Element}
use Rattle.cell_line.specs.Lines.{FitsU32}
use Rattle.cell_units.specs.declared.fault.Fault.{Fault}
use Rattle.cell_units.specs.declared.fault.Fault.TheVariants.{NoMemory}
use Rattle.cell_units.specs.declared.limits.TheConstants.{LAID_LIMIT}
use Rattle.cell_units.specs.declared.place.Shift.{Shift}
use Rattle.cell_units.specs.Layers.{Source, plain_source}
use Rattle.cell_units.specs.Operation.{replaced_text}
use Rattle.cell_units.specs.Text.{row_of}
use Rattle.cell_units.proofs.PlainLayers.{text_of_plain}
use Rattle.cell_units.proofs.ReplacedRows.{length-replaced_text}
use Rattle.edit_patch.specs.Leads.{LeadsBy}
use Rattle.tab_map.specs.TabLines.{AreMet, IsShift, LinesFollow, lines_at}
use Rattle.tab_map.proofs.PlainTexts.{plain-few, plain-fits, plain-follow}
use Rattle.text_rope.specs.Edits.{IsRange, IsReplaceFault}
use Rattle.wrap_map.specs.Standing.{marks_after}
use Rattle.wrap_map.proofs.Rooms.{has-room}
use Rattle.wrapped_lines.specs.WrappedSource.{HaveRoom, WrappedSource, lines_of}

-- the lines of a text have room
pub text-room : (text : List ℕ) → length text ≤ LAID_LIMIT → HaveRoom (lines_at (plain_source text) 4)
text-room text small marks =
    has-room (record { lines = lines_at (plain_source text) 4; marks = marks }) (plain-fits text 4 (omega arith) small) (omega (arith, plain-few text 4, small))

-- and they fit
pub text-fits : (text : List ℕ) (w : WrappedSource) → w.source ≡ plain_source text → w.tab ≡ 4 → length text ≤ LAID_LIMIT → FitsU32 (lines_of w)
text-fits text w source tab small =
    let are : lines_at (plain_source text) 4 ≡ lines_of w = λ i. lines_at (sym source i) (sym tab i) in
    subst FitsU32 are (plain-fits text 4 (omega arith) small)

-- the count from the lengths is that of what was put in
pub count-told : (old new put : List ℕ) (start end bytes after count : ℕ) → IsRange old start end → new ≡ replaced_text old start end put
    → bytes ≡ length old → after ≡ length new → count ≡ after - (bytes - (end - start)) → count ≡ length put
count-told old new put start end bytes after count range is was now told =
    omega (
      arith,
      told,
      was,
      now,
      ap (λ (t : List ℕ). length t) is,
      length-replaced_text old start end put range.1.0,
      range.0,
      range.1.0,
      range.2.0,
    )

-- the lines that the replacement doesn't meet follow
pub replaced-follow : (old new put : List ℕ) (start end : ℕ) (s : Shift) (was : Source) → was ≡ plain_source old → IsRange old start end
    → new ≡ replaced_text old start end put → s.start ≡ start → s.end ≡ end → s.count ≡ length put → LinesFollow was (plain_source new) (Some s)
replaced-follow old new put start end s was source range is start-is end-is count =
    subst (λ (o : Source). LinesFollow o (plain_source new) (Some s)) (sym source)
    (plain-follow old new put s (omega (arith, end-is, range.2.0)) (is ∙ (λ i. replaced_text old (sym start-is i) (sym end-is i) put)) count)

-- and those that it meets are those of the rows of its ends
pub met-lines : (old new put : List ℕ) (start end : ℕ) (s run : Shift) (was : Source) → was ≡ plain_source old
    → s.start ≡ start → s.end ≡ end → s.count ≡ length put → AreMet was (plain_source new) (Some s) (Some run)
    → IsShift (row_of old start) (row_of old end + 1) (row_of new (start + length put) + 1) run
met-lines old new put start end s run was source start-is end-is count met =
    let plain : AreMet (plain_source old) (plain_source new) (Some s) (Some run) =
    subst (λ (o : Source). AreMet o (plain_source new) (Some s) (Some run)) source met in
    record {
      start_is = plain.start_is ∙ (λ i. row_of (text_of_plain old i) (start-is i));
      end_is = plain.end_is ∙ (λ i. row_of (text_of_plain old i) (end-is i) + 1);
      reach_is = plain.reach_is ∙ (λ i. row_of (text_of_plain new i) (start-is i + count i) + 1);
    }

-- each line has a mark again
pub marks-replaced : (marks : List ℕ) (old new : List (List Element)) (s : Shift) → length marks ≡ length old → LeadsBy old new (Some s)
    → length (marks_after (Some s) marks) ≡ length new
marks-replaced marks old new s one_each leads =
    let a = s.start in
    let b = s.end in
    let n = s.count in
    omega (
      arith,
      length-append (take a marks ++ replicate n 0) (drop b marks),
      length-append (take a marks) (replicate n 0),
      length-take-le a marks (omega (arith, s.ordered, leads.within, one_each)),
      length-replicate {A = ℕ} n 0,
      length-drop b marks,
      length-drop b old,
      length-drop (a + n) new,
      ap (λ (ls : List (List Element)). length ls) leads.behind,
      leads.within,
      leads.reaches,
      one_each,
    )

-- a replacement that finds no memory has that fault, since the range was judged
pub memory-fault : {A : Type 0} (text : List ℕ) (start end : ℕ) (put : List ℕ) (r : Result A Fault) → IsRange text start end → IsErrAnd r (λ e. e ≡ NoMemory) → IfErr r (IsReplaceFault text start end put)
memory-fault text start end put (Ok x) range h = tt
memory-fault text start end put (Err e) range h = subst (IsReplaceFault text start end put) (sym h) range
