-- Lines at a tab size.
use Rattle.std.proofs.Common.{◌≡◌, ℕ, ◌+◌, ◌-◌, ◌<◌, ◌≤◌, List, [], ◌∷◌, ◌++◌, length, map, take, Option, Some, None, refl, sym, ap, ◌∙◌, arith, subst, true}
use Rattle.std.specs.Prelude.{unwrap_or, slice_get, slice_index_or, option_map}
use Rattle.std.proofs.lemmas.List.{drop-map, take-map, drop_all, length-map}
use Rattle.std.proofs.lemmas.Option.{get_or_from_slice_get, slice_get-map}
use Rattle.unicode_segmentation.specs.Grapheme.{graphemes}
use Rattle.cell_units.specs.declared.piece.Piece.{Piece}
use Rattle.cell_units.specs.declared.place.Shift.{Shift}
use Rattle.cell_units.specs.Lawful.{IsWellFormed}
use Rattle.cell_units.specs.Layers.{Source, shown_lines, shown_text}
use Rattle.cell_units.specs.Text.{row_of}
use Rattle.cell_units.proofs.ReplacedRows.{row_of-le}
use Rattle.cell_units.proofs.Sources.{row-lt}
use Rattle.cell_line.specs.declared.element.Element.{Element}
use Rattle.cell_line.specs.Elements.{clusters, elements_of, placed}
use Rattle.edit_patch.specs.Leads.{LeadsAt, LeadsBy}
use Rattle.tab_map.specs.TabLines.{AreReplaced, IsShift, LiesWithin, LinesFollow, first_met, line_texts, lines_at, new_reach, old_reach}

-- ---- elements by texts

abbrev clusters_in : List (List ℕ) → List (List ℕ)
clusters_in [] = []
clusters_in (text ∷ texts) = graphemes true text ++ clusters_in texts

clusters-texts : (pieces : List Piece) → clusters pieces ≡ clusters_in (map (λ piece. piece.text) pieces)
clusters-texts [] = refl
clusters-texts (piece ∷ pieces) = ap (λ rest. graphemes true piece.text ++ rest) (clusters-texts pieces)

-- the elements of a line, of which only the texts of the pieces matter
abbrev of_texts : ℕ → List (List ℕ) → List Element
of_texts tab texts = placed tab 0 (clusters_in texts)

each_by_texts : (tab : ℕ) (lines : List (List Piece)) →
    map (λ pieces. elements_of pieces tab) lines ≡ map (of_texts tab) (map (λ pieces. map (λ piece. piece.text) pieces) lines)
each_by_texts tab [] = refl
each_by_texts tab (line ∷ lines) = λ i. placed tab 0 (clusters-texts line i) ∷ each_by_texts tab lines i

lines-texts : (s : Source) (tab : ℕ) → lines_at s tab ≡ map (of_texts tab) (line_texts s)
lines-texts s tab = each_by_texts tab (shown_lines s)

-- ---- replacements that lead

pub leads-map : {X Y : Type 0} (f : X → Y) (old new : List X) (start end count : ℕ) → LeadsAt old new start end count → LeadsAt (map f old) (map f new) start end count
leads-map f old new start end count h = record {
  within = omega (arith, length-map old f, h.within);
  reaches = omega (arith, length-map new f, h.reaches);
  before = take-map f start new ∙ ap (map f) h.before ∙ sym (take-map f start old);
  behind = drop-map f (start + count) new ∙ ap (map f) h.behind ∙ sym (drop-map f end old);
}

-- what replaces all leads from any list to any other
leads_all : {X : Type 0} (old new : List X) (s : Shift) → IsShift 0 (length old) (length new) s → LeadsAt old new s.start s.end s.count
leads_all old new s h = record {
  within = omega (arith, h.end_is);
  reaches = omega (arith, h.reach_is);
  before = ap (λ k. take k new) h.start_is ∙ sym (ap (λ k. take k old) h.start_is);
  behind = drop_all (s.start + s.count) new (omega (arith, h.reach_is)) ∙ sym (drop_all s.end old (omega (arith, h.end_is)));
}

-- the lines that are made anew lead from the lines at the last tab size to those at this one
pub replaced_leads : (before : Option ℕ) (tab : ℕ) (old new : Source) (below answer : Option Shift)
    → LinesFollow old new below → AreReplaced before old new below answer
    → LeadsBy (lines_at old (unwrap_or before tab)) (lines_at new tab) answer
replaced_leads (Some was) tab old new below None follow made = absurd made
replaced_leads (Some was) tab old new below (Some s) follow made =
    leads_all (lines_at old was) (lines_at new tab) s (record {
      start_is = made.start_is;
      end_is = made.end_is ∙ sym (length-map (shown_lines old) (λ pieces. elements_of pieces was));
      reach_is = made.reach_is ∙ sym (length-map (shown_lines new) (λ pieces. elements_of pieces tab));
    })
replaced_leads None tab old new None None follow made = lines-texts new tab ∙ ap (map (of_texts tab)) follow ∙ sym (lines-texts old tab)
replaced_leads None tab old new None (Some s) follow made = absurd made
replaced_leads None tab old new (Some b) None follow made = absurd made
replaced_leads None tab old new (Some b) (Some s) follow made =
    let count : new_reach new b - first_met old b ≡ s.count = omega (arith, made.start_is, made.reach_is) in
    let texts : LeadsAt (line_texts old) (line_texts new) s.start s.end s.count =
    subst (λ k. LeadsAt (line_texts old) (line_texts new) k s.end s.count) (sym made.start_is)
    (subst (λ k. LeadsAt (line_texts old) (line_texts new) (first_met old b) k s.count) (sym made.end_is)
    (subst (λ k. LeadsAt (line_texts old) (line_texts new) (first_met old b) (old_reach old b) k) count follow.1)) in
    let lines : LeadsAt (map (of_texts tab) (line_texts old)) (map (of_texts tab) (line_texts new)) s.start s.end s.count =
    leads-map (of_texts tab) (line_texts old) (line_texts new) s.start s.end s.count texts in
    subst (λ xs. LeadsAt xs (lines_at new tab) s.start s.end s.count) (sym (lines-texts old tab))
    (subst (λ xs. LeadsAt (map (of_texts tab) (line_texts old)) xs s.start s.end s.count) (sym (lines-texts new tab)) lines)

-- ---- lines of places

pub row_within : (s : Source) → IsWellFormed s → (place : ℕ) → row_of (shown_text s) place < length (shown_lines s)
row_within s w place = row-lt s w place

-- the first line that is met isn't after the last one, before and after
pub met_rises : (old new : List ℕ) (start end count : ℕ) → start ≤ end → LiesWithin old new start end count
    → (row_of old start ≤ row_of old end) × (row_of old start ≤ row_of new (start + count))
met_rises old new start end count ordered h = (row_of-le old start end ordered, omega (arith, h.first, row_of-le new start (start + count) (omega arith)))

-- ---- one line

pub line_made : {X Y : Type 0} (f : X → Y) (xs : List X) (k : ℕ) (x : X) (d : Y) → slice_get xs k ≡ Some x → slice_index_or (map f xs) k d ≡ f x
line_made f xs k x d at = get_or_from_slice_get (map f xs) k (f x) d (slice_get-map f xs k ∙ ap (option_map f) at)
