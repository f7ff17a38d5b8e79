-- Plain lists as a sheet.
use Rattle.std.proofs.Common.{◌≡◌, ℕ, eqb, ◌&&◌, Bool, List, [], ◌∷◌, map, refl, sym, ap, subst, ◌∙◌}
use Rattle.std.specs.Prelude.{Option, Some, None}
use Rattle.std.specs.List.{list_all}
use Rattle.cell_units.specs.Record.{Record}
use Rattle.cell_line.specs.declared.element.Element.{Element}
use Rattle.cell_line.specs.declared.lines.Run.{Run}
use Rattle.cell_line.specs.Wrapping.{cuts_of}
use Rattle.plain_rows.specs.Rows.{line_elements}
use Rattle.display_sheet.specs.Landing.{AreCutsAt}
use Rattle.display_sheet.specs.Sheets.{marks_in}
use Rattle.display_sheet.specs.declared.wraps.Wrapped.{Wrapped}
use Rattle.kept_sheet.specs.Kept.{AreLinesAt, all_at_width, cuts_in, lines_in}

-- the cuts of lines are those of the lines that are at their places
cuts-at : (width : ℕ) (now : List (List Element)) (places : List (Option ℕ)) (es : List (List Element)) → AreLinesAt now places es →
    AreCutsAt now width places (map (λ e. cuts_of e width) es)
cuts-at width now [] [] at = tt
cuts-at width now [] (e ∷ es) at = absurd at
cuts-at width now (None ∷ places) [] at = absurd at
cuts-at width now (Some line ∷ places) [] at = absurd at
cuts-at width now (None ∷ places) (e ∷ es) at = cuts-at width now places es at
cuts-at width now (Some line ∷ places) (e ∷ es) at =
    (at.0, ap (λ (l : List Element). cuts_of l width) at.1, cuts-at width now places es at.2)

pub cuts-landed : (r r' : Record) (lines : List (List Element)) (run : Run) (places : List (Option ℕ)) (cuts : List (List ℕ)) (width : ℕ) → r' ≡ r → width ≡ r.width →
    AreLinesAt (line_elements r) places (lines_in lines run) → cuts ≡ cuts_in lines run r.width → AreCutsAt (line_elements r') width places cuts
cuts-landed r r' lines run places cuts width same is at these =
    subst (λ (cs : List (List ℕ)). AreCutsAt (line_elements r') width places cs) (sym these)
    (subst (λ (w : ℕ). AreCutsAt (line_elements r') w places (cuts_in lines run r.width)) (sym is)
    (subst (λ (q : Record). AreCutsAt (line_elements q) r.width places (cuts_in lines run r.width)) (sym same)
    (cuts-at r.width (line_elements r) places (lines_in lines run) at)))

all-wraps : (width : ℕ) (wraps : List Wrapped) → list_all (λ w. eqb w.mark width) wraps ≡ list_all (λ w. eqb w width) (marks_in wraps)
all-wraps width [] = refl
all-wraps width (w ∷ wraps) = ap (λ (b : Bool). eqb w.mark width && b) (all-wraps width wraps)

-- of a record whose lines are wrapped so
pub settled-by : (r : Record) (wraps : List Wrapped) (width : ℕ) → marks_in wraps ≡ map (λ m. m.width) r.marks → width ≡ r.width →
    list_all (λ w. eqb w.mark width) wraps ≡ all_at_width r
settled-by r wraps width marks same =
    all-wraps width wraps
    ∙ ap (list_all (λ w. eqb w width)) marks
    ∙ ap (λ (n : ℕ). list_all (λ w. eqb w n) (map (λ m. m.width) r.marks)) same
