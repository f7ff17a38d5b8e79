-- The lines of a run, one after another.
use Rattle.std.proofs.Common.{◌≡◌, ℕ, zero, suc, ◌+◌, ◌-◌, ◌<◌, ◌≤◌, List, [], ◌∷◌, ◌++◌, length, length-drop, map, take, drop, get_or, slice_range, arith, ap, refl, sym, ◌∙◌}
use Rattle.std.proofs.lemmas.List.{get_or-drop, map-append}
use Rattle.smallvec.specs.SmallVec.{SmallVec}
use Rattle.cell_line.specs.declared.element.Element.{Element}
use Rattle.cell_line.specs.Lines.{line_at}
use Rattle.cell_line.specs.Wrapping.{cuts_of}
use Rattle.wrap_workers.specs.Jobs.{places_of}

take_next : (lines : List (List Element)) (k : ℕ) → k < length lines → take (k + 1) lines ≡ take k lines ++ get_or lines k [] ∷ []
take_next [] k lt = absurd (omega arith)
take_next (es ∷ lines) zero lt = refl
take_next (es ∷ lines) (suc k) lt =
    let one : suc k + 1 ≡ suc (k + 1) = omega arith in
    ap (λ (n : ℕ). take n (es ∷ lines)) one
    ∙ ap (λ (rest : List (List Element)). es ∷ rest) (take_next lines k (omega arith))

slice_next : (lines : List (List Element)) (first line : ℕ) → first ≤ line → line < length lines →
    slice_range lines first (line + 1) ≡ slice_range lines first line ++ line_at lines line ∷ []
slice_next lines first line from within =
    let more : line + 1 - first ≡ line - first + 1 = omega arith in
    let at : first + (line - first) ≡ line = omega arith in
    ap (λ (n : ℕ). take n (drop first lines)) more
    ∙ take_next (drop first lines) (line - first) (omega (arith, length-drop first lines))
    ∙ ap (λ (es : List Element). slice_range lines first line ++ es ∷ []) (get_or-drop first lines (line - first) [] ∙ ap (λ (n : ℕ). get_or lines n []) at)

-- the cuts of the lines from `first` up to `end`
abbrev pub cuts_between : List (List Element) → ℕ → ℕ → ℕ → List (List ℕ)
cuts_between lines first end width = map (λ elements. cuts_of elements width) (slice_range lines first end)

-- one line more is cut
pub cut_next : (lines : List (List Element)) (first line width : ℕ) (before after : List (SmallVec ℕ)) (cuts : SmallVec ℕ) →
    first ≤ line → line < length lines → places_of before ≡ cuts_between lines first line width →
    after ≡ before ++ cuts ∷ [] → cuts.items ≡ cuts_of (line_at lines line) width →
    places_of after ≡ cuts_between lines first (line + 1) width
cut_next lines first line width before after cuts from within done pushed cut =
    ap places_of pushed
    ∙ map-append (λ (c : SmallVec ℕ). c.items) before (cuts ∷ [])
    ∙ ap (λ (places : List (List ℕ)). places ++ cuts.items ∷ []) done
    ∙ ap (λ (last : List ℕ). cuts_between lines first line width ++ last ∷ []) cut
    ∙ sym
    (ap (map (λ (elements : List Element). cuts_of elements width)) (slice_next lines first line from within)
    ∙ map-append (λ (elements : List Element). cuts_of elements width) (slice_range lines first line) (line_at lines line ∷ []))
