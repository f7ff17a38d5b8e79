-- The lines of a run, one after another.
use Rattle.std.proofs.Common.{◌≡◌, ℕ, zero, suc, ◌+◌, ◌-◌, ◌<◌, ◌≤◌, List, [], ◌∷◌, ◌++◌, length, length-drop, map, take, drop, get_or, arith, ap, refl, sym, ◌∙◌}
use Rattle.std.proofs.lemmas.List.{get_or-drop, map-append}
use Rattle.smallvec.specs.SmallVec.{SmallVec}
use Rattle.cell_line.specs.declared.element.Element.{Element}
use Rattle.cell_line.specs.Lines.{line_at}
use Rattle.cell_line.specs.Wrapping.{cuts_of}

take-next : (lines : List (List Element)) (k : ℕ) → k < length lines → take (k + 1) lines ≡ take k lines ++ get_or lines k [] ∷ []
take-next [] k lt = absurd (omega arith)
take-next (es ∷ lines) zero lt = refl
take-next (es ∷ lines) (suc k) lt =
    let one : suc k + 1 ≡ suc (k + 1) = omega arith in
    ap (λ (n : ℕ). take n (es ∷ lines)) one
    ∙ ap (λ (rest : List (List Element)). es ∷ rest) (take-next lines k (omega arith))

slice-next : (lines : List (List Element)) (first line : ℕ) → first ≤ line → line < length lines →
    take (line + 1 - first) (drop first lines) ≡ take (line - first) (drop first lines) ++ line_at lines line ∷ []
slice-next lines first line from within =
    let more : line + 1 - first ≡ line - first + 1 = omega arith in
    let at : first + (line - first) ≡ line = omega arith in
    ap (λ (n : ℕ). take n (drop first lines)) more
    ∙ take-next (drop first lines) (line - first) (omega (arith, length-drop first lines))
    ∙ ap (λ (es : List Element). take (line - first) (drop first lines) ++ es ∷ []) (get_or-drop first lines (line - first) [] ∙ ap (λ (n : ℕ). get_or lines n []) at)

abbrev pub places : List (SmallVec ℕ) → List (List ℕ)
places wraps = map (λ cuts. cuts.items) wraps

-- the cuts of the lines from `first` up to `end`
abbrev pub cuts-between : List (List Element) → ℕ → ℕ → ℕ → List (List ℕ)
cuts-between lines first end width = map (λ elements. cuts_of elements width) (take (end - first) (drop first lines))

-- one line more is cut
pub cut-next : (lines : List (List Element)) (first line width : ℕ) (before after : List (SmallVec ℕ)) (cuts : SmallVec ℕ) →
    first ≤ line → line < length lines → places before ≡ cuts-between lines first line width →
    after ≡ before ++ cuts ∷ [] → cuts.items ≡ cuts_of (line_at lines line) width →
    places after ≡ cuts-between lines first (line + 1) width
cut-next lines first line width before after cuts from within done pushed cut =
    ap places pushed
    ∙ map-append (λ (c : SmallVec ℕ). c.items) before (cuts ∷ [])
    ∙ ap (λ (all : List (List ℕ)). all ++ cuts.items ∷ []) done
    ∙ ap (λ (last : List ℕ). cuts-between lines first line width ++ last ∷ []) cut
    ∙ sym
    (ap (map (λ (elements : List Element). cuts_of elements width)) (slice-next lines first line from within)
    ∙ map-append (λ (elements : List Element). cuts_of elements width) (take (line - first) (drop first lines)) (line_at lines line ∷ []))
