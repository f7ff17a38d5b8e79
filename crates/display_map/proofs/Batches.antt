-- A batch of replacements, from its last splice to its first: what it makes of a text.
use Rattle.std.proofs.Common.{◌≡◌, ℕ, ◌+◌, ◌-◌, ◌≤◌, eqb, leb, ltb, ◌&&◌, not, cond, Bool, true, false, List, [], ◌∷◌, ◌++◌, length, map, reverse, take, drop, slice_range, refl, sym, ap, ◌∙◌, inl, inr, arith}
use Rattle.std.specs.Prelude.{slice_index}
use Rattle.std.specs.List.{fold, filter}
use Rattle.std.proofs.lemmas.Bool.{not-false, and_parts, eqb-true, leb-true, ltb-true, or_cases}
use Rattle.std.proofs.lemmas.List.{append_assoc, append-nil, map-append, reverse-append, take-append-drop, take-take, drop-take, drop_at, take-append-le, length-take-le, nil_from_length}
use Rattle.std.proofs.lemmas.List.Folds.{fold-map}
use Rattle.std.proofs.lemmas.List.Sums.{fold_push}
use Rattle.cell_units.specs.Text.{clean, is_boundary, goes_on}
use Rattle.cell_units.specs.Record.{Record}
use Rattle.cell_units.specs.Operation.{operated, replaced_text}
use Rattle.display_sheet.specs.declared.change.Splice.{Splice}
use Rattle.cell_units.specs.Operation.{Operation}
use Rattle.display_sheet.specs.Changes.{replacement}
use Rattle.display_sheet.specs.Changes.{is_operation, batch, operated_all, are_ranges}
use Rattle.display_map.specs.Events.{Did}
use Rattle.display_map.specs.Replay.{State, happens, replayed}
use Rattle.display_map.specs.Splicing.{spliced_text}

-- ---- ranges in order

-- the ranges lie in order and disjoint from an offset on, up to the size
abbrev pub AreOrdered : ℕ → ℕ → List Splice → Type 0
AreOrdered size from [] = from ≤ size
AreOrdered size from (s ∷ splices) = (from ≤ s.start) × (s.start ≤ s.end) × AreOrdered size s.end splices

-- an offset that is tested as a boundary is in the text
pub is_boundary-le : (text : List ℕ) (o : ℕ) → is_boundary text o ≡ true → o ≤ length text
is_boundary-le text o h =
    let rest = ltb o (length text) && not (goes_on (slice_index text o)) in
    elim (or_cases (eqb o (length text)) rest h) [
      | inl e ↦ omega (arith, eqb-true o (length text) e)
      | inr e ↦ omega (arith, ltb-true o (length text) (and_parts (ltb o (length text)) (not (goes_on (slice_index text o))) e).0)
    ]

pub are_ordered : (text : List ℕ) (from : ℕ) (splices : List Splice) → from ≤ length text → are_ranges text from splices ≡ true → AreOrdered (length text) from splices
are_ordered text from [] le h = le
are_ordered text from (s ∷ splices) le h =
    let rest = are_ranges text s.end splices in
    let all = and_parts (leb from s.start && leb s.start s.end && is_boundary text s.start && is_boundary text s.end) rest h in
    let three = and_parts (leb from s.start && leb s.start s.end && is_boundary text s.start) (is_boundary text s.end) all.0 in
    let two = and_parts (leb from s.start && leb s.start s.end) (is_boundary text s.start) three.0 in
    let one = and_parts (leb from s.start) (leb s.start s.end) two.0 in (
      leb-true from s.start one.0,
      leb-true s.start s.end one.1,
      are_ordered text s.end splices (is_boundary-le text s.end three.1) all.1,
    )

pub ordered-le : (size from : ℕ) (splices : List Splice) → AreOrdered size from splices → from ≤ size
ordered-le size from [] h = h
ordered-le size from (s ∷ splices) h = omega (arith, h.0, h.1, ordered-le size s.end splices h.2)

-- ---- from the last to the first

-- what a step makes of the splices that are operations, from the last to the first
abbrev pub backwards : {X : Type 0} → (X → Splice → X) → X → List Splice → X
backwards step x [] = x
backwards step x (s ∷ splices) = cond (is_operation s) (step (backwards step x splices) s) (backwards step x splices)

fold-batch : {X : Type 0} (step : X → Operation → X) (x : X) (s : Splice) (splices : List Splice) →
    fold step x (batch (s ∷ splices)) ≡ cond (is_operation s) (step (fold step x (batch splices)) (replacement s)) (fold step x (batch splices))
fold-batch {X} step x s splices = go (is_operation s) where
  rest : List Splice
  rest = filter is_operation splices

  go : (b : Bool) → fold step x (map replacement (reverse (cond b (s ∷ rest) rest)))
      ≡ cond b (step (fold step x (map replacement (reverse rest))) (replacement s)) (fold step x (map replacement (reverse rest)))
  go true =
      ap (λ (l : List Splice). fold step x (map replacement l)) (reverse-append (s ∷ []) rest)
      ∙ ap (fold step x) (map-append replacement (reverse rest) (s ∷ []))
      ∙ fold_push step x (map replacement (reverse rest)) (replacement s)
  go false = refl

-- a fold of a batch's operations goes backwards over its splices
pub fold-batch-backwards : {X : Type 0} (step : X → Operation → X) (x : X) (splices : List Splice) →
    fold step x (batch splices) ≡ backwards (λ y s. step y (replacement s)) x splices
fold-batch-backwards step x [] = refl
fold-batch-backwards {X} step x (s ∷ splices) =
    fold-batch step x s splices
    ∙ ap (λ (y : X). cond (is_operation s) (step y (replacement s)) y) (fold-batch-backwards step x splices)

-- the operations of one splice more come before those of the splices after it
pub batch-cons : (s : Splice) (splices : List Splice) → batch (s ∷ splices) ≡ batch splices ++ cond (is_operation s) (replacement s ∷ []) []
batch-cons s splices = go (is_operation s) where
  rest : List Splice
  rest = filter is_operation splices

  go : (b : Bool) → map replacement (reverse (cond b (s ∷ rest) rest)) ≡ map replacement (reverse rest) ++ cond b (replacement s ∷ []) []
  go true = ap (map replacement) (reverse-append (s ∷ []) rest) ∙ map-append replacement (reverse rest) (s ∷ [])
  go false = sym (append-nil (map replacement (reverse rest)))

-- what is no operation replaces nothing by nothing
no_operation : (s : Splice) → is_operation s ≡ false → (s.start ≡ s.end) × (s.text ≡ [])
no_operation s h =
    let both = and_parts (eqb s.start s.end) (eqb (length s.text) 0) (not-false (eqb s.start s.end && eqb (length s.text) 0) h) in
    (eqb-true s.start s.end both.0, nil_from_length s.text (eqb-true (length s.text) 0 both.1))

-- ---- the text

take_split : (text : List ℕ) (from to : ℕ) → from ≤ to → take to text ≡ take from text ++ slice_range text from to
take_split text from to le =
    let whole : to ≡ from + (to - from) = omega arith in
    sym (take-append-drop from (take to text))
    ∙ (λ i. take-take from to text le i ++ (ap (λ (k : ℕ). drop from (take k text)) whole ∙ drop-take from (to - from) text) i)

pub replaced_front : (text tail new : List ℕ) (a b : ℕ) → a ≤ b → b ≤ length text →
    replaced_text (take b text ++ tail) a b new ≡ take a text ++ (new ++ tail)
replaced_front text tail new a b le within =
    let long = length-take-le b text within in
    λ i. (take-append-le a (take b text) tail (omega arith) ∙ take-take a b text le) i ++ (new ++ drop_at (take b text) tail b long i)

-- the text after the splices, from the last to the first, is as before up to the first of them
pub backwards-text : (text : List ℕ) (from : ℕ) (splices : List Splice) → AreOrdered (length text) from splices →
    backwards (λ t s. replaced_text t s.start s.end (clean s.text)) text splices ≡ take from text ++ spliced_text text from splices
backwards-text text from [] h = sym (take-append-drop from text)
backwards-text text from (s ∷ splices) h = go (is_operation s) refl (backwards-text text s.end splices h.2) where
  later : List ℕ
  later = backwards (λ t s. replaced_text t s.start s.end (clean s.text)) text splices

  tail : List ℕ
  tail = spliced_text text s.end splices

  front : (new : List ℕ) → take s.start text ++ (new ++ tail) ≡ take from text ++ (slice_range text from s.start ++ (new ++ tail))
  front new = ap (λ (l : List ℕ). l ++ (new ++ tail)) (take_split text from s.start h.0) ∙ append_assoc (take from text) (slice_range text from s.start) (new ++ tail)

  go : (b : Bool) → is_operation s ≡ b → later ≡ take s.end text ++ tail →
      cond b (replaced_text later s.start s.end (clean s.text)) later ≡ take from text ++ (slice_range text from s.start ++ (clean s.text ++ tail))
  go true is e =
      ap (λ (t : List ℕ). replaced_text t s.start s.end (clean s.text)) e
      ∙ replaced_front text tail (clean s.text) s.start s.end h.1 (ordered-le (length text) s.end splices h.2)
      ∙ front (clean s.text)
  go false is e =
      let none = no_operation s is in
      e
      ∙ ap (λ (k : ℕ). take k text ++ tail) (sym none.0)
      ∙ front []
      ∙ ap (λ (new : List ℕ). take from text ++ (slice_range text from s.start ++ (clean new ++ tail))) (sym none.1)

texts : (r : Record) (splices : List Splice) →
    (backwards (λ r s. operated (replacement s) r) r splices).text ≡ backwards (λ t s. replaced_text t s.start s.end (clean s.text)) r.text splices
texts r [] = refl
texts r (s ∷ splices) = go (is_operation s) (texts r splices) where
  later : Record
  later = backwards (λ r s. operated (replacement s) r) r splices

  go : (b : Bool) → later.text ≡ backwards (λ t s. replaced_text t s.start s.end (clean s.text)) r.text splices →
      (cond b (operated (replacement s) later) later).text
      ≡ cond b (replaced_text (backwards (λ t s. replaced_text t s.start s.end (clean s.text)) r.text splices) s.start s.end (clean s.text))
      (backwards (λ t s. replaced_text t s.start s.end (clean s.text)) r.text splices)
  go true e = ap (λ (t : List ℕ). replaced_text t s.start s.end (clean s.text)) e
  go false e = e

-- the text after a batch, in one pass
pub text_after_batch : (r : Record) (splices : List Splice) → are_ranges r.text 0 splices ≡ true →
    (operated_all (batch splices) r).text ≡ spliced_text r.text 0 splices
text_after_batch r splices ok =
    ap (λ (after : Record). after.text) (fold-batch-backwards (λ r op. operated op r) r splices)
    ∙ texts r splices
    ∙ backwards-text r.text 0 splices (are_ordered r.text 0 splices (omega arith) ok)

-- ---- the history

abbrev pub does : State → Splice → State
does s splice = happens s (Did (replacement splice))

pub replayed-batch : (s : State) (splices : List Splice) → replayed s (map Did (batch splices)) ≡ backwards does s splices
unfolding replayed
replayed-batch s splices = fold-map happens Did s (batch splices) ∙ fold-batch-backwards (λ t op. happens t (Did op)) s splices
