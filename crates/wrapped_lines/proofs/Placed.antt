-- Lines that are found at their places.
use Rattle.std.proofs.Common.{◌≡◌, ⊎_elim, ℕ, zero, suc, ◌+◌, ◌-◌, ◌<◌, ◌≤◌, min, Bool, true, false, cond, ◌&&◌, ◌||◌, List, [], ◌∷◌, length, map, take, drop, Option, Some, None, refl, ap, sym, ◌∙◌, arith, length-drop}
use Rattle.std.specs.Prelude.{All, slice_get}
use Rattle.std.specs.List.{enumerate_from, list_any, position_from}
use Rattle.std.specs.Option.{option_map_or}
use Rattle.std.proofs.lemmas.Bool.{cases_Bool, cases_eq, cases_lt, cond-true, cond-false, eq-eqb, le-leb, lt-ltb, ne_eqb}
use Rattle.std.proofs.lemmas.List.{drop_all, length-take}
use Rattle.std.proofs.lemmas.List.Elements.{All-cons, All-nil}
use Rattle.std.proofs.lemmas.Option.{slice_get-get_or}
use Rattle.cell_line.specs.declared.element.Element.{Element}
use Rattle.cell_line.specs.declared.lines.Run.{Run}
use Rattle.cell_line.specs.Waiting.{has_line}
use Rattle.edit_patch.specs.declared.edit.Edit.{Edit}
use Rattle.edit_patch.specs.Came.{origin_of}
use Rattle.edit_patch.specs.Fits.{Fits}
use Rattle.kept_sheet.specs.Kept.{AreLinesAt, lines_in, standing}
use Rattle.wrapped_lines.specs.Places.{is_at, is_line}
use Rattle.wrapped_lines.specs.inside.Since.{IsSince}

-- ---- places of lines

-- each line has a place or none
pub one-each : (now : List (List Element)) (places : List (Option ℕ)) (es : List (List Element)) → AreLinesAt now places es → length places ≡ length es
one-each now [] [] at = refl
one-each now [] (e ∷ es) at = absurd at
one-each now (None ∷ places) [] at = absurd at
one-each now (Some line ∷ places) [] at = absurd at
one-each now (None ∷ places) (e ∷ es) at = ap suc (one-each now places es at)
one-each now (Some line ∷ places) (e ∷ es) at = ap suc (one-each now places es at.2)

-- and the places are those of lines
pub all-there : (now : List (List Element)) (places : List (Option ℕ)) (es : List (List Element)) → AreLinesAt now places es → All (λ line. line < length now) (standing places)
all-there now [] [] at = All-nil (λ line. line < length now)
all-there now [] (e ∷ es) at = absurd at
all-there now (None ∷ places) [] at = absurd at
all-there now (Some line ∷ places) [] at = absurd at
all-there now (None ∷ places) (e ∷ es) at = all-there now places es at
all-there now (Some line ∷ places) (e ∷ es) at = All-cons (λ n. n < length now) line (standing places) at.0 (all-there now places es at.2)

-- where a line has its place is that line
pub stands-there : (now : List (List Element)) (places : List (Option ℕ)) (es : List (List Element)) (line i j : ℕ) → AreLinesAt now places es →
    position_from (is_line i) line places ≡ Some j → (k : ℕ) × (line + k ≡ j) × (k < length es) × (slice_get now i ≡ slice_get es k)
stands-there now [] es line i j at found = absurd (cc)
stands-there now (None ∷ places) [] line i j at found = absurd at
stands-there now (Some here ∷ places) [] line i j at found = absurd at
stands-there now (None ∷ places) (e ∷ es) line i j at found =
    let r = stands-there now places es (line + 1) i j at found in
    (suc r.0, omega (arith, r.1), omega (arith, r.2), r.3)
stands-there now (Some here ∷ places) (e ∷ es) line i j at found = ⊎_elim
    (λ (same : here ≡ i).
    let is : Some line ≡ Some j = sym (cond-true (is_line i (Some here)) (Some line) (position_from (is_line i) (line + 1) places) (eq-eqb here i same)) ∙ found in
    let line-is : line ≡ j = cc in (
      0,
      omega (arith, line-is),
      omega arith,
      ap (slice_get now) (sym same) ∙ slice_get-get_or now here [] at.0 ∙ ap Some (sym at.1),
    ))
    (λ (other : here ≡ i → ⊥).
    let later = sym (cond-false (is_line i (Some here)) (Some line) (position_from (is_line i) (line + 1) places) (ne_eqb here i other)) ∙ found in
    let r = stands-there now places es (line + 1) i j at.2 later in
    (suc r.0, omega (arith, r.1), omega (arith, r.2), r.3))
    (cases_eq here i)

-- ---- lines of a run

get-take : {X : Type 0} (n : ℕ) (xs : List X) (k : ℕ) → k < n → slice_get (take n xs) k ≡ slice_get xs k
get-take zero xs k lt = absurd (omega arith)
get-take (suc n) [] k lt = refl
get-take (suc n) (x ∷ xs) zero lt = refl
get-take (suc n) (x ∷ xs) (suc k) lt = get-take n xs k (omega arith)

get-drop : {X : Type 0} (n : ℕ) (xs : List X) (k : ℕ) → slice_get (drop n xs) k ≡ slice_get xs (n + k)
get-drop zero xs k = ap (slice_get xs) (omega arith)
get-drop (suc n) [] k = refl
get-drop (suc n) (x ∷ xs) k =
    let next : suc n + k ≡ suc (n + k) = omega arith in
    get-drop n xs k ∙ ap (slice_get (x ∷ xs)) (sym next)

take-fewer : {X : Type 0} (n : ℕ) (xs : List X) → take (length (take n xs)) xs ≡ take n xs
take-fewer zero xs = refl
take-fewer (suc n) [] = refl
take-fewer (suc n) (x ∷ xs) = ap (λ (rest : List _). x ∷ rest) (take-fewer n xs)

take-nil : (m : ℕ) → take m (let none : List (List Element) = [] in none) ≡ []
take-nil zero = refl
take-nil (suc m) = refl

-- the lines that a run has, though it may go past the last one
pub record AreThere (lines : List (List Element)) (run there : Run) : Type 0 where
  pub within : there.first + there.count ≤ length lines
  pub few : there.count ≤ run.count
  pub same : take there.count (drop there.first lines) ≡ lines_in lines run

pub are-there : (lines : List (List Element)) (run there : Run) → there.first ≡ min run.first (length lines) → there.count ≡ length (lines_in lines run) → AreThere lines run there
are-there lines run there first count =
    let n : run.first + run.count - run.first ≡ run.count = omega arith in
    let in-run : lines_in lines run ≡ take run.count (drop run.first lines) = ap (λ (m : ℕ). take m (drop run.first lines)) n in
    let dropped = length-drop run.first lines in
    let taken : length (lines_in lines run) ≡ min run.count (length (drop run.first lines)) = ap length in-run ∙ length-take run.count (drop run.first lines) in
    ⊎_elim
    (λ (past : length lines < run.first).
    let none : drop run.first lines ≡ [] = drop_all run.first lines (omega (arith, past)) in
    let empty : lines_in lines run ≡ [] = in-run ∙ ap (take run.count) none ∙ take-nil run.count in
    let no : there.count ≡ 0 = count ∙ ap length empty in
    record {
      within = omega (arith, first, past, no);
      few = omega (arith, no);
      same = ap (λ (m : ℕ). take m (drop there.first lines)) no ∙ sym empty;
    })
    (λ (before : run.first ≤ length lines).
    let starts : there.first ≡ run.first = omega (arith, first, before) in
    record {
      within = omega (arith, starts, before, count, taken, dropped);
      few = omega (arith, count, taken);
      same =
          (λ i. take (count i) (drop (starts i) lines))
          ∙ ap (λ (m : ℕ). take m (drop run.first lines)) (ap length in-run)
          ∙ take-fewer run.count (drop run.first lines)
          ∙ sym in-run;
    })
    (cases_lt (length lines) run.first)

-- ---- the patch

-- the patch fits the lines of then and those of now
pub since-fits : (old now es : List (List Element)) (first : ℕ) (places : List (Option ℕ)) (patch : List Edit) → first + length places ≤ length old →
    take (length places) (drop first old) ≡ es → AreLinesAt now places es → IsSince (length old) (length now) first places patch → Fits patch old now
since-fits old now es first places patch within are at since = record {
  within = since.within;
  lengths = since.lengths;
  same = λ i j lt came.
      let r = stands-there now places es first i j at (sym (since.came i lt) ∙ came) in
      r.3
      ∙ ap (λ (xs : List (List Element)). slice_get xs r.0) (sym are)
      ∙ get-take (length places) (drop first old) r.0 (omega (arith, r.2, one-each now places es at))
      ∙ get-drop first old r.0
      ∙ ap (slice_get old) r.1;
}

-- ---- lines that land

and-true : (a b : Bool) → a ≡ true → b ≡ true → (a && b) ≡ true
and-true a b p q = λ i. p i && q i

-- a line that was found is one of the run
in-run : (run : Run) (t : Option ℕ → Bool) (line : ℕ) (places : List (Option ℕ)) → run.first ≤ line → line + length places ≤ run.first + run.count →
    option_map_or (has_line run) (position_from t line places) false ≡ list_any t places
in-run run t line [] from to = refl
in-run run t line (place ∷ places) from to = ⊎_elim
    (λ (yes : t place ≡ true).
    ap (λ (o : Option ℕ). option_map_or (has_line run) o false) (cond-true (t place) (Some line) (position_from t (line + 1) places) yes)
    ∙ and-true _ _ (le-leb run.first line from) (lt-ltb line (run.first + run.count) (omega (arith, to)))
    ∙ sym (ap (λ (b : Bool). b || list_any t places) yes))
    (λ (no : t place ≡ false).
    ap (λ (o : Option ℕ). option_map_or (has_line run) o false) (cond-false (t place) (Some line) (position_from t (line + 1) places) no)
    ∙ in-run run t (line + 1) places (omega (arith, from)) (omega (arith, to))
    ∙ sym (ap (λ (b : Bool). b || list_any t places) no))
    (cases_Bool (t place))

-- a present line lands exactly where it is at a place
pub lands-at : (old now first : ℕ) (places : List (Option ℕ)) (patch : List Edit) (run : Run) (line : ℕ) → run.first ≡ first → run.count ≡ length places →
    IsSince old now first places patch → line < now → option_map_or (has_line run) (origin_of patch line) false ≡ is_at places line
lands-at old now first places patch run line starts counts since lt =
    ap (λ (o : Option ℕ). option_map_or (has_line run) o false) (since.came line lt)
    ∙ in-run run (is_line line) first places (omega (arith, starts)) (omega (arith, starts, counts))

-- marks by two tests that agree
pub same-marks : (f g : ℕ → Bool) (width from : ℕ) (marks : List ℕ) → ((line : ℕ) → from ≤ line → line < from + length marks → f line ≡ g line) →
    map (λ p. cond (f p.0) width p.1) (enumerate_from from marks) ≡ map (λ p. cond (g p.0) width p.1) (enumerate_from from marks)
same-marks f g width from [] agree = refl
same-marks f g width from (mark ∷ marks) agree =
    λ i. cond (agree from (omega arith) (omega arith) i) width mark
    ∷ same-marks f g width (from + 1) marks (λ line ge lt. agree line (omega (arith, ge)) (omega (arith, lt))) i
