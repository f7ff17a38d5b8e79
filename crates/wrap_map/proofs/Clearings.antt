-- A landing in two steps: first the lines that land are put in one row each, and then they are wrapped at the width.
use Rattle.std.proofs.Common.{◌≡◌, inl, ⊎_elim, ℕ, zero, suc, ◌+◌, ◌<◌, ◌≤◌, ◌^◌, true, false, List, [], ◌∷◌, All, length, map, take, drop, get_or, replicate, Some, None, refl, ap, sym, subst, ◌∙◌, arith}
use Rattle.std.specs.Prelude.{option_and_then}
use Rattle.std.proofs.lemmas.Bool.{cases_Bool, cases_lt, cond-true, cond-false}
use Rattle.std.proofs.Math.ListN.{get_or-eq_default}
use Rattle.std.proofs.lemmas.List.Elements.{All-head, All-tail}
use Rattle.std.proofs.lemmas.List.{ext_get_or, length-drop, length-take-le, take-append-drop}
use Rattle.cell_line.specs.declared.element.Element.{Element}
use Rattle.cell_line.specs.declared.lines.Run.{Run}
use Rattle.cell_line.specs.Lines.{line_at}
use Rattle.cell_line.specs.Wrapping.{cuts_of}
use Rattle.cell_units.specs.Rows.{all_rows, rows_before}
use Rattle.edit_patch.specs.declared.edit.Edit.{Edit}
use Rattle.edit_patch.specs.Came.{origin_of}
use Rattle.edit_patch.specs.Fits.{Fits}
use Rattle.edit_patch.specs.Patch.{AllFit, IsComposed}
use Rattle.edit_patch.proofs.Fitting.{fits-composed, fits-u32}
use Rattle.wrap_map.specs.Landing.{IsPatchOfLanded, cuts_of_run, is_landed, marks_landed, standing_landed}
use Rattle.wrap_map.specs.Standing.{IsStanding, StandSo, Standing, Wrapped, shown_rows, standing_of, stood_of}
use Rattle.wrap_map.specs.Stood.{Stood, rows_in, stood_at, unwrapped}
use Rattle.wrap_map.specs.inside.Landings.{FitBetween, IsPut}
use Rattle.wrap_map.proofs.Calls.{kept-as, map_of, seen-as, standing-landed}
use Rattle.wrap_map.proofs.Carried.{landed-plan, landed-stood, landed_standing, length-marks_landed, mark-landed}
use Rattle.wrap_map.proofs.Landed.{texts-kept}
use Rattle.wrap_map.proofs.Spreads.{rows-append}
use Rattle.wrap_map.proofs.Standings.{cuts-unwrapped, rows-stood}
use Rattle.wrap_map.proofs.Synced.{length-stood_of}

-- ---- lists of which one has no more rows at any line

abbrev pub AreBelow : List Stood → List Stood → Type 0
AreBelow xs ys = (i : ℕ) → length (stood_at xs i).cuts ≤ length (stood_at ys i).cuts

rows-below : (xs ys : List Stood) → length xs ≡ length ys → AreBelow xs ys → rows_in xs ≤ rows_in ys
rows-below [] ys e b = omega arith
rows-below (x ∷ xs) [] e b = absurd (omega arith)
rows-below (x ∷ xs) (y ∷ ys) e b =
    let first = b 0 in
    let rest = rows-below xs ys (omega arith) (λ i. b (suc i)) in
    omega (arith, first, rest)

take-below : (d : ℕ) (xs ys : List Stood) → length xs ≡ length ys → AreBelow xs ys → rows_in (take d xs) ≤ rows_in (take d ys)
take-below zero xs ys e b = omega arith
take-below (suc d) [] ys e b = omega arith
take-below (suc d) (x ∷ xs) [] e b = absurd (omega arith)
take-below (suc d) (x ∷ xs) (y ∷ ys) e b =
    let first = b 0 in
    let rest = take-below d xs ys (omega arith) (λ i. b (suc i)) in
    omega (arith, first, rest)

drop-below : (d : ℕ) (xs ys : List Stood) → length xs ≡ length ys → AreBelow xs ys → rows_in (drop d xs) ≤ rows_in (drop d ys)
drop-below zero xs ys e b = rows-below xs ys e b
drop-below (suc d) [] ys e b = omega arith
drop-below (suc d) (x ∷ xs) [] e b = absurd (omega arith)
drop-below (suc d) (x ∷ xs) (y ∷ ys) e b = drop-below d xs ys (omega arith) (λ i. b (suc i))

parts : (d : ℕ) (ys : List Stood) → rows_in ys ≡ rows_in (take d ys) + rows_in (drop d ys)
parts d ys = ap rows_in (sym (take-append-drop d ys)) ∙ rows-append (take d ys) (drop d ys)

-- where rows fall, all lists between have no more of them than the one before
fit-falling : (before after : List Stood) → length after ≡ length before → AreBelow after before → rows_in before < 2 ^ 32 → FitBetween before after
fit-falling before after e b few d h =
    let both = rows-append (take d after) (drop d before) in
    let front = take-below d after before e b in
    let whole = parts d before in
    omega (arith, both, front, whole, few)

-- where they rise, no more than the one after
fit-rising : (before after : List Stood) → length after ≡ length before → AreBelow before after → rows_in after < 2 ^ 32 → FitBetween before after
fit-rising before after e b few d h =
    let both = rows-append (take d after) (drop d before) in
    let back = drop-below d before after (sym e) b in
    let whole = parts d after in
    omega (arith, both, back, whole, few)

-- ---- the lines in one row each

cuts-cleared : (s : Standing) (since : List Edit) (run : Run) (i : ℕ) → length s.marks ≡ length s.lines → is_landed since run i ≡ true
    → length (stood_at (stood_of (landed_standing s since run 0)) i).cuts ≡ 0
cuts-cleared s since run i e t =
    let new = landed_standing s since run 0 in
    let long = length-stood_of new (length-marks_landed since run 0 s.marks ∙ e) in
    ⊎_elim
    (λ h. ap (λ (st : Stood). length st.cuts) (landed-stood s since run 0 i e h t) ∙ ap length (cuts-unwrapped (line_at s.lines i)))
    (λ h. ap (λ (st : Stood). length st.cuts) (get_or-eq_default (stood_of new) unwrapped (omega (arith, long, h))))
    (cases_lt i (length s.lines))

-- they have no more rows than any lines that are wrapped as these are where they don't land
cleared-below : (s : Standing) (since : List Edit) (run : Run) (ys : List Stood) → length s.marks ≡ length s.lines
    → ((i : ℕ) → is_landed since run i ≡ false → stood_at (stood_of s) i ≡ stood_at ys i)
    → AreBelow (stood_of (landed_standing s since run 0)) ys
cleared-below s since run ys e same i =
    let plan = landed-plan s since run 0 e in
    ⊎_elim
    (λ t. let none = cuts-cleared s since run i e t in omega (arith, none))
    (λ f. let h = ap (λ (st : Stood). length st.cuts) (sym (plan.kept i f) ∙ same i f) in omega (arith, h))
    (cases_Bool (is_landed since run i))

-- landing once more is landing at the later width
marks-twice : (since : List Edit) (run : Run) (width : ℕ) (marks : List ℕ)
    → marks_landed since run width (marks_landed since run 0 marks) ≡ marks_landed since run width marks
marks-twice since run width marks =
    let once = marks_landed since run 0 marks in
    let l0 = length-marks_landed since run 0 marks in
    let l1 = length-marks_landed since run width once in
    let l2 = length-marks_landed since run width marks in
    ext_get_or 0 (marks_landed since run width once) (marks_landed since run width marks) (l1 ∙ l0 ∙ sym l2)
    (λ i h.
    let h' : i < length marks = omega (arith, l0, l1, h) in
    mark-landed since run width once i (omega (arith, l0, h'))
    ∙ ⊎_elim
    (λ t. cond-true (is_landed since run i) width (get_or once i 0) t ∙ sym (cond-true (is_landed since run i) width (get_or marks i 0) t))
    (λ f. cond-false (is_landed since run i) width (get_or once i 0) f
    ∙ mark-landed since run 0 marks i h' ∙ cond-false (is_landed since run i) 0 (get_or marks i 0) f
    ∙ sym (cond-false (is_landed since run i) width (get_or marks i 0) f))
    (cases_Bool (is_landed since run i))
    ∙ sym (mark-landed since run width marks i h'))

pub landed-twice : (s : Standing) (since : List Edit) (run : Run) (width : ℕ)
    → standing_landed since run width (standing_landed since run 0 s) ≡ standing_landed since run width s
landed-twice s since run width = ap (λ (ms : List ℕ). record s { marks = ms }) (marks-twice since run width s.marks)

rows-cleared : (s : Standing) (since : List Edit) (run : Run) → IsStanding s → rows_in (stood_of (landed_standing s since run 0)) ≤ rows_in (stood_of s)
rows-cleared s since run is =
    let plan = landed-plan s since run 0 is.one_each in
    rows-below (stood_of (landed_standing s since run 0)) (stood_of s) plan.same_long (cleared-below s since run (stood_of s) is.one_each (λ i f. refl))

pub cleared-standing : (s : Standing) (since : List Edit) (run : Run) → IsStanding s → IsStanding (standing_landed since run 0 s)
cleared-standing s since run is =
    let new = standing_landed since run 0 s in
    let below = rows-cleared s since run is in
    let before = rows-stood s in let after = rows-stood new in
    let few = is.room.rows_fit in
    standing-landed s since run 0 is (inl refl) (record { fits = is.room.fits; rows_fit = omega (arith, below, before, after, few) })

-- ---- what the two steps need

pub falls-fit : (s : Standing) (since : List Edit) (run : Run) (ls : List Stood) → ls ≡ stood_of s → IsStanding s
    → FitBetween ls (stood_of (standing_landed since run 0 s))
falls-fit s since run ls h is =
    let plan = landed-plan s since run 0 is.one_each in
    let before = rows-stood s in
    let few = is.room.rows_fit in
    subst (λ (xs : List Stood). FitBetween xs (stood_of (standing_landed since run 0 s))) (sym h)
    (fit-falling (stood_of s) (stood_of (landed_standing s since run 0)) plan.same_long
    (cleared-below s since run (stood_of s) is.one_each (λ i f. refl)) (omega (arith, before, few)))

pub cleared-so : (s : Standing) (since : List Edit) (run : Run) (ls : List Stood) → IsStanding s → ls ≡ stood_of (standing_landed since run 0 s)
    → StandSo s.lines ls
cleared-so s since run ls is h = kept-as (standing_landed since run 0 s) s.lines ls refl h (cleared-standing s since run is)

cleared-seen : (s : Standing) (since : List Edit) (run : Run) (ls : List Stood) → IsStanding s → ls ≡ stood_of (standing_landed since run 0 s)
    → standing_of s.lines ls ≡ standing_landed since run 0 s
cleared-seen s since run ls is h = seen-as (standing_landed since run 0 s) s.lines ls refl h (length-marks_landed since run 0 s.marks ∙ is.one_each)

pub rises-fit : (s : Standing) (since : List Edit) (run : Run) (width : ℕ) (ls : List Stood) → IsStanding s → ls ≡ stood_of (standing_landed since run 0 s)
    → length (all_rows (shown_rows (standing_landed since run width s))) < 2 ^ 32
    → FitBetween ls (stood_of (standing_landed since run width (standing_of s.lines ls)))
rises-fit s since run width ls is h few =
    let s0 = standing_landed since run 0 s in
    let new = standing_landed since run width s in
    let plan0 = landed-plan s since run 0 is.one_each in
    let plan = landed-plan s since run width is.one_each in
    let rows = rows-stood new in
    let rising : FitBetween (stood_of s0) (stood_of new) =
    fit-rising (stood_of s0) (stood_of new) (plan.same_long ∙ sym plan0.same_long)
    (cleared-below s since run (stood_of new) is.one_each (λ i f. plan.kept i f)) (omega (arith, rows, few)) in
    let same : standing_landed since run width (standing_of s.lines ls) ≡ new =
    ap (standing_landed since run width) (cleared-seen s since run ls is h) ∙ landed-twice s since run width in
    subst (λ (xs : List Stood). FitBetween xs (stood_of (standing_landed since run width (standing_of s.lines ls)))) (sym h)
    (subst (λ (x : Standing). FitBetween (stood_of s0) (stood_of x)) (sym same) rising)

all-uncut : (lines : List (List Element)) → map (λ (elements : List Element). cuts_of elements 0) lines ≡ replicate (length lines) []
all-uncut [] = refl
all-uncut (es ∷ lines) = ap (λ (cuts : List ℕ). cuts ∷ map (λ (elements : List Element). cuts_of elements 0) lines) (cuts-unwrapped es)
    ∙ ap (λ (ls : List (List ℕ)). [] ∷ ls) (all-uncut lines)

map-empty : {X : Type 0} (f : X → List ℕ) (ws : List X) → All (λ w. f w ≡ []) ws → map f ws ≡ replicate (length ws) []
map-empty f [] none = refl
map-empty f (w ∷ ws) none =
    ap (λ (cuts : List ℕ). cuts ∷ map f ws) (All-head (λ w. f w ≡ []) w ws none)
    ∙ ap (λ (ls : List (List ℕ)). [] ∷ ls) (map-empty f ws (All-tail (λ w. f w ≡ []) w ws none))

-- the wraps at mark 0
pub no-wraps : {X : Type 0} (f : X → List ℕ) (ws : List X) (lines : List (List Element)) (run : Run) → run.first + run.count ≤ length lines
    → length ws ≡ run.count → All (λ w. f w ≡ []) ws → map f ws ≡ cuts_of_run lines run 0
no-wraps f ws lines run within count none =
    map-empty f ws none ∙ ap (λ (n : ℕ). replicate n []) count
    ∙ sym (all-uncut (take run.count (drop run.first lines)) ∙ ap (λ (n : ℕ). replicate n [])
    (length-take-le run.count (drop run.first lines) (let d = length-drop run.first lines in omega (arith, d, within))))

-- ---- what they give together

composed : (s : Standing) (since : List Edit) (run : Run) (width : ℕ) (a b c : List Edit) → length s.marks ≡ length s.lines
    → IsPatchOfLanded s (standing_landed since run 0 s) since run a
    → IsPatchOfLanded (standing_landed since run 0 s) (standing_landed since run width (standing_landed since run 0 s)) since run b
    → IsComposed a b c → IsPatchOfLanded s (standing_landed since run width (standing_landed since run 0 s)) since run c
composed s since run width a b c e first second both =
    let s0 = standing_landed since run 0 s in
    let s1 = standing_landed since run width s0 in
    let e0 : length s0.marks ≡ length s0.lines = length-marks_landed since run 0 s.marks ∙ e in
    record {
      normal = both.normal;
      fits = fits-composed a b c (all_rows (shown_rows s)) (all_rows (shown_rows s0)) (all_rows (shown_rows s1)) first.normal second.normal both first.fits second.fits;
      came = λ line k h kh.
          both.came (rows_before (shown_rows s1) line + k)
          ∙ ap (option_and_then (origin_of a)) (second.came line k h kh)
          ∙ ⊎_elim
          (λ t. ap (option_and_then (origin_of a)) (cond-true (is_landed since run line) None (Some (rows_before (shown_rows s0) line + k)) t)
          ∙ sym (cond-true (is_landed since run line) None (Some (rows_before (shown_rows s) line + k)) t))
          (λ f. ap (option_and_then (origin_of a)) (cond-false (is_landed since run line) None (Some (rows_before (shown_rows s0) line + k)) f)
          ∙ first.came line k h (subst (λ (rows : List (List ℕ)). k < length rows) (texts-kept s0 since run width line h e0 f) kh))
          (cases_Bool (is_landed since run line));
    }

pub two-puts : (s : Standing) (since : List Edit) (run : Run) (width : ℕ) (ls0 ls1 : List Stood) (a b c : List Edit) → IsStanding s
    → IsPut s since run 0 ls0 a → IsPut (standing_of s.lines ls0) since run width ls1 b → IsComposed a b c → IsPut s since run width ls1 c
two-puts s since run width ls0 ls1 a b c is first second both =
    let s0 = standing_landed since run 0 s in
    let second' : IsPut s0 since run width ls1 b =
    subst (λ (x : Standing). IsPut x since run width ls1 b) (cleared-seen s since run ls0 is first.lines_are) second in
    let same = landed-twice s since run width in
    record {
      lines_are = second'.lines_are ∙ ap stood_of same;
      rows = subst (λ (x : Standing). IsPatchOfLanded s x since run c) same (composed s since run width a b c is.one_each first.rows second'.rows both);
    }

pub two-fit : (s : Standing) (since : List Edit) (run : Run) (width : ℕ) (ls0 ls1 : List Stood) (a b : List Edit) → IsStanding s
    → IsPut s since run 0 ls0 a → IsPut (standing_of s.lines ls0) since run width ls1 b
    → length (all_rows (shown_rows (standing_landed since run width s))) < 2 ^ 32
    → (c : List Edit) → IsComposed a b c → AllFit c
two-fit s since run width ls0 ls1 a b is first second few c both =
    let put = two-puts s since run width ls0 ls1 a b c is first second both in
    fits-u32 c (all_rows (shown_rows s)) (all_rows (shown_rows (standing_landed since run width s))) put.rows.fits is.room.rows_fit few

-- ---- by what is seen of the map

pub fits-now : (now : Wrapped) (s : Standing) (width : ℕ) (since : List Edit) (old : List (List Element)) → map_of s width ≡ now
    → Fits since old now.standing.lines → Fits since old s.lines
fits-now now s width since old view f = subst (λ (m : Wrapped). Fits since old m.standing.lines) (sym view) f

pub rows-now : (now : Wrapped) (s : Standing) (width0 : ℕ) (since : List Edit) (run : Run) (width : ℕ) → map_of s width0 ≡ now → width ≡ width0
    → (width ≡ now.width → length (all_rows (shown_rows (standing_landed since run width now.standing))) < 2 ^ 32)
    → length (all_rows (shown_rows (standing_landed since run width s))) < 2 ^ 32
rows-now now s width0 since run width view width-is few =
    subst (λ (m : Wrapped). width ≡ m.width → length (all_rows (shown_rows (standing_landed since run width m.standing))) < 2 ^ 32) (sym view) few width-is

pub put-long : (s : Standing) (since : List Edit) (run : Run) (mark : ℕ) (ls : List Stood) (es : List Edit) → IsStanding s
    → IsPut s since run mark ls es → length ls ≡ length s.lines
put-long s since run mark ls es is put =
    ap length put.lines_are ∙ length-stood_of (standing_landed since run mark s) (length-marks_landed since run mark s.marks ∙ is.one_each)
