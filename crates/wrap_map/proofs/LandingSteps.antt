-- What each step of a landing needs and gives, by the lines and the run.
use Rattle.std.proofs.Common.{◌≡◌, ℕ, ◌+◌, ◌<◌, ◌≤◌, ◌^◌, List, ◌++◌, length, drop, Option, Some, None, refl, ap, sym, subst, ◌∙◌, arith}
use Rattle.std.specs.Prelude.{IfSome}
use Rattle.std.specs.Option.{option_map_or}
use Rattle.std.proofs.lemmas.List.{append-nil, drop_all, take_all}
use Rattle.cell_line.specs.declared.element.Element.{Element}
use Rattle.cell_line.specs.declared.lines.Run.{Run}
use Rattle.cell_line.specs.Lines.{line_at}
use Rattle.cell_line.specs.Wrapping.{cuts_of}
use Rattle.edit_patch.specs.declared.edit.Edit.{Edit}
use Rattle.edit_patch.specs.Came.{carry_of}
use Rattle.edit_patch.specs.Fits.{Fits}
use Rattle.edit_patch.specs.Patch.{IsPatch}
use Rattle.edit_patch.proofs.Inverse.{forth}
use Rattle.wrap_map.specs.Landing.{is_landed}
use Rattle.wrap_map.specs.Standing.{Standing, stood_of, stood_with}
use Rattle.wrap_map.specs.Stood.{Stood, rows_in}
use Rattle.wrap_map.specs.inside.Landings.{CanClose, FitBetween, IsPut, Landings, carried, closed_if_any, end_of, taken, with_group}
use Rattle.wrap_map.proofs.Carried.{IsLandingTo, came-same, came-within, landed-from, landed-plan, landed-stood, landed_standing, landing-none, landing-some, landing-within, length-marks_landed, none-behind}
use Rattle.wrap_map.proofs.Groups.{all-done, finished-done, group-mixed}
use Rattle.wrap_map.proofs.Landed.{patch-of_landed}
use Rattle.wrap_map.proofs.Standings.{stood}
use Rattle.wrap_map.proofs.StoodRows.{drop-mixed, length-mixed, rows-next, rows-span}
use Rattle.wrap_map.proofs.Synced.{length-stood_of}

-- the rows after it fit, where those between do
fit-after : (before after : List Stood) → length after ≡ length before → FitBetween before after → rows_in after < 2 ^ 32
fit-after before after same fit =
    let n = length before in
    let e = ap (λ (ls : List Stood). ls ++ drop n before) (take_all n after (omega (arith, same)))
    ∙ ap (λ (ls : List Stood). after ++ ls) (drop_all n before (omega arith)) ∙ append-nil after in
    subst (λ (ls : List Stood). rows_in ls < 2 ^ 32) e (fit n (omega arith))

-- the open group can be closed
pub can-close : (s : Standing) (since : List Edit) (run : Run) (width : ℕ) (l : Landings) (next : ℕ) (before : List Stood) → before ≡ stood_of s
    → length s.lines < 2 ^ 32 → FitBetween (stood_of s) (stood_of (landed_standing s since run width))
    → length s.marks ≡ length s.lines → IsLandingTo s since run width l next → CanClose before l
can-close s since run width l next before is count fit e t =
    let new = landed_standing s since run width in
    let e' : length new.marks ≡ length new.lines = length-marks_landed since run width s.marks ∙ e in
    let old-list = stood_of s in let new-list = stood_of new in
    let long = length-stood_of s e in let long-new = length-stood_of new e' in
    let o = t.groups in
    let within = o.within in
    let done = o.done_to.within in
    let d = end_of l in
    let lines-long : length l.lines ≡ length old-list =
    ap length o.done_to.lines_are ∙ length-mixed old-list new-list t.done (omega arith) (omega arith) in
    let rows : rows_in (with_group l) < 2 ^ 32 =
    let r = fit d (omega (arith, within)) in
    let g = ap rows_in (group-mixed old-list new-list (is_landed since run) l t.done (landed-plan s since run width e) o) in
    omega (arith, r, g) in
    record {
      unlanded = ap (drop l.start) o.done_to.lines_are
          ∙ drop-mixed old-list new-list t.done l.start (let gap = o.gap in omega arith) (omega (arith, done, long, long-new))
          ∙ ap (drop l.start) (sym is);
      same_long = lines-long ∙ ap length (sym is);
      within = omega (arith, within, lines-long);
      lines_fit = omega (arith, lines-long, long, count);
      rows_fit = rows;
    }

-- a line that is there is a u32, and so are its rows
pub present-fits : (s : Standing) (old : List (List Element)) (since : List Edit) (next : ℕ) → IsPatch since → Fits since old s.lines
    → length s.lines < 2 ^ 32 → next < length old → IfSome (carry_of since next) (λ line. line < 2 ^ 32)
present-fits s old since next p f count h =
    let go : (x : Option ℕ) → carry_of since next ≡ x → IfSome x (λ line. line < 2 ^ 32) =
    λ x. elim x as (λ y. carry_of since next ≡ y → IfSome y (λ line. line < 2 ^ 32)) [
      | None ↦ λ c. tt
      | Some line ↦ λ c. let w = landing-within s old since next line p f h c in omega (arith, w, count)
    ] in
    go (carry_of since next) refl

row-fits : (s : Standing) (old : List (List Element)) (since : List Edit) (run : Run) (width next line : ℕ) → IsPatch since → Fits since old s.lines
    → rows_in (stood_of (landed_standing s since run width)) < 2 ^ 32
    → length s.marks ≡ length s.lines → run.first ≤ next → next < run.first + run.count → run.first + run.count ≤ length old
    → carry_of since next ≡ Some line → length (cuts_of (line_at old next) width) + 1 < 2 ^ 32
row-fits s old since run width next line p f rows e low high within c =
    let new = landed_standing s since run width in
    let e' : length new.marks ≡ length new.lines = length-marks_landed since run width s.marks ∙ e in
    let came = forth since line next p c in
    let there = came-within since old s.lines line next p f came (omega arith) in
    let here = landed-stood s since run width line e there (landed-from since run line next came low high)
    ∙ ap (λ (es : List Element). stood_with es width) (came-same since old s.lines line next p f came (omega arith)) in
    let cuts = ap (λ (st : Stood). length st.cuts) here in
    let long = length-stood_of new e' in
    let whole = ap rows_in (take_all (length (stood_of new)) (stood_of new) (omega arith)) in
    let step = rows-next (stood_of new) line (omega (arith, long, there)) in
    let span = rows-span (stood_of new) (line + 1) (length (stood_of new)) (omega (arith, long, there)) (omega arith) in
    omega (arith, cuts, rows, whole, step, span)

pub short-fits : (s : Standing) (old : List (List Element)) (since : List Edit) (run : Run) (width next n : ℕ) → IsPatch since → Fits since old s.lines
    → FitBetween (stood_of s) (stood_of (landed_standing s since run width))
    → length s.marks ≡ length s.lines → run.first ≤ next → next < run.first + run.count → run.first + run.count ≤ length old
    → n ≡ length (cuts_of (line_at old next) width) → IfSome (carry_of since next) (λ line. n + 1 < 2 ^ 32)
short-fits s old since run width next n p f fit e low high within n-is =
    let plan = landed-plan s since run width e in
    let rows = fit-after (stood_of s) (stood_of (landed_standing s since run width)) plan.same_long fit in
    let go : (x : Option ℕ) → carry_of since next ≡ x → IfSome x (λ line. n + 1 < 2 ^ 32) =
    λ x. elim x as (λ y. carry_of since next ≡ y → IfSome y (λ line. n + 1 < 2 ^ 32)) [
      | None ↦ λ c. tt
      | Some line ↦ λ c. let r = row-fits s old since run width next line p f rows e low high within c in omega (arith, r, n-is)
    ] in
    go (carry_of since next) refl

-- one more line of the run
pub landing-carried : (s : Standing) (old : List (List Element)) (since : List Edit) (run : Run) (width : ℕ) (l : Landings) (next : ℕ) (before : List Stood) (stood : Stood)
    → before ≡ stood_of s → IsPatch since → Fits since old s.lines → length s.marks ≡ length s.lines
    → IsLandingTo s since run width l next → run.first ≤ next → next < run.first + run.count → run.first + run.count ≤ length old
    → stood ≡ stood_with (line_at old next) width
    → IsLandingTo s since run width (carried before since next stood l) (next + 1)
landing-carried s old since run width l next before stood is p f e t low high within stood-is =
    let Goal : Option ℕ → Type 0 = λ x. IsLandingTo s since run width (option_map_or (λ present. taken before present stood l) x l) (next + 1) in
    let go : (x : Option ℕ) → carry_of since next ≡ x → Goal x =
    λ x. elim x as (λ y. carry_of since next ≡ y → Goal y) [
      | None ↦ λ c. landing-none s since run width l next p t c
      | Some line ↦ λ c. subst (λ (b : List Stood). IsLandingTo s since run width (taken b line stood l) (next + 1)) (sym is)
          (landing-some s old since run width l next line stood p f e t low high within c stood-is)
    ] in
    go (carry_of since next) refl

-- all of them
pub landing-finished : (s : Standing) (since : List Edit) (run : Run) (width : ℕ) (l : Landings) (before : List Stood) → before ≡ stood_of s
    → length s.marks ≡ length s.lines → IsLandingTo s since run width l (run.first + run.count) → IsPut s since run width (closed_if_any before l).lines (closed_if_any before l).edits
landing-finished s since run width l before is e t =
    let plan = landed-plan s since run width e in
    let none = none-behind since run (end_of l) t.carried in
    let f = finished-done (stood_of s) (stood_of (landed_standing s since run width)) (is_landed since run) l t.done plan t.groups none in
    subst (λ (b : List Stood). IsPut s since run width (closed_if_any b l).lines (closed_if_any b l).edits) (sym is)
    (record {
      lines_are = all-done (stood_of s) (stood_of (landed_standing s since run width)) (is_landed since run) (closed_if_any (stood_of s) l).lines (closed_if_any (stood_of s) l).edits f.0 plan f.1 f.2;
      rows = patch-of_landed s since run width (closed_if_any (stood_of s) l).edits (closed_if_any (stood_of s) l).lines f.0 e f.1 f.2;
    })
