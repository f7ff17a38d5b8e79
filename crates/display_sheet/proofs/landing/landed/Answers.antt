use Rattle.std.proofs.Common.{rules, ◌≡◌, ℕ, ◌+◌, ◌<◌, List, [], length, get_or, sym, ap, subst, ◌∙◌, arith}
use Rattle.std.specs.Prelude.{Option, Some, None}
use Rattle.std.proofs.lemmas.List.{get_or-map, length-map}
use Rattle.smallvec.specs.SmallVec.{SmallVec}
use Rattle.display_sheet.specs.declared.wraps.Wrapped.{Wrapped}
use Rattle.display_sheet.specs.Landing.{FitLines, lists_of}
use Rattle.display_sheet.proofs.LandedCounts.{HaveLanded, fit-at, fit-size, landed-none, landed-some}
use Rattle.display_sheet.proofs.landing.landed.Goals.{in-Some+in_ok-set, in_default}
use Rattle.display_sheet.proofs.landing.landed.Goals as goal

lists-long : (cuts : List (SmallVec ℕ)) → length (lists_of cuts) ≡ length cuts
lists-long cuts = length-map cuts (λ (c : SmallVec ℕ). c.items)

list-at : (cuts : List (SmallVec ℕ)) (i : ℕ) (own : SmallVec ℕ) → i < length cuts → own ≡ get_or cuts i own → own.items ≡ get_or (lists_of cuts) i []
list-at cuts i own lt is = ap (λ (c : SmallVec ℕ). c.items) is ∙ sym (get_or-map (λ (c : SmallVec ℕ). c.items) cuts i own [] lt)

within : (n : ℕ) (places : List (Option ℕ)) (cuts : List (SmallVec ℕ)) (i : ℕ) → FitLines n places (lists_of cuts) → i < length places → i < length cuts
within n places cuts i fits lt = omega (arith, lt, fit-size n places (lists_of cuts) fits, lists-long cuts)

pub offset_bounds-cuts-i : goal.offset_bounds-cuts-i
offset_bounds-cuts-i c =
    let lt : c.loop-i.i < length c.args.cuts.now = within (length c.args.wraps.now) c.args.lines.now c.args.cuts.now c.loop-i.i c.requires c.loop-i-test.true in
    search rules

pub bounds-cuts-i : goal.bounds-cuts-i
bounds-cuts-i c = within (length c.args.wraps.now) c.args.lines.now c.args.cuts.now c.loop-i.i c.requires c.loop-i-test.true

-- the number of rows is a u32
few-rows : (n : ℕ) (places : List (Option ℕ)) (cuts : List (SmallVec ℕ)) (i line : ℕ) (own : SmallVec ℕ) → FitLines n places (lists_of cuts) →
    i < length places → get_or places i None ≡ Some line → own ≡ get_or cuts i own → length own.items + 1 < 4294967296
few-rows n places cuts i line own fits lt some is =
    omega (
      arith,
      (fit-at n places (lists_of cuts) i line None fits lt some).1,
      ap length (list-at cuts i own (within n places cuts i fits lt) is),
    )

pub overflow_cast-rows : goal.overflow_cast-rows
overflow_cast-rows c =
    let places = c.args.lines.now in
    let few = few-rows (length c.args.wraps.now) places c.args.cuts.now c.loop-i.i c.in-Some.line c.index-cuts-i.result c.requires c.loop-i-test.true c.in-Some.is c.index-cuts-i.is in
    omega (arith, few, c.len.ensures.value)

pub overflow_add-rows : goal.overflow_add-rows
overflow_add-rows c =
    let places = c.args.lines.now in
    let few = few-rows (length c.args.wraps.now) places c.args.cuts.now c.loop-i.i c.in-Some.line c.index-cuts-i.result c.requires c.loop-i-test.true c.in-Some.is c.index-cuts-i.is in
    omega (arith, few, c.len.ensures.value)

pub set-requires : goal.set-requires
set-requires c =
    let places = c.args.lines.now in
    let cuts = lists_of c.args.cuts.now in
    let fits = fit-at (length c.args.wraps.now) places cuts c.loop-i.i c.in-Some.line None c.requires c.loop-i-test.true c.in-Some.is in
    omega (arith, fits.0, c.loop-i.invariant.long)

pub loop-i-preserved : goal.loop-i-preserved
loop-i-preserved c =
    let places = c.args.lines.now in
    let cuts = c.args.cuts.now in
    let i : ℕ = c.loop-i.i in
    let old = c.args.wraps.now in
    let new = c.loop-i.landed in
    let long = fit-size (length old) places (lists_of cuts) c.requires in
    let lt = within (length old) places cuts i c.requires c.loop-i-test.true in
    let Landed : List Wrapped → Type 0 = HaveLanded c.args.width places (lists_of cuts) (i + 1) old in
    elim c.match-lines-i.branch [
      | in-Some+in_ok-set w ↦
          let count = w.len.ensures.value ∙ ap length (list-at cuts i w.index-cuts-i.result lt w.index-cuts-i.is) in
          let more = landed-some c.args.width places (lists_of cuts) i None old new long c.loop-i-test.true c.loop-i.invariant w.in-Some.line (w.len.result + 1) w.in-Some.is (ap (λ (n : ℕ). n + 1) count) in
          subst Landed (sym (w.landed-is ∙ w.in_ok-set.ensures.set)) more
      | in_default w ↦
          let more = landed-none c.args.width places (lists_of cuts) i None old new long c.loop-i-test.true c.loop-i.invariant w.in_default.is in
          subst Landed (sym w.landed-is) more
    ]
