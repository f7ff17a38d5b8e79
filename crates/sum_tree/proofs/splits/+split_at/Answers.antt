use Rattle.std.proofs.Common.{◌≡◌, ◌-◌, ◌<◌, ◌^◌, ◌∙◌, ◌++◌, ap, sym, subst, refl, arith, map, take, drop, length, le_trans}
use Rattle.std.proofs.lemmas.List.{take-append-drop, length-map}
use Rattle.sum_core.specs.Sums.{total}
use Rattle.sum_core.specs.Nodes.{entries_of, child_value, items_under, items_of}
use Rattle.sum_tree.specs.inside.Trees.{IsTreeOf}
use Rattle.sum_core.proofs.Children.{cut-middle, fits-left, fits-right}
use Rattle.sum_tree.proofs.Melds.{tree-below, small-left, small-right}
use Rattle.sum_core.proofs.Heights.{low-root}
use Rattle.sum_tree.proofs.splits.+split_at.Goals as goal

pub split_at-requires : goal.split_at-requires
split_at-requires g t c κs within =
    let m = g.T.Sum.Summary in
    let k = c.in_ok-cut.ensures.cut in
    let F = items_of c.in_ok-cut.cut.node in
    let A = items_under (map child_value c.in_ok-cut.cut.after.items) in
    let fit = fits-right m.empty m.joined m.fits g.T.Item.summary g.met.T.Sum.Summary.laws _ (items_under (map child_value c.in_ok-cut.cut.before.items)) (F ++ A) k.items_is c.requires.fits in
    let few = small-right _ _ (items_under (map child_value c.in_ok-cut.cut.before.items)) (F ++ A) k.items_is c.requires.small in (
      omega arith,
      (
        within.0,
        (
          within.1,
          (
            tree-below m.empty m.joined g.T.Item.summary (c.args.height - 1) (entries_of c.in_ok-cut.cut.node) k.lawful k.wide,
            (
              omega (arith, k.high, k.low),
              (fits-left m.empty m.joined m.fits g.T.Item.summary g.met.T.Sum.Summary.laws _ F A refl fit, small-left _ _ F A refl few),
            ),
          ),
        ),
      ),
    )

pub join_before-requires-clause-low : goal.join_before-requires-clause-low
join_before-requires-clause-low g t c =
    let m = g.T.Sum.Summary in
    omega (arith, low-root m.empty m.joined g.T.Item.summary c.args.height (entries_of c.args.node.now) c.requires.tree c.requires.small)

pub join_after-requires-clause-low : goal.join_after-requires-clause-low
join_after-requires-clause-low g t c =
    let m = g.T.Sum.Summary in
    omega (arith, low-root m.empty m.joined g.T.Item.summary c.args.height (entries_of c.args.node.now) c.requires.tree c.requires.small)

pub join_before-requires-clause-fits : goal.join_before-requires-clause-fits
join_before-requires-clause-fits g t c =
    let m = g.T.Sum.Summary in
    let k = c.in_ok-cut.ensures.cut in
    let all = items_of c.args.node.now in
    let B = items_under (map child_value c.in_ok-cut.cut.before.items) in
    let F = items_of c.in_ok-cut.cut.node in
    let A = items_under (map child_value c.in_ok-cut.cut.after.items) in
    let e = cut-middle all B F A c.args.at c.in_ok-cut.cut.offset k.items_is k.offset_is k.low k.high in
    let l : take c.args.at all ≡ B ++ items_of c.in_ok-parts.parts.left.node = e.0 ∙ ap (λ l. B ++ l) (sym c.in_ok-parts.ensures.left.items_is) in
    subst (λ l. m.fits (total m.empty m.joined g.T.Item.summary l)) l
    (fits-left m.empty m.joined m.fits g.T.Item.summary g.met.T.Sum.Summary.laws all (take c.args.at all) (drop c.args.at all) (sym (take-append-drop c.args.at all)) c.requires.fits)

pub join_after-requires-clause-fits : goal.join_after-requires-clause-fits
join_after-requires-clause-fits g t c =
    let m = g.T.Sum.Summary in
    let k = c.in_ok-cut.ensures.cut in
    let all = items_of c.args.node.now in
    let B = items_under (map child_value c.in_ok-cut.cut.before.items) in
    let F = items_of c.in_ok-cut.cut.node in
    let A = items_under (map child_value c.in_ok-cut.cut.after.items) in
    let e = cut-middle all B F A c.args.at c.in_ok-cut.cut.offset k.items_is k.offset_is k.low k.high in
    let l : drop c.args.at all ≡ items_of c.in_ok-parts.parts.right.node ++ A = e.1 ∙ ap (λ l. l ++ A) (sym c.in_ok-parts.ensures.right.items_is) in
    subst (λ l. m.fits (total m.empty m.joined g.T.Item.summary l)) l
    (fits-right m.empty m.joined m.fits g.T.Item.summary g.met.T.Sum.Summary.laws all (take c.args.at all) (drop c.args.at all) (sym (take-append-drop c.args.at all)) c.requires.fits)

pub returns-in_ok-right-clause-left : goal.returns-in_ok-right-clause-left
returns-in_ok-right-clause-left g t c =
    let m = g.T.Sum.Summary in
    let k = c.in_ok-cut.ensures.cut in
    let all = items_of c.args.node.now in
    let B = items_under (map child_value c.in_ok-cut.cut.before.items) in
    let F = items_of c.in_ok-cut.cut.node in
    let A = items_under (map child_value c.in_ok-cut.cut.after.items) in
    let e = cut-middle all B F A c.args.at c.in_ok-cut.cut.offset k.items_is k.offset_is k.low k.high in
    let l : take c.args.at all ≡ B ++ items_of c.in_ok-parts.parts.left.node = e.0 ∙ ap (λ l. B ++ l) (sym c.in_ok-parts.ensures.left.items_is) in
    subst (IsTreeOf m.empty m.joined g.T.Item.summary c.in_ok-left.left) (sym l) c.in_ok-left.ensures.put

pub returns-in_ok-right-clause-right : goal.returns-in_ok-right-clause-right
returns-in_ok-right-clause-right g t c =
    let m = g.T.Sum.Summary in
    let k = c.in_ok-cut.ensures.cut in
    let all = items_of c.args.node.now in
    let B = items_under (map child_value c.in_ok-cut.cut.before.items) in
    let F = items_of c.in_ok-cut.cut.node in
    let A = items_under (map child_value c.in_ok-cut.cut.after.items) in
    let e = cut-middle all B F A c.args.at c.in_ok-cut.cut.offset k.items_is k.offset_is k.low k.high in
    let l : drop c.args.at all ≡ items_of c.in_ok-parts.parts.right.node ++ A = e.1 ∙ ap (λ l. l ++ A) (sym c.in_ok-parts.ensures.right.items_is) in
    subst (IsTreeOf m.empty m.joined g.T.Item.summary c.in_ok-right.right) (sym l) c.in_ok-right.ensures.put

pub returns-in_err-cut-clause-steps : goal.returns-in_err-cut-clause-steps
returns-in_err-cut-clause-steps g t c = omega (arith, c.in_err-cut.ensures.steps)

pub returns-in_err-parts-clause-counted : goal.returns-in_err-parts-clause-counted
returns-in_err-parts-clause-counted g t c = le_trans c.in_ok-cut.ensures.counted c.in_err-parts.ensures.counted

pub returns-in_err-parts-clause-steps : goal.returns-in_err-parts-clause-steps
returns-in_err-parts-clause-steps g t c =
    let high : 0 < c.args.height = omega arith in
    omega (arith, high, c.in_ok-cut.ensures.steps, c.in_err-parts.ensures.steps)

pub returns-in_err-left-clause-counted : goal.returns-in_err-left-clause-counted
returns-in_err-left-clause-counted g t c =
    le_trans c.in_ok-cut.ensures.counted (le_trans c.in_ok-parts.ensures.counted c.in_err-left.ensures.counted)

pub returns-in_err-left-clause-steps : goal.returns-in_err-left-clause-steps
returns-in_err-left-clause-steps g t c =
    let high : 0 < c.args.height = omega arith in
    omega (arith, high, c.in_ok-cut.ensures.steps, c.in_ok-parts.ensures.steps, c.in_err-left.ensures.steps)

pub returns-in_err-right-clause-counted : goal.returns-in_err-right-clause-counted
returns-in_err-right-clause-counted g t c =
    le_trans c.in_ok-cut.ensures.counted (le_trans c.in_ok-parts.ensures.counted (le_trans c.in_ok-left.ensures.counted c.in_err-right.ensures.counted))

pub returns-in_err-right-clause-steps : goal.returns-in_err-right-clause-steps
returns-in_err-right-clause-steps g t c =
    let high : 0 < c.args.height = omega arith in
    omega (arith, high, c.in_ok-cut.ensures.steps, c.in_ok-parts.ensures.steps, c.in_ok-left.ensures.steps, c.in_err-right.ensures.steps)

pub returns-in_ok-right-clause-counted : goal.returns-in_ok-right-clause-counted
returns-in_ok-right-clause-counted g t c =
    le_trans c.in_ok-cut.ensures.counted (le_trans c.in_ok-parts.ensures.counted (le_trans c.in_ok-left.ensures.counted c.in_ok-right.ensures.counted))

pub returns-in_ok-right-clause-steps : goal.returns-in_ok-right-clause-steps
returns-in_ok-right-clause-steps g t c =
    let high : 0 < c.args.height = omega arith in
    omega (arith, high, c.in_ok-cut.ensures.steps, c.in_ok-parts.ensures.steps, c.in_ok-left.ensures.steps, c.in_ok-right.ensures.steps)

pub join_before-requires-clause-small : goal.join_before-requires-clause-small
join_before-requires-clause-small g t c =
    let k = c.in_ok-cut.ensures.cut in
    let all = items_of c.args.node.now in
    let B = items_under (map child_value c.in_ok-cut.cut.before.items) in
    let F = items_of c.in_ok-cut.cut.node in
    let A = items_under (map child_value c.in_ok-cut.cut.after.items) in
    let e = cut-middle all B F A c.args.at c.in_ok-cut.cut.offset k.items_is k.offset_is k.low k.high in
    let l : take c.args.at all ≡ B ++ items_of c.in_ok-parts.parts.left.node = e.0 ∙ ap (λ l. B ++ l) (sym c.in_ok-parts.ensures.left.items_is) in
    subst (λ l. length l < 2 ^ 32) l (small-left _ all (take c.args.at all) (drop c.args.at all) (sym (take-append-drop c.args.at all)) c.requires.small)

pub join_after-requires-clause-small : goal.join_after-requires-clause-small
join_after-requires-clause-small g t c =
    let k = c.in_ok-cut.ensures.cut in
    let all = items_of c.args.node.now in
    let B = items_under (map child_value c.in_ok-cut.cut.before.items) in
    let F = items_of c.in_ok-cut.cut.node in
    let A = items_under (map child_value c.in_ok-cut.cut.after.items) in
    let e = cut-middle all B F A c.args.at c.in_ok-cut.cut.offset k.items_is k.offset_is k.low k.high in
    let l : drop c.args.at all ≡ items_of c.in_ok-parts.parts.right.node ++ A = e.1 ∙ ap (λ l. l ++ A) (sym c.in_ok-parts.ensures.right.items_is) in
    subst (λ l. length l < 2 ^ 32) l (small-right _ all (take c.args.at all) (drop c.args.at all) (sym (take-append-drop c.args.at all)) c.requires.small)

pub join_before-requires-clause-room : goal.join_before-requires-clause-room
join_before-requires-clause-room g t c =
    omega (arith, c.in_ok-cut.ensures.cut.room, length-map c.in_ok-cut.cut.before.items child_value)

pub join_after-requires-clause-room : goal.join_after-requires-clause-room
join_after-requires-clause-room g t c =
    omega (arith, c.in_ok-cut.ensures.cut.room, length-map c.in_ok-cut.cut.after.items child_value)
