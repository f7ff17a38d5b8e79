use Rattle.std.proofs.Common.{◌≡◌, ◌<◌, map, length, arith, ◌+◌, ◌-◌, ◌^◌, vec_len, le_trans, subst, sym}
use Rattle.std.proofs.lemmas.List.{length-map}
use Rattle.sum_core.specs.Sums.{total}
use Rattle.sum_core.specs.Nodes.{entries_of, child_value}
use Rattle.sum_core.proofs.Levels.{if_ok}
use Rattle.sum_core.proofs.Children.{fits-left, fits-right}
use Rattle.sum_tree.proofs.Melds.{tree-below, last-children, last-all, last-items, first-children, first-all, first-items, small-left, small-right, melded-last, melded-first, melded-level}
use Rattle.sum_tree.proofs.joins.+meld.Goals as goal

pub meld-requires : goal.meld-requires
meld-requires g t c κs within =
    let m = g.T.Sum.Summary in
    let p = c.in_ok-rest.ensures.parted in
    let f = entries_of c.in_ok-rest.field-0.node in
    let all = last-all m.empty m.joined g.T.Item.summary c.args.left_height (entries_of c.args.left.now) (entries_of c.args.right.now) (map child_value c.in_ok-rest.field-0.rest.items) f p in (
      omega arith,
      (
        within.0,
        (
          within.1,
          (
            tree-below m.empty m.joined g.T.Item.summary (c.args.left_height - 1) f p.lawful p.wide,
            (
              c.requires.right,
              (fits-right m.empty m.joined m.fits g.T.Item.summary g.met.T.Sum.Summary.laws _ _ _ all c.requires.fits, small-right _ _ _ _ all c.requires.small),
            ),
          ),
        ),
      ),
    )

pub pack_joined-requires-clause-back : goal.pack_joined-requires-clause-back
pack_joined-requires-clause-back g t c =
    let m = g.T.Sum.Summary in
    last-children m.empty m.joined g.T.Item.summary c.args.left_height c.args.right_height (entries_of c.args.right.now) (entries_of c.in_ok-rest.field-0.node) (map child_value c.in_ok-pieces.pieces.items) c.if-right_height-left_height.true c.in_ok-rest.ensures.parted.wide c.in_ok-pieces.ensures.melded

pub returns-in_ok-pieces-clause-melded : goal.returns-in_ok-pieces-clause-melded
returns-in_ok-pieces-clause-melded g t c =
    let m = g.T.Sum.Summary in
    let n : vec_len c.in_ok-rest.field-0.rest + vec_len c.in_ok-pieces.pieces ≡ length (map child_value c.in_ok-rest.field-0.rest.items) + length (map child_value c.in_ok-pieces.pieces.items) = omega (arith, length-map c.in_ok-rest.field-0.rest.items child_value, length-map c.in_ok-pieces.pieces.items child_value) in
    if_ok c.pack_joined.result _ _
    (λ v o. melded-last m.empty m.joined g.T.Item.summary c.args.left_height c.args.right_height _ (entries_of c.args.left.now) (entries_of c.args.right.now) _ (entries_of c.in_ok-rest.field-0.node) _ _ c.if-right_height-left_height.true n c.in_ok-rest.ensures.parted c.in_ok-pieces.ensures.melded o)
    c.pack_joined.ensures.packed

pub meld-requires-else-right_height-left_height : goal.meld-requires-else-right_height-left_height
meld-requires-else-right_height-left_height g t c κs within =
    let m = g.T.Sum.Summary in
    let p = c.in_ok-rest-2.ensures.parted in
    let f = entries_of c.in_ok-rest-2.field-0.node in
    let all = first-all m.empty m.joined g.T.Item.summary c.args.right_height (entries_of c.args.left.now) (entries_of c.args.right.now) (map child_value c.in_ok-rest-2.field-0.rest.items) f p in (
      omega arith,
      (
        within.0,
        (
          within.1,
          (
            c.requires.left,
            (
              tree-below m.empty m.joined g.T.Item.summary (c.args.right_height - 1) f p.lawful p.wide,
              (fits-left m.empty m.joined m.fits g.T.Item.summary g.met.T.Sum.Summary.laws _ _ _ all c.requires.fits, small-left _ _ _ _ all c.requires.small),
            ),
          ),
        ),
      ),
    )

pub pack_joined-requires-else-right_height-left_height-clause-front : goal.pack_joined-requires-else-right_height-left_height-clause-front
pack_joined-requires-else-right_height-left_height-clause-front g t c =
    let m = g.T.Sum.Summary in
    let lt : c.args.left_height < c.args.right_height = omega arith in
    first-children m.empty m.joined g.T.Item.summary c.args.left_height c.args.right_height (entries_of c.args.left.now) (entries_of c.in_ok-rest-2.field-0.node) (map child_value c.in_ok-pieces-2.pieces.items) lt c.in_ok-rest-2.ensures.parted.wide c.in_ok-pieces-2.ensures.melded

pub returns-in_ok-pieces-2-clause-melded : goal.returns-in_ok-pieces-2-clause-melded
returns-in_ok-pieces-2-clause-melded g t c =
    let m = g.T.Sum.Summary in
    let lt : c.args.left_height < c.args.right_height = omega arith in
    let n : vec_len c.in_ok-pieces-2.pieces + vec_len c.in_ok-rest-2.field-0.rest ≡ length (map child_value c.in_ok-pieces-2.pieces.items) + length (map child_value c.in_ok-rest-2.field-0.rest.items) = omega (arith, length-map c.in_ok-rest-2.field-0.rest.items child_value, length-map c.in_ok-pieces-2.pieces.items child_value) in
    if_ok c.pack_joined-else-right_height-left_height.result _ _
    (λ v o. melded-first m.empty m.joined g.T.Item.summary c.args.left_height c.args.right_height _ (entries_of c.args.left.now) (entries_of c.args.right.now) _ (entries_of c.in_ok-rest-2.field-0.node) _ _ lt n c.in_ok-rest-2.ensures.parted c.in_ok-pieces-2.ensures.melded o)
    c.pack_joined-else-right_height-left_height.ensures.packed

pub returns-then-left_height-right_height-clause-melded : goal.returns-then-left_height-right_height-clause-melded
returns-then-left_height-right_height-clause-melded g t c =
    let m = g.T.Sum.Summary in
    if_ok c.meld_level.result _ _
    (λ v p. melded-level m.empty m.joined g.T.Item.summary c.args.left_height c.args.right_height (entries_of c.args.left.now) (entries_of c.args.right.now) _ c.if-left_height-right_height.true p)
    c.meld_level.ensures.packed

pub returns-in_err-rest-clause-steps : goal.returns-in_err-rest-clause-steps
returns-in_err-rest-clause-steps g t c =
    let lt : c.args.right_height < c.args.left_height = c.if-right_height-left_height.true in
    omega (arith, lt, c.in_err-rest.ensures.steps)

pub returns-in_err-pieces-clause-counted : goal.returns-in_err-pieces-clause-counted
returns-in_err-pieces-clause-counted g t c = le_trans c.in_ok-rest.ensures.counted c.in_err-pieces.ensures.counted

pub returns-in_err-pieces-clause-steps : goal.returns-in_err-pieces-clause-steps
returns-in_err-pieces-clause-steps g t c =
    let lt : c.args.right_height < c.args.left_height = c.if-right_height-left_height.true in
    omega (arith, lt, c.in_ok-rest.ensures.steps, c.in_err-pieces.ensures.steps)

pub returns-in_ok-pieces-clause-counted : goal.returns-in_ok-pieces-clause-counted
returns-in_ok-pieces-clause-counted g t c =
    le_trans c.in_ok-rest.ensures.counted (le_trans c.in_ok-pieces.ensures.counted c.pack_joined.ensures.counted)

pub returns-in_ok-pieces-clause-steps : goal.returns-in_ok-pieces-clause-steps
returns-in_ok-pieces-clause-steps g t c =
    let lt : c.args.right_height < c.args.left_height = c.if-right_height-left_height.true in
    omega (arith, lt, c.in_ok-rest.ensures.steps, c.in_ok-pieces.ensures.steps, c.pack_joined.ensures.steps)

pub returns-in_err-pieces-2-clause-counted : goal.returns-in_err-pieces-2-clause-counted
returns-in_err-pieces-2-clause-counted g t c = le_trans c.in_ok-rest-2.ensures.counted c.in_err-pieces-2.ensures.counted

pub returns-in_err-pieces-2-clause-steps : goal.returns-in_err-pieces-2-clause-steps
returns-in_err-pieces-2-clause-steps g t c =
    let lt : c.args.left_height < c.args.right_height = omega arith in
    omega (arith, lt, c.in_ok-rest-2.ensures.steps, c.in_err-pieces-2.ensures.steps)

pub returns-in_ok-pieces-2-clause-counted : goal.returns-in_ok-pieces-2-clause-counted
returns-in_ok-pieces-2-clause-counted g t c =
    le_trans c.in_ok-rest-2.ensures.counted (le_trans c.in_ok-pieces-2.ensures.counted c.pack_joined-else-right_height-left_height.ensures.counted)

pub returns-in_ok-pieces-2-clause-steps : goal.returns-in_ok-pieces-2-clause-steps
returns-in_ok-pieces-2-clause-steps g t c =
    let lt : c.args.left_height < c.args.right_height = omega arith in
    omega (arith, lt, c.in_ok-rest-2.ensures.steps, c.in_ok-pieces-2.ensures.steps, c.pack_joined-else-right_height-left_height.ensures.steps)

pub pack_joined-requires-clause-room : goal.pack_joined-requires-clause-room
pack_joined-requires-clause-room g t c =
    omega (arith, c.in_ok-rest.ensures.parted.room, c.in_ok-pieces.ensures.melded.few, length-map c.in_ok-rest.field-0.rest.items child_value, length-map c.in_ok-pieces.pieces.items child_value)

pub pack_joined-requires-clause-fits : goal.pack_joined-requires-clause-fits
pack_joined-requires-clause-fits g t c =
    let m = g.T.Sum.Summary in
    subst (λ l. m.fits (total m.empty m.joined g.T.Item.summary l))
    (sym (last-items m.empty m.joined g.T.Item.summary c.args.left_height c.args.right_height (entries_of c.args.left.now) (entries_of c.args.right.now) (map child_value c.in_ok-rest.field-0.rest.items) (entries_of c.in_ok-rest.field-0.node) (map child_value c.in_ok-pieces.pieces.items) c.in_ok-rest.ensures.parted c.in_ok-pieces.ensures.melded)) c.requires.fits

pub pack_joined-requires-clause-small : goal.pack_joined-requires-clause-small
pack_joined-requires-clause-small g t c =
    let m = g.T.Sum.Summary in
    subst (λ l. length l < 2 ^ 32)
    (sym (last-items m.empty m.joined g.T.Item.summary c.args.left_height c.args.right_height (entries_of c.args.left.now) (entries_of c.args.right.now) (map child_value c.in_ok-rest.field-0.rest.items) (entries_of c.in_ok-rest.field-0.node) (map child_value c.in_ok-pieces.pieces.items) c.in_ok-rest.ensures.parted c.in_ok-pieces.ensures.melded)) c.requires.small

pub pack_joined-requires-else-right_height-left_height-clause-room : goal.pack_joined-requires-else-right_height-left_height-clause-room
pack_joined-requires-else-right_height-left_height-clause-room g t c =
    omega (arith, c.in_ok-rest-2.ensures.parted.room, c.in_ok-pieces-2.ensures.melded.few, length-map c.in_ok-rest-2.field-0.rest.items child_value, length-map c.in_ok-pieces-2.pieces.items child_value)

pub pack_joined-requires-else-right_height-left_height-clause-fits : goal.pack_joined-requires-else-right_height-left_height-clause-fits
pack_joined-requires-else-right_height-left_height-clause-fits g t c =
    let m = g.T.Sum.Summary in
    subst (λ l. m.fits (total m.empty m.joined g.T.Item.summary l))
    (sym (first-items m.empty m.joined g.T.Item.summary c.args.left_height c.args.right_height (entries_of c.args.left.now) (entries_of c.args.right.now) (map child_value c.in_ok-rest-2.field-0.rest.items) (entries_of c.in_ok-rest-2.field-0.node) (map child_value c.in_ok-pieces-2.pieces.items) c.in_ok-rest-2.ensures.parted c.in_ok-pieces-2.ensures.melded)) c.requires.fits

pub pack_joined-requires-else-right_height-left_height-clause-small : goal.pack_joined-requires-else-right_height-left_height-clause-small
pack_joined-requires-else-right_height-left_height-clause-small g t c =
    let m = g.T.Sum.Summary in
    subst (λ l. length l < 2 ^ 32)
    (sym (first-items m.empty m.joined g.T.Item.summary c.args.left_height c.args.right_height (entries_of c.args.left.now) (entries_of c.args.right.now) (map child_value c.in_ok-rest-2.field-0.rest.items) (entries_of c.in_ok-rest-2.field-0.node) (map child_value c.in_ok-pieces-2.pieces.items) c.in_ok-rest-2.ensures.parted c.in_ok-pieces-2.ensures.melded)) c.requires.small
