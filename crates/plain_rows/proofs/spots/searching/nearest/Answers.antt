use Rattle.std.proofs.Common.{ap, sym, ◌∙◌}
use Rattle.plain_rows.specs.Spots.{clip}
use Rattle.plain_rows.specs.inside.SpotSearch.{IsGreatestUpto, IsLeastFrom, earlier, later, nearest_left, nearest_right}
use Rattle.plain_rows.proofs.SpotClips.{clip-left, clip-right, greatest-both, least-both}
use Rattle.plain_rows.proofs.spots.searching.nearest.Goals as goal

pub returns-in-Left-clause-nearest : goal.returns-in-Left-clause-nearest
returns-in-Left-clause-nearest g c =
    let r = g.R.SpotRows.kept c.args.rows.now in
    let aim = c.args.aim.now in
    let before = later c.in_ok-left.left c.in_ok-right.right in
    let after = earlier c.in_ok-left-2.left c.in_ok-right-2.right in
    let greatest : IsGreatestUpto r aim.spot before = greatest-both r aim.spot c.in_ok-left.left c.in_ok-right.right c.in_ok-left.ensures.spot c.in_ok-right.ensures.spot in
    let least : IsLeastFrom r aim.spot after = least-both r aim.spot c.in_ok-left-2.left c.in_ok-right-2.right c.in_ok-left-2.ensures.spot c.in_ok-right-2.ensures.spot in
    c.nearest_left.ensures
    ∙ (λ i. nearest_left aim.spot (c.later-before.ensures i) (c.earlier-after.ensures i))
    ∙ clip-left r aim.spot before after greatest least
    ∙ ap (clip r aim.spot) (sym c.in-Left.is)

pub returns-in-Right-clause-nearest : goal.returns-in-Right-clause-nearest
returns-in-Right-clause-nearest g c =
    let r = g.R.SpotRows.kept c.args.rows.now in
    let aim = c.args.aim.now in
    let before = later c.in_ok-left.left c.in_ok-right.right in
    let after = earlier c.in_ok-left-2.left c.in_ok-right-2.right in
    let greatest : IsGreatestUpto r aim.spot before = greatest-both r aim.spot c.in_ok-left.left c.in_ok-right.right c.in_ok-left.ensures.spot c.in_ok-right.ensures.spot in
    let least : IsLeastFrom r aim.spot after = least-both r aim.spot c.in_ok-left-2.left c.in_ok-right-2.right c.in_ok-left-2.ensures.spot c.in_ok-right-2.ensures.spot in
    c.nearest_right.ensures
    ∙ (λ i. nearest_right aim.spot (c.later-before.ensures i) (c.earlier-after.ensures i))
    ∙ clip-right r aim.spot before after greatest least
    ∙ ap (clip r aim.spot) (sym c.in-Right.is)
