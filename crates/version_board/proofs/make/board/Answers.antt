-- The board shows the version that opened its row.
use Rattle.std.proofs.Common.{◌≡◌, OnOk, ap, subst, ◌∙◌}
use Rattle.version_board.specs.Rows.{IsRowTo}
use Rattle.version_board.specs.Known.{Known}
use Rattle.version_board.proofs.make.board.Goals as goal

pub invariant_of-result : goal.invariant_of-result
invariant_of-result g c =
    let same = c.in_ok-again.ensures.same in
    let Shown : Type 0 = c.publish_first-desk.result.0.desk.shown.value.kept ≡ c.in_ok-again.again in
    let shown : Shown = subst (λ done. OnOk done Shown) c.in-Ok.is c.publish_first-desk.ensures.shown in (
      subst (λ (k : Known). IsRowTo k.row k.newest) same c.in_ok-again.ensures.row,
      c.open-head.ensures.head,
      ap (λ shown. shown.value.kept) c.seat_all.ensures.shown ∙ shown ∙ same,
    )
