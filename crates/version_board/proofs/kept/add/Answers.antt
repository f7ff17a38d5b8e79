use Rattle.std.proofs.Common.{◌≡◌, ◌+◌, ◌==◌, true, [], ◌∷◌, ◌++◌, length, sym, ◌∙◌, ap, subst, arith, eq-eqb}
use Rattle.std.specs.Arc.{arc_value}
use Rattle.display_map.specs.Versions.{Version}
use Rattle.display_map.specs.Replay.{versions_of}
use Rattle.version_board.specs.Rows.{Follows, IsRow, IsRowTo}
use Rattle.version_board.proofs.RowLemmas.{row_number, row_append}
use Rattle.version_board.proofs.Adding.{adds_moves}
use Rattle.version_board.proofs.kept.add.Goals as goal

pub compare_exchange-found-requires : goal.compare_exchange-found-requires
compare_exchange-found-requires c =
    let h = c.requires.head in
    let offer = c.plain-offer.ensures in
    let pen = c.no_pen-pen.ensures in
    let next = arc_value c.args.next in
    let row = c.newest.inside.seen.log in
    let newest = arc_value c.newest.inside.version in
    let same : c.again-seen.result.log ≡ row = ap (λ s. s.log) c.again-seen.ensures in
    let book : c.again-seen.result.book ≡ c.args.head.now.book = ap (λ s. s.book) c.again-seen.ensures ∙ ap (λ k. k.board) c.newest.view_is ∙ sym (ap (λ w. w.book) h) in
    let follows : Follows newest next = subst (λ (v : Version). Follows v next) (sym (ap (λ k. k.newest) c.newest.view_is)) c.requires.follows in
    let whole : IsRow (row ++ next ∷ []) = (row_append row newest next c.newest.invariant follows).is_row in
    let may : IsRow (c.again-seen.result.log ++ c.deref-version.result.now ∷ []) = rw (same, c.deref-version.ensures) whole in
    let old : c.number-old.result + 1 ≡ versions_of newest.events = c.number-old.ensures ∙ ap (λ (v : Version). versions_of v.events) c.deref.ensures in
    let new : c.number-new.result + 1 ≡ versions_of next.events = c.number-new.ensures ∙ ap (λ (v : Version). versions_of v.events) c.deref-version.ensures in
    let counted : length c.again-seen.result.log ≡ c.number-old.result + 1 = ap length same ∙ row_number row newest c.newest.invariant ∙ sym old in
    let number : c.number-new.result ≡ c.number-old.result + 1 = omega (arith, old, new, follows.number) in (
      ap (λ w. w.tracked) h,
      book,
      pen.0 ∙ book,
      offer.0,
      rw (ap (λ w. w.key) h, pen.1, offer.1, offer.3) (adds_moves c.again-seen.result.log c.deref-version.result.now c.number-old.result c.number-new.result counted number may),
    )

pub invariant_of-result : goal.invariant_of-result
invariant_of-result c =
    let next = arc_value c.args.next in
    let row = c.newest.inside.seen.log in
    let newest = arc_value c.newest.inside.version in
    let follows : Follows newest next = subst (λ (v : Version). Follows v next) (sym (ap (λ k. k.newest) c.newest.view_is)) c.requires.follows in
    let whole : IsRowTo (row ++ next ∷ []) next = row_append row newest next c.newest.invariant follows in
    let test : (c.compare_exchange-found.result == c.number-old.result) ≡ true = eq-eqb _ _ c.if-found-old.true in
    let added : c.compare_exchange-found.new.seen.log ≡ c.again-seen.result.log ++ c.plain-offer.result.ask ∷ [] = rw test at c.compare_exchange-found.ensures.7 in
    rw (added, c.plain-offer.ensures.1, ap (λ s. s.log) c.again-seen.ensures, c.deref-version.ensures) whole
