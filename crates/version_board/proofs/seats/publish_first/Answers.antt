use Rattle.std.proofs.Common.{◌≡◌, ap, sym, ◌∙◌, drop, List}
use Rattle.std.specs.Prelude.{fold}
use Rattle.version_board.specs.Known.{Known}
use Rattle.version_board.proofs.Tying.{becomes_tied, last_wins}
use Rattle.version_board.proofs.seats.publish_first.Goals as goal

pub publish_as-requires : goal.publish_as-requires
publish_as-requires g c next is =
    let shown = c.append.new.self.desk.shown.value in
    let before = drop c.args.desk.behind c.args.desk.log.items in
    let told = c.in_default.ensures in
    let all : List Known → Known = fold (λ old new. new) shown.kept in
    let last : next.kept ≡ c.args.kept = is ∙ ap all told.pending ∙ last_wins shown.kept before c.args.kept in
    let same : shown.kept.board ≡ c.args.desk.desk.shown.value.kept.board = ap (λ d. d.shown.value.kept.board) told.desk in
    becomes_tied _ _ shown next (ap (λ k. k.board) (last ∙ c.requires.same) ∙ sym same)
