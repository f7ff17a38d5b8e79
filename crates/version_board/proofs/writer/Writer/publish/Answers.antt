-- The version that was added is shown, and the row ends with it.
use Rattle.std.proofs.Common.{◌≡◌, ap, sym, subst, ◌∙◌}
use Rattle.version_board.specs.Known.{Known}
use Rattle.version_board.specs.Rows.{IsRowTo}
use Rattle.version_board.specs.inside.Book.{head_of}
use Rattle.version_board.proofs.writer.Writer.publish.Goals as goal

pub replace_with-requires : goal.replace_with-requires
replace_with-requires g c =
    let board : (j k : Known) → j ≡ k → j.board ≡ k.board = λ j k same. ap (λ (l : Known). l.board) same in
    board _ _ c.in_ok-shared.ensures.same ∙ board _ _ c.in-Some.ensures ∙ sym (board _ _ c.self.invariant.2)

pub invariant_of-self : goal.invariant_of-self
invariant_of-self g c =
    (c.self.invariant.0, c.self.invariant.1, ap (λ v. v.kept) c.in_err-replace_with.ensures.1 ∙ c.self.invariant.2)

pub invariant_of-self-2 : goal.invariant_of-self-2
invariant_of-self-2 g c =
    let same = c.in_ok-shared.ensures.same in (
      subst (λ (k : Known). IsRowTo k.row k.newest) same c.in_ok-shared.ensures.row,
      c.self.invariant.1 ∙ sym (ap (λ (k : Known). head_of k.board) c.in-Some.ensures),
      c.in_ok-replace_with.ensures.0 ∙ same,
    )

pub returns-clause-row : goal.returns-clause-row
returns-clause-row g c = subst (λ (k : Known). IsRowTo k.row k.newest) c.in_ok-shared.ensures.same c.in_ok-shared.ensures.row
