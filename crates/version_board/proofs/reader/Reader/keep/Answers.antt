use Rattle.std.proofs.Common.{subst}
use Rattle.version_board.specs.Known.{Known, GoesOn}
use Rattle.version_board.proofs.RowLemmas.{stays}
use Rattle.version_board.proofs.reader.Reader.keep.Goals as goal

pub returns-in_default-clause-this : goal.returns-in_default-clause-this
returns-in_default-clause-this c =
    subst (λ (k : Known). GoesOn k k) c.self.view_is (stays c.self.inside.kept c.self.invariant.0)
