use Rattle.std.proofs.Common.{◌≡◌, ◌≤◌, ap, subst, sym, ◌∙◌, arith, List}
use Rattle.std.specs.Arc.{arc_value}
use mathlib.Core.List.{IsPrefix}
use Rattle.display_map.specs.Versions.{Version}
use Rattle.display_map.specs.Replay.{versions_of}
use Rattle.version_board.specs.Known.{Known, GoesOn}
use Rattle.version_board.proofs.RowLemmas.{later, stays}
use Rattle.version_board.proofs.kept.Kept.take_in.Goals as goal

pub returns-then-number-clause-this : goal.returns-then-number-clause-this
returns-then-number-clause-this c =
    let mine : Known = record { board = c.self.inside.seen.book; row = c.self.inside.seen.log; newest = arc_value c.self.inside.version } in
    let theirs : Known = record { board = c.other.inside.seen.book; row = c.other.inside.seen.log; newest = arc_value c.other.inside.version } in
    let both = c.learn.new.self.log in
    let this : IsPrefix mine.row both = subst (λ (l : List Version). IsPrefix l both) (ap (λ s. s.log) c.again-both.ensures) c.learn.ensures.2 in
    let less : versions_of mine.newest.events ≤ versions_of theirs.newest.events =
    omega (arith, c.if-number.true, c.number.ensures, c.number-2.ensures, ap (λ (v : Version). versions_of v.events) c.deref.ensures, ap (λ (v : Version). versions_of v.events) c.deref-2.ensures) in
    let board : theirs.board ≡ mine.board = ap (λ k. k.board) c.other.view_is ∙ c.requires ∙ sym (ap (λ k. k.board) c.self.view_is) in
    subst (λ (k : Known). GoesOn k theirs) c.self.view_is (later mine theirs both c.self.invariant c.other.invariant board this c.learn.ensures.3 less)

pub returns-then-number-clause-that : goal.returns-then-number-clause-that
returns-then-number-clause-that c =
    let theirs : Known = record { board = c.other.inside.seen.book; row = c.other.inside.seen.log; newest = arc_value c.other.inside.version } in
    subst (λ (k : Known). GoesOn k theirs) c.other.view_is (stays theirs c.other.invariant)

pub returns-else-number-clause-this : goal.returns-else-number-clause-this
returns-else-number-clause-this c =
    let mine : Known = record { board = c.self.inside.seen.book; row = c.self.inside.seen.log; newest = arc_value c.self.inside.version } in
    subst (λ (k : Known). GoesOn k k) c.self.view_is (stays mine c.self.invariant)

pub returns-else-number-clause-that : goal.returns-else-number-clause-that
returns-else-number-clause-that c =
    let mine : Known = record { board = c.self.inside.seen.book; row = c.self.inside.seen.log; newest = arc_value c.self.inside.version } in
    let theirs : Known = record { board = c.other.inside.seen.book; row = c.other.inside.seen.log; newest = arc_value c.other.inside.version } in
    let both = c.learn.new.self.log in
    let this : IsPrefix mine.row both = subst (λ (l : List Version). IsPrefix l both) (ap (λ s. s.log) c.again-both.ensures) c.learn.ensures.2 in
    let less : versions_of theirs.newest.events ≤ versions_of mine.newest.events =
    omega (arith, c.if-number.false, c.number.ensures, c.number-2.ensures, ap (λ (v : Version). versions_of v.events) c.deref.ensures, ap (λ (v : Version). versions_of v.events) c.deref-2.ensures) in
    let board : mine.board ≡ theirs.board = sym (ap (λ k. k.board) c.other.view_is ∙ c.requires ∙ sym (ap (λ k. k.board) c.self.view_is)) in
    let goes : GoesOn theirs mine = later theirs mine both c.other.invariant c.self.invariant board c.learn.ensures.3 this less in
    subst (λ (k : Known). GoesOn k c.args.self.now) c.other.view_is (subst (GoesOn theirs) c.self.view_is goes)
