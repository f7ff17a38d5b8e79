use Rattle.std.proofs.lemmas.Bool.{le-ltb, lt-ltb}
use Rattle.std.proofs.Common.{arith}
use Rattle.std.specs.Prelude.{nat_lt}
use Rattle.cell_units.specs.Record.{fold_le}
use Rattle.cell_units.specs.Operation.{move_fold}
use Rattle.plain_rows.specs.Plain.{fold_of}
use Rattle.display_sheet.proofs.Entries.{dropped-at, kept-all, kept-at}
use Rattle.display_sheet.proofs.folds.moved.Goals as goal

pub returns : goal.returns
returns c =
    kept-all fold_of fold_le (λ f. nat_lt f.start f.end) (move_fold c.args.shift.start c.args.shift.end c.args.shift.count) c.args.folds.now c.loop-i.moved.items c.reverse.new.self.items c.loop-i.i (omega arith) c.reverse.ensures.items c.loop-i.invariant

pub loop-i-preserved-in-Continue-branch-2 : goal.loop-i-preserved-in-Continue-branch-2
loop-i-preserved-in-Continue-branch-2 c =
    kept-at fold_of fold_le (λ f. nat_lt f.start f.end) (λ z. move_fold c.args.shift.start c.args.shift.end c.args.shift.count (fold_of z)) c.args.folds.now c.loop-i.i c.loop-i.moved.items c.put_in.new.falling.items c.moved_one-fold.result _
    (omega arith) (omega arith) c.moved_one-fold.ensures (lt-ltb _ _ c.if-fold.true) c.loop-i.invariant c.in_ok-put_in.ensures

pub loop-i-preserved : goal.loop-i-preserved
loop-i-preserved c =
    dropped-at fold_of fold_le (λ f. nat_lt f.start f.end) (λ z. move_fold c.args.shift.start c.args.shift.end c.args.shift.count (fold_of z)) c.args.folds.now c.loop-i.i c.loop-i.moved.items c.moved_one-fold.result _
    (omega arith) (omega arith) c.moved_one-fold.ensures (le-ltb _ _ (omega (arith, c.if-fold.false))) c.loop-i.invariant
