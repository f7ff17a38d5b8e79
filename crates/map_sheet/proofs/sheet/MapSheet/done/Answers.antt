use Rattle.std.proofs.Common.{◌≡◌, ℕ, List, sym, subst}
use Rattle.cell_units.specs.Operation.{AddBlock, AddInlay}
use Rattle.cell_units.specs.Record.{Record}
use Rattle.plain_rows.specs.Reach.{WorksAtMost}
use Rattle.display_sheet.specs.declared.change.Op.{Op}
use Rattle.display_sheet.specs.Changes.{inlay_of, operation_of}
use Rattle.map_sheet.proofs.sheet.MapSheet.done.Goals as goal

-- what an operation takes, by what it is
as-it-is : {op other : Op} (r : Record) (old new : ℕ) → op ≡ other → WorksAtMost (operation_of other) r old new → WorksAtMost (operation_of op) r old new
as-it-is r old new is took = subst (λ (o : Op). WorksAtMost (operation_of o) r old new) (sym is) took

pub returns-in-Inlay-clause-steps : goal.returns-in-Inlay-clause-steps
returns-in-Inlay-clause-steps c =
    let o = c.in-Inlay in
    as-it-is c.args.self.now c.args.steps.now c.with_inlay.new.steps o.is
    (subst (λ (t : List ℕ). WorksAtMost (AddInlay (inlay_of o.id o.offset o.bias t)) c.args.self.now c.args.steps.now c.with_inlay.new.steps)
    c.as_str.ensures c.with_inlay.ensures.steps)

pub returns-in-Block-clause-steps : goal.returns-in-Block-clause-steps
returns-in-Block-clause-steps c =
    let o = c.in-Block in
    as-it-is c.args.self.now c.args.steps.now c.with_block.new.steps o.is
    (subst (λ (ls : List (List ℕ)). WorksAtMost (AddBlock o.row o.id o.side ls) c.args.self.now c.args.steps.now c.with_block.new.steps)
    c.as_slice.ensures.value c.with_block.ensures.steps)

pub returns-in-Uninlay-clause-steps : goal.returns-in-Uninlay-clause-steps
returns-in-Uninlay-clause-steps c = as-it-is c.args.self.now c.args.steps.now c.without_inlay.new.steps c.in-Uninlay.is c.without_inlay.ensures.steps

pub returns-in-Fold-clause-steps : goal.returns-in-Fold-clause-steps
returns-in-Fold-clause-steps c = as-it-is c.args.self.now c.args.steps.now c.with_fold.new.steps c.in-Fold.is c.with_fold.ensures.steps

pub returns-in-Unfold-clause-steps : goal.returns-in-Unfold-clause-steps
returns-in-Unfold-clause-steps c = as-it-is c.args.self.now c.args.steps.now c.without_fold.new.steps c.in-Unfold.is c.without_fold.ensures.steps

pub returns-in-Unblock-clause-steps : goal.returns-in-Unblock-clause-steps
returns-in-Unblock-clause-steps c = as-it-is c.args.self.now c.args.steps.now c.without_block.new.steps c.in-Unblock.is c.without_block.ensures.steps

pub returns-in-Tab-clause-steps : goal.returns-in-Tab-clause-steps
returns-in-Tab-clause-steps c = as-it-is c.args.self.now c.args.steps.now c.with_tab.new.steps c.in-Tab.is c.with_tab.ensures.steps
