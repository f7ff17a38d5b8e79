use Rattle.std.proofs.Common.{sym, ◌∙◌, arith}
use Rattle.fold_map.proofs.Refusals.{not-refused, refused-id, refused-many, refused-range}
use Rattle.fold_map.proofs.snapshot.FoldSnapshot.refusal_to_fold.Goals as goal

pub returns-then-has_id-clause-refusal : goal.returns-then-has_id-clause-refusal
returns-then-has_id-clause-refusal g c = refused-id c.args.self.now c.args.id c.args.start c.args.end (sym c.has_id.ensures.value ∙ c.if-has_id.true)

pub returns-then-not-is_range-clause-refusal : goal.returns-then-not-is_range-clause-refusal
returns-then-not-is_range-clause-refusal g c =
    refused-range c.args.self.now c.args.id c.args.start c.args.end (sym c.has_id.ensures.value ∙ c.if-has_id.false) (sym c.is_range.ensures ∙ c.if-not-is_range.true)

pub returns-then-count-ge-ENTRY_LIMIT-clause-refusal : goal.returns-then-count-ge-ENTRY_LIMIT-clause-refusal
returns-then-count-ge-ENTRY_LIMIT-clause-refusal g c =
    refused-many c.args.self.now c.args.id c.args.start c.args.end (sym c.has_id.ensures.value ∙ c.if-has_id.false) (sym c.is_range.ensures ∙ c.if-not-is_range.false) (omega arith)

pub returns-clause-refusal : goal.returns-clause-refusal
returns-clause-refusal g c =
    not-refused c.args.self.now c.args.id c.args.start c.args.end (sym c.has_id.ensures.value ∙ c.if-has_id.false) (sym c.is_range.ensures ∙ c.if-not-is_range.false) (omega arith)
