use Rattle.test_split.proofs.After.{one_at_most}
use Rattle.test_split.proofs.splits.operate.Goals as goal

pub change-requires-clause-few : goal.change-requires-clause-few
change-requires-clause-few g c = one_at_most c.args.op
