use Rattle.mark_tree.specs.Entries.{placed_at}
use Rattle.mark_tree.proofs.Grouped.{group-found}
use Rattle.mark_tree.proofs.spaced.Spaced.group_end.Goals as goal

pub returns-clause-group : goal.returns-clause-group
returns-clause-group g c =
    group-found c.args.self.now c.args.from c.first_at.result (placed_at c.in-Some.found.offset c.in-Some.found.entry.now) c.len-count.ensures.codable.spaced c.in-Some.ensures.found c.first_at.ensures.within c.first_at.ensures.before c.first_at.ensures.from
