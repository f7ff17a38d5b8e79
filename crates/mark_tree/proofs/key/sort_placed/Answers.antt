use Rattle.std.proofs.Common.{rules}
use Rattle.std.proofs.lemmas.List.Sorted.{answers_always}
use Rattle.mark_tree.specs.Order.{key_of}
use Rattle.mark_tree.proofs.Order.{sorted-by_key}
use Rattle.mark_tree.proofs.key.sort_placed.Goals as goal

pub returns-clause-ok : goal.returns-clause-ok
returns-clause-ok g c =
    sorted-by_key c.args.things.now.items c.sort_by_key.new.self.items c.requires c.in_ok-sort_by_key.ensures.permutation
    (c.in_ok-sort_by_key.ensures.sorted key_of (answers_always _ _ _ (λ f a r g h. search rules)))
