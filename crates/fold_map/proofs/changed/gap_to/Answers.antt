use Rattle.fold_map.proofs.changed.gap_to.Goals as goal

pub overflow_sub-next : goal.overflow_sub-next
overflow_sub-next g c = (c.requires.next c.in-Some.next c.in-Some.is).behind

pub gap_between-requires-clause-end : goal.gap_between-requires-clause-end
gap_between-requires-clause-end g c κs h = (c.requires.next c.in-Some.next c.in-Some.is).boundary
